-- The names of volumes by their numbers, for callers.
use Rattle.std.proofs.Common.{◌≡◌, ℕ, zero, suc, ◌<◌, List, [], ◌∷◌, length, get_or, refl, ap, arith}
use Rattle.std.proofs.lemmas.List.{get_or-map, length-map}
use Rattle.wol_config.specs.declared.config.VolumeConf.{VolumeConf}
use Rattle.report.specs.Names.{name_at, printed_names}

-- there are as many names as volumes
pub length-printed_names : (volumes : List VolumeConf) → 0 < length volumes → length (printed_names volumes) ≡ length volumes
length-printed_names [] some = absurd (omega arith)
length-printed_names (v ∷ volumes) some = length-map (v ∷ volumes) (λ (w : VolumeConf). w.name)

-- a volume has a name
pub is_named : (volumes : List VolumeConf) (number : ℕ) → number < length volumes → number < length (printed_names volumes)
is_named volumes number within = rw (length-printed_names volumes (omega arith)) within

-- the name of a volume
pub name_at-printed_names : (volumes : List VolumeConf) (number : ℕ) (d : VolumeConf) → number < length volumes
    → name_at (printed_names volumes) number ≡ (get_or volumes number d).name
name_at-printed_names [] number d within = absurd (omega arith)
name_at-printed_names (v ∷ volumes) number d within = get_or-map (λ (w : VolumeConf). w.name) (v ∷ volumes) number d [] within
