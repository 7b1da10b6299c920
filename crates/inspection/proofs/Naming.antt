-- The names of volumes and of loggers.
use Rattle.std.proofs.Common.{◌≡◌, ℕ, zero, suc, List, [], ◌∷◌, map, get_or, Some, ap, ◌∙◌}
use Rattle.std.specs.Prelude.{slice_get}
use Rattle.std.proofs.lemmas.Option.{get_or_from_slice_get, none-some, same_Some}
use Rattle.wol_config.specs.declared.config.VolumeConf.{VolumeConf}
use Rattle.wol_config.specs.Documents.{names_of}
use Rattle.report.specs.Names.{name_at}

-- what stands at a place of a mapped list
pub mapped_at : {X : Type 0} (f : X → List ℕ) (xs : List X) (k : ℕ) (x : X) → slice_get xs k ≡ Some x → name_at (map f xs) k ≡ f x
mapped_at f [] k x is = absurd (none-some x is)
mapped_at f (y ∷ xs) zero x is = ap f (same_Some y x is)
mapped_at f (y ∷ xs) (suc k) x is = mapped_at f xs k x is

-- the name of the volume at a place
pub name_of_volume : (vs : List VolumeConf) (k : ℕ) (v : VolumeConf) → slice_get vs k ≡ Some v → name_at (names_of vs) k ≡ v.name
name_of_volume vs k v is = mapped_at (λ (w : VolumeConf). w.name) vs k v is

-- what was read at a place is the element there
pub read_at : {X : Type 0} (xs : List X) (k : ℕ) (x y : X) → slice_get xs k ≡ Some x → y ≡ get_or xs k y → y ≡ x
read_at xs k x y is value = value ∙ get_or_from_slice_get xs k x y is
