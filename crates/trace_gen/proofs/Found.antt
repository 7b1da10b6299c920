-- A line belongs to the volume that its first word chose.
use Rattle.std.proofs.Common.{◌≡◌, ◌≢◌, ℕ, ◌%◌, ◌==◌, ◌&&◌, ◌<◌, ◌≤◌, Bool, true, false, List, Some, length, get_or, refl, inl, inr, arith}
use Rattle.std.specs.List.{position, position_or_len}
use Rattle.std.specs.Str.{bytes_eq}
use Rattle.std.proofs.lemmas.Bool.{cases_Bool, lt-ltb, ne_eqb}
use Rattle.std.proofs.lemmas.Bool.Decides.{eqb_tells}
use Rattle.std.proofs.lemmas.List.{length-map}
use Rattle.std.proofs.lemmas.List.Sums.{position_or_len_is}
use Rattle.std.proofs.lemmas.Slice.Eq.{bytes_eq-Decides}
use Rattle.wol_model.specs.Trace.{Target}
use Rattle.wol_config.specs.declared.config.Config.{Config}
use Rattle.wol_config.specs.Configs.{IsValid}
use Rattle.trace_gen.specs.Generated.{line, target_of, targets_of, words_of}
use Rattle.trace_gen.specs.Laws.{LinesHaveVolumes}
use Rattle.trace_gen.proofs.Fair.{in_range, no_volume, target_at}

-- the test by which a volume has a line
abbrev has : Target → (host : List ℕ) → (disk : ℕ) → Bool
has t host disk = bytes_eq t.host host && t.disk == disk

has_own : (t : Target) → has t t.host t.disk ≡ true
has_own t = rw ((bytes_eq-Decides t.host t.host).1 refl) (elim (eqb_tells t.disk t.disk) [ inl same ↦ same.0 | inr other ↦ absurd (other.1 refl) ])

has_not : (t u : Target) → (t.host ≡ u.host → t.disk ≢ u.disk) → has t u.host u.disk ≡ false
has_not t u apart = elim (cases_Bool (bytes_eq t.host u.host)) [
  | inl same ↦ rw same (ne_eqb t.disk u.disk (apart ((bytes_eq-Decides t.host u.host).0 same)))
  | inr other ↦ rw other refl
]

-- the first volume that has the host and disk of volume i is volume i
first : (config : Config) (i : ℕ) (d : Target) → IsValid config → i < length config.volumes.items
    → position_or_len (λ t. has t (get_or (targets_of config) i d).host (get_or (targets_of config) i d).disk) (targets_of config) ≡ i
first config i d valid h =
    let targets : List Target = targets_of config in
    let u : Target = get_or targets i d in
    let here : i ≤ length targets = omega (arith, h, length-map config.volumes.items target_of) in
    position_or_len_is (λ t. has t u.host u.disk) targets i d here (λ k before. has_not (get_or targets k d) u (others k before)) (λ _. has_own u)
  where
    others : (k : ℕ) → k < i → (get_or (targets_of config) k d).host ≡ (get_or (targets_of config) i d).host → (get_or (targets_of config) k d).disk ≢ (get_or (targets_of config) i d).disk
    others k before =
        let apart = valid.apart k i no_volume before h in
        rw (target_at config k d (omega (arith, before, h)), target_at config i d h) apart.disks

found : (config : Config) (i : ℕ) (d : Target) → IsValid config → i < length config.volumes.items
    → position (λ t. has t (get_or (targets_of config) i d).host (get_or (targets_of config) i d).disk) (targets_of config) ≡ Some i
found config i d valid h =
    let here : i < length (targets_of config) = omega (arith, h, length-map config.volumes.items target_of) in
    rw (first config i d valid h, lt-ltb i (length (targets_of config)) here) refl

pub lines_have_volumes : LinesHaveVolumes
unfolding line
lines_have_volumes config seed n valid =
    found config ((words_of seed n).volume % length (targets_of config)) _ valid (in_range config (words_of seed n).volume valid)
