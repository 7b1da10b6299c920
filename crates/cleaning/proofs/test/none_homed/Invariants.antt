use Rattle.std.proofs.Common.{◌≡◌, ◌<◌, ℕ, false, Some}
use Rattle.std.specs.Prelude.{slice_get}
use Rattle.wol_model.specs.Index.{Indexed, is_homed}
use Rattle.cleaning.proofs.test.none_homed.Given as goal

abbrev pub invariant-loop-place : goal.invariant-loop-place
invariant-loop-place l = (k : ℕ) (e : Indexed) → k < l.place → slice_get l.index.entries k ≡ Some e → (b : ℕ) → is_homed e.listed b ≡ false
