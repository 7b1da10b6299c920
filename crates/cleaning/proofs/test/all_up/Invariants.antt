use Rattle.std.proofs.Common.{◌≡◌, ◌<◌, ℕ, Bool, true, Some}
use Rattle.std.specs.Prelude.{slice_get}
use Rattle.cleaning.proofs.test.all_up.Given as goal

abbrev pub invariant-loop-place : goal.invariant-loop-place
invariant-loop-place l = (k : ℕ) (up : Bool) → k < l.place → slice_get l.ups k ≡ Some up → up ≡ true
