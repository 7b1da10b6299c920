use Rattle.std.proofs.Common.{◌≡◌, true}
use Rattle.wol_model.specs.Index.{listed_in}
use Rattle.volume_parts.specs.Joining.{AreCoveredBehind, AreAsLong}
use Rattle.volume_parts.proofs.group.together.Given as goal

abbrev pub invariant-loop-place : goal.invariant-loop-place
invariant-loop-place l = record {
  away : l.home_up ≡ true → AreCoveredBehind (listed_in l.index.entries) l.items l.place;
  long : l.passed ≡ true → AreAsLong l.items l.place;
}
