use Rattle.std.proofs.Common.{◌-◌, ◌≡◌}
use Rattle.std.specs.Prelude.{vec_len}
use Rattle.inspection.proofs.Digesting.{HasDigested}
use Rattle.inspection.proofs.digest.digest_of.Given as goal

abbrev pub invariant-reading : goal.invariant-reading
invariant-reading g l = record {
  digested : HasDigested g.D.Disk.tells g.D.Disk.state l.shared l.initial.manager l.manager l.at l.hasher;
  room : vec_len l.piece ≡ l.most;
}

abbrev pub decreases-reading : goal.decreases-reading
decreases-reading g l = l.blocks - l.at
