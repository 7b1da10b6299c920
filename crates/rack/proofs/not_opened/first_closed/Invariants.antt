use Rattle.std.proofs.Common.{◌≡◌, drop}
use Rattle.rack.specs.NotOpened.{first_closed}
use Rattle.rack.proofs.not_opened.first_closed.Given as goal

abbrev pub invariant-loop-volume : goal.invariant-loop-volume
invariant-loop-volume l = first_closed 0 l.faults ≡ first_closed l.volume (drop l.volume l.faults)
