use Rattle.std.proofs.Common.{◌≤◌, ◌-◌, ◌*◌, take}
use Rattle.nbd_session.specs.Ranges.{HasRead}
use Rattle.nbd_session.specs.Turns.{StaysReady}
use Rattle.nbd_session.proofs.ranges.read_range.Given as goal

abbrev pub invariant-loop-done : goal.invariant-loop-done
invariant-loop-done g l = record {
  within : l.done ≤ l.count;
  stays : StaysReady g.V.Volume.Ready g.V.Volume.home g.V.Volume.most l.initial.volume l.volume;
  read : HasRead g.V.Volume.Turned (g.V.Volume.most l.initial.volume) l.at l.count l.initial.volume l.done (take (512 * l.done) l.bytes) l.volume;
}

abbrev pub decreases-loop-done : goal.decreases-loop-done
decreases-loop-done g l = l.count - l.done
