use Rattle.std.proofs.Common.{◌≤◌, ◌-◌, length, take}
use Rattle.wol_disk.specs.Disk.{bytes_of}
use Rattle.nbd_session.specs.Ranges.{HasWritten}
use Rattle.nbd_session.specs.Turns.{StaysReady}
use Rattle.nbd_session.proofs.ranges.write_blocks.Given as goal

abbrev pub invariant-loop-done : goal.invariant-loop-done
invariant-loop-done g l = record {
  within : l.done ≤ l.count;
  stays : StaysReady g.V.Volume.Ready g.V.Volume.home g.V.Volume.most l.initial.volume l.volume;
  written : HasWritten g.V.Volume.Turned (g.V.Volume.most l.initial.volume) l.at (length l.blocks) l.initial.volume l.done (bytes_of (take l.done l.blocks)) l.volume;
}

abbrev pub decreases-loop-done : goal.decreases-loop-done
decreases-loop-done g l = l.count - l.done
