use Rattle.replay.proofs.Basics.{◌≡◌, ◌≤◌, ◌*◌, take, length, vec_capacity}
use Rattle.replay.proofs.Terms.{units_of, all_amounts}
use Rattle.replay.proofs.printing.amounts_of.Given as goal

abbrev pub invariant-loop-spindle : goal.invariant-loop-spindle
invariant-loop-spindle l = record {
  so_far : l.amounts.items ≡ all_amounts l.powers l.counted.started l.counted.ended (take l.spindle-index l.spindles);
  units : units_of l.amounts.items ≤ l.spindle-index * 1329227995784915872903807060280344576;
  room : length l.spindles ≤ vec_capacity l.amounts;
}
