use Rattle.std.proofs.Common.{◌≡◌, ◌*◌, ◌≤◌, take}
use Rattle.report.specs.Summaries.{sleeps_of, units_of, wakes_of}
use Rattle.report.proofs.totals.sum_up.Given as goal

abbrev pub invariant-loop-used : goal.invariant-loop-used
invariant-loop-used l = record {
  wakes : l.wakes ≡ wakes_of (take l.used-index l.amounts);
  sleeps : l.sleeps ≡ sleeps_of (take l.used-index l.amounts);
  units : l.units ≡ units_of (take l.used-index l.amounts);
  wakes_fit : l.wakes ≤ l.used-index * 18446744073709551615;
  sleeps_fit : l.sleeps ≤ l.used-index * 18446744073709551615;
}
