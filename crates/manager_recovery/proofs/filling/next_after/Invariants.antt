use Rattle.std.proofs.Common.{◌≡◌, ◌≤◌, ◌^◌, drop}
use Rattle.manager_recovery.specs.Scanned.{next_found}
use Rattle.manager_recovery.proofs.filling.next_after.Given as goal

abbrev pub invariant-loop-one : goal.invariant-loop-one
invariant-loop-one l = record {
  least : 1 ≤ l.next;
  most : l.next ≤ 2 ^ 63;
  same : next_found l.next (drop l.one-index l.found) ≡ next_found l.fn.next l.found;
}
