use Rattle.std.proofs.Common.{◌≡◌, ◌≤◌, ◌^◌, drop}
use Rattle.manager_recovery.specs.Scanned.{next_of}
use Rattle.manager_recovery.proofs.filling.next_version.Given as goal

abbrev pub invariant-loop-scan : goal.invariant-loop-scan
invariant-loop-scan l = record {
  least : 1 ≤ l.next;
  most : l.next ≤ 2 ^ 63;
  same : next_of l.next (drop l.scan-index l.scans) ≡ next_of 1 l.scans;
}
