use Rattle.std.proofs.Common.{◌≡◌, ◌≤◌, take}
use Rattle.log_scan.specs.Adopted.{count_kept}
use Rattle.log_scan.proofs.adopted.count_valid.Given as goal

abbrev pub invariant-loop-one : goal.invariant-loop-one
invariant-loop-one l = record {
  few : l.valid ≤ l.one-index;
  told : l.valid ≡ count_kept (take l.one-index l.found);
}
