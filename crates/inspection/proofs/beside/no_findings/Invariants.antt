use Rattle.std.proofs.Common.{◌≡◌, length}
use Rattle.inspection.specs.Findings.{AreEmpty}
use Rattle.inspection.proofs.beside.no_findings.Given as goal

abbrev pub invariant-loop-made : goal.invariant-loop-made
invariant-loop-made l = record {
  count : length l.findings.items ≡ l.made;
  empty : AreEmpty l.findings.items;
}
