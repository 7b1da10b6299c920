use Rattle.std.proofs.Common.{◌≡◌, ◌++◌, take}
use Rattle.report.specs.Names.{printed_names}
use Rattle.report.specs.Summaries.{volumes_text}
use Rattle.report.proofs.totals.put_disks.Given as goal

abbrev pub invariant-loop-number : goal.invariant-loop-number
invariant-loop-number l = l.out.items ≡ l.initial.out.items ++ volumes_text (take l.number (printed_names l.volumes)) (take l.number l.amounts)
