-- The line tells what was told of the waits.
use Rattle.std.proofs.Common.{◌≡◌, ◌++◌, ℕ, List, subst}
use Rattle.std.specs.Prelude.{OnOk}
use Rattle.whatif.proofs.Counting.{line_told}
use Rattle.whatif.proofs.lines.waits_line.Goals as goal

pub returns-clause-ok : goal.returns-clause-ok
returns-clause-ok c = λ ws is.
    subst (λ (l : List ℕ). OnOk c.append_line.result (c.append_line.new.out.items ≡ c.args.out.now.items ++ l))
    (line_told c.args.policy c.args.kind c.args.wake ws c.args.waits.now c.name_of.result.now c.kind_of.result.now c.waiting.result c.late_ms.result c.late_ms-2.result is c.name_of.ensures c.kind_of.ensures c.waiting.ensures (c.late_ms.ensures ws is) (c.late_ms-2.ensures ws is))
    c.append_line.ensures.ok
