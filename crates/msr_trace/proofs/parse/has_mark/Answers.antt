use Rattle.std.proofs.Common.{◌≡◌, ◌==◌, ◌||◌, false, ◌∙◌, sym}
use Rattle.std.specs.List.{list_any}
use Rattle.msr_trace.specs.Lines.{is_mark}
use Rattle.msr_trace.proofs.Marks.{either_kind}
use Rattle.msr_trace.proofs.parse.has_mark.Goals as goal

pub returns-else-contains : goal.returns-else-contains
returns-else-contains c =
    let none : list_any (λ b. b == 34) c.args.body.now ≡ false = sym c.contains.ensures.value ∙ c.if-contains.false in
    let both : (list_any (λ b. b == 34) c.args.body.now || list_any (λ b. b == 13) c.args.body.now) ≡ list_any is_mark c.args.body.now = either_kind (λ b. b == 34) (λ b. b == 13) c.args.body.now in
    c.contains-else-contains.ensures.value ∙ rw none at both
