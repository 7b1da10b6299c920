use Rattle.std.proofs.Common.{ℕ, ◌+◌, ◌*◌, ◌/◌, ap, ◌∙◌}
use Rattle.whatif.proofs.Counting.{late_told}
use Rattle.whatif.proofs.waits.Waits.late_ms.Goals as goal

pub returns : goal.returns
returns c = λ waits is.
    (λ i. (c.from.ensures i * c.from-2.ensures i + 9) / 10)
    ∙ ap (λ (n : ℕ). (n * (c.args.wake / 10000) + 9) / 10) (c.late.ensures ∙ late_told c.args.wake c.args.share waits c.args.self.now is)
