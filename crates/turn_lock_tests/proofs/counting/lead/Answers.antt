use Rattle.std.proofs.Common.{◌+◌, ℕ, ap, ◌∙◌}
use Rattle.turn_lock_tests.proofs.counting.lead.Goals as goal

pub loop-preserved : goal.loop-preserved
loop-preserved g c = (c.get_back-value.ensures.served _ c.give.ensures ∙ ap (λ (n : ℕ). n + 1) c.loop.invariant.0, c.get_back-value.ensures.idle)
