use Rattle.std.proofs.Common.{◌≡◌, ℕ, take}
use Rattle.std.specs.Prelude.{◌==◌, not, filter}
use Rattle.view_change.proofs.changing.without_logger.Given as goal

abbrev pub invariant-loop-other : goal.invariant-loop-other
invariant-loop-other l = l.others.items ≡ filter (λ (other : ℕ). not (other == l.id)) (take l.other-index l.ids)
