use Rattle.rack_parts.proofs.Basics.{vec_len, All}
use Rattle.rack_parts.proofs.Terms.{IsWholeLock}
use Rattle.rack_parts.proofs.locks.end_spindles.Given as goal

-- each lock that is left has all of its passes
abbrev pub invariant-loop-lock : goal.invariant-loop-lock
invariant-loop-lock l = record { whole : All (λ i. IsWholeLock i) l.made.items }

abbrev pub decreases-loop-lock : goal.decreases-loop-lock
decreases-loop-lock l = vec_len l.made
