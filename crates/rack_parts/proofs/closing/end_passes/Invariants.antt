use Rattle.rack_parts.proofs.Basics.{◌≡◌, [], vec_len, All}
use Rattle.rack_parts.proofs.closing.end_passes.Given as goal

-- the lists that are left have no segment
abbrev pub invariant-loop-held : goal.invariant-loop-held
invariant-loop-held g l = record { empty : All (λ p. All (λ list. list.items ≡ []) p.held.items) l.passes.items }

abbrev pub decreases-loop-held : goal.decreases-loop-held
decreases-loop-held g l = vec_len l.passes

abbrev pub invariant-loop-list : goal.invariant-loop-list
invariant-loop-list g l = record { empty : All (λ list. list.items ≡ []) l.held.items }

abbrev pub decreases-loop-list : goal.decreases-loop-list
decreases-loop-list g l = vec_len l.held
