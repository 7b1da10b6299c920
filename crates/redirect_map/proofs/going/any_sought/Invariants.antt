use Rattle.std.proofs.Common.{◌≡◌, ◌<◌, ◌+◌, nat_eq, ℕ, false}
use Rattle.std.specs.HashMap.{get}
use Rattle.redirect_map.specs.Marked.{sought_of}
use Rattle.redirect_map.proofs.going.any_sought.Given as goal

-- none of the blocks so far
abbrev pub invariant-loop-i : goal.invariant-loop-i
invariant-loop-i l = (k : ℕ) → k < l.i → sought_of l.sought l.entry (l.entry.record.lbn + k) (get nat_eq l.blocks (l.entry.record.lbn + k)) ≡ false
