use Rattle.rack.proofs.Basics.{◌≡◌, ◌<◌, ℕ, get_or}
use Rattle.rack.proofs.Terms.{Owned}
use Rattle.rack.proofs.missing.segment_of.Given as goal

-- none of the heads before is one of the owner
abbrev pub invariant-loop-index : goal.invariant-loop-index
invariant-loop-index l = (j : ℕ) → j < l.index → get_or l.heads j (Owned l.owner) ≡ Owned l.owner → ⊥
