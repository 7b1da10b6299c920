-- Laws of a spindle's uses and operations.
use Rattle.std.specs.Prelude.{◌≡◌, ◌≤◌, ◌==◌, ℕ, List, [], ◌∷◌, ◌++◌}
use Rattle.std.specs.List.{list_any}
use Rattle.turn_lock.specs.Histories.{Entry, own, AreNumberedBelow}
use Rattle.wol_model.specs.Journal.{Use, IsJournal, needs_after}
use Rattle.spin_model.specs.declared.spindle.SpindleBase.{SpindleBase}
use Rattle.spin_model.specs.Operations.{operation_of, use_of, has_token}
use Rattle.spin_model.specs.Spindles.{SpindleView, StandsFor, state_after}

-- the numbers of a use are read back as that use, so no two uses have the same
abbrev pub OperationsDiffer : Type 0
OperationsDiffer = (u : Use) → use_of (operation_of u) ≡ u

-- a pass has a token after a Needed, and none after a Done; other uses change nothing of it
abbrev pub TokenAfterUse : Type 0
TokenAfterUse = (entries : List Entry) (pass : ℕ) (u : Use)
    → has_token (entries ++ (pass, operation_of u) ∷ []) ≡ needs_after (has_token entries) (u ∷ [])

-- whether a pass has a token follows from its own entries
abbrev pub TokenByOwnEntries : Type 0
TokenByOwnEntries = (b : SpindleBase) (entries : List Entry) (pass : ℕ)
    → list_any (λ p. p == pass) (state_after b entries).needing ≡ has_token (own pass entries)

-- no more tokens are out than there are passes
abbrev pub FewTokens : Type 0
FewTokens = (s : SpindleView) (b : SpindleBase) (entries : List Entry) (passes : ℕ)
    → StandsFor s b entries → AreNumberedBelow passes entries → s.out ≤ passes

-- the journal of a spindle's entries is one, from the start of the account to any later moment
abbrev pub JournalIsLegal : Type 0
JournalIsLegal = (s : SpindleView) (b : SpindleBase) (entries : List Entry) (to : ℕ)
    → StandsFor s b entries → s.moment ≤ to
    → IsJournal (state_after b entries).from (state_after b entries).journal to
