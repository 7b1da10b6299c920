-- Lines that are read from a source: what is taken and not given yet, and what a call does to it.
use Rattle.std.specs.Prelude.{◌≡◌, ℕ, Bool, true, false, List, [], ◌∷◌, Option, None, Some, Result, Err, ⊤}
use Rattle.std.specs.Io.KnownBytes.{Keeps, IsAtEnd, prepend_known}
use Rattle.wol_model.specs.Trace.{TraceLine}
use Rattle.msr_trace.specs.declared.format.BadLine.{BadLine}
use Rattle.msr_trace.specs.declared.format.TraceFault.{TraceFault}
use Rattle.msr_trace.specs.declared.format.TraceFault.TheVariants as fault
use Rattle.msr_trace.specs.Lines.{lines_of, read_of}

-- what contracts see of the lines of a source
pub record Reading (S : Type 0) : Type 0 where
  -- the source with the bytes that weren't taken yet
  pub source : S
  -- the bytes that were taken and not given
  pub held : List ℕ
  -- how many lines were given
  pub given : ℕ
  -- no line was refused, and the source didn't fail
  pub live : Bool

-- the bytes that are to be given, where the source tells its own
abbrev pub pending : {S : Type 0} → (S → Option (List ℕ)) → Reading S → Option (List ℕ)
pending left r = prepend_known r.held (left r.source)

-- one line is taken off the front of known bytes, and this is what it reads as
abbrev pub TakesLine : Option (List ℕ) → Option (List ℕ) → Result (Option TraceLine) BadLine
    → Type 0
TakesLine None new read = ⊤
TakesLine (Some bytes) None read = ⊥
TakesLine (Some bytes) (Some rest) read =
    (text : List ℕ) × (lines_of bytes ≡ text ∷ lines_of rest) × (read_of text ≡ read)

-- the first line of known bytes is refused
abbrev pub RefusesLine : Option (List ℕ) → BadLine → Type 0
RefusesLine None why = ⊤
RefusesLine (Some bytes) why = (text : List ℕ) × (others : List (List ℕ))
    × (lines_of bytes ≡ text ∷ others) × (read_of text ≡ Err why)

-- nothing is left to give
pub record IsDone {S : Type 0} (left : S → Option (List ℕ)) (old new : Reading S) : Type 0 where
  pub none_held : new.held ≡ []
  pub at_end : IsAtEnd (left new.source)
  pub kept : Keeps (pending left old) (pending left new)
  pub given : new.given ≡ old.given

-- whether a refusal is for want of memory
abbrev pub is_no_memory : TraceFault → Bool
is_no_memory fault.NoMemory = true
is_no_memory fault.Source = false
is_no_memory (fault.Bad line why) = false
is_no_memory fault.Spent = false
