-- How the last line of a run was left.
use Rattle.std.specs.Prelude.{ℕ, List, Option, Result, MatchResult}
use Rattle.std.specs.Io.KnownBytes.{Appends, Keeps}
use Rattle.wol_io.specs.Streams.{AppendsFront}
use Rattle.solo.specs.declared.fault.Fault.{Fault}
use Rattle.solo.specs.declared.fault.Fault.TheVariants as fault

-- only the sink or want of memory is in its way
abbrev pub SummedBy : Fault → (old new : Option (List ℕ)) → (text : List ℕ) → Type 0
SummedBy fault.Sink old new text = AppendsFront old new text
SummedBy fault.NoMemory old new text = Keeps old new
SummedBy fault.Bay old new text = ⊥
SummedBy fault.Disk old new text = ⊥
SummedBy (fault.BadLine line why) old new text = ⊥
SummedBy fault.Spent old new text = ⊥
SummedBy fault.Source old new text = ⊥

abbrev pub SumsUp : {T : Type 0} → Result T Fault → (old new : Option (List ℕ)) → (text : List ℕ)
    → Type 0
SumsUp result old new text =
    MatchResult result (λ _. Appends old new text) (λ e. SummedBy e old new text)
