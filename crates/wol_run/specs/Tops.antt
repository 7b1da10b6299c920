-- What a run of the program leaves, by its exit status.
use Rattle.std.specs.Prelude.{◌≡◌, ℕ, ◌≤◌, ◌<◌, ◌⊎◌, List, Option, ◌^◌, ◌∷◌, length, Err}
use Rattle.std.specs.Io.KnownBytes.{Appends}
use Rattle.wol_disk.specs.Disk.{Block, Rose, Values}
use Rattle.wol_io.specs.Streams.{AppendsFront}
use Rattle.wol_bay.specs.Bay.{Told}
use Rattle.wol_model.specs.Trace.{Target, TraceLine}
use Rattle.msr_trace.specs.declared.format.BadLine.{BadLine}
use Rattle.solo.specs.Requests.{HasLines, LineRead}
use Rattle.solo.specs.declared.fault.Fault.{Fault}
use Rattle.solo.specs.declared.fault.Fault.TheVariants as fault
use Rattle.solo.specs.Images.{BeginsBlank, LeavesBy, PartCameBackFaulty, Stores}
use Rattle.solo.specs.Runs.{EndsBy, Prints}
use Rattle.wol_run.specs.Statuses.{bad_line_text, fault_text, no_memory_text, status_of}

-- a text was written at the end, or a front of it to a sink that failed
abbrev pub EndsWith : (text : List ℕ) → (wanted status : ℕ) → (printed new : Option (List ℕ))
    → Type 0
EndsWith text wanted status printed new =
    ((status ≡ wanted) × Appends printed new text) ⊎ ((status ≡ 7) × AppendsFront printed new text)

-- the line of want of memory was written so, at status 9
abbrev pub TellsNoMemory : (status : ℕ) → (printed new : Option (List ℕ)) → Type 0
TellsNoMemory status printed new = EndsWith no_memory_text 9 status printed new

-- Status 7 is that of a sink that failed: its count of faults rose, which never falls, and a count
-- that ends above where it began is told so.
pub record TellsSink (before after status : ℕ) : Type 0 where
  pub cause : status ≡ 7 → Rose before after
  pub later : before ≤ after
  pub calm : before < after → status ≡ 7

-- the line of a fault was written; where there was no memory for that of a bad line, that of want
-- of memory
abbrev pub TellsFault : Fault → (status : ℕ) → (printed new : Option (List ℕ)) → Type 0
TellsFault (fault.BadLine line why) status printed new =
    EndsWith (bad_line_text line why) 3 status printed new
    ⊎ TellsNoMemory status printed new
TellsFault fault.Bay status printed new = EndsWith (fault_text fault.Bay) 4 status printed new
TellsFault fault.Disk status printed new = EndsWith (fault_text fault.Disk) 4 status printed new
TellsFault fault.Sink status printed new = EndsWith (fault_text fault.Sink) 7 status printed new
TellsFault fault.Source status printed new = EndsWith (fault_text fault.Source) 8 status printed new
TellsFault fault.NoMemory status printed new = TellsNoMemory status printed new
TellsFault fault.Spent status printed new = EndsWith (fault_text fault.Spent) 10 status printed new

-- the status that is told of a fault
abbrev pub TellsStatus : Fault → (status : ℕ) → Type 0
TellsStatus e status = (status ≡ status_of e) ⊎ (status ≡ 7) ⊎ (status ≡ 9)

-- the counts of the bay and of the trace are as they were
abbrev pub AreCalm : (bay bay' source source' : ℕ) → Type 0
AreCalm bay bay' source source' = (bay' ≡ bay) × (source' ≡ source)

-- what a fault comes of: a count that rose, and of a failed call of the image's one part also that
-- the bay lists it; each other count is as it was
abbrev pub HasCause : Fault → (told told' : Option Told) → (bay bay' source source' : ℕ) → Type 0
HasCause fault.Bay told told' bay bay' source source' = Rose bay bay' × (source' ≡ source)
HasCause fault.Disk told told' bay bay' source source' =
    Rose bay bay' × PartCameBackFaulty told told' × (source' ≡ source)
HasCause fault.Source told told' bay bay' source source' = Rose source source' × (bay' ≡ bay)
HasCause fault.Sink told told' bay bay' source source' = AreCalm bay bay' source source'
HasCause fault.NoMemory told told' bay bay' source source' = AreCalm bay bay' source source'
HasCause fault.Spent told told' bay bay' source source' = AreCalm bay bay' source source'
HasCause (fault.BadLine line why) told told' bay bay' source source' =
    AreCalm bay bay' source source'

-- a run that was done: the whole text was printed, and the image is there
abbrev pub IsDone : Target → (trace : Option (List ℕ)) → (array : Option (List Block))
    → (told told' : Option Told) → (values : Option (List (Values Block))) → (status : ℕ)
    → (old new : Option (List ℕ)) → Type 0
IsDone target trace array told told' values status old new =
    (status ≡ 0) × Stores told told' values × Prints target trace array old new values

-- a run that a fault ended: what was printed before it, and then its line
abbrev pub IsFaulty : Fault → Target → (trace left : Option (List ℕ))
    → (array : Option (List Block)) → (told told' : Option Told)
    → (values : Option (List (Values Block))) → (status : ℕ) → (old new : Option (List ℕ)) → Type 0
IsFaulty e target trace left array told told' values status old new =
    LeavesBy e told told' values × (printed : Option (List ℕ))
    × EndsBy e target trace left array old printed values
    × EndsWith (fault_text e) (status_of e) status printed new

-- a run of `solo`: no call of the bay, of a part or of the trace failed where it was done
abbrev pub RunsSolo : Target → (trace left : Option (List ℕ)) → (told told' : Option Told)
    → (bay bay' source source' : ℕ) → (status : ℕ) → (old new : Option (List ℕ)) → Type 0
RunsSolo target trace left told told' bay bay' source source' status old new =
    (array : Option (List Block)) × BeginsBlank target told array
    × (values : Option (List (Values Block)))
    × (AreCalm bay bay' source source'
    × IsDone target trace array told told' values status old new
    ⊎ ((e : Fault) × HasCause e told told' bay bay' source source'
    × IsFaulty e target trace left array told told' values status old new))

-- a trace with a bad line, and one with more lines than are run
abbrev pub HasBadLine : (trace : Option (List ℕ)) → Type 0
HasBadLine trace =
    (lines : List (Option TraceLine)) × (why : BadLine) × (more : List LineRead)
    × HasLines trace lines (Err why ∷ more)

abbrev pub HasMoreLines : (trace : Option (List ℕ)) → Type 0
HasMoreLines trace =
    (lines : List (Option TraceLine)) × (next : LineRead) × (more : List LineRead)
    × HasLines trace lines (next ∷ more) × (length lines ≡ 2 ^ 32)

-- a trace that can be run to its end: it has no bad line, and no more lines than are run
pub record IsRunnable (trace : Option (List ℕ)) : Type 0 where
  pub good : ¬ HasBadLine trace
  pub few : ¬ HasMoreLines trace

-- done, or want of memory
abbrev pub IsDoneOrMemory : (status : ℕ) → Type 0
IsDoneOrMemory status = (status ≡ 0) ⊎ (status ≡ 9)
