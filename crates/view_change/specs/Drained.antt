-- What one turn in which a volume is drained adds to its history, and what its steps do one after
-- another.
use Rattle.std.specs.Prelude.{◌≡◌, ◌∷◌, ◌++◌, ℕ, Bool, false, List, [], None, Result, Ok, Err, IsTrue, IfOk, IfErr, OnOk}
use Rattle.wol_disk.specs.Disk.{State}
use Rattle.turn_lock.specs.Histories.{Entry, own, Begins}
use Rattle.turn_lock.specs.Passes.{pass_lock, pass_number, pass_seen, pass_mine, IsFree, IsSamePass}
use Rattle.wol_model.specs.History.{Operation, Kept, Broke}
use Rattle.wol_promise.specs.Policy.{Look, drained}
use Rattle.wol_promise.specs.Ruled.{Noted}
use Rattle.manager.specs.Causes.{NoneRose}
use Rattle.manager.specs.Reclaim.{OnTried, TellsStep}
use Rattle.manager.specs.Seen.{look_of_manager}
use Rattle.manager.specs.Stands.{Keeps, Stands, notes_of}
use Rattle.manager.specs.Stops.{Stops}
use Rattle.manager.specs.declared.base.ManagerBase.{ManagerBase}
use Rattle.manager.specs.declared.manager.Manager.{Manager}
use Rattle.manager.specs.declared.part.StepFault.{StepFault}
use Rattle.manager.specs.declared.part.StepFault.TheVariants.{DiskFault, Down}
use Rattle.reclaimer.specs.Drains.{HasDrained}
use Rattle.reclaimer.specs.declared.answers.Drain.{Drain}
use Rattle.reclaimer.specs.declared.answers.Drain.TheVariants.{Bare, Moved}
use Rattle.request_turns.specs.Counts.{IsTakenOff}
use Rattle.request_turns.specs.Entries.{note_of}
use Rattle.request_turns.specs.Turns.{ManagerPass, coded, notes_seen, WasDown, faulty_part}

-- ---- Steps

-- One step, by its answer. Stopped at any moment of it, every choice of images recovers to the
-- array that the manager stood for: the one of this beginning and these entries.
pub record IsSafeStep {D : Type 0} (tells : Bool) (state : D → State) (b : ManagerBase)
    (notes : List Noted) (old new : Manager D) (answer : Result Drain StepFault) : Type 0 where
  pub kept : Keeps tells state old b notes
  pub told : TellsStep state answer old new
  pub did : OnTried answer (HasDrained state old new answer)
  -- no call of a disk failed in a step that is done
  pub calm : OnOk answer (NoneRose state old new)
  pub any_moment : IsTrue tells → Stops state old new None b notes []

-- steps one after another, each of which moved something
pub data MovesTo {D : Type 0} (tells : Bool) (state : D → State) (b : ManagerBase)
    (notes : List Noted) (old : Manager D) : Manager D → Type 0 where
  begun : MovesTo tells state b notes old old
  moved : (mid new : Manager D) (blocks records : ℕ) → MovesTo tells state b notes old mid
      → IsSafeStep tells state b notes mid new (Ok (Moved blocks records))
      → MovesTo tells state b notes old new

-- what the last step answered, where the whole answers this
abbrev pub last_step : {T : Type 0} → Result T StepFault → Result Drain StepFault
last_step (Ok done) = Ok Bare
last_step (Err fault) = Err fault

-- Steps until no record is left, or until one is refused. Each moment of the whole lies in one of
-- them.
pub record Drains {D T : Type 0} (tells : Bool) (state : D → State) (b : ManagerBase)
    (notes : List Noted) (old new : Manager D) (answer : Result T StepFault) : Type 0 where
  pub mid : Manager D
  pub moves : MovesTo tells state b notes old mid
  pub last : IsSafeStep tells state b notes mid new (last_step answer)

-- ---- The turn

-- the entry: nothing of the array changes, and nothing is in flight where a call of a disk failed
abbrev pub drain_operation : {T : Type 0} → Result T StepFault → Operation
drain_operation (Ok done) = Kept
drain_operation (Err (DiskFault p)) = Broke []
drain_operation (Err (Down p)) = Kept

-- with its look; it follows no rule of the policy, since it wakes disks that no request asked for
abbrev pub drain_note : (pass : ℕ) → Operation → Look → Noted
drain_note pass operation look = record (note_of pass operation look [] false) { ruled = false }

-- so many blocks were put home and so many records are gone; a count stands still at its type's end
abbrev pub TakesAll : (l m : Look) → ℕ × ℕ → Type 0
TakesAll l m counts = IsTakenOff (record { blocks = counts.0; records = counts.1 }) l m

-- One turn, in which the volume was drained.
pub record HasDrainedAll {D : Type 0} (tells : Bool) (state : D → State) (p q : ManagerPass D)
    (answer : Result (ℕ × ℕ) StepFault) : Type 0 where
  pub same : IsSamePass p q
  pub free : IsFree q
  -- one entry more than those before, which the pass had seen or others had made
  pub before : List Entry
  pub begins : Begins (pass_seen p) before
  pub others : own (pass_number p) before ≡ pass_mine p
  pub note : Noted
  pub is_note : note ≡ drain_note (pass_number p) (drain_operation answer) note.look
  pub seen : pass_seen q ≡ before ++ coded note ∷ []
  pub mine : pass_mine q ≡ pass_mine p ++ coded note ∷ []
  -- the manager before and behind it
  pub from : Manager D
  pub to : Manager D
  pub stood : Stands tells state from (pass_lock p).base (notes_of before)
  pub drains : Drains tells state (pass_lock p).base (notes_of before) from to answer
  pub stands : Stands tells state to (pass_lock p).base (notes_of before ++ note ∷ [])
  -- at Ok no record is left, and all disks that had one are awake
  pub bare : OnOk answer ((to.index.entries ≡ []) × (note.look ≡ drained (look_of_manager from)))
  pub counts : IfOk answer (TakesAll (look_of_manager from) note.look)
  -- refused as a step is: as down where it was down, and else where a call of a disk failed; the
  -- part that it names is down behind the entry
  pub cause : IfErr answer (λ f. WasDown (faulty_part f) (notes_seen q))
