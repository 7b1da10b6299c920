-- What turns of a manager's lock add to a pass: entries with their notes.
use Rattle.std.specs.Prelude.{⊤, ◌≡◌, ◌⊎◌, ◌∷◌, ◌++◌, ℕ, Bool, true, false, List, [], Option, None, Some, map, is_some, IsTrue}
use Rattle.std.specs.List.{AllByRecursion}
use Rattle.turn_lock.specs.Histories.{Entry, own, Begins}
use Rattle.turn_lock.specs.Passes.{pass_lock, pass_number, pass_seen, pass_mine, value_of, IsPassOf, IsFree, IsInTurn, IsInTurnWith, IsSamePass}
use Rattle.turn_lock.specs.declared.lock.TurnLock.{TurnLock}
use Rattle.turn_lock.specs.declared.pass.PassOf.{PassOf}
use Rattle.wol_disk.specs.Disk.{State}
use Rattle.wol_model.specs.Blocks.{Write}
use Rattle.wol_model.specs.History.{Kept, worker, flight_of, IsHelp}
use Rattle.wol_promise.specs.Code.{code_of, no_note}
use Rattle.wol_promise.specs.Manager.{Base}
use Rattle.wol_promise.specs.Policy.{Look}
use Rattle.wol_promise.specs.Ruled.{Noted, IsDrained, entries_of, last_look}
use Rattle.wol_promise.specs.Stands.{HasHistory}
use Rattle.manager.specs.Seen.{look_of_manager, name_of}
use Rattle.manager.specs.Stands.{Stands, notes_of, passed_in}
use Rattle.manager.specs.declared.base.ManagerBase.{ManagerBase}
use Rattle.manager.specs.declared.manager.Manager.{Manager}
use Rattle.manager.specs.declared.part.Part.{Part}
use Rattle.manager.specs.declared.part.StepFault.{StepFault}
use Rattle.manager.specs.declared.part.StepFault.TheVariants as fault

-- a pass of a manager's lock
abbrev pub ManagerPass : Type 0 → Type 0
ManagerPass D = PassOf (Manager D) ManagerBase

-- an entry with its notes, as the lock's history has it
abbrev pub coded : Noted → Entry
coded n = (n.entry.pass, code_of n)

-- what the manager under its lock began with
abbrev pub began : {D : Type 0} → ManagerPass D → Base
began p = (pass_lock p).base.volume.began

-- the entries that it has seen
abbrev pub notes_seen : {D : Type 0} → ManagerPass D → List Noted
notes_seen p = notes_of (pass_seen p)

-- what is known of the volume behind them
abbrev pub look_seen : {D : Type 0} → ManagerPass D → Look
look_seen p = last_look (began p).look (notes_seen p)

-- what is known of a manager, or nothing where there is none
abbrev pub look_or_nothing : {D : Type 0} → Option (Manager D) → Look
look_or_nothing None = (no_note 0).look
look_or_nothing (Some m) = look_of_manager m

-- what is known of the manager of a turn that keeps it in its place
abbrev pub look_in_place : {D : Type 0} → ManagerPass D → Look
look_in_place p = look_or_nothing (value_of p)

-- the pools that it found empty in its last write
abbrev pub passed_or_none : {D : Type 0} → Option (Manager D) → List ℕ
passed_or_none None = []
passed_or_none (Some m) = passed_in m.rooms.items

abbrev pub passed_in_place : {D : Type 0} → ManagerPass D → List ℕ
passed_in_place p = passed_or_none (value_of p)

-- .. and behind a drain those of the note of the refusal before it
abbrev pub passed_by : {D : Type 0} → (drained : Bool) → (refused : Noted) → ManagerPass D → List ℕ
passed_by true refused p = refused.passed
passed_by false refused p = passed_in_place p

-- its next version
abbrev pub next_or_none : {D : Type 0} → Option (Manager D) → ℕ
next_or_none None = 0
next_or_none (Some m) = m.next

abbrev pub next_in_place : {D : Type 0} → ManagerPass D → ℕ
next_in_place p = next_or_none (value_of p)

-- a disk call of the volume failed
abbrev pub IsBroken : List Noted → Type 0
IsBroken notes = is_some (flight_of (entries_of notes)) ≡ true

-- behind one of these entries this part was down, since a disk call had failed in it or before it
pub record WasDown (p : Part) (notes : List Noted) : Type 0 where
  pub front : List Noted
  pub note : Noted
  pub later : List Noted
  pub notes_are : notes ≡ front ++ note ∷ later
  pub broken : IsBroken (front ++ note ∷ [])
  pub down : note.look.down ≡ Some (name_of p)

-- the part that a refused step names
abbrev pub faulty_part : StepFault → Part
faulty_part (fault.DiskFault p) = p
faulty_part (fault.Down p) = p

-- what the pass has seen is a legal history whose ruled entries follow the rules, and its own
-- entries are those with its number
pub record IsHonest {D : Type 0} (tells : Bool) (p : ManagerPass D) : Type 0 where
  pub history : HasHistory (IsTrue tells) (began p) (notes_seen p)
  pub mine : own (pass_number p) (pass_seen p) ≡ pass_mine p

-- a pass in a turn leaves it with this entry
pub record HasLeft {D : Type 0} (tells : Bool) (n : Noted) (p q : ManagerPass D) : Type 0 where
  pub same : IsSamePass p q
  pub free : IsFree q
  pub number : n.entry.pass ≡ pass_number p
  pub seen : pass_seen q ≡ pass_seen p ++ coded n ∷ []
  pub mine : pass_mine q ≡ pass_mine p ++ coded n ∷ []
  pub history : HasHistory (IsTrue tells) (began q) (notes_seen q)

-- a pass of the lock in a turn
pub record IsInTurnAt {D : Type 0} (l : TurnLock (Manager D) ManagerBase) (p : ManagerPass D) :
    Type 0 where
  pub own : IsPassOf l p
  pub turn : IsInTurn p

-- The turn of this manager ended with this entry. The part that the manager names as down was down
-- behind one of the entries up to this one.
pub record HasLeftWith {D : Type 0} (tells : Bool) (n : Noted) (m : Manager D)
    (p q : ManagerPass D) : Type 0 where
  pub left : HasLeft tells n p q
  pub broken : (d : Part) → m.down ≡ Some d → WasDown d (notes_seen q)

-- the manager of a turn that keeps it in its place stands for this entry too
abbrev pub StandsInPlace : {D : Type 0} → Bool → (D → State) → Noted → ManagerPass D → Type 0
StandsInPlace {D} tells state n p = (m : Manager D) × IsInTurnWith m p
    × Stands tells state m (pass_lock p).base (notes_seen p ++ n ∷ [])

-- Such a turn ended with this entry. Where the manager names a part as down, that part was down
-- behind one of the entries up to this one; where it names none, no disk call had failed.
pub record HasLeftInPlace {D : Type 0} (tells : Bool) (n : Noted) (p q : ManagerPass D) :
    Type 0 where
  pub left : HasLeft tells n p q
  pub broken : (m : Manager D) (d : Part) → IsInTurnWith m p → m.down ≡ Some d
      → WasDown d (notes_seen q)
  pub unbroken : (m : Manager D) → IsInTurnWith m p → m.down ≡ None → IsBroken (notes_seen q) → ⊥

-- one turn of a pass, behind these entries: it adds this entry, which is ruled
pub record HasTurned {D : Type 0} (tells : Bool) (p q : ManagerPass D) (before : List Entry)
    (n : Noted) : Type 0 where
  pub same : IsSamePass p q
  pub free : IsFree q
  pub begins : Begins (pass_seen p) before
  pub others : own (pass_number p) before ≡ pass_mine p
  pub number : n.entry.pass ≡ pass_number p
  pub seen : pass_seen q ≡ before ++ coded n ∷ []
  pub mine : pass_mine q ≡ pass_mine p ++ coded n ∷ []
  pub ruled : IsTrue n.ruled
  pub history : HasHistory (IsTrue tells) (began q) (notes_seen q)

-- any number of turns: these entries were added, and these were seen
pub record Gains {D : Type 0} (tells : Bool) (p q : ManagerPass D) (more : List Entry)
    (notes : List Noted) : Type 0 where
  pub same : IsSamePass p q
  pub free : IsFree q
  pub seen : pass_seen q ≡ pass_seen p ++ more
  pub mine : pass_mine q ≡ pass_mine p ++ map coded notes
  pub numbers : AllByRecursion (λ (n : Noted). n.entry.pass ≡ pass_number p) notes
  pub ruled : AllByRecursion (λ (n : Noted). IsTrue n.ruled) notes
  pub honest : IsHonest tells p → IsHonest tells q

-- ---- Looks

-- an entry leaves the look as it was, or its turn drained for a write that lacked memory then
abbrev pub Stays : (lacked : Write → Type 0) → Look → Noted → Type 0
Stays lacked l n = (n.look ≡ l) ⊎ ((w : Write) × lacked w × IsDrained n.passed l w n.look)

-- each Kept of the worker does so
abbrev pub KeptStay : (lacked : Write → Type 0) → Look → List Noted → Type 0
KeptStay lacked l [] = ⊤
KeptStay lacked l (n ∷ notes) =
    (n.entry.pass ≡ worker → n.entry.operation ≡ Kept → Stays lacked l n)
    × KeptStay lacked n.look notes

-- so do the entries that the pass saw since
abbrev pub LooksStay : {D : Type 0} → (lacked : Write → Type 0) → ManagerPass D → List Entry
    → Type 0
LooksStay lacked p more =
    KeptStay lacked (last_look (began p).look (notes_seen p)) (notes_of more)

-- entries that change no content
abbrev pub AreHelp : List Noted → Type 0
AreHelp notes = AllByRecursion (λ (n : Noted). IsHelp n.entry.operation) notes
