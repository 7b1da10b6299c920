-- Blocks that are read and written in one turn, and a look that asks for none.
use Rattle.std.specs.Prelude.{◌≡◌, ◌↔◌, ℕ, Bool, List, [], Option, Result, IsSome}
use Rattle.wol_disk.specs.Disk.{Block}
use Rattle.turn_lock.specs.Histories.{Entry}
use Rattle.wol_model.specs.History.{Kept}
use Rattle.wol_promise.specs.Ruled.{Noted, last_look}
use Rattle.manager.specs.Answers.{home_write}
use Rattle.manager.specs.Seen.{down_of}
use Rattle.manager.specs.Stands.{notes_of}
use Rattle.manager.specs.declared.part.Part.{Part}
use Rattle.manager.specs.declared.part.ReadRefusal.{ReadRefusal}
use Rattle.manager.specs.declared.part.Sources.{Sources}
use Rattle.request_turns.specs.Causes.{IsCauseOfRead, IsCauseOfWrite, LackedMemory}
use Rattle.request_turns.specs.Entries.{IsReadAs, IsWrittenAs, TellsFault, read_outcome}
use Rattle.request_turns.specs.Turns.{ManagerPass, began, notes_seen, HasTurned, IsBroken, Stays}
use Rattle.request_turns.specs.declared.outcome.Outcome.{Outcome}

-- a read of the blocks from `first` on came to this answer, and gave these
pub record HasReadBlocks {D : Type 0} (tells : Bool) (first : ℕ) (blocks : List Block)
    (answer : Result Sources ReadRefusal) (p q : ManagerPass D) : Type 0 where
  pub before : List Entry
  pub note : Noted
  pub turned : HasTurned tells p q before note
  pub entry : IsReadAs first blocks answer note
  pub stays : note.entry.operation ≡ Kept
      → note.look ≡ last_look (began p).look (notes_of before)
  pub cause : IsCauseOfRead (notes_of before) answer
  pub fault : TellsFault (notes_seen q) (read_outcome blocks answer)

-- a write of these blocks from `first` on had this outcome
pub record HasWrittenBlocks {D : Type 0} (tells : Bool) (first : ℕ) (blocks : List Block)
    (o : Outcome) (p q : ManagerPass D) : Type 0 where
  pub before : List Entry
  pub note : Noted
  pub turned : HasTurned tells p q before note
  pub entry : IsWrittenAs (began p).view (home_write first blocks) [] o note
  pub stays : note.entry.operation ≡ Kept
      → Stays (LackedMemory (home_write first blocks) o)
      (last_look (began p).look (notes_of before)) note
  pub cause : IsCauseOfWrite (notes_of before) (last_look (began p).look (notes_of before)) o
  pub fault : TellsFault (notes_seen q) o

-- a look, which leaves all as it was: a part is told exactly where a disk call had failed before,
-- and it is the one that the last entry's look names
pub record HasLooked {D : Type 0} (tells : Bool) (down : Option Part) (p q : ManagerPass D) :
    Type 0 where
  pub before : List Entry
  pub note : Noted
  pub turned : HasTurned tells p q before note
  pub kept : note.entry.operation ≡ Kept
  pub same : note.look ≡ last_look (began p).look (notes_of before)
  pub cause : IsSome down ↔ IsBroken (notes_of before)
  pub part : down_of down ≡ (last_look (began p).look (notes_of before)).down
