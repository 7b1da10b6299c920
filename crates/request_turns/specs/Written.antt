-- What a write or a read within a turn leaves.
use Rattle.std.specs.Prelude.{⊤, ◌≡◌, ℕ, Bool, List, [], Result, IsTrue}
use Rattle.wol_disk.specs.Disk.{Block}
use Rattle.wol_model.specs.History.{Kept}
use Rattle.wol_promise.specs.Ruled.{Noted, last_look}
use Rattle.manager.specs.Answers.{home_write}
use Rattle.manager.specs.declared.part.ReadRefusal.{ReadRefusal}
use Rattle.manager.specs.declared.part.Sources.{Sources}
use Rattle.manager.specs.declared.part.StepFault.{StepFault}
use Rattle.manager.specs.declared.part.StepFault.TheVariants as fault
use Rattle.request_turns.specs.Causes.{IsCauseOfRead, IsCauseOfWrite, LackedMemory}
use Rattle.request_turns.specs.Counts.{CountsEntry}
use Rattle.request_turns.specs.Entries.{IsReadAs, IsWrittenAs, TellsFault, read_outcome}
use Rattle.request_turns.specs.Turns.{ManagerPass, began, notes_seen, HasLeft, Stays}
use Rattle.request_turns.specs.declared.outcome.Outcome.{Outcome}
use Rattle.request_turns.specs.declared.tally.Tally.{Tally}

-- a pass in a turn leaves it with the entry of a write of these blocks that had this outcome; what
-- it reclaimed was counted
pub record HasWritten {D : Type 0} (tells : Bool) (first : ℕ) (blocks : List Block) (o : Outcome)
    (t u : Tally) (p q : ManagerPass D) : Type 0 where
  pub note : Noted
  pub left : HasLeft tells note p q
  pub ruled : IsTrue note.ruled
  pub entry : IsWrittenAs (began p).view (home_write first blocks) [] o note
  pub stays : note.entry.operation ≡ Kept
      → Stays (LackedMemory (home_write first blocks) o)
      (last_look (began p).look (notes_seen p)) note
  pub cause : IsCauseOfWrite (notes_seen p) (last_look (began p).look (notes_seen p)) o
  pub fault : TellsFault (notes_seen q) o
  pub counted : CountsEntry (last_look (began p).look (notes_seen p)) note t u

-- the same of a read that gave these blocks; it reclaims nothing
pub record HasRead {D : Type 0} (tells : Bool) (first : ℕ) (blocks : List Block)
    (answer : Result Sources ReadRefusal) (p q : ManagerPass D) : Type 0 where
  pub note : Noted
  pub left : HasLeft tells note p q
  pub ruled : IsTrue note.ruled
  pub entry : IsReadAs first blocks answer note
  pub stays : note.entry.operation ≡ Kept → note.look ≡ last_look (began p).look (notes_seen p)
  pub cause : IsCauseOfRead (notes_seen p) answer
  pub fault : TellsFault (notes_seen q) (read_outcome blocks answer)
  pub counted : (t : Tally) → CountsEntry (last_look (began p).look (notes_seen p)) note t t

-- a disk call failed in this step
abbrev pub IsDiskFault : StepFault → Type 0
IsDiskFault (fault.DiskFault p) = ⊤
IsDiskFault (fault.Down p) = ⊥
