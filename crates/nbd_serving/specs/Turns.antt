-- What a turn of a session makes of a worker's pass.
use Rattle.std.specs.Prelude.{⊤, ◌≡◌, ℕ, Bool, List, length, None, Some, Result, Ok, Err}
use Rattle.wol_disk.specs.Disk.{Block}
use Rattle.manager.specs.declared.part.Part.{Part}
use Rattle.manager.specs.declared.part.Place.{Place}
use Rattle.manager.specs.declared.part.ReadRefusal.{ReadRefusal}
use Rattle.manager.specs.declared.part.ReadRefusal.TheVariants as refused_read
use Rattle.manager.specs.declared.part.Sources.{Sources}
use Rattle.manager.specs.declared.part.WriteRefusal.{WriteRefusal}
use Rattle.manager.specs.declared.part.WriteRefusal.TheVariants as refused_write
use Rattle.request_turns.specs.Blocks.{HasLooked, HasReadBlocks, HasWrittenBlocks}
use Rattle.request_turns.specs.Turns.{ManagerPass}
use Rattle.request_turns.specs.declared.outcome.Outcome.{Outcome}
use Rattle.request_turns.specs.declared.outcome.Outcome.TheVariants as outcome
use Rattle.nbd_session.specs.Turns.{Turn, Looked, NotLooked, Read, NotRead, Wrote, NotWrote}
use Rattle.nbd_session.specs.declared.volume.Refusal.{Refusal}
use Rattle.nbd_session.specs.declared.volume.Refusal.TheVariants as refusal

-- how the refusal of a read is told
abbrev pub read_refusal : ReadRefusal → Refusal
read_refusal (refused_read.DiskFault p) = refusal.Broke
read_refusal (refused_read.Down p) = refusal.Down

-- and that of a write; none is refused as full, since its turn drains then
abbrev pub write_refusal : WriteRefusal → Refusal
write_refusal refused_write.Full = refusal.NoMemory
write_refusal (refused_write.DiskFault p) = refusal.Broke
write_refusal (refused_write.Down p) = refusal.Down
write_refusal refused_write.VersionsSpent = refusal.VersionsSpent
write_refusal refused_write.NoMemory = refusal.NoMemory

-- the turn was one of the volume's worker, with this answer
abbrev pub MakesTurn : {D : Type 0} → (tells : Bool) → Turn → (p q : ManagerPass D) → Type 0
MakesTurn tells Looked p q = HasLooked tells None p q
MakesTurn tells (NotLooked r) p q =
    (part : Part) × HasLooked tells (Some part) p q × (r ≡ refusal.Down)
MakesTurn tells (Read at blocks) p q =
    (sources : Sources) × HasReadBlocks tells at blocks (Ok sources) p q
MakesTurn tells (NotRead at count r) p q =
    (why : ReadRefusal) × (open_ : List Block) × HasReadBlocks tells at open_ (Err why) p q
    × (length open_ ≡ count) × (r ≡ read_refusal why)
MakesTurn tells (Wrote at blocks) p q =
    (place : Place) × (drained : Bool)
    × HasWrittenBlocks tells at blocks (outcome.Wrote place drained) p q
MakesTurn tells (NotWrote at blocks r) p q =
    (why : WriteRefusal) × HasWrittenBlocks tells at blocks (outcome.NoWrite why) p q
    × (r ≡ write_refusal why)

-- an outcome that a write may have
abbrev pub IsOfWrite : Outcome → Type 0
IsOfWrite (outcome.Read mark sources) = ⊥
IsOfWrite (outcome.Wrote place drained) = ⊤
IsOfWrite (outcome.NoRead refusal) = ⊥
IsOfWrite (outcome.NoWrite refusal) = ⊤
IsOfWrite outcome.NotRun = ⊥

-- what a write with this outcome answers
abbrev pub AnswersWrite : Outcome → Result (Unit {0}) Refusal → Type 0
AnswersWrite (outcome.Read mark sources) answer = ⊥
AnswersWrite (outcome.Wrote place drained) answer = answer ≡ Ok tt
AnswersWrite (outcome.NoRead why) answer = ⊥
AnswersWrite (outcome.NoWrite why) answer = answer ≡ Err (write_refusal why)
AnswersWrite outcome.NotRun answer = ⊥
