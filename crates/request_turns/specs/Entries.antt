-- The entry that a request leaves, by its outcome.
use Rattle.std.specs.Prelude.{⊤, ◌≡◌, ◌⊎◌, ◌≤◌, ◌+◌, ◌^◌, ◌∷◌, ◌++◌, ℕ, Bool, true, false, List, [], Option, None, Some, is_some, slice_get, count_by, length, map, replicate, take, Result, Ok, Err}
use Rattle.std.specs.List.{AllByRecursion, range_with_len}
use Rattle.wol_disk.specs.Disk.{Block}
use Rattle.wol_model.specs.ArrayLaws.{unversioned}
use Rattle.wol_model.specs.Blocks.{Write}
use Rattle.wol_model.specs.History.{Operation, Wrote, Read, Kept, Broke}
use Rattle.wol_model.specs.Index.{Listed, is_covered}
use Rattle.wol_model.specs.Trace as trace
use Rattle.wol_model.specs.Trace.{payload}
use Rattle.wol_model.specs.declared.trace.Kind.{Kind}
use Rattle.wol_model.specs.declared.trace.Kind.TheVariants as kind
use Rattle.wol_promise.specs.Policy.{Look}
use Rattle.wol_promise.specs.Ruled.{Noted}
use Rattle.manager.specs.declared.part.Part.{Part}
use Rattle.manager.specs.declared.part.Part.TheVariants as part
use Rattle.manager.specs.declared.part.Place.{Place}
use Rattle.manager.specs.declared.part.Place.TheVariants as place
use Rattle.manager.specs.declared.part.ReadRefusal.{ReadRefusal}
use Rattle.manager.specs.declared.part.ReadRefusal.TheVariants as refused_read
use Rattle.manager.specs.declared.part.Sources.{Sources}
use Rattle.manager.specs.declared.part.StepFault.{StepFault}
use Rattle.manager.specs.declared.part.StepFault.TheVariants as fault
use Rattle.manager.specs.declared.part.WriteRefusal.{WriteRefusal}
use Rattle.manager.specs.declared.part.WriteRefusal.TheVariants as refused
use Rattle.request_turns.specs.Turns.{IsBroken, WasDown}
use Rattle.trace_windows.specs.Requests.{asked}
use Rattle.trace_windows.specs.declared.request.Request.{Request}
use Rattle.request_turns.specs.declared.outcome.Outcome.{Outcome}
use Rattle.request_turns.specs.declared.outcome.Outcome.TheVariants as outcome

-- ---- Notes

-- a ruled entry of this pass, that leaves this look
abbrev pub note_of : (pass : ℕ) → Operation → Look → (passed : List ℕ) → (after_drain : Bool)
    → Noted
note_of pass operation look passed after_drain =
    record {
      entry = record { pass = pass; operation = operation };
      look = look;
      passed = passed;
      after_drain = after_drain;
      ruled = true;
    }

-- the note of a refused write that isn't an entry of its own, since a drain follows
abbrev pub full_note : (pass : ℕ) → Look → (passed : List ℕ) → Noted
full_note pass look passed = record {
  entry = record { pass = pass; operation = Kept };
  look = look;
  passed = passed;
  after_drain = false;
  ruled = false;
}

-- the operation of a turn with steps of reclaim
abbrev pub step_operation : (failed : Bool) → Operation
step_operation true = Broke []
step_operation false = Kept

-- a step failed at a disk
abbrev pub has_failed : {T : Type 0} → Result T StepFault → Bool
has_failed (Ok x) = false
has_failed (Err (fault.DiskFault p)) = true
has_failed (Err (fault.Down p)) = false

-- a write failed at a disk
abbrev pub has_broken : Result Place WriteRefusal → Bool
has_broken (Err (refused.DiskFault p)) = true
has_broken answer = false

-- the refusal of a step that was refused
abbrev pub refusal_in : {T : Type 0} → Result T StepFault → Option StepFault
refusal_in (Ok x) = None
refusal_in (Err f) = Some f

-- ---- Outcomes

-- the place is a log
abbrev pub is_log : Place → Bool
is_log place.Home = false
is_log (place.Log logger) = true

-- the outcome of a read that gave these blocks
abbrev pub read_outcome : List Block → Result Sources ReadRefusal → Outcome
read_outcome blocks (Ok sources) = outcome.Read (trace.mark blocks) sources
read_outcome blocks (Err refusal) = outcome.NoRead refusal

-- the outcome of a write with this answer
abbrev pub written_outcome : (drained : Bool) → Result Place WriteRefusal → Outcome
written_outcome drained (Ok place) = outcome.Wrote place drained
written_outcome drained (Err refusal) = outcome.NoWrite refusal

-- it was refused as full
abbrev pub is_full : Result Place WriteRefusal → Bool
is_full (Err refused.Full) = true
is_full answer = false

-- a write is refused as its drain was
abbrev pub refused_as : StepFault → WriteRefusal
refused_as (fault.DiskFault p) = refused.DiskFault p
refused_as (fault.Down p) = refused.Down p

-- ---- Entries

-- a Read of the request's range, with the mark of its reply; so many of its blocks came from logs
-- as records cover
pub record IsReadEntry (r : Request) (mark : ℕ) (sources : Sources) (n : Noted) : Type 0 where
  pub kind_is : r.kind ≡ kind.Read
  pub reply : List Block
  pub operation : n.entry.operation ≡ Read r.lbn reply
  pub count : length reply ≡ r.count
  pub marked : mark ≡ trace.mark reply
  pub logged : sources.logged ≡ count_by (is_covered n.look.listed) (range_with_len r.lbn r.count)
  pub all : sources.home + sources.logged ≡ r.count

-- a Read of these blocks; so many of them came from logs as records cover
pub record IsReadOf (first : ℕ) (blocks : List Block) (sources : Sources) (n : Noted) : Type 0 where
  pub operation : n.entry.operation ≡ Read first blocks
  pub logged : sources.logged
      ≡ count_by (is_covered n.look.listed) (range_with_len first (length blocks))
  pub all : sources.home + sources.logged ≡ length blocks

-- a write to a log left the newest record on this logger
abbrev pub IsPlaced : (view : List ℕ) → Place → Look → Type 0
IsPlaced view place.Home l = ⊤
IsPlaced view (place.Log logger) l = (front : List Listed) × (e : Listed)
    × (l.listed ≡ front ++ e ∷ []) × (slice_get view e.lane ≡ Some logger)

-- a Wrote of this payload, with a version exactly where it went to a log
pub record IsWriteEntry (view : List ℕ) (w : Write) (place : Place) (drained : Bool) (n : Noted) :
    Type 0 where
  pub write : Write
  pub operation : n.entry.operation ≡ Wrote (write ∷ [])
  pub same : unversioned write ≡ w
  pub logged : is_some write.version ≡ is_log place
  pub placed : IsPlaced view place n.look
  pub drain : n.after_drain ≡ drained

-- Writes of these payloads went to one log together: a Wrote of them, in order, each with a
-- version; the newest record is on that logger.
pub record AreWrittenTogether (view : List ℕ) (payloads : List Write) (place : Place) (n : Noted) :
    Type 0 where
  pub writes : List Write
  pub operation : n.entry.operation ≡ Wrote writes
  pub same : map unversioned writes ≡ payloads
  pub logged : AllByRecursion (λ (w : Write). is_some w.version ≡ true) writes
  pub logger : is_log place ≡ true
  pub placed : IsPlaced view place n.look
  pub drain : n.after_drain ≡ false

-- these requests all write, and their payloads went to one log together
pub record IsGroupEntry (view : List ℕ) (rs : List Request) (place : Place) (n : Noted) :
    Type 0 where
  pub kinds : AllByRecursion (λ (r : Request). r.kind ≡ kind.Write) rs
  pub together : AreWrittenTogether view (map (λ (r : Request). payload (asked r)) rs) place n

-- the payload of a request of this kind, before others; none where it reads
abbrev pub before_others : Kind → Write → List Write → List Write
before_others kind.Read w others = []
before_others kind.Write w others = w ∷ others

-- the payloads of the first ones of these requests, up to one that reads
abbrev pub front_writes : List Request → List Write
front_writes [] = []
front_writes (r ∷ rs) = before_others r.kind (payload (asked r)) (front_writes rs)

-- in flight was nothing, or some first ones of these payloads: more than one only on the way to a
-- log
pub record IsFlight (payloads flight : List Write) : Type 0 where
  pub count : ℕ
  pub same : map unversioned flight ≡ take count payloads
  pub logged : (count ≤ 1) ⊎ AllByRecursion (λ (w : Write). is_some w.version ≡ true) flight

-- they were on their way to the part that failed: without a version to home, and each with one to a
-- log
abbrev pub IsFlightAt : Part → List Write → Type 0
IsFlightAt (part.Home volume) flight = AllByRecursion (λ (w : Write). w.version ≡ None) flight
IsFlightAt (part.Segment volume index) flight =
    AllByRecursion (λ (w : Write). is_some w.version ≡ true) flight

-- what a refused read leaves
abbrev pub IsRefusedRead : ReadRefusal → Noted → Type 0
IsRefusedRead (refused_read.DiskFault p) n = n.entry.operation ≡ Broke []
IsRefusedRead (refused_read.Down p) n = n.entry.operation ≡ Kept

-- what a refused write leaves that has the first of these payloads, where the others were to follow
-- it; none is refused as full
abbrev pub IsRefusedWrite : (payloads : List Write) → WriteRefusal → Noted → Type 0
IsRefusedWrite payloads refused.Full n = ⊥
IsRefusedWrite payloads (refused.DiskFault p) n =
    (flight : List Write) × (n.entry.operation ≡ Broke flight) × IsFlight payloads flight
    × IsFlightAt p flight
IsRefusedWrite payloads (refused.Down p) n = n.entry.operation ≡ Kept
IsRefusedWrite payloads refused.VersionsSpent n =
    (n.entry.operation ≡ Kept) × (n.look.next ≡ 2 ^ 63)
IsRefusedWrite payloads refused.NoMemory n = n.entry.operation ≡ Kept

-- the entry of a write of this payload with this outcome, where those `behind` were to follow it
abbrev pub IsWrittenAs : (view : List ℕ) → Write → (behind : List Write) → Outcome → Noted → Type 0
IsWrittenAs view w behind (outcome.Read mark sources) n = ⊥
IsWrittenAs view w behind (outcome.Wrote place drained) n = IsWriteEntry view w place drained n
IsWrittenAs view w behind (outcome.NoRead refusal) n = ⊥
IsWrittenAs view w behind (outcome.NoWrite refusal) n = IsRefusedWrite (w ∷ behind) refusal n
IsWrittenAs view w behind outcome.NotRun n = ⊥

-- the entry of a read that gave these blocks, or was refused
abbrev pub IsReadAs : (first : ℕ) → List Block → Result Sources ReadRefusal → Noted → Type 0
IsReadAs first blocks (Ok sources) n = IsReadOf first blocks sources n
IsReadAs first blocks (Err refusal) n = IsRefusedRead refusal n

-- the entry of a request with this outcome, where the requests `behind` came after it; `view` has
-- the loggers of the volume's view
abbrev pub IsEntryOf : (view : List ℕ) → Request → (behind : List Request) → Outcome → Noted
    → Type 0
IsEntryOf view r behind (outcome.Read mark sources) n = IsReadEntry r mark sources n
IsEntryOf view r behind (outcome.Wrote place drained) n =
    (r.kind ≡ kind.Write) × IsWriteEntry view (payload (asked r)) place drained n
IsEntryOf view r behind (outcome.NoRead refusal) n = (r.kind ≡ kind.Read) × IsRefusedRead refusal n
IsEntryOf view r behind (outcome.NoWrite refusal) n =
    (r.kind ≡ kind.Write) × IsRefusedWrite (payload (asked r) ∷ front_writes behind) refusal n
IsEntryOf view r behind outcome.NotRun n = ⊥

-- the entries of a request: one, and none where it wasn't run
abbrev pub AreEntriesOf : (view : List ℕ) → Request → (behind : List Request) → Outcome → List Noted
    → Type 0
AreEntriesOf view r behind outcome.NotRun notes = notes ≡ []
AreEntriesOf view r behind (outcome.Read mark sources) notes =
    (n : Noted) × (notes ≡ n ∷ []) × IsEntryOf view r behind (outcome.Read mark sources) n
AreEntriesOf view r behind (outcome.Wrote place drained) notes =
    (n : Noted) × (notes ≡ n ∷ []) × IsEntryOf view r behind (outcome.Wrote place drained) n
AreEntriesOf view r behind (outcome.NoRead refusal) notes =
    (n : Noted) × (notes ≡ n ∷ []) × IsEntryOf view r behind (outcome.NoRead refusal) n
AreEntriesOf view r behind (outcome.NoWrite refusal) notes =
    (n : Noted) × (notes ≡ n ∷ []) × IsEntryOf view r behind (outcome.NoWrite refusal) n

-- the entries of requests with these outcomes, in order: one for each that was run, or one for
-- several writes in a row
pub data AreMade (view : List ℕ) : List Request → List Outcome → List Noted → Type 0 where
  none : AreMade view [] [] []
  one : (r : Request) (rs : List Request) (o : Outcome) (os : List Outcome)
      (notes first rest : List Noted) → notes ≡ first ++ rest
      → AreEntriesOf view r rs o first → AreMade view rs os rest
      → AreMade view (r ∷ rs) (o ∷ os) notes
  several : (all : List Request) (outcomes : List Outcome) (notes : List Noted)
      (group rs : List Request) (place : Place) (os : List Outcome) (n : Noted) (rest : List Noted)
      → 2 ≤ length group
      → all ≡ group ++ rs → outcomes ≡ replicate (length group) (outcome.Wrote place false) ++ os
      → notes ≡ n ∷ rest
      → IsGroupEntry view group place n → AreMade view rs os rest → AreMade view all outcomes notes

-- the entry of some first ones of these requests, `count`, all with this outcome
pub data IsEntryOfFirst (view : List ℕ) (rs : List Request) (count : ℕ) (o : Outcome) (n : Noted) :
    Type 0 where
  one : (r : Request) (behind : List Request) → rs ≡ r ∷ behind → count ≡ 1
      → IsEntryOf view r behind o n → IsEntryOfFirst view rs count o n
  several : (place : Place) → 2 ≤ count → count ≤ length rs → o ≡ outcome.Wrote place false
      → IsGroupEntry view (take count rs) place n → IsEntryOfFirst view rs count o n

-- ---- Causes

-- no version was left behind one of these entries, and no disk call had failed until then
pub record WasSpent (seen : List Noted) : Type 0 where
  pub front : List Noted
  pub note : Noted
  pub later : List Noted
  pub seen_is : seen ≡ front ++ note ∷ later
  pub unbroken : IsBroken (front ++ note ∷ []) → ⊥
  pub spent : note.look.next ≡ 2 ^ 63

-- a refusal that tells of a part comes only where that part was down, and one for want of a version
-- only where none was left before any failed
abbrev pub TellsOfRead : ReadRefusal → List Noted → Type 0
TellsOfRead (refused_read.DiskFault p) seen = WasDown p seen
TellsOfRead (refused_read.Down p) seen = WasDown p seen

abbrev pub TellsOfWrite : WriteRefusal → List Noted → Type 0
TellsOfWrite refused.Full seen = ⊤
TellsOfWrite (refused.DiskFault p) seen = WasDown p seen
TellsOfWrite (refused.Down p) seen = WasDown p seen
TellsOfWrite refused.VersionsSpent seen = WasSpent seen
TellsOfWrite refused.NoMemory seen = ⊤

abbrev pub TellsFault : List Noted → Outcome → Type 0
TellsFault seen (outcome.Read mark sources) = ⊤
TellsFault seen (outcome.Wrote place drained) = ⊤
TellsFault seen (outcome.NoRead refusal) = TellsOfRead refusal seen
TellsFault seen (outcome.NoWrite refusal) = TellsOfWrite refusal seen
TellsFault seen outcome.NotRun = ⊤
