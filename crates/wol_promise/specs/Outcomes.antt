-- The outcomes of requests against the operations of a volume's worker.
use Rattle.std.specs.Prelude.{⊤, ◌≡◌, ◌==◌, ℕ, Bool, true, false, List, [], ◌∷◌, map, Option, None, Some, length, is_some, take, drop}
use Rattle.std.specs.List.{filter, AllByRecursion}
use Rattle.wol_disk.specs.Disk.{Block}
use Rattle.wol_model.specs.ArrayLaws.{unversioned}
use Rattle.wol_model.specs.Blocks.{Write, after}
use Rattle.wol_model.specs.History.{Entry, Operation, Wrote, Read, Kept, Broke, AreLegalNext}
use Rattle.wol_model.specs.Trace.{Request, payload, payloads, mark, plain_after}
use Rattle.wol_model.specs.declared.trace.Kind.TheVariants as kind

-- what became of a request: read, with the mark; written, home or to a log, perhaps after a drain;
-- or not answered
pub data Outcome : Type 0 where
  WasRead : (mark : ℕ) → Outcome
  WasWritten : (logged drained : Bool) → Outcome
  Unanswered : Outcome

-- the request was answered
abbrev pub is_answered : Outcome → Bool
is_answered (WasRead mark) = true
is_answered (WasWritten logged drained) = true
is_answered Unanswered = false

-- a request with its outcome
pub record Answered : Type 0 where
  pub request : Request
  pub outcome : Outcome

-- a write of the history is a request's payload, and it is in a log where the outcome says so
pub record IsPayload (r : Request) (logged : Bool) (w : Write) : Type 0 where
  pub same : unversioned w ≡ payload r
  pub place : is_some w.version ≡ logged

-- an outcome of a write, whose payload is this write of the history
abbrev pub IsWriteOf : Outcome → Request → Write → Type 0
IsWriteOf (WasWritten logged drained) r w = (r.kind ≡ kind.Write) × IsPayload r logged w
IsWriteOf (WasRead mark) r w = ⊥
IsWriteOf Unanswered r w = ⊥

-- answered writes, one for each of these writes
abbrev pub AreWritten : List Answered → List Write → Type 0
AreWritten [] [] = ⊤
AreWritten [] (w ∷ ws) = ⊥
AreWritten (a ∷ answers) [] = ⊥
AreWritten (a ∷ answers) (w ∷ ws) = IsWriteOf a.outcome a.request w × AreWritten answers ws

-- a read of the history is the request's range, and the mark is that of its reply
pub record IsReadOf (a : Answered) (first : ℕ) (reply : List Block) : Type 0 where
  pub asked : a.request.kind ≡ kind.Read
  pub begins : first ≡ a.request.first
  pub count : length reply ≡ a.request.count
  pub marked : a.outcome ≡ WasRead (mark reply)

-- the answered requests are, in order, what the operations read and wrote
abbrev pub AreOutcomes : List Answered → List Operation → Type 0
AreOutcomes answers [] = answers ≡ []
AreOutcomes answers (Kept ∷ operations) = AreOutcomes answers operations
AreOutcomes answers (Broke ws ∷ operations) = AreOutcomes answers operations
AreOutcomes answers (Wrote ws ∷ operations) =
    AreWritten (take (length ws) answers) ws × AreOutcomes (drop (length ws) answers) operations
AreOutcomes [] (Read first reply ∷ operations) = ⊥
AreOutcomes (a ∷ answers) (Read first reply ∷ operations) =
    IsReadOf a first reply × AreOutcomes answers operations

-- those of a window's requests that were answered
abbrev pub answered_in : List Answered → List Answered
answered_in answers = filter (λ a. is_answered a.outcome) answers

-- the mark that an outcome tells
abbrev pub mark_in : Outcome → Option ℕ
mark_in (WasRead mark) = Some mark
mark_in (WasWritten logged drained) = None
mark_in Unanswered = None

-- the requests of one volume
abbrev pub of_volume : (v : ℕ) → List Request → List Request
of_volume v rs = filter (λ (r : Request). r.volume == v) rs

-- ---- Laws

-- the marks that a legal history answers are those of plain arrays
abbrev pub MarksArePlain : Type 0
MarksArePlain = (arrays : ℕ → List Block) (v : ℕ) (earlier : List Request) (answers : List Answered)
    (entries : List Entry)
    → AllByRecursion (λ (a : Answered). a.request.volume ≡ v) answers
    → AreOutcomes answers (map (λ e. e.operation) entries)
    → AreLegalNext (after (arrays v) (payloads v earlier)) entries
    → plain_after arrays earlier (map (λ (a : Answered). a.request) answers)
    ≡ map (λ (a : Answered). mark_in a.outcome) answers

-- only the requests of a volume itself count for its writes
abbrev pub PayloadsByVolume : Type 0
PayloadsByVolume = (v : ℕ) (rs : List Request) → payloads v (of_volume v rs) ≡ payloads v rs
