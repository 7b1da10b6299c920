-- What each pass of a volume did in the windows of a run, by its own entries in order. (No order is
-- promised between the entries of two passes.)
use Rattle.std.specs.Prelude.{⊤, ◌≡◌, ◌⊎◌, ◌≤◌, ◌+◌, ◌==◌, ◌++◌, ◌∷◌, ℕ, Bool, true, false, List, [], length, map, Some, IsTrue, slice_get, slice_index_or}
use Rattle.std.specs.List.{filter}
use Rattle.wol_model.specs.Blocks.{Write}
use Rattle.wol_model.specs.History.{IsHelp, Kept, keeper}
use Rattle.wol_promise.specs.Policy.{IsIdleLook, Look}
use Rattle.wol_promise.specs.Report.{IsBegun, by_worker}
use Rattle.wol_promise.specs.Ruled.{IsDrained, Noted}
use Rattle.request_turns.specs.Causes.{OneLacked}
use Rattle.request_turns.specs.Entries.{AreMade}
use Rattle.request_workers.specs.Requests.{StopsAtRefusal, outcomes_of, own_requests}
use Rattle.window_desks.specs.declared.request.Reclaim.{Reclaim}
use Rattle.window_desks.specs.declared.request.Reclaim.TheVariants as reclaim
use Rattle.replay.specs.Histories.{History, is_broken}
use Rattle.replay.specs.Served.{ServedWindow}

-- ---- The keeper

-- the keeper's entries
abbrev pub by_keeper : List Noted → List Noted
by_keeper notes = filter (λ n. n.entry.pass == keeper) notes

-- One for each window that began, with the flags of home and of the view's loggers: `awake` has,
-- window by window, for each volume whether its disk was told to be awake.
abbrev pub AreBegun : (owner : ℕ) → (view : List ℕ) → (awake : List (List Bool)) → List Noted
    → Type 0
AreBegun owner view [] notes = notes ≡ []
AreBegun owner view (a ∷ awake) notes =
    (n : Noted) × (rest : List Noted) × (notes ≡ n ∷ rest)
    × IsBegun (slice_index_or a owner false) (map (λ (k : ℕ). slice_index_or a k false) view) n
    × AreBegun owner view awake rest

-- each of them leaves the records as they were listed
abbrev pub KeepsRecords : Look → List Noted → Type 0
KeepsRecords l [] = ⊤
KeepsRecords l (n ∷ notes) =
    (n.entry.pass ≡ keeper → n.look.listed ≡ l.listed) × KeepsRecords n.look notes

-- ---- The worker

-- The entry of a reclaim turn changes no content. While nothing broke it is Kept, and leaves
-- nothing to reclaim within reach.
pub record IsClosing (whole : Type 0) (n : Noted) : Type 0 where
  pub help : IsHelp n.entry.operation
  pub kept : whole → n.entry.operation ≡ Kept
  pub idle : whole → IsIdleLook n.look

-- one such entry, in the modes that reclaim behind a window's requests
abbrev pub AreClosings : Reclaim → (whole : Type 0) → List Noted → Type 0
AreClosings reclaim.Off whole notes = notes ≡ []
AreClosings reclaim.Between whole notes = (n : Noted) × (notes ≡ n ∷ []) × IsClosing whole n
AreClosings reclaim.Beside whole notes = (n : Noted) × (notes ≡ n ∷ []) × IsClosing whole n

-- the worker's entries of a window: those of the volume's requests, as their outcomes tell, up to
-- the first one that isn't answered, and then that of its reclaim turn
pub record IsWork (mode : Reclaim) (view : List ℕ) (v : ℕ) (whole : Type 0) (s : ServedWindow)
    (notes : List Noted) : Type 0 where
  pub served : List Noted
  pub closing : List Noted
  pub split : notes ≡ served ++ closing
  pub made : AreMade view (own_requests v s.batch.requests)
      (outcomes_of v s.batch.requests s.answer.outcomes.items) served
  pub stops : StopsAtRefusal true (outcomes_of v s.batch.requests s.answer.outcomes.items)
  pub closes : AreClosings mode whole closing

-- so of windows one after another
abbrev pub AreWorks : (mode : Reclaim) → (view : List ℕ) → (v : ℕ) → (whole : Type 0)
    → List ServedWindow → List Noted → Type 0
AreWorks mode view v whole [] notes = notes ≡ []
AreWorks mode view v whole (s ∷ ss) notes =
    (first : List Noted) × (rest : List Noted) × (notes ≡ first ++ rest)
    × IsWork mode view v whole s first × AreWorks mode view v whole ss rest

-- ---- Where nothing is reclaimed

-- w is the write of one of volume v's requests in these windows, and by its outcome it was refused
-- for want of memory
abbrev pub LackedIn : (v : ℕ) → List ServedWindow → (w : Write) → Type 0
LackedIn v [] w = ⊥
LackedIn v (s ∷ ss) w = OneLacked (own_requests v s.batch.requests)
    (outcomes_of v s.batch.requests s.answer.outcomes.items) w ⊎ LackedIn v ss w

-- each Kept leaves the records as they were listed, or its turn drained for a write that lacked
-- memory then
abbrev pub DrainsAlone : (lacked : Write → Type 0) → Look → List Noted → Type 0
DrainsAlone lacked l [] = ⊤
DrainsAlone lacked l (n ∷ notes) = (n.entry.operation ≡ Kept
    → (n.look.listed ≡ l.listed) ⊎ ((w : Write) × lacked w × IsDrained n.passed l w n.look))
    × DrainsAlone lacked n.look notes

-- ---- The whole

-- What the passes of volume v did. Where nothing is reclaimed behind requests no Kept reclaims.
pub record WorksAs (mode : Reclaim) (windows : List ServedWindow) (awake : List (List Bool)) (v : ℕ)
    (h : History) : Type 0 where
  pub worker_ : AreWorks mode h.base.view v (IsTrue (is_broken h) → ⊥) windows (by_worker h.notes)
  pub keeper_ : AreBegun v h.base.view awake (by_keeper h.notes)
  pub records : KeepsRecords h.base.look h.notes
  pub off : mode ≡ reclaim.Off → DrainsAlone (LackedIn v windows) h.base.look h.notes

-- so of each volume; a window may have begun of which no request was run
pub record AreWorked (mode : Reclaim) (windows : List ServedWindow) (awake : List (List Bool))
    (histories : List History) : Type 0 where
  pub begun_ : (length windows ≤ length awake) × (length awake ≤ length windows + 1)
  pub each : (v : ℕ) (h : History) → slice_get histories v ≡ Some h → WorksAs mode windows awake v h
