-- When a disk was awake and in standby, and the energy that it used. Moments are in units of 100
-- ns.
use Rattle.std.specs.Prelude.{⊤, ◌≡◌, ◌≤◌, ℕ, ◌+◌, ◌-◌, ◌*◌, ◌/◌, ◌^◌, max, Bool, true, false, not, ◌&&◌, List, [], ◌∷◌, ◌++◌, if◌then◌else◌, nat_le, ◌==◌, IsTrue}
use Rattle.std.specs.List.{list_any, filter, count_by}
use Rattle.wol_model.specs.declared.journal.Turned.{Turned}
use Rattle.wol_model.specs.declared.journal.Turned.TheVariants.{Down, Up}
use Rattle.wol_model.specs.declared.journal.Powers.{Powers}

-- ---- Journals

-- from `from`, awake or not, a disk turns down and up in turn, at times that don't fall, up to `to`
abbrev pub Alternates : (awake : Bool) → (from : ℕ) → List Turned → (to : ℕ) → Type 0
Alternates awake from [] to = from ≤ to
Alternates awake from (Down at ∷ rest) to =
    (awake ≡ true) × (from ≤ at) × Alternates false at rest to
Alternates awake from (Up at ∷ rest) to = (awake ≡ false) × (from ≤ at) × Alternates true at rest to

-- a journal begins awake
abbrev pub IsJournal : (from : ℕ) → List Turned → (to : ℕ) → Type 0
IsJournal from journal to = Alternates true from journal to

-- the moment of the next Up, or the end
abbrev pub next_up : List Turned → (to : ℕ) → ℕ
next_up [] to = to
next_up (Up at ∷ rest) to = at
next_up (Down at ∷ rest) to = next_up rest to

-- the time in standby: from each Down to the next Up, or to the end
abbrev pub standby : List Turned → (to : ℕ) → ℕ
standby [] to = 0
standby (Down at ∷ rest) to = (next_up rest to - at) + standby rest to
standby (Up at ∷ rest) to = standby rest to

-- the rest of the time
abbrev pub awake_time : List Turned → (from to : ℕ) → ℕ
awake_time journal from to = (to - from) - standby journal to

-- a turn that wakes the disk
abbrev pub turns_up : Turned → Bool
turns_up (Up at) = true
turns_up (Down at) = false

-- how often the disk woke
abbrev pub wakes : List Turned → ℕ
wakes journal = count_by turns_up journal

-- how often it went into standby
abbrev pub sleeps : List Turned → ℕ
sleeps journal = count_by (λ t. not (turns_up t)) journal

-- the energy used from one moment to another, in units of 100 pJ
abbrev pub units : Powers → List Turned → (from to : ℕ) → ℕ
units p journal from to = awake_time journal from to * p.awake_mw
    + standby journal to * p.standby_mw + wakes journal * p.wake_mj * 10 ^ 7

-- the same in mJ, rounded down
abbrev pub millijoules : ℕ → ℕ
millijoules n = n / 10 ^ 7

-- powers in their ranges
pub record ArePowers (p : Powers) : Type 0 where
  pub awake : p.awake_mw ≤ 1000000
  pub standby : p.standby_mw ≤ 1000000
  pub wake : p.wake_mj ≤ 1000000000

-- ---- Spindles

-- what passes do at a spindle: begin the account, begin a window, need the disk for an access and
-- be done with it
pub data Use : Type 0 where
  Started : (at : ℕ) → Use
  Began : (at : ℕ) → Use
  Needed : Use
  Done : Use
  Stayed : Use

-- a spindle between two uses
pub record SpindleState : Type 0 where
  -- the start of the account
  pub from : ℕ
  pub now : ℕ
  pub last_use : ℕ
  pub awake : Bool
  -- the passes with a Needed that had no Done yet
  pub needing : List ℕ
  pub journal : List Turned

-- a new spindle is awake, and all its moments are 0
abbrev pub new_spindle : SpindleState
new_spindle = record { from = 0; now = 0; last_use = 0; awake = true; needing = []; journal = [] }

-- the list is empty
abbrev pub is_empty : {X : Type 0} → List X → Bool
is_empty [] = true
is_empty (x ∷ xs) = false

-- a disk that nobody needs goes down at the end of the timeout, seen by the first window from then
-- on
abbrev pub rested : (timeout : ℕ) → SpindleState → SpindleState
rested timeout s =
    if s.awake && (is_empty s.needing && nat_le (s.last_use + timeout) s.now)
    then record s { awake = false; journal = s.journal ++ Down (s.last_use + timeout) ∷ [] }
    else s

-- after a pass's use
abbrev pub used : (timeout : ℕ) → SpindleState → (pass : ℕ) → Use → SpindleState
used timeout s pass (Started t) =
    if is_empty s.journal then record s { from = t; now = t; last_use = t } else s
used timeout s pass (Began t) = rested timeout (record s { now = max t s.now })
used timeout s pass Needed = record s {
  last_use = s.now;
  awake = true;
  needing = pass ∷ s.needing;
  journal = if s.awake then s.journal else s.journal ++ Up s.now ∷ [];
}
used timeout s pass Done = record s { needing = filter (λ p. not (p == pass)) s.needing }
used timeout s pass Stayed = s

-- a pass has at most one Needed without its Done, and a Done follows a Needed
abbrev pub MayUse : SpindleState → (pass : ℕ) → Use → Type 0
MayUse s pass Needed = list_any (λ p. p == pass) s.needing ≡ false
MayUse s pass Done = IsTrue (list_any (λ p. p == pass) s.needing)
MayUse s pass (Started t) = ⊤
MayUse s pass (Began t) = ⊤
MayUse s pass Stayed = ⊤

-- a spindle after passes' uses
abbrev pub spindle_after : (timeout : ℕ) → SpindleState → List (ℕ × Use) → SpindleState
spindle_after timeout s [] = s
spindle_after timeout s (u ∷ uses) = spindle_after timeout (used timeout s u.0 u.1) uses

-- uses that may follow one another
abbrev pub AreUses : (timeout : ℕ) → SpindleState → List (ℕ × Use) → Type 0
AreUses timeout s [] = ⊤
AreUses timeout s (u ∷ uses) = MayUse s u.0 u.1 × AreUses timeout (used timeout s u.0 u.1) uses

-- whether a pass that made these uses has a Needed without its Done, where it had one before or not
abbrev pub needs_after : (needs : Bool) → List Use → Bool
needs_after needs [] = needs
needs_after needs (Needed ∷ uses) = needs_after true uses
needs_after needs (Done ∷ uses) = needs_after false uses
needs_after needs (Started t ∷ uses) = needs_after needs uses
needs_after needs (Began t ∷ uses) = needs_after needs uses
needs_after needs (Stayed ∷ uses) = needs_after needs uses
