-- What a spindle shows, and what it stands for.
use Rattle.std.specs.Prelude.{◌≡◌, ◌<◌, ◌≤◌, ◌+◌, ◌-◌, ◌==◌, ◌&&◌, if◌then◌else◌, nat_le, ℕ, Bool, true, false, List, [], ◌∷◌, ◌++◌, length}
use Rattle.turn_lock.specs.Histories.{Entry}
use Rattle.energy.specs.Sums.{AreSumsOf}
use Rattle.energy.specs.declared.Sums.{Sums}
use Rattle.wol_model.specs.Journal.{Use, SpindleState, new_spindle, spindle_after, MayUse, AreUses}
use Rattle.spin_model.specs.declared.spindle.SpindleBase.{SpindleBase}
use Rattle.spin_model.specs.Operations.{operation_of, uses_of, entries_of}

-- a spindle as callers see it; moments are in units of 100 ns
pub record SpindleView : Type 0 where
  pub volume : ℕ
  pub timeout : ℕ
  pub moment : ℕ
  pub last_use : ℕ
  pub awake : Bool
  -- how many tokens are out
  pub out : ℕ
  -- how often it came up, and how often it went down
  pub wakes : ℕ
  pub sleeps : ℕ
  -- the time in standby, without the one that goes on
  pub standby : ℕ

-- moments in order, and the time in standby over before the last use; it goes down at least one
-- unit behind its last use, and comes up only where it went down
pub record IsKept (s : SpindleView) : Type 0 where
  pub timeout : 0 < s.timeout
  pub order : s.last_use ≤ s.moment
  pub standby : s.standby ≤ s.last_use
  pub fresh : s.sleeps ≡ 0 → s.standby ≡ 0
  pub wakes : s.wakes ≤ s.sleeps
  pub awake : s.awake ≡ true → s.sleeps ≤ s.last_use
  pub asleep : s.awake ≡ false
      → (s.wakes < s.sleeps) × (s.sleeps ≤ s.moment) × (s.last_use + s.timeout ≤ s.moment)

-- it is awake, no token is out, and its last use lies at least the timeout back
abbrev pub is_idle : SpindleView → Bool
is_idle s = s.awake && (s.out == 0 && nat_le (s.last_use + s.timeout) s.moment)

-- the time in standby until a moment: one that goes on began at the end of the timeout
abbrev pub standby_until : SpindleView → (to : ℕ) → ℕ
standby_until s to = if s.awake then s.standby else s.standby + (to - (s.last_use + s.timeout))

-- the sums until a moment
abbrev pub sums_until : SpindleView → (to : ℕ) → Sums
sums_until s to =
    record { wakes = s.wakes; sleeps = s.sleeps; standby = standby_until s to }

-- the spindle of one volume, before and after a call
pub record IsSameSpindle (old new : SpindleView) : Type 0 where
  pub volume : new.volume ≡ old.volume
  pub timeout : new.timeout ≡ old.timeout

-- it shows this state, with the sums over its journal
pub record Shows (s : SpindleView) (m : SpindleState) : Type 0 where
  pub moment : s.moment ≡ m.now
  pub last_use : s.last_use ≡ m.last_use
  pub awake : s.awake ≡ m.awake
  pub out : s.out ≡ length m.needing
  pub sums : (to : ℕ) → AreSumsOf (sums_until s to) m.journal to

-- the state after the entries
abbrev pub state_after : SpindleBase → List Entry → SpindleState
state_after b entries = spindle_after b.timeout new_spindle (uses_of entries)

-- it stands for its base and for entries that are uses, each of which may be made where it stands
pub record StandsFor (s : SpindleView) (b : SpindleBase) (entries : List Entry) : Type 0 where
  pub volume : s.volume ≡ b.volume
  pub timeout : s.timeout ≡ b.timeout
  pub spelled : entries_of (uses_of entries) ≡ entries
  pub legal : AreUses b.timeout new_spindle (uses_of entries)
  pub shows : Shows s (state_after b entries)

-- whatever entries it stood for, it stands for one more of this use where the pass may make that
abbrev pub HasMade : Use → SpindleView → SpindleView → Type 0
HasMade u old new = (b : SpindleBase) (entries : List Entry) (n : ℕ) → StandsFor old b entries
    → MayUse (state_after b entries) n u → StandsFor new b (entries ++ (n, operation_of u) ∷ [])

-- the base of a new spindle's lock
abbrev pub base_of : SpindleView → SpindleBase
base_of s = record { volume = s.volume; timeout = s.timeout }
