-- What a contract sees of a lock and of a pass.
use Rattle.std.specs.Prelude.{◌≡◌, ◌≢◌, ◌<◌, ℕ, List, [], ◌∷◌, ◌++◌, length, slice_index_or, All, Option, None, Some}
use Rattle.turn_lock.specs.Histories.{Entry, own, Begins}
use Rattle.turn_lock.specs.LockIds.{LockId}
use Rattle.turn_lock.specs.Views.{claim_of, total}
use Rattle.turn_lock.specs.declared.lock.TurnLock.{TurnLock}
use Rattle.turn_lock.specs.declared.pass.PassOf.{PassOf}
use Rattle.turn_lock.specs.declared.view.Claim.{Claim}
use Rattle.turn_lock.specs.declared.view.Stage.TheVariants.{Idle, Holding}

-- which lock it is, and its base
unfoldable pub lock_id : {T B : Type 0} → TurnLock T B → LockId B
lock_id l = record { table = l.table.shared.table_id; base = l.base.value }

-- how many passes it has
unfoldable pub lock_passes : {T B : Type 0} → TurnLock T B → ℕ
lock_passes l = l.table.shared.key.passes

-- the first of what a seat holds
abbrev pub first_held : {T : Type 0} → List (ℕ × Option T) → Option T
first_held [] = None
first_held (x ∷ xs) = x.1

module _ {T B : Type 0} where
  -- the lock that the pass is of
  unfoldable pub pass_lock : PassOf T B → LockId B
  pass_lock p = record { table = p.seat.table_id; base = p.base.value }

  -- its number, which no other pass of its lock has
  unfoldable pub pass_number : PassOf T B → ℕ
  pass_number p = p.number

  -- the entries that the pass has seen
  unfoldable pub pass_seen : PassOf T B → List Entry
  pass_seen p = p.seat.me.0.seen

  -- its own entries
  unfoldable pub pass_mine : PassOf T B → List Entry
  pass_mine p = p.seat.me.0.mine

  -- the pass is of this lock
  abbrev pub IsPassOf : TurnLock T B → PassOf T B → Type 0
  IsPassOf l p = pass_lock p ≡ lock_id l

  -- it is in no turn
  abbrev pub IsFree : PassOf T B → Type 0
  IsFree p = (p.seat.me.0.stage ≡ Idle) × (p.seat.me.1 ≡ [])

  -- a pass of this lock with this number, in no turn
  pub record IsPassAt (l : TurnLock T B) (number : ℕ) (p : PassOf T B) : Type 0 where
    pub own : IsPassOf l p
    pub free : IsFree p
    pub number_is : pass_number p ≡ number

  -- it is in a turn
  abbrev pub IsInTurn : PassOf T B → Type 0
  IsInTurn p = ((t : ℕ) × (p.seat.me.0.stage ≡ Holding t)) × (p.seat.me.1 ≡ (0, None) ∷ [])

  -- the value of a turn that keeps it in its place
  abbrev pub value_of : PassOf T B → Option T
  value_of p = first_held p.seat.me.1

  -- it is in a turn, and y is the value, which stayed in its place
  abbrev pub IsInTurnWith : T → PassOf T B → Type 0
  IsInTurnWith y p = ((t : ℕ) × (p.seat.me.0.stage ≡ Holding t)) × (p.seat.me.1 ≡ (0, Some y) ∷ [])

  -- of the same lock, with the same number
  abbrev pub IsSamePass : PassOf T B → PassOf T B → Type 0
  IsSamePass p q = (pass_lock q ≡ pass_lock p) × (pass_number q ≡ pass_number p)

  -- a pass that was not used yet
  pub record IsNewPass (l : TurnLock T B) (n : ℕ) (p : PassOf T B) : Type 0 where
    pub at : IsPassAt l n p
    pub open at use *
    pub seen : pass_seen p ≡ []
    pub mine : pass_mine p ≡ []

  -- new passes, numbered in order from 0
  abbrev pub AreNewPasses : TurnLock T B → List (PassOf T B) → Type 0
  AreNewPasses l ps =
      (k : ℕ) (d : PassOf T B) → k < length ps → IsNewPass l k (slice_index_or ps k d)

  -- the pass has seen a beginning of these entries, and those with its number are its own
  pub record IsPartOf (es : List Entry) (p : PassOf T B) : Type 0 where
    pub seen : Begins (pass_seen p) es
    pub mine : own (pass_number p) es ≡ pass_mine p

  -- The entries are those that the passes made: each is of one pass, and is its own once
  pub record AreWhole (es : List Entry) (ps : List (PassOf T B)) : Type 0 where
    pub parts : All (IsPartOf es) ps
    pub no_more : (n : ℕ) → All (λ p. pass_number p ≢ n) ps → own n es ≡ []
    pub counted : length es ≡ total (λ p. length (pass_mine p)) ps

  abbrev pub pass_claim : PassOf T B → Claim
  pass_claim p = claim_of p.seat.me.0

  -- the claims of the passes, the last first
  abbrev pub claims_back : List (PassOf T B) → List Claim
  claims_back [] = []
  claims_back (p ∷ ps) = claims_back ps ++ pass_claim p ∷ []
