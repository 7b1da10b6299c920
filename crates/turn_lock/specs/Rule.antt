-- The rule of a lock's table. Word 0 counts the tickets that were drawn, and word 1 the turns that
-- were made, both modulo 2 ^ 64. The one slot has the value.
use Rattle.std.specs.Prelude.{◌≡◌, ℕ, suc, ◌+◌, ◌%◌, ◌<◌, ◌≤◌, List, [], ◌∷◌, length, Option, Some, ◌⊎◌}
use mathlib.Core.Option as maybe
use lib.ListN.{get_elem?}
use Rattle.atomic_table.specs.Table.{State}
use Rattle.turn_lock.specs.Histories.{Entry, own, Begins, AreNumberedBelow}
use Rattle.turn_lock.specs.Views.{HasTicket, total, claims, waits, parts_of, claim_of}
use Rattle.turn_lock.specs.declared.view.View.{View}
use Rattle.turn_lock.specs.declared.view.Claim.{Claim}
use Rattle.turn_lock.specs.declared.view.Stage.{Stage}
use Rattle.turn_lock.specs.declared.view.Stage.TheVariants.{Spent, Issuer, Idle, Waiting, Holding}

-- a claim is true of the entries: it has seen a beginning of them, and its own are those with its
-- number
abbrev pub Fits : List Entry → Claim → Type 0
Fits es c = Begins c.seen es × (own c.number es ≡ c.mine) × (own c.number c.seen ≡ c.mine)

-- P holds of each
abbrev pub Each : {A : Type 0} → (A → Type 0) → List A → Type 0
Each P [] = Unit {0}
Each P (x ∷ xs) = P x × Each P xs

module _ {B : Type 0} (base : B) (es : List Entry) (v : View B) where
  -- the seat stands for a pass and those that it took in, and what they claim is true
  pub record Live (passes : ℕ) : Type 0 where
    pub based : v.base ≡ Some base
    pub numbered : v.number < passes
    pub counted : v.parts ≡ suc (length v.took)
    pub self : Fits es (claim_of v)
    pub others : Each (Fits es) v.took

  -- the seat has the passes from m on to issue, and none of these has made an entry
  pub record Issues (passes m : ℕ) : Type 0 where
    pub based : v.base ≡ Some base
    pub counted : m + v.parts ≡ passes
    pub alone : v.took ≡ []
    pub unmade : (n : ℕ) → m ≤ n → own n es ≡ []

  -- What a seat at this stage knows: tickets out are those from the turns made to the tickets
  -- drawn, and the one that has the turn has seen all entries
  abbrev pub Knows : ℕ → ℕ → Stage → Type 0
  Knows passes drawn Spent = (v.parts ≡ 0) × (v.took ≡ [])
  Knows passes drawn (Issuer m) = Issues passes m
  Knows passes drawn Idle = Live passes
  Knows passes drawn (Waiting t) = Live passes × (length es ≤ t) × (t < drawn)
  Knows passes drawn (Holding t) = Live passes × (t ≡ length es) × (t < drawn) × (v.seen ≡ es)

module _ {T B : Type 0} (stands : T → B → List Entry → Type 0) (base : B) where
  -- the value is at home and stands for the entries, or it is out with the seat that has the turn
  abbrev pub Placed : List Entry → List (maybe.Option (Option T)) → List (View B) → Type 0
  Placed es homes views = ((y : T) × (homes ≡ maybe.some (Some y) ∷ []) × stands y base es)
      ⊎ ((i : ℕ) × (v : View B) × (t : ℕ) × (homes ≡ maybe.none ∷ [])
      × (get_elem? views i ≡ maybe.some v) × (v.stage ≡ Holding t))

  -- what holds between any two steps
  pub record Kept (passes : ℕ) (s : State (Option T) (View B)) : Type 0 where
    pub entries : List Entry
    pub drawn : ℕ
    pub words : s.words ≡ drawn % 18446744073709551616 ∷ length entries % 18446744073709551616 ∷ []
    -- each ticket that was drawn is spent, or is out with one seat
    pub waiting : drawn ≡ length entries + total waits s.views
    pub parts : total parts_of s.views ≡ passes
    pub few : passes ≤ 1024
    pub below : AreNumberedBelow passes entries
    -- each number is claimed once
    pub numbers : (n : ℕ) → total (claims n) s.views ≡ 1
    pub each : (i : ℕ) (v : View B) → get_elem? s.views i ≡ maybe.some v
        → Knows base entries v passes drawn v.stage
    -- no two seats have one ticket
    pub apart : (i j t : ℕ) (v w : View B) → get_elem? s.views i ≡ maybe.some v
        → get_elem? s.views j ≡ maybe.some w → HasTicket t v.stage → HasTicket t w.stage → i ≡ j
    pub place : Placed entries s.homes s.views

  -- a seat that stands for all passes knows all of the history, which the value stands for
  pub record Ends (v : View B) (value : T) : Type 0 where
    pub entries : List Entry
    pub standing : stands value base entries
    pub self : Fits entries (claim_of v)
    pub others : Each (Fits entries) v.took
    pub no_more : (n : ℕ) → claims n v ≡ 0 → own n entries ≡ []
    pub once : (n : ℕ) → claims n v ≤ 1
