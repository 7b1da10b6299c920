-- What a seat of a lock's table knows: its stage, its ticket, its number, and what each step makes
-- of it.
use Rattle.std.specs.Prelude.{◌≡◌, ℕ, ◌+◌, ◌-◌, ◌==◌, nat_le, if◌then◌else◌, List, [], ◌∷◌, ◌++◌, Some, None}
use Rattle.turn_lock.specs.Histories.{Entry}
use Rattle.turn_lock.specs.declared.view.View.{View}
use Rattle.turn_lock.specs.declared.view.Claim.{Claim}
use Rattle.turn_lock.specs.declared.view.Stage.{Stage}
use Rattle.turn_lock.specs.declared.view.Stage.TheVariants.{Spent, Issuer, Idle, Waiting, Holding}

-- how many tickets a seat has
abbrev pub tickets : Stage → ℕ
tickets Spent = 0
tickets (Issuer m) = 0
tickets Idle = 0
tickets (Waiting t) = 1
tickets (Holding t) = 1

-- the seat has the ticket t
abbrev pub HasTicket : ℕ → Stage → Type 0
HasTicket t Spent = ⊥
HasTicket t (Issuer m) = ⊥
HasTicket t Idle = ⊥
HasTicket t (Waiting u) = t ≡ u
HasTicket t (Holding u) = t ≡ u

-- 1 where a seat has the number n itself, else 0; an issuer has all that it has not issued yet
abbrev pub has_number : ℕ → ℕ → Stage → ℕ
has_number n number Spent = 0
has_number n number (Issuer m) = if nat_le m n then 1 else 0
has_number n number Idle = if n == number then 1 else 0
has_number n number (Waiting t) = if n == number then 1 else 0
has_number n number (Holding t) = if n == number then 1 else 0

-- the number that an issuer issues next
abbrev pub next_of : Stage → ℕ
next_of (Issuer m) = m
next_of Spent = 0
next_of Idle = 0
next_of (Waiting t) = 0
next_of (Holding t) = 0

-- f of each, added up
abbrev pub total : {A : Type 0} → (A → ℕ) → List A → ℕ
total f [] = 0
total f (x ∷ xs) = f x + total f xs

-- 1 where the claim has the number n, else 0
abbrev pub is_number : ℕ → Claim → ℕ
is_number n c = if n == c.number then 1 else 0

-- how many of these claims have the number n
abbrev pub taken_in : ℕ → List Claim → ℕ
taken_in n cs = total (is_number n) cs

module _ {B : Type 0} where
  -- how often a seat has the number n, itself or by those that it took in
  abbrev pub claims : ℕ → View B → ℕ
  claims n v = has_number n v.number v.stage + taken_in n v.took

  abbrev pub waits : View B → ℕ
  waits v = tickets v.stage

  abbrev pub parts_of : View B → ℕ
  parts_of v = v.parts

  -- the same at another stage
  abbrev pub at_stage : View B → Stage → View B
  at_stage v s = record v { stage = s }

  -- it has the turn with the ticket t, and has seen all entries
  abbrev pub holding : View B → ℕ → List Entry → View B
  holding v t es = record v { stage = Holding t; seen = es }

  -- after a turn with this operation
  abbrev pub turned : View B → List ℕ → View B
  turned v op = record v {
    stage = Idle;
    seen = v.seen ++ (v.number, op) ∷ [];
    mine = v.mine ++ (v.number, op) ∷ [];
  }

  -- it has so many passes to issue, and the number m next
  abbrev pub issuer : B → ℕ → ℕ → View B
  issuer b parts m = record {
    base = Some b;
    parts = parts;
    stage = Issuer m;
    number = 0;
    seen = [];
    mine = [];
    took = [];
  }

  -- what is left of an issuer that issued a pass
  abbrev pub issuer_after : View B → View B
  issuer_after v = record v { parts = v.parts - 1; stage = Issuer (next_of v.stage + 1) }

  -- the pass that an issuer issues
  abbrev pub issued : View B → View B
  issued v = record {
    base = v.base;
    parts = 1;
    stage = Idle;
    number = next_of v.stage;
    seen = [];
    mine = [];
    took = [];
  }

  -- a seat that was joined to another
  abbrev pub spent : View B
  spent = record {
    base = None;
    parts = 0;
    stage = Spent;
    number = 0;
    seen = [];
    mine = [];
    took = [];
  }

  -- what a pass claims of the history
  abbrev pub claim_of : View B → Claim
  claim_of v = record { number = v.number; seen = v.seen; mine = v.mine }

  -- v, which took in w and all that w took in
  abbrev pub joined : View B → View B → View B
  joined v w = record v { parts = v.parts + w.parts; took = v.took ++ claim_of w ∷ w.took }

-- what a seat claims, and what it took in
abbrev pub claims_of : {B : Type 0} → View B → List Claim
claims_of v = claim_of v ∷ v.took

-- an idle seat that took in no other
pub record IsAlone {B : Type 0} (v : View B) : Type 0 where
  pub free : v.stage ≡ Idle
  pub one : v.parts ≡ 1
  pub none_taken : v.took ≡ []
