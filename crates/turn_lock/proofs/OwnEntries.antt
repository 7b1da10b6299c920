-- What a pass owns of a history, as it grows.
use Rattle.std.proofs.Common.{◌≡◌, ℕ, suc, ◌≤◌, ◌<◌, ◌≢◌, Bool, eqb, leb, List, [], ◌∷◌, ◌++◌, length, refl, sym, ap, ◌∙◌, subst, arith, if◌then◌else◌, append_assoc, append-nil, eq-eqb, ne_eqb}
use Rattle.std.proofs.lemmas.Bool.{le-leb}
use Rattle.std.proofs.lemmas.List.Elements.{filter-append}
use mathlib.Core.Logic.{dite}
use native.Mathlib.Decide.{ℕ_discrete}
use Rattle.turn_lock.specs.Histories.{Entry, own, Begins}
use Rattle.turn_lock.specs.Views.{taken_in, has_number, HasTicket, claim_of, turned}
use Rattle.turn_lock.specs.Rule.{Fits, Each, Live, Knows}
use Rattle.turn_lock.specs.declared.view.Claim.{Claim}
use Rattle.turn_lock.specs.declared.view.View.{View}
use Rattle.turn_lock.specs.declared.view.Stage.{Stage}
use Rattle.turn_lock.specs.declared.view.Stage.TheVariants.{Spent, Issuer, Idle, Waiting, Holding}

abbrev pub chosen_if : Bool → ℕ
chosen_if b = if b then 1 else 0

-- a test that counts for nothing fails
pub apart_of : (n k : ℕ) → chosen_if (eqb n k) ≡ 0 → n ≢ k
apart_of n k z e = let w : chosen_if (eqb n k) ≡ 1 = ap chosen_if (eq-eqb n k e) in absurd (omega arith)

pub same_counts : (n : ℕ) → chosen_if (eqb n n) ≡ 1
same_counts n = ap chosen_if (eq-eqb n n refl)

pub from_counts : (m n : ℕ) → m ≤ n → chosen_if (leb m n) ≡ 1
from_counts m n h = ap chosen_if (le-leb m n h)

module _ (n : ℕ) (op : List ℕ) where
  abbrev e : List Entry
  e = (n, op) ∷ []

  own_one : own n e ≡ e
  own_one = ap (λ (b : Bool). if b then e else []) (eq-eqb n n refl)

  own_none : (m : ℕ) → n ≢ m → own m e ≡ []
  own_none m d = ap (λ (b : Bool). if b then e else []) (ne_eqb n m d)

  pub own_same : (es : List Entry) → own n (es ++ e) ≡ own n es ++ e
  own_same es = filter-append (λ (x : Entry). eqb x.0 n) es e ∙ ap (λ z. own n es ++ z) own_one

  pub own_other : (m : ℕ) (es : List Entry) → n ≢ m → own m (es ++ e) ≡ own m es
  own_other m es d = filter-append (λ (x : Entry). eqb x.0 m) es e ∙ (ap (λ z. own m es ++ z) (own_none m d) ∙ append-nil (own m es))

  begins_more : (xs es : List Entry) → Begins xs es → Begins xs (es ++ e)
  begins_more xs es b = (b.0 ++ e, sym (append_assoc xs b.0 e) ∙ ap (λ z. z ++ e) b.1)

  fits_more : (es : List Entry) (c : Claim) → n ≢ c.number → Fits es c → Fits (es ++ e) c
  fits_more es c d f = (begins_more c.seen es f.0, own_other c.number es d ∙ f.1, f.2)

  all_fit_more : (es : List Entry) (cs : List Claim) → taken_in n cs ≡ 0 → Each (Fits es) cs → Each (Fits (es ++ e)) cs
  all_fit_more es [] z f = tt
  all_fit_more es (c ∷ cs) z f = (fits_more es c (apart_of n c.number (omega arith)) f.0, all_fit_more es cs (omega arith) f.1)

  module _ {B : Type 0} (base : B) (es : List Entry) (passes : ℕ) where
    live_more : (v : View B) → n ≢ v.number → taken_in n v.took ≡ 0 → Live base es v passes → Live base (es ++ e) v passes
    live_more v d z k = record { based = k.based; numbered = k.numbered; counted = k.counted; self = fits_more es (claim_of v) d k.self; others = all_fit_more es v.took z k.others }

    -- an entry of another pass changes nothing that a seat knows
    pub knows_more : (drawn : ℕ) (v : View B) (st : Stage) → has_number n v.number st ≡ 0 → taken_in n v.took ≡ 0 → (HasTicket (length es) st → ⊥) → length (es ++ e) ≡ suc (length es)
        → Knows base es v passes drawn st → Knows base (es ++ e) v passes drawn st
    knows_more drawn v Spent z y lone long k = k
    knows_more drawn v (Issuer m) z y lone long k = record {
      based = k.based;
      counted = k.counted;
      alone = k.alone;
      unmade = λ i le. own_other i es (λ same. let w : chosen_if (leb m n) ≡ 1 = from_counts m n (omega arith) in absurd (omega arith)) ∙ k.unmade i le;
    }
    knows_more drawn v Idle z y lone long k = live_more v (apart_of n v.number z) y k
    knows_more drawn v (Waiting t) z y lone long k = (live_more v (apart_of n v.number z) y k.0, dite (ℕ_discrete (length es) t) (λ same. absurd (lone same)) (λ other. let a = k.1 in omega arith), k.2)
    knows_more drawn v (Holding t) z y lone long k = absurd (lone (sym k.1))

    -- the entry of a pass itself
    pub knows_own : (v : View B) → n ≡ v.number → taken_in n v.took ≡ 0 → v.seen ≡ es → Live base es v passes → Live base (es ++ e) (turned v op) passes
    knows_own v same z all k = record {
      based = k.based;
      numbered = k.numbered;
      counted = k.counted;
      self = subst (λ (x : ℕ). Begins (v.seen ++ (x, op) ∷ []) (es ++ e) × (own x (es ++ e) ≡ v.mine ++ (x, op) ∷ []) × (own x (v.seen ++ (x, op) ∷ []) ≡ v.mine ++ (x, op) ∷ [])) same (
        ([], append-nil (v.seen ++ e) ∙ ap (λ z. z ++ e) all),
        own_same es ∙ ap (λ z. z ++ e) (subst (λ (x : ℕ). own x es ≡ v.mine) (sym same) k.self.1),
        own_same v.seen ∙ ap (λ z. z ++ e) (subst (λ (x : ℕ). own x v.seen ≡ v.mine) (sym same) k.self.2),
      );
      others = all_fit_more es v.took z k.others;
    }

module _ {B : Type 0} (base : B) (es : List Entry) (passes drawn : ℕ) (v : View B) where
  -- a ticket that is out was drawn
  pub ticket_below : (st : Stage) (t : ℕ) → Knows base es v passes drawn st → HasTicket t st → t < drawn
  ticket_below Spent t k h = absurd h
  ticket_below (Issuer m) t k h = absurd h
  ticket_below Idle t k h = absurd h
  ticket_below (Waiting u) t k h = let a = k.2 in omega arith
  ticket_below (Holding u) t k h = let a = k.2 in omega arith

  -- one more ticket is drawn
  pub more_drawn : (st : Stage) → Knows base es v passes drawn st → Knows base es v passes (suc drawn) st
  more_drawn Spent k = k
  more_drawn (Issuer m) k = k
  more_drawn Idle k = k
  more_drawn (Waiting u) k = (k.0, k.1, (let a = k.2 in omega arith))
  more_drawn (Holding u) k = (k.0, k.1, (let a = k.2 in omega arith), k.3)
