-- Splitting and joining seats keeps the rule, and what the seat that stands for all passes knows at the end.
use Rattle.std.proofs.Common.{◌≡◌, ℕ, zero, suc, ◌+◌, ◌-◌, ◌<◌, ◌≤◌, ◌≢◌, ◌⊎◌, true, false, eqb, leb, List, [], ◌∷◌, ◌++◌, set, Option, Some, refl, sym, ap, ◌∙◌, subst, inl, inr, ⊎_elim, arith, length-append, eq-eqb, ne_eqb}
use Rattle.std.proofs.lemmas.Bool.{le-leb}
use Rattle.std.proofs.lemmas.List.Elements.{All-nil}
use Rattle.std.proofs.lemmas.Bool.Decides.{leb_tells}
use mathlib.Core.Option as maybe
use mathlib.Core.Logic.{dite}
use native.Mathlib.Decide.{ℕ_discrete}
use lib.ListN.{get_elem?}
use Rattle.atomic_table.specs.Table.{State, Me, opening, Splits, Joins, Final, Seen}
use Rattle.atomic_table.proofs.Lists.{set_else, at_snoc, at_longer}
use Rattle.turn_lock.specs.Histories.{Entry, own}
use Rattle.turn_lock.specs.Views.{total, tickets, waits, parts_of, claims, is_number, taken_in, has_number, HasTicket, at_stage, claim_of, issuer, spent, issuer_after, issued, joined, claims_of}
use Rattle.turn_lock.specs.Rule.{Fits, Each, Live, Issues, Knows, Placed, Kept, Ends}
use Rattle.turn_lock.specs.declared.view.View.{View}
use Rattle.turn_lock.specs.declared.view.Stage.{Stage}
use Rattle.turn_lock.specs.declared.view.Stage.TheVariants.{Spent, Issuer, Idle, Waiting, Holding}
use Rattle.turn_lock.proofs.Totals.{total_set, total_one, total_two, total-append, total_or}
use Rattle.turn_lock.proofs.OwnEntries.{chosen_if}
use Rattle.turn_lock.proofs.TurnSteps.{seats_set, apart_keep, placed_set}

pub Each-append : {A : Type 0} (P : A → Type 0) (xs ys : List A) → Each P xs → Each P ys → Each P (xs ++ ys)
Each-append P [] ys p q = q
Each-append P (x ∷ xs) ys p q = (p.0, Each-append P xs ys p.1 q)

-- the numbers from m on are m and those from the next on
cut_numbers : (m n : ℕ) → chosen_if (leb (m + 1) n) + chosen_if (eqb n m) ≡ chosen_if (leb m n)
cut_numbers m n = dite (ℕ_discrete n m)
    (λ e. let a : chosen_if (leb (m + 1) n) ≡ 0 = ap chosen_if (above e (leb_tells (m + 1) n)) in let b : chosen_if (eqb n m) ≡ 1 = ap chosen_if (eq-eqb n m e) in let c : chosen_if (leb m n) ≡ 1 = ap chosen_if (le-leb m n (omega arith)) in omega arith)
    (λ d. let b : chosen_if (eqb n m) ≡ 0 = ap chosen_if (ne_eqb n m d) in ⊎_elim
    (λ (h : (leb (m + 1) n ≡ true) × (m + 1 ≤ n)). let a : chosen_if (leb (m + 1) n) ≡ 1 = ap chosen_if h.0 in let t = h.1 in let c : chosen_if (leb m n) ≡ 1 = ap chosen_if (le-leb m n (omega arith)) in omega arith)
    (λ (h : (leb (m + 1) n ≡ false) × (n < m + 1)). let a : chosen_if (leb (m + 1) n) ≡ 0 = ap chosen_if h.0 in let t = h.1 in let c : chosen_if (leb m n) ≡ 0 = ap chosen_if (below (leb_tells m n) (omega arith)) in omega arith)
    (leb_tells (m + 1) n))
  where
    above : n ≡ m → ((leb (m + 1) n ≡ true) × (m + 1 ≤ n)) ⊎ ((leb (m + 1) n ≡ false) × (n < m + 1)) → leb (m + 1) n ≡ false
    above e t = ⊎_elim (λ (h : (leb (m + 1) n ≡ true) × (m + 1 ≤ n)). let a = h.1 in absurd (omega arith)) (λ h. h.0) t

    below : ((leb m n ≡ true) × (m ≤ n)) ⊎ ((leb m n ≡ false) × (n < m)) → n < m → leb m n ≡ false
    below t lt = ⊎_elim (λ (h : (leb m n ≡ true) × (m ≤ n)). let a = h.1 in absurd (omega arith)) (λ h. h.0) t

-- an issuer that issued one more of so many passes
pub issues_on : {S B : Type 0} (b : B) (count n : ℕ) (old now : Me S (View B)) → old ≡ (issuer b (count - n) n, []) → now ≡ (issuer_after old.0, old.1) → now ≡ (issuer b (count - (n + 1)) (n + 1), [])
issues_on {S} {B} b count n old now was is =
    let h : (count - n) - 1 ≡ count - (n + 1) = omega arith in
    subst (λ (p : ℕ). now ≡ (issuer b p (n + 1), [])) h (subst (λ (m : Me S (View B)). now ≡ (issuer_after m.0, m.1)) was is)

-- an idle seat that takes in a seat of one pass stands for one more, and claims what that one does
pub took_in : {S B : Type 0} (old now : Me S (View B)) (w : View B) → old.0.stage ≡ Idle → old.1 ≡ [] → w.parts ≡ 1 → w.took ≡ [] → now ≡ (joined old.0 w, old.1)
    → (now.0.stage ≡ Idle) × (now.1 ≡ []) × (now.0.parts ≡ suc old.0.parts) × (claims_of now.0 ≡ claims_of old.0 ++ claim_of w ∷ [])
took_in old now w free empty one none e = (
  ap (λ m. m.0.stage) e ∙ free,
  ap (λ m. m.1) e ∙ empty,
  (let n = ap (λ m. m.0.parts) e in omega arith),
  ap (λ m. claims_of m.0) e ∙ ap (λ t. claims_of old.0 ++ claim_of w ∷ t) none,
)

module _ {T B : Type 0} (stands : T → B → List Entry → Type 0) (base : B) (passes : ℕ) where
  abbrev St : Type 0
  St = State (Option T) (View B)

  abbrev Rule : St → Type 0
  Rule = Kept stands base passes

  -- the table at the start
  pub begins : (value : T) → passes ≤ 1024 → stands value base [] → Rule (opening (0 ∷ 0 ∷ []) (Some value ∷ []) (issuer base passes 0))
  begins value few stood = record {
    entries = [];
    drawn = 0;
    words = refl;
    waiting = refl;
    parts = omega arith;
    few = few;
    below = All-nil (λ (e : Entry). e.0 < passes);
    numbers = λ n. let h : chosen_if (leb 0 n) ≡ 1 = ap chosen_if (le-leb 0 n (omega arith)) in omega arith;
    each = λ i v at. first i v at;
    apart = λ i j t v w at_i at_j has_i has_j. absurd (ticketless i v at_i t has_i);
    place = inl (value, refl, stood);
  }
    where
      knows : Knows base [] (issuer base passes 0) passes 0 (Issuer 0)
      knows = record { based = refl; counted = omega arith; alone = refl; unmade = λ n _. refl }

      first : (i : ℕ) (v : View B) → get_elem? (issuer base passes 0 ∷ []) i ≡ maybe.some v → Knows base [] v passes 0 v.stage
      first zero v at = subst (λ (z : View B). Knows base [] z passes 0 z.stage) (maybe.some-injective (issuer base passes 0) v at) knows
      first (suc i) v at = absurd (maybe.some-ne-none v (sym at))

      ticketless : (i : ℕ) (v : View B) → get_elem? (issuer base passes 0 ∷ []) i ≡ maybe.some v → (t : ℕ) → HasTicket t v.stage → ⊥
      ticketless zero v at t has = subst (λ (z : View B). HasTicket t z.stage) (sym (maybe.some-injective (issuer base passes 0) v at)) has
      ticketless (suc i) v at t has = absurd (maybe.some-ne-none v (sym at))

  placed_snoc : (es : List Entry) (homes : List (maybe.Option (Option T))) (vs : List (View B)) (w : View B) → Placed stands base es homes vs → Placed stands base es homes (vs ++ w ∷ [])
  placed_snoc es homes vs w p = ⊎_elim (λ h. inl h)
      (λ (o : (i : ℕ) × (u : View B) × (t : ℕ) × (homes ≡ maybe.none ∷ []) × (get_elem? vs i ≡ maybe.some u) × (u.stage ≡ Holding t)). inr (o.0, o.1, o.2, o.3, at_longer vs (w ∷ []) o.0 o.1 o.4, o.5)) p

  pub splits : (id m : ℕ) (v : View B) → v.stage ≡ Issuer m → 0 < v.parts → Splits Rule id v (issuer_after v) (issued v)
  splits id m v gives some s k at = let es : List Entry = k.entries in let left : View B = issuer_after v in let right : View B = issued v in let vs : List (View B) = set s.views id left in
      let was : Issues base es v passes m = subst (Knows base es v passes k.drawn) gives (k.each id v at) in
      let next : Rattle.turn_lock.specs.Views.next_of v.stage ≡ m = ap Rattle.turn_lock.specs.Views.next_of gives in
      let none_now : tickets v.stage ≡ 0 = ap tickets gives in record {
        entries = es;
        drawn = k.drawn;
        words = k.words;
        waiting = let x = total_set waits s.views id v left at in let y = total-append waits vs (right ∷ []) in let o = k.waiting in omega arith;
        parts = let x = total_set parts_of s.views id v left at in let y = total-append parts_of vs (right ∷ []) in let o = k.parts in omega arith;
        few = k.few;
        below = k.below;
        numbers = λ n. let x = total_set (claims n) s.views id v left at in let y = total-append (claims n) vs (right ∷ []) in let o = k.numbers n in
            let a : claims n v ≡ chosen_if (leb m n) + taken_in n v.took = ap (λ (z : Stage). has_number n v.number z + taken_in n v.took) gives in
            let b : claims n left ≡ chosen_if (leb (m + 1) n) + taken_in n v.took = ap (λ (z : ℕ). chosen_if (leb (z + 1) n) + taken_in n v.took) next in
            let c : claims n right ≡ chosen_if (eqb n m) + 0 = ap (λ (z : ℕ). chosen_if (eqb n z) + 0) next in
            let d = cut_numbers m n in omega arith;
        each = λ j d at_j. ⊎_elim (λ (h : get_elem? vs j ≡ maybe.some d). seats_set (λ u. Knows base es u passes k.drawn u.stage) s.views id left
            (subst (λ (z : ℕ). Issues base es left passes (z + 1)) (sym next)
            record { based = was.based; counted = (let q = was.counted in omega arith); alone = was.alone; unmade = λ n le. was.unmade n (omega arith) })
            (λ i u _ at_i. k.each i u at_i) j d h)
            (λ (h : right ≡ d). subst (λ (z : View B). Knows base es z passes k.drawn z.stage) h
            record { based = was.based; numbered = (let q = was.counted in omega arith); counted = refl; self = ((es, refl), subst (λ (z : ℕ). own z es ≡ []) (sym next) (was.unmade m (omega arith)), refl); others = tt })
            (at_snoc vs right d j at_j);
        apart = λ i j t u w at_i at_j has_i has_j. ⊎_elim
            (λ (p : get_elem? vs i ≡ maybe.some u). ⊎_elim
            (λ (q : get_elem? vs j ≡ maybe.some w). apart_keep s.views id v left k.apart at (λ x h. absurd h) i j t u w p q has_i has_j)
            (λ (q : right ≡ w). absurd (subst (λ (z : View B). HasTicket t z.stage) (sym q) has_j)) (at_snoc vs right w j at_j))
            (λ (p : right ≡ u). absurd (subst (λ (z : View B). HasTicket t z.stage) (sym p) has_i)) (at_snoc vs right u i at_i);
        place = placed_snoc es s.homes vs right (placed_set stands base passes es s.homes s.views id v left at (λ t h. let bad : Issuer m ≡ Holding t = sym gives ∙ h in cc) k.place);
      }

  pub joins : (id other : ℕ) (v w : View B) → v.stage ≡ Idle → w.stage ≡ Idle → Joins Rule id v other w (joined v w) spent
  joins id other v w free_v free_w s k at apart at_w = let es : List Entry = k.entries in let both : View B = joined v w in let vs : List (View B) = set s.views id both in
      let there : get_elem? s.views other ≡ maybe.some w = sym (set_else s.views id other both apart) ∙ at_w in
      let mine : Live base es v passes = subst (Knows base es v passes k.drawn) free_v (k.each id v at) in
      let theirs : Live base es w passes = subst (Knows base es w passes k.drawn) free_w (k.each other w there) in
      let t_v : tickets v.stage ≡ 0 = ap tickets free_v in let t_w : tickets w.stage ≡ 0 = ap tickets free_w in record {
        entries = es;
        drawn = k.drawn;
        words = k.words;
        waiting = let x = total_set waits s.views id v both at in let y = total_set waits vs other w spent at_w in let o = k.waiting in omega arith;
        parts = let x = total_set parts_of s.views id v both at in let y = total_set parts_of vs other w spent at_w in let o = k.parts in omega arith;
        few = k.few;
        below = k.below;
        numbers = λ n. let x = total_set (claims n) s.views id v both at in let y = total_set (claims n) vs other w spent at_w in let o = k.numbers n in
            let z = total-append (is_number n) v.took (claim_of w ∷ w.took) in let a : has_number n w.number w.stage ≡ is_number n (claim_of w) = ap (has_number n w.number) free_w in omega arith;
        each = seats_set (λ d. Knows base es d passes k.drawn d.stage) vs other spent (refl, refl) (λ j d _ at_j. seats_set (λ u. Knows base es u passes k.drawn u.stage) s.views id both
            (subst (Knows base es both passes k.drawn) (sym free_v) record {
              based = mine.based;
              numbered = mine.numbered;
              counted = let p = mine.counted in let q = theirs.counted in let r = length-append v.took (claim_of w ∷ w.took) in omega arith;
              self = mine.self;
              others = Each-append (Fits es) v.took (claim_of w ∷ w.took) mine.others (theirs.self, theirs.others);
            })
            (λ i u _ at_i. k.each i u at_i) j d at_j);
        apart = apart_keep vs other w spent (apart_keep s.views id v both k.apart at (λ x h. h)) at_w (λ x h. absurd h);
        place = placed_set stands base passes es s.homes vs other w spent at_w (λ t h. let bad : Idle ≡ Holding t = sym free_w ∙ h in cc)
            (placed_set stands base passes es s.homes s.views id v both at (λ t h. let bad : Idle ≡ Holding t = sym free_v ∙ h in cc) k.place);
      }

  -- the other seats have no part, and so no entry
  pub ends : (s : St) (k : Rule s) (id : ℕ) (v : View B) → get_elem? s.views id ≡ maybe.some v → v.stage ≡ Idle → v.parts ≡ passes → (y : T) × (s.homes ≡ maybe.some (Some y) ∷ []) × Ends stands base v y
  ends s k id v at free all = let es : List Entry = k.entries in let mine : Live base es v passes = subst (Knows base es v passes k.drawn) free (k.each id v at) in
      let home : (y : T) × (s.homes ≡ maybe.some (Some y) ∷ []) × stands y base es = ⊎_elim (λ h. h)
      (λ (o : (i : ℕ) × (u : View B) × (t : ℕ) × (s.homes ≡ maybe.none ∷ []) × (get_elem? s.views i ≡ maybe.some u) × (u.stage ≡ Holding t)). dite (ℕ_discrete o.0 id)
      (λ same. let bad : Idle ≡ Holding o.2 = sym free ∙ (ap (λ (z : View B). z.stage) (maybe.some-injective v o.1 (sym at ∙ (ap (get_elem? s.views) (sym same) ∙ o.4))) ∙ o.5) in absurd (cc))
      (λ other. let theirs : Knows base es o.1 passes k.drawn (Holding o.2) = subst (Knows base es o.1 passes k.drawn) o.5 (k.each o.0 o.1 o.4) in let c = theirs.0.counted in let z = none_else o.0 o.1 other o.4 in absurd (omega arith)))
      k.place in (
        home.0,
        home.1,
        record {
          entries = es;
          standing = home.2;
          self = mine.self;
          others = mine.others;
          once = λ n. (let a = total_one (claims n) s.views id v at in let b = k.numbers n in omega arith);
          no_more = λ n none_mine. ⊎_elim (λ (z : total (claims n) s.views ≡ 0). let o = k.numbers n in absurd (omega arith)) (λ q. q)
              (total_or (claims n) s.views (own n es ≡ []) (λ i u at_i. dite (ℕ_discrete i id)
              (λ same. inl (ap (claims n) (maybe.some-injective u v (sym at_i ∙ (ap (get_elem? s.views) same ∙ at))) ∙ none_mine))
              (λ other. idle_seat n u u.stage (none_else i u other at_i) (k.each i u at_i))));
        },
      )
    where
      none_else : (i : ℕ) (u : View B) → i ≢ id → get_elem? s.views i ≡ maybe.some u → u.parts ≡ 0
      none_else i u other at_i = let p = total_two parts_of s.views i id u v other at_i at in let q = k.parts in omega arith

      idle_seat : (n : ℕ) (u : View B) (st : Stage) → u.parts ≡ 0 → Knows base k.entries u passes k.drawn st → (has_number n u.number st + taken_in n u.took ≡ 0) ⊎ (own n k.entries ≡ [])
      idle_seat n u Spent none_of x = inl (let z : taken_in n u.took ≡ 0 = ap (taken_in n) x.1 in omega arith)
      idle_seat n u (Issuer m) none_of x = ⊎_elim (λ (h : (leb m n ≡ true) × (m ≤ n)). inr (x.unmade n h.1))
          (λ (h : (leb m n ≡ false) × (n < m)). inl (let z : taken_in n u.took ≡ 0 = ap (taken_in n) x.alone in let w : chosen_if (leb m n) ≡ 0 = ap chosen_if h.0 in omega arith)) (leb_tells m n)
      idle_seat n u Idle none_of x = let c = x.counted in absurd (omega arith)
      idle_seat n u (Waiting t) none_of x = let c = x.0.counted in absurd (omega arith)
      idle_seat n u (Holding t) none_of x = let c = x.0.counted in absurd (omega arith)

  pub finals : (id : ℕ) (v : View B) (ws : List ℕ) (xs : List (Option T)) → v.stage ≡ Idle → v.parts ≡ passes → Final (Seen Rule id v) ws xs → (y : T) × (get_elem? xs 0 ≡ maybe.some (Some y)) × Ends stands base v y
  finals id v ws xs free all f = let e = ends f.0 f.1.0 id v f.1.1 free all in (e.0, f.4 0 (Some e.0) (ap (λ l. get_elem? l 0) e.1), e.2)
