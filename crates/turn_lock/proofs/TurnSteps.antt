-- Each step keeps the rule.
use Rattle.std.proofs.Common.{◌≡◌, ℕ, suc, ◌+◌, ◌%◌, ◌^◌, ◌<◌, ◌≤◌, ◌≢◌, List, [], ◌∷◌, ◌++◌, length, get_or, set, Option, Some, refl, sym, ap, ◌∙◌, subst, inl, inr, ⊎_elim, arith, length-append, append-nil}
use Rattle.std.proofs.Math.Nat.{mod-add-mod}
use Rattle.std.proofs.lemmas.List.Elements.{All-push, All-weaker}
use mathlib.Core.Option as maybe
use mathlib.Core.Logic.{dite}
use native.Mathlib.Decide.{ℕ_discrete}
use lib.ListN.{get_elem?}
use lib.Seq.{set-get_or}
use Rattle.atomic_table.specs.Table.{State, Me, step, keeps, takes, gives, rest, stepped, Allows}
use Rattle.atomic_table.proofs.Lists.{at_set, set_again, set_else, one_turn}
use Rattle.turn_lock.specs.Histories.{Entry, AreNumberedBelow}
use Rattle.turn_lock.specs.Views.{total, tickets, waits, parts_of, claims, taken_in, has_number, HasTicket, at_stage, holding, turned}
use Rattle.turn_lock.specs.Rule.{Live, Knows, Placed, Kept}
use Rattle.turn_lock.specs.Steps.{Comes, DrewTicket, Looked, Raised}
use Rattle.turn_lock.specs.declared.view.View.{View}
use Rattle.turn_lock.specs.declared.view.Stage.{Stage}
use Rattle.turn_lock.specs.declared.view.Stage.TheVariants.{Spent, Issuer, Idle, Waiting, Holding}
use Rattle.turn_lock.proofs.Totals.{total_set, total_one, total_two, total_le, at_set_here}
use Rattle.turn_lock.proofs.OwnEntries.{same_counts, knows_more, knows_own, ticket_below, more_drawn}

abbrev W : ℕ
W = 18446744073709551616

-- a word that counts one more
counts_on : (a : ℕ) → (a % W + 1) % 2 ^ 64 ≡ suc a % W
counts_on a = mod-add-mod a W 1 ∙ ap (λ (n : ℕ). n % W) (let h : a + 1 ≡ suc a = omega arith in h)

-- two words that are set
set_0 : (x y a : ℕ) (ws : List ℕ) → ws ≡ x ∷ y ∷ [] → set ws 0 a ≡ a ∷ y ∷ []
set_0 x y a ws e = ap (λ l. set l 0 a) e

set_1 : (x y a : ℕ) (ws : List ℕ) → ws ≡ x ∷ y ∷ [] → set ws 1 a ≡ x ∷ a ∷ []
set_1 x y a ws e = ap (λ l. set l 1 a) e

-- the bound of the numbers may be greater
below_more : (m n : ℕ) → m ≤ n → (es : List Entry) → AreNumberedBelow m es → AreNumberedBelow n es
below_more m n le es h = All-weaker (λ (e : Entry). e.0 < m) (λ (e : Entry). e.0 < n) (λ e lt. omega arith) es h

module _ {B : Type 0} where
  -- a change of one seat
  pub seats_set : (P : View B → Type 0) (vs : List (View B)) (me : ℕ) (w : View B) → P w → ((j : ℕ) (d : View B) → j ≢ me → get_elem? vs j ≡ maybe.some d → P d)
      → (j : ℕ) (d : View B) → get_elem? (set vs me w) j ≡ maybe.some d → P d
  seats_set P vs me w mine others j d e = ⊎_elim (λ (t : (j ≡ me) × (w ≡ d)). subst P t.1 mine) (λ (t : (j ≢ me) × (get_elem? vs j ≡ maybe.some d)). others j d t.0 t.1) (at_set vs me j w d e)

  abbrev pub Apart : List (View B) → Type 0
  Apart vs = (i j t : ℕ) (v w : View B) → get_elem? vs i ≡ maybe.some v → get_elem? vs j ≡ maybe.some w → HasTicket t v.stage → HasTicket t w.stage → i ≡ j

  apart_set : (vs : List (View B)) (me : ℕ) (w : View B) → Apart vs → ((j t : ℕ) (d : View B) → j ≢ me → get_elem? vs j ≡ maybe.some d → HasTicket t w.stage → HasTicket t d.stage → ⊥) → Apart (set vs me w)
  apart_set vs me w apart fresh i j t u x at_i at_j has_i has_j =
      ⊎_elim (λ (p : (i ≡ me) × (w ≡ u)). ⊎_elim (λ (q : (j ≡ me) × (w ≡ x)). p.0 ∙ sym q.0)
      (λ (q : (j ≢ me) × (get_elem? vs j ≡ maybe.some x)). absurd (fresh j t x q.0 q.1 (subst (λ (z : View B). HasTicket t z.stage) (sym p.1) has_i) has_j)) (at_set vs me j w x at_j))
      (λ (p : (i ≢ me) × (get_elem? vs i ≡ maybe.some u)). ⊎_elim (λ (q : (j ≡ me) × (w ≡ x)). absurd (fresh i t u p.0 p.1 (subst (λ (z : View B). HasTicket t z.stage) (sym q.1) has_j) has_i))
      (λ (q : (j ≢ me) × (get_elem? vs j ≡ maybe.some x)). apart i j t u x p.1 q.1 has_i has_j) (at_set vs me j w x at_j)) (at_set vs me i w u at_i)

  -- the same ticket, or none
  pub apart_keep : (vs : List (View B)) (me : ℕ) (v w : View B) → Apart vs → get_elem? vs me ≡ maybe.some v → ((t : ℕ) → HasTicket t w.stage → HasTicket t v.stage) → Apart (set vs me w)
  apart_keep vs me v w apart at same = apart_set vs me w apart (λ j t d ne at_j has has_j. ne (apart j me t d v at_j at has_j (same t has)))

  restaged : (base : B) (es : List Entry) (passes : ℕ) (v : View B) (st : Stage) → Live base es v passes → Live base es (at_stage v st) passes
  restaged base es passes v st k = record { based = k.based; numbered = k.numbered; counted = k.counted; self = k.self; others = k.others }

module _ {T B : Type 0} (stands : T → B → List Entry → Type 0) (base : B) (passes : ℕ) where
  abbrev Vw : Type 0
  Vw = View B

  abbrev St : Type 0
  St = State (Option T) (View B)

  abbrev M : Type 0
  M = Me (Option T) (View B)

  abbrev Rule : St → Type 0
  Rule = Kept stands base passes

  -- a seat that does not hold the turn changes
  pub placed_set : (es : List Entry) (homes : List (maybe.Option (Option T))) (vs : List (View B)) (me : ℕ) (v w : View B) → get_elem? vs me ≡ maybe.some v → ((t : ℕ) → v.stage ≡ Holding t → ⊥)
      → Placed stands base es homes vs → Placed stands base es homes (set vs me w)
  placed_set es homes vs me v w at not_holding p = ⊎_elim (λ h. inl h)
      (λ (o : (i : ℕ) × (u : View B) × (t : ℕ) × (homes ≡ maybe.none ∷ []) × (get_elem? vs i ≡ maybe.some u) × (u.stage ≡ Holding t)). inr (
        o.0,
        o.1,
        o.2,
        o.3,
        set_else vs me o.0 w (λ (same : o.0 ≡ me). not_holding o.2 (ap (λ (z : View B). z.stage) (maybe.some-injective v o.1 (sym at ∙ (ap (get_elem? vs) (sym same) ∙ o.4))) ∙ o.5)) ∙ o.4,
        o.5,
      ))
      p

  -- no more tickets are out than the lock has passes
  few_out : (s : St) (k : Rule s) → k.drawn ≤ length k.entries + passes
  few_out s k = let w = k.waiting in let p = k.parts in
      let h : total waits s.views ≤ total parts_of s.views = total_le waits parts_of s.views (λ i v at. one v v.stage (k.each i v at)) in omega arith
    where
      one : (v : View B) (st : Stage) → Knows base k.entries v passes k.drawn st → tickets st ≤ v.parts
      one v Spent x = omega arith
      one v (Issuer m) x = omega arith
      one v Idle x = omega arith
      one v (Waiting t) x = let c = x.0.counted in omega arith
      one v (Holding t) x = let c = x.0.counted in omega arith

  pub draws : (slots id : ℕ) (me : M) → me.0.stage ≡ Idle → Allows Rule slots id me 0 (λ n. (n + 1) % 2 ^ 64) (DrewTicket (step slots 0 1 0 maybe.none) me)
  draws slots id me idle s k _ at _ =
      let v : Vw = me.0 in let w : Vw = at_stage v (Waiting k.drawn) in let was : Knows base k.entries v passes k.drawn Idle = subst (Knows base k.entries v passes k.drawn) idle (k.each id v at) in
      let found : get_or s.words 0 0 ≡ k.drawn % W = ap (λ l. get_or l 0 0) k.words in
      let none_before : tickets v.stage ≡ 0 = ap tickets idle in (
        w,
        keeps,
        tt,
        record {
          entries = k.entries;
          drawn = suc k.drawn;
          words = set_0 (k.drawn % W) (length k.entries % W) ((get_or s.words 0 0 + 1) % 2 ^ 64) s.words k.words
              ∙ ap (λ (n : ℕ). n ∷ length k.entries % W ∷ []) (ap (λ (n : ℕ). (n + 1) % 2 ^ 64) found ∙ counts_on k.drawn);
          waiting = let t = total_set waits s.views id v w at in let o = k.waiting in omega arith;
          parts = let t = total_set parts_of s.views id v w at in let o = k.parts in omega arith;
          few = k.few;
          below = k.below;
          numbers = λ n. let t = total_set (claims n) s.views id v w at in let o = k.numbers n in let same : claims n w ≡ claims n v = ap (λ (z : Stage). has_number n v.number z + taken_in n v.took) (sym idle) in omega arith;
          each = seats_set (λ d. Knows base k.entries d passes (suc k.drawn) d.stage) s.views id w (restaged base k.entries passes v (Waiting k.drawn) was, (let o = k.waiting in omega arith), (omega arith)) (λ j d _ at_j. more_drawn base k.entries passes k.drawn d d.stage (k.each j d at_j));
          apart = apart_set s.views id w k.apart (λ j t d _ at_j has has_j. let b = ticket_below base k.entries passes k.drawn d d.stage t (k.each j d at_j) has_j in omega arith);
          place = placed_set k.entries s.homes s.views id v w at (λ t h. let bad : Idle ≡ Holding t = sym idle ∙ h in cc) k.place;
        },
        (k.drawn, sym found, refl),
      )

  -- a step that changes nothing
  unmoved : (s : St) (k : Rule s) (i id : ℕ) (me : M) → get_elem? s.views id ≡ maybe.some me.0 → Rule (stepped s i (get_or s.words i 0) id me.1 me.0 keeps)
  unmoved s k i id me at = subst (λ (x : List ℕ × List (View B)). Rule record { words = x.0; homes = s.homes; views = x.1 }) (λ j. (sym (set-get_or s.words i 0) j, sym (set_again s.views id me.0 at) j)) k

  -- the one who has the ticket that is served is the only one who may hold the turn
  none_holds : (s : St) (k : Rule s) (id : ℕ) (v : View B) (t : ℕ) → get_elem? s.views id ≡ maybe.some v → v.stage ≡ Waiting t → t ≡ length k.entries → (i : ℕ) (u : View B) (x : ℕ) → get_elem? s.views i ≡ maybe.some u → u.stage ≡ Holding x → ⊥
  none_holds s k id v t at waits_now served i u x at_i holds =
      let their : Knows base k.entries u passes k.drawn (Holding x) = subst (Knows base k.entries u passes k.drawn) holds (k.each i u at_i) in
      let same : x ≡ t = their.1 ∙ sym served in
      let one : i ≡ id = k.apart i id t u v at_i at (subst (HasTicket t) (sym holds) (sym same)) (subst (HasTicket t) (sym waits_now) refl) in
      let who : u ≡ v = maybe.some-injective u v (sym at_i ∙ (ap (get_elem? s.views) one ∙ at)) in
      let bad : Holding x ≡ Waiting t = sym holds ∙ (ap (λ (z : View B). z.stage) who ∙ waits_now) in cc

  comes : (slots id : ℕ) (me : M) (s : St) (k : Rule s) (t : ℕ) → get_elem? s.views id ≡ maybe.some me.0 → me.0.stage ≡ Waiting t → t ≡ length k.entries
      → (w : View B) × (y : T) × (get_elem? s.homes 0 ≡ maybe.some (maybe.some (Some y))) × Rule (stepped s 1 (get_or s.words 1 0) id me.1 w (takes 0 (Some y))) × Comes stands me t (w, (0, Some y) ∷ me.1)
  comes slots id me s k t at waits_now served =
      let v : View B = me.0 in let es : List Entry = k.entries in let w : View B = holding v t es in
      let was : Knows base es v passes k.drawn (Waiting t) = subst (Knows base es v passes k.drawn) waits_now (k.each id v at) in
      let one : tickets v.stage ≡ 1 = ap tickets waits_now in
      let live : Live base es v passes = was.0 in
      let home : (y : T) × (s.homes ≡ maybe.some (Some y) ∷ []) × stands y base es = ⊎_elim (λ h. h)
      (λ (o : (i : ℕ) × (u : View B) × (x : ℕ) × (s.homes ≡ maybe.none ∷ []) × (get_elem? s.views i ≡ maybe.some u) × (u.stage ≡ Holding x)). absurd (none_holds s k id v t at waits_now served o.0 o.1 o.2 o.4 o.5)) k.place in (
        w,
        home.0,
        ap (λ l. get_elem? l 0) home.1,
        record {
          entries = es;
          drawn = k.drawn;
          words = set-get_or s.words 1 0 ∙ k.words;
          waiting = let x = total_set waits s.views id v w at in let o = k.waiting in omega arith;
          parts = let x = total_set parts_of s.views id v w at in let o = k.parts in omega arith;
          few = k.few;
          below = k.below;
          numbers = λ n. let x = total_set (claims n) s.views id v w at in let o = k.numbers n in let same : claims n w ≡ claims n v = ap (λ (z : Stage). has_number n v.number z + taken_in n v.took) (sym waits_now) in omega arith;
          each = seats_set (λ d. Knows base es d passes k.drawn d.stage) s.views id w
              (record { based = live.based; numbered = live.numbered; counted = live.counted; self = (([], append-nil es), live.self.1, live.self.1); others = live.others }, served, was.2, refl) (λ j d _ at_j. k.each j d at_j);
          apart = apart_keep s.views id v w k.apart at (λ x h. subst (HasTicket x) (sym waits_now) h);
          place = inr (id, w, t, ap (λ l. set l 0 maybe.none) home.1, at_set_here s.views id v w at, refl);
        },
        record {
          value = home.0;
          entries = es;
          now = refl;
          begins = live.self.0;
          mine = live.self.1;
          number = (let n = live.numbered in let few = k.few in omega arith);
          below = below_more passes 1024 k.few es k.below;
          standing = λ b e. subst (λ (z : B). stands home.0 z es) (some_same base b (sym live.based ∙ e)) home.2;
        },
      )
    where
      some_same : (x y : B) → Some x ≡ Some y → x ≡ y
      some_same x y e = cc

  pub looks : (slots id : ℕ) (me : M) (t : ℕ) → me.0.stage ≡ Waiting t → Allows Rule slots id me 1 (λ n. n) (Looked stands (step slots 1 0 0 maybe.none) me)
  looks slots id me t waits_now s k _ at _ =
      let n : ℕ = get_or s.words 1 0 in let found : n ≡ length k.entries % W = ap (λ l. get_or l 1 0) k.words in
      let was : Knows base k.entries me.0 passes k.drawn (Waiting t) = subst (Knows base k.entries me.0 passes k.drawn) waits_now (k.each id me.0 at) in
      dite (ℕ_discrete n (t % W))
      (λ hit. let few = few_out s k in let most = k.few in let lo : length k.entries ≤ t = was.1 in let hi : t < k.drawn = was.2 in
      let same : t ≡ length k.entries = sym (one_turn (length k.entries) t W lo (omega arith) (sym found ∙ hit)) in
      let c = comes slots id me s k t at waits_now same in (
        c.0,
        takes 0 (Some c.1),
        c.2,
        c.3,
        λ u is. let e : t ≡ u = same_ticket t u (sym waits_now ∙ is) in (
          (λ _. subst (λ (z : ℕ). Comes stands me z (c.0, (0, Some c.1) ∷ me.1)) e c.4),
          (λ not. absurd (not (hit ∙ ap (λ (z : ℕ). z % W) e))),
        ),
      ))
      (λ miss. (
        me.0,
        keeps,
        tt,
        unmoved s k 1 id me at,
        λ u is. let e : t ≡ u = same_ticket t u (sym waits_now ∙ is) in (
          (λ hit. absurd (miss (hit ∙ ap (λ (z : ℕ). z % W) (sym e)))),
          (λ _. refl),
        ),
      ))
    where
      same_ticket : (x y : ℕ) → Waiting x ≡ Waiting y → x ≡ y
      same_ticket x y e = cc

  pub raises : (slots id : ℕ) (me : M) (t : ℕ) (y : T) (op : List ℕ) → me.0.stage ≡ Holding t → me.1 ≡ (0, Some y) ∷ [] → me.0.base ≡ Some base → stands y base (me.0.seen ++ (me.0.number, op) ∷ [])
      → Allows Rule slots id me 1 (λ n. (n + 1) % 2 ^ 64) (Raised op (step slots 1 1 0 maybe.none) me)
  raises slots id me t y op holds has _ stood s k _ at _ =
      let v : View B = me.0 in let es : List Entry = k.entries in let n : ℕ = v.number in let w : View B = turned v op in let es' : List Entry = es ++ (n, op) ∷ [] in
      let was : Knows base es v passes k.drawn (Holding t) = subst (Knows base es v passes k.drawn) holds (k.each id v at) in
      let live : Live base es v passes = was.0 in let all : v.seen ≡ es = was.3 in let mine : t ≡ length es = was.1 in
      let longer : length es' ≡ suc (length es) = length-append es ((n, op) ∷ []) ∙ (omega arith) in
      let found : get_or s.words 1 0 ≡ length es % W = ap (λ l. get_or l 1 0) k.words in
      let one : tickets v.stage ≡ 1 = ap tickets holds in
      let here : has_number n n v.stage ≡ 1 = ap (has_number n n) holds ∙ same_counts n in
      let alone : (j : ℕ) (d : View B) → j ≢ id → get_elem? s.views j ≡ maybe.some d → claims n d ≡ 0 = λ j d ne at_j. (let p = total_two (claims n) s.views j id d v ne at_j at in let q = k.numbers n in omega arith) in
      let once : taken_in n v.took ≡ 0 = (let p = total_one (claims n) s.views id v at in let q = k.numbers n in omega arith) in (
        w,
        gives,
        tt,
        record {
          entries = es';
          drawn = k.drawn;
          words = set_1 (k.drawn % W) (length es % W) ((get_or s.words 1 0 + 1) % 2 ^ 64) s.words k.words
              ∙ ap (λ (z : ℕ). k.drawn % W ∷ z ∷ []) (ap (λ (z : ℕ). (z + 1) % 2 ^ 64) found ∙ (counts_on (length es) ∙ ap (λ (z : ℕ). z % W) (sym longer)));
          waiting = let x = total_set waits s.views id v w at in let o = k.waiting in omega arith;
          parts = let x = total_set parts_of s.views id v w at in let o = k.parts in omega arith;
          few = k.few;
          below = All-push (λ (x : Entry). x.0 < passes) es (n, op) k.below live.numbered;
          numbers = λ m. let x = total_set (claims m) s.views id v w at in let o = k.numbers m in let same : claims m w ≡ claims m v = ap (λ (z : Stage). has_number m n z + taken_in m v.took) (sym holds) in omega arith;
          each = seats_set (λ d. Knows base es' d passes k.drawn d.stage) s.views id w (knows_own n op base es passes v refl once all live)
              (λ j d ne at_j. let none = alone j d ne at_j in knows_more n op base es passes k.drawn d d.stage (omega arith) (omega arith)
              (λ theirs. ne (k.apart j id (length es) d v at_j at theirs (subst (HasTicket (length es)) (sym holds) (sym mine)))) longer (k.each j d at_j));
          apart = apart_keep s.views id v w k.apart at (λ x h. absurd h);
          place = inl (y, homes_back s.homes k.place ∙ refl, subst (λ (z : List Entry). stands y base (z ++ (n, op) ∷ [])) all stood);
        },
        refl,
      )
    where
      homes_back : (hs : List (maybe.Option (Option T))) → Placed stands base k.entries hs s.views → Rattle.atomic_table.specs.Table.put_back hs me.1 ≡ maybe.some (Some y) ∷ []
      homes_back hs p = ap (Rattle.atomic_table.specs.Table.put_back hs) has ∙ ⊎_elim (λ h. ap (λ l. set l 0 (maybe.some (Some y))) h.1) (λ o. ap (λ l. set l 0 (maybe.some (Some y))) o.3) p
