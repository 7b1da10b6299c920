-- Spindles are closed one after the other: their passes are gathered, and stand for all accesses.
use Rattle.rack_parts.proofs.Basics.{◌≡◌, ◌<◌, ◌≤◌, ◌+◌, ⊎_elim, ℕ, List, [], ◌∷◌, ◌++◌, length, get_or, set, Option, Some, None, sym, ap, ◌∙◌, subst, arith, ◌≢◌, ◌==◌, Bool, true}
use Rattle.rack_parts.proofs.Basics.{false, cond, map, refl, ◌-◌, slice_get, option_and_then, slice_index_or, All, Contains, vec_capacity, cases_eq, cases_lt, get_or-set_same}
use Rattle.rack_parts.proofs.Basics.{get_or-set_other, get_or_push, get_or_default, get_or_append_left, length_push, length-set, Contains-push, slice_get-get_or, slice_get_past}
use Rattle.rack_parts.proofs.Basics.{same_Some, slice_get_within, AllByRecursion, All-push, All-contains, Contains-append_left, Contains-get_or, nat_tests}
use Rattle.rack_parts.proofs.Terms.{IsPassOf, IsFree, pass_number, pass_mine, IsPartOf, AreWhole, TurnLock, PassOf, Spindle, SpindleBase, lock_id, PoolBase, Pool, FreeSegment}
use Rattle.rack_parts.proofs.Terms.{list_of, IsPassAt, IsRow, pool_in, spindle_in, IsPoolTaken, ArePoolsTaken, AreSpindlesTaken, IsAccessBut, entries_made, CanCloseSpindles}
use Rattle.rack_parts.proofs.Terms.{HasSpindlePasses, StandsClosed, KeepsOtherRows, VolumePasses, Entry, own, has_token, AreAccesses, SpindleView, Rest, spindle_pass}
use Rattle.spin_model.specs.Spindles.{StandsFor}
use Rattle.rack_parts.proofs.Members.{is_member, of_map, all_of_map, all_member, get_left, get_last}

-- ---- The passes of one lock, gathered from the rows of the volumes

-- an element of a list that has one
pub some_element : {X : Type 0} (xs : List X) (n : ℕ) → n < length xs → X
some_element [] n h = absurd (omega (arith, h))
some_element (x ∷ xs) n h = x

-- of the first n elements of a list one was gathered each, and they changed
pub record AreGathered {X Y : Type 0} (R : X → X → Y → Type 0) (old cur : List X) (ps : List Y) (n : ℕ) : Type 0 where
  pub count : length cur ≡ length old
  pub gathered : length ps ≡ n
  pub taken : (v : ℕ) (d : X) (e : Y) → v < n → R (get_or old v d) (get_or cur v d) (get_or ps v e)
  pub others : (v : ℕ) (d : X) → n ≤ v → get_or cur v d ≡ get_or old v d

pub gathered_none : {X Y : Type 0} (R : X → X → Y → Type 0) (xs : List X) (ps : List Y) → ps ≡ [] → AreGathered R xs xs ps 0
gathered_none R xs ps empty = record { count = refl; gathered = ap length empty; taken = λ v d e less. absurd (omega (arith, less)); others = λ v d le. refl }

pub gathered_more : {X Y : Type 0} (R : X → X → Y → Type 0) (old cur : List X) (ps : List Y) (i : ℕ) (x : X) (y : Y) (item : X) → AreGathered R old cur ps i → i < length old → R (get_or cur i item) x y → AreGathered R old (set cur i x) (ps ++ y ∷ []) (i + 1)
gathered_more R old cur ps i x y item so_far within is = record {
  count = length-set cur i x ∙ so_far.count;
  gathered = length_push ps y ∙ ap (λ (n : ℕ). n + 1) so_far.gathered;
  taken = λ v d e less. ⊎_elim
      (λ (same : v ≡ i). rw (same, get_or-set_same cur i x d (omega (arith, within, so_far.count)), get_or_push ps y e i so_far.gathered) (rw (get_or_default cur i item d (omega (arith, within, so_far.count)) ∙ so_far.others i d (omega arith)) at is))
      (λ (differs : v ≢ i). let below : v < i = omega (arith, less, differs) in
      rw (get_or-set_other cur i v x d differs, get_or_append_left ps (y ∷ []) e v (omega (arith, below, so_far.gathered))) (so_far.taken v d e below))
      (cases_eq v i);
  others = λ v d past. get_or-set_other cur i v x d (λ e. absurd (omega (arith, e, past))) ∙ so_far.others v d (omega (arith, past));
}

-- what is said of lists that agree in what it reads is the same
pub same_rows : {X Y : Type 0} (f : Option Y → X) (old new : List Y) → length new ≡ length old → ((v : ℕ) (d : Y) → v < length old → f (Some (get_or new v d)) ≡ f (Some (get_or old v d))) → (v : ℕ) → f (slice_get new v) ≡ f (slice_get old v)
same_rows f old new count same v = ⊎_elim
    (λ within. let d = some_element old v within in ap f (slice_get-get_or new v d (omega (arith, within, count))) ∙ same v d within ∙ sym (ap f (slice_get-get_or old v d within)))
    (λ past. ap f (slice_get_past new v (omega (arith, past, count))) ∙ sym (ap f (slice_get_past old v past)))
    (cases_lt v (length old))

-- the passes that rows had at one place, in order
module _ {X T B : Type 0} (at : X → Option (PassOf T B)) (old : List X) (ps : List (PassOf T B)) (count : length ps ≡ length old) (there : (v : ℕ) (d : X) (e : PassOf T B) → v < length old → at (get_or old v d) ≡ Some (get_or ps v e)) where
  pub gathered_at : (v : ℕ) (d : PassOf T B) → v < length ps → option_and_then at (slice_get old v) ≡ Some (get_or ps v d)
  gathered_at v d less =
      let h : v < length old = omega (arith, count, less) in
      let row = some_element old v h in
      ap (option_and_then at) (slice_get-get_or old v row h) ∙ there v row d h

  -- all of them are the lock's, in no turn, each with the number of its row
  pub gathered_pass : (l : TurnLock T B) → ((v : ℕ) → v < length old → (p : PassOf T B) × (option_and_then at (slice_get old v) ≡ Some p) × IsPassAt l v p) → (v : ℕ) (d : PassOf T B) → v < length ps → IsPassAt l v (get_or ps v d)
  gathered_pass l here v d less =
      let t = here v (omega (arith, count, less)) in
      subst (IsPassAt l v) (same_Some t.0 (get_or ps v d) (sym t.1 ∙ gathered_at v d less)) t.2

  pub all_gathered : (l : TurnLock T B) → ((v : ℕ) → v < length old → (p : PassOf T B) × (option_and_then at (slice_get old v) ≡ Some p) × IsPassAt l v p) → All (λ p. IsPassOf l p × IsFree p) ps
  all_gathered l here v d less = let p = gathered_pass l here v d less in (p.own, p.free)

module _ {D : Type 0} (k : ℕ) (old new : List (VolumePasses D)) (ps : List (PassOf (Pool (FreeSegment D)) PoolBase)) (taken : ArePoolsTaken k old new ps) where
  taken_at : (v : ℕ) (d : VolumePasses D) (within : v < length old) → IsPoolTaken k (get_or old v d) (get_or new v d) (get_or ps v (some_element ps v (omega (arith, within, taken.taken))))
  taken_at v d within = taken.each v d (some_element ps v (omega (arith, within, taken.taken))) within

  pub pools_kept : (v j : ℕ) → (j ≡ k → ⊥) → option_and_then (λ (p : VolumePasses D). pool_in p j) (slice_get new v) ≡ option_and_then (λ (p : VolumePasses D). pool_in p j) (slice_get old v)
  pools_kept v j differs = same_rows (option_and_then (λ (p : VolumePasses D). pool_in p j)) old new taken.count (λ w d within. (taken_at w d within).others j differs) v

  pub spindles_stay : (v j : ℕ) → option_and_then (λ (p : VolumePasses D). spindle_in p j) (slice_get new v) ≡ option_and_then (λ (p : VolumePasses D). spindle_in p j) (slice_get old v)
  spindles_stay v j = same_rows (option_and_then (λ (p : VolumePasses D). spindle_in p j)) old new taken.count (λ w d within. ap (λ s. slice_index_or s.items j None) (taken_at w d within).spindles) v

  pub lists_stay : (v j : ℕ) → list_of (option_and_then (λ (p : VolumePasses D). slice_get p.held.items j) (slice_get new v)) ≡ list_of (option_and_then (λ (p : VolumePasses D). slice_get p.held.items j) (slice_get old v))
  lists_stay v j =
      same_rows (λ o. list_of (option_and_then (λ (p : VolumePasses D). slice_get p.held.items j) o)) old new taken.count (λ w d within. ap (λ h. list_of (slice_get h.items j)) (taken_at w d within).held) v

  pub rows_stay : (n : ℕ) → All (λ p. IsRow n p) old → All (λ p. IsRow n p) new
  rows_stay n all v d within =
      let h : v < length old = omega (arith, within, taken.count) in
      let row = all v d h in
      let t = taken_at v d h in
      record { pools = t.count ∙ row.pools; spindles = ap (λ s. length s.items) t.spindles ∙ row.spindles; held = ap (λ s. length s.items) t.held ∙ row.held }

-- ---- The entries of a lock's other passes, where each made accesses only

pub self_equal : (n : ℕ) → (n == n) ≡ true
self_equal n = grind (arith, nat_tests)

rest_accesses : (t : Bool) (e : Entry) (xs : List Entry) → AreAccesses (cond t (e ∷ xs) xs) → AreAccesses xs
rest_accesses false e xs all = all
rest_accesses true e xs all = all.1

by_own : (keeper : ℕ) (es : List Entry) → ((n : ℕ) → n ≢ keeper → AreAccesses (own n es)) → AllByRecursion (IsAccessBut keeper) es
by_own keeper [] each = tt
by_own keeper (e ∷ es) each = (one, by_own keeper es (λ n differs. rest_accesses (e.0 == n) e (own n es) (each n differs)))
  where
    one : IsAccessBut keeper e
    one differs = (subst (λ (t : Bool). AreAccesses (cond t (e ∷ own e.0 es) (own e.0 es))) (self_equal e.0) (each e.0 differs)).0

-- what holds of the entries of each other pass, and of none, holds of those of any number but the keeper's
pub by_others : (P : List Entry → Type 0) → P [] → (es : List Entry) (ps : List (PassOf Spindle SpindleBase)) (keeper : PassOf Spindle SpindleBase) → AreWhole es (ps ++ keeper ∷ []) → All (λ p. P (pass_mine p)) ps
    → (n : ℕ) → n ≢ pass_number keeper → P (own n es)
by_others P nothing es ps keeper whole all n differs = ⊎_elim
    (λ has.
    let p = of_map (λ (p : PassOf Spindle SpindleBase). pass_number p) ps n has in
    let part = All-contains (λ q. IsPartOf es q) (ps ++ keeper ∷ []) p.0 whole.parts (Contains-append_left ps (keeper ∷ []) p.0 p.1) in
    subst P (sym (ap (λ (m : ℕ). own m es) (sym p.2) ∙ part.mine)) (All-contains (λ q. P (pass_mine q)) ps p.0 all p.1))
    (λ never.
    let other = all_of_map (λ (p : PassOf Spindle SpindleBase). pass_number p) (λ (m : ℕ). m ≢ n) ps (all_member (λ (m : ℕ). m ≢ n) (map (λ (p : PassOf Spindle SpindleBase). pass_number p) ps) (λ m has e. never (subst (Contains (map (λ (p : PassOf Spindle SpindleBase). pass_number p) ps)) e has))) in
    subst P (sym (whole.no_more n (All-push (λ q. pass_number q ≢ n) ps keeper other (λ e. differs (sym e))))) nothing)
    (is_member (map (λ (p : PassOf Spindle SpindleBase). pass_number p) ps) n)

-- and the entries of a number are those that the pass at its place made, where each pass is at the place of its number
pub others_made : (es : List Entry) (ps : List (PassOf Spindle SpindleBase)) (keeper : PassOf Spindle SpindleBase) (at : ℕ → Option (PassOf Spindle SpindleBase)) → AreWhole es (ps ++ keeper ∷ [])
    → ((v : ℕ) (d : PassOf Spindle SpindleBase) → v < length ps → (at v ≡ Some (get_or ps v d)) × (pass_number (get_or ps v d) ≡ v)) → ((v : ℕ) → length ps ≤ v → at v ≡ None)
    → (n : ℕ) → n ≢ pass_number keeper → own n es ≡ entries_made (at n)
others_made es ps keeper at whole here past n differs = ⊎_elim
    (λ less.
    let is = here n keeper less in
    let part = All-contains (λ q. IsPartOf es q) (ps ++ keeper ∷ []) (get_or ps n keeper) whole.parts (Contains-append_left ps (keeper ∷ []) (get_or ps n keeper) (Contains-get_or ps n keeper less)) in
    ap (λ (m : ℕ). own m es) (sym is.1) ∙ part.mine ∙ sym (ap (λ (o : Option (PassOf Spindle SpindleBase)). entries_made o) is.0))
    (λ behind.
    let none : own n es ≡ [] = whole.no_more n (All-push (λ q. pass_number q ≢ n) ps keeper
    (λ v d less e. let number = (here v d less).1 in omega (arith, number, e, less, behind)) (λ e. differs (sym e))) in
    none ∙ sym (ap (λ (o : Option (PassOf Spindle SpindleBase)). entries_made o) (past n behind)))
    (cases_lt n (length ps))

-- a spindle whose passes were gathered stands for the entries that it was closed with
module _ {D : Type 0} (r : Rest D) (k : ℕ) (l : TurnLock Spindle SpindleBase) (keeper : PassOf Spindle SpindleBase) (has : HasSpindlePasses r k l keeper) (new : List (VolumePasses D)) (ps : List (PassOf Spindle SpindleBase)) (taken : AreSpindlesTaken k r.passes.items new ps) where
  there : (v : ℕ) (d : VolumePasses D) (e : PassOf Spindle SpindleBase) → v < length r.passes.items → spindle_in (get_or r.passes.items v d) k ≡ Some (get_or ps v e)
  there v d e within = (taken.each v d e within).there

  abbrev at_place : VolumePasses D → Option (PassOf Spindle SpindleBase)
  at_place p = spindle_in p k

  pub all_passes : All (λ p. IsPassOf l p × IsFree p) (ps ++ keeper ∷ [])
  all_passes = All-push (λ p. IsPassOf l p × IsFree p) ps keeper (all_gathered at_place r.passes.items ps taken.taken there l has.each) (has.keeper_.own, has.keeper_.free)

  pub spindles_kept : (v j : ℕ) → (j ≡ k → ⊥) → option_and_then (λ (p : VolumePasses D). spindle_in p j) (slice_get new v) ≡ option_and_then (λ (p : VolumePasses D). spindle_in p j) (slice_get r.passes.items v)
  spindles_kept v j differs = same_rows (option_and_then (λ (p : VolumePasses D). spindle_in p j)) r.passes.items new taken.count (λ w d within. (taken.each w d keeper within).others j differs) v

  pub spindle_stands : (s : SpindleView) (es : List Entry) → StandsFor s (lock_id l).base es → AreWhole es (ps ++ keeper ∷ []) → StandsClosed r k l keeper s
  spindle_stands s es stands whole =
      let place = gathered_at at_place r.passes.items ps taken.taken there in
      record {
        whole = record {
          entries = es;
          stands = stands;
          keeper_part = All-contains (λ p. IsPartOf es p) (ps ++ keeper ∷ []) keeper whole.parts (Contains-push ps keeper);
          accesses = by_own (pass_number keeper) es (by_others AreAccesses tt es ps keeper whole (λ v d less. has.accesses v (get_or ps v d) (place v d less)));
          ended = by_others (λ xs. has_token xs ≡ false) refl es ps keeper whole (λ v d less. has.settled v (get_or ps v d) (place v d less));
        };
        made = others_made es ps keeper (λ v. spindle_pass r v k) whole (λ v d less. (place v d less, (gathered_pass at_place r.passes.items ps taken.taken there l has.each v d less).number_is))
            (λ v past. ap (option_and_then at_place) (slice_get_past r.passes.items v (omega (arith, past, taken.taken))));
      }

-- ---- Spindles are closed one after another, the last first

module _ {D : Type 0} (locks : List (TurnLock Spindle SpindleBase)) (l : TurnLock Spindle SpindleBase) (keepers : List (PassOf Spindle SpindleBase)) (p : PassOf Spindle SpindleBase) (cur : Rest D)
    (can : CanCloseSpindles (locks ++ l ∷ []) (keepers ++ p ∷ []) cur) where
  pub same_count : length keepers ≡ length locks
  same_count = let a = length_push locks l in let b = length_push keepers p in omega (arith, a, b, can.keeper_count)

  pub next_passes : HasSpindlePasses cur (length locks) l p
  next_passes = can.passes (length locks) l p (get_last locks l (length locks) refl) (get_last keepers p (length locks) same_count)

  -- the others may be closed as before
  pub others_may : (new : Rest D) → KeepsOtherRows cur new → ((v k : ℕ) → k ≢ length locks → spindle_pass new v k ≡ spindle_pass cur v k)
      → length new.rooms.spindles.items ≡ length locks → All (λ row. (row.items ≡ []) × (length cur.passes.items + 1 ≤ vec_capacity row)) new.rooms.spindles.items
      → length new.rooms.closed.items + length locks ≤ vec_capacity new.rooms.closed → CanCloseSpindles locks keepers new
  others_may new rows others room_count rooms closed = record {
    keeper_count = same_count;
    passes = λ k f q at_lock at_keeper.
        let x = can.passes k f q (get_left locks (l ∷ []) k f at_lock) (get_left keepers (p ∷ []) k q at_keeper) in
        let below = slice_get_within locks k f at_lock in
        record {
          count = x.count ∙ ap (λ (n : ℕ). n + 1) (sym rows.count);
          each = λ v less. let y = x.each v (omega (arith, less, rows.count)) in (y.0, others v k (λ e. absurd (omega (arith, e, below))) ∙ y.1, y.2);
          keeper_ = subst (λ (n : ℕ). IsPassAt f n q) (sym rows.count) x.keeper_;
          accesses = λ v y there. x.accesses v y (sym (others v k (λ e. absurd (omega (arith, e, below)))) ∙ there);
          settled = λ v y there. x.settled v y (sym (others v k (λ e. absurd (omega (arith, e, below)))) ∙ there);
        };
    room_count = room_count;
    rooms = subst (λ (n : ℕ). All (λ row. (row.items ≡ []) × (n + 1 ≤ vec_capacity row)) new.rooms.spindles.items) (sym rows.count) rooms;
    closed = closed;
  }

-- rows stay as they are but for the passes of spindles
pub rows_then : {D : Type 0} (a b c : Rest D) → KeepsOtherRows a b → KeepsOtherRows b c → KeepsOtherRows a c
rows_then {D} a b c first then = record {
  count = then.count ∙ first.count;
  each = λ v d less. then.each v d (omega (arith, less, first.count)) ∙ ap (λ (q : VolumePasses D). record q { spindles = (slice_index_or c.passes.items v d).spindles }) (first.each v d less);
}

pub rows_same : {D : Type 0} (a : Rest D) → KeepsOtherRows a a
rows_same a = assumption

-- what a spindle stands for was made by the passes of any rest that has the same
pub made_in : {D : Type 0} (a b : Rest D) (j k : ℕ) (l : TurnLock Spindle SpindleBase) (p : PassOf Spindle SpindleBase) (s : SpindleView) → j ≡ k
    → ((v : ℕ) → spindle_pass b v j ≡ spindle_pass a v k) → StandsClosed b j l p s → StandsClosed a k l p s
made_in a b j k l p s at same is = record {
  whole = is.whole;
  made = λ n differs. is.made n differs ∙ ap (λ (o : Option (PassOf Spindle SpindleBase)). entries_made o) (same n);
}

-- one spindle more stands behind the closed ones
pub one_more_closed : {D : Type 0} (r : Rest D) (n m : ℕ) (closed : List SpindleView) (s : SpindleView) (locks : List (TurnLock Spindle SpindleBase)) (keepers : List (PassOf Spindle SpindleBase)) (l : TurnLock Spindle SpindleBase) (p : PassOf Spindle SpindleBase)
    → length closed + (m + 1) ≡ n → slice_get locks m ≡ Some l → slice_get keepers m ≡ Some p → StandsClosed r m l p s
    → ((k : ℕ) (f : TurnLock Spindle SpindleBase) (q : PassOf Spindle SpindleBase) (d : SpindleView) → m + 1 ≤ k → slice_get locks k ≡ Some f → slice_get keepers k ≡ Some q → StandsClosed r k f q (get_or closed (n - 1 - k) d))
    → (k : ℕ) (f : TurnLock Spindle SpindleBase) (q : PassOf Spindle SpindleBase) (d : SpindleView) → k < n → m ≤ k → slice_get locks k ≡ Some f → slice_get keepers k ≡ Some q → StandsClosed r k f q (get_or (closed ++ s ∷ []) (n - 1 - k) d)
one_more_closed r n m closed s locks keepers l p count at_lock at_keeper stands so_far k f q d below from is_lock is_keeper = ⊎_elim
    (λ e.
    let same_lock : l ≡ f = same_Some l f (sym at_lock ∙ ap (slice_get locks) (sym e) ∙ is_lock) in
    let same_keeper : p ≡ q = same_Some p q (sym at_keeper ∙ ap (slice_get keepers) (sym e) ∙ is_keeper) in
    rw (e, get_or_push closed s d (n - 1 - m) (omega (arith, count)), ← same_lock, ← same_keeper) stands)
    (λ differs. rw (get_or_append_left closed (s ∷ []) d (n - 1 - k) (omega (arith, count, from, differs, below))) (so_far k f q d (omega (arith, from, differs)) is_lock is_keeper))
    (cases_eq k m)
