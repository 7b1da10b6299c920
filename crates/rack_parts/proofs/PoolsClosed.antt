-- Pools are closed one after the other.
use Rattle.rack_parts.proofs.Basics.{◌≡◌, ◌≢◌, ◌<◌, ◌≤◌, ◌⊎◌, inl, inr, ⊎_elim, ℕ, zero, suc, true, List, [], ◌∷◌, length, get_or, set, Option, Some, None, is_some, refl, sym, ap}
use Rattle.rack_parts.proofs.Basics.{◌∙◌, subst, arith, ◌+◌, Contains, All, IsSome, slice_get, option_and_then, cases_eq, cases_lt, nat_tests, get_or-set_same, MatchOption}
use Rattle.rack_parts.proofs.Basics.{get_or-set_other, All-contains, none-some, same_Some, slice_get_past, slice_get_within}
use Rattle.rack_parts.proofs.Terms.{State, Shape, Entry, own, lock_id, pass_lock, pass_number, pass_mine, AreWhole, TurnLock, PassOf, Spun, PoolUse, Took, Gave, holder, pool_used}
use Rattle.rack_parts.proofs.Terms.{pool_after, MayUsePool, ArePoolUses, is_in_pool, is_held_by, IsPartOf, uses_of, holds, StandsFor, holders_after, item_at, IsEmptyPool, Holder}
use Rattle.rack_parts.proofs.Terms.{Elsewhere, InPool, HeldBy, pool_in, PoolBase, Pool, IsBlank, free_part, FreeSegment, image_here, segment_here, pool_pass, held_here}
use Rattle.rack_parts.proofs.Terms.{indexes_here, IsHolding, IsHeldHere, HasPlaces, EmptiesInto, IsRefilled, IsBlankPart, IsSameBut, KeepsImage, item_part, either_part}
use Rattle.rack_parts.proofs.Terms.{CanClosePool, IsClosedPool, CanPutAllHeld, PutsAllHeld, ArePoolsTaken, RefillsAll, IsRefilledAll, KeepsLogger, KeepsSpindles, ImageRest, Rest}
use Rattle.rack_parts.proofs.Terms.{IsPassOf, IsFree, VolumePasses, entries_made}
use Rattle.turn_lock.specs.LockIds.{LockId}
use Rattle.seg_pool.proofs.Holding.{holder_own, is_holder}
use Rattle.seg_pool.proofs.Using.{has_index}
use Rattle.rack_parts.proofs.PoolsEmptied.{in_pool}
use Rattle.rack_parts.proofs.SpindlesClosed.{all_gathered, gathered_at, lists_stay, rows_stay}
use Rattle.rack_parts.proofs.Returned.{same_but_then}
use Rattle.rack_parts.proofs.Members.{no_value, a_value, is_there, here_within, in_map, of_map, is_member, segment_in_image}

-- ---- The segments of a pool that is closed are all in their places again

-- ---- Who has a segment, as passes use the pool

set_known : (hs : List Holder) (j : ℕ) (h : Holder) (i : ℕ) → h ≢ Elsewhere → holder hs i ≢ Elsewhere → holder (set hs j h) i ≢ Elsewhere
set_known hs j h i some known = ⊎_elim
    (λ e gone. some (sym (rw e (get_or-set_same hs j h Elsewhere (has_index hs j (rw e at known)))) ∙ gone))
    (λ e gone. known (sym (get_or-set_other hs j i h Elsewhere e) ∙ gone))
    (cases_eq i j)

known_then : (hs : List Holder) (pass : ℕ) (u : PoolUse) (i : ℕ) → MayUsePool hs pass u → holder hs i ≢ Elsewhere → holder (pool_used hs pass u) i ≢ Elsewhere
known_then hs pass (Took None) i may known = known
known_then hs pass (Took (Some j)) i may known = set_known hs j (HeldBy pass) i (λ e. cc) known
known_then hs pass (Gave j) i may known = set_known hs j InPool i (λ e. cc) known

-- a segment that someone has someone has afterwards
stays_known : (hs : List Holder) (us : List (ℕ × PoolUse)) (i : ℕ) → ArePoolUses hs us → holder hs i ≢ Elsewhere → holder (pool_after hs us) i ≢ Elsewhere
stays_known hs [] i are known = known
stays_known hs (u ∷ us) i are known = stays_known (pool_used hs u.0 u.1) us i are.1 (known_then hs u.0 u.1 i are.0 known)

unknown_then : (hs : List Holder) (pass : ℕ) (u : PoolUse) (i : ℕ) → MayUsePool hs pass u → holder hs i ≡ Elsewhere → holder (pool_used hs pass u) i ≡ Elsewhere
unknown_then hs pass (Took None) i may none = none
unknown_then hs pass (Took (Some j)) i may none = get_or-set_other hs j i (HeldBy pass) Elsewhere (λ e. absurd (cc (sym none ∙ ap (holder hs) e ∙ may))) ∙ none
unknown_then hs pass (Gave j) i may none = get_or-set_other hs j i InPool Elsewhere (λ e. absurd (cc (sym none ∙ ap (holder hs) e ∙ may))) ∙ none

-- and one that nobody has nobody has
stays_unknown : (hs : List Holder) (us : List (ℕ × PoolUse)) (i : ℕ) → ArePoolUses hs us → holder hs i ≡ Elsewhere → holder (pool_after hs us) i ≡ Elsewhere
stays_unknown hs [] i are none = none
stays_unknown hs (u ∷ us) i are none = stays_unknown (pool_used hs u.0 u.1) us i are.1 (unknown_then hs u.0 u.1 i are.0 none)

held_self : (n : ℕ) → is_held_by n (HeldBy n) ≡ true
held_self n = grind (arith, nat_tests)

of_held : (n : ℕ) (h : Holder) → is_held_by n h ≡ true → h ≡ HeldBy n
of_held n InPool is = absurd (cc is)
of_held n (HeldBy p) is = ap HeldBy (grind (arith, nat_tests, is))
of_held n Elsewhere is = absurd (cc is)

one_holder : (v w : ℕ) (h : Holder) → h ≡ HeldBy v → h ≡ HeldBy w → v ≡ w
one_holder v w h e f = let both : HeldBy v ≡ HeldBy w = sym e ∙ f in cc

-- whose list an index is in, among the first so many
pub listed : {D : Type 0} (r : Rest D) (k i n : ℕ) → ((v : ℕ) × Contains (indexes_here r v k) i) ⊎ ((v : ℕ) → v < n → Contains (indexes_here r v k) i → ⊥)
listed r k i zero = inr (λ v less. absurd (omega (arith, less)))
listed r k i (suc n) = ⊎_elim
    (λ has. inl (n, has))
    (λ never. ⊎_elim (λ more. inl more) (λ none. inr (λ v less has. ⊎_elim (λ e. never (rw e at has)) (λ differs. none v (omega (arith, less, differs)) has) (cases_eq v n))) (listed r k i n))
    (is_member (indexes_here r n k) i)

-- the passes that were gathered are those of the lock
pub pool_passes : {D : Type 0} (state : D → State) (volumes k : ℕ) (z : Shape) (lock : TurnLock (Pool (FreeSegment D)) PoolBase) (old : Rest D) → CanClosePool state volumes k z lock old
    → (rows : List (VolumePasses D)) (ps : List (PassOf (Pool (FreeSegment D)) PoolBase)) → ArePoolsTaken k old.passes.items rows ps → All (λ p. IsPassOf lock p × IsFree p) ps
pool_passes {D} state volumes k z lock old can rows ps taken =
    all_gathered (λ (q : VolumePasses D). pool_in q k) old.passes.items ps taken.taken (λ v d e h. (taken.each v d e h).there) lock (λ v less. can.passes v (omega (arith, less, can.count)))

module _ {D : Type 0} (state : D → State) (volumes k : ℕ) (z : Shape) (lock : TurnLock (Pool (FreeSegment D)) PoolBase) (old : Rest D) (can : CanClosePool state volumes k z lock old)
    (pool : Pool (FreeSegment D)) (entries : List Entry) (rows : List (VolumePasses D)) (ps : List (PassOf (Pool (FreeSegment D)) PoolBase)) (taken : ArePoolsTaken k old.passes.items rows ps)
    (stands : StandsFor (IsBlank state) pool (lock_id lock).base entries) (whole : AreWhole entries ps) where
  abbrev base : PoolBase
  base = (lock_id lock).base

  -- who has a segment in the end
  abbrev has_then : ℕ → Holder
  has_then i = holder (holders_after base entries) i

  -- behind the last volume there is none
  no_row : (v : ℕ) → volumes ≤ v → pool_pass old v k ≡ None
  no_row v past = ap (option_and_then (λ (q : VolumePasses D). pool_in q k)) (slice_get_past old.passes.items v (omega (arith, past, can.count)))

  row_within : (v : ℕ) (p : PassOf (Pool (FreeSegment D)) PoolBase) → pool_pass old v k ≡ Some p → v < volumes
  row_within v p here = ⊎_elim (λ less. less) (λ past. absurd (none-some p (sym (no_row v past) ∙ here))) (cases_lt v volumes)

  abbrev pass_of : (v : ℕ) → v < volumes → PassOf (Pool (FreeSegment D)) PoolBase
  pass_of v below = (can.passes v below).0

  same_pass : (v : ℕ) (d : PassOf (Pool (FreeSegment D)) PoolBase) → v < length ps → (below : v < volumes) → pass_of v below ≡ get_or ps v d
  same_pass v d within below =
      same_Some (pass_of v below) (get_or ps v d) (sym (can.passes v below).1 ∙ gathered_at (λ (q : VolumePasses D). pool_in q k) old.passes.items ps taken.taken (λ w r e h. (taken.each w r e h).there) v d within)

  among : (v : ℕ) (below : v < volumes) → Contains ps (pass_of v below)
  among v below = let within : v < length ps = omega (arith, below, can.count, taken.taken) in (v, within, sym (same_pass v (pass_of v below) within below))

  own_is : (v : ℕ) (below : v < volumes) → own v entries ≡ pass_mine (pass_of v below)
  own_is v below =
      let part = All-contains (λ p. IsPartOf entries p) ps (pass_of v below) whole.parts (among v below) in
      ap (λ (n : ℕ). own n entries) (sym (can.passes v below).2.number_is) ∙ part.mine

  -- a pass that holds a segment has it in the end
  pub holding_has : (v i : ℕ) → IsHolding old v k i → has_then i ≡ HeldBy v
  holding_has v i h =
      let below = row_within v h.0 h.1 in
      let p = pass_of v below in
      let same : h.0 ≡ p = same_Some h.0 p (sym h.1 ∙ (can.passes v below).1) in
      let held : holds (pass_lock p).base (pass_number p) (pass_mine p) i ≡ true = subst (λ (q : PassOf (Pool (FreeSegment D)) PoolBase). holds (pass_lock q).base (pass_number q) (pass_mine q) i ≡ true) same h.2 in
      let at = (can.passes v below).2 in
      let by_base : holds base (pass_number p) (pass_mine p) i ≡ true = subst (λ (x : LockId PoolBase). holds x.base (pass_number p) (pass_mine p) i ≡ true) at.own held in
      let by_number : holds base v (pass_mine p) i ≡ true = subst (λ (n : ℕ). holds base n (pass_mine p) i ≡ true) at.number_is by_base in
      is_holder base entries v i stands.legal (subst (λ (es : List Entry). holds base v es i ≡ true) (sym (own_is v below)) by_number)

  -- and what a pass of the lock has in the end it holds
  pub has_holding : (v i : ℕ) → v < volumes → has_then i ≡ HeldBy v → IsHolding old v k i
  has_holding v i below is =
      let p = pass_of v below in
      let at = (can.passes v below).2 in
      let held : holds base v (own v entries) i ≡ true = sym (holder_own base entries v i stands.legal) ∙ ap (is_held_by v) is ∙ held_self v in
      let by_mine : holds base v (pass_mine p) i ≡ true = subst (λ (es : List Entry). holds base v es i ≡ true) (own_is v below) held in
      let by_number : holds base (pass_number p) (pass_mine p) i ≡ true = subst (λ (n : ℕ). holds base n (pass_mine p) i ≡ true) (sym at.number_is) by_mine in
      (p, (can.passes v below).1, subst (λ (x : LockId PoolBase). holds x.base (pass_number p) (pass_mine p) i ≡ true) (sym at.own) by_number)

  -- no pass has a number behind the last volume
  none_past : (n : ℕ) → volumes ≤ n → All (λ p. pass_number p ≢ n) ps
  none_past n past v d within same =
      let below : v < volumes = omega (arith, within, taken.taken, can.count) in
      absurd (omega (arith, past, below, ap (λ p. pass_number p) (same_pass v d within below), (can.passes v below).2.number_is, same))

  -- who holds one is a pass of the lock
  holder_below : (n i : ℕ) → has_then i ≡ HeldBy n → n < volumes
  holder_below n i is = ⊎_elim (λ less. less) (λ past. numbered (none_past n past)) (cases_lt n volumes)
    where
      numbered : All (λ p. pass_number p ≢ n) ps → n < volumes
      numbered apart =
          let held : holds base n (own n entries) i ≡ true = sym (holder_own base entries n i stands.legal) ∙ ap (is_held_by n) is ∙ held_self n in
          can.known_passes i n (of_held n (holder base.holders i) (rw (whole.no_more n apart) at held))

  -- the entries are legal, and those of each volume are the ones that its pass made
  pub closed_pool : IsClosedPool lock old k entries
  closed_pool = record {
    legal = stands.legal;
    made = λ n. ⊎_elim
        (λ below. own_is n below ∙ sym (ap (λ (o : Option (PassOf (Pool (FreeSegment D)) PoolBase)). entries_made o) (can.passes n below).1))
        (λ past. whole.no_more n (none_past n past) ∙ sym (ap (λ (o : Option (PassOf (Pool (FreeSegment D)) PoolBase)). entries_made o) (no_row n past)))
        (cases_lt n volumes);
  }

  -- a segment that someone has lies in the image
  pub has_within : (i : ℕ) (n : ImageRest D) → image_here old.images.items k ≡ Some n → has_then i ≢ Elsewhere → i < length n.segments.items
  has_within i n here known =
      let first : holder base.holders i ≢ Elsewhere = λ never. known (stays_unknown base.holders (uses_of entries) i stands.legal never) in
      let within = has_index base.holders i first in
      omega (arith, within, can.lock.room, (can.image n here).count)

  -- a segment of the pool no pass holds
  pub pooled : (i : ℕ) (f : FreeSegment D) → item_at pool i ≡ Some f → has_then i ≡ InPool
  pooled i f is = in_pool (has_then i) (sym (stands.free i) ∙ ap is_some is)

  not_pooled : (i : ℕ) → (has_then i ≡ InPool → ⊥) → item_at pool i ≡ None
  not_pooled i never = no_value (item_at pool i) (λ some. let f = a_value (item_at pool i) some in never (pooled i f.0 f.1))

  held_not_pooled : (v i : ℕ) → IsHolding old v k i → item_at pool i ≡ None
  held_not_pooled v i h = not_pooled i (λ e. let both : HeldBy v ≡ InPool = sym (holding_has v i h) ∙ e in absurd (cc both))

  -- ---- The lists of lanes go to their places

  -- a segment in its place is held by a pass, and in no list
  placed_held : (i : ℕ) (n : ImageRest D) (p : Spun D) → image_here old.images.items k ≡ Some n → segment_here n i ≡ Some p → IsHeldHere old k i
  placed_held i n p here is = (can.here i n here (here_within n.segments.items i p is)).0 (is_there (segment_here n i) p is)

  in_list_empty : (v i : ℕ) (n : ImageRest D) → image_here old.images.items k ≡ Some n → Contains (indexes_here old v k) i → segment_here n i ≡ None
  in_list_empty v i n here has = no_value (segment_here n i) (λ some.
      let p = a_value (segment_here n i) some in
      let h = placed_held i n p.0 here p.1 in
      let same : h.0 ≡ v = one_holder h.0 v (has_then i) (holding_has h.0 i h.1) (holding_has v i (can.held v i has)) in
      h.2 (subst (λ (w : ℕ). Contains (indexes_here old w k) i) (sym same) has))

  held_stay : (mid : Rest D) → mid.passes.items ≡ rows → (v : ℕ) → held_here mid v k ≡ held_here old v k
  held_stay mid passes v = rw passes (lists_stay k old.passes.items rows ps taken v k)

  pub lists_go : (mid : Rest D) → mid.images ≡ old.images → mid.passes.items ≡ rows → CanPutAllHeld mid k
  lists_go mid images passes = let held = held_stay mid passes in record {
    volumes = volumes;
    rows = rw passes (rows_stay k old.passes.items rows ps taken volumes can.rows);
    within = (can.below, let n : length mid.images.items ≡ length old.images.items = ap (λ v. length v.items) images in omega (arith, n, can.image_count, can.below));
    indexes = λ v i n here has.
        let there : image_here old.images.items k ≡ Some n = sym (ap (λ v. image_here v.items k) images) ∙ here in
        let among_old : Contains (indexes_here old v k) i = rw (held v) at has in
        (has_within i n there (λ e. let both : HeldBy v ≡ Elsewhere = sym (holding_has v i (can.held v i among_old)) ∙ e in absurd (cc both)), in_list_empty v i n there among_old);
    once = λ v. rw (held v) (can.once v);
    apart = λ v w i differs in_v in_w. differs (one_holder v w (has_then i) (holding_has v i (can.held v i (rw (held v) at in_v))) (holding_has w i (can.held w i (rw (held w) at in_w))));
    out = λ v none. held v ∙ can.out v (sym (ap (λ x. image_here x.items k) images) ∙ none);
  }

  module _ (mid put : Rest D) (images : mid.images ≡ old.images) (passes : mid.passes.items ≡ rows) (puts : PutsAllHeld mid put k) where
    held : (v : ℕ) → held_here mid v k ≡ held_here old v k
    held = held_stay mid passes

    at_start : image_here mid.images.items k ≡ image_here old.images.items k
    at_start = ap (λ v. image_here v.items k) images

    -- the image with the lists in their places
    pub filled : (r : ImageRest D) → image_here old.images.items k ≡ Some r → (n : ImageRest D) × (image_here put.images.items k ≡ Some n) × IsSameBut r n
    filled r here = subst (λ (o : Option (ImageRest D)). KeepsImage o (image_here put.images.items k)) (at_start ∙ here) puts.image

    pub not_filled : image_here old.images.items k ≡ None → image_here put.images.items k ≡ None
    not_filled none = subst (λ (o : Option (ImageRest D)). KeepsImage o (image_here put.images.items k)) (at_start ∙ none) puts.image

    segment_then : (r n : ImageRest D) → image_here old.images.items k ≡ Some r → image_here put.images.items k ≡ Some n → (i : ℕ) → ((v : ℕ) → Contains (indexes_here old v k) i → ⊥) → segment_here n i ≡ segment_here r i
    segment_then r n here there i none =
        let kept = puts.others i (λ v has. none v (rw (held v) at has)) in
        sym (segment_in_image put k n there i) ∙ kept ∙ segment_in_image mid k r (at_start ∙ here) i

    segment_back : (r n : ImageRest D) → image_here put.images.items k ≡ Some n → (v i : ℕ) (p : Spun D) → Contains (held_here old v k) (i, p) → segment_here n i ≡ Some p
    segment_back r n there v i p has =
        sym (segment_in_image put k n there i) ∙ puts.back v i p (rw (held v) has)

    none_listed : (v i : ℕ) → Contains (indexes_here old v k) i → (h : ℕ × Spun D) × Contains (held_here old v k) h × (h.0 ≡ i)
    none_listed v i has = of_map (λ (h : ℕ × Spun D). h.0) (held_here old v k) i has

    past_rows : (v i : ℕ) → Contains (indexes_here old v k) i → v < volumes
    past_rows v i has = row_within v (can.held v i has).0 (can.held v i has).1

    -- the pool's items have empty places
    pub places_empty : MatchOption (image_here put.images.items k) (IsEmptyPool pool) (HasPlaces pool)
    places_empty = go (image_here old.images.items k) refl
      where
        go : (o : Option (ImageRest D)) → image_here old.images.items k ≡ o → MatchOption (image_here put.images.items k) (IsEmptyPool pool) (HasPlaces pool)
        go None none =
            rw (not_filled none) (λ i. not_pooled i (λ e. let gone = stays_unknown base.holders (uses_of entries) i stands.legal (can.others i none) in let both : InPool ≡ Elsewhere = sym e ∙ gone in absurd (cc both)))
        go (Some r) here =
            let n = filled r here in
            rw n.1 (record {
              within = λ i some.
                  let f = a_value (item_at pool i) some in
                  let e = pooled i f.0 f.1 in
                  let less = has_within i r here (λ gone. let both : InPool ≡ Elsewhere = sym e ∙ gone in absurd (cc both)) in
                  omega (arith, less, n.2.count);
              empty = λ i some. no_place r n.0 here n.1 i some;
            })
          where
            no_place : (r n : ImageRest D) → image_here old.images.items k ≡ Some r → image_here put.images.items k ≡ Some n → (i : ℕ) → IsSome (item_at pool i) → segment_here n i ≡ None
            no_place r n here there i some =
                let f = a_value (item_at pool i) some in
                let e = pooled i f.0 f.1 in
                let none : (v : ℕ) → Contains (indexes_here old v k) i → ⊥ = λ v has. let both : HeldBy v ≡ InPool = sym (holding_has v i (can.held v i has)) ∙ e in absurd (cc both) in
                segment_then r n here there i none ∙ no_value (segment_here r i) (λ is.
                let p = a_value (segment_here r i) is in
                let h = placed_held i r p.0 here p.1 in
                let both : HeldBy h.0 ≡ InPool = sym (holding_has h.0 i h.1) ∙ e in absurd (cc both))

    module _ (after : Option (ImageRest D)) (emptied : EmptiesInto pool (image_here put.images.items k) after) where
      refilled : (r n : ImageRest D) → image_here old.images.items k ≡ Some r → image_here put.images.items k ≡ Some n → IsSameBut r n → (q : ImageRest D) → IsRefilled pool n q → IsRefilledAll state base.blocks old k r q
      refilled r n here there same q re = record {
        same = same_but_then r n q same re.same;
        all = all;
        kept = kept;
        back = back;
        only = only;
      }
        where
          unpooled : (i : ℕ) → item_at pool i ≡ None → segment_here q i ≡ segment_here n i
          unpooled i none = re.segments i ∙ ap (λ (o : Option (FreeSegment D)). either_part (item_part o) (segment_here n i)) none

          back : (v i : ℕ) (p : Spun D) → Contains (held_here old v k) (i, p) → segment_here q i ≡ Some p
          back v i p has =
              let listed_one : Contains (indexes_here old v k) i = in_map (λ (h : ℕ × Spun D). h.0) (held_here old v k) (i, p) has in
              unpooled i (held_not_pooled v i (can.held v i listed_one)) ∙ segment_back r n there v i p has

          kept : (i : ℕ) (p : Spun D) → segment_here r i ≡ Some p → segment_here q i ≡ Some p
          kept i p is =
              let h = placed_held i r p here is in
              unpooled i (held_not_pooled h.0 i h.1)
              ∙ segment_then r n here there i (λ v has. let e = in_list_empty v i r here has in absurd (none-some p (sym e ∙ is))) ∙ is

          all : (i : ℕ) → i < length q.segments.items → IsSome (segment_here q i)
          all i within = go (has_then i) refl
            where
              below : i < length r.segments.items
              below = omega (arith, within, re.same.count, same.count)

              go : (h : Holder) → has_then i ≡ h → IsSome (segment_here q i)
              go Elsewhere e = absurd (stays_known base.holders (uses_of entries) i stands.legal (can.known i r here below) e)
              go InPool e =
                  let f = a_value (item_at pool i) (stands.free i ∙ ap is_in_pool e) in
                  is_there (segment_here q i) (free_part f.0) (re.segments i ∙ ap (λ (o : Option (FreeSegment D)). either_part (item_part o) (segment_here n i)) f.1)
              go (HeldBy m) e = pick (is_member (indexes_here old m k) i)
                where
                  h : IsHolding old m k i
                  h = has_holding m i (holder_below m i e) e

                  pick : Contains (indexes_here old m k) i ⊎ (Contains (indexes_here old m k) i → ⊥) → IsSome (segment_here q i)
                  pick (inl has) =
                      let x = none_listed m i has in
                      is_there (segment_here q i) x.0.1 (back m i x.0.1 (subst (λ (j : ℕ). Contains (held_here old m k) (j, x.0.1)) x.2 x.1))
                  pick (inr never) =
                      let p = a_value (segment_here r i) ((can.here i r here below).1 (m, h, never)) in
                      is_there (segment_here q i) p.0 (kept i p.0 p.1)

          only : (i : ℕ) (p : Spun D) → segment_here q i ≡ Some p → (segment_here r i ≡ Some p) ⊎ (((v : ℕ) × Contains (held_here old v k) (i, p)) ⊎ IsBlankPart state k base.blocks p)
          only i p is = go (item_at pool i) refl
            where
              go : (o : Option (FreeSegment D)) → item_at pool i ≡ o → (segment_here r i ≡ Some p) ⊎ (((v : ℕ) × Contains (held_here old v k) (i, p)) ⊎ IsBlankPart state k base.blocks p)
              go (Some f) e =
                  let blank = stands.items i f e in
                  let part : free_part f ≡ p = same_Some (free_part f) p (sym (re.segments i ∙ ap (λ (o : Option (FreeSegment D)). either_part (item_part o) (segment_here n i)) e) ∙ is) in
                  inr (inr (subst (IsBlankPart state k base.blocks) part
                  (record { part = record { of_volume = blank.of ∙ can.lock.volume; sized = blank.free.size ∙ blank.long }; idle = blank.free.idle })))
              go None e = ⊎_elim
                  (λ v.
                  let x = none_listed v.0 i v.1 in
                  let at = subst (λ (j : ℕ). Contains (held_here old v.0 k) (j, x.0.1)) x.2 x.1 in
                  let same_part : x.0.1 ≡ p = same_Some x.0.1 p (sym (segment_back r n there v.0 i x.0.1 at) ∙ then) in
                  inr (inl (v.0, subst (λ (y : Spun D). Contains (held_here old v.0 k) (i, y)) same_part at)))
                  (λ none. inl (sym (segment_then r n here there i (λ v has. none v (past_rows v i has) has)) ∙ then))
                  (listed old k i volumes)
                where
                  then : segment_here n i ≡ Some p
                  then = sym (unpooled i e) ∙ is

      -- so all of the image is here
      pub all_back : RefillsAll state base.blocks old k (image_here old.images.items k) after
      all_back = go (image_here old.images.items k) refl
        where
          go : (o : Option (ImageRest D)) → image_here old.images.items k ≡ o → RefillsAll state base.blocks old k (image_here old.images.items k) after
          go None none = rw none (rw (not_filled none) at emptied)
          go (Some r) here =
              let n = filled r here in
              let q = subst (λ (o : Option (ImageRest D)). EmptiesInto pool o after) n.1 emptied in
              rw here (q.0, q.1, refilled r n.0 here n.1 n.2 q.0 q.2)

-- ---- Pools are closed one after another, the last first

module _ {D : Type 0} (state : D → State) where
  -- what is refilled of the rest in between is refilled of the first one
  pub refills_same : (blocks : ℕ) (old cur : Rest D) (k : ℕ) → KeepsLogger old cur k → (after : Option (ImageRest D)) → RefillsAll state blocks cur k (image_here cur.images.items k) after → RefillsAll state blocks old k (image_here old.images.items k) after
  refills_same blocks old cur k kept after filled = go (image_here old.images.items k) (subst (λ (o : Option (ImageRest D)). RefillsAll state blocks cur k o after) kept.image filled)
    where
      go : (o : Option (ImageRest D)) → RefillsAll state blocks cur k o after → RefillsAll state blocks old k o after
      go None e = e
      go (Some r) x = (
        x.0,
        x.1,
        record {
          same = x.2.same;
          all = x.2.all;
          kept = x.2.kept;
          back = λ v i p has. x.2.back v i p (rw (kept.held v) has);
          only = λ i p is. ⊎_elim (λ here. inl here) (λ more. inr (⊎_elim (λ v. inl (v.0, rw (kept.held v.0) at v.1)) (λ blank. inr blank) more)) (x.2.only i p is);
        },
      )

  pub logger_same : (r : Rest D) (k : ℕ) → KeepsLogger r r k
  logger_same r k = assumption

  pub logger_then : (a b c : Rest D) (k : ℕ) → KeepsLogger a b k → KeepsLogger b c k → KeepsLogger a c k
  logger_then a b c k first then = record { image = then.image ∙ first.image; pools = λ v. then.pools v ∙ first.pools v; held = λ v. then.held v ∙ first.held v }

  pub spindles_same : (r : Rest D) → KeepsSpindles r r
  spindles_same r = assumption

  pub spindles_then : (a b c : Rest D) → KeepsSpindles a b → KeepsSpindles b c → KeepsSpindles a c
  spindles_then a b c first then = record {
    count = then.count ∙ first.count;
    image_count = then.image_count ∙ first.image_count;
    rows = λ n all. then.rows n (first.rows n all);
    spindles = λ v k. then.spindles v k ∙ first.spindles v k;
  }

  -- a pool that may be closed may be afterwards, where what there is of its log is as it was
  pub still_may : (volumes k : ℕ) (z : Shape) (lock : TurnLock (Pool (FreeSegment D)) PoolBase) (old cur : Rest D) → KeepsLogger old cur k → KeepsSpindles old cur → CanClosePool state volumes k z lock old → CanClosePool state volumes k z lock cur
  still_may volumes k z lock old cur kept rows can = record {
    lock = can.lock;
    count = rows.count ∙ can.count;
    rows = rows.rows volumes can.rows;
    below = can.below;
    image_count = rows.image_count ∙ can.image_count;
    passes = λ v below. ((can.passes v below).0, kept.pools v ∙ (can.passes v below).1, (can.passes v below).2);
    image = λ n here. can.image n (sym kept.image ∙ here);
    known = λ i n here within. can.known i n (sym kept.image ∙ here) within;
    known_passes = can.known_passes;
    here = λ i n here within. let x = can.here i n (sym kept.image ∙ here) within in (λ some. to_new i (x.0 some), λ h. x.1 (to_old i h));
    others = λ i none. can.others i (sym kept.image ∙ none);
    held = λ v i has. let h = can.held v i (rw (kept.held v) at has) in (h.0, kept.pools v ∙ h.1, h.2);
    once = λ v. rw (kept.held v) (can.once v);
    parts = λ v. rw (kept.held v) (can.parts v);
    out = λ v none. kept.held v ∙ can.out v (sym kept.image ∙ none);
  }
    where
      to_new : (i : ℕ) → IsHeldHere old k i → IsHeldHere cur k i
      to_new i h = (h.0, (h.1.0, kept.pools h.0 ∙ h.1.1, h.1.2), λ has. h.2 (rw (kept.held h.0) at has))

      to_old : (i : ℕ) → IsHeldHere cur k i → IsHeldHere old k i
      to_old i h = (h.0, (h.1.0, sym (kept.pools h.0) ∙ h.1.1, h.1.2), λ has. h.2 (rw (kept.held h.0) has))

  -- ---- The pools from number n on are closed

  module _ (all : List (TurnLock (Pool (FreeSegment D)) PoolBase)) (init : Rest D) where
    pub record ArePoolsClosed (n : ℕ) (cur : Rest D) : Type 0 where
      pub images : (k : ℕ) (f : TurnLock (Pool (FreeSegment D)) PoolBase) → n ≤ k → slice_get all k ≡ Some f → RefillsAll state (lock_id f).base.blocks init k (image_here init.images.items k) (image_here cur.images.items k)
      pub uses : (k : ℕ) (f : TurnLock (Pool (FreeSegment D)) PoolBase) → n ≤ k → slice_get all k ≡ Some f → (entries : List Entry) × IsClosedPool f init k entries
      pub held : (v k : ℕ) → n ≤ k → k < length all → held_here cur v k ≡ []
      pub before : (k : ℕ) → k < n → KeepsLogger init cur k
      pub behind : (k : ℕ) → length all ≤ k → KeepsLogger init cur k
      pub spindles : KeepsSpindles init cur

    pub no_pool_closed : ArePoolsClosed (length all) init
    no_pool_closed = record {
      images = λ k f from at. absurd (let below = slice_get_within all k f at in omega (arith, below, from));
      uses = λ k f from at. absurd (let below = slice_get_within all k f at in omega (arith, below, from));
      held = λ v k from below. absurd (omega (arith, from, below));
      before = λ k less. logger_same init k;
      behind = λ k past. logger_same init k;
      spindles = spindles_same init;
    }

    module _ (n : ℕ) (lock : TurnLock (Pool (FreeSegment D)) PoolBase) (at : slice_get all n ≡ Some lock) (cur new : Rest D) (so_far : ArePoolsClosed (n + 1) cur)
        (image : RefillsAll state (lock_id lock).base.blocks cur n (image_here cur.images.items n) (image_here new.images.items n)) (uses : (entries : List Entry) × IsClosedPool lock cur n entries) (held : (v : ℕ) → held_here new v n ≡ [])
        (others : (k : ℕ) → k ≢ n → KeepsLogger cur new k) (spindles : KeepsSpindles cur new) where
      pub one_pool_more : ArePoolsClosed n new
      one_pool_more = record {
        images = λ k f from is. ⊎_elim
            (λ (e : k ≡ n). rw (e, ← (same_lock k f e is)) (refills_same (lock_id lock).base.blocks init cur n (so_far.before n (omega arith)) (image_here new.images.items n) image))
            (λ differs. rw ((others k differs).image) (so_far.images k f (omega (arith, from, differs)) is))
            (cases_eq k n);
        uses = λ k f from is. ⊎_elim
            (λ (e : k ≡ n). rw (e, ← (same_lock k f e is)) (uses.0, record { legal = uses.1.legal; made = λ v. uses.1.made v ∙ ap (λ (o : Option (PassOf (Pool (FreeSegment D)) PoolBase)). entries_made o) ((so_far.before n (omega arith)).pools v) }))
            (λ differs. so_far.uses k f (omega (arith, from, differs)) is)
            (cases_eq k n);
        held = λ v k from below. ⊎_elim (λ e. rw e (held v)) (λ differs. (others k differs).held v ∙ so_far.held v k (omega (arith, from, differs)) below) (cases_eq k n);
        before = λ k less. logger_then init cur new k (so_far.before k (omega (arith, less))) (others k (λ e. absurd (omega (arith, less, e))));
        behind = λ k past. logger_then init cur new k (so_far.behind k past) (others k (λ e. absurd (let below = slice_get_within all n lock at in omega (arith, past, e, below))));
        spindles = spindles_then init cur new so_far.spindles spindles;
      }
        where
          same_lock : (k : ℕ) (f : TurnLock (Pool (FreeSegment D)) PoolBase) → k ≡ n → slice_get all k ≡ Some f → lock ≡ f
          same_lock k f e is = same_Some lock f (sym at ∙ ap (slice_get all) (sym e) ∙ is)
