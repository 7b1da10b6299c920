-- Pools are emptied, and their locks ended: each free segment goes to its place.
use Rattle.rack_parts.proofs.Basics.{◌≡◌, ◌≢◌, ◌<◌, ◌+◌, ℕ, zero, suc, cond, List, [], ◌∷◌, length, map, Option, None, Some, is_some, refl}
use Rattle.rack_parts.proofs.Basics.{ap, ◌∙◌, arith, ◌⊎◌, ⊎_elim, inl, inr, sym, subst, true, false, ◌≤◌, ◌++◌, slice_index_or, IsSome}
use Rattle.rack_parts.proofs.Basics.{IfSome, MatchOption, slice_set, All, slice_get, none-some, same_Some, slice_get_within, cases_eq}
use Rattle.rack_parts.proofs.Basics.{false≢true, length-set, get_or-set_same, get_or-set_other, nil_from_length, length_push, length-map, All-head, All-tail}
use Rattle.rack_parts.proofs.Terms.{holder, is_in_pool, item_in, note_in, holder_in, item_at, note_at, base_of, ChangesOnly, IsSamePool, IsEmptyPool, StandsFor, holders_after}
use Rattle.rack_parts.proofs.Terms.{Holder, Elsewhere, InPool, HeldBy, Pool, free_part, IsBlank, FreeSegment, segment_here, IsFilled, HasPlaces, IsSameBut, EmptiesInto, item_part}
use Rattle.rack_parts.proofs.Terms.{either_part, IsBlankPart, IsRefilled, CanEnd, IsEndedInto, EndsInto, ImageRest, State, Entry, lock_id, pass_mine, IsPassOf, IsFree}
use Rattle.rack_parts.proofs.Terms.{AreNewPasses, AreWhole, TurnLock, PassOf, PoolBase, Issued}
use Rattle.std.specs.Prelude.{sum_by}
use Rattle.std.proofs.lemmas.List.{ext_get_or}
use Rattle.std.proofs.lemmas.List.Sums.{sum_by-set}
use Rattle.turn_lock.specs.Views.{total}
use Rattle.seg_pool.specs.declared.pool.Slot.{Slot}
use Rattle.seg_pool.specs.declared.pool.Slot.TheVariants.{Empty, Noted, Free}
use Rattle.rack_parts.proofs.Members.{a_value, here_within, get_front, get_last}
use Rattle.rack_parts.proofs.Returned.{filled_same, same_but_then}

-- ---- Slots of a pool that is filled and emptied

pub get_map : {X Y : Type 0} (f : X → Y) (xs : List X) (i : ℕ) (d : X) → slice_index_or (map f xs) i (f d) ≡ f (slice_index_or xs i d)
get_map f [] i d = refl
get_map f (x ∷ xs) zero d = refl
get_map f (x ∷ xs) (suc i) d = get_map f xs i d

-- who has an index, by what its slot shows
abbrev pub holder_of : {T : Type 0} → Option T → Option ℕ → Holder
holder_of None None = Elsewhere
holder_of None (Some pass) = HeldBy pass
holder_of (Some item) note = InPool

slot_holder : {T : Type 0} (s : Slot T) → holder_in s ≡ holder_of (item_in s) (note_in s)
slot_holder Empty = refl
slot_holder (Noted pass) = refl
slot_holder (Free item) = refl

pub holder_at : {T : Type 0} (p : Pool T) (i : ℕ) → holder (base_of p).holders i ≡ holder_of (item_at p i) (note_at p i)
holder_at {T} p i = get_map (λ (s : Slot T). holder_in s) p.slots.items i Empty ∙ slot_holder (slice_index_or p.slots.items i Empty)

-- ---- How many slots have an item

module _ {T : Type 0} where
  abbrev one_in : Option T → ℕ
  one_in o = cond (is_some o) 1 0

  abbrev items_of : List (Slot T) → List (Option T)
  items_of ss = map (λ (s : Slot T). item_in s) ss

  abbrev pub free_count : List (Slot T) → ℕ
  free_count ss = sum_by one_in (items_of ss)

  -- where one item was taken, fewer are left
  pub fewer_items : (old new : Pool T) (k : ℕ) (x : T) → IsSamePool old new → item_at old k ≡ Some x → ChangesOnly old new k None None → free_count new.slots.items < free_count old.slots.items
  fewer_items old new k x same had changes =
      let xs = items_of old.slots.items in
      let ys = items_of new.slots.items in
      let was : (i : ℕ) → slice_index_or xs i None ≡ item_at old i = λ i. get_map (λ (s : Slot T). item_in s) old.slots.items i Empty in
      let now : (i : ℕ) → slice_index_or ys i None ≡ item_at new i = λ i. get_map (λ (s : Slot T). item_in s) new.slots.items i Empty in
      let within = here_within xs k x (was k ∙ had) in
      let sizes : length ys ≡ length (slice_set xs k None) =
      omega (arith, length-map old.slots.items (λ (s : Slot T). item_in s), length-map new.slots.items (λ (s : Slot T). item_in s), length-set xs k None, new.slots.ok.0, old.slots.ok.0, new.sized, old.sized, same.room) in
      let lists : ys ≡ slice_set xs k None = ext_get_or None ys (slice_set xs k None) sizes (λ i lt. now i ∙ ⊎_elim
      (λ e. rw e (changes.item_here ∙ sym (get_or-set_same xs k None None within)))
      (λ other. changes.items i other ∙ sym (was i) ∙ sym (get_or-set_other xs k i None None other))
      (cases_eq i k)) in
      omega (arith, sum_by-set one_in xs k None None within, ap one_in (was k ∙ had), ap (sum_by one_in) lists)

-- ---- A pool is emptied into what is here of its image

module _ {D : Type 0} where
  -- at an index: the item is still in the pool, or there was one and it is in its place
  abbrev IsAt : (p q : Pool (FreeSegment D)) → (old new : ImageRest D) → ℕ → Type 0
  IsAt p q old new i =
      ((item_at q i ≡ item_at p i) × (segment_here new i ≡ segment_here old i))
      ⊎ ((item_at q i ≡ None) × ((f : FreeSegment D) × (item_at p i ≡ Some f) × (segment_here new i ≡ Some (free_part f))))

  pub record AreMoved (p q : Pool (FreeSegment D)) (old new : ImageRest D) : Type 0 where
    pub same : IsSameBut old new
    pub each : (i : ℕ) → IsAt p q old new i

  -- some items of the pool are in their places
  abbrev pub AreMovedInto : (p q : Pool (FreeSegment D)) → (old new : Option (ImageRest D)) → Type 0
  AreMovedInto p q old new = MatchOption old ((new ≡ None) × IsEmptyPool q) (λ r. HasPlaces p r × ((n : ImageRest D) × (new ≡ Some n) × AreMoved p q r n))

  pub none_moved : (p : Pool (FreeSegment D)) (o : Option (ImageRest D)) → MatchOption o (IsEmptyPool p) (HasPlaces p) → AreMovedInto p p o o
  none_moved p None empty = (refl, empty)
  none_moved p (Some r) places = (places, (r, refl, record { same = assumption; each = λ i. inl (refl, refl) }))

  -- the place of an item that is still in the pool
  module _ (p q : Pool (FreeSegment D)) (k : ℕ) (f : FreeSegment D) (had : item_at q k ≡ Some f) where
    was_item : (old new : ImageRest D) → IsAt p q old new k → (item_at p k ≡ Some f) × (segment_here new k ≡ segment_here old k)
    was_item old new at = ⊎_elim (λ a. (sym a.0 ∙ had, a.1)) (λ a. absurd (none-some f (sym a.0 ∙ had))) at

    pub place_there : (old new : Option (ImageRest D)) → AreMovedInto p q old new → IsSome new
    place_there None new moved = absurd (none-some f (sym (moved.1 k) ∙ had))
    place_there (Some r) new moved = ap is_some moved.1.1

    pub place_empty : (old new : Option (ImageRest D)) → AreMovedInto p q old new → IfSome new (λ r. (k < length r.segments.items) × (segment_here r k ≡ None))
    place_empty None new moved = absurd (none-some f (sym (moved.1 k) ∙ had))
    place_empty (Some r) new moved =
        let n = moved.1.0 in let m = moved.1.2 in let was = was_item r n (m.each k) in
        let some : IsSome (item_at p k) = ap is_some was.0 in
        rw moved.1.1 (omega (arith, m.same.count, moved.0.within k some), was.1 ∙ moved.0.empty k some)

    -- it goes to its place
    pub moved_next : (after : Pool (FreeSegment D)) → ChangesOnly q after k None None → (old new newer : Option (ImageRest D)) → AreMovedInto p q old new
        → IsSome newer → IfSome new (λ r. IfSome newer (λ n. IsFilled r n k (free_part f))) → AreMovedInto p after old newer
    moved_next after changes None new newer moved some filled = absurd (none-some f (sym (moved.1 k) ∙ had))
    moved_next after changes (Some r) new newer moved some filled =
        let n = moved.1.0 in let m = moved.1.2 in let there = a_value newer some in let x = there.0 in
        let was = was_item r n (m.each k) in
        let fill : IsFilled n x k (free_part f) = rw (moved.1.1, there.1) at filled in
        let within : k < length n.segments.items = omega (arith, m.same.count, moved.0.within k (ap is_some was.0)) in
        let here : (i : ℕ) → i ≡ k → IsAt p after r x i = λ i e.
        rw e (inr (changes.item_here, (f, was.0, rw fill.segments (get_or-set_same n.segments.items k (Some (free_part f)) None within)))) in
        let there_ : (i : ℕ) → i ≢ k → IsAt p after r x i = λ i other.
        let seg : segment_here x i ≡ segment_here n i = rw fill.segments (get_or-set_other n.segments.items k i (Some (free_part f)) None other) in
        let item : item_at after i ≡ item_at q i = changes.items i other in
        ⊎_elim (λ a. inl (item ∙ a.0, seg ∙ a.1)) (λ a. inr (item ∙ a.0, (a.1.0, a.1.1, seg ∙ a.1.2))) (m.each i) in
        (moved.0, (x, there.1, record { same = same_but_then r n x m.same (filled_same n x k (free_part f) fill); each = λ i. ⊎_elim (here i) (there_ i) (cases_eq i k) }))

  -- all items are in their places
  pub all_moved : (p q : Pool (FreeSegment D)) (old new : Option (ImageRest D)) → IsEmptyPool q → AreMovedInto p q old new → EmptiesInto p old new
  all_moved p q None new empty moved = moved.0
  all_moved p q (Some r) new empty moved =
      let n = moved.1.0 in let m = moved.1.2 in (
        n,
        moved.1.1,
        record {
          same = m.same;
          segments = λ i. ⊎_elim
              (λ a. a.1 ∙ ap (λ (o : Option (FreeSegment D)). either_part (item_part o) (segment_here r i)) (sym (sym a.0 ∙ empty i)))
              (λ a. a.1.2 ∙ ap (λ (o : Option (FreeSegment D)). either_part (item_part o) (segment_here r i)) (sym a.1.1))
              (m.each i);
        },
      )

-- ---- The lock of a pool is ended before it was used

total_none : {A : Type 0} (f : A → ℕ) (xs : List A) → All (λ x. f x ≡ 0) xs → total f xs ≡ 0
total_none f [] all = refl
total_none f (x ∷ xs) all =
    let here : f x ≡ 0 = All-head (λ y. f y ≡ 0) x xs all in
    let rest : total f xs ≡ 0 = total_none f xs (All-tail (λ y. f y ≡ 0) x xs all) in
    omega (arith, here, rest)

-- new passes have no entries
pub no_entries : {T B : Type 0} (l : TurnLock T B) (ps : List (PassOf T B)) (es : List Entry) → AreNewPasses l ps → AreWhole es ps → es ≡ []
no_entries {T} {B} l ps es new whole =
    nil_from_length es (whole.counted ∙ total_none (λ (p : PassOf T B). length (pass_mine p)) ps (λ k d within. ap length (new k d within).mine))

-- they are its passes, in no turn
pub own_and_free : {T B : Type 0} (l : TurnLock T B) (ps : List (PassOf T B)) → AreNewPasses l ps → All (λ p. IsPassOf l p × IsFree p) ps
own_and_free l ps new k d within = ((new k d within).own, (new k d within).free)

pub in_pool : (h : Holder) → is_in_pool h ≡ true → h ≡ InPool
in_pool InPool is = refl
in_pool (HeldBy pass) is = absurd (false≢true is)
in_pool Elsewhere is = absurd (false≢true is)

module _ {D : Type 0} (state : D → State) where
  not_in_pool : (h : Holder) → h ≢ InPool → is_in_pool h ≡ false
  not_in_pool InPool is = absurd (is refl)
  not_in_pool (HeldBy pass) is = refl
  not_in_pool Elsewhere is = refl

  none_of : {X : Type 0} (o : Option X) → is_some o ≡ false → o ≡ None
  none_of None none = refl
  none_of (Some x) none = absurd (false≢true (sym none))

  module _ (i : Issued (Pool (FreeSegment D)) PoolBase) (image : Option (ImageRest D)) (can : CanEnd i image) (p : Pool (FreeSegment D)) (es : List Entry)
      (stands : StandsFor (IsBlank state) p (lock_id i.lock).base es) (none : es ≡ []) where
    abbrev pub b : PoolBase
    b = (lock_id i.lock).base

    free_at : (index : ℕ) → is_some (item_at p index) ≡ is_in_pool (holder b.holders index)
    free_at index = stands.free index ∙ ap (λ (e : List Entry). is_in_pool (holder (holders_after b e) index)) none

    was_free : (index : ℕ) → IsSome (item_at p index) → holder b.holders index ≡ InPool
    was_free index some = in_pool (holder b.holders index) (sym (free_at index) ∙ some)

    pub may_empty : MatchOption image (IsEmptyPool p) (HasPlaces p)
    may_empty = which image refl
      where
        which : (o : Option (ImageRest D)) → image ≡ o → MatchOption o (IsEmptyPool p) (HasPlaces p)
        which None is = λ index. none_of (item_at p index) (free_at index ∙ not_in_pool (holder b.holders index) (λ free. (let place = can.places index free in none-some place.0 (sym is ∙ place.1))))
        which (Some r) is = record {
          within = λ index some. (let place = can.places index (was_free index some) in
              let same : place.0 ≡ r = same_Some place.0 r (sym place.1 ∙ is) in rw same at place.2);
          empty = λ index some. (let place = can.places index (was_free index some) in
              let same : place.0 ≡ r = same_Some place.0 r (sym place.1 ∙ is) in rw same at place.3);
        }

    blank_part : (f : FreeSegment D) → IsBlank state b.volume b.blocks f → IsBlankPart state b.volume b.blocks (free_part f)
    blank_part f blank = record { part = record { of_volume = blank.of; sized = blank.free.size ∙ blank.long }; idle = blank.free.idle }

    ended : (r n : ImageRest D) → IsRefilled p r n → IsEndedInto state b r n
    ended r n refilled = record {
      same = refilled.same;
      free = λ index is.
          let f = a_value (item_at p index) (free_at index ∙ ap is_in_pool is) in
          (free_part f.0, refilled.segments index ∙ ap (λ (o : Option (FreeSegment D)). either_part (item_part o) (segment_here r index)) f.1, blank_part f.0 (stands.items index f.0 f.1));
      others = λ index other.
          let gone = none_of (item_at p index) (free_at index ∙ not_in_pool (holder b.holders index) other) in
          refilled.segments index ∙ ap (λ (o : Option (FreeSegment D)). either_part (item_part o) (segment_here r index)) gone;
    }

    pub ends_into : (old new : Option (ImageRest D)) → EmptiesInto p old new → EndsInto state b old new
    ends_into None new empties = empties
    ends_into (Some r) new empties = (empties.0, empties.1, ended r empties.0 empties.2)

-- ---- The locks of pools are ended, the last first

abbrev pub LockOf : Type 0 → Type 0
LockOf D = Issued (Pool (FreeSegment D)) PoolBase

module _ {D : Type 0} (state : D → State) where
  abbrev image_of : List (Option (ImageRest D)) → ℕ → Option (ImageRest D)
  image_of images k = slice_index_or images k None

  -- those behind the ones that are left are ended
  pub record AreEndedTo (old now : List (Option (ImageRest D))) (all left : List (LockOf D)) : Type 0 where
    pub count : length now ≡ length old
    pub fewer : length left ≤ length all
    pub front : (k : ℕ) → k < length left → slice_get left k ≡ slice_get all k
    pub ended : (k : ℕ) (i : LockOf D) → length left ≤ k → slice_get all k ≡ Some i → EndsInto state (lock_id i.lock).base (image_of old k) (image_of now k)
    pub same : (k : ℕ) → k < length left → image_of now k ≡ image_of old k
    pub others : (k : ℕ) → length all ≤ k → image_of now k ≡ image_of old k

  pub ended_none : (old : List (Option (ImageRest D))) (all : List (LockOf D)) → AreEndedTo old old all all
  ended_none old all = record {
    count = refl;
    fewer = omega arith;
    front = λ k lt. refl;
    ended = λ k i behind is. absurd (let w = slice_get_within all k i is in omega (arith, w, behind));
    same = λ k lt. refl;
    others = λ k behind. refl;
  }

  module _ (old now : List (Option (ImageRest D))) (all rest : List (LockOf D)) (i : LockOf D) (n : ℕ) (size : n ≡ length rest) (so_far : AreEndedTo old now all (rest ++ i ∷ [])) (within : length all ≤ length old) where
    longer : length (rest ++ i ∷ []) ≡ n + 1
    longer = length_push rest i ∙ ap (λ (m : ℕ). m + 1) (sym size)

    at : slice_get all n ≡ Some i
    at = sym (so_far.front n (let l = longer in omega (arith, l))) ∙ get_last rest i n (sym size)

    in_now : n < length now
    in_now = let w = slice_get_within all n i at in omega (arith, w, within, so_far.count)

    still : image_of now n ≡ image_of old n
    still = so_far.same n (let l = longer in omega (arith, l))

    pub end_within : n < length now
    end_within = in_now

    pub next_can_end : ((k : ℕ) (j : LockOf D) → slice_get all k ≡ Some j → CanEnd j (image_of old k)) → CanEnd i (image_of now n)
    next_can_end can = subst (CanEnd i) (sym still) (can n i at)

    pub ended_next : (image : Option (ImageRest D)) → EndsInto state (lock_id i.lock).base (image_of now n) image → AreEndedTo old (slice_set now n image) all rest
    ended_next image ends = record {
      count = length-set now n image ∙ so_far.count;
      fewer = let l = longer in omega (arith, l, so_far.fewer, size);
      front = λ k lt. sym (get_front rest i k lt) ∙ so_far.front k (let l = longer in omega (arith, l, lt, size));
      ended = λ k j behind is. ⊎_elim
          (λ (e : k ≡ n). let same : i ≡ j = same_Some i j (sym at ∙ ap (slice_get all) (sym e) ∙ is) in rw (e, get_or-set_same now n image None in_now, ← same) (rw still at ends))
          (λ other. rw (get_or-set_other now n k image None other) (so_far.ended k j (let l = longer in omega (arith, l, behind, other, size)) is))
          (cases_eq k n);
      same = λ k lt. get_or-set_other now n k image None (λ e. absurd (omega (arith, e, lt, size))) ∙ so_far.same k (let l = longer in omega (arith, l, lt, size));
      others = λ k behind. get_or-set_other now n k image None (λ e. absurd (let w = slice_get_within all n i at in omega (arith, w, e, behind))) ∙ so_far.others k behind;
    }
