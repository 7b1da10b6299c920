-- Locks are issued: those of spindles, and those of pools, which get the free segments of an image.
use Rattle.rack_parts.proofs.Basics.{◌≡◌, ⊎_elim, ◌<◌, ◌≤◌, ℕ, List, [], ◌∷◌, ◌++◌, sym, ap, subst, arith, ◌≢◌, ◌+◌, Option, None, Some, refl, ◌∙◌, option_map, cases_lt, cases_eq}
use Rattle.rack_parts.proofs.Basics.{get_or_append_left, get_or_push, length-map, length_push, length-set, get_or-set_same, get_or-set_other, get_or_past, All-push, length}
use Rattle.rack_parts.proofs.Basics.{slice_get, slice_index_or, slice_set, Result, Ok, Err, OnErr, none-some, same_Some, slice_get-get_or, slice_get_within, slice_get_past}
use Rattle.rack_parts.proofs.Basics.{slice_get-map, slice_get_read, Global, Vec}
use Rattle.rack_parts.proofs.Terms.{lock_passes, AreNewPasses, lock_id, has_token, Spindle, SpindleBase, AreAccesses, IsInOrder, AreSettled, AreSpindlesOf, IsSpindleLock}
use Rattle.rack_parts.proofs.Terms.{segment_here, Issued, State, Spun, holder, IsEmptyPool, IsSamePool, StandsFor, item_at, note_at, room_of, base_of, volume_of, Pool, IsBlank}
use Rattle.rack_parts.proofs.Terms.{free_part, FreeSegment, SegHead, Free, Owned, holder_said, left_by, FillsSlot, IsFilledPool, TakesFree, of_head, either_part, item_part}
use Rattle.rack_parts.proofs.Terms.{IsBlankPart, IsSameBut, IsRefilled, CanFill, IsRestored, Restores, IsSupplied, CanIssue, IsIssuedPool, Supplies, CanEnd, EndsInto, holder_by}
use Rattle.rack_parts.proofs.Terms.{Shape, Elsewhere, InPool, HeldBy, Said, ImageRest, Config, VolumeConf, PoolBase, shape_in, shapes_of, TurnLock, PassOf}
use Rattle.seg_pool.specs.Pools.{blocks_of}
use Rattle.rack_parts.proofs.Members.{a_value, element_at, get_front, get_last}
use Rattle.rack_parts.proofs.PoolsEmptied.{holder_of, holder_at}
use Rattle.rack_parts.proofs.Returned.{same_but_then}

-- ---- The passes of a new lock

-- they are all of the lock's, in order
pub new_in_order : {T B : Type 0} → (i : Issued T B) → length i.passes.items ≡ lock_passes i.lock → AreNewPasses i.lock i.passes.items → IsInOrder i
new_in_order i count new = record {
  whole = record { count = count; each = λ n d within. ((new n d within).own, (new n d within).free) };
  numbered = λ n d within. (new n d within).number_is;
}

-- no pass of a spindle was used
pub new_settled : (k : ℕ) (i : Issued Spindle SpindleBase) → AreNewPasses i.lock i.passes.items → AreSettled k i
new_settled k i new = record {
  settled = λ n d within. ap has_token (new n d within).mine;
  accesses = λ n d within. subst AreAccesses (sym (new n d within).mine) tt;
  others = λ n d other within. (new n d within).mine;
  last = λ n d is. let one = new n d (omega (arith, is)) in (one.seen, one.mine);
}

-- one more lock behind those that are made
pub one_more : (volumes timeout : ℕ) (made : List (Issued Spindle SpindleBase)) (i : Issued Spindle SpindleBase) → AreSpindlesOf volumes timeout made → IsInOrder i → AreSettled (length made) i → IsSpindleLock volumes (length made) timeout i.lock → AreSpindlesOf volumes timeout (made ++ i ∷ [])
one_more volumes timeout made i so_far order settled lock = record {
  each = All-push (λ x. IsInOrder x) made i so_far.each order;
  spindles = λ k d within. ⊎_elim
      (λ (less : k < length made). rw (get_or_append_left made (i ∷ []) d k less) (so_far.spindles k d less))
      (λ (more : length made ≤ k). let e : k ≡ length made = omega (arith, within, more, length_push made i) in rw (e, get_or_push made i d (length made) refl) lock)
      (cases_lt k (length made));
  settled = λ k d within. ⊎_elim
      (λ (less : k < length made). rw (get_or_append_left made (i ∷ []) d k less) (so_far.settled k d less))
      (λ (more : length made ≤ k). let e : k ≡ length made = omega (arith, within, more, length_push made i) in rw (e, get_or_push made i d (length made) refl) settled)
      (cases_lt k (length made));
}

-- ---- A pool is filled, index by index

module _ {D : Type 0} where
  -- the slots below n are filled
  pub record IsFilledTo (state : D → State) (heads : List SegHead) (before now : List (Option (Spun D))) (old new : Pool (FreeSegment D)) (n : ℕ) : Type 0 where
    pub same : IsSamePool old new
    pub stands : StandsFor (IsBlank state) new (base_of new) []
    pub holders : (i : ℕ) (h : SegHead) → i < n → slice_get heads i ≡ Some h → holder (base_of new).holders i ≡ holder_said h
    pub items : (i : ℕ) (f : FreeSegment D) → item_at new i ≡ Some f → (slice_get heads i ≡ Some Free) × (slice_get before i ≡ Some (Some (free_part f)))
    pub none : (i : ℕ) → n ≤ i → (item_at new i ≡ None) × (note_at new i ≡ None)
    pub count : length now ≡ length before
    pub taken : (i : ℕ) (h : SegHead) → i < n → slice_get heads i ≡ Some h → slice_index_or now i None ≡ left_by h (slice_index_or before i None)
    pub left : (i : ℕ) → n ≤ i → slice_index_or now i None ≡ slice_index_or before i None

  pub filled_none : (state : D → State) (heads : List SegHead) (before : List (Option (Spun D))) (p : Pool (FreeSegment D))
      → StandsFor (IsBlank state) p (base_of p) [] → IsEmptyPool p → ((i : ℕ) → note_at p i ≡ None) → IsFilledTo state heads before before p p 0
  filled_none state heads before p stands empty unnoted = record {
    same = record { volume = refl; blocks = refl; room = refl };
    stands = stands;
    holders = λ i h below is. absurd (omega (arith, below));
    items = λ i f is. absurd (none-some f (sym (empty i) ∙ is));
    none = λ i behind. (empty i, unnoted i);
    count = refl;
    taken = λ i h below is. absurd (omega (arith, below));
    left = λ i behind. refl;
  }

  module _ (state : D → State) (heads : List SegHead) (before now : List (Option (Spun D))) (old new newer : Pool (FreeSegment D)) (n : ℕ) (so_far : IsFilledTo state heads before now old new n) where
    pub filled_next : (h : SegHead) (segment left : Option (Spun D)) → slice_get heads n ≡ Some h → n < length before → segment ≡ slice_index_or now n None → left ≡ left_by h segment
        → IsSamePool new newer → StandsFor (IsBlank state) newer (base_of newer) [] → FillsSlot n h segment new newer
        → IsFilledTo state heads before (slice_set now n left) old newer (n + 1)
    filled_next h segment left is within at left_is same stands fills =
        let was : segment ≡ slice_index_or before n None = at ∙ so_far.left n (omega arith) in
        let in_now : n < length now = omega (arith, so_far.count, within) in
        let below : (i : ℕ) → i < n + 1 → i ≢ n → i < n = λ i lt other. omega (arith, lt, other) in
        let head_is : (i : ℕ) (g : SegHead) → i ≡ n → slice_get heads i ≡ Some g → h ≡ g = λ i g e there. same_Some h g (sym is ∙ ap (slice_get heads) (sym e) ∙ there) in
        record {
          same = record { volume = same.volume ∙ so_far.same.volume; blocks = same.blocks ∙ so_far.same.blocks; room = same.room ∙ so_far.same.room };
          stands = stands;
          holders = λ i g lt there. ⊎_elim
              (λ e. ap (holder (base_of newer).holders) e ∙ fills.holder_is ∙ ap holder_said (head_is i g e there))
              (λ other. fills.holders i other ∙ so_far.holders i g (below i lt other) there)
              (cases_eq i n);
          items = λ i f there. ⊎_elim
              (λ e. let found = fills.item f (ap (item_at newer) (sym e) ∙ there) in (
                ap (slice_get heads) e ∙ is ∙ ap (λ (g : SegHead). Some g) found.0,
                ap (slice_get before) e ∙ slice_get-get_or before n None within ∙ ap (λ (o : Option (Spun D)). Some o) (sym was ∙ found.1),
              ))
              (λ other. so_far.items i f (sym (fills.items i other) ∙ there))
              (cases_eq i n);
          none = λ i behind. let other : i ≢ n = λ e. absurd (omega (arith, e, behind)) in let was_none = so_far.none i (omega (arith, behind)) in
              (fills.items i other ∙ was_none.0, fills.notes i other ∙ was_none.1);
          count = length-set now n left ∙ so_far.count;
          taken = λ i g lt there. ⊎_elim
              (λ e. rw e (get_or-set_same now n left None in_now ∙ left_is ∙ ap (λ (k : SegHead). left_by k segment) (head_is i g e there) ∙ ap (left_by g) was))
              (λ other. get_or-set_other now n i left None other ∙ so_far.taken i g (below i lt other) there)
              (cases_eq i n);
          left = λ i behind. get_or-set_other now n i left None (λ e. absurd (omega (arith, e, behind))) ∙ so_far.left i (omega (arith, behind));
        }

  pub filled_all : (state : D → State) (heads : List SegHead) (before now : List (Option (Spun D))) (old new : Pool (FreeSegment D)) (n : ℕ) → IsFilledTo state heads before now old new n → length heads ≤ n
      → room_of old ≡ length heads → IsFilledPool heads before new × TakesFree heads before now
  filled_all state heads before now old new n so_far end room =
      let below : (i : ℕ) (h : SegHead) → slice_get heads i ≡ Some h → i < n = λ i h is. (let w = slice_get_within heads i h is in omega (arith, w, end)) in (
        record { room = so_far.same.room ∙ room; holders = λ i h is. so_far.holders i h (below i h is) is; items = so_far.items },
        record { count = so_far.count; each = λ i h is. so_far.taken i h (below i h is) is },
      )

-- ---- A pool gets the free segments of an image

module _ {D : Type 0} (state : D → State) where
  in_pool_item : (o : Option (FreeSegment D)) (note : Option ℕ) → holder_of o note ≡ InPool → (f : FreeSegment D) × (o ≡ Some f)
  in_pool_item None None is = absurd (cc)
  in_pool_item None (Some pass) is = absurd (cc)
  in_pool_item (Some f) note is = (f, refl)

  held_none : (o : Option (FreeSegment D)) (note : Option ℕ) (pass : ℕ) → holder_of o note ≡ HeldBy pass → o ≡ None
  held_none None note pass is = refl
  held_none (Some f) note pass is = absurd (cc)

  module _ (said : Said) (r n : ImageRest D) (old p : Pool (FreeSegment D)) (volumes : ℕ) (s : Shape) (can : CanFill state volumes (volume_of old) s said r)
      (room : room_of old ≡ s.segments) (blocks : blocks_of old ≡ s.segment_blocks) (same : IsSamePool old p) (same_image : IsSameBut r n)
      (stands : StandsFor (IsBlank state) p (base_of p) []) (filled : IsFilledPool said.heads.items r.segments.items p) (takes : TakesFree said.heads.items r.segments.items n.segments.items) where
    abbrev heads : List SegHead
    heads = said.heads.items

    past : (i : ℕ) → length heads ≡ length (base_of p).holders
    past i = sym filled.room ∙ stands.room

    known : (i : ℕ) → i < length heads → slice_get heads i ≡ Some (slice_index_or heads i Free)
    known i within = slice_get-get_or heads i Free within

    -- an item stood where the head is free, and its place is empty
    item_place : (i : ℕ) (f : FreeSegment D) → item_at p i ≡ Some f → (i < length n.segments.items) × (segment_here n i ≡ None)
    item_place i f is =
        let was = filled.items i f is in let within = slice_get_within heads i Free was.0 in
        (omega (arith, within, can.segments.count, takes.count), takes.each i Free was.0)

    restored : (m : ImageRest D) → IsRefilled p n m → IsRestored state (volume_of p) (blocks_of p) said r m
    restored m refilled = record {
      same = same_but_then r n m same_image refilled.same;
      free = λ i is.
          let found = in_pool_item (item_at p i) (note_at p i) (sym (holder_at p i) ∙ filled.holders i Free is) in
          let was = filled.items i found.0 found.1 in
          let blank : IsBlankPart state (volume_of old) s.segment_blocks (free_part found.0) = can.segments.blank i (free_part found.0) is was.1 in (
            free_part found.0,
            refilled.segments i ∙ ap (λ (o : Option (FreeSegment D)). either_part (item_part o) (segment_here n i)) found.1,
            subst (λ (v : ℕ). IsBlankPart state v (blocks_of p) (free_part found.0)) (sym same.volume)
                (subst (λ (b : ℕ). IsBlankPart state (volume_of old) b (free_part found.0)) (sym (same.blocks ∙ blocks)) blank),
          );
      owned = λ i owner is.
          let none = held_none (item_at p i) (note_at p i) owner (sym (holder_at p i) ∙ filled.holders i (Owned owner) is) in
          refilled.segments i ∙ ap (λ (o : Option (FreeSegment D)). either_part (item_part o) (segment_here n i)) none ∙ takes.each i (Owned owner) is;
    }

    pub supplied_some : IsSupplied state (Some said) (Some r) (Some n) p
    supplied_some = record {
      holders = λ i. ⊎_elim
          (λ within. filled.holders i (slice_index_or heads i Free) (known i within) ∙ sym (ap of_head (known i within)))
          (λ behind. get_or_past (base_of p).holders i Elsewhere (omega (arith, behind, past i)) ∙ sym (ap of_head (slice_get_past heads i behind)))
          (cases_lt i (length heads));
      supplies = (same_image, takes);
      places = record {
        within = λ i some. (let f = a_value (item_at p i) some in (item_place i f.0 f.1).0);
        empty = λ i some. (let f = a_value (item_at p i) some in (item_place i f.0 f.1).1);
      };
      restorable = λ last empties. subst (Restores state (volume_of p) (blocks_of p) (Some said) (Some r)) (sym empties.1) (restored empties.0 empties.2);
    }

-- ---- The locks of pools are made one after another, and ended where there is no memory for one

-- the segments of each volume have the configuration's size
pub shape_blocks : (config : Config) (k : ℕ) (s : Shape) → slice_get (shapes_of config) k ≡ Some s → s.segment_blocks ≡ config.segment_blocks
shape_blocks config k s is =
    let v = element_at config.volumes.items k (omega (arith, slice_get_within (shapes_of config) k s is, length-map config.volumes.items (shape_in config))) in
    ap (λ (x : Shape). x.segment_blocks) (same_Some s (shape_in config v.0) (sym is ∙ slice_get-map (shape_in config) config.volumes.items k ∙ ap (option_map (shape_in config)) v.1))

-- the shape of a volume that was read
pub shape_read : (config : Config) (k : ℕ) (v : VolumeConf) → k < length config.volumes.items → v ≡ slice_index_or config.volumes.items k v → slice_get (shapes_of config) k ≡ Some (shape_in config v)
shape_read config k v within read = slice_get-map (shape_in config) config.volumes.items k ∙ ap (option_map (shape_in config)) (slice_get_read config.volumes.items (length config.volumes.items) k v refl within read)

pub on_err : {X E : Type 0} (r : Result X E) (P : Type 0) → P → OnErr r P
on_err (Ok x) P p = tt
on_err (Err e) P p = p

free_not_held : (h : Option SegHead) → of_head h ≡ InPool → h ≡ Some Free
free_not_held None is = absurd (cc)
free_not_held (Some Free) is = refl
free_not_held (Some (Owned owner)) is = absurd (cc)

held_not_free : (owner : ℕ) → HeldBy owner ≢ InPool
held_not_free owner e = cc

module _ {D : Type 0} (state : D → State) (volumes id : ℕ) (s : Shape) where
  abbrev PoolLock : Type 0
  PoolLock = Issued (Pool (FreeSegment D)) PoolBase

  -- an image of which nothing was taken
  pub unchanged : (said : Option Said) (image : Option (ImageRest D)) → CanIssue state volumes id s said image → Restores state id s.segment_blocks said image image
  unchanged None image can = refl
  unchanged (Some said) None can = absurd can
  unchanged (Some said) (Some r) can = record {
    same = assumption;
    free = λ i is.
        let within = slice_get_within said.heads.items i Free is in
        let found = a_value (slice_index_or r.segments.items i None) (can.segments.here i within) in
        let there : slice_get r.segments.items i ≡ Some (Some found.0) = slice_get-get_or r.segments.items i None (omega (arith, within, can.segments.count)) ∙ ap (λ (o : Option (Spun D)). Some o) found.1 in
        (found.0, found.1, can.segments.blank i found.0 is there);
    owned = λ i owner is. refl;
  }

  -- a lock that may be ended again
  pub can_end : (said : Option Said) (old mid : Option (ImageRest D)) (i : PoolLock) → CanIssue state volumes id s said old → Supplies said old mid → IsIssuedPool volumes id s said i → CanEnd i mid
  can_end None old mid i can supplies issued = record {
    count = issued.count ∙ sym issued.lock.passes;
    passes = issued.passes;
    places = λ index is. absurd (let h = issued.holders index in cc);
  }
  can_end (Some said) None mid i can supplies issued = absurd can
  can_end (Some said) (Some r) None i can supplies issued = absurd supplies
  can_end (Some said) (Some r) (Some n) i can supplies issued = record {
    count = issued.count ∙ sym issued.lock.passes;
    passes = issued.passes;
    places = λ index is.
        let free = free_not_held (slice_get said.heads.items index) (sym (issued.holders index) ∙ is) in
        let within = slice_get_within said.heads.items index Free free in
        (n, refl, omega (arith, within, can.segments.count, supplies.1.count), supplies.1.each index Free free);
  }

  -- what an ended lock leaves
  pub pool_restored : (said : Option Said) (old mid new : Option (ImageRest D)) (i : PoolLock) → CanIssue state volumes id s said old → Supplies said old mid → IsIssuedPool volumes id s said i
      → EndsInto state (lock_id i.lock).base mid new → Restores state id s.segment_blocks said old new
  pool_restored None None mid new i can supplies issued ends = subst (λ (o : Option (ImageRest D)). EndsInto state (lock_id i.lock).base o new) supplies ends
  pool_restored None (Some r) mid new i can supplies issued ends = absurd can
  pool_restored (Some said) None mid new i can supplies issued ends = absurd can
  pool_restored (Some said) (Some r) None new i can supplies issued ends = absurd supplies
  pool_restored (Some said) (Some r) (Some n) new i can supplies issued ends =
      let m = ends.0 in let e = ends.2 in let b = (lock_id i.lock).base in
      subst (Restores state id s.segment_blocks (Some said) (Some r)) (sym ends.1) (record {
        same = same_but_then r n m supplies.0 e.same;
        free = λ index is.
            let found = e.free index (issued.holders index ∙ ap of_head is) in (
              found.0,
              found.1,
              subst (λ (v : ℕ). IsBlankPart state v s.segment_blocks found.0) issued.lock.volume (subst (λ (c : ℕ). IsBlankPart state b.volume c found.0) issued.lock.blocks found.2),
            );
        owned = λ index owner is.
            e.others index (λ free. held_not_free owner (sym (issued.holders index ∙ ap of_head is) ∙ free)) ∙ supplies.1.each index (Owned owner) is;
      })

-- ---- All of them

module _ {D : Type 0} (state : D → State) (config : Config) (volumes : ℕ) (said : List (Option Said)) where
  abbrev saying : ℕ → Option Said
  saying k = slice_index_or said k None

  abbrev image_of : List (Option (ImageRest D)) → ℕ → Option (ImageRest D)
  image_of images k = slice_index_or images k None

  -- the first locks are made, and their images have supplied them
  pub record AreIssuedTo (old now : List (Option (ImageRest D))) (made : List (Issued (Pool (FreeSegment D)) PoolBase)) (n : ℕ) : Type 0 where
    pub count : length made ≡ n
    pub images : length now ≡ length old
    pub issued : (k : ℕ) (s : Shape) (i : Issued (Pool (FreeSegment D)) PoolBase) → slice_get (shapes_of config) k ≡ Some s → slice_get made k ≡ Some i → IsIssuedPool volumes k s (saying k) i
    pub supplies : (k : ℕ) → k < n → Supplies (saying k) (image_of old k) (image_of now k)
    pub left : (k : ℕ) → n ≤ k → image_of now k ≡ image_of old k

  pub issued_none : (old : List (Option (ImageRest D))) (made : List (Issued (Pool (FreeSegment D)) PoolBase)) → made ≡ [] → AreIssuedTo old old made 0
  issued_none old made none = record {
    count = ap length none;
    images = refl;
    issued = λ k s i shape is. absurd (none-some i (sym (slice_get_past made k (let e = ap length none in omega (arith, e))) ∙ is));
    supplies = λ k lt. absurd (omega (arith, lt));
    left = λ k behind. refl;
  }

  -- images that stayed
  pub kept_at : (old : List (Option (ImageRest D))) → length (shapes_of config) ≡ length old → length said ≡ length old
      → ((k : ℕ) (s : Shape) → slice_get (shapes_of config) k ≡ Some s → CanIssue state volumes k s (saying k) (image_of old k))
      → (k : ℕ) → Restores state k config.segment_blocks (saying k) (image_of old k) (image_of old k)
  kept_at old shapes sayings can k = ⊎_elim
      (λ lt. let shape = element_at (shapes_of config) k (omega (arith, lt, shapes)) in
      subst (λ (b : ℕ). Restores state k b (saying k) (image_of old k) (image_of old k)) (shape_blocks config k shape.0 shape.1) (unchanged state volumes k shape.0 (saying k) (image_of old k) (can k shape.0 shape.1)))
      (λ past. subst (λ (o : Option Said). Restores state k config.segment_blocks o (image_of old k) (image_of old k)) (sym (get_or_past said k None (omega (arith, past, sayings)))) refl)
      (cases_lt k (length old))

  pub supplies_all : (old now : List (Option (ImageRest D))) (made : List (Issued (Pool (FreeSegment D)) PoolBase)) (n : ℕ) → AreIssuedTo old now made n → length said ≤ n → (k : ℕ) → Supplies (saying k) (image_of old k) (image_of now k)
  supplies_all old now made n so_far end k = ⊎_elim
      (λ lt. so_far.supplies k lt)
      (λ past. subst (λ (o : Option Said). Supplies o (image_of old k) (image_of now k)) (sym (get_or_past said k None (omega (arith, past, end)))) (so_far.left k past))
      (cases_lt k n)

  module _ (old now : List (Option (ImageRest D))) (made : List (Issued (Pool (FreeSegment D)) PoolBase)) (n : ℕ) (so_far : AreIssuedTo old now made n) (within : n < length old)
      (can : (k : ℕ) (s : Shape) → slice_get (shapes_of config) k ≡ Some s → CanIssue state volumes k s (saying k) (image_of old k)) where
    in_now : n < length now
    in_now = omega (arith, within, so_far.images)

    pub may_issue : (s : Shape) → slice_get (shapes_of config) n ≡ Some s → CanIssue state volumes n s (saying n) (image_of now n)
    may_issue s is = subst (CanIssue state volumes n s (saying n)) (sym (so_far.left n (omega arith))) (can n s is)

    pub issued_next : (i : Issued (Pool (FreeSegment D)) PoolBase) (image : Option (ImageRest D)) (newer : List (Issued (Pool (FreeSegment D)) PoolBase)) → newer ≡ made ++ i ∷ []
        → ((s : Shape) → slice_get (shapes_of config) n ≡ Some s → IsIssuedPool volumes n s (saying n) i) → Supplies (saying n) (image_of now n) image
        → AreIssuedTo old (slice_set now n image) newer (n + 1)
    issued_next i image newer pushed one supplies = record {
      count = ap length pushed ∙ length_push made i ∙ ap (λ (m : ℕ). m + 1) so_far.count;
      images = length-set now n image ∙ so_far.images;
      issued = λ k s j shape is. ⊎_elim
          (λ lt. so_far.issued k s j shape (sym (get_front made i k (omega (arith, lt, so_far.count))) ∙ sym (ap (λ (l : List (Issued (Pool (FreeSegment D)) PoolBase)). slice_get l k) pushed) ∙ is))
          (λ past. let k_is : k ≡ n = at_end k j is past in
          let j_is : i ≡ j = same_Some i j (sym (get_last made i n so_far.count) ∙ ap (slice_get (made ++ i ∷ [])) (sym k_is) ∙ sym (ap (λ (l : List (Issued (Pool (FreeSegment D)) PoolBase)). slice_get l k) pushed) ∙ is) in
          subst (λ (x : ℕ). IsIssuedPool volumes x s (saying x) j) (sym k_is) (subst (IsIssuedPool volumes n s (saying n)) j_is (one s (ap (slice_get (shapes_of config)) (sym k_is) ∙ shape))))
          (cases_lt k n);
      supplies = λ k lt. ⊎_elim
          (λ (e : k ≡ n). rw (e, get_or-set_same now n image None in_now) (rw (so_far.left n (omega arith)) at supplies))
          (λ other. rw (get_or-set_other now n k image None other) (so_far.supplies k (omega (arith, lt, other))))
          (cases_eq k n);
      left = λ k behind. get_or-set_other now n k image None (λ e. absurd (omega (arith, e, behind))) ∙ so_far.left k (omega (arith, behind));
    }
      where
        at_end : (k : ℕ) (j : Issued (Pool (FreeSegment D)) PoolBase) → slice_get newer k ≡ Some j → n ≤ k → k ≡ n
        at_end k j is past = let w = slice_get_within newer k j is in let e = ap length pushed ∙ length_push made i in omega (arith, w, e, past, so_far.count)

    -- the locks that are made may be ended, where the next isn't made
    pub may_end : (image : Option (ImageRest D)) → length (shapes_of config) ≡ length old → (k : ℕ) (i : Issued (Pool (FreeSegment D)) PoolBase) → slice_get made k ≡ Some i → CanEnd i (image_of (slice_set now n image) k)
    may_end image shapes k i is =
        let lt : k < n = let w = slice_get_within made k i is in omega (arith, w, so_far.count) in
        let other : k ≢ n = λ e. absurd (omega (arith, e, lt)) in
        let shape = element_at (shapes_of config) k (omega (arith, lt, within, shapes)) in
        subst (CanEnd i) (sym (get_or-set_other now n k image None other))
        (can_end state volumes k shape.0 (saying k) (image_of old k) (image_of now k) i (can k shape.0 shape.1) (so_far.supplies k lt) (so_far.issued k shape.0 i shape.1 is))

    -- all is restored after these were ended
    pub all_restored : (image : Option (ImageRest D)) (last : List (Option (ImageRest D))) → length (shapes_of config) ≡ length old → length said ≡ length old
        → Restores state n config.segment_blocks (saying n) (image_of now n) image
        → ((k : ℕ) (i : Issued (Pool (FreeSegment D)) PoolBase) → slice_get made k ≡ Some i → EndsInto state (lock_id i.lock).base (image_of (slice_set now n image) k) (image_of last k))
        → ((k : ℕ) → length made ≤ k → image_of last k ≡ image_of (slice_set now n image) k)
        → (k : ℕ) → Restores state k config.segment_blocks (saying k) (image_of old k) (image_of last k)
    all_restored image last shapes sayings one ends others k = ⊎_elim before (λ behind. ⊎_elim here (after behind) (cases_eq k n)) (cases_lt k n)
      where
        before : k < n → Restores state k config.segment_blocks (saying k) (image_of old k) (image_of last k)
        before lt =
            let shape = element_at (shapes_of config) k (omega (arith, lt, within, shapes)) in
            let i = element_at made k (omega (arith, lt, so_far.count)) in
            rw (← (shape_blocks config k shape.0 shape.1)) (pool_restored state volumes k shape.0 (saying k) (image_of old k) (image_of now k) (image_of last k) i.0 (can k shape.0 shape.1) (so_far.supplies k lt) (so_far.issued k shape.0 i.0 shape.1 i.1)
            (rw (get_or-set_other now n k image None (λ e. absurd (omega (arith, e, lt)))) at (ends k i.0 i.1)))

        here : k ≡ n → Restores state k config.segment_blocks (saying k) (image_of old k) (image_of last k)
        here e = rw (e, others n (omega (arith, so_far.count)), get_or-set_same now n image None in_now) (rw (so_far.left n (omega arith)) at one)

        after : n ≤ k → k ≢ n → Restores state k config.segment_blocks (saying k) (image_of old k) (image_of last k)
        after behind other = rw (others k (omega (arith, behind, so_far.count)), get_or-set_other now n k image None other, so_far.left k behind) (kept_at old shapes sayings can k)

-- ---- The lock of one pool is made

module _ {D : Type 0} where
  pub issued_one : (state : D → State) (volumes id : ℕ) (s : Shape) (said : Option Said) (p : Pool (FreeSegment D)) (lock : TurnLock (Pool (FreeSegment D)) PoolBase) (passes : Vec (PassOf (Pool (FreeSegment D)) PoolBase) Global)
      → (lock_id lock).base ≡ base_of p → lock_passes lock ≡ volumes → length passes.items ≡ volumes → AreNewPasses lock passes.items
      → room_of p ≡ s.segments → volume_of p ≡ id → blocks_of p ≡ s.segment_blocks → StandsFor (IsBlank state) p (base_of p) []
      → ((index : ℕ) → holder (base_of p).holders index ≡ holder_by said index)
      → IsIssuedPool volumes id s said (record { lock = lock; passes = passes })
  issued_one state volumes id s said p lock passes base count size new room volume blocks stands holders = record {
    lock = record {
      passes = count;
      volume = ap (λ (b : PoolBase). b.volume) base ∙ volume;
      blocks = ap (λ (b : PoolBase). b.blocks) base ∙ blocks;
      room = ap (λ (b : PoolBase). length b.holders) base ∙ sym stands.room ∙ room;
    };
    count = size;
    passes = new;
    holders = λ index. ap (λ (b : PoolBase). holder b.holders index) base ∙ holders index;
  }
