-- The place of a segment by its index, and what a lane's room is worth.
use Rattle.std.proofs.Common.{◌≡◌, ◌≢◌, ◌<◌, ◌≤◌, ℕ, true, false, List, [], ◌∷◌, ◌++◌, map, length, get_or, slice_get, vec_len, vec_capacity, Option, Some, None, IfSome, option_to_list, sym, ap, subst, ◌∙◌, arith, length-append, append-nil}
use Rattle.std.specs.List.{AllByRecursion}
use Rattle.std.proofs.lemmas.Option.{same_Some}
use Rattle.wol_disk.specs.Disk.{State}
use Rattle.wol_model.specs.Blocks.{AreApart}
use Rattle.turn_lock.specs.Passes.{pass_lock, pass_number, pass_mine}
use Rattle.turn_lock.specs.declared.pass.PassOf.{PassOf}
use Rattle.seg_pool.specs.Operations.{holds}
use Rattle.seg_pool.specs.declared.base.PoolBase.{PoolBase}
use Rattle.seg_pool.specs.declared.pool.Pool.{Pool}
use Rattle.log_segment.specs.Segment.{IsBlank}
use Rattle.log_segment.specs.declared.free.FreeSegment.{FreeSegment}
use Rattle.logger.specs.Lanes.{IsLane, IsHeld, IsTaken, HasIndex, indexes_in}
use Rattle.logger.specs.declared.lane.HeldSegment.{HeldSegment}
use Rattle.logger.specs.declared.lane.Lane.{Lane}
use Rattle.logger.proofs.Held.{there_get, within, length-map, map-push}
use Rattle.logger.proofs.Indexes.{few, same_place, apart_push}

pub if_some : {T : Type 0} (P : T → Type 0) (o : Option T) (x : T) → IfSome o P → o ≡ Some x → P x
if_some P o x is e = let Q : Option _ → Type 0 = λ p. IfSome p P in subst Q e is

module _ {D : Type 0} where
  abbrev index_of : HeldSegment D → ℕ
  index_of h = h.index

  -- there is a place with this index
  pub index_there : (hs items : List (HeldSegment D)) (place index : ℕ) (s : HeldSegment D) → hs ≡ items → slice_get items place ≡ Some s → s.index ≡ index → (x : ℕ) × HasIndex hs x index
  index_there hs items place index s are there named = (place, record { segment = s; there = subst (λ (xs : List (HeldSegment D)). slice_get xs place ≡ Some s) (sym are) there; named = named })

  -- the segment at the place of an index has it
  pub has_index : (hs items : List (HeldSegment D)) (place index : ℕ) (o : HeldSegment D) → hs ≡ items → HasIndex hs place index → slice_get items place ≡ Some o → o.index ≡ index
  has_index hs items place index o are at there =
      let here : slice_get items place ≡ Some at.segment = subst (λ (xs : List (HeldSegment D)). slice_get xs place ≡ Some at.segment) are at.there in ap (λ (h : HeldSegment D). h.index) (same_Some o at.segment (sym there ∙ here)) ∙ at.named

  -- the segment o is there, and has this index
  pub record Found (items : List (HeldSegment D)) (place index : ℕ) (o : HeldSegment D) : Type 0 where
    pub there : slice_get items place ≡ Some o
    pub named : o.index ≡ index

  -- what was found at its place and read there
  pub found : (hs items : List (HeldSegment D)) (place index : ℕ) (o : HeldSegment D) → hs ≡ items → HasIndex hs place index → o ≡ get_or items place o → Found items place index o
  found hs items place index o are at is =
      let there : slice_get items place ≡ Some at.segment = subst (λ (xs : List (HeldSegment D)). slice_get xs place ≡ Some at.segment) are at.there in
      let here = there_get items place o (within items place at.segment there) is in record { there = here; named = has_index hs items place index o are at here }

  -- the place of an index is that of any segment that has it
  pub place_is : (hs items : List (HeldSegment D)) (ws : List ℕ) (p q index : ℕ) (s : HeldSegment D) → hs ≡ items → HasIndex hs p index → slice_get items q ≡ Some s → s.index ≡ index → AreApart (map (λ (h : HeldSegment D). h.index) items ++ ws) → slice_get items p ≡ Some s
  place_is hs items ws p q index s are at there named apart =
      let here : slice_get items p ≡ Some at.segment = subst (λ (xs : List (HeldSegment D)). slice_get xs p ≡ Some at.segment) are at.there in
      ap (slice_get items) (same_place index_of items ws p q at.segment s apart here there (at.named ∙ sym named)) ∙ there

  -- no two segments have one index
  pub same_segment : (items : List (HeldSegment D)) (ws : List ℕ) (p q : ℕ) (s t : HeldSegment D) → AreApart (map (λ (h : HeldSegment D). h.index) items ++ ws) → slice_get items p ≡ Some s → slice_get items q ≡ Some t → s.index ≡ t.index → s ≡ t
  same_segment items ws p q s t apart a b e = same_Some s t (sym a ∙ (ap (slice_get items) (same_place index_of items ws p q s t apart a b e) ∙ b))

module _ {D : Type 0} (state : D → State) where
  -- the indexes of a lane lie below the number of segments for which it has room
  pub all_below : (logger owner segments : ℕ) (p : PassOf (Pool (FreeSegment D)) PoolBase) (items : List (HeldSegment D)) (t : Option (ℕ × FreeSegment D)) → AllByRecursion (IsHeld state logger owner segments p) items → IfSome t (IsTaken state logger segments p)
      → AllByRecursion (λ i. i < segments) (map (λ (h : HeldSegment D). h.index) items ++ map (λ (u : ℕ × FreeSegment D). u.0) (option_to_list t))
  all_below logger owner segments p [] None each is = tt
  all_below logger owner segments p [] (Some u) each is = (is.below, tt)
  all_below logger owner segments p (h ∷ items) t each is = (each.0.below, all_below logger owner segments p items t each.1 is)

  -- a lane that took a segment has room to hold it
  pub room_left : (l : Lane D) (t : ℕ × FreeSegment D) → IsLane state l → l.taken ≡ Some t → vec_len l.held < vec_capacity l.held
  room_left l t is has =
      let le = few (vec_capacity l.held) (indexes_in l) is.apart (all_below l.logger l.owner (vec_capacity l.held) l.pool l.held.items l.taken is.each is.unclaimed) in
      let idx : List ℕ = map (λ (h : HeldSegment D). h.index) l.held.items in
      let one : length (map (λ (u : ℕ × FreeSegment D). u.0) (option_to_list l.taken)) ≡ 1 = ap (λ (o : Option (ℕ × FreeSegment D)). length (map (λ (u : ℕ × FreeSegment D). u.0) (option_to_list o))) has in
      let all = length-append idx (map (λ (u : ℕ × FreeSegment D). u.0) (option_to_list l.taken)) in
      let held : length idx ≡ length l.held.items = length-map (λ (h : HeldSegment D). h.index) l.held.items in
      let len = l.held.ok.0 in omega (arith, le, one, all, held, len)

  -- what a turn of the pool gave is taken
  pub took : (logger segments : ℕ) (q : PassOf (Pool (FreeSegment D)) PoolBase) (o : Option (ℕ × FreeSegment D)) → (pass_lock q).base.volume ≡ logger → length (pass_lock q).base.holders ≤ segments → IfSome o (λ r. IsBlank state (pass_lock q).base.volume (pass_lock q).base.blocks r.1)
      → IfSome o (λ r. r.0 < length (pass_lock q).base.holders) → IfSome o (λ r. holds (pass_lock q).base (pass_number q) (pass_mine q) r.0 ≡ true) → IfSome o (IsTaken state logger segments q)
  took logger segments q None volume room blank below has = tt
  took logger segments q (Some r) volume room blank below has = record {
    blank = subst (λ v. IsBlank state v (pass_lock q).base.blocks r.1) volume blank;
    below = omega (arith, below, room);
    holding = has;
  }

  -- what a pass took it didn't hold
  pub apart_taking : (logger owner segments : ℕ) (p : PassOf (Pool (FreeSegment D)) PoolBase) (items : List (HeldSegment D)) (t o : Option (ℕ × FreeSegment D)) → AllByRecursion (IsHeld state logger owner segments p) items → t ≡ None
      → IfSome o (λ r. holds (pass_lock p).base (pass_number p) (pass_mine p) r.0 ≡ false)
      → AreApart (map (λ (h : HeldSegment D). h.index) items ++ map (λ (u : ℕ × FreeSegment D). u.0) (option_to_list t))
      → AreApart (map (λ (h : HeldSegment D). h.index) items ++ map (λ (u : ℕ × FreeSegment D). u.0) (option_to_list o))
  apart_taking logger owner segments p items t o each none fresh apart = with o fresh
    where
      idx : List ℕ
      idx = map (λ (h : HeldSegment D). h.index) items

      before : AreApart (map (λ (h : HeldSegment D). h.index) items ++ [])
      before = subst (λ (x : Option (ℕ × FreeSegment D)). AreApart (map (λ (h : HeldSegment D). h.index) items ++ map (λ (u : ℕ × FreeSegment D). u.0) (option_to_list x))) none apart

      lacks : (hs : List (HeldSegment D)) (i : ℕ) → AllByRecursion (IsHeld state logger owner segments p) hs → holds (pass_lock p).base (pass_number p) (pass_mine p) i ≡ false → AllByRecursion (λ w. i ≢ w) (map (λ (h : HeldSegment D). h.index) hs)
      lacks [] i each not = tt
      lacks (h ∷ hs) i each not = ((λ is. let no : false ≡ true = sym not ∙ (ap (holds (pass_lock p).base (pass_number p) (pass_mine p)) is ∙ each.0.holding) in cc), lacks hs i each.1 not)

      with : (o : Option (ℕ × FreeSegment D)) → IfSome o (λ r. holds (pass_lock p).base (pass_number p) (pass_mine p) r.0 ≡ false) → AreApart (map (λ (h : HeldSegment D). h.index) items ++ map (λ (u : ℕ × FreeSegment D). u.0) (option_to_list o))
      with None fresh = before
      with (Some r) fresh = apart_push (map (λ (h : HeldSegment D). h.index) items) r.0 (subst AreApart (append-nil (map (λ (h : HeldSegment D). h.index) items)) before) (lacks items r.0 each fresh)

module _ {D : Type 0} where
  -- a segment that was claimed has the index that it was taken with
  pub claimed_indexes : (items pushed : List (HeldSegment D)) (n : HeldSegment D) (t dest : Option (ℕ × FreeSegment D)) (u : ℕ × FreeSegment D) → pushed ≡ items ++ n ∷ [] → n.index ≡ u.0 → t ≡ Some u → dest ≡ None
      → map (λ (h : HeldSegment D). h.index) items ++ map (λ (v : ℕ × FreeSegment D). v.0) (option_to_list t) ≡ map (λ (h : HeldSegment D). h.index) pushed ++ map (λ (v : ℕ × FreeSegment D). v.0) (option_to_list dest)
  claimed_indexes items pushed n t dest u are named has none =
      ap (λ (o : Option (ℕ × FreeSegment D)). map (λ (h : HeldSegment D). h.index) items ++ map (λ (v : ℕ × FreeSegment D). v.0) (option_to_list o)) has
      ∙ (ap (λ (i : ℕ). map (λ (h : HeldSegment D). h.index) items ++ i ∷ []) (sym named)
      ∙ (sym (map-push (λ (h : HeldSegment D). h.index) items n)
      ∙ (ap (map (λ (h : HeldSegment D). h.index)) (sym are)
      ∙ (sym (append-nil (map (λ (h : HeldSegment D). h.index) pushed))
      ∙ ap (λ (o : Option (ℕ × FreeSegment D)). map (λ (h : HeldSegment D). h.index) pushed ++ map (λ (v : ℕ × FreeSegment D). v.0) (option_to_list o)) (sym none)))))
