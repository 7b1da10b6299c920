-- Reads go on: what each of them leaves of parts, they leave together.
use Rattle.std.proofs.Common.{◌≡◌, inl, inr, ◌<◌, ℕ, true, false, List, Option, None, Some, Result, Ok, Err, OnOk, OnErr, IfErr, is_ok, refl, sym, ap, subst, ◌∙◌, arith, ⊎_elim, ◌+◌, Bool, cond, ◌||◌, [], ◌∷◌, ◌++◌, map, eqb}
use Rattle.std.specs.Prelude.{IsErr, slice_get, slice_set, ◌↔◌, IsTrue, Contains}
use Rattle.std.specs.List.{AllZip, AllByRecursion}
use Rattle.std.proofs.lemmas.Option.{same_Some}
use Rattle.std.proofs.lemmas.List.{map-append}
use Rattle.std.proofs.lemmas.Bool.{false≢true, cases_lt, cases_eq, eq-eqb, ne_eqb}
use Rattle.std.proofs.lemmas.List.Sums.{sum_by-append}
use Rattle.turn_lock.specs.Passes.{pass_mine, pass_number}
use Rattle.wol_disk.specs.Disk.{State, Block, Values, Rose, IsDisk, IsImageOf}
use Rattle.wol_disk.proofs.Images.{only_image}
use Rattle.wol_disk.proofs.Moments.{started, then_leaves}
use Rattle.wol_model.specs.Log.{IsLog}
use Rattle.spin_model.specs.Spun.{state_of}
use Rattle.spin_model.specs.declared.spun.Spun.{Spun}
use Rattle.log_segment.specs.Segment.{disk_of, owner_of, IsWhole, blocks_of, valid_of}
use Rattle.logger.specs.Lanes.{held_in, spindle_of, HasUsed, IsLane, IsHeld, IsSameLane, AreWhole, ReadFrom, taken_in, pool_of}
use Rattle.logger.specs.declared.lane.HeldSegment.{HeldSegment}
use Rattle.logger.specs.declared.lane.Lane.{Lane}
use Rattle.volume_parts.specs.Reads.{Counted, HomeRead, SegmentRead, LaneRead, needs_of, HasNeeded, NeedsWhere}
use Rattle.volume_parts.proofs.Elements.{zip_self, zip_then, zip_set, get_set, get_other, all_at, all_set}
use Rattle.turn_lock.specs.Histories.{Entry}
use Rattle.turn_lock.specs.declared.pass.PassOf.{PassOf}
use Rattle.wol_model.specs.Journal.{Use, Needed, Done}
use Rattle.wol_promise.specs.Spindle.{is_need, needs_in}
use Rattle.spin_model.specs.Operations.{use_of, operation_of}
use Rattle.spin_model.specs.declared.spindle.Spindle.{Spindle}
use Rattle.spin_model.specs.declared.spindle.SpindleBase.{SpindleBase}
use Rattle.wol_model.specs.Index.{Indexed}
use Rattle.logger.specs.declared.lane.Spot.{Spot}
use Rattle.volume_parts.specs.Entries.{entries_at}
use Rattle.volume_parts.proofs.Lanes.{stays_set}

pub counted_then : (a b c : ℕ) → Counted a b → Counted b c → Counted a c
counted_then a b c (inl same) (inl same') = inl (same' ∙ same)
counted_then a b c (inl same) (inr (inl lt)) = inr (inl (omega arith))
counted_then a b c (inl same) (inr (inr top)) = inr (inr top)
counted_then a b c (inr (inl lt)) (inl same) = inr (inl (omega arith))
counted_then a b c (inr (inr top)) (inl same) = inr (inr (omega arith))
counted_then a b c (inr (inl lt)) (inr (inl lt')) = inr (inl (omega arith))
counted_then a b c (inr (inr top)) (inr (inl lt')) = inr (inr (omega arith))
counted_then a b c (inr first) (inr (inr top)) = inr (inr top)

-- a count that rose at the end rose altogether
pub rose_then : (a b c : ℕ) → Counted a b → Rose b c → Rose a c
rose_then a b c (inl same) (inl lt) = inl (omega arith)
rose_then a b c (inl same) (inr top) = inr top
rose_then a b c (inr (inl lt)) (inl lt') = inl (omega arith)
rose_then a b c (inr (inr top)) (inl lt') = inr (omega arith)
rose_then a b c (inr first) (inr top) = inr top

pub above_none : (a b : ℕ) → Rose a b → 0 < b
above_none a b (inl lt) = omega arith
above_none a b (inr top) = omega arith

module _ {D : Type 0} (state : D → State) (sound : (d : D) → IsDisk (state d)) where
  pub home_self : (p : Spun D) → HomeRead state p p
  home_self p = record {
    volume = refl;
    size = refl;
    values = refl;
    any_moment = started (sound p.inner) (λ c is. is);
    faults = inl refl;
  }

  pub home_then : (p q r : Spun D) → HomeRead state p q → HomeRead state q r → HomeRead state p r
  home_then p q r a b = record {
    volume = b.volume ∙ a.volume;
    size = b.size ∙ a.size;
    values = b.values ∙ a.values;
    any_moment = then_leaves a.any_moment b.any_moment (λ c is. subst (λ (o : Option (List (Values Block))). IsImageOf o c) a.values is);
    faults = counted_then (state_of state p).faults (state_of state q).faults (state_of state r).faults a.faults b.faults;
  }

  pub segment_self : (h : HeldSegment D) → SegmentRead state h h
  segment_self h = record {
    index = refl;
    same = record { volume = refl; owner = refl; blocks = refl };
    broken = refl;
    size = refl;
    keeps = λ rs holds. holds;
    any_moment = λ rs holds. started (sound h.segment.part.inner) (λ c is.
        let k = holds.disk in
        subst (λ (bs : List Block). IsLog bs (owner_of h.segment) rs) (sym (only_image k.bs c (subst (λ (o : Option (List (Values Block))). IsImageOf o c) k.settled is))) k.log);
    faults = inl refl;
  }

  pub segment_then : (g h i : HeldSegment D) → SegmentRead state g h → SegmentRead state h i → SegmentRead state g i
  segment_then g h i a b = record {
    index = b.index ∙ a.index;
    same = record { volume = b.same.volume ∙ a.same.volume; owner = b.same.owner ∙ a.same.owner; blocks = b.same.blocks ∙ a.same.blocks };
    broken = b.broken ∙ a.broken;
    size = b.size ∙ a.size;
    keeps = λ rs holds. b.keeps rs (a.keeps rs holds);
    any_moment = λ rs holds. then_leaves (a.any_moment rs holds) (b.any_moment rs (a.keeps rs holds)) (λ c log. subst (λ (o : ℕ). IsLog c o rs) a.same.owner log);
    faults = counted_then (disk_of state g.segment).faults (disk_of state h.segment).faults (disk_of state i.segment).faults a.faults b.faults;
  }

  pub lane_self : (l : Lane D) → LaneRead state l l
  lane_self l = record {
    same = record { logger = refl; owner = refl; segments = refl; pool = (refl, refl); spindle = (refl, refl) };
    taken = refl;
    pool = refl;
    held = zip_self (SegmentRead state) segment_self (held_in l);
  }

  pub lane_then : (k l m : Lane D) → LaneRead state k l → LaneRead state l m → LaneRead state k m
  lane_then k l m a b = record {
    same = record { logger = b.same.logger ∙ a.same.logger; owner = b.same.owner ∙ a.same.owner; segments = b.same.segments ∙ a.same.segments; pool = (b.same.pool.0 ∙ a.same.pool.0, b.same.pool.1 ∙ a.same.pool.1); spindle = (b.same.spindle.0 ∙ a.same.spindle.0, b.same.spindle.1 ∙ a.same.spindle.1) };
    taken = b.taken ∙ a.taken;
    pool = b.pool ∙ a.pool;
    held = zip_then (SegmentRead state) segment_then (held_in k) (held_in l) (held_in m) a.held b.held;
  }

  pub lanes_self : (lanes : List (Lane D)) → AllZip (LaneRead state) lanes lanes
  lanes_self lanes = zip_self (LaneRead state) lane_self lanes

  -- one lane was read
  pub lanes_set : (lanes : List (Lane D)) (k : ℕ) (l m : Lane D) → slice_get lanes k ≡ Some l → LaneRead state l m → AllZip (LaneRead state) lanes (slice_set lanes k m)
  lanes_set lanes k l m is read = zip_set (LaneRead state) lane_self lanes k l m is read

pub never_some : {X : Type 0} (o : Option X) → ((x : X) → o ≡ Some x → ⊥) → o ≡ None
never_some None never = refl
never_some (Some x) never = absurd (never x refl)

-- the count of a call, from what it ensures of either answer
pub counted_of : {T E : Type 0} (r : Result T E) (a b : ℕ) → OnOk r (b ≡ a) → (IsErr r → Rose a b) → Counted a b
counted_of (Ok x) a b ok err = inl ok
counted_of (Err e) a b ok err = inr (err refl)

-- what follows from an answer, of one that is like it
pub on_ok_like : {T E U F P Q : Type 0} (r : Result T E) (s : Result U F) → is_ok s ≡ is_ok r → (P → Q) → OnOk r P → OnOk s Q
on_ok_like (Ok x) (Ok y) like so ok = so ok
on_ok_like (Ok x) (Err f) like so ok = tt
on_ok_like (Err e) (Ok y) like so ok = absurd (let no : true ≡ false = like in cc)
on_ok_like (Err e) (Err f) like so ok = tt

pub same_lane_spindle : {D : Type 0} (lanes : List (Lane D)) (k : ℕ) (o n : Lane D) → slice_get lanes k ≡ Some o → slice_get lanes k ≡ Some n → pass_mine (spindle_of n) ≡ pass_mine (spindle_of o)
same_lane_spindle {D} lanes k o n was is = ap (λ (l : Lane D). pass_mine (spindle_of l)) (sym (same_Some o n (sym was ∙ is)))

-- what follows from a refusal that names a part, of one that is like it
pub err_like : {T U E F P : Type 0} (Q : F → Type 0) {p : F} (r : Result T E) (s : Result U F) → is_ok s ≡ is_ok r → IfErr s (λ q. q ≡ p) → OnErr r P → (P → Q p) → IfErr s Q
err_like Q (Ok x) (Ok y) like named err so = tt
err_like Q (Ok x) (Err f) like named err so = absurd (let no : false ≡ true = like in cc)
err_like Q (Err e) (Ok y) like named err so = tt
err_like Q (Err e) (Err f) like named err so = subst Q (sym named) (so err)

abbrev uses_in : List Entry → List Use
uses_in entries = map (λ (e : Entry). use_of e.1) entries

module _ (p q : PassOf Spindle SpindleBase) where
  needed_once : (n k : ℕ) → pass_mine q ≡ pass_mine p ++ (n, operation_of Needed) ∷ (k, operation_of Done) ∷ [] → needs_of q ≡ needs_of p + 1
  needed_once n k is =
      ap (λ (entries : List Entry). needs_in (uses_in entries)) is
      ∙ ap needs_in (map-append (λ (e : Entry). use_of e.1) (pass_mine p) ((n, operation_of Needed) ∷ (k, operation_of Done) ∷ []))
      ∙ sum_by-append (λ (u : Use). cond (is_need u) 1 0) (uses_in (pass_mine p)) (Needed ∷ Done ∷ [])

  -- an access
  pub needs_one : (n k : ℕ) → pass_mine q ≡ pass_mine p ++ (n, operation_of Needed) ∷ (k, operation_of Done) ∷ [] → NeedsWhere p q true
  needs_one n k is = let e = needed_once n k is in record { no_less = omega (arith, e); exactly = (λ _. refl, λ _. omega (arith, e)) }

  -- none
  pub needs_none : pass_mine q ≡ pass_mine p → NeedsWhere p q false
  needs_none is =
      let e : needs_of q ≡ needs_of p = ap (λ (entries : List Entry). needs_in (uses_in entries)) is in
      record { no_less = omega (arith, e); exactly = (λ lt. absurd (omega (arith, e)), λ no. absurd (false≢true no)) }

-- of these lanes one was used once
pub needs_set : {D : Type 0} (lanes : List (Lane D)) (k : ℕ) (l m : Lane D) → slice_get lanes k ≡ Some l → HasUsed l m → (j : ℕ) (o n : Lane D) → slice_get lanes j ≡ Some o → slice_get (slice_set lanes k m) j ≡ Some n → NeedsWhere (spindle_of o) (spindle_of n) (eqb k j)
needs_set {D} lanes k l m lane used j o n was is = ⊎_elim
    (λ same.
    let old : l ≡ o = same_Some l o (sym lane ∙ ap (slice_get lanes) (sym same) ∙ was) in
    let new : m ≡ n = same_Some m n (sym (get_set lanes k l m lane) ∙ ap (slice_get (slice_set lanes k m)) (sym same) ∙ is) in
    rw (eq-eqb k j (sym same)) (needs_one (spindle_of o) (spindle_of n) _ _
    (ap (λ (q : Lane D). pass_mine (spindle_of q)) (sym new) ∙ used ∙ ap (λ (q : Lane D). pass_mine (spindle_of q) ++ (pass_number (spindle_of q), operation_of Needed) ∷ (pass_number (spindle_of q), operation_of Done) ∷ []) old)))
    (λ other. rw (ne_eqb k j (λ e. other (sym e))) (needs_none (spindle_of o) (spindle_of n)
    (ap (λ (q : Lane D). pass_mine (spindle_of q)) (same_Some n o (sym is ∙ get_other lanes k j m other ∙ was)))))
    (cases_eq j k)

-- one range behind another
pub needs_then : (p q r : PassOf Spindle SpindleBase) (s t : Bool) → NeedsWhere p q s → NeedsWhere q r t → NeedsWhere p r (s || t)
needs_then p q r s t a b = record { no_less = omega (arith, a.no_less, b.no_less); exactly = (forth s a.exactly, back s a.exactly) }
  where
    forth : (u : Bool) → HasNeeded p q ↔ IsTrue u → HasNeeded p r → IsTrue (u || t)
    forth true is lt = refl
    forth false is lt = b.exactly.0 (⊎_elim (λ less. absurd (false≢true (is.0 less))) (λ same. omega (arith, lt, same)) (cases_lt (needs_of p) (needs_of q)))

    back : (u : Bool) → HasNeeded p q ↔ IsTrue u → IsTrue (u || t) → HasNeeded p r
    back true is holds = let lt = is.1 refl in omega (arith, lt, b.no_less)
    back false is holds = let lt = b.exactly.1 holds in omega (arith, lt, a.no_less)

count_of : {T E : Type 0} (r : Result T E) (a b : ℕ) → OnOk r (b ≡ a) → OnErr r (Rose a b) → Counted a b
count_of (Ok x) a b ok err = inl ok
count_of (Err e) a b ok err = inr err

module _ {D T E : Type 0} (state : D → State) (sound : (d : D) → IsDisk (state d)) (l l' : Lane D) (spot : Spot) (skip : ℕ) (before after_ : List Block) (res : Result T E)
    (was : IsLane state l) (is : IsLane state l') (whole : AreWhole (held_in l)) (same : IsSameLane l l') (moved : ReadFrom state l l' spot skip before after_ res) where
  segment_read : SegmentRead state moved.old_segment moved.new_segment
  segment_read = record {
    index = moved.index;
    same = moved.same;
    broken = moved.whole ∙ sym (all_at (λ (h : HeldSegment D). IsWhole h.segment) (held_in l) moved.place moved.old_segment moved.there whole);
    size = (all_at (IsHeld state _ _ _ _) (held_in l') moved.place moved.new_segment there' is.each).shape.size ∙ moved.same.blocks ∙ sym (all_at (IsHeld state _ _ _ _) (held_in l) moved.place moved.old_segment moved.there was.each).shape.size;
    keeps = moved.keeps;
    any_moment = moved.any_moment;
    faults = count_of res _ _ moved.calm moved.cause;
  }
    where
      there' : slice_get (held_in l') moved.place ≡ Some moved.new_segment
      there' = ap (λ (hs : List (HeldSegment D)). slice_get hs moved.place) moved.held ∙ get_set (held_in l) moved.place moved.old_segment moved.new_segment moved.there

  pub lane_read : taken_in l' ≡ taken_in l → pass_mine (pool_of l') ≡ pass_mine (pool_of l) → LaneRead state l l'
  lane_read taken pool = record {
    same = same;
    taken = taken;
    pool = pool;
    held = subst (λ (hs : List (HeldSegment D)). AllZip (SegmentRead state) (held_in l) hs) (sym moved.held)
        (zip_set (SegmentRead state) (segment_self state sound) (held_in l) moved.place moved.old_segment moved.new_segment moved.there segment_read);
  }

  -- its segments are whole still
  pub whole_after : AreWhole (held_in l')
  whole_after = subst (AllByRecursion (λ (h : HeldSegment D). IsWhole h.segment)) (sym moved.held) (all_set (λ (h : HeldSegment D). IsWhole h.segment) (held_in l) moved.place moved.new_segment whole moved.whole)

  -- each has as many records that keep a block
  pub counted_after : (k : ℕ) (es : List Indexed) → AllByRecursion (λ (h : HeldSegment D). valid_of h.segment ≡ entries_at k h.index es) (held_in l) → AllByRecursion (λ (h : HeldSegment D). valid_of h.segment ≡ entries_at k h.index es) (held_in l')
  counted_after k es counted = subst (AllByRecursion (λ (h : HeldSegment D). valid_of h.segment ≡ entries_at k h.index es)) (sym moved.held)
      (all_set (λ (h : HeldSegment D). valid_of h.segment ≡ entries_at k h.index es) (held_in l) moved.place moved.new_segment counted
      (moved.valid ∙ all_at (λ (h : HeldSegment D). valid_of h.segment ≡ entries_at k h.index es) (held_in l) moved.place moved.old_segment moved.there counted ∙ ap (λ (i : ℕ). entries_at k i es) (sym moved.index)))

  pub stays_after : (h : HeldSegment D) → Contains (held_in l) h → (t : HeldSegment D) × Contains (held_in l') t × (t.index ≡ h.index) × (blocks_of t.segment ≡ blocks_of h.segment)
  stays_after h has = let t = stays_set (held_in l) moved.place moved.old_segment moved.new_segment moved.there moved.index moved.same.blocks h has in
      (t.0, subst (λ (hs : List (HeldSegment D)). Contains hs t.0) (sym moved.held) t.1, t.2, t.3)
