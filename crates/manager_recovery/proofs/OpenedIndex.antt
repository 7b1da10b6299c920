-- The index of a volume that was read back, and the segments that its lanes hold.
use Rattle.std.proofs.Common.{◌≡◌, ◌≢◌, inl, inr, ⊎_elim, ◌+◌, ◌-◌, ◌≤◌, ℕ, zero, suc, Bool, true, false, cond, eqb, not, ◌&&◌, List, [], ◌∷◌, map, get_or, MatchOption, Option, Some, refl, sym, ap, subst, ◌∙◌, arith, leb}
use Rattle.std.specs.Prelude.{slice_get, filter, sum_by, IsPermutation}
use Rattle.std.specs.List.{AllByRecursion, flat_map, count_by}
use Rattle.std.proofs.lemmas.Bool.{eqb-true, eq-eqb, ne_eqb}
use Rattle.std.proofs.lemmas.List.Sums.{sum_by-cons}
use Rattle.std.proofs.lemmas.List.Sorted.{sum_by-IsPermutation, Contains-permutation, IsPermutation-sym}
use Rattle.std.proofs.lemmas.Option.{same_Some, slice_get_within}
use Rattle.wol_disk.specs.Disk.{State, IsAmong}
use Rattle.wol_model.specs.Blocks.{AreApart}
use Rattle.wol_model.specs.Extents.{Extent, Cover, IsValid, AreDistinct, covers_of, marked}
use Rattle.wol_model.specs.Heads.{RecordHead}
use Rattle.wol_model.specs.Index.{Indexed, AreRising, IsListed, listed_in}
use Rattle.wol_model.specs.Log.{Record, IsNamed, extent_of, marks_of, has_bit, position_of}
use Rattle.block_cells.proofs.Bits.{has_bit-zero}
use Rattle.block_cells.proofs.Marks.{length-marks_of}
use Rattle.redirect_map.specs.Index.{entry_of}
use Rattle.log_layout.specs.Values.{record_head}
use Rattle.log_segment.specs.Segment.{blocks_of, valid_of}
use Rattle.log_scan.specs.Adopted.{count_kept}
use Rattle.log_scan.specs.Scan.{IsInside}
use Rattle.log_scan.specs.declared.Found.{Found}
use Rattle.spin_model.specs.Spun.{state_of}
use Rattle.spin_model.specs.declared.spun.Spun.{Spun}
use Rattle.logger.specs.Lanes.{held_in}
use Rattle.logger.specs.declared.lane.HeldSegment.{HeldSegment}
use Rattle.logger.specs.declared.lane.Lane.{Lane}
use Rattle.wol_promise.specs.Manager.{Held, IsEntryOf, IsFound, IsBacked, IsIndexOf, extents_held}
use Rattle.manager.specs.Stands.{IsPlacedIn, IsInVolume}
use Rattle.manager.specs.Stands as stands
use Rattle.manager.proofs.DropKeeps.{some_valid}
use Rattle.manager.proofs.Lanes.{all_at}
use Rattle.manager_recovery.specs.Opening.{IsBefore, AreInOrder, place_of}
use Rattle.manager_recovery.specs.Scanned.{keeps_some, found_in, record_in, lane_of}
use Rattle.manager_recovery.specs.declared.listing.FoundRecord.{FoundRecord}
use Rattle.manager_recovery.proofs.ByLogger.{on, total_less, all_among, all_from, among_get, among_at, contains_among, among_contains, among_filter, filter_among, among_map, map_among, among_flat, flat_among, count-cons, count-map, count-flat, some_counts, one_only, rising_counts}
use Rattle.manager_recovery.proofs.Segs.{Seg, IsSeg, logger_of_seg, entries_at, lane_named, one_place, shown, shown_at, is_shown, each_shown, records_of_all, extents_of_all, count_shown}
use Rattle.manager_recovery.proofs.Places.{get_below}
use Rattle.manager_recovery.proofs.ToldParts.{IsTold, records_at, keeps}

-- ---- Records that keep nothing

none_set : (ps : List ℕ) (i : ℕ) → get_or (map (has_bit 0) ps) i false ≡ false
none_set [] i = refl
none_set (p ∷ ps) zero = has_bit-zero p
none_set (p ∷ ps) (suc i) = none_set ps i

nothing : (t : Bool) {m : Bool} → m ≡ false → (t && m) ≡ true → ⊥
nothing true none is = let bad : false ≡ true = sym none ∙ is in cc
nothing false none is = let bad : false ≡ true = is in cc

-- a record that covers a block keeps one
pub valid_keeps : (r : Record) → IsValid (extent_of r).cover → keeps r ≡ true
valid_keeps r valid = at (eqb r.head.mask 0) refl
  where
    at : (t : Bool) → eqb r.head.mask 0 ≡ t → not t ≡ true
    at true e =
        let P : ℕ → Type 0 = λ m. marked r.head.first (marks_of r.head.count m) valid.0 ≡ true in
        let covers : P 0 = subst P (eqb-true r.head.mask 0 e) valid.1 in
        absurd (nothing (leb r.head.first valid.0) (none_set _ (valid.0 - r.head.first)) covers)
    at false e = refl

-- and one that keeps one covers it
pub keeps_valid : (owner : ℕ) (r : Record) → IsNamed owner r → keeps r ≡ true → IsValid (extent_of r).cover
keeps_valid owner r named kept =
    let c = count-cons (λ (q : Record). not (eqb q.head.mask 0)) r [] in
    let here : cond {A = ℕ} (keeps r) 1 0 ≡ 1 = ap (λ (t : Bool). cond {A = ℕ} t 1 0) kept in
    let w = some_valid owner (r ∷ []) (named, tt) (omega (arith, c, here)) in
    let same : w.0 ≡ r = ⊎_elim (λ e. e) (λ none. absurd none) (among_contains (r ∷ []) w.0 w.1) in
    subst (λ (q : Record). IsValid (extent_of q).cover) same w.2

-- ---- No two valid ones of one version

covers_apart : (r : Record) (rs : List Record) → ((v : ℕ) → count_by (λ (q : Record). keeps q && eqb q.head.version v) (r ∷ rs) ≤ 1) → AllByRecursion (λ (d : Cover). IsValid (extent_of r).cover → IsValid d → r.head.version ≢ d.version) (covers_of (map extent_of rs))
covers_apart r rs once = each rs (λ q has. has)
  where
    test : ℕ → Record → Bool
    test v q = keeps q && eqb q.head.version v

    passes : (v : ℕ) (q : Record) → keeps q ≡ true → q.head.version ≡ v → (keeps q && eqb q.head.version v) ≡ true
    passes v q kept same = (λ i. kept i && eqb q.head.version v) ∙ eq-eqb q.head.version v same

    each : (qs : List Record) → ((q : Record) → IsAmong qs q → IsAmong rs q) → AllByRecursion (λ (d : Cover). IsValid (extent_of r).cover → IsValid d → r.head.version ≢ d.version) (covers_of (map extent_of qs))
    each [] to = tt
    each (q ∷ qs) to = (
      (λ valid valid' same.
          let t = λ (x : Record). keeps x && eqb x.head.version r.head.version in
          let c = count-cons t r rs in let few = once r.head.version in
          let here : cond {A = ℕ} (keeps r && eqb r.head.version r.head.version) 1 0 ≡ 1 = ap (λ (b : Bool). cond {A = ℕ} b 1 0) (passes r.head.version r (valid_keeps r valid) refl) in
          let rest = some_counts t rs q (to q (inl refl)) (passes r.head.version q (valid_keeps q valid') (sym same)) in
          omega (arith, c, few, here, rest)),
      each qs (λ x has. to x (inr has)),
    )

pub distinct_records : (rs : List Record) → ((v : ℕ) → count_by (λ (q : Record). keeps q && eqb q.head.version v) rs ≤ 1) → AreDistinct (covers_of (map extent_of rs))
distinct_records [] once = tt
distinct_records (r ∷ rs) once = (covers_apart r rs once, distinct_records rs (λ v. let c = count-cons (λ (q : Record). keeps q && eqb q.head.version v) r rs in let few = once v in omega (arith, c, few)))

count_kept_of : (v : ℕ) (rs : List Record) → count_by (λ (q : Record). keeps q && eqb q.head.version v) rs ≡ count_by (λ (q : Record). eqb q.head.version v) (filter keeps rs)
count_kept_of v [] = refl
count_kept_of v (r ∷ rs) = at (keeps r) refl (count_kept_of v rs)
  where
    at : (t : Bool) → keeps r ≡ t → count_by (λ (q : Record). keeps q && eqb q.head.version v) rs ≡ count_by (λ (q : Record). eqb q.head.version v) (filter keeps rs)
        → count_by (λ (q : Record). keeps q && eqb q.head.version v) (r ∷ rs) ≡ count_by (λ (q : Record). eqb q.head.version v) (cond t (r ∷ filter keeps rs) (filter keeps rs))
    at true e rest =
        let c = count-cons (λ (q : Record). keeps q && eqb q.head.version v) r rs in let d = count-cons (λ (q : Record). eqb q.head.version v) r (filter keeps rs) in
        let same : cond {A = ℕ} (keeps r && eqb r.head.version v) 1 0 ≡ cond {A = ℕ} (eqb r.head.version v) 1 0 = ap (λ (b : Bool). cond {A = ℕ} (b && eqb r.head.version v) 1 0) e in
        omega (arith, c, d, same, rest)
    at false e rest =
        let c = count-cons (λ (q : Record). keeps q && eqb q.head.version v) r rs in
        let none : cond {A = ℕ} (keeps r && eqb r.head.version v) 1 0 ≡ 0 = ap (λ (b : Bool). cond {A = ℕ} (b && eqb r.head.version v) 1 0) e in
        omega (arith, c, none, rest)

-- ---- Entries and their records

module _ {D : Type 0} (state : D → State) (lanes : List (Lane D)) (id home : ℕ) (view : List ℕ) (gs : List (Seg D)) (all : AllByRecursion (IsSeg state lanes id home view) gs) (order : AreInOrder (map (λ (g : Seg D). place_of g.part) gs)) (apart : AreApart view)
    (entries : List Indexed) (same : IsPermutation (flat_map (entries_at state view) gs) entries) (rising : AreRising (map (λ (e : Indexed). e.listed.version) entries)) where
  -- the entry of what was found in a segment
  abbrev pub entry_for : Seg D → Found → Indexed
  entry_for g f = entry_of (record_in (lane_of view g.part.logger) g.part f).entry 0

  -- an entry with what was found
  pub record IsHere (e : Indexed) : Type 0 where
    pub seg : Seg D
    pub among : IsAmong gs seg
    pub is_seg : IsSeg state lanes id home view seg
    pub k : ℕ
    pub found : Found
    pub there : slice_get seg.scan.records.items k ≡ Some found
    pub kept : keeps_some found ≡ true
    pub is : e ≡ entry_for seg found

  pub entry_here : (e : Indexed) → IsAmong entries e → IsHere e
  entry_here e has =
      let E = flat_map (entries_at state view) gs in
      let back = among_contains E e (Contains-permutation entries E e (IsPermutation-sym E entries same) (contains_among entries e has)) in
      let w = flat_among (entries_at state view) gs e back in
      let r = map_among (λ (q : FoundRecord). entry_of q.entry 0) (found_in view w.0.part w.0.scan) e w.2 in
      let f = map_among (record_in (lane_of view w.0.part.logger) w.0.part) (filter keeps_some w.0.scan.records.items) r.0 r.1 in
      let kept = among_filter keeps_some w.0.scan.records.items f.0 f.1 in
      let at = among_get w.0.scan.records.items f.0 kept.0 in record {
        seg = w.0;
        among = w.1;
        is_seg = all_among (IsSeg state lanes id home view) gs w.0 all w.1;
        k = at.0;
        found = f.0;
        there = at.1;
        kept = kept.1;
        is = r.2 ∙ ap (λ (q : FoundRecord). entry_of q.entry 0) f.2;
      }

  pub here_listed : (g : Seg D) (f : Found) → IsAmong gs g → IsAmong g.scan.records.items f → keeps_some f ≡ true → IsAmong entries (entry_for g f)
  here_listed g f among has kept =
      let E = flat_map (entries_at state view) gs in
      let there = among_flat (entries_at state view) gs g (entry_for g f) among
      (among_map (λ (q : FoundRecord). entry_of q.entry 0) (found_in view g.part g.scan) (record_in (lane_of view g.part.logger) g.part f)
      (among_map (record_in (lane_of view g.part.logger) g.part) (filter keeps_some g.scan.records.items) f (filter_among keeps_some g.scan.records.items f has kept))) in
      among_contains entries (entry_for g f) (Contains-permutation E entries (entry_for g f) same (contains_among E (entry_for g f) there))

  pub inside_at : (g : Seg D) (k : ℕ) (f : Found) → IsSeg state lanes id home view g → slice_get g.scan.records.items k ≡ Some f → IsInside (state_of state g.part.part).size id f
  inside_at g k f is there =
      let P : Option ℕ → Type 0 = λ v. MatchOption v (g.scan.records.items ≡ []) (λ owner. AllByRecursion (IsInside (state_of state g.part.part).size owner) g.scan.records.items) in
      let heads : AllByRecursion (IsInside (state_of state g.part.part).size id) g.scan.records.items = subst P is.scanned.owner is.scanned.shape.heads in
      all_at (IsInside (state_of state g.part.part).size id) g.scan.records.items k f there heads

  -- ---- Whether or not disks tell

  pub in_volume : (e : Indexed) → IsAmong entries e → IsInVolume home e
  in_volume e has = let h = entry_here e has in let f = h.found in
      let inside = inside_at h.seg h.k f h.is_seg h.there in
      let within = all_at (λ (q : Found). q.head.lbn + q.head.count ≤ home) h.seg.scan.records.items h.k f h.there h.is_seg.scanned.within in
      let long = length-marks_of f.head.count f.head.keep in
      let it : IsInVolume home (entry_for h.seg f) = record { least = inside.in_range.version.0; lies = omega (arith, within, long) } in
      subst (IsInVolume home) (sym h.is) it

  pub is_listed : (e : Indexed) → IsAmong entries e → IsListed (listed_in entries) e.listed
  is_listed e has = let h = entry_here e has in let f = h.found in
      let it : IsListed (listed_in entries) (entry_for h.seg f).listed = record {
        marks = length-marks_of f.head.count 0 ∙ sym (length-marks_of f.head.count f.head.keep);
        homed_are_live = λ b homed. absurd (nothing (leb f.head.lbn b) (none_set _ (b - f.head.lbn)) homed);
      } in
      subst (λ (x : Indexed). IsListed (listed_in entries) x.listed) (sym h.is) it

  -- an entry in the held segments of these lanes
  pub placed_in : (ls : List (Lane D)) → ((k : ℕ) (v : ℕ) → slice_get view k ≡ Some v → (l : Lane D) × (slice_get ls k ≡ Some l) × (held_in l ≡ map (λ (g : Seg D). g.held) (on logger_of_seg v gs))) → (e : Indexed) → IsAmong entries e → IsPlacedIn ls e
  placed_in ls at e has = let h = entry_here e has in let f = h.found in let g = h.seg in
      let inside = inside_at g h.k f h.is_seg h.there in
      let w = at (lane_of view g.part.logger) g.part.logger (lane_named view g.part.logger h.is_seg.named) in
      let long = length-marks_of f.head.count f.head.keep in
      let size : (state_of state g.part.part).size ≡ blocks_of g.held.segment = sym (ap (λ (p : Spun D). (state_of state p).size) h.is_seg.adopted.part) ∙ h.is_seg.adopted.shape.size in
      let fits = inside.fits in
      let there : IsAmong (held_in w.0) g.held = subst (λ (hs : List (HeldSegment D)). IsAmong hs g.held) (sym w.2)
      (among_map (λ (x : Seg D). x.held) (on logger_of_seg g.part.logger gs) g (filter_among (λ (x : Seg D). eqb (logger_of_seg x) g.part.logger) gs g h.among (eq-eqb g.part.logger g.part.logger refl))) in
      let it : IsPlacedIn ls (entry_for g f) = record {
        lane = w.0;
        segment = g.held;
        lane_is = w.1;
        held = contains_among (held_in w.0) g.held there;
        index = h.is_seg.adopted.index;
        behind = inside.behind;
        within = omega (arith, long, size, fits);
      } in
      subst (IsPlacedIn ls) (sym h.is) it

  -- ---- How many entries lie in a segment

  abbrev here_test : ℕ → ℕ → Indexed → Bool
  here_test k i e = eqb e.listed.lane k && eqb e.index i

  count_self : (k i : ℕ) (g : Seg D) (fs : List Found) → lane_of view g.part.logger ≡ k → g.part.index ≡ i → count_by (here_test k i) (map (λ (q : FoundRecord). entry_of q.entry 0) (map (record_in (lane_of view g.part.logger) g.part) (filter keeps_some fs))) ≡ count_kept fs
  count_self k i g [] lane index = refl
  count_self k i g (f ∷ fs) lane index = at (keeps_some f) refl (count_self k i g fs lane index)
    where
      entries_in : List Found → List Indexed
      entries_in qs = map (λ (q : FoundRecord). entry_of q.entry 0) (map (record_in (lane_of view g.part.logger) g.part) qs)

      at : (t : Bool) → keeps_some f ≡ t → count_by (here_test k i) (map (λ (q : FoundRecord). entry_of q.entry 0) (map (record_in (lane_of view g.part.logger) g.part) (filter keeps_some fs))) ≡ count_kept fs
          → count_by (here_test k i) (map (λ (q : FoundRecord). entry_of q.entry 0) (map (record_in (lane_of view g.part.logger) g.part) (cond t (f ∷ filter keeps_some fs) (filter keeps_some fs)))) ≡ count_kept (f ∷ fs)
      at true e rest =
          let c = count-cons (here_test k i) (entry_for g f) (map (λ (q : FoundRecord). entry_of q.entry 0) (map (record_in (lane_of view g.part.logger) g.part) (filter keeps_some fs))) in
          let d = count-cons keeps_some f fs in
          let one : cond {A = ℕ} (here_test k i (entry_for g f)) 1 0 ≡ 1 = (λ j. cond {A = ℕ} (eq-eqb (lane_of view g.part.logger) k lane j && eq-eqb g.part.index i index j) 1 0) in
          let kept : cond {A = ℕ} (keeps_some f) 1 0 ≡ 1 = ap (λ (b : Bool). cond {A = ℕ} b 1 0) e in
          omega (arith, c, d, one, kept, rest)
      at false e rest =
          let d = count-cons keeps_some f fs in
          let kept : cond {A = ℕ} (keeps_some f) 1 0 ≡ 0 = ap (λ (b : Bool). cond {A = ℕ} b 1 0) e in
          omega (arith, d, kept, rest)

  count_other : (k i : ℕ) (g : Seg D) (fs : List Found) → (lane_of view g.part.logger ≡ k → g.part.index ≡ i → ⊥) → count_by (here_test k i) (map (λ (q : FoundRecord). entry_of q.entry 0) (map (record_in (lane_of view g.part.logger) g.part) fs)) ≡ 0
  count_other k i g [] other = refl
  count_other k i g (f ∷ fs) other =
      let c = count-cons (here_test k i) (entry_for g f) (map (λ (q : FoundRecord). entry_of q.entry 0) (map (record_in (lane_of view g.part.logger) g.part) fs)) in
      let none : cond {A = ℕ} (here_test k i (entry_for g f)) 1 0 ≡ 0 = ap (λ (b : Bool). cond {A = ℕ} b 1 0) (at (eqb (lane_of view g.part.logger) k) refl) in
      let rest = count_other k i g fs other in omega (arith, c, none, rest)
    where
      at : (t : Bool) → eqb (lane_of view g.part.logger) k ≡ t → (t && eqb g.part.index i) ≡ false
      at true e = ne_eqb g.part.index i (λ same_index. other (eqb-true (lane_of view g.part.logger) k e) same_index)
      at false e = refl

  abbrev here_count : ℕ → ℕ → Seg D → ℕ
  here_count k i g = count_by (here_test k i) (entries_at state view g)

  -- segments at other places count nothing
  far_counts : (k i : ℕ) (g x : Seg D) → IsSeg state lanes id home view g → IsSeg state lanes id home view x → lane_of view g.part.logger ≡ k → g.part.index ≡ i → (x.part.logger ≡ g.part.logger → x.part.index ≡ g.part.index → ⊥) → here_count k i x ≡ 0
  far_counts k i g x is_g is_x lane index other = count_other k i x (filter keeps_some x.scan.records.items) (λ lane' index'.
      let one = lane_named view g.part.logger is_g.named in let two = lane_named view x.part.logger is_x.named in
      let logger : x.part.logger ≡ g.part.logger = same_Some x.part.logger g.part.logger (sym two ∙ (ap (slice_get view) (lane' ∙ sym lane) ∙ one)) in
      other logger (index' ∙ sym index))

  apart_places : (p q : ℕ × ℕ) → IsBefore p q → (q.0 ≡ p.0 → q.1 ≡ p.1 → ⊥) × (p.0 ≡ q.0 → p.1 ≡ q.1 → ⊥)
  apart_places p q before = ⊎_elim
      (λ less. ((λ a b. omega (arith, less, a)), (λ a b. omega (arith, less, a))))
      (λ less. let lt = less.1 in ((λ a b. omega (arith, lt, b)), (λ a b. omega (arith, lt, b)))) before

  none_behind : (k i : ℕ) (g : Seg D) (xs : List (Seg D)) → IsSeg state lanes id home view g → AllByRecursion (IsSeg state lanes id home view) xs → lane_of view g.part.logger ≡ k → g.part.index ≡ i → AllByRecursion (IsBefore (place_of g.part)) (map (λ (x : Seg D). place_of x.part) xs) → sum_by (here_count k i) xs ≡ 0
  none_behind k i g [] is_g is lane index before = refl
  none_behind k i g (x ∷ xs) is_g is lane index before =
      let s = sum_by-cons (here_count k i) x xs in
      let none = far_counts k i g x is_g is.0 lane index (apart_places (place_of g.part) (place_of x.part) before.0).0 in
      let rest = none_behind k i g xs is_g is.1 lane index before.1 in omega (arith, s, none, rest)

  before_at : (p : ℕ × ℕ) (xs : List (Seg D)) (g : Seg D) → IsAmong xs g → AllByRecursion (IsBefore p) (map (λ (x : Seg D). place_of x.part) xs) → IsBefore p (place_of g.part)
  before_at p xs g has before = all_among (IsBefore p) (map (λ (x : Seg D). place_of x.part) xs) (place_of g.part) before (among_map (λ (x : Seg D). place_of x.part) xs g has)

  sum_here : (k i : ℕ) (g : Seg D) (xs : List (Seg D)) → IsSeg state lanes id home view g → AllByRecursion (IsSeg state lanes id home view) xs → AreInOrder (map (λ (x : Seg D). place_of x.part) xs) → IsAmong xs g → lane_of view g.part.logger ≡ k → g.part.index ≡ i → sum_by (here_count k i) xs ≡ here_count k i g
  sum_here k i g [] is_g is ordered has lane index = absurd has
  sum_here k i g (x ∷ xs) is_g is ordered has lane index = let s = sum_by-cons (here_count k i) x xs in ⊎_elim
      (λ here.
      let Q : Seg D → Type 0 = λ y. AllByRecursion (IsBefore (place_of y.part)) (map (λ (z : Seg D). place_of z.part) xs) in
      let rest = none_behind k i g xs is_g is.1 lane index (subst Q (sym here) ordered.0) in
      let c = ap (here_count k i) here in omega (arith, s, rest, c))
      (λ more.
      let none = far_counts k i g x is_g is.0 lane index (apart_places (place_of x.part) (place_of g.part) (before_at (place_of x.part) xs g more ordered.0)).1 in
      let rest = sum_here k i g xs is_g is.1 ordered.1 more lane index in omega (arith, s, none, rest)) has

  pub counted_at : (k : ℕ) (g : Seg D) → IsAmong gs g → slice_get view k ≡ Some g.part.logger → valid_of g.held.segment ≡ stands.entries_at k g.held.index entries
  counted_at k g has is =
      let is_g = all_among (IsSeg state lanes id home view) gs g all has in
      let lane : lane_of view g.part.logger ≡ k = one_place view (lane_of view g.part.logger) k g.part.logger apart (lane_named view g.part.logger is_g.named) is in
      let i = g.held.index in
      let moved : count_by (here_test k i) entries ≡ count_by (here_test k i) (flat_map (entries_at state view) gs) = sum_by-IsPermutation (λ (e : Indexed). cond (here_test k i e) 1 0) (flat_map (entries_at state view) gs) entries same in
      is_g.adopted.valid ∙ sym (moved ∙ (count-flat (entries_at state view) (here_test k i) gs ∙ (sum_here k i g gs is_g all order has lane (sym is_g.adopted.index) ∙ count_self k i g g.scan.records.items lane (sym is_g.adopted.index))))

  -- ---- Where disks tell: records and entries

  module _ (told : AllByRecursion (λ (g : Seg D). IsTold state id g.part g.scan) gs) where
    abbrev pub recs : Seg D → List Record
    recs g = records_at state id g.part

    told_at : (g : Seg D) → IsAmong gs g → IsTold state id g.part g.scan
    told_at g has = all_among (λ (x : Seg D). IsTold state id x.part x.scan) gs g told has

    pub named_at : (g : Seg D) (k : ℕ) (r : Record) → IsAmong gs g → slice_get (recs g) k ≡ Some r → IsNamed id r
    named_at g k r has is = all_at (IsNamed id) (recs g) k r is (told_at g has).log.named

    -- an entry is that of its record
    entry_of_record : (lane : ℕ) (g : Seg D) (k : ℕ) (f : Found) (r : Record) → IsSeg state lanes id home view g → lane_of view g.part.logger ≡ lane → f.pos ≡ position_of (recs g) k → record_head f.head ≡ r.head → IsEntryOf (shown_at recs lane g) k r (entry_for g f)
    entry_of_record lane g k f r is_g lane_is pos head = record {
      version = ap (λ (h : RecordHead). h.version) head;
      first = ap (λ (h : RecordHead). h.first) head;
      keep = ap (λ (h : RecordHead). marks_of h.count h.mask) head;
      lane = lane_is;
      index = sym is_g.adopted.index;
      pos = pos;
    }

    pub found_for : (k : ℕ) (g : Seg D) → slice_get view k ≡ Some g.part.logger → IsAmong gs g → (j : ℕ) (r : Record) → slice_get (recs g) j ≡ Some r → IsValid (extent_of r).cover → IsFound entries (shown_at recs k g) j r
    found_for k g is has j r there valid =
        let t = told_at g has in let is_g = all_among (IsSeg state lanes id home view) gs g all has in
        let lt = slice_get_within (recs g) j r there in let long = t.found.all in
        let f = get_below g.scan.records.items j (omega (arith, lt, long)) in
        let at = t.found.each j f.0 f.1 in
        let same_record : at.whose ≡ r = same_Some at.whose r (sym at.there ∙ there) in
        let head : record_head f.0.head ≡ r.head = at.head ∙ ap (λ (q : Record). q.head) same_record in
        let kept : keeps_some f.0 ≡ true = ap (λ (h : RecordHead). not (eqb h.mask 0)) head ∙ valid_keeps r valid in
        let listed = here_listed g f.0 has (among_at g.scan.records.items j f.0 f.1) kept in
        let lane : lane_of view g.part.logger ≡ k = one_place view (lane_of view g.part.logger) k g.part.logger apart (lane_named view g.part.logger is_g.named) is in record {
          entry = entry_for g f.0;
          listed = contains_among entries (entry_for g f.0) listed;
          is_its = entry_of_record k g j f.0 r is_g lane at.pos head;
        }

    pub backed : (e : Indexed) → IsAmong entries e → IsBacked (shown recs 0 view gs) e
    backed e has = let h = entry_here e has in let g = h.seg in let f = h.found in
        let t = told_at g h.among in
        let at = t.found.each h.k f h.there in
        let lane = lane_of view g.part.logger in
        let kept : keeps at.whose ≡ true = sym (ap (λ (q : RecordHead). not (eqb q.mask 0)) at.head) ∙ h.kept in
        let it : IsBacked (shown recs 0 view gs) (entry_for g f) = record {
          segment = shown_at recs (0 + lane) g;
          is_held = contains_among (shown recs 0 view gs) (shown_at recs (0 + lane) g) (is_shown recs 0 lane view gs g h.among (lane_named view g.part.logger h.is_seg.named));
          k = h.k;
          record_ = at.whose;
          is_there = at.there;
          valid = keeps_valid id at.whose (named_at g h.k at.whose h.among at.there) kept;
          is_its = entry_of_record (0 + lane) g h.k f at.whose h.is_seg (let z : lane ≡ 0 + lane = omega arith in z) at.pos at.head;
        } in
        subst (IsBacked (shown recs 0 view gs)) (sym h.is) it

    pub index_is : IsIndexOf entries (shown recs 0 view gs)
    index_is = record {
      each = each_shown recs (λ (s : Held (Spun D)). (j : ℕ) (r : Record) → slice_get s.records j ≡ Some r → IsValid (extent_of r).cover → IsFound entries s j r) (IsAmong gs) 0 view gs (all_from (IsAmong gs) gs (λ g has. has))
          (λ k g is has. let z : k ≡ 0 + k = omega arith in subst (λ (i : ℕ). (j : ℕ) (r : Record) → slice_get (recs g) j ≡ Some r → IsValid (extent_of r).cover → IsFound entries (shown_at recs i g) j r) z (found_for k g is has));
      only = all_from (IsBacked (shown recs 0 view gs)) entries backed;
    }

    -- ---- The records that keep a block, and their versions

    abbrev pub kept_records : List Record
    kept_records = filter keeps (flat_map recs gs)

    module _ (versions : map (λ (r : Record). r.head.version) kept_records ≡ map (λ (e : Indexed). e.listed.version) (flat_map (entries_at state view) gs)) where
      pub versions_once : (v : ℕ) → count_by (λ (w : ℕ). eqb w v) (map (λ (r : Record). r.head.version) kept_records) ≤ 1
      versions_once v =
          let E = flat_map (entries_at state view) gs in
          let a = ap (count_by (λ (w : ℕ). eqb w v)) versions in
          let b = count-map (λ (e : Indexed). e.listed.version) (λ (w : ℕ). eqb w v) E in
          let c = count-map (λ (e : Indexed). e.listed.version) (λ (w : ℕ). eqb w v) entries in
          let d = sum_by-IsPermutation (λ (e : Indexed). cond {A = ℕ} (eqb e.listed.version v) 1 0) E entries same in
          let few = rising_counts (map (λ (e : Indexed). e.listed.version) entries) rising v in
          omega (arith, a, b, c, d, few)

      once : (v : ℕ) → count_by (λ (q : Record). keeps q && eqb q.head.version v) (flat_map recs gs) ≤ 1
      once v =
          let a = count_kept_of v (flat_map recs gs) in
          let b = count-map (λ (r : Record). r.head.version) (λ (w : ℕ). eqb w v) kept_records in
          let few = versions_once v in omega (arith, a, b, few)

      pub distinct_shown : AreDistinct (covers_of (extents_held (shown recs 0 view gs)))
      distinct_shown = subst (λ (xs : List Extent). AreDistinct (covers_of xs)) (sym (extents_of_all recs (shown recs 0 view gs)))
          (distinct_records (records_of_all recs (shown recs 0 view gs)) (λ v.
          let t = λ (q : Record). keeps q && eqb q.head.version v in
          let a = count_shown recs t 0 view gs in
          let b = total_less logger_of_seg (λ (g : Seg D). count_by t (recs g)) view gs apart in
          let c = count-flat recs t gs in let few = once v in omega (arith, a, b, c, few)))

      -- two of one version are the same
      pub one_of_version : (x y : Record) → IsAmong kept_records x → IsAmong kept_records y → x.head.version ≡ y.head.version → x ≡ y
      one_of_version x y a b same_version =
          let c = count-map (λ (r : Record). r.head.version) (λ (w : ℕ). eqb w x.head.version) kept_records in let few = versions_once x.head.version in
          one_only (λ (r : Record). eqb r.head.version x.head.version) kept_records x y (omega (arith, c, few)) a b (eq-eqb x.head.version x.head.version refl) (eq-eqb y.head.version x.head.version (sym same_version))

    -- those of a segment that keep a block are among them
    pub kept_among : (g : Seg D) (r : Record) → IsAmong gs g → IsAmong (recs g) r → keeps r ≡ true → IsAmong kept_records r
    kept_among g r has is kept = filter_among keeps (flat_map recs gs) r (among_flat recs gs g r has is) kept
