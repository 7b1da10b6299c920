-- The segments that a volume has once it was read back: each with its part, its scan and what its lane holds.
use Rattle.std.proofs.Common.{◌≡◌, ◌≢◌, ⊎_elim, ◌+◌, ◌≤◌, ℕ, zero, suc, Bool, true, false, cond, eqb, List, [], ◌∷◌, ◌++◌, map, Option, None, Some, refl, sym, ap, subst, ◌∙◌, arith}
use Rattle.std.specs.Prelude.{slice_get, position, unwrap_or, is_some, sum_by}
use Rattle.std.specs.List.{AllByRecursion, AllZip, flat_map, count_by}
use Rattle.std.proofs.lemmas.Bool.{eqb-true, eq-eqb}
use Rattle.std.proofs.lemmas.List.{map-append, append_assoc}
use Rattle.std.proofs.lemmas.List.Sums.{sum_by-cons}
use Rattle.std.proofs.lemmas.Option.{same_Some, none-some}
use Rattle.wol_disk.specs.Disk.{State, IsAmong}
use Rattle.wol_model.specs.Blocks.{AreApart}
use Rattle.wol_model.specs.Index.{Indexed}
use Rattle.wol_model.specs.Log.{Record, extent_of}
use Rattle.wol_promise.specs.Manager.{Held, extents_held}
use Rattle.wol_promise.specs.Stands.{place_in, ApartFrom, AreApartPlaces}
use Rattle.spin_model.specs.declared.spun.Spun.{Spun}
use Rattle.log_scan.specs.declared.Scan.{Scan}
use Rattle.logger.specs.Lanes.{logger_of, held_in}
use Rattle.logger.specs.declared.lane.HeldSegment.{HeldSegment}
use Rattle.logger.specs.declared.lane.Lane.{Lane}
use Rattle.redirect_map.specs.Index.{entry_of}
use Rattle.manager.specs.Seen.{Logs, AllHold, AllLanesHold, held_with, all_held}
use Rattle.manager.proofs.Lanes.{held_as}
use Rattle.manager_recovery.specs.Opening.{IsOwned, IsBefore, AreInOrder, place_of}
use Rattle.manager_recovery.specs.Refused.{is_named}
use Rattle.manager_recovery.specs.Scanned.{IsScanned, IsAdopted, AreAdopted, held_on, has_some, found_in, all_found, entries_from, lane_of}
use Rattle.manager_recovery.specs.declared.listing.FoundRecord.{FoundRecord}
use Rattle.manager_recovery.specs.declared.opening.OwnedPart.{OwnedPart}
use Rattle.manager_recovery.proofs.ByLogger.{on, total, count-append, among_left, among_right, among_map, filter_among}
use Rattle.wol_promise.proofs.Lists.{all_joined}
use Rattle.manager_recovery.proofs.Places.{logger_at}
use Rattle.manager_recovery.proofs.ToldParts.{records_at, all_records}

pub record Seg (D : Type 0) : Type 0 where
  pub part : OwnedPart D
  pub scan : Scan
  pub held : HeldSegment D

abbrev pub logger_of_seg : {D : Type 0} → Seg D → ℕ
logger_of_seg g = g.part.logger

abbrev pub segs_of : {D : Type 0} → List (OwnedPart D) → List Scan → List (HeldSegment D) → List (Seg D)
segs_of [] ss hs = []
segs_of (o ∷ os) [] hs = []
segs_of (o ∷ os) (s ∷ ss) [] = []
segs_of (o ∷ os) (s ∷ ss) (h ∷ hs) = record { part = o; scan = s; held = h } ∷ segs_of os ss hs

pub record IsSeg {D : Type 0} (state : D → State) (lanes : List (Lane D)) (id home : ℕ) (view : List ℕ) (g : Seg D) : Type 0 where
  pub scanned : IsScanned state id home g.part g.scan
  pub adopted : IsAdopted state g.part g.scan g.held
  pub owned : IsOwned state lanes g.part
  pub some : has_some g.scan ≡ true
  pub named : is_named view g.part.logger ≡ true

-- ---- The segments as three lists, and as one

module _ {D : Type 0} (state : D → State) where
  pub all_segs : (lanes : List (Lane D)) (id home : ℕ) (view : List ℕ) (os : List (OwnedPart D)) (ss : List Scan) (hs : List (HeldSegment D)) → AllZip (IsScanned state id home) os ss → AreAdopted state os ss hs
      → AllByRecursion (IsOwned state lanes) os → AllByRecursion (λ (s : Scan). has_some s ≡ true) ss → AllByRecursion (λ (o : OwnedPart D). is_named view o.logger ≡ true) os → AllByRecursion (IsSeg state lanes id home view) (segs_of os ss hs)
  all_segs lanes id home view [] ss hs zip all owned some named = tt
  all_segs lanes id home view (o ∷ os) [] hs zip all owned some named = tt
  all_segs lanes id home view (o ∷ os) (s ∷ ss) [] zip all owned some named = tt
  all_segs lanes id home view (o ∷ os) (s ∷ ss) (h ∷ hs) zip all owned some named =
      (record { scanned = zip.0; adopted = all.0; owned = owned.0; some = some.0; named = named.0 }, all_segs lanes id home view os ss hs zip.1 all.1 owned.1 some.1 named.1)

  pub held_segs : (logger : ℕ) (os : List (OwnedPart D)) (ss : List Scan) (hs : List (HeldSegment D)) → AreAdopted state os ss hs → held_on logger os hs ≡ map (λ (g : Seg D). g.held) (on logger_of_seg logger (segs_of os ss hs))
  held_segs logger [] ss hs all = refl
  held_segs logger (o ∷ os) [] hs all = absurd all
  held_segs logger (o ∷ os) (s ∷ ss) [] all = absurd all
  held_segs logger (o ∷ os) (s ∷ ss) (h ∷ hs) all = at (eqb o.logger logger) (held_segs logger os ss hs all.1)
    where
      at : (t : Bool) → held_on logger os hs ≡ map (λ (g : Seg D). g.held) (on logger_of_seg logger (segs_of os ss hs))
          → cond t (h ∷ held_on logger os hs) (held_on logger os hs) ≡ map (λ (g : Seg D). g.held) (cond t (record { part = o; scan = s; held = h } ∷ on logger_of_seg logger (segs_of os ss hs)) (on logger_of_seg logger (segs_of os ss hs)))
      at true rest = ap (λ l. h ∷ l) rest
      at false rest = rest

  pub places_segs : (os : List (OwnedPart D)) (ss : List Scan) (hs : List (HeldSegment D)) → AreAdopted state os ss hs → map place_of os ≡ map (λ (g : Seg D). place_of g.part) (segs_of os ss hs)
  places_segs [] ss hs all = refl
  places_segs (o ∷ os) [] hs all = absurd all
  places_segs (o ∷ os) (s ∷ ss) [] all = absurd all
  places_segs (o ∷ os) (s ∷ ss) (h ∷ hs) all = ap (λ l. place_of o ∷ l) (places_segs os ss hs all.1)

  pub records_segs : (id : ℕ) (os : List (OwnedPart D)) (ss : List Scan) (hs : List (HeldSegment D)) → AreAdopted state os ss hs → all_records state id os ≡ flat_map (λ (g : Seg D). records_at state id g.part) (segs_of os ss hs)
  records_segs id [] ss hs all = refl
  records_segs id (o ∷ os) [] hs all = absurd all
  records_segs id (o ∷ os) (s ∷ ss) [] all = absurd all
  records_segs id (o ∷ os) (s ∷ ss) (h ∷ hs) all = ap (λ l. records_at state id o ++ l) (records_segs id os ss hs all.1)

  -- the entries of a segment's records
  abbrev pub entries_at : (view : List ℕ) → Seg D → List Indexed
  entries_at view g = entries_from (found_in view g.part g.scan)

  pub entries_segs : (view : List ℕ) (os : List (OwnedPart D)) (ss : List Scan) (hs : List (HeldSegment D)) → AreAdopted state os ss hs → entries_from (all_found view os ss) ≡ flat_map (entries_at view) (segs_of os ss hs)
  entries_segs view [] ss hs all = refl
  entries_segs view (o ∷ os) [] hs all = absurd all
  entries_segs view (o ∷ os) (s ∷ ss) [] all = absurd all
  entries_segs view (o ∷ os) (s ∷ ss) (h ∷ hs) all = map-append (λ (r : FoundRecord). entry_of r.entry 0) (found_in view o s) (all_found view os ss) ∙ ap (λ l. entries_from (found_in view o s) ++ l) (entries_segs view os ss hs all.1)

-- ---- The lane of a logger

pub lane_named : (view : List ℕ) (logger : ℕ) → is_named view logger ≡ true → slice_get view (lane_of view logger) ≡ Some logger
lane_named view logger named = at (position (λ (id : ℕ). eqb id logger) view) refl named
  where
    at : (o : Option ℕ) → position (λ (id : ℕ). eqb id logger) view ≡ o → is_some o ≡ true → slice_get view (unwrap_or o 0) ≡ Some logger
    at None e some = absurd (let bad : false ≡ true = some in cc)
    at (Some i) e some = logger_at view logger i e

-- a logger stands at one place of the view
pub one_place : (view : List ℕ) (j k v : ℕ) → AreApart view → slice_get view j ≡ Some v → slice_get view k ≡ Some v → j ≡ k
one_place [] j k v apart a b = absurd (none-some v a)
one_place (w ∷ view) zero zero v apart a b = refl
one_place (w ∷ view) zero (suc k) v apart a b = absurd (never view k apart.0 (b ∙ sym a))
  where
    never : (us : List ℕ) (i : ℕ) → AllByRecursion (λ (u : ℕ). w ≢ u) us → slice_get us i ≡ Some w → ⊥
    never [] i all is = none-some w is
    never (u ∷ us) zero all is = all.0 (sym (same_Some u w is))
    never (u ∷ us) (suc i) all is = never us i all.1 is
one_place (w ∷ view) (suc j) zero v apart a b = absurd (never view j apart.0 (a ∙ sym b))
  where
    never : (us : List ℕ) (i : ℕ) → AllByRecursion (λ (u : ℕ). w ≢ u) us → slice_get us i ≡ Some w → ⊥
    never [] i all is = none-some w is
    never (u ∷ us) zero all is = all.0 (sym (same_Some u w is))
    never (u ∷ us) (suc i) all is = never us i all.1 is
one_place (w ∷ view) (suc j) (suc k) v apart a b = ap suc (one_place view j k v apart.1 a b)

-- ---- As the promise sees them

module _ {D : Type 0} (recs : Seg D → List Record) where
  abbrev pub shown_at : ℕ → Seg D → Held (Spun D)
  shown_at k g = held_as k g.held (recs g)

  -- lane by lane, those on each logger of the view
  abbrev pub shown : ℕ → List ℕ → List (Seg D) → List (Held (Spun D))
  shown j [] gs = []
  shown j (v ∷ view) gs = map (shown_at j) (on logger_of_seg v gs) ++ shown (j + 1) view gs

  abbrev pub logs_of : List (Seg D) → List (Lane D) → Logs
  logs_of gs lanes = map (λ (l : Lane D). map recs (on logger_of_seg (logger_of l) gs)) lanes

  with_is : (j : ℕ) (gs : List (Seg D)) → held_with j (map (λ (g : Seg D). g.held) gs) (map recs gs) ≡ map (shown_at j) gs
  with_is j [] = refl
  with_is j (g ∷ gs) = ap (λ l. shown_at j g ∷ l) (with_is j gs)

  pub shown_is : (j : ℕ) (gs : List (Seg D)) (lanes : List (Lane D)) → AllByRecursion (λ (l : Lane D). held_in l ≡ map (λ (g : Seg D). g.held) (on logger_of_seg (logger_of l) gs)) lanes → all_held j lanes (logs_of gs lanes) ≡ shown j (map logger_of lanes) gs
  shown_is j gs [] all = refl
  shown_is j gs (l ∷ lanes) all =
      (λ i. held_with j (all.0 i) (map recs (on logger_of_seg (logger_of l) gs)) ++ shown_is (j + 1) gs lanes all.1 i)
      ∙ ap (λ q. q ++ shown (j + 1) (map logger_of lanes) gs) (with_is j (on logger_of_seg (logger_of l) gs))

  module _ (R : HeldSegment D → List Record → Type 0) where
    hold_is : (gs : List (Seg D)) → AllByRecursion (λ (g : Seg D). R g.held (recs g)) gs → AllHold R (map (λ (g : Seg D). g.held) gs) (map recs gs)
    hold_is [] all = tt
    hold_is (g ∷ gs) all = (all.0, hold_is gs all.1)

    all_on : (v : ℕ) (gs : List (Seg D)) → AllByRecursion (λ (g : Seg D). R g.held (recs g)) gs → AllByRecursion (λ (g : Seg D). R g.held (recs g)) (on logger_of_seg v gs)
    all_on v [] all = tt
    all_on v (g ∷ gs) all = at (eqb g.part.logger v) (all_on v gs all.1)
      where
        at : (t : Bool) → AllByRecursion (λ (x : Seg D). R x.held (recs x)) (on logger_of_seg v gs) → AllByRecursion (λ (x : Seg D). R x.held (recs x)) (cond t (g ∷ on logger_of_seg v gs) (on logger_of_seg v gs))
        at true rest = (all.0, rest)
        at false rest = rest

    pub lanes_hold : (gs : List (Seg D)) (lanes : List (Lane D)) → AllByRecursion (λ (l : Lane D). held_in l ≡ map (λ (g : Seg D). g.held) (on logger_of_seg (logger_of l) gs)) lanes → AllByRecursion (λ (g : Seg D). R g.held (recs g)) gs → AllLanesHold R lanes (logs_of gs lanes)
    lanes_hold gs [] held all = tt
    lanes_hold gs (l ∷ lanes) held all =
        (subst (λ (hs : List (HeldSegment D)). AllHold R hs (map recs (on logger_of_seg (logger_of l) gs))) (sym held.0) (hold_is (on logger_of_seg (logger_of l) gs) (all_on (logger_of l) gs all)), lanes_hold gs lanes held.1 all)

  -- what holds of each segment on its lane holds of each one shown
  module _ (P : Held (Spun D) → Type 0) (Q : Seg D → Type 0) where
    each_on : (j v : ℕ) (gs : List (Seg D)) → AllByRecursion Q gs → ((g : Seg D) → g.part.logger ≡ v → Q g → P (shown_at j g)) → AllByRecursion P (map (shown_at j) (on logger_of_seg v gs))
    each_on j v [] all so = tt
    each_on j v (g ∷ gs) all so = at (eqb g.part.logger v) refl (each_on j v gs all.1 so)
      where
        at : (t : Bool) → eqb g.part.logger v ≡ t → AllByRecursion P (map (shown_at j) (on logger_of_seg v gs)) → AllByRecursion P (map (shown_at j) (cond t (g ∷ on logger_of_seg v gs) (on logger_of_seg v gs)))
        at true e rest = (so g (eqb-true g.part.logger v e) all.0, rest)
        at false e rest = rest

    pub each_shown : (j : ℕ) (view : List ℕ) (gs : List (Seg D)) → AllByRecursion Q gs → ((k : ℕ) (g : Seg D) → slice_get view k ≡ Some g.part.logger → Q g → P (shown_at (j + k) g)) → AllByRecursion P (shown j view gs)
    each_shown j [] gs all so = tt
    each_shown j (v ∷ view) gs all so = all_joined P (map (shown_at j) (on logger_of_seg v gs)) (shown (j + 1) view gs)
        (each_on j v gs all (λ g same q. let e : j + 0 ≡ j = omega arith in subst (λ (i : ℕ). P (shown_at i g)) e (so 0 g (ap Some (sym same)) q)))
        (each_shown (j + 1) view gs all (λ k g is q. let e : j + suc k ≡ j + 1 + k = omega arith in subst (λ (i : ℕ). P (shown_at i g)) e (so (suc k) g is q)))

  -- each segment is shown on its lane
  pub is_shown : (j k : ℕ) (view : List ℕ) (gs : List (Seg D)) (g : Seg D) → IsAmong gs g → slice_get view k ≡ Some g.part.logger → IsAmong (shown j view gs) (shown_at (j + k) g)
  is_shown j k [] gs g has is = absurd (none-some g.part.logger is)
  is_shown j zero (v ∷ view) gs g has is =
      let e : j ≡ j + 0 = omega arith in
      subst (λ (i : ℕ). IsAmong (shown j (v ∷ view) gs) (shown_at i g)) e
      (among_left (map (shown_at j) (on logger_of_seg v gs)) (shown (j + 1) view gs) (shown_at j g) (among_map (shown_at j) (on logger_of_seg v gs) g
      (filter_among (λ (x : Seg D). eqb (logger_of_seg x) v) gs g has (eq-eqb g.part.logger v (sym (same_Some v g.part.logger is))))))
  is_shown j (suc k) (v ∷ view) gs g has is =
      let e : j + 1 + k ≡ j + suc k = omega arith in
      among_right (map (shown_at j) (on logger_of_seg v gs)) (shown (j + 1) view gs) (shown_at (j + suc k) g) (subst (λ (i : ℕ). IsAmong (shown (j + 1) view gs) (shown_at i g)) e (is_shown (j + 1) k view gs g has is))

  -- ---- Their records

  abbrev pub records_of_all : List (Held (Spun D)) → List Record
  records_of_all held = flat_map (λ (s : Held (Spun D)). s.records) held

  pub extents_of_all : (held : List (Held (Spun D))) → extents_held held ≡ map extent_of (records_of_all held)
  extents_of_all [] = refl
  extents_of_all (s ∷ held) = ap (λ l. map extent_of s.records ++ l) (extents_of_all held) ∙ sym (map-append extent_of s.records (records_of_all held))

  records_joined : (a b : List (Held (Spun D))) → records_of_all (a ++ b) ≡ records_of_all a ++ records_of_all b
  records_joined [] b = refl
  records_joined (s ∷ a) b = ap (λ l. s.records ++ l) (records_joined a b) ∙ sym (append_assoc s.records (records_of_all a) (records_of_all b))

  count_mapped : (test : Record → Bool) (j : ℕ) (gs : List (Seg D)) → count_by test (records_of_all (map (shown_at j) gs)) ≡ sum_by (λ (g : Seg D). count_by test (recs g)) gs
  count_mapped test j [] = refl
  count_mapped test j (g ∷ gs) = let c = count-append test (recs g) (records_of_all (map (shown_at j) gs)) in let s = sum_by-cons (λ (x : Seg D). count_by test (recs x)) g gs in let rest = count_mapped test j gs in omega (arith, c, s, rest)

  pub count_shown : (test : Record → Bool) (j : ℕ) (view : List ℕ) (gs : List (Seg D)) → count_by test (records_of_all (shown j view gs)) ≡ total logger_of_seg (λ (g : Seg D). count_by test (recs g)) view gs
  count_shown test j [] gs = refl
  count_shown test j (v ∷ view) gs =
      let here = map (shown_at j) (on logger_of_seg v gs) in let more = shown (j + 1) view gs in
      let joined = ap (count_by test) (records_joined here more) in
      let c = count-append test (records_of_all here) (records_of_all more) in
      let a = count_mapped test j (on logger_of_seg v gs) in let b = count_shown test (j + 1) view gs in
      omega (arith, joined, c, a, b)

  -- ---- Their places

  pub after_all : (j : ℕ) (p : ℕ × ℕ) (gs : List (Seg D)) (v : ℕ) → AllByRecursion (λ (g : Seg D). g.held.index ≡ g.part.index) gs → p.0 ≡ v → AllByRecursion (IsBefore p) (map (λ (g : Seg D). place_of g.part) gs) → ApartFrom (j, p.1) (map place_in (map (shown_at j) (on logger_of_seg v gs)))
  after_all j p [] v same here before = tt
  after_all j p (g ∷ gs) v same here before = at (eqb g.part.logger v) refl (after_all j p gs v same.1 here before.1)
    where
      at : (t : Bool) → eqb g.part.logger v ≡ t → ApartFrom (j, p.1) (map place_in (map (shown_at j) (on logger_of_seg v gs))) → ApartFrom (j, p.1) (map place_in (map (shown_at j) (cond t (g ∷ on logger_of_seg v gs) (on logger_of_seg v gs))))
      at true e rest = (
        (λ one. let i : p.1 ≡ g.held.index = ap (λ (q : ℕ × ℕ). q.1) one in let s = same.0 in let l = eqb-true g.part.logger v e in
            ⊎_elim (λ less. omega (arith, less, l, here)) (λ less. let lt = less.1 in omega (arith, lt, i, s)) before.0),
        rest,
      )
      at false e rest = rest

  apart_on : (j v : ℕ) (gs : List (Seg D)) → AllByRecursion (λ (g : Seg D). g.held.index ≡ g.part.index) gs → AreInOrder (map (λ (g : Seg D). place_of g.part) gs) → AreApartPlaces (map place_in (map (shown_at j) (on logger_of_seg v gs)))
  apart_on j v [] same order = tt
  apart_on j v (g ∷ gs) same order = at (eqb g.part.logger v) refl (apart_on j v gs same.1 order.1)
    where
      at : (t : Bool) → eqb g.part.logger v ≡ t → AreApartPlaces (map place_in (map (shown_at j) (on logger_of_seg v gs))) → AreApartPlaces (map place_in (map (shown_at j) (cond t (g ∷ on logger_of_seg v gs) (on logger_of_seg v gs))))
      at true e rest = (subst (λ (i : ℕ). ApartFrom (j, i) (map place_in (map (shown_at j) (on logger_of_seg v gs)))) (sym same.0) (after_all j (place_of g.part) gs v same.1 (eqb-true g.part.logger v e) order.0), rest)
      at false e rest = rest

  places_from : (j : ℕ) (view : List ℕ) (gs : List (Seg D)) (i : ℕ) → i ≤ j → AllByRecursion (λ (q : ℕ × ℕ). i ≤ q.0) (map place_in (shown j view gs))
  places_from j [] gs i le = tt
  places_from j (v ∷ view) gs i le = subst (AllByRecursion (λ (q : ℕ × ℕ). i ≤ q.0)) (sym (map-append place_in (map (shown_at j) (on logger_of_seg v gs)) (shown (j + 1) view gs)))
      (all_joined (λ (q : ℕ × ℕ). i ≤ q.0) (map place_in (map (shown_at j) (on logger_of_seg v gs))) (map place_in (shown (j + 1) view gs)) (here (on logger_of_seg v gs)) (places_from (j + 1) view gs i (omega (arith, le))))
    where
      here : (xs : List (Seg D)) → AllByRecursion (λ (q : ℕ × ℕ). i ≤ q.0) (map place_in (map (shown_at j) xs))
      here [] = tt
      here (x ∷ xs) = (le, here xs)

  apart_join : (ps qs : List (ℕ × ℕ)) (j : ℕ) → AreApartPlaces ps → AreApartPlaces qs → AllByRecursion (λ (p : ℕ × ℕ). p.0 ≡ j) ps → AllByRecursion (λ (q : ℕ × ℕ). j + 1 ≤ q.0) qs → AreApartPlaces (ps ++ qs)
  apart_join [] qs j a b here there = b
  apart_join (p ∷ ps) qs j a b here there = (all_joined (λ (q : ℕ × ℕ). p ≢ q) ps qs a.0 (far qs there), apart_join ps qs j a.1 b here.1 there)
    where
      far : (qs : List (ℕ × ℕ)) → AllByRecursion (λ (q : ℕ × ℕ). j + 1 ≤ q.0) qs → AllByRecursion (λ (q : ℕ × ℕ). p ≢ q) qs
      far [] all = tt
      far (q ∷ qs) all = ((λ same. let e = ap (λ (x : ℕ × ℕ). x.0) same in let h = here.0 in let t = all.0 in omega (arith, e, h, t)), far qs all.1)

  pub places_apart : (j : ℕ) (view : List ℕ) (gs : List (Seg D)) → AllByRecursion (λ (g : Seg D). g.held.index ≡ g.part.index) gs → AreInOrder (map (λ (g : Seg D). place_of g.part) gs) → AreApartPlaces (map place_in (shown j view gs))
  places_apart j [] gs same order = tt
  places_apart j (v ∷ view) gs same order = subst AreApartPlaces (sym (map-append place_in (map (shown_at j) (on logger_of_seg v gs)) (shown (j + 1) view gs)))
      (apart_join (map place_in (map (shown_at j) (on logger_of_seg v gs))) (map place_in (shown (j + 1) view gs)) j (apart_on j v gs same order) (places_apart (j + 1) view gs same order) (here (on logger_of_seg v gs)) (places_from (j + 1) view gs (j + 1) (omega arith)))
    where
      here : (xs : List (Seg D)) → AllByRecursion (λ (p : ℕ × ℕ). p.0 ≡ j) (map place_in (map (shown_at j) xs))
      here [] = tt
      here (x ∷ xs) = (refl, here xs)
