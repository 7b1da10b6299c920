-- The records of an index lie in as many different segments as are held.
use Rattle.std.proofs.Common.{◌≡◌, ◌≢◌, ◌+◌, ◌==◌, ◌&&◌, ℕ, suc, Bool, true, false, List, [], ◌∷◌, length, map, None, Some, inl, inr, refl, sym, ap, subst, ◌∙◌, arith, length-append}
use Rattle.std.proofs.lemmas.List.{length-map}
use Rattle.std.proofs.Common.{Decides}
use Rattle.std.specs.Prelude.{IsTrue, Contains, slice_get, sum_by}
use Rattle.std.specs.List.{AllByRecursion, IsDistinct}
use Rattle.std.specs.Set.{is_member}
use Rattle.std.specs.Cmp.{IsEquivalence, decided}
use Rattle.std.proofs.lemmas.Bool.{eqb-true, cases_Bool}
use Rattle.std.proofs.lemmas.Bool.Decides.{Decides-eqb}
use Rattle.std.proofs.lemmas.List.Sums.{sum_by-cons}
use Rattle.std.proofs.lemmas.Option.{slice_get-get_or}
use Rattle.std.proofs.lemmas.Map.Made.{length-le_from_is_member}
use Rattle.wol_model.specs.Index.{Indexed}
use Rattle.std.proofs.lemmas.Map.Views.{Contains-from_any, list_any-from_Contains}
use Rattle.wol_disk.specs.Disk.{State}
use Rattle.wol_model.specs.Extents.{IsValid}
use Rattle.wol_model.specs.Log.{Record, extent_of}
use Rattle.wol_promise.specs.Manager.{Held, IsFound, Parts}
use Rattle.wol_promise.specs.Ruled.{Noted}
use Rattle.wol_promise.specs.Stands.{place_in, AreApartPlaces, IsPlaced}
use Rattle.wol_promise.proofs.Lists.{all_map, all_mapped, all_member, member_map}
use Rattle.logger.specs.Lanes.{held_in}
use Rattle.logger.specs.declared.lane.HeldSegment.{HeldSegment}
use Rattle.logger.specs.declared.lane.Lane.{Lane}
use Rattle.manager.specs.Seen.{AllHold, AllLanesHold, Logs, all_held, held_with, parts_of}
use Rattle.manager.specs.Stands.{Keeps}
use Rattle.manager.specs.declared.base.ManagerBase.{ManagerBase}
use Rattle.manager.specs.declared.manager.Manager.{Manager}
use Rattle.manager.proofs.ReadContent.{upholds_up}
use Rattle.inspection.specs.Segments.{HasDifferent, is_same_place, place_of}
use Rattle.inspection.specs.Volumes.{held_segments}

same_or_not : (m n : ℕ) (rest : Bool) → ((m == n) && rest) ≡ true → (m ≡ n) × (rest ≡ true)
same_or_not m n rest both = elim (cases_Bool (m == n)) [
  | inl same ↦ (eqb-true m n same, rw same at both)
  | inr other ↦ absurd (cc (rw other at both))
]

decides : (p q : ℕ × ℕ) → Decides (is_same_place p q) (p ≡ q)
decides p q = (
  λ same. let both = same_or_not p.0 q.0 (p.1 == q.1) same in let second = eqb-true p.1 q.1 both.1 in λ i. (both.0 i, second i),
  λ same. subst (λ (r : ℕ × ℕ). is_same_place p r ≡ true) same (rw ((Decides-eqb p.0 p.0).1 refl, (Decides-eqb p.1 p.1).1 refl) refl),
)

pub laws : IsEquivalence is_same_place
laws = decided is_same_place decides

-- ---- The places of records, and of held segments

pub exact : (p q : ℕ × ℕ) → is_same_place p q ≡ true → p ≡ q
exact p q = (decides p q).0

-- an element has a place in its list
member_at : {X : Type 0} (xs : List X) (x : X) → Contains xs x → (k : ℕ) × (slice_get xs k ≡ Some x)
member_at xs x has = (has.0, slice_get-get_or xs has.0 x has.1 ∙ ap Some has.2)

module _ {P : Type 0} (parts : Parts P) (indexed : List Indexed) (held : List (Held P)) where
  -- each record lies in a held segment
  one_held : (e : Indexed) → IsPlaced parts held e → is_member is_same_place (map place_in held) (place_of e) ≡ true
  one_held e is =
      let same : place_in is.segment ≡ place_of e = λ i. (sym is.lane i, sym is.index i) in
      list_any-from_Contains laws (place_of e) (map place_in held) (subst (Contains (map place_in held)) same (member_map place_in held is.segment is.is_held))

  all_held_places : AllByRecursion (IsPlaced parts held) indexed → (p : ℕ × ℕ) → is_member is_same_place (map place_of indexed) p ≡ true → is_member is_same_place (map place_in held) p ≡ true
  all_held_places placed p is =
      all_member (λ (q : ℕ × ℕ). is_member is_same_place (map place_in held) q ≡ true) (map place_of indexed) p
      (all_mapped (λ (q : ℕ × ℕ). is_member is_same_place (map place_in held) q ≡ true) place_of indexed (all_map (IsPlaced parts held) (λ (e : Indexed). is_member is_same_place (map place_in held) (place_of e) ≡ true) one_held indexed placed))
      (Contains-from_any exact p (map place_of indexed) is)

  -- each held segment has a record
  abbrev Lists : Held P → Type 0
  Lists s = (k : ℕ) (r : Record) → slice_get s.records k ≡ Some r → IsValid (extent_of r).cover → IsFound indexed s k r

  abbrev Uses : Held P → Type 0
  Uses s = (r : Record) × Contains s.records r × IsValid (extent_of r).cover

  abbrev Listed : Held P → Type 0
  Listed s = is_member is_same_place (map place_of indexed) (place_in s) ≡ true

  one_listed : (s : Held P) → Uses s → Lists s → Listed s
  one_listed s uses lists =
      let at = member_at s.records uses.0 uses.1 in
      let found = lists at.0 uses.0 at.1 uses.2 in
      let same : place_of found.entry ≡ place_in s = λ i. (found.is_its.lane i, found.is_its.index i) in
      list_any-from_Contains laws (place_in s) (map place_of indexed) (subst (Contains (map place_of indexed)) same (member_map place_of indexed found.entry found.listed))

  each_listed : (ss : List (Held P)) → AllByRecursion Uses ss → AllByRecursion Lists ss → AllByRecursion Listed ss
  each_listed [] uses lists = tt
  each_listed (s ∷ ss) uses lists = (one_listed s uses.0 lists.0, each_listed ss uses.1 lists.1)

  all_listed_places : AllByRecursion Uses held → AllByRecursion Lists held → (p : ℕ × ℕ) → is_member is_same_place (map place_in held) p ≡ true → is_member is_same_place (map place_of indexed) p ≡ true
  all_listed_places uses lists p is =
      all_member (λ (q : ℕ × ℕ). is_member is_same_place (map place_of indexed) q ≡ true) (map place_in held) p
      (all_mapped (λ (q : ℕ × ℕ). is_member is_same_place (map place_of indexed) q ≡ true) place_in held (each_listed held uses lists))
      (Contains-from_any exact p (map place_in held) is)

-- ---- Places that are apart

not_same : (p q : ℕ × ℕ) → p ≢ q → is_same_place p q ≡ false
not_same p q other = elim (cases_Bool (is_same_place p q)) [ inl same ↦ absurd (other (exact p q same)) | inr is ↦ is ]

distinct : (ps : List (ℕ × ℕ)) → AreApartPlaces ps → IsDistinct is_same_place ps
unfolding IsDistinct
distinct [] apart = tt
distinct (p ∷ ps) apart = (all_map (λ (q : ℕ × ℕ). p ≢ q) (λ (q : ℕ × ℕ). is_same_place p q ≡ false) (not_same p) ps apart.0, distinct ps apart.1)

-- ---- How many are held

held_length : {D : Type 0} (k : ℕ) (hs : List (HeldSegment D)) (logs : List (List Record)) (R : HeldSegment D → List Record → Type 0) → AllHold R hs logs → length (held_with k hs logs) ≡ length hs
held_length k [] [] R all = refl
held_length k [] (rs ∷ logs) R all = absurd all
held_length k (h ∷ hs) [] R all = absurd all
held_length k (h ∷ hs) (rs ∷ logs) R all = ap suc (held_length k hs logs R all.1)

all_length : {D : Type 0} (k : ℕ) (lanes : List (Lane D)) (logs : Logs) (R : HeldSegment D → List Record → Type 0) → AllLanesHold R lanes logs
    → length (all_held k lanes logs) ≡ sum_by (λ (l : Lane D). length (held_in l)) lanes
all_length k [] [] R all = refl
all_length k [] (ls ∷ logs) R all = absurd all
all_length k (l ∷ lanes) [] R all = absurd all
all_length {D} k (l ∷ lanes) (ls ∷ logs) R all =
    let front = held_length k (held_in l) ls R all.0 in
    let back = all_length (k + 1) lanes logs R all.1 in
    let both = length-append (held_with k (held_in l) ls) (all_held (k + 1) lanes logs) in
    omega (arith, front, back, both, sum_by-cons (λ (m : Lane D). length (held_in m)) l lanes)

pub count_held : {D : Type 0} (tells : Bool) (state : D → State) (m : Manager D) (b : ManagerBase) (notes : List Noted) → Keeps tells state m b notes → m.down ≡ None → IsTrue tells
    → (count : ℕ) → HasDifferent (map place_of m.index.entries) count → count ≡ held_segments m
count_held {D} tells state m b notes k up told count has =
    let held = all_held 0 m.lanes.items k.logs in
    let u = upholds_up tells state m b notes k up in
    let calm = u.calm refl in
    let apart = distinct (map place_in held) u.places.apart in
    let uses = k.in_use told up in
    let less = length-le_from_is_member laws has.different (map place_in held) has.apart (λ p is. all_held_places (parts_of tells state) m.index.entries held calm.placed p (sym (has.same p) ∙ is)) in
    let more = length-le_from_is_member laws (map place_in held) has.different apart (λ p is. has.same p ∙ all_listed_places (parts_of tells state) m.index.entries held uses (calm.whole told).index.each p is) in
    let long = length-map held place_in in
    let all = all_length 0 m.lanes.items k.logs _ k.held in
    omega (arith, has.counted, less, more, long, all)
