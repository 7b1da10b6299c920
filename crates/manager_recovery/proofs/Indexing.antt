-- What the records that were found are, before they go into the index.
use Rattle.std.proofs.Common.{◌≡◌, ⊎_elim, ◌+◌, ◌<◌, ◌≤◌, ◌^◌, ℕ, zero, suc, Bool, true, false, not, cond, eqb, List, [], ◌∷◌, ◌++◌, length, take, drop, map, Option, None, Some, MatchOption, refl, sym, subst, ◌∙◌, arith}
use Rattle.std.specs.Prelude.{is_some, position, unwrap_or, IsPermutation}
use Rattle.std.specs.List.{AllByRecursion, AllZip, All, filter}
use Rattle.std.proofs.lemmas.Bool.Decides.{eqb_tells}
use Rattle.std.proofs.lemmas.List.Quantifiers.{position-Some}
use Rattle.std.proofs.lemmas.List.Sorted.{All-permutation}
use Rattle.std.proofs.lemmas.Option.{none-some}
use Rattle.wol_disk.specs.Disk.{State}
use Rattle.spin_model.specs.Spun.{state_of}
use Rattle.log_scan.specs.Scan.{IsInside}
use Rattle.log_scan.specs.declared.Found.{Found}
use Rattle.log_scan.specs.declared.Scan.{Scan}
use Rattle.manager_recovery.specs.Owned.{Head, with_version, AreFirstTwins, HaveNoTwins}
use Rattle.manager_recovery.specs.Refused.{first_outside, is_named}
use Rattle.manager_recovery.specs.Scanned.{IsScanned, IsEntryInRange, IsStableByVersion, found_in, all_found, record_in, keeps_some, lane_of, head_of}
use Rattle.manager_recovery.specs.declared.opening.OwnedPart.{OwnedPart}
use Rattle.manager_recovery.specs.declared.listing.FoundRecord.{FoundRecord}
use Rattle.manager_recovery.proofs.FirstTwo.{head_versions}
use Rattle.manager_recovery.proofs.Lists.{all_map}

-- ---- Places in the view

pub all_named : {D : Type 0} (view : List ℕ) (os : List (OwnedPart D)) → first_outside view os ≡ None → AllByRecursion (λ (o : OwnedPart D). is_named view o.logger ≡ true) os
all_named view [] none = tt
all_named {D} view (o ∷ os) none = let w = at (is_named view o.logger) none in (w.0, all_named view os w.1)
  where
    at : (b : Bool) → cond (not b) (Some o) (first_outside view os) ≡ None → (b ≡ true) × (first_outside view os ≡ None)
    at true e = (refl, e)
    at false e = absurd (none-some o (sym e))

pub lane_below : (view : List ℕ) (logger : ℕ) → is_named view logger ≡ true → lane_of view logger < length view
lane_below view logger named = at (position (λ id. eqb id logger) view) refl named
  where
    at : (o : Option ℕ) → position (λ id. eqb id logger) view ≡ o → is_some o ≡ true → unwrap_or o 0 < length view
    at None e some = absurd (let bad : false ≡ true = some in cc)
    at (Some i) e some = (position-Some (λ id. eqb id logger) view i 0 e).0

-- ---- Ranges

pub heads_inside : {D : Type 0} (state : D → State) (id home : ℕ) (o : OwnedPart D) (s : Scan) → IsScanned state id home o s → AllByRecursion (IsInside (state_of state o.part).size id) s.records.items
heads_inside state id home o s scanned =
    let P : Option ℕ → Type 0 = λ v. MatchOption v (s.records.items ≡ []) (λ owner. AllByRecursion (IsInside (state_of state o.part).size owner) s.records.items) in
    subst P scanned.owner scanned.shape.heads

pub places_fit : {D : Type 0} (state : D → State) (id home : ℕ) (o : OwnedPart D) (s : Scan) → o.first_block + (state_of state o.part).size < 2 ^ 64 → IsScanned state id home o s
    → AllByRecursion (λ (f : Found). o.first_block + f.pos < 2 ^ 64) s.records.items
places_fit state id home o s last scanned =
    all_map (IsInside (state_of state o.part).size id) (λ (f : Found). o.first_block + f.pos < 2 ^ 64) (λ f inside. let w : f.pos + 1 + f.head.count ≤ (state_of state o.part).size = inside.fits in omega (arith, w, last))
    s.records.items (heads_inside state id home o s scanned)

above_zero : (n : ℕ) → eqb n 0 ≡ false → 0 < n
above_zero zero e = absurd (let bad : true ≡ false = e in cc)
above_zero (suc n) e = omega arith

kept_in_range : {D : Type 0} (size id lane : ℕ) (o : OwnedPart D) (fs : List Found) → AllByRecursion (IsInside size id) fs → AllByRecursion IsEntryInRange (map (record_in lane o) (filter keeps_some fs))
kept_in_range size id lane o [] all = tt
kept_in_range {D} size id lane o (f ∷ fs) all =
    at (kept_in_range size id lane o fs all.1) (eqb f.head.keep 0)
    (λ e. let h = all.0.in_range in (h.count.0, h.count.1, h.range, above_zero f.head.keep e, h.kept, h.version.0, h.version.1))
  where
    at : AllByRecursion IsEntryInRange (map (record_in lane o) (filter keeps_some fs)) → (b : Bool) → (b ≡ false → IsEntryInRange (record_in lane o f))
        → AllByRecursion IsEntryInRange (map (record_in lane o) (cond (not b) (f ∷ filter keeps_some fs) (filter keeps_some fs)))
    at more true here = more
    at more false here = (here refl, more)

all_append : {X : Type 0} (P : X → Type 0) (xs ys : List X) → AllByRecursion P xs → AllByRecursion P ys → AllByRecursion P (xs ++ ys)
all_append P [] ys front back = back
all_append P (x ∷ xs) ys front back = (front.0, all_append P xs ys front.1 back)

pub found_in_range : {D : Type 0} (state : D → State) (id home : ℕ) (view : List ℕ) (os : List (OwnedPart D)) (ss : List Scan) → AllZip (IsScanned state id home) os ss → AllByRecursion IsEntryInRange (all_found view os ss)
found_in_range state id home view [] ss zip = tt
found_in_range state id home view (o ∷ os) [] zip = absurd zip
found_in_range state id home view (o ∷ os) (s ∷ ss) zip =
    all_append IsEntryInRange (found_in view o s) (all_found view os ss)
    (kept_in_range (state_of state o.part).size id (lane_of view o.logger) o s.records.items (heads_inside state id home o s zip.0))
    (found_in_range state id home view os ss zip.1)

-- ---- In another order

all_to : {X : Type 0} (P : X → Type 0) (xs : List X) → AllByRecursion P xs → All P xs
all_to P [] all k d lt = absurd (omega arith)
all_to P (x ∷ xs) all zero d lt = all.0
all_to P (x ∷ xs) all (suc k) d lt = all_to P xs all.1 k d (omega arith)

all_from : {X : Type 0} (P : X → Type 0) (xs : List X) → All P xs → AllByRecursion P xs
all_from P [] all = tt
all_from P (x ∷ xs) all = (all zero x (omega arith), all_from P xs (λ k d lt. all (suc k) d (omega arith)))

pub all_moved : {X : Type 0} (P : X → Type 0) (xs ys : List X) → IsPermutation xs ys → AllByRecursion P xs → AllByRecursion P ys
all_moved P xs ys moved all = all_from P ys (All-permutation P xs ys moved (all_to P xs all))

version_heads : (old new : List FoundRecord) → IsStableByVersion old new → (v : ℕ) → with_version v (map head_of old) ≡ with_version v (map head_of new)
version_heads old new stable v = head_versions v old ∙ (λ i. map head_of (sym (stable v) i)) ∙ sym (head_versions v new)

pub twins_back : (old new : List FoundRecord) (one other : Head) → IsStableByVersion old new → AreFirstTwins (map head_of new) one other → AreFirstTwins (map head_of old) one other
twins_back old new one other stable twins = record {
  further = twins.further;
  first_two = version_heads old new stable one.version ∙ twins.first_two;
  least = λ v lt. subst (λ (l : List Head). length l ≤ 1) (sym (version_heads old new stable v)) (twins.least v lt);
}

pub no_twins_back : (old new : List FoundRecord) → IsStableByVersion old new → HaveNoTwins (map head_of new) → HaveNoTwins (map head_of old)
no_twins_back old new stable none v = subst (λ (l : List Head). length l ≤ 1) (sym (version_heads old new stable v)) (none v)

-- ---- A list that was written through a slice of its own length

take_front : {X : Type 0} (xs : List X) → take (length xs) (xs ++ []) ≡ xs
take_front [] = refl
take_front (x ∷ xs) = λ i. x ∷ take_front xs i

drop_all : {X : Type 0} (xs : List X) → drop (length xs) xs ≡ []
drop_all [] = refl
drop_all (x ∷ xs) = drop_all xs

pub written_back : {X : Type 0} (old new : List X) (n : ℕ) → length new ≡ length old → n ≡ length old → take n (new ++ drop (length new) old) ≡ new
written_back old new n same size =
    (λ i. take (size i) (new ++ drop (same i) old)) ∙ (λ i. take (length old) (new ++ drop_all old i)) ∙ (λ i. take (sym same i) (new ++ [])) ∙ take_front new

-- ---- Twins have one version

all_of_version : (v : ℕ) (hs : List Head) → AllByRecursion (λ (h : Head). eqb h.version v ≡ true) (with_version v hs)
all_of_version v [] = tt
all_of_version v (h ∷ hs) = at (all_of_version v hs) (eqb h.version v) refl
  where
    at : AllByRecursion (λ (h : Head). eqb h.version v ≡ true) (with_version v hs) → (b : Bool) → eqb h.version v ≡ b → AllByRecursion (λ (h : Head). eqb h.version v ≡ true) (cond b (h ∷ with_version v hs) (with_version v hs))
    at rest true is = (is, rest)
    at rest false is = rest

pub second_version : (hs : List Head) (one other : Head) → AreFirstTwins hs one other → other.version ≡ one.version
second_version hs one other twins =
    let all = subst (AllByRecursion (λ (h : Head). eqb h.version one.version ≡ true)) twins.first_two (all_of_version one.version hs) in
    ⊎_elim (λ same. same.1) (λ differ. absurd (let bad : false ≡ true = sym differ.0 ∙ all.1.0 in cc)) (eqb_tells other.version one.version)
