-- The first record of a list that passes a test is the one of least version.
use Rattle.std.proofs.Common.{◌≡◌, ⊎_elim, ◌<◌, ◌≤◌, ◌+◌, ℕ, zero, suc, Bool, true, false, cond, ◌&&◌, List, [], ◌∷◌, map, length, Option, None, Some, refl, sym, ap, ◌∙◌, subst, arith, eqb}
use mathlib.Core.Path.{fun_ext}
use Rattle.std.specs.Prelude.{slice_get, option_map, IfSome, IsSomeAnd, slice_index_or, nat_le, if◌then◌else◌}
use Rattle.std.specs.List.{AllByRecursion, find}
use Rattle.std.proofs.lemmas.Bool.{false≢true, cases_lt, eqb-true, le-leb, lt-leb}
use Rattle.wol_model.specs.Index.{Indexed, AreRising}
use Rattle.block_cells.specs.declared.record.Rec.{Rec}
use Rattle.redirect_map.specs.Index.{has_version, entry_at, HasVersion, IsRecordOf, IsAnswer, IsIndex}
use Rattle.redirect_map.proofs.Seen.{all_more, all_before_map, all_at, all_from_places}
use Rattle.redirect_map.proofs.Versions.{entry_at-own}
use Rattle.garbage_list.specs.Least.{told_of, from_on, is_awake, HasLane, IsNext}

-- none before the first that passes does
least_of : (test : Indexed → Bool) (es : List Indexed) (e : Indexed) → AreRising (map (λ (d : Indexed). d.listed.version) es) → find test es ≡ Some e → AllByRecursion (λ d. test d ≡ true → e.listed.version ≤ d.listed.version) es
least_of test [] e rising found = tt
least_of test (x ∷ xs) e rising found = at (test x) refl found (least_of test xs e rising.1)
  where
    at : (t : Bool) → test x ≡ t → cond t (Some x) (find test xs) ≡ Some e → (find test xs ≡ Some e → AllByRecursion (λ d. test d ≡ true → e.listed.version ≤ d.listed.version) xs)
        → (test x ≡ true → e.listed.version ≤ x.listed.version) × AllByRecursion (λ d. test d ≡ true → e.listed.version ≤ d.listed.version) xs
    at true here same rest =
        let is : x ≡ e = cc in
        subst (λ (d : Indexed). (test x ≡ true → d.listed.version ≤ x.listed.version) × AllByRecursion (λ y. test y ≡ true → d.listed.version ≤ y.listed.version) xs) is
        ((λ on. omega arith), all_more (λ (y : Indexed). x.listed.version < y.listed.version) (λ y. test y ≡ true → x.listed.version ≤ y.listed.version) (λ y less on. omega arith) xs (all_before_map (λ w. x.listed.version < w) (λ (y : Indexed). y.listed.version) xs rising.0))
    at false here left rest = ((λ on. absurd (false≢true (sym here ∙ on))), rest left)

-- where none passes
pub none_next : (test : Indexed → Bool) (es : List Indexed) → find test es ≡ None → IsNext test es None
none_next test es none = record { value = ap (option_map (λ (e : Indexed). e.listed.version)) (sym none); stated = tt; least = tt }

-- ---- What is told of one version

found_told : (test : Indexed → Bool) (v w : ℕ) (o : Option Indexed) → Some w ≡ told_of test v o → (e : Indexed) × (o ≡ Some e) × (test e ≡ true) × (w ≡ v)
found_told test v w None is = absurd (cc)
found_told test v w (Some e) is = at (test e) refl is
  where
    at : (t : Bool) → test e ≡ t → Some w ≡ cond t (Some v) None → (d : Indexed) × (Some e ≡ Some d) × (test d ≡ true) × (w ≡ v)
    at true here same = (e, refl, here, cc)
    at false here miss = absurd (cc)

missed_told : (test : Indexed → Bool) (v : ℕ) (e : Indexed) → None ≡ told_of test v (Some e) → test e ≡ false
missed_told test v e is = at (test e) refl is
  where
    at : (t : Bool) → test e ≡ t → None ≡ cond t (Some v) None → test e ≡ false
    at true here miss = absurd (cc)
    at false here miss = here

pub none_at : (test : Indexed → Bool) (es : List Indexed) (v : ℕ) → AreRising (map (λ (d : Indexed). d.listed.version) es) → None ≡ told_of test v (entry_at es v) → AllByRecursion (λ d. d.listed.version ≡ v → test d ≡ false) es
none_at test es v rising told = all_from_places (λ (d : Indexed). d.listed.version ≡ v → test d ≡ false) es
    (λ k d at same. missed_told test v d (told ∙ ap (told_of test v) (ap (entry_at es) (sym same) ∙ entry_at-own es k d rising at)))

-- ---- Versions so far

pub none_through : (test : Indexed → Bool) (v : ℕ) (es : List Indexed) → AllByRecursion (λ d. d.listed.version < v → test d ≡ false) es → AllByRecursion (λ d. d.listed.version ≡ v → test d ≡ false) es → AllByRecursion (λ d. d.listed.version < v + 1 → test d ≡ false) es
none_through test v [] below here = tt
none_through test v (x ∷ xs) below here =
    ((λ less. ⊎_elim below.0 (λ more. here.0 (omega arith)) (cases_lt x.listed.version v)), none_through test v xs below.1 here.1)

asleep_or_none : (lanes : List Bool) (q : Indexed → Bool) (x : Indexed) → (is_awake lanes x ≡ true → q x ≡ false) → (is_awake lanes x && q x) ≡ false
asleep_or_none lanes q x none = at (is_awake lanes x) none
  where
    at : (t : Bool) → (t ≡ true → q x ≡ false) → (t && q x) ≡ false
    at true off = off refl
    at false off = refl

and_false : (t b : Bool) → b ≡ false → (t && b) ≡ false
and_false true b is = is
and_false false b is = refl

pub none_below : (start : ℕ) (lanes : List Bool) (q : Indexed → Bool) (from v : ℕ) (es : List Indexed) → AllByRecursion (λ d. d.listed.version < from → from_on start (λ e. is_awake lanes e && q e) d ≡ false) es
    → AllByRecursion (λ d. from ≤ d.listed.version → d.listed.version < v → is_awake lanes d ≡ true → q d ≡ false) es → AllByRecursion (λ d. d.listed.version < v → from_on start (λ e. is_awake lanes e && q e) d ≡ false) es
none_below start lanes q from v [] before more = tt
none_below start lanes q from v (x ∷ xs) before more =
    ((λ less. ⊎_elim before.0 (λ on. and_false (nat_le start x.listed.version) (is_awake lanes x && q x) (asleep_or_none lanes q x (λ up. more.0 on less up))) (cases_lt x.listed.version from)), none_below start lanes q from v xs before.1 more.1)

pub none_left : (start : ℕ) (lanes : List Bool) (q : Indexed → Bool) (from : ℕ) (es : List Indexed) → AllByRecursion (λ d. d.listed.version < from → from_on start (λ e. is_awake lanes e && q e) d ≡ false) es
    → AllByRecursion (λ d. from ≤ d.listed.version → is_awake lanes d ≡ true → q d ≡ false) es → find (from_on start (λ d. is_awake lanes d && q d)) es ≡ None
none_left start lanes q from [] before more = refl
none_left start lanes q from (x ∷ xs) before more =
    ap (λ (t : Bool). cond t (Some x) (find (from_on start (λ d. is_awake lanes d && q d)) xs))
    (⊎_elim before.0 (λ on. and_false (nat_le start x.listed.version) (is_awake lanes x && q x) (asleep_or_none lanes q x (λ up. more.0 on up))) (cases_lt x.listed.version from))
    ∙ none_left start lanes q from xs before.1 more.1

-- none lies before the first version that is looked at
pub none_before : (start : ℕ) (test : Indexed → Bool) (es : List Indexed) → AllByRecursion (λ d. d.listed.version < start → from_on start test d ≡ false) es
none_before start test [] = tt
none_before start test (x ∷ xs) = ((λ less. ap (λ (t : Bool). t && test x) (lt-leb start x.listed.version less)), none_before start test xs)

-- what is told of a version from the first one on that is looked at
pub told_on : (start : ℕ) (test : Indexed → Bool) (v : ℕ) (o : Option Indexed) → start ≤ v → IfSome o (λ e. e.listed.version ≡ v) → told_of (from_on start test) v o ≡ told_of test v o
told_on start test v None le is = refl
told_on start test v (Some e) le is = λ i. if le-leb start e.listed.version (omega (arith, is)) i && test e then Some v else None

-- from 0 on all are looked at
same_from_zero : (test : Indexed → Bool) (e : Indexed) → from_on 0 test e ≡ test e
same_from_zero test e = ap (λ (t : Bool). t && test e) (le-leb 0 e.listed.version (omega arith))

pub next_of_all : (test : Indexed → Bool) (es : List Indexed) (answer : Option ℕ) → IsNext (from_on 0 test) es answer → IsNext test es answer
next_of_all test es answer n = subst (λ (t : Indexed → Bool). IsNext t es answer) (fun_ext (λ e. same_from_zero test e)) n

pub none_last : (test : Indexed → Bool) (v last : ℕ) (es : List Indexed) → last ≤ v → AllByRecursion (λ d. d.listed.version ≤ last) es → AllByRecursion (λ d. d.listed.version < v → test d ≡ false) es → AllByRecursion (λ d. d.listed.version ≡ v → test d ≡ false) es
    → find test es ≡ None
none_last test v last [] order all below here = refl
none_last test v last (x ∷ xs) order all below here =
    let low : x.listed.version ≤ last = all.0 in
    ap (λ (t : Bool). cond t (Some x) (find test xs)) (⊎_elim below.0 (λ more. here.0 (omega arith)) (cases_lt x.listed.version v)) ∙ none_last test v last xs order all.1 below.1 here.1

-- ---- The least version

above_found : (n v : ℕ) (es : List Indexed) (e : Indexed) → AllByRecursion (λ w. n < w) (map (λ (d : Indexed). d.listed.version) es) → find (has_version v) es ≡ Some e → n < v
above_found n v [] e above found = absurd (cc)
above_found n v (x ∷ xs) e above found = at (eqb x.listed.version v) refl found (above_found n v xs e above.1)
  where
    at : (t : Bool) → eqb x.listed.version v ≡ t → cond t (Some x) (find (has_version v) xs) ≡ Some e → (find (has_version v) xs ≡ Some e → n < v) → n < v
    at true is same rest = let e : x.listed.version ≡ v = eqb-true x.listed.version v is in let h : n < x.listed.version = above.0 in omega arith
    at false is same rest = rest same

find_least : (test : Indexed → Bool) (v : ℕ) (es : List Indexed) (e : Indexed) → AreRising (map (λ (d : Indexed). d.listed.version) es) → find (has_version v) es ≡ Some e → test e ≡ true → AllByRecursion (λ d. d.listed.version < v → test d ≡ false) es
    → find test es ≡ Some e
find_least test v [] e rising found on below = absurd (cc)
find_least test v (x ∷ xs) e rising found on below = at (eqb x.listed.version v) found (λ left. find_least test v xs e rising.1 left on below.1)
  where
    at : (t : Bool) → cond t (Some x) (find (has_version v) xs) ≡ Some e → (find (has_version v) xs ≡ Some e → find test xs ≡ Some e) → cond (test x) (Some x) (find test xs) ≡ Some e
    at true same rest = let f : x ≡ e = cc in ap (λ (t : Bool). cond t (Some x) (find test xs)) (ap test f ∙ on) ∙ ap Some f
    at false left rest = ap (λ (t : Bool). cond t (Some x) (find test xs)) (below.0 (above_found x.listed.version v xs e rising.0 left)) ∙ rest left

own_version : (v : ℕ) (es : List Indexed) (e : Indexed) → find (has_version v) es ≡ Some e → e.listed.version ≡ v
own_version v [] e found = absurd (cc)
own_version v (x ∷ xs) e found = at (eqb x.listed.version v) refl found (own_version v xs e)
  where
    at : (t : Bool) → eqb x.listed.version v ≡ t → cond t (Some x) (find (has_version v) xs) ≡ Some e → (find (has_version v) xs ≡ Some e → e.listed.version ≡ v) → e.listed.version ≡ v
    at true is same rest = let f : x ≡ e = cc in ap (λ (d : Indexed). d.listed.version) (sym f) ∙ eqb-true x.listed.version v is
    at false is same rest = rest same

-- the version of which it is told, where none before passes
pub first_told : (test : Indexed → Bool) (es : List Indexed) (v w : ℕ) → AreRising (map (λ (d : Indexed). d.listed.version) es) → Some w ≡ told_of test v (entry_at es v) → AllByRecursion (λ d. d.listed.version < v → test d ≡ false) es → IsNext test es (Some w)
first_told test es v w rising told below =
    let hit = found_told test v w (entry_at es v) told in
    let found : find test es ≡ Some hit.0 = find_least test v es hit.0 rising hit.1 hit.2 below in
    let own : hit.0.listed.version ≡ w = own_version v es hit.0 hit.1 ∙ sym hit.3 in
    subst (λ (n : ℕ). IsNext test es (Some n)) own
    (record {
      value = ap (option_map (λ (e : Indexed). e.listed.version)) (sym found);
      stated = subst (λ (n : ℕ). IsSomeAnd (entry_at es n) (λ e. test e ≡ true)) (sym (own_version v es hit.0 hit.1)) (rw hit.1 hit.2);
      least = least_of test es hit.0 rising found;
    })

-- ---- The record of one version

answered : (o : Option Indexed) (r : Rec) → IsAnswer o (Some r) → (e : Indexed) × (o ≡ Some e) × IsRecordOf e r
answered None r is = absurd is
answered (Some e) r is = (e, refl, is)

pub answer_there : (es : List Indexed) (v : ℕ) (r : Rec) → IsAnswer (entry_at es v) (Some r) → HasVersion es v
answer_there es v r is = let hit = answered (entry_at es v) r is in rw hit.1 refl

find_all : (P : Indexed → Type 0) (p : Indexed → Bool) (es : List Indexed) (e : Indexed) → AllByRecursion P es → find p es ≡ Some e → P e
find_all P p [] e all found = absurd (cc)
find_all P p (x ∷ xs) e all found = at (p x) found (find_all P p xs e all.1)
  where
    at : (t : Bool) → cond t (Some x) (find p xs) ≡ Some e → (find p xs ≡ Some e → P e) → P e
    at true same rest = let f : x ≡ e = cc in subst P f all.0
    at false left rest = rest left

pub lane_there : (lanes : List Bool) (es : List Indexed) (v : ℕ) (r : Rec) → AllByRecursion (HasLane lanes) es → IsAnswer (entry_at es v) (Some r) → r.lane < length lanes
lane_there lanes es v r all is =
    let hit = answered (entry_at es v) r is in
    subst (λ (n : ℕ). n < length lanes) (sym hit.2.lane) (find_all (HasLane lanes) (has_version v) es hit.0 all hit.1)

pub told_none : (test : Indexed → Bool) (v : ℕ) (o : Option Indexed) → IsAnswer o None → None ≡ told_of test v o
told_none test v None is = refl
told_none test v (Some e) is = absurd is

pub told_asleep : (lanes : List Bool) (q : Indexed → Bool) (v : ℕ) (o : Option Indexed) (r : Rec) → IsAnswer o (Some r) → slice_index_or lanes r.lane false ≡ false → None ≡ told_of (λ e. is_awake lanes e && q e) v o
told_asleep lanes q v o r is off =
    let hit = answered o r is in
    rw (hit.1, sym (ap (λ (n : ℕ). slice_index_or lanes n false) hit.2.lane) ∙ off) refl

-- the version where its logger is awake and the record passes
pub told_by : (lanes : List Bool) (v : ℕ) (o : Option Indexed) (r : Rec) (q : Indexed → Bool) (answer t : Bool) → IsAnswer o (Some r) → IfSome o (λ e. answer ≡ q e) → (slice_index_or lanes r.lane false && answer) ≡ t
    → cond t (Some v) None ≡ told_of (λ e. is_awake lanes e && q e) v o
told_by lanes v o r q answer t is says test =
    let hit = answered o r is in
    let mine : answer ≡ q hit.0 = subst (λ (x : Option Indexed). IfSome x (λ e. answer ≡ q e)) hit.1 says in
    let same : (is_awake lanes hit.0 && q hit.0) ≡ t = (λ i. slice_index_or lanes (sym hit.2.lane i) false && sym mine i) ∙ test in
    rw (hit.1, same) refl

-- ---- The last version

pub last_at : (es : List Indexed) (k : ℕ) (e : Indexed) → AreRising (map (λ (d : Indexed). d.listed.version) es) → slice_get es k ≡ Some e → length es ≤ k + 1 → AllByRecursion (λ d. d.listed.version ≤ e.listed.version) es
last_at [] k e rising at end = tt
last_at (x ∷ []) zero e rising at end = let f : x ≡ e = cc in subst (λ (d : Indexed). (x.listed.version ≤ d.listed.version) × Unit) f (omega arith, tt)
last_at (x ∷ y ∷ ys) zero e rising at end = absurd (omega arith)
last_at (x ∷ xs) (suc k) e rising at end =
    let less : x.listed.version < e.listed.version = all_at (λ (d : Indexed). x.listed.version < d.listed.version) xs k e (all_before_map (λ w. x.listed.version < w) (λ (d : Indexed). d.listed.version) xs rising.0) at in
    (omega arith, last_at xs k e rising.1 at (omega arith))

pub last_is : (es : List Indexed) (k : ℕ) (r : Rec) → IsIndex es → k < length es → length es ≤ k + 1 → IfSome (slice_get es k) (λ e. IsRecordOf e r) → AllByRecursion (λ d. d.listed.version ≤ r.version) es
last_is es k r index within end is = at (slice_get es k) refl (inside es k within) is
  where
    inside : (xs : List Indexed) (i : ℕ) → i < length xs → slice_get xs i ≡ None → ⊥
    inside [] i less none = absurd (omega arith)
    inside (x ∷ xs) zero less none = cc
    inside (x ∷ xs) (suc i) less none = inside xs i (omega arith) none

    at : (o : Option Indexed) → slice_get es k ≡ o → (slice_get es k ≡ None → ⊥) → IfSome o (λ e. IsRecordOf e r) → AllByRecursion (λ d. d.listed.version ≤ r.version) es
    at None none some of = absurd (some none)
    at (Some e) there some of = subst (λ (n : ℕ). AllByRecursion (λ d. d.listed.version ≤ n) es) (sym of.version) (last_at es k e index.rising there end)

pub none_listed : (es : List Indexed) → length es ≡ 0 → AllByRecursion (λ d. d.listed.version ≤ 0) es
none_listed [] none = tt
none_listed (x ∷ xs) none = absurd (omega arith)

-- where there is no record, none is found
pub nothing_first : (test : Indexed → Bool) (es : List Indexed) → eqb (length es) 0 ≡ true → find test es ≡ None
nothing_first test [] none = refl
nothing_first test (x ∷ xs) none = let e : length (x ∷ xs) ≡ 0 = eqb-true (length (x ∷ xs)) 0 none in absurd (omega arith)
