-- The first entries of an index that pass a test, up to a version.
use Rattle.std.proofs.Common.{◌≡◌, ⊎_elim, ◌<◌, ◌≤◌, ◌+◌, ℕ, zero, suc, Bool, true, false, cond, not, ◌&&◌, List, [], ◌∷◌, ◌++◌, map, length, take, Option, None, Some, refl, sym, ap, subst, ◌∙◌, arith, leb}
use Rattle.std.specs.Prelude.{find, filter, nat_le}
use Rattle.std.specs.List.{AllByRecursion}
use Rattle.std.proofs.lemmas.Bool.{le-leb, leb-true, lt-leb}
use Rattle.std.proofs.lemmas.Option.{none-some, same_Some}
use Rattle.wol_model.specs.Index.{Indexed, AreRising}
use Rattle.wol_promise.proofs.Lists.{all_map, all_member, member_map}
use Rattle.garbage_list.specs.Least.{from_on}
use Rattle.garbage_list.proofs.Nexts.{found_there}
use Rattle.reclaimer.proofs.ReadRecord.{front_of}

abbrev pub versions_of : List Indexed → List ℕ
versions_of es = map (λ (e : Indexed). e.listed.version) es

-- the entry's version is less than this one, and it passes
abbrev pub below : ℕ → (Indexed → Bool) → Indexed → Bool
below from test e = not (nat_le from e.listed.version) && test e

and_false : (t b : Bool) → b ≡ false → (t && b) ≡ false
and_false true b is = is
and_false false b is = refl

-- from this version on there are those that pass alone
pub none_below : (from : ℕ) (test : Indexed → Bool) (es : List Indexed) → AllByRecursion (λ w. from ≤ w) (versions_of es) → filter (below from test) es ≡ []
none_below from test [] all = refl
none_below from test (x ∷ xs) all = (λ i. cond (not (le-leb from x.listed.version all.0 i) && test x) (x ∷ filter (below from test) xs) (filter (below from test) xs)) ∙ none_below from test xs all.1

all_from : (from : ℕ) (test : Indexed → Bool) (es : List Indexed) → AllByRecursion (λ w. from ≤ w) (versions_of es) → filter (from_on from test) es ≡ filter test es
all_from from test [] all = refl
all_from from test (x ∷ xs) all = λ i. cond (le-leb from x.listed.version all.0 i && test x) (x ∷ all_from from test xs all.1 i) (all_from from test xs all.1 i)

behind : (v from : ℕ) (es : List Indexed) → from ≤ v + 1 → AllByRecursion (λ w. v < w) (versions_of es) → AllByRecursion (λ w. from ≤ w) (versions_of es)
behind v from es le all = all_map (λ w. v < w) (λ w. from ≤ w) (λ w lt. omega (arith, lt, le)) (versions_of es) all

-- the next one
pub one_more : (from : ℕ) (test : Indexed → Bool) (es : List Indexed) (e : Indexed) → AreRising (versions_of es) → find (from_on from test) es ≡ Some e
    → filter (below (e.listed.version + 1) test) es ≡ filter (below from test) es ++ e ∷ []
one_more from test [] e rising found = absurd (none-some e found)
one_more from test (x ∷ xs) e rising found = by (λ there. one_more from test xs e rising.1 there) (leb from x.listed.version) refl (test x) refl
  where
    -- it is further behind
    later : find (from_on from test) xs ≡ Some e → x.listed.version < e.listed.version
    later there = all_member (λ w. x.listed.version < w) (versions_of xs) e.listed.version rising.0 (member_map (λ (d : Indexed). d.listed.version) xs e (found_there (from_on from test) xs e there))

    before : find (from_on from test) xs ≡ Some e → leb (e.listed.version + 1) x.listed.version ≡ false
    before there = let lt = later there in lt-leb (e.listed.version + 1) x.listed.version (omega (arith, lt))

    here : x ≡ e → filter (below (e.listed.version + 1) test) xs ≡ []
    here same = none_below (e.listed.version + 1) test xs (behind x.listed.version (e.listed.version + 1) xs (let v = ap (λ (d : Indexed). d.listed.version) same in omega (arith, v)) rising.0)

    by : (find (from_on from test) xs ≡ Some e → filter (below (e.listed.version + 1) test) xs ≡ filter (below from test) xs ++ e ∷ []) → (t : Bool) → leb from x.listed.version ≡ t → (s : Bool) → test x ≡ s
        → filter (below (e.listed.version + 1) test) (x ∷ xs) ≡ filter (below from test) (x ∷ xs) ++ e ∷ []
    by further false low s is =
        let there : find (from_on from test) xs ≡ Some e = sym (ap (λ (t : Bool). cond (t && test x) (Some x) (find (from_on from test) xs)) low) ∙ found in
        let rest = further there in
        (λ i. cond (not (before there i) && is i) (x ∷ filter (below (e.listed.version + 1) test) xs) (filter (below (e.listed.version + 1) test) xs))
        ∙ either_way s (filter (below (e.listed.version + 1) test) xs) (filter (below from test) xs) rest
        ∙ sym (λ i. cond (not (low i) && is i) (x ∷ filter (below from test) xs) (filter (below from test) xs) ++ e ∷ [])
      where
        either_way : (s : Bool) (ds bs : List Indexed) → ds ≡ bs ++ e ∷ [] → cond (true && s) (x ∷ ds) ds ≡ cond (true && s) (x ∷ bs) bs ++ e ∷ []
        either_way true ds bs is = λ i. x ∷ is i
        either_way false ds bs is = is
    by further true high true is =
        let same : x ≡ e = same_Some x e (sym (λ i. cond (high i && is i) (Some x) (find (from_on from test) xs)) ∙ found) in
        let low : leb (e.listed.version + 1) x.listed.version ≡ false = let v = ap (λ (d : Indexed). d.listed.version) same in lt-leb (e.listed.version + 1) x.listed.version (omega (arith, v)) in
        (λ i. cond (not (low i) && is i) (x ∷ filter (below (e.listed.version + 1) test) xs) (filter (below (e.listed.version + 1) test) xs))
        ∙ (λ i. same i ∷ here same i)
        ∙ sym (λ i. cond (not (high i) && is i) (x ∷ filter (below from test) xs) (none_below from test xs (behind x.listed.version from xs (let le = leb-true from x.listed.version high in omega (arith, le)) rising.0) i) ++ e ∷ [])
    by further true high false is =
        let there : find (from_on from test) xs ≡ Some e = sym (λ i. cond (high i && is i) (Some x) (find (from_on from test) xs)) ∙ found in
        (λ i. cond (and_false (not (leb (e.listed.version + 1) x.listed.version)) (test x) is i) (x ∷ filter (below (e.listed.version + 1) test) xs) (filter (below (e.listed.version + 1) test) xs))
        ∙ further there
        ∙ sym (λ i. cond (and_false (not (leb from x.listed.version)) (test x) is i) (x ∷ filter (below from test) xs) (filter (below from test) xs) ++ e ∷ [])

-- those before a version, and those from it on
split_at : (from : ℕ) (test : Indexed → Bool) (es : List Indexed) → AreRising (versions_of es) → filter test es ≡ filter (below from test) es ++ filter (from_on from test) es
split_at from test [] rising = refl
split_at from test (x ∷ xs) rising = by (split_at from test xs rising.1) (leb from x.listed.version) refl
  where
    by : filter test xs ≡ filter (below from test) xs ++ filter (from_on from test) xs → (t : Bool) → leb from x.listed.version ≡ t → filter test (x ∷ xs) ≡ filter (below from test) (x ∷ xs) ++ filter (from_on from test) (x ∷ xs)
    by further true high =
        let le = leb-true from x.listed.version high in
        let all : AllByRecursion (λ w. from ≤ w) (versions_of (x ∷ xs)) = (le, behind x.listed.version from xs (omega (arith, le)) rising.0) in
        sym (all_from from test (x ∷ xs) all) ∙ sym (λ i. none_below from test (x ∷ xs) all i ++ filter (from_on from test) (x ∷ xs))
    by further false low =
        either_way (test x) (filter test xs) (filter (below from test) xs) (filter (from_on from test) xs) further
        ∙ sym (λ i. cond (not (low i) && test x) (x ∷ filter (below from test) xs) (filter (below from test) xs) ++ cond (low i && test x) (x ∷ filter (from_on from test) xs) (filter (from_on from test) xs))
      where
        either_way : (s : Bool) (all ds bs : List Indexed) → all ≡ ds ++ bs → cond s (x ∷ all) all ≡ cond s (x ∷ ds) ds ++ bs
        either_way true all ds bs is = λ i. x ∷ is i
        either_way false all ds bs is = is

-- where none is found none passes
pub none_found : (test : Indexed → Bool) (es : List Indexed) → find test es ≡ None → filter test es ≡ []
none_found test [] none = refl
none_found test (x ∷ xs) none = by (λ rest. none_found test xs rest) (test x) refl none
  where
    by : (find test xs ≡ None → filter test xs ≡ []) → (t : Bool) → test x ≡ t → cond t (Some x) (find test xs) ≡ None → filter test (x ∷ xs) ≡ []
    by further true is some = absurd (none-some x (sym some))
    by further false is rest = (λ i. cond (is i) (x ∷ filter test xs) (filter test xs)) ∙ further rest

-- and where none passes none is found
pub found_none : (test : Indexed → Bool) (es : List Indexed) → take 128 (filter test es) ≡ [] → find test es ≡ None
found_none test [] none = refl
found_none test (x ∷ xs) none = by (λ rest. found_none test xs rest) (test x) refl
  where
    by : (take 128 (filter test xs) ≡ [] → find test xs ≡ None) → (t : Bool) → test x ≡ t → find test (x ∷ xs) ≡ None
    by further true is = absurd (let no : take 128 (x ∷ filter test xs) ≡ [] = sym (λ i. take 128 (cond (is i) (x ∷ filter test xs) (filter test xs))) ∙ none in cc)
    by further false is = (λ i. cond (is i) (Some x) (find test xs)) ∙ further (sym (λ i. take 128 (cond (is i) (x ∷ filter test xs) (filter test xs))) ∙ none)

few_all : (n : ℕ) (xs : List Indexed) → length xs ≤ n → take n xs ≡ xs
few_all zero [] le = refl
few_all (suc n) [] le = refl
few_all zero (x ∷ xs) le = absurd (omega arith)
few_all (suc n) (x ∷ xs) le = ap (λ (l : List Indexed). x ∷ l) (few_all n xs (omega arith))

-- where one is found from a version on, one is found
pub some_found : (from : ℕ) (test : Indexed → Bool) (es : List Indexed) (e : Indexed) → find (from_on from test) es ≡ Some e → find test es ≡ None → ⊥
some_found from test [] e found none = none-some e found
some_found from test (x ∷ xs) e found none = by (λ there rest. some_found from test xs e there rest) (test x) refl
  where
    by : (find (from_on from test) xs ≡ Some e → find test xs ≡ None → ⊥) → (t : Bool) → test x ≡ t → ⊥
    by further true is = none-some x (sym none ∙ (λ i. cond (is i) (Some x) (find test xs)))
    by further false is = further (sym (λ i. cond (and_false (leb from x.listed.version) (test x) is i) (Some x) (find (from_on from test) xs)) ∙ found) (sym (λ i. cond (is i) (Some x) (find test xs)) ∙ none)

-- where none is found from a version on, all that pass are before it
pub all_before : (from : ℕ) (test : Indexed → Bool) (es : List Indexed) → find (from_on from test) es ≡ None → filter (below from test) es ≡ filter test es
all_before from test [] none = refl
all_before from test (x ∷ xs) none = by (λ rest. all_before from test xs rest) (leb from x.listed.version) refl (test x) refl
  where
    by : (find (from_on from test) xs ≡ None → filter (below from test) xs ≡ filter test xs) → (t : Bool) → leb from x.listed.version ≡ t → (s : Bool) → test x ≡ s → filter (below from test) (x ∷ xs) ≡ filter test (x ∷ xs)
    by further true high true is = absurd (none-some x (sym none ∙ (λ i. cond (high i && is i) (Some x) (find (from_on from test) xs))))
    by further true high false is =
        let rest : find (from_on from test) xs ≡ None = sym (λ i. cond (high i && is i) (Some x) (find (from_on from test) xs)) ∙ none in
        (λ i. cond (not (high i) && is i) (x ∷ filter (below from test) xs) (filter (below from test) xs)) ∙ further rest ∙ sym (λ i. cond (is i) (x ∷ filter test xs) (filter test xs))
    by further false low s is =
        let rest : find (from_on from test) xs ≡ None = sym (λ i. cond (low i && test x) (Some x) (find (from_on from test) xs)) ∙ none in
        let all = further rest in
        λ i. cond (not (low i) && test x) (x ∷ all i) (all i)

-- all that pass, where there is none from this version on
pub all_first : (from : ℕ) (test : Indexed → Bool) (es : List Indexed) → find (from_on from test) es ≡ None → length (filter (below from test) es) ≤ 128 → filter (below from test) es ≡ take 128 (filter test es)
all_first from test es none few = sym (few_all 128 (filter (below from test) es) few) ∙ ap (take 128) (all_before from test es none)

-- so many of them
pub full_first : (from : ℕ) (test : Indexed → Bool) (es : List Indexed) → AreRising (versions_of es) → length (filter (below from test) es) ≡ 128 → filter (below from test) es ≡ take 128 (filter test es)
full_first from test es rising full = sym (ap (take 128) (split_at from test es rising) ∙ front_of 128 (filter (below from test) es) (filter (from_on from test) es) full)
