-- A step in which a record gives up the blocks that go lowers what is left.
use Rattle.std.proofs.Common.{◌≡◌, ⊎_elim, ◌<◌, ◌≤◌, ◌+◌, ℕ, zero, suc, Bool, true, false, cond, not, ◌&&◌, ◌||◌, List, [], ◌∷◌, ◌++◌, length, refl, sym, ap, subst, ◌∙◌, arith, ltb}
use Rattle.std.specs.Prelude.{sum_by}
use Rattle.std.specs.List.{AllByRecursion, list_any, filter, count_by, range_with_len}
use Rattle.std.proofs.lemmas.Bool.{ltb-true, lt-ltb, cases_lt}
use Rattle.std.proofs.lemmas.Bool.Decides.{nat_tests}
use Rattle.std.proofs.lemmas.List.Sums.{sum_by-cons}
use Rattle.wol_model.specs.Extents.{Cover, has_newer, has_older}
use Rattle.wol_model.specs.Index.{Listed, cover_of, is_homed, listed_covers, goes, block_numbers, keeps_a_block, keeping, left}
use Rattle.wol_model.proofs.Marks.{remarked_is}
use mathlib.Core.Path.{fun_ext}
use Rattle.wol_model.specs.IndexLaws.{GivingUpLowers}
use Rattle.wol_model.proofs.Counts.{both, either, not_false, not_true, true_or, one, counted, count_less, count_lower, marked_within, length_remarked, due_by, left_by, around}

newer_around : (front back : List Listed) (e : Listed) (v b : ℕ) → has_newer (listed_covers (front ++ e ∷ back)) v b
    ≡ (has_newer (listed_covers front) v b || (((cover_of e).covers b && ltb v e.version) || has_newer (listed_covers back) v b))
newer_around [] back e v b = refl
newer_around (d ∷ front) back e v b = (λ i. ((cover_of d).covers b && ltb v d.version) || newer_around front back e v b i)
    ∙ assoc ((cover_of d).covers b && ltb v d.version) (has_newer (listed_covers front) v b) (((cover_of e).covers b && ltb v e.version) || has_newer (listed_covers back) v b)
  where
    assoc : (x y z : Bool) → (x || (y || z)) ≡ ((x || y) || z)
    assoc true y z = refl
    assoc false y z = refl

-- newer than one is newer than an older one
newer_of_older : (es : List Listed) (v w b : ℕ) → v ≤ w → has_newer (listed_covers es) w b ≡ true → has_newer (listed_covers es) v b ≡ true
newer_of_older [] v w b le is = cc
newer_of_older (d ∷ es) v w b le is = ⊎_elim
    (λ here. let parts = both ((cover_of d).covers b) (ltb w d.version) here in first ((cover_of d).covers b) (ltb v d.version) (has_newer (listed_covers es) v b) parts.0 (lt-ltb v d.version (let lt = ltb-true w d.version parts.1 in omega arith)))
    (λ there. true_or ((cover_of d).covers b && ltb v d.version) (has_newer (listed_covers es) v b) (newer_of_older es v w b le there))
    (either ((cover_of d).covers b && ltb w d.version) (has_newer (listed_covers es) w b) is)
  where
    first : (x y z : Bool) → x ≡ true → y ≡ true → ((x && y) || z) ≡ true
    first x y z p q = λ i. (p i && q i) || z

-- a record among these that covers the block and is older
AreOlder : List Cover → ℕ → List Listed → Type 0
AreOlder cs version es = AllByRecursion (λ d. (b : ℕ) → (cover_of d).covers b ≡ true → d.version < version → has_older cs version b ≡ true) es

older_here : (version : ℕ) (es more : List Listed) → ((b : ℕ) → has_older (listed_covers es) version b ≡ true → has_older (listed_covers more) version b ≡ true) → AreOlder (listed_covers more) version es
unfolding AreOlder
older_here version [] more to = tt
older_here version (d ∷ es) more to = (
  (λ b covers lt. to b (λ i. (covers i && lt-ltb d.version version lt i) || has_older (listed_covers es) version b)),
  older_here version es more (λ b is. to b (true_or ((cover_of d).covers b && ltb d.version version) (has_older (listed_covers es) version b) is)),
)

older_around : (front back : List Listed) (e : Listed) (v b : ℕ) → has_older (listed_covers (front ++ e ∷ back)) v b
    ≡ (has_older (listed_covers front) v b || (((cover_of e).covers b && ltb e.version v) || has_older (listed_covers back) v b))
older_around [] back e v b = refl
older_around (d ∷ front) back e v b = (λ i. ((cover_of d).covers b && ltb d.version v) || older_around front back e v b i)
    ∙ assoc ((cover_of d).covers b && ltb d.version v) (has_older (listed_covers front) v b) (((cover_of e).covers b && ltb e.version v) || has_older (listed_covers back) v b)
  where
    assoc : (x y z : Bool) → (x || (y || z)) ≡ ((x || y) || z)
    assoc true y z = refl
    assoc false y z = refl

or_true_left : (x y : Bool) → x ≡ true → (x || y) ≡ true
or_true_left x y is = λ i. is i || y

itself : (x : Bool) (n : ℕ) → (x && ltb n n) ≡ false
itself true n = grind (arith, nat_tests)
itself false n = refl

module _ (front back : List Listed) (e : Listed) where
  abbrev es : List Listed
  es = front ++ e ∷ back

  abbrev cs : List Cover
  cs = listed_covers es

  abbrev e' : Listed
  e' = keeping es e

  abbrev cs' : List Cover
  cs' = listed_covers (front ++ e' ∷ back)

  keeps_then : (c : ℕ) → (cover_of e').covers c ≡ ((cover_of e).covers c && not (goes es e c))
  keeps_then c = remarked_is e.first e.keep (λ b m. m && not (goes es e b)) c refl

  homed_now : (c : ℕ) → is_homed e' c ≡ (is_homed e c && not (goes es e c))
  homed_now c = remarked_is e.first e.homed (λ b m. m && not (goes es e b)) c refl

  -- nothing newer than e comes or goes
  same_newer : (b : ℕ) → has_newer cs' e.version b ≡ has_newer cs e.version b
  same_newer b = newer_around front back e' e.version b
      ∙ (λ i. has_newer (listed_covers front) e.version b || ((itself ((cover_of e').covers b) e.version ∙ sym (itself ((cover_of e).covers b) e.version)) i || has_newer (listed_covers back) e.version b))
      ∙ sym (newer_around front back e e.version b)

  -- a newer one of an older record stays
  newer_stays : (d : Listed) (b : ℕ) → (d.version < e.version → has_older cs e.version b ≡ true) → has_newer cs d.version b ≡ true → has_newer cs' d.version b ≡ true
  newer_stays d b older is = newer_around front back e' d.version b ∙ ⊎_elim of_front (λ rest. ⊎_elim at_e of_back (either ((cover_of e).covers b && ltb d.version e.version) (has_newer (listed_covers back) d.version b) rest))
      (either (has_newer (listed_covers front) d.version b) (((cover_of e).covers b && ltb d.version e.version) || has_newer (listed_covers back) d.version b) (sym (newer_around front back e d.version b) ∙ is))
    where
      of_front : has_newer (listed_covers front) d.version b ≡ true → (has_newer (listed_covers front) d.version b || (((cover_of e').covers b && ltb d.version e.version) || has_newer (listed_covers back) d.version b)) ≡ true
      of_front newer = or_true_left (has_newer (listed_covers front) d.version b) (((cover_of e').covers b && ltb d.version e.version) || has_newer (listed_covers back) d.version b) newer

      of_back : has_newer (listed_covers back) d.version b ≡ true → (has_newer (listed_covers front) d.version b || (((cover_of e').covers b && ltb d.version e.version) || has_newer (listed_covers back) d.version b)) ≡ true
      of_back newer = true_or (has_newer (listed_covers front) d.version b) (((cover_of e').covers b && ltb d.version e.version) || has_newer (listed_covers back) d.version b)
          (true_or ((cover_of e').covers b && ltb d.version e.version) (has_newer (listed_covers back) d.version b) newer)

      -- where e gives the block up, a newer one covers it
      gone : d.version < e.version → goes es e b ≡ true → has_newer cs e.version b ≡ true
      gone lt given = ⊎_elim (λ newer. newer)
          (λ homed. absurd (let no : true ≡ false = sym (older lt) ∙ not_true (has_older cs e.version b) (both (is_homed e b) (not (has_older cs e.version b)) homed).1 in cc))
          (either (has_newer cs e.version b) (is_homed e b && not (has_older cs e.version b)) (both ((cover_of e).covers b) (has_newer cs e.version b || (is_homed e b && not (has_older cs e.version b))) given).1)

      by : (t : Bool) → goes es e b ≡ t → (cover_of e).covers b ≡ true → ltb d.version e.version ≡ true → (has_newer (listed_covers front) d.version b || (((cover_of e').covers b && ltb d.version e.version) || has_newer (listed_covers back) d.version b)) ≡ true
      by false stays covers newer = true_or (has_newer (listed_covers front) d.version b) (((cover_of e').covers b && ltb d.version e.version) || has_newer (listed_covers back) d.version b)
          (or_true_left ((cover_of e').covers b && ltb d.version e.version) (has_newer (listed_covers back) d.version b) (λ i. (keeps_then b ∙ (λ j. covers j && not (stays j))) i && newer i))
      by true given covers newer =
          let lt : d.version < e.version = ltb-true d.version e.version newer in
          ⊎_elim (λ in_front. of_front (newer_of_older front d.version e.version b (omega arith) in_front))
          (λ rest. ⊎_elim (λ here. absurd (let no : false ≡ true = sym (itself ((cover_of e).covers b) e.version) ∙ here in cc)) (λ in_back. of_back (newer_of_older back d.version e.version b (omega arith) in_back))
          (either ((cover_of e).covers b && ltb e.version e.version) (has_newer (listed_covers back) e.version b) rest))
          (either (has_newer (listed_covers front) e.version b) (((cover_of e).covers b && ltb e.version e.version) || has_newer (listed_covers back) e.version b) (sym (newer_around front back e e.version b) ∙ gone lt given))

      at_e : ((cover_of e).covers b && ltb d.version e.version) ≡ true → (has_newer (listed_covers front) d.version b || (((cover_of e').covers b && ltb d.version e.version) || has_newer (listed_covers back) d.version b)) ≡ true
      at_e here = let parts = both ((cover_of e).covers b) (ltb d.version e.version) here in by (goes es e b) refl parts.0 parts.1

  -- so no other record has more left
  others_less : (d : Listed) → ((b : ℕ) → (cover_of d).covers b ≡ true → d.version < e.version → has_older cs e.version b ≡ true) → left_by cs' d ≤ left_by cs d
  others_less d older =
      let le : count_by (due_by cs' d) (block_numbers d) ≤ count_by (due_by cs d) (block_numbers d) = count_less (due_by cs' d) (due_by cs d) still (block_numbers d) in omega (arith, le)
    where
      still : (b : ℕ) → due_by cs' d b ≡ true → due_by cs d b ≡ true
      still b is =
          let parts = both ((cover_of d).covers b && not (has_newer cs' d.version b)) (not (is_homed d b)) is in
          let live = both ((cover_of d).covers b) (not (has_newer cs' d.version b)) parts.0 in
          λ i. (live.0 i && not_false (has_newer cs d.version b) (none_before (has_newer cs d.version b) refl (older b live.0) (not_true (has_newer cs' d.version b) live.1)) i) && parts.1 i
        where
          none_before : (t : Bool) → has_newer cs d.version b ≡ t → (d.version < e.version → has_older cs e.version b ≡ true) → has_newer cs' d.version b ≡ false → has_newer cs d.version b ≡ false
          none_before true is_newer o none = absurd (let no : true ≡ false = sym (newer_stays d b o is_newer) ∙ none in cc)
          none_before false is_newer o none = is_newer

  sum_less : (ds : List Listed) → AreOlder cs e.version ds → sum_by (left_by cs') ds ≤ sum_by (left_by cs) ds
  unfolding AreOlder
  sum_less [] all = omega arith
  sum_less (d ∷ ds) all = omega (arith, sum_by-cons (left_by cs') d ds, sum_by-cons (left_by cs) d ds, others_less d all.0, sum_less ds all.1)

  e_less : (b : ℕ) → goes es e b ≡ true → left_by cs' e' < left_by cs e
  e_less b given =
      let covers : (cover_of e).covers b ≡ true = (both ((cover_of e).covers b) (has_newer cs e.version b || (is_homed e b && not (has_older cs e.version b))) given).0 in
      let r = marked_within e.first e.keep b covers in
      let same : block_numbers e' ≡ block_numbers e = ap (range_with_len e.first) (length_remarked e.first e.keep (λ c m. m && not (goes es e c))) in
      let kept : count_by (cover_of e').covers (block_numbers e) < count_by (cover_of e).covers (block_numbers e) =
      count_lower (cover_of e').covers (cover_of e).covers e.first (length e.keep) b (λ c is. (both ((cover_of e).covers c) (not (goes es e c)) (sym (keeps_then c) ∙ is)).0) r.0 r.1 covers
      (keeps_then b ∙ (λ i. covers i && not (given i))) in
      let dues : count_by (due_by cs' e') (block_numbers e) ≤ count_by (due_by cs e) (block_numbers e) = count_less (due_by cs' e') (due_by cs e) still (block_numbers e) in
      let new : left_by cs' e' ≡ count_by (cover_of e').covers (block_numbers e) + count_by (due_by cs' e') (block_numbers e) = ap (λ (l : List ℕ). count_by (cover_of e').covers l + count_by (due_by cs' e') l) same in
      omega (arith, kept, dues, new)
    where
      still : (c : ℕ) → due_by cs' e' c ≡ true → due_by cs e c ≡ true
      still c is =
          let parts = both ((cover_of e').covers c && not (has_newer cs' e.version c)) (not (is_homed e' c)) is in
          let live = both ((cover_of e').covers c) (not (has_newer cs' e.version c)) parts.0 in
          let keeps = both ((cover_of e).covers c) (not (goes es e c)) (sym (keeps_then c) ∙ live.0) in
          let homed : is_homed e c ≡ false = sym (and_true (is_homed e c)) ∙ (λ i. is_homed e c && sym keeps.1 i) ∙ sym (homed_now c) ∙ not_true (is_homed e' c) parts.1 in
          λ i. (keeps.0 i && (ap not (sym (same_newer c)) ∙ live.1) i) && not_false (is_homed e c) homed i
        where
          and_true : (x : Bool) → (x && true) ≡ x
          and_true true = refl
          and_true false = refl

  lowered : (b : ℕ) → goes es e b ≡ true → sum_by (left_by cs') (front ++ e' ∷ back) < sum_by (left_by cs) es
  lowered b given =
      let new = around (left_by cs') front e' back in
      let old = around (left_by cs) front e back in
      omega (arith, new, old, e_less b given, sum_less front olders.0, sum_less back olders.1)
    where
      olders : AreOlder cs e.version front × AreOlder cs e.version back
      olders = (
        older_here e.version front es (λ c is. older_around front back e e.version c ∙ or_true_left (has_older (listed_covers front) e.version c) (((cover_of e).covers c && ltb e.version e.version) || has_older (listed_covers back) e.version c) is),
        older_here e.version back es (λ c is. older_around front back e e.version c ∙ true_or (has_older (listed_covers front) e.version c) (((cover_of e).covers c && ltb e.version e.version) || has_older (listed_covers back) e.version c) (true_or ((cover_of e).covers c && ltb e.version e.version) (has_older (listed_covers back) e.version c) is)),
      )

-- ---- records that keep nothing

any_in_range : (p : ℕ → Bool) (at n b : ℕ) → at ≤ b → b < at + n → p b ≡ true → list_any p (range_with_len at n) ≡ true
any_in_range p at zero b le lt is = absurd (omega arith)
any_in_range p at (suc n) b le lt is = ⊎_elim
    (λ later. true_or (p at) (list_any p (range_with_len (at + 1) n)) (any_in_range p (at + 1) n b (omega arith) (omega arith) is))
    (λ here. let same : at ≡ b = omega arith in or_true_left (p at) (list_any p (range_with_len (at + 1) n)) (ap p same ∙ is))
    (cases_lt at b)

nothing_kept : (e : Listed) → keeps_a_block e ≡ false → (b : ℕ) → (cover_of e).covers b ≡ false
nothing_kept e none b = at ((cover_of e).covers b) refl
  where
    at : (t : Bool) → (cover_of e).covers b ≡ t → (cover_of e).covers b ≡ false
    at false is = is
    at true is = let r = marked_within e.first e.keep b is in absurd (let no : true ≡ false = sym (any_in_range (cover_of e).covers e.first (length e.keep) b r.0 r.1 is) ∙ none in cc)

none_counted : (p : ℕ → Bool) → ((b : ℕ) → p b ≡ false) → (bs : List ℕ) → count_by p bs ≡ 0
none_counted p none [] = refl
none_counted p none (b ∷ bs) = let here : one (p b) ≡ one false = ap one (none b) in omega (arith, counted p b bs, here, none_counted p none bs)

nothing_left : (cs : List Cover) (e : Listed) → keeps_a_block e ≡ false → left_by cs e ≡ 0
nothing_left cs e none =
    let kept = none_counted (cover_of e).covers (nothing_kept e none) (block_numbers e) in
    let due = none_counted (due_by cs e) (λ b. λ i. (nothing_kept e none b i && not (has_newer cs e.version b)) && not (is_homed e b)) (block_numbers e) in
    omega (arith, kept, due)

filter_newer : (ds : List Listed) (v b : ℕ) → has_newer (listed_covers (filter keeps_a_block ds)) v b ≡ has_newer (listed_covers ds) v b
filter_newer [] v b = refl
filter_newer (d ∷ ds) v b = at (keeps_a_block d) refl (filter_newer ds v b)
  where
    at : (t : Bool) → keeps_a_block d ≡ t → has_newer (listed_covers (filter keeps_a_block ds)) v b ≡ has_newer (listed_covers ds) v b
        → has_newer (listed_covers (cond t (d ∷ filter keeps_a_block ds) (filter keeps_a_block ds))) v b ≡ (((cover_of d).covers b && ltb v d.version) || has_newer (listed_covers ds) v b)
    at true is rest = λ i. ((cover_of d).covers b && ltb v d.version) || rest i
    at false is rest = rest ∙ (λ i. (sym (nothing_kept d is b) i && ltb v d.version) || has_newer (listed_covers ds) v b)

same_left : (xs ys : List Cover) → ((v b : ℕ) → has_newer xs v b ≡ has_newer ys v b) → (e : Listed) → left_by xs e ≡ left_by ys e
same_left xs ys same e = ap (λ (p : ℕ → Bool). count_by (cover_of e).covers (block_numbers e) + count_by p (block_numbers e))
    (fun_ext (λ b. λ i. ((cover_of e).covers b && not (same e.version b i)) && not (is_homed e b)))

sum_filter : (cs : List Cover) (ds : List Listed) → sum_by (left_by cs) (filter keeps_a_block ds) ≡ sum_by (left_by cs) ds
sum_filter cs [] = refl
sum_filter cs (d ∷ ds) = at (keeps_a_block d) refl (sum_filter cs ds)
  where
    at : (t : Bool) → keeps_a_block d ≡ t → sum_by (left_by cs) (filter keeps_a_block ds) ≡ sum_by (left_by cs) ds → sum_by (left_by cs) (cond t (d ∷ filter keeps_a_block ds) (filter keeps_a_block ds)) ≡ sum_by (left_by cs) (d ∷ ds)
    at true is rest = sum_by-cons (left_by cs) d (filter keeps_a_block ds) ∙ ap (λ (n : ℕ). left_by cs d + n) rest ∙ sym (sum_by-cons (left_by cs) d ds)
    at false is rest = let none = nothing_left cs d is in let whole = sum_by-cons (left_by cs) d ds in rest ∙ omega (arith, none, whole)

sum_same : (xs ys : List Cover) → ((v b : ℕ) → has_newer xs v b ≡ has_newer ys v b) → (ds : List Listed) → sum_by (left_by xs) ds ≡ sum_by (left_by ys) ds
sum_same xs ys same ds = ap (λ (f : Listed → ℕ). sum_by f ds) (fun_ext (same_left xs ys same))

pub giving_up_lowers : GivingUpLowers
giving_up_lowers front back e b given =
    let now = front ++ keeping (front ++ e ∷ back) e ∷ back in
    let filtered : left (filter keeps_a_block now) ≡ sum_by (left_by (listed_covers now)) now =
    sum_same (listed_covers (filter keeps_a_block now)) (listed_covers now) (filter_newer now) (filter keeps_a_block now) ∙ sum_filter (listed_covers now) now in
    subst (λ (n : ℕ). n < left (front ++ e ∷ back)) (sym filtered) (lowered front back e b given)
