-- Entries of an index: of one version, of a segment, and what they keep.
use Rattle.std.proofs.Common.{◌≡◌, ◌<◌, ◌+◌, ◌-◌, ℕ, suc, Bool, true, false, cond, List, [], ◌∷◌, ◌++◌, map, length, Option, None, Some, refl, sym, ap, subst, ◌∙◌, arith, get_or, bit_or, ◌≢◌, ⊎_elim, ◌≤◌, ◌^◌, not, ◌&&◌, eqb, bit_and, ◌⊎◌, inl, inr, zero}
use Rattle.std.specs.Prelude.{Contains, IfSome, filter}
use Rattle.std.specs.List.{AllByRecursion, count_by}
use Rattle.std.proofs.lemmas.Option.{none-some, same_Some}
use Rattle.std.proofs.lemmas.Bool.{eqb-true, ne_eqb, false≢true, eq-eqb, cases_eq, and_parts}
use Rattle.std.specs.Int.{bit_at, bit_not, w128}
use Rattle.std.proofs.lemmas.Nat.{and_le_l}
use Rattle.std.proofs.Math.Nat.{pow-le-pow_right}
use Rattle.std.proofs.lemmas.Nat.Bits.{bit_at-lt, same_from_bits}
use Rattle.std.proofs.lemmas.Bool.Decides.{nat_tests}
use Rattle.std.proofs.lemmas.List.Sums.{sum_by-append, sum_by-cons}
use Rattle.wol_model.specs.Extents.{remarked, marked, has_newer}
use Rattle.wol_model.specs.Index.{Indexed, listed_in, AreRising, is_homed, cover_of, goes, keeping, keeps_a_block, is_live, listed_covers}
use Rattle.wol_model.specs.Log.{has_bit, marks_of}
use Rattle.wol_promise.proofs.Lists.{member_mid, all_member, all_map, all_front, all_back, all_push}
use Rattle.block_cells.proofs.Bits.{has_bit-without, some_bit}
use Rattle.block_cells.proofs.Marks.{in_mask-bit, marks_at, marked-marks_of}
use Rattle.block_cells.specs.Masks.{in_mask, IsMask}
use Rattle.block_cells.specs.declared.record.Rec.{Rec}
use Rattle.redirect_map.proofs.Changing.{remarked-marks_of, remarked-or}
use Rattle.volume_parts.specs.Changes.{with_put, with_kept, given_of, NoneLiveIn, lies_elsewhere}
use Rattle.redirect_map.specs.Index.{entry_at, changed, has_version, with_homed, IsEntry, IsIndex, IsRecordOf, IsAnswer, given_up}
use Rattle.log_segment.specs.Records.{IsProperPart}
use Rattle.garbage_list.proofs.Going.{some_block, goes_covers, keep_is}
use Rattle.volume_parts.specs.Entries.{StandsAt, AreStill, entries_at}
use Rattle.wol_promise.proofs.Wholes.{AreCovered}
use Rattle.wol_model.proofs.Counts.{length_remarked}

-- ---- what is said of an answer

pub some_of : {X : Type 0} (P : X → Type 0) (o : Option X) (x : X) → IfSome o P → o ≡ Some x → P x
some_of P None x is same = absurd (none-some x same)
some_of P (Some y) x is same = let Q : _ → Type 0 = λ z. P z in subst Q (same_Some y x same) is

-- an answer of a record
pub record Found (es : List Indexed) (version : ℕ) (r : Rec) : Type 0 where
  pub entry : Indexed
  pub is : entry_at es version ≡ Some entry
  pub record_ : IsRecordOf entry r

pub found_of : (es : List Indexed) (version : ℕ) (r : Rec) → IsAnswer (entry_at es version) (Some r) → Found es version r
found_of es version r is = at (entry_at es version) refl is
  where
    at : (o : Option Indexed) → entry_at es version ≡ o → IsAnswer o (Some r) → Found es version r
    at None none answer = absurd answer
    at (Some e) some answer = record { entry = e; is = some; record_ = answer }

-- ---- the entry among the others

-- the entry, with those of lower and of greater versions; and what the index is where it is another
pub record At (es : List Indexed) (version : ℕ) (e : Indexed) : Type 0 where
  pub front : List Indexed
  pub back : List Indexed
  pub is : es ≡ front ++ e ∷ back
  pub version_is : e.listed.version ≡ version
  pub then_is : (f : Indexed → Indexed) → changed version f es ≡ front ++ f e ∷ back
  pub others : AllByRecursion (λ (d : Indexed). has_version version d ≡ false) (front ++ back)

pub same_all : (version : ℕ) (f : Indexed → Indexed) (es : List Indexed) → AllByRecursion (λ (d : Indexed). has_version version d ≡ false) es → changed version f es ≡ es
same_all version f [] all = refl
same_all version f (x ∷ es) all = λ i. cond (all.0 i) (f x) x ∷ same_all version f es all.1 i

above : (version v : ℕ) (es : List Indexed) → version ≡ v → AllByRecursion (λ w. v < w) (map (λ (d : Indexed). d.listed.version) es) → AllByRecursion (λ (d : Indexed). has_version version d ≡ false) es
above version v [] same all = tt
above version v (x ∷ es) same all = (ne_eqb x.listed.version version (λ is. let lt : v < x.listed.version = all.0 in omega arith), above version v es same all.1)

pub entry_of_version : (es : List Indexed) (version : ℕ) (e : Indexed) → AreRising (map (λ (d : Indexed). d.listed.version) es) → entry_at es version ≡ Some e → At es version e
entry_of_version [] version e rising is = absurd (none-some e is)
entry_of_version (x ∷ es) version e rising is = at (has_version version x) refl is (entry_of_version es version e rising.1)
  where
    at : (t : Bool) → has_version version x ≡ t → cond t (Some x) (entry_at es version) ≡ Some e → (entry_at es version ≡ Some e → At es version e) → At (x ∷ es) version e
    at true here found rest =
        let same : x ≡ e = same_Some x e found in
        let v : x.listed.version ≡ version = eqb-true x.listed.version version here in
        let later = above version x.listed.version es (sym v) rising.0 in record {
          front = [];
          back = es;
          is = λ i. same i ∷ es;
          version_is = ap (λ (d : Indexed). d.listed.version) (sym same) ∙ v;
          then_is = λ f. (λ i. cond (here i) (f x) x ∷ same_all version f es later i) ∙ (λ i. f (same i) ∷ es);
          others = later;
        }
    at false here found rest = let r = rest found in record {
      front = x ∷ r.front;
      back = r.back;
      is = λ i. x ∷ r.is i;
      version_is = r.version_is;
      then_is = λ f i. cond (here i) (f x) x ∷ r.then_is f i;
      others = (here, r.others);
    }

pub among : {es : List Indexed} {version : ℕ} {e : Indexed} → At es version e → Contains es e
among {es} {version} {e} a = subst (λ (l : List Indexed). Contains l e) (sym a.is) (member_mid a.front e a.back)

-- what is so of an entry of an index
pub entry_in : (es : List Indexed) (e : Indexed) → IsIndex es → Contains es e → IsEntry (listed_in es) e.listed
entry_in es e index has = all_member (λ (d : Indexed). IsEntry (listed_in es) d.listed) es e index.each has

-- ---- marks of home

-- the entry with these bits set beside its marks of home
pub with_both : (e : Indexed) (homed mask : ℕ) → length e.listed.homed ≡ length e.listed.keep → IsMask e.listed.first (is_homed e.listed) homed → with_homed (bit_or homed mask) e ≡ with_put mask e
with_both e homed mask marks bits = λ i. record e {
  listed = record e.listed {
    homed = remarked-or e.listed (in_mask e.listed.first mask) homed mask marks bits (λ j. sym (in_mask-bit e.listed.first mask j)) i;
  };
}

-- so is the index
with_both_in : (es : List Indexed) (version : ℕ) (e : Indexed) (homed mask : ℕ) → IsIndex es → entry_at es version ≡ Some e → IsMask e.listed.first (is_homed e.listed) homed → changed version (with_homed (bit_or homed mask)) es ≡ changed version (with_put mask) es
with_both_in es version e homed mask index is bits =
    let at = entry_of_version es version e index.rising is in
    at.then_is (with_homed (bit_or homed mask)) ∙ (λ i. at.front ++ with_both e homed mask (entry_in es e index (among at)).homed.marks bits i ∷ at.back) ∙ sym (at.then_is (with_put mask))

-- noted so, beside those that were homed
pub noted_home : (es noted : List Indexed) (version : ℕ) (e : Indexed) (homed mask : ℕ) → IsIndex es → entry_at es version ≡ Some e → IfSome (entry_at es version) (λ d. IsMask d.listed.first (is_homed d.listed) homed)
    → noted ≡ changed version (with_homed (bit_or homed mask)) es → noted ≡ changed version (with_put mask) es
noted_home es noted version e homed mask index is bits set = set ∙ with_both_in es version e homed mask index is (some_of (λ (d : Indexed). IsMask d.listed.first (is_homed d.listed) homed) (entry_at es version) e bits is)

-- ---- masks

same_bit : (x y : ℕ) → x < 2 → y < 2 → eqb x 1 ≡ eqb y 1 → x ≡ y
same_bit x y a b e = grind (arith, nat_tests)

-- masks with the same marks are the same
pub same_mask : (count m n : ℕ) → m < 2 ^ count → n < 2 ^ count → marks_of count m ≡ marks_of count n → m ≡ n
same_mask count m n a b same = same_from_bits m n (λ i. same_bit (bit_at m i) (bit_at n i) (bit_at-lt m i) (bit_at-lt n i)
    (sym (marks_at count m i a) ∙ ap (λ (l : List Bool). get_or l i false) same ∙ marks_at count n i b))

remarked_same : (b : ℕ) (marks : List Bool) (f g : ℕ → Bool → Bool) → ((i : ℕ) (m : Bool) → f (b + i) m ≡ g (b + i) m) → remarked b marks f ≡ remarked b marks g
remarked_same b [] f g same = refl
remarked_same b (m ∷ marks) f g same =
    let here : f b m ≡ g b m = let e : b + 0 ≡ b = omega arith in rw e at (same 0 m) in
    let rest = remarked_same (b + 1) marks f g (λ i t. let e : b + 1 + i ≡ b + (i + 1) = omega arith in rw e (same (i + 1) t)) in
    λ i. here i ∷ rest i

-- ---- a record that gives up what goes

module _ (es : List Indexed) (e : Indexed) (r : Rec) (is : IsRecordOf e r) (few : length e.listed.keep ≤ 128) (given : ℕ) (fits : given < 2 ^ 128) (bits : IsMask e.listed.first (goes (listed_in es) e.listed) given) where
  abbrev pub keep : ℕ
  keep = bit_and r.keep (bit_not w128 given)

  small : r.keep < 2 ^ 128
  small = wide r.count (omega (arith, is.count)) r.keep is.within
    where
      wide : (n : ℕ) → n ≤ 128 → (k : ℕ) → k < 2 ^ n → k < 2 ^ 128
      wide n le k lt = let more = pow-le-pow_right {n = 2} (omega arith) le in omega arith

  pub keep_bits : (i : ℕ) → has_bit keep i ≡ (has_bit r.keep i && not (goes (listed_in es) e.listed (e.listed.first + i)))
  keep_bits i = has_bit-without r.keep given i small fits ∙ ap (λ (t : Bool). has_bit r.keep i && not t) (bits i)

  pub keep_within : keep < 2 ^ r.count
  keep_within = let le = and_le_l r.keep (bit_not w128 given) in let w = is.within in omega arith

  -- the marks that it keeps
  pub kept_marks : (keeping (listed_in es) e.listed).keep ≡ marks_of r.count keep
  kept_marks = sym (remarked-marks_of e.listed.first r.count r.keep keep (λ b m. m && not (goes (listed_in es) e.listed b)) keep_bits ∙ ap (λ (l : List Bool). remarked e.listed.first l (λ b m. m && not (goes (listed_in es) e.listed b))) is.keep)

  pub kept_mask : IsMask e.listed.first (cover_of (keeping (listed_in es) e.listed)).covers keep
  kept_mask i = sym (in_mask-bit e.listed.first keep i) ∙ sym (marked-marks_of e.listed.first r.count keep (e.listed.first + i) keep_within) ∙ ap (λ (l : List Bool). marked e.listed.first l (e.listed.first + i)) (sym kept_marks)

  -- it keeps a block just where the mask isn't 0
  pub keeps_is : not (eqb keep 0) ≡ keeps_a_block (keeping (listed_in es) e.listed)
  keeps_is = some_block (keeping (listed_in es) e.listed) (cover_of (keeping (listed_in es) e.listed)).covers keep (let le = and_le_l r.keep (bit_not w128 given) in let s = small in omega arith) kept_mask (λ b covers. covers)

  -- it keeps some of its blocks and not all
  pub proper : 0 < given → IsProperPart keep r.keep
  proper some = record { fewer = fewer; among = λ i bit. (and_parts (has_bit r.keep i) (not (goes (listed_in es) e.listed (e.listed.first + i))) (sym (keep_bits i) ∙ bit)).0 }
    where
      one : (i : ℕ) × (has_bit given i ≡ true)
      one = some_bit given some fits

      goes_one : goes (listed_in es) e.listed (e.listed.first + one.0) ≡ true
      goes_one = sym (bits one.0) ∙ one.1

      kept_one : has_bit r.keep one.0 ≡ true
      kept_one = keep_is e r is one.0 ∙ goes_covers (listed_in es) e.listed (e.listed.first + one.0) goes_one

      not_one : has_bit keep one.0 ≡ false
      not_one = keep_bits one.0 ∙ (λ i. kept_one i && not (goes_one i))

      fewer : keep < r.keep
      fewer = ⊎_elim
          (λ same. absurd (false≢true (sym not_one ∙ ap (λ (k : ℕ). has_bit k one.0) same ∙ kept_one)))
          (λ other. let le = and_le_l r.keep (bit_not w128 given) in let ne : keep ≢ r.keep = other in omega arith)
          (cases_eq keep r.keep)

  -- the entry without the mask's blocks is the one without those that go
  pub given_is : given_up given e ≡ with_kept es e
  given_is = λ i. record e { listed = record e.listed { keep = same e.listed.keep i; homed = same e.listed.homed i } }
    where
      same : (marks : List Bool) → remarked e.listed.first marks (λ b m. m && not (in_mask e.listed.first given b)) ≡ remarked e.listed.first marks (λ b m. m && not (goes (listed_in es) e.listed b))
      same marks = remarked_same e.listed.first marks (λ b m. m && not (in_mask e.listed.first given b)) (λ b m. m && not (goes (listed_in es) e.listed b)) (λ i m. ap (λ (t : Bool). m && not t) (in_mask-bit e.listed.first given i ∙ bits i))

-- ---- the index

filter_kept : (xs : List Indexed) → AllByRecursion (λ (d : Indexed). keeps_a_block d.listed ≡ true) xs → filter (λ (d : Indexed). keeps_a_block d.listed) xs ≡ xs
filter_kept [] all = refl
filter_kept (x ∷ xs) all = ap (λ (t : Bool). cond t (x ∷ filter (λ (d : Indexed). keeps_a_block d.listed) xs) (filter (λ (d : Indexed). keeps_a_block d.listed) xs)) all.0 ∙ (λ i. x ∷ filter_kept xs all.1 i)

pub filter_mid : (front : List Indexed) (d : Indexed) (back : List Indexed) (t : Bool) → keeps_a_block d.listed ≡ t → AllByRecursion (λ (c : Indexed). keeps_a_block c.listed ≡ true) front → AllByRecursion (λ (c : Indexed). keeps_a_block c.listed ≡ true) back
    → filter (λ (c : Indexed). keeps_a_block c.listed) (front ++ d ∷ back) ≡ front ++ cond t (d ∷ back) back
filter_mid [] d back t is fs bs = ap (λ (u : Bool). cond u (d ∷ filter (λ (c : Indexed). keeps_a_block c.listed) back) (filter (λ (c : Indexed). keeps_a_block c.listed) back)) is ∙ ap (λ (l : List Indexed). cond t (d ∷ l) l) (filter_kept back bs)
filter_mid (x ∷ front) d back t is fs bs = ap (λ (u : Bool). cond u (x ∷ filter (λ (c : Indexed). keeps_a_block c.listed) (front ++ d ∷ back)) (filter (λ (c : Indexed). keeps_a_block c.listed) (front ++ d ∷ back))) fs.0
    ∙ (λ i. x ∷ filter_mid front d back t is fs.1 bs i)

module _ (es : List Indexed) (version : ℕ) (e : Indexed) (index : IsIndex es) (at : At es version e) where
  each_keeps : AllByRecursion (λ (d : Indexed). keeps_a_block d.listed ≡ true) (at.front ++ e ∷ at.back)
  each_keeps = subst (AllByRecursion (λ (d : Indexed). keeps_a_block d.listed ≡ true)) at.is (all_map (λ (d : Indexed). IsEntry (listed_in es) d.listed) (λ (d : Indexed). keeps_a_block d.listed ≡ true) (λ d is. is.keeps) es index.each)

  -- where the record keeps a block, it stays with these; where it keeps none, it is gone
  pub given_list : (t : Bool) → keeps_a_block (keeping (listed_in es) e.listed) ≡ t → given_of version es ≡ at.front ++ cond t (with_kept es e ∷ at.back) at.back
  given_list t is = ap (filter (λ (d : Indexed). keeps_a_block d.listed)) (at.then_is (with_kept es))
      ∙ filter_mid at.front (with_kept es e) at.back t is (all_front (λ (d : Indexed). keeps_a_block d.listed ≡ true) at.front (e ∷ at.back) each_keeps) (all_back (λ (d : Indexed). keeps_a_block d.listed ≡ true) at.front (e ∷ at.back) each_keeps).1

-- an entry of this version is in no list of others
pub none_of_version : (version : ℕ) (es : List Indexed) → AllByRecursion (λ (d : Indexed). eqb d.listed.version version ≡ false) es → entry_at es version ≡ None
none_of_version version [] all = refl
none_of_version version (x ∷ es) all = ap (λ (t : Bool). cond t (Some x) (entry_at es version)) all.0 ∙ none_of_version version es all.1

pub one_of_version : (version : ℕ) (front : List Indexed) (d : Indexed) (back : List Indexed) → AllByRecursion (λ (c : Indexed). eqb c.listed.version version ≡ false) front → d.listed.version ≡ version → entry_at (front ++ d ∷ back) version ≡ Some d
one_of_version version [] d back all is = ap (λ (t : Bool). cond t (Some d) (entry_at back version)) (eq-eqb d.listed.version version is)
one_of_version version (x ∷ front) d back all is = ap (λ (t : Bool). cond t (Some x) (entry_at (front ++ d ∷ back) version)) all.0 ∙ one_of_version version front d back all.1 is

-- ---- counts, entry by entry

pub count-cons : {X : Type 0} (test : X → Bool) (x : X) (xs : List X) → count_by test (x ∷ xs) ≡ cond (test x) 1 0 + count_by test xs
count-cons {X} test x xs = sum_by-cons (λ (d : X). cond (test d) 1 0) x xs

-- ---- an index in which one entry is another

pub all_changed : (P : Indexed → Type 0) (version : ℕ) (f : Indexed → Indexed) → ((d : Indexed) → P d → P (f d)) → (es : List Indexed) → AllByRecursion P es → AllByRecursion P (changed version f es)
all_changed P version f so [] all = tt
all_changed P version f so (x ∷ es) all = (at (has_version version x), all_changed P version f so es all.1)
  where
    at : (t : Bool) → P (cond t (f x) x)
    at true = so x all.0
    at false = all.0

pub count_changed : (test : Indexed → Bool) (version : ℕ) (f : Indexed → Indexed) → ((d : Indexed) → test (f d) ≡ test d) → (es : List Indexed) → count_by test (changed version f es) ≡ count_by test es
count_changed test version f same [] = refl
count_changed test version f same (x ∷ es) = at (has_version version x) (count_changed test version f same es)
  where
    at : (t : Bool) → count_by test (changed version f es) ≡ count_by test es → count_by test (cond t (f x) x ∷ changed version f es) ≡ count_by test (x ∷ es)
    at true rest = count-cons test (f x) (changed version f es) ∙ (λ i. cond (same x i) 1 0 + rest i) ∙ sym (count-cons test x es)
    at false rest = count-cons test x (changed version f es) ∙ (λ i. cond (test x) 1 0 + rest i) ∙ sym (count-cons test x es)

-- ---- counts

pub count_joined : (test : Indexed → Bool) (xs ys : List Indexed) → count_by test (xs ++ ys) ≡ count_by test xs + count_by test ys
count_joined test xs ys = sum_by-append (λ (d : Indexed). cond (test d) 1 0) xs ys

-- one entry more or less
pub count_mid : (test : Indexed → Bool) (front : List Indexed) (e : Indexed) (back : List Indexed) → count_by test (front ++ e ∷ back) ≡ count_by test (front ++ back) + cond (test e) 1 0
count_mid test front e back =
    let a = count_joined test front (e ∷ back) in let b = count_joined test front back in
    let c = count-cons test e back in
    omega (arith, a, b, c)

-- an entry that lies there counts
pub one_there : (test : Indexed → Bool) (es : List Indexed) (e : Indexed) → Contains es e → test e ≡ true → 1 ≤ count_by test es
one_there test [] e has is = absurd (let lt = has.1 in omega arith)
one_there test (x ∷ es) e (zero, lt, same) is = let here : cond {A = ℕ} (test x) 1 0 ≡ 1 = ap (λ (d : Indexed). cond (test d) 1 0) same ∙ ap (λ (t : Bool). cond t 1 0) is in
    let c = count-cons test x es in omega (arith, here, c)
one_there test (x ∷ es) e (suc k, lt, same) is =
    let rest = one_there test es e (k, omega arith, same) is in
    let c = count-cons test x es in omega (arith, rest, c)

-- no entry that lies elsewhere does
pub none_there : (test : Indexed → Bool) (es : List Indexed) → AllByRecursion (λ (d : Indexed). test d ≡ false) es → count_by test es ≡ 0
none_there test [] all = refl
none_there test (x ∷ es) all = count-cons test x es ∙ (λ i. cond (all.0 i) 1 0 + none_there test es all.1 i)

-- whether an entry lies in a segment
pub lies_there : (k index : ℕ) (e : Indexed) → e.listed.lane ≡ k → e.index ≡ index → (eqb e.listed.lane k && eqb e.index index) ≡ true
lies_there k index e lane is = (λ i. eq-eqb e.listed.lane k lane i && eq-eqb e.index index is i)

pub not_there : (k index : ℕ) (e : Indexed) → (e.listed.lane ≢ k) ⊎ (e.index ≢ index) → (eqb e.listed.lane k && eqb e.index index) ≡ false
not_there k index e (inl lane) = ap (λ (t : Bool). t && eqb e.index index) (ne_eqb e.listed.lane k lane)
not_there k index e (inr is) = ap (λ (t : Bool). eqb e.listed.lane k && t) (ne_eqb e.index index is) ∙ none (eqb e.listed.lane k)
  where
    none : (t : Bool) → (t && false) ≡ false
    none true = refl
    none false = refl

pub same_place : (e : Indexed) → StandsAt e e
same_place e = record { version = refl; first = refl; lane = refl; index = refl; pos = refl }

stood_at : (a b c : Indexed) → StandsAt a b → StandsAt b c → StandsAt a c
stood_at a b c before then_ = record {
  version = then_.version ∙ before.version;
  first = then_.first ∙ before.first;
  lane = then_.lane ∙ before.lane;
  index = then_.index ∙ before.index;
  pos = then_.pos ∙ before.pos;
}

module _ (places : List Indexed) (next : ℕ) where
  -- each entry becomes another of the same place
  pub still_map : (f : Indexed → Indexed) → ((e : Indexed) → StandsAt e (f e)) → (es : List Indexed) → AreStill places next es → AreStill places next (map f es)
  still_map f same [] still = tt
  still_map f same (e ∷ es) still = (one, still_map f same es still.1)
    where
      one : (f e).listed.version < next → (old : Indexed) × Contains places old × StandsAt old (f e)
      one lt = let w = still.0 (subst (λ (v : ℕ). v < next) (same e).version lt) in (w.0, w.1, stood_at w.0 e (f e) w.2 (same e))

  -- the entry of one version becomes another of the same place
  pub still_changed : (version : ℕ) (f : Indexed → Indexed) → ((e : Indexed) → StandsAt e (f e)) → (es : List Indexed) → AreStill places next es → AreStill places next (changed version f es)
  still_changed version f same es still = still_map (λ (e : Indexed). cond (has_version version e) (f e) e) (λ e. at e (has_version version e)) es still
    where
      at : (e : Indexed) (t : Bool) → StandsAt e (cond t (f e) e)
      at e true = same e
      at e false = same_place e

  -- some are gone
  pub still_filter : (test : Indexed → Bool) (es : List Indexed) → AreStill places next es → AreStill places next (filter test es)
  still_filter test [] still = tt
  still_filter test (e ∷ es) still = at (test e) (still_filter test es still.1)
    where
      at : (t : Bool) → AreStill places next (filter test es) → AreStill places next (cond t (e ∷ filter test es) (filter test es))
      at true rest = (still.0, rest)
      at false rest = rest

  -- one more has a version from after the opening
  pub still_push : (es : List Indexed) (e : Indexed) → next ≤ e.listed.version → AreStill places next es → AreStill places next (es ++ e ∷ [])
  still_push es e later still = all_push (λ (d : Indexed). d.listed.version < next → (old : Indexed) × Contains places old × StandsAt old d) es e still (λ lt. absurd (omega (arith, lt, later)))

pub is_false : (t : Bool) → not t ≡ true → t ≡ false
is_false true is = absurd (false≢true is)
is_false false is = refl

newer_where : (c n : Bool) → (c && not n) ≡ false → c ≡ true → n ≡ true
newer_where true true is c = refl
newer_where true false is c = absurd (false≢true (sym is))
newer_where false n is c = absurd (false≢true c)

pub both_hold : (s t : Bool) → (s && t) ≡ true → (s ≡ true) × (t ≡ true)
both_hold true t is = (refl, is)
both_hold false t is = absurd (false≢true is)

-- each block that an entry of the segment keeps, a newer entry keeps
pub covered_where : (k index : ℕ) (es : List Indexed) → NoneLiveIn k index es → (b : ℕ) → AreCovered (lies_elsewhere k index) b es
covered_where k index es none b =
    all_map (λ (e : Indexed). lies_elsewhere k index e ≡ false → (b : ℕ) → is_live (listed_in es) e.listed b ≡ false)
    (λ (e : Indexed). lies_elsewhere k index e ≡ false → (cover_of e.listed).covers b ≡ true → has_newer (listed_covers (listed_in es)) e.listed.version b ≡ true)
    (λ e so here keeps. newer_where ((cover_of e.listed).covers b) (has_newer (listed_covers (listed_in es)) e.listed.version b) (so here b) keeps) es none

-- ---- counts

-- what is counted among the entries that pass a test, where all that count pass it
count_filter : (p test : Indexed → Bool) → ((d : Indexed) → p d ≡ true → test d ≡ true) → (es : List Indexed) → count_by p (filter test es) ≡ count_by p es
count_filter p test pass [] = refl
count_filter p test pass (x ∷ es) = at (test x) refl (count_filter p test pass es)
  where
    none : (t : Bool) → p x ≡ t → test x ≡ false → cond {A = ℕ} (p x) 1 0 ≡ 0
    none true is fails = absurd (false≢true (sym fails ∙ pass x is))
    none false is fails = ap (λ (t : Bool). cond {A = ℕ} t 1 0) is

    at : (t : Bool) → test x ≡ t → count_by p (filter test es) ≡ count_by p es → count_by p (cond t (x ∷ filter test es) (filter test es)) ≡ count_by p (x ∷ es)
    at true is rest = count-cons p x (filter test es) ∙ (λ i. cond (p x) 1 0 + rest i) ∙ sym (count-cons p x es)
    at false is rest = rest ∙ (let c = count-cons p x es in let z = none (p x) refl is in omega (arith, c, z))

-- other segments have as many entries as before
pub counts_elsewhere : (k index : ℕ) (es : List Indexed) (j x : ℕ) → (j ≢ k) ⊎ (x ≢ index) → entries_at j x (filter (lies_elsewhere k index) es) ≡ entries_at j x es
counts_elsewhere k index es j x other = count_filter (λ (d : Indexed). eqb d.listed.lane j && eqb d.index x) (lies_elsewhere k index) passes es
  where
    passes : (d : Indexed) → (eqb d.listed.lane j && eqb d.index x) ≡ true → lies_elsewhere k index d ≡ true
    passes d is =
        let parts = both_hold (eqb d.listed.lane j) (eqb d.index x) is in
        let lane = eqb-true d.listed.lane j parts.0 in let at = eqb-true d.index x parts.1 in
        ap not (not_there k index d (⊎_elim (λ (ne : j ≢ k). inl (λ (same : d.listed.lane ≡ k). ne (sym lane ∙ same))) (λ (ne : x ≢ index). inr (λ (same : d.index ≡ index). ne (sym at ∙ same))) other))

-- where none counts, each fails the test
pub none_here : (test : Indexed → Bool) (es : List Indexed) → count_by test es ≡ 0 → AllByRecursion (λ (d : Indexed). test d ≡ false) es
none_here test [] none = tt
none_here test (x ∷ es) none = (at (test x) refl, none_here test es (let c = count-cons test x es in omega (arith, c, none)))
  where
    at : (t : Bool) → test x ≡ t → test x ≡ false
    at true is = absurd (let c = count-cons test x es in let one : cond {A = ℕ} (test x) 1 0 ≡ 1 = ap (λ (t : Bool). cond {A = ℕ} t 1 0) is in omega (arith, c, none, one))
    at false is = is

all_filtered : (P : Indexed → Type 0) (test : Indexed → Bool) (es : List Indexed) → AllByRecursion P es → AllByRecursion P (filter test es)
all_filtered P test [] all = tt
all_filtered P test (x ∷ es) all = at (test x) (all_filtered P test es all.1)
  where
    at : (t : Bool) → AllByRecursion P (filter test es) → AllByRecursion P (cond t (x ∷ filter test es) (filter test es))
    at true rest = (all.0, rest)
    at false rest = rest

-- what is so of each entry, and of one that gave up what goes
pub all_given : (P : Indexed → Type 0) (version : ℕ) (es : List Indexed) → ((d : Indexed) → P d → P (with_kept es d)) → AllByRecursion P es → AllByRecursion P (given_of version es)
all_given P version es so all = all_filtered P (λ (d : Indexed). keeps_a_block d.listed) (changed version (with_kept es) es) (all_changed P version (with_kept es) so es all)

pub long_kept : (es : List Indexed) (d : Indexed) → length (with_kept es d).listed.keep ≡ length d.listed.keep
long_kept es d = length_remarked d.listed.first d.listed.keep (λ b m. m && not (goes (listed_in es) d.listed b))

pub nothing_of : (t : Bool) → cond {A = ℕ} t 0 0 ≡ 0
nothing_of true = refl
nothing_of false = refl
