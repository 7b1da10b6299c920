-- The first entry that passes a test, in an index whose versions rise.
use Rattle.std.proofs.Common.{◌≡◌, ◌<◌, ◌+◌, ℕ, suc, Bool, true, false, cond, List, [], ◌∷◌, map, length, Option, None, Some, refl, sym, ap, subst, ◌∙◌, arith}
use Rattle.std.specs.Prelude.{find, position, not, nat_lt, Contains, slice_get, slice_set}
use Rattle.std.specs.List.{AllByRecursion, prefix_len}
use Rattle.std.specs.Option.{option_map}
use Rattle.std.proofs.lemmas.Bool.{eq-eqb, ne_eqb, eqb-true, lt-ltb}
use Rattle.std.proofs.lemmas.Option.{none-some, same_Some, slice_get_within}
use Rattle.wol_model.specs.Index.{Listed, Indexed, listed_in, AreRising}
use Rattle.wol_promise.proofs.Lists.{all_member, member_map}
use Rattle.block_cells.specs.declared.record.Rec.{Rec}
use Rattle.redirect_map.specs.Index.{entry_at, changed, has_version, IsAnswer, IsRecordOf}
use Rattle.garbage_list.specs.Least.{first_version}

-- ---- lists

-- the element that is found passes, and stands there
pub found_passes : {X : Type 0} (test : X → Bool) (xs : List X) (x : X) → find test xs ≡ Some x → test x ≡ true
found_passes test [] x is = absurd (none-some x is)
found_passes {X} test (y ∷ ys) x is = at (test y) refl is (found_passes test ys x)
  where
    at : (t : Bool) → test y ≡ t → cond t (Some y) (find test ys) ≡ Some x → (find test ys ≡ Some x → test x ≡ true) → test x ≡ true
    at true here found rest = subst (λ (z : X). test z ≡ true) (same_Some y x found) here
    at false here found rest = rest found

pub found_there : {X : Type 0} (test : X → Bool) (xs : List X) (x : X) → find test xs ≡ Some x → Contains xs x
found_there test [] x is = absurd (none-some x is)
found_there {X} test (y ∷ ys) x is = at (test y) is (found_there test ys x)
  where
    at : (t : Bool) → cond t (Some y) (find test ys) ≡ Some x → (find test ys ≡ Some x → Contains ys x) → Contains (y ∷ ys) x
    at true found rest = (0, omega arith, same_Some y x found)
    at false found rest = let r = rest found in (suc r.0, (let lt = r.1 in omega arith), r.2)

-- ---- an entry of an index

-- the entry of this version: its place, and the listed records where it is another
pub record Spot (es : List Indexed) (version : ℕ) (e : Indexed) : Type 0 where
  pub place : ℕ
  pub there : slice_get (listed_in es) place ≡ Some e.listed
  pub then_is : (f : Indexed → Indexed) → listed_in (changed version f es) ≡ slice_set (listed_in es) place (f e).listed

later_differ : (version : ℕ) (es : List Indexed) → AllByRecursion (λ w. version < w) (map (λ (d : Indexed). d.listed.version) es) → AllByRecursion (λ (d : Indexed). has_version version d ≡ false) es
later_differ version [] all = tt
later_differ version (x ∷ es) all = (ne_eqb x.listed.version version (λ is. let lt : version < x.listed.version = all.0 in omega arith), later_differ version es all.1)

unchanged : (version : ℕ) (f : Indexed → Indexed) (es : List Indexed) → AllByRecursion (λ (d : Indexed). has_version version d ≡ false) es → changed version f es ≡ es
unchanged version f [] all = refl
unchanged version f (x ∷ es) all = λ i. cond (all.0 i) (f x) x ∷ unchanged version f es all.1 i

abbrev here_spot : (x : Indexed) (es : List Indexed) → AreRising (map (λ (d : Indexed). d.listed.version) (x ∷ es)) → Spot (x ∷ es) x.listed.version x
here_spot x es rising = record {
  place = 0;
  there = refl;
  then_is = λ f i. (cond (eq-eqb x.listed.version x.listed.version refl i) (f x) x).listed ∷ listed_in (unchanged x.listed.version f es (later_differ x.listed.version es rising.0) i);
}

abbrev behind_spot : (x : Indexed) (es : List Indexed) (version : ℕ) (e : Indexed) → has_version version x ≡ false → Spot es version e → Spot (x ∷ es) version e
behind_spot x es version e other s = record {
  place = suc s.place;
  there = s.there;
  then_is = λ f i. (cond (other i) (f x) x).listed ∷ s.then_is f i;
}

pub spot_of_version : (es : List Indexed) (version : ℕ) (e : Indexed) → AreRising (map (λ (d : Indexed). d.listed.version) es) → entry_at es version ≡ Some e → Spot es version e
spot_of_version [] version e rising is = absurd (none-some e is)
spot_of_version (x ∷ es) version e rising is = at (has_version version x) refl is (spot_of_version es version e rising.1)
  where
    at : (t : Bool) → has_version version x ≡ t → cond t (Some x) (entry_at es version) ≡ Some e → (entry_at es version ≡ Some e → Spot es version e) → Spot (x ∷ es) version e
    at true here found rest =
        let same : x ≡ e = same_Some x e found in
        subst (λ (d : Indexed). Spot (x ∷ es) version d) same (subst (λ (v : ℕ). Spot (x ∷ es) v x) (eqb-true x.listed.version version here) (here_spot x es rising))
    at false here found rest = behind_spot x es version e here (rest found)

-- ---- the first that passes

-- the first entry whose listed record passes
pub record First (P : Listed → Bool) (es : List Indexed) (e : Indexed) : Type 0 where
  pub spot : Spot es e.listed.version e
  pub before : prefix_len (λ (d : Listed). not (P d)) (listed_in es) ≡ spot.place
  pub entry : entry_at es e.listed.version ≡ Some e
  pub passes : P e.listed ≡ true

one_more : (n : ℕ) → 1 + n ≡ suc n
one_more n = omega arith

pub first_of_all : (P : Listed → Bool) (es : List Indexed) (e : Indexed) → AreRising (map (λ (d : Indexed). d.listed.version) es) → find (λ (d : Indexed). P d.listed) es ≡ Some e → First P es e
first_of_all P [] e rising is = absurd (none-some e is)
first_of_all P (x ∷ es) e rising is = at (P x.listed) refl is (first_of_all P es e rising.1)
  where
    at : (t : Bool) → P x.listed ≡ t → cond t (Some x) (find (λ (d : Indexed). P d.listed) es) ≡ Some e → (find (λ (d : Indexed). P d.listed) es ≡ Some e → First P es e) → First P (x ∷ es) e
    at true here found more = subst (First P (x ∷ es)) (same_Some x e found) (record {
      spot = here_spot x es rising;
      before = (λ i. cond (not (here i)) (1 + prefix_len (λ (d : Listed). not (P d)) (listed_in es)) 0);
      entry = (λ i. cond (eq-eqb x.listed.version x.listed.version refl i) (Some x) (entry_at es x.listed.version));
      passes = here;
    })
    at false here found more =
        let rest = more found in
        let lt : x.listed.version < e.listed.version = all_member (λ (v : ℕ). x.listed.version < v) (map (λ (d : Indexed). d.listed.version) es) e.listed.version rising.0
        (member_map (λ (d : Indexed). d.listed.version) es e (found_there (λ (d : Indexed). P d.listed) es e found)) in
        let other : has_version e.listed.version x ≡ false = ne_eqb x.listed.version e.listed.version (λ same. omega arith) in record {
          spot = behind_spot x es e.listed.version e other rest.spot;
          before = (λ i. cond (not (here i)) (1 + prefix_len (λ (d : Listed). not (P d)) (listed_in es)) 0) ∙ one_more (prefix_len (λ (d : Listed). not (P d)) (listed_in es)) ∙ ap suc rest.before;
          entry = (λ i. cond (other i) (Some x) (entry_at es e.listed.version)) ∙ rest.entry;
          passes = rest.passes;
        }

-- so it is by its position
pub least_of : (P : Listed → Bool) (es : List Indexed) (e : Indexed) (f : First P es e) → position P (listed_in es) ≡ Some f.spot.place
least_of P es e f =
    let lt = slice_get_within (listed_in es) f.spot.place e.listed f.spot.there in
    ap (λ (n : ℕ). cond (nat_lt n (length (listed_in es))) (Some n) None) f.before ∙ ap (λ (t : Bool). cond t (Some f.spot.place) None) (lt-ltb f.spot.place (length (listed_in es)) lt)

-- ---- the answers of the calls

pub record Answered (o : Option Indexed) (r : Rec) : Type 0 where
  pub entry : Indexed
  pub is : o ≡ Some entry
  pub record_ : IsRecordOf entry r

pub answered : (o : Option Indexed) (r : Rec) → IsAnswer o (Some r) → Answered o r
answered None r is = absurd is
answered (Some e) r is = record { entry = e; is = refl; record_ = is }

pub unanswered : (o : Option Indexed) → IsAnswer o None → o ≡ None
unanswered None is = refl
unanswered (Some e) is = absurd is

pub version_in : (o : Option Indexed) (version : ℕ) → option_map (λ (e : Indexed). e.listed.version) o ≡ Some version → (e : Indexed) × (o ≡ Some e) × (e.listed.version ≡ version)
version_in None version is = absurd (none-some version is)
version_in (Some e) version is = (e, refl, same_Some e.listed.version version is)

-- the record of the least version is that of the first entry that passes
pub answer_of_first : (P : Listed → Bool) (es : List Indexed) (version : ℕ) (r : Option Rec) → AreRising (map (λ (d : Indexed). d.listed.version) es) → first_version (λ (d : Indexed). P d.listed) es ≡ Some version → IsAnswer (entry_at es version) r
    → IsAnswer (find (λ (d : Indexed). P d.listed) es) r
answer_of_first P es version r rising first is =
    let found = version_in (find (λ (d : Indexed). P d.listed) es) version first in
    let all = first_of_all P es found.0 rising found.1 in
    subst (λ (o : Option Indexed). IsAnswer o r) (ap (entry_at es) (sym found.2) ∙ all.entry ∙ sym found.1) is

pub answer_of_none : (o : Option Indexed) → option_map (λ (e : Indexed). e.listed.version) o ≡ None → IsAnswer o None
answer_of_none None is = tt
answer_of_none (Some e) is = absurd (none-some e.listed.version (sym is))
