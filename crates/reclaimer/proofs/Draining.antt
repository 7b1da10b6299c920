-- A step of a drain: what it lowers, and the look that it leads to.
use Rattle.std.proofs.Common.{◌≡◌, ◌≢◌, ⊎_elim, ◌<◌, ◌≤◌, ℕ, zero, suc, Bool, true, false, cond, not, ◌&&◌, ◌||◌, List, [], ◌∷◌, ◌++◌, map, length, Option, None, Some, refl, sym, ap, subst, ◌∙◌, arith, eqb}
use Rattle.std.specs.Prelude.{find, filter, slice_get, slice_set, slice_index_or}
use Rattle.std.specs.List.{AllByRecursion, list_any, range_with_len}
use Rattle.std.proofs.lemmas.Bool.{eq-eqb, ne_eqb, cases_eq}
use Rattle.std.proofs.lemmas.Option.{same_Some, none-some}
use Rattle.std.proofs.Math.ListN.{length-set}
use Rattle.wol_model.specs.Extents.{Cover}
use Rattle.wol_model.specs.Index.{Listed, Indexed, listed_in, listed_covers, cover_of, is_homed, is_due, goes, has_due, has_going, keeps_a_block, homing, keeping, block_numbers, left}
use Rattle.wol_model.proofs.Live.{least_goes}
use Rattle.wol_promise.specs.Policy.{PartName, drained}
use Rattle.wol_promise.proofs.Covers.{any_found, any_member}
use Rattle.wol_promise.proofs.Lists.{all_map, all_mapped, member_of}
use Rattle.redirect_map.specs.Index.{IsEntry, IsIndex}

-- ---- lists

keep_all : (xs : List Listed) → AllByRecursion (λ (d : Listed). keeps_a_block d ≡ true) xs → filter keeps_a_block xs ≡ xs
keep_all [] all = refl
keep_all (x ∷ xs) all = (λ i. cond (all.0 i) (x ∷ filter keeps_a_block xs) (filter keeps_a_block xs)) ∙ (λ i. x ∷ keep_all xs all.1 i)

-- a test that the changed record fails still, where the others keep a block
any_given : (test : Listed → Bool) (xs : List Listed) (k : ℕ) (x y : Listed) → slice_get xs k ≡ Some x → test x ≡ false → test y ≡ false → AllByRecursion (λ (d : Listed). keeps_a_block d ≡ true) xs
    → list_any test (filter keeps_a_block (slice_set xs k y)) ≡ list_any test xs
any_given test [] k x y is fails fails' all = absurd (none-some x is)
any_given test (z ∷ xs) zero x y is fails fails' all =
    at (keeps_a_block y) ∙ ap (list_any test) (keep_all xs all.1) ∙ sym (λ i. (ap test (same_Some z x is) ∙ fails) i || list_any test xs)
  where
    at : (t : Bool) → list_any test (cond t (y ∷ filter keeps_a_block xs) (filter keeps_a_block xs)) ≡ list_any test (filter keeps_a_block xs)
    at true = λ i. fails' i || list_any test (filter keeps_a_block xs)
    at false = refl
any_given test (z ∷ xs) (suc k) x y is fails fails' all =
    (λ i. list_any test (cond (all.0 i) (z ∷ filter keeps_a_block (slice_set xs k y)) (filter keeps_a_block (slice_set xs k y))))
    ∙ (λ i. test z || any_given test xs k x y is fails fails' all.1 i)

-- a test that sees no change
any_set : (test : Listed → Bool) (xs : List Listed) (k : ℕ) (x y : Listed) → slice_get xs k ≡ Some x → test y ≡ test x → list_any test (slice_set xs k y) ≡ list_any test xs
any_set test [] k x y is same = absurd (none-some x is)
any_set test (z ∷ xs) zero x y is same = λ i. (same ∙ ap test (sym (same_Some z x is))) i || list_any test xs
any_set test (z ∷ xs) (suc k) x y is same = λ i. test z || any_set test xs k x y is same i

pub map_same : {X Y : Type 0} (f g : X → Y) (xs : List X) → ((x : X) → f x ≡ g x) → map f xs ≡ map g xs
map_same f g [] same = refl
map_same f g (x ∷ xs) same = λ i. same x i ∷ map_same f g xs same i

or_true : (t : Bool) → (t || true) ≡ true
or_true true = refl
or_true false = refl

set_here : (xs : List Bool) (k : ℕ) → k < length xs → slice_index_or (slice_set xs k true) k false ≡ true
set_here [] k lt = absurd (omega arith)
set_here (x ∷ xs) zero lt = refl
set_here (x ∷ xs) (suc k) lt = set_here xs k (omega arith)

set_other : (xs : List Bool) (k j : ℕ) → j ≢ k → slice_index_or (slice_set xs k true) j false ≡ slice_index_or xs j false
set_other [] k j other = refl
set_other (x ∷ xs) zero zero other = absurd (other refl)
set_other (x ∷ xs) zero (suc j) other = refl
set_other (x ∷ xs) (suc k) zero other = refl
set_other (x ∷ xs) (suc k) (suc j) other = set_other xs k j (λ same. other (ap suc same))

-- ---- looks

-- the look of which all is drained stays, where a disk of a listed record woke and no other lane's records came or went
pub drained_same : (home_up home_up' : Bool) (ups : List Bool) (next : ℕ) (listed listed' : List Listed) (down : Option PartName) (lane : ℕ) → lane < length ups → list_any (λ (d : Listed). eqb d.lane lane) listed ≡ true
    → ((k : ℕ) → k ≢ lane → list_any (λ (d : Listed). eqb d.lane k) listed' ≡ list_any (λ (d : Listed). eqb d.lane k) listed)
    → drained (record { home_up = home_up'; ups = slice_set ups lane true; next = next; listed = listed'; down = down }) ≡ drained (record { home_up = home_up; ups = ups; next = next; listed = listed; down = down })
drained_same home_up home_up' ups next listed listed' down lane within here others = λ i. record { home_up = true; ups = flags i; next = next; listed = []; down = down }
  where
    flag : (k : ℕ) → (slice_index_or (slice_set ups lane true) k false || list_any (λ (d : Listed). eqb d.lane k) listed') ≡ (slice_index_or ups k false || list_any (λ (d : Listed). eqb d.lane k) listed)
    flag k = ⊎_elim
        (λ same. subst (λ (j : ℕ). (slice_index_or (slice_set ups lane true) j false || list_any (λ (d : Listed). eqb d.lane j) listed') ≡ (slice_index_or ups j false || list_any (λ (d : Listed). eqb d.lane j) listed)) (sym same)
        ((λ i. set_here ups lane within i || list_any (λ (d : Listed). eqb d.lane lane) listed') ∙ sym ((λ i. slice_index_or ups lane false || here i) ∙ or_true (slice_index_or ups lane false))))
        (λ other. λ i. set_other ups lane k other i || others k other i)
        (cases_eq k lane)

    flags : map (λ k. slice_index_or (slice_set ups lane true) k false || list_any (λ (d : Listed). eqb d.lane k) listed') (range_with_len 0 (length (slice_set ups lane true))) ≡ map (λ k. slice_index_or ups k false || list_any (λ (d : Listed). eqb d.lane k) listed) (range_with_len 0 (length ups))
    flags = ap (λ (n : ℕ). map (λ k. slice_index_or (slice_set ups lane true) k false || list_any (λ (d : Listed). eqb d.lane k) listed') (range_with_len 0 n)) (length-set ups lane true)
        ∙ map_same (λ k. slice_index_or (slice_set ups lane true) k false || list_any (λ (d : Listed). eqb d.lane k) listed') (λ k. slice_index_or ups k false || list_any (λ (d : Listed). eqb d.lane k) listed) (range_with_len 0 (length ups)) flag

-- a listed record's lane is one of them
pub lane_here : (listed : List Listed) (k : ℕ) (x : Listed) → slice_get listed k ≡ Some x → list_any (λ (d : Listed). eqb d.lane x.lane) listed ≡ true
lane_here listed k x is = any_member (λ (d : Listed). eqb d.lane x.lane) listed x (member_of listed x k is) (eq-eqb x.lane x.lane refl)

-- each listed record keeps a block
pub all_keep : (es : List Indexed) → IsIndex es → AllByRecursion (λ (d : Listed). keeps_a_block d ≡ true) (listed_in es)
all_keep es index = all_mapped (λ (d : Listed). keeps_a_block d ≡ true) (λ (e : Indexed). e.listed) es (all_map (λ (e : Indexed). IsEntry (listed_in es) e.listed) (λ (e : Indexed). keeps_a_block e.listed ≡ true) (λ e is. is.keeps) es index.each)

-- other lanes where a record gave up blocks
pub others_given : (listed : List Listed) (place : ℕ) (x y : Listed) → slice_get listed place ≡ Some x → y.lane ≡ x.lane → AllByRecursion (λ (d : Listed). keeps_a_block d ≡ true) listed
    → (k : ℕ) → k ≢ x.lane → list_any (λ (d : Listed). eqb d.lane k) (filter keeps_a_block (slice_set listed place y)) ≡ list_any (λ (d : Listed). eqb d.lane k) listed
others_given listed place x y is same all k other = any_given (λ (d : Listed). eqb d.lane k) listed place x y is (ne_eqb x.lane k (λ e. other (sym e))) (ne_eqb y.lane k (λ e. other (sym e ∙ same))) all

-- and where its blocks became homed
pub others_homed : (listed : List Listed) (place : ℕ) (x y : Listed) → slice_get listed place ≡ Some x → y.lane ≡ x.lane
    → (k : ℕ) → list_any (λ (d : Listed). eqb d.lane k) (slice_set listed place y) ≡ list_any (λ (d : Listed). eqb d.lane k) listed
others_homed listed place x y is same k = any_set (λ (d : Listed). eqb d.lane k) listed place x y is (ap (λ (l : ℕ). eqb l k) same)

-- ---- nothing is left

least_covers : (x : Indexed) (es : List Indexed) → AllByRecursion (λ w. x.listed.version < w) (map (λ (d : Indexed). d.listed.version) es) → AllByRecursion (λ (c : Cover). x.listed.version ≤ c.version) (listed_covers (listed_in es))
least_covers x [] all = tt
least_covers x (y ∷ es) all = ((let lt : x.listed.version < y.listed.version = all.0 in omega arith), least_covers x es all.1)

-- where nothing may go and nothing is due there is no record
pub none_left : (es : List Indexed) → IsIndex es → find (λ e. has_going (listed_in es) e.listed) es ≡ None → find (λ e. has_due (listed_in es) e.listed) es ≡ None → es ≡ []
none_left [] index no_going no_due = refl
none_left (x ∷ es) index no_going no_due =
    let all = listed_in (x ∷ es) in
    let kept = any_found (cover_of x.listed).covers (block_numbers x.listed) index.each.0.keeps in
    absurd (⊎_elim
    (λ may. none-some x (sym no_going ∙ (λ i. cond (any_member (goes all x.listed) (block_numbers x.listed) kept.item kept.among may i) (Some x) (find (λ e. has_going all e.listed) es))))
    (λ due. none-some x (sym no_due ∙ (λ i. cond (any_member (is_due all x.listed) (block_numbers x.listed) kept.item kept.among (λ j. (kept.passes j && not (due.0 j)) && not (due.1 j)) i) (Some x) (find (λ e. has_due all e.listed) es))))
    (least_goes (listed_covers all) (is_homed x.listed) (cover_of x.listed) kept.item ((omega arith), least_covers x es index.rising.0) kept.passes))

-- ---- all loggers count as awake

-- a flag of a list of which all are set
pub all_awake : (flags : List Bool) (k : ℕ) → AllByRecursion (λ t. t ≡ true) flags → k < length flags → slice_index_or flags k false ≡ true
all_awake [] k all lt = absurd (omega arith)
all_awake (t ∷ flags) zero all lt = all.0
all_awake (t ∷ flags) (suc k) all lt = all_awake flags k all.1 (omega arith)

-- what is found where a further test passes for each
pub find_same : {X : Type 0} (p q : X → Bool) (xs : List X) → AllByRecursion (λ x. p x ≡ q x) xs → find p xs ≡ find q xs
find_same p q [] all = refl
find_same p q (x ∷ xs) all = (λ i. cond (all.0 i) (Some x) (find p xs)) ∙ (λ i. cond (q x) (Some x) (find_same p q xs all.1 i))
