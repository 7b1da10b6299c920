-- Masks of versions that rise.
use Rattle.std.proofs.Common.{◌≡◌, ⊎_elim, ◌<◌, ◌≤◌, ◌+◌, ◌-◌, ◌*◌, ◌/◌, ℕ, zero, suc, Bool, true, false, cond, not, ◌&&◌, List, [], ◌∷◌, ◌++◌, length, take, drop, set, get_or, bit_and, refl, sym, ap, ◌∙◌, subst, arith, eqb, ltb}
use Rattle.std.specs.List.{AllByRecursion, count_by}
use Rattle.std.specs.List.Sorted.{IsNonDecreasingBy}
use Rattle.std.proofs.lemmas.Bool.{cases_lt, cases_eq, eq-eqb, ne_eqb, eqb-true, lt-ltb, le-ltb, ltb-true}
use Rattle.std.proofs.lemmas.List.{get_or-drop, get_or-take, get_or_default, length-drop, length-take, take_more, drop_more}
use Rattle.std.proofs.lemmas.List.Sums.{sum_by-cons}
use Rattle.wol_model.specs.Index.{AreRising}
use Rattle.redirect_map.specs.Marks.{mask_in, AreApart}
use Rattle.redirect_map.proofs.Bits.{apart_zero}

-- ---- Versions that rise

above_get : (v : ℕ) (vs : List ℕ) (k d : ℕ) → AllByRecursion (λ w. v < w) vs → k < length vs → v < get_or vs k d
above_get v [] k d above within = absurd (omega arith)
above_get v (w ∷ ws) zero d above within = above.0
above_get v (w ∷ ws) (suc k) d above within = above_get v ws k d above.1 (omega arith)

strictly : (vs : List ℕ) (i j d : ℕ) → AreRising vs → i < j → j < length vs → get_or vs i d < get_or vs j d
strictly [] i j d rising order within = absurd (omega arith)
strictly (v ∷ vs) i zero d rising order within = absurd (omega arith)
strictly (v ∷ vs) zero (suc j) d rising order within = above_get v vs j d rising.0 (omega arith)
strictly (v ∷ vs) (suc i) (suc j) d rising order within = strictly vs i j d rising.1 (omega arith) (omega arith)

pub in_order : (vs : List ℕ) → AreRising vs → IsNonDecreasingBy (λ (v : ℕ). v) vs
in_order vs rising i j d order within = ⊎_elim
    (λ less. let h : get_or vs i d < get_or vs j d = strictly vs i j d rising less within in omega arith)
    (λ more. let e : i ≡ j = omega arith in subst (λ (k : ℕ). get_or vs i d ≤ get_or vs k d) e (omega arith))
    (cases_lt i j)

above_pushed : (v : ℕ) (vs : List ℕ) (p w : ℕ) → AllByRecursion (λ x. v < x) vs → v < w → AllByRecursion (λ x. v < x) (take p vs ++ w ∷ [])
above_pushed v vs zero w above less = (less, tt)
above_pushed v [] (suc p) w above less = (less, tt)
above_pushed v (x ∷ xs) (suc p) w above less = (above.0, above_pushed v xs p w above.1 less)

pub rising_pushed : (vs : List ℕ) (p v : ℕ) → AreRising vs → ((k : ℕ) → k < p → get_or vs k 0 < v) → AreRising (take p vs ++ v ∷ [])
rising_pushed vs zero v rising low = (tt, tt)
rising_pushed [] (suc p) v rising low = (tt, tt)
rising_pushed (x ∷ xs) (suc p) v rising low = (above_pushed x xs p v rising.0 (low 0 (omega arith)), rising_pushed xs p v rising.1 (λ k less. low (suc k) (omega arith)))

-- ---- The mask of a version

-- it is one of the list, or 0
pub by_place : (vs ms : List ℕ) (w : ℕ) (P : ℕ → Type 0) → P 0 → ((k : ℕ) → k < length vs → get_or vs k 0 ≡ w → P (get_or ms k 0)) → P (mask_in vs ms w)
by_place [] ms w P none each = none
by_place (v ∷ vs) [] w P none each = none
by_place (v ∷ vs) (m ∷ ms) w P none each = at (eqb v w) refl (by_place vs ms w P none (λ k within same. each (suc k) (omega arith) same))
  where
    at : (t : Bool) → eqb v w ≡ t → P (mask_in vs ms w) → P (cond t m (mask_in vs ms w))
    at true is rest = each 0 (omega arith) (eqb-true v w is)
    at false is rest = rest

pub mask_none : (vs ms : List ℕ) (w : ℕ) → ((k : ℕ) → k < length vs → get_or vs k 0 ≡ w → ⊥) → mask_in vs ms w ≡ 0
mask_none vs ms w none = by_place vs ms w (λ m. m ≡ 0) refl (λ k within same. absurd (none k within same))

pub mask_there : (vs ms : List ℕ) (k w : ℕ) → AreRising vs → k < length vs → get_or vs k 0 ≡ w → mask_in vs ms w ≡ get_or ms k 0
mask_there [] ms k w rising within same = absurd (omega arith)
mask_there (v ∷ vs) [] k w rising within same = refl
mask_there (v ∷ vs) (m ∷ ms) zero w rising within same = ap (λ (t : Bool). cond t m (mask_in vs ms w)) (eq-eqb v w same)
mask_there (v ∷ vs) (m ∷ ms) (suc k) w rising within same =
    let less : v < get_or vs k 0 = above_get v vs k 0 rising.0 (omega arith) in
    ap (λ (t : Bool). cond t m (mask_in vs ms w)) (ne_eqb v w (λ e. absurd (omega arith))) ∙ mask_there vs ms k w rising.1 (omega arith) same

-- one mask in place of another
pub mask_set : (vs ms : List ℕ) (k m w : ℕ) → AreRising vs → k < length vs → k < length ms → mask_in vs (set ms k m) w ≡ cond (eqb w (get_or vs k 0)) m (mask_in vs ms w)
mask_set [] ms k m w rising within fits = absurd (omega arith)
mask_set (v ∷ vs) [] k m w rising within fits = absurd (omega arith)
mask_set (v ∷ vs) (n ∷ ms) zero m w rising within fits = ⊎_elim
    (λ same. rw (eq-eqb v w same, eq-eqb w v (sym same)) refl)
    (λ other. rw (ne_eqb v w other, ne_eqb w v (λ e. other (sym e))) refl)
    (cases_eq v w)
mask_set (v ∷ vs) (n ∷ ms) (suc k) m w rising within fits =
    let rest : mask_in vs (set ms k m) w ≡ cond (eqb w (get_or vs k 0)) m (mask_in vs ms w) = mask_set vs ms k m w rising.1 (omega arith) (omega arith) in
    let less : v < get_or vs k 0 = above_get v vs k 0 rising.0 (omega arith) in
    ⊎_elim
    (λ same. let apart : eqb w (get_or vs k 0) ≡ false = ne_eqb w (get_or vs k 0) (λ e. absurd (omega arith)) in rw (eq-eqb v w same, apart) refl)
    (λ other. rw (ne_eqb v w other) rest)
    (cases_eq v w)

-- a further version
pub mask_pushed : (vs ms : List ℕ) (p v m w : ℕ) → p ≤ length vs → p < length ms → ((k : ℕ) → k < p → get_or vs k 0 < v) → ((k : ℕ) → p ≤ k → k < length vs → v ≤ get_or vs k 0)
    → mask_in (take p vs ++ v ∷ []) (set ms p m) w ≡ cond (eqb w v) m (cond (ltb w v) (mask_in vs ms w) 0)
mask_pushed vs [] p v m w place fits low high = absurd (omega arith)
mask_pushed vs (n ∷ ms) zero v m w place fits low high = ⊎_elim
    (λ same. rw (eq-eqb v w same, eq-eqb w v (sym same)) refl)
    (λ other. rw (ne_eqb v w other, ne_eqb w v (λ e. other (sym e))) (rest (ltb w v) refl))
    (cases_eq v w)
  where
    rest : (t : Bool) → ltb w v ≡ t → 0 ≡ cond t (mask_in vs (n ∷ ms) w) 0
    rest false is = refl
    rest true is = sym (mask_none vs (n ∷ ms) w (λ k within same. let h : v ≤ get_or vs k 0 = high k (omega arith) within in let less : w < v = ltb-true w v is in absurd (omega arith)))
mask_pushed [] (n ∷ ms) (suc p) v m w place fits low high = absurd (omega arith)
mask_pushed (x ∷ xs) (n ∷ ms) (suc p) v m w place fits low high =
    let rest : mask_in (take p xs ++ v ∷ []) (set ms p m) w ≡ cond (eqb w v) m (cond (ltb w v) (mask_in xs ms w) 0) = mask_pushed xs ms p v m w (omega arith) (omega arith) (λ k less. low (suc k) (omega arith)) (λ k from within. high (suc k) (omega arith) (omega arith)) in
    let less : x < v = low 0 (omega arith) in
    ⊎_elim
    (λ same. let apart : eqb w v ≡ false = ne_eqb w v (λ e. absurd (omega arith)) in let before : ltb w v ≡ true = lt-ltb w v (omega arith) in rw (eq-eqb x w same, apart, before) refl)
    (λ other. rw (ne_eqb x w other) rest)
    (cases_eq x w)

-- ---- The search

-- the versions from one on before another have no bit of the mask that is wanted, where none of these places has
pub none_wanted : (vs ms : List ℕ) (from wanted q p w : ℕ) → AreRising vs → ((k : ℕ) → k < q → get_or vs k 0 < from) → ((k : ℕ) → q ≤ k → k < p → AreApart (get_or ms k 0) wanted)
    → from ≤ w → (p < length vs → w < get_or vs p 0) → AreApart (mask_in vs ms w) wanted
none_wanted vs ms from wanted q p w rising low apart order before = by_place vs ms w (λ m. AreApart m wanted) (apart_zero wanted) (λ k within same. ⊎_elim
    (λ less. let h : get_or vs k 0 < from = low k less in absurd (omega arith))
    (λ more. ⊎_elim
    (λ less. apart k more less)
    (λ behind. let h : w < get_or vs p 0 = before (omega arith) in let g : get_or vs p 0 ≤ get_or vs k 0 = in_order vs rising p k 0 behind within in absurd (omega arith))
    (cases_lt k p))
    (cases_lt k q))

-- a version that isn't at the place between lesser ones and others is nowhere
pub not_there : (vs : List ℕ) (p v : ℕ) → AreRising vs → ((k : ℕ) → k < p → get_or vs k 0 < v) → ((k : ℕ) → p ≤ k → k < length vs → v ≤ get_or vs k 0) → (p < length vs → get_or vs p 0 ≡ v → ⊥)
    → (k : ℕ) → k < length vs → get_or vs k 0 ≡ v → ⊥
not_there vs p v rising low high other k within same = ⊎_elim
    (λ less. let h : get_or vs k 0 < v = low k less in absurd (omega arith))
    (λ from. ⊎_elim
    (λ later. let h : get_or vs p 0 < get_or vs k 0 = strictly vs p k 0 rising later within in let g : v ≤ get_or vs p 0 = high p (omega arith) (omega arith) in absurd (omega arith))
    (λ here. let e : k ≡ p = omega arith in other (omega arith) (subst (λ (n : ℕ). get_or vs n 0 ≡ v) e same))
    (cases_lt p k))
    (cases_lt k p)

-- ---- The masks are the second half of the nodes

pub read_mask : (vs nodes : List ℕ) (size k v x : ℕ) → AreRising vs → length vs ≤ length nodes / 2 → length nodes ≡ 2 * (length nodes / 2) → size ≡ length nodes → k < length vs → get_or vs k 0 ≡ v
    → x ≡ get_or nodes (size / 2 + k) x → x ≡ mask_in vs (drop (length nodes / 2) nodes) v
read_mask vs nodes size k v x rising fits even whole within same is =
    let half : size / 2 + k ≡ length nodes / 2 + k = omega arith in
    is ∙ ap (λ (n : ℕ). get_or nodes n x) half ∙ get_or_default nodes (length nodes / 2 + k) x 0 (omega arith) ∙ sym (get_or-drop (length nodes / 2) nodes k 0) ∙ sym (mask_there vs (drop (length nodes / 2) nodes) k v rising within same)

pub set_is : (vs nodes new : List ℕ) (k m version v : ℕ) → AreRising vs → length vs ≤ length nodes / 2 → length nodes ≡ 2 * (length nodes / 2) → k < length vs → get_or vs k 0 ≡ version → length new ≡ length nodes
    → drop (length nodes / 2) new ≡ set (drop (length nodes / 2) nodes) k m → (mask_in vs (drop (length nodes / 2) nodes) version ≡ 0 → ⊥)
    → mask_in vs (drop (length new / 2) new) v ≡ cond (eqb v version && not (eqb (mask_in vs (drop (length nodes / 2) nodes) v) 0)) m (mask_in vs (drop (length nodes / 2) nodes) v)
set_is vs nodes new k m version v rising fits even within same size leaves there =
    ap (λ (n : ℕ). mask_in vs (drop (n / 2) new) v) size ∙ ap (λ (ms : List ℕ). mask_in vs ms v) leaves ∙ mask_set vs (drop (length nodes / 2) nodes) k m v rising within (omega (arith, length-drop (length nodes / 2) nodes))
    ∙ ap (λ (t : Bool). cond t m (mask_in vs (drop (length nodes / 2) nodes) v)) test
  where
    test : eqb v (get_or vs k 0) ≡ (eqb v version && not (eqb (mask_in vs (drop (length nodes / 2) nodes) v) 0))
    test = ⊎_elim
        (λ here. rw (same, eq-eqb v version here, ne_eqb (mask_in vs (drop (length nodes / 2) nodes) v) 0 (λ none. there (ap (λ (n : ℕ). mask_in vs (drop (length nodes / 2) nodes) n) (sym here) ∙ none))) refl)
        (λ apart. rw (same, ne_eqb v version apart) refl)
        (cases_eq v version)

pub pushed_is : (vs nodes all new : List ℕ) (p m version v : ℕ) → length vs < length nodes / 2 → length nodes ≡ 2 * (length nodes / 2) → p ≤ length vs → ((k : ℕ) → k < p → get_or vs k 0 < version) → ((k : ℕ) → p ≤ k → k < length vs → version ≤ get_or vs k 0)
    → all ≡ take p vs ++ version ∷ [] → length new ≡ length nodes → drop (length nodes / 2) new ≡ set (drop (length nodes / 2) nodes) p m
    → mask_in all (drop (length new / 2) new) v ≡ cond (eqb v version) m (cond (ltb v version) (mask_in vs (drop (length nodes / 2) nodes) v) 0)
pushed_is vs nodes all new p m version v room even place low high is size leaves =
    ap (λ (n : ℕ). mask_in all (drop (n / 2) new) v) size ∙ (λ i. mask_in (is i) (leaves i) v)
    ∙ mask_pushed vs (drop (length nodes / 2) nodes) p version m v place (omega (arith, length-drop (length nodes / 2) nodes)) low high

-- ---- What the search found

pub found_is : (vs nodes : List ℕ) (size leaf q x wanted from : ℕ) → AreRising vs → length vs ≤ length nodes / 2 → length nodes ≡ 2 * (length nodes / 2) → size ≡ length nodes / 2 → q ≤ length vs
    → ((k : ℕ) → q ≤ k → k < length vs → from ≤ get_or vs k 0) → (size + q ≤ length nodes → size + q ≤ leaf) → (leaf < length nodes → bit_and (get_or nodes leaf 0) wanted ≡ 0 → ⊥) → leaf - size < length vs → x ≡ get_or vs (leaf - size) x
    → (from ≤ x) × (bit_and (mask_in vs (drop (length nodes / 2) nodes) x) wanted ≡ 0 → ⊥)
found_is vs nodes size leaf q x wanted from rising fits even half place high start some within is =
    let begun : size + q ≤ leaf = start (omega arith) in
    let here : get_or vs (leaf - size) 0 ≡ x = get_or_default vs (leaf - size) 0 x within ∙ sym is in
    let low : from ≤ get_or vs (leaf - size) 0 = high (leaf - size) (omega arith) within in
    let node : length nodes / 2 + (leaf - size) ≡ leaf = omega arith in
    let mask : mask_in vs (drop (length nodes / 2) nodes) x ≡ get_or nodes leaf 0 = mask_there vs (drop (length nodes / 2) nodes) (leaf - size) x rising within here ∙ get_or-drop (length nodes / 2) nodes (leaf - size) 0 ∙ ap (λ (n : ℕ). get_or nodes n 0) node in
    (omega arith, λ none. some (omega arith) (ap (λ (m : ℕ). bit_and m wanted) (sym mask) ∙ none))

pub least_is : (vs nodes : List ℕ) (size leaf q wanted from w : ℕ) → AreRising vs → size ≡ length nodes / 2
    → ((k : ℕ) → k < q → get_or vs k 0 < from) → ((n : ℕ) → size + q ≤ n → n < leaf → AreApart (get_or nodes n 0) wanted)
    → from ≤ w → (leaf - size < length vs → w < get_or vs (leaf - size) 0) → AreApart (mask_in vs (drop (length nodes / 2) nodes) w) wanted
least_is vs nodes size leaf q wanted from w rising half low apart order before = none_wanted vs (drop (length nodes / 2) nodes) from wanted q (leaf - size) w rising low
    (λ k start less. let e : get_or (drop (length nodes / 2) nodes) k 0 ≡ get_or nodes (size + k) 0 = get_or-drop (length nodes / 2) nodes k 0 ∙ ap (λ (n : ℕ). get_or nodes (n + k) 0) (sym half) in
    subst (λ (m : ℕ). AreApart m wanted) (sym e) (apart (size + k) (omega arith) (omega arith))) order before

pub lesser_there : (vs : List ℕ) (p x w : ℕ) → x ≡ get_or vs p x → w < x → p < length vs → w < get_or vs p 0
lesser_there vs p x w is less within = let e : get_or vs p 0 ≡ x = get_or_default vs p 0 x within ∙ sym is in omega arith

-- ---- Masks one by one

more_masks : (vs ms : List ℕ) (k v m w : ℕ) → k ≤ length vs → k ≤ length ms → ((j : ℕ) → j < k → get_or vs j 0 < v)
    → mask_in (take k vs ++ v ∷ []) (take k ms ++ m ∷ []) w ≡ cond (eqb w v) m (mask_in (take k vs) (take k ms) w)
more_masks vs ms zero v m w a b low = ⊎_elim
    (λ same. rw (eq-eqb v w same, eq-eqb w v (sym same)) refl)
    (λ other. rw (ne_eqb v w other, ne_eqb w v (λ e. other (sym e))) refl)
    (cases_eq v w)
more_masks [] ms (suc k) v m w a b low = absurd (omega arith)
more_masks (x ∷ xs) [] (suc k) v m w a b low = absurd (omega arith)
more_masks (x ∷ xs) (n ∷ ns) (suc k) v m w a b low =
    let rest : mask_in (take k xs ++ v ∷ []) (take k ns ++ m ∷ []) w ≡ cond (eqb w v) m (mask_in (take k xs) (take k ns) w) = more_masks xs ns k v m w (omega arith) (omega arith) (λ j less. low (suc j) (omega arith)) in
    let less : x < v = low 0 (omega arith) in
    ⊎_elim
    (λ same. let apart : eqb w v ≡ false = ne_eqb w v (λ e. absurd (omega arith)) in rw (eq-eqb x w same, apart) refl)
    (λ other. rw (ne_eqb x w other) rest)
    (cases_eq x w)

-- from the version at a place on the first ones have no mask
none_yet : (vs ms : List ℕ) (k w : ℕ) → AreRising vs → k < length vs → get_or vs k 0 ≤ w → mask_in (take k vs) (take k ms) w ≡ 0
none_yet vs ms k w rising within order = mask_none (take k vs) (take k ms) w (λ j inside same.
    let size : j < k = omega (arith, length-take k vs) in
    let less : get_or vs j 0 < get_or vs k 0 = strictly vs j k 0 rising size within in
    let here : get_or vs j 0 ≡ w = sym (get_or-take k vs j 0 size) ∙ same in
    absurd (omega arith))

next_masks : (vs ms : List ℕ) (k w : ℕ) → k < length vs → k < length ms → AreRising vs → mask_in (take (k + 1) vs) (take (k + 1) ms) w ≡ cond (eqb w (get_or vs k 0)) (get_or ms k 0) (mask_in (take k vs) (take k ms) w)
next_masks vs ms k w a b rising = (λ i. mask_in (take_more vs k 0 a i) (take_more ms k 0 b i) w) ∙ more_masks vs ms k (get_or vs k 0) (get_or ms k 0) w (omega arith) (omega arith) (λ j less. strictly vs j k 0 rising less a)

pub copied_more : (vs ms : List ℕ) (k w old new : ℕ) → k < length vs → k < length ms → AreRising vs → old ≡ mask_in (take k vs) (take k ms) w
    → new ≡ cond (eqb w (get_or vs k 0)) (get_or ms k 0) (cond (ltb w (get_or vs k 0)) old 0) → new ≡ mask_in (take (k + 1) vs) (take (k + 1) ms) w
copied_more vs ms k w old new a b rising before is = is ∙ ap (cond (eqb w (get_or vs k 0)) (get_or ms k 0)) (⊎_elim
    (λ less. ap (λ (t : Bool). cond t old 0) (lt-ltb w (get_or vs k 0) less) ∙ before)
    (λ more. ap (λ (t : Bool). cond t old 0) (le-ltb w (get_or vs k 0) more) ∙ sym (none_yet vs ms k w rising a more))
    (cases_lt w (get_or vs k 0))) ∙ sym (next_masks vs ms k w a b rising)

pub copied_none : (vs ms : List ℕ) (k w old : ℕ) → k < length vs → k < length ms → AreRising vs → old ≡ mask_in (take k vs) (take k ms) w → get_or ms k 0 ≡ 0 → old ≡ mask_in (take (k + 1) vs) (take (k + 1) ms) w
copied_none vs ms k w old a b rising before none = before ∙ same ∙ sym (next_masks vs ms k w a b rising)
  where
    same : mask_in (take k vs) (take k ms) w ≡ cond (eqb w (get_or vs k 0)) (get_or ms k 0) (mask_in (take k vs) (take k ms) w)
    same = ⊎_elim
        (λ here. none_yet vs ms k w rising a (omega arith) ∙ sym none ∙ sym (ap (λ (t : Bool). cond t (get_or ms k 0) (mask_in (take k vs) (take k ms) w)) (eq-eqb w (get_or vs k 0) here)))
        (λ apart. sym (ap (λ (t : Bool). cond t (get_or ms k 0) (mask_in (take k vs) (take k ms) w)) (ne_eqb w (get_or vs k 0) apart)))
        (cases_eq w (get_or vs k 0))

counted : (m : ℕ) (ms : List ℕ) (t : Bool) → eqb m 0 ≡ t → count_by (λ (n : ℕ). not (eqb n 0)) (m ∷ ms) ≡ cond (not t) 1 0 + count_by (λ (n : ℕ). not (eqb n 0)) ms
counted m ms t is = sum_by-cons (λ (n : ℕ). cond (not (eqb n 0)) 1 0) m ms ∙ ap (λ (b : Bool). cond (not b) 1 0 + count_by (λ (n : ℕ). not (eqb n 0)) ms) is

pub count_some : (ms : List ℕ) (k : ℕ) → k < length ms → (get_or ms k 0 ≡ 0 → ⊥) → count_by (λ (m : ℕ). not (eqb m 0)) (drop k ms) ≡ count_by (λ (m : ℕ). not (eqb m 0)) (drop (k + 1) ms) + 1
count_some ms k within some =
    let e : count_by (λ (m : ℕ). not (eqb m 0)) (drop k ms) ≡ 1 + count_by (λ (m : ℕ). not (eqb m 0)) (drop (k + 1) ms) = ap (count_by (λ (m : ℕ). not (eqb m 0))) (drop_more ms k 0 within) ∙ counted (get_or ms k 0) (drop (k + 1) ms) false (ne_eqb (get_or ms k 0) 0 some) in
    omega arith

pub count_none : (ms : List ℕ) (k : ℕ) → k < length ms → get_or ms k 0 ≡ 0 → count_by (λ (m : ℕ). not (eqb m 0)) (drop k ms) ≡ count_by (λ (m : ℕ). not (eqb m 0)) (drop (k + 1) ms)
count_none ms k within none =
    let e : count_by (λ (m : ℕ). not (eqb m 0)) (drop k ms) ≡ 0 + count_by (λ (m : ℕ). not (eqb m 0)) (drop (k + 1) ms) = ap (count_by (λ (m : ℕ). not (eqb m 0))) (drop_more ms k 0 within) ∙ counted (get_or ms k 0) (drop (k + 1) ms) true (eq-eqb (get_or ms k 0) 0 none) in
    omega arith

-- masks behind those of the versions don't count
pub mask_take : (vs ms : List ℕ) (w : ℕ) → mask_in vs (take (length vs) ms) w ≡ mask_in vs ms w
mask_take [] ms w = refl
mask_take (v ∷ vs) [] w = refl
mask_take (v ∷ vs) (m ∷ ms) w = ap (cond (eqb v w) m) (mask_take vs ms w)

pub mask_slice : (vs nodes : List ℕ) (size count w : ℕ) → size ≡ length nodes → count ≡ length vs → mask_in vs (take (size / 2 + count - size / 2) (drop (size / 2) nodes)) w ≡ mask_in vs (drop (length nodes / 2) nodes) w
mask_slice vs nodes size count w whole all =
    let half : size / 2 ≡ length nodes / 2 = omega arith in
    let few : size / 2 + count - size / 2 ≡ length vs = omega arith in
    (λ i. mask_in vs (take (few i) (drop (half i) nodes)) w) ∙ mask_take vs (drop (length nodes / 2) nodes) w
