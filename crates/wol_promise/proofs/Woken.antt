-- Looks after reads: of a run of blocks with one source, and of one range behind another.
use Rattle.std.proofs.Common.{◌≡◌, ◌≢◌, ◌⊎◌, inl, inr, ◌<◌, ◌≤◌, ◌+◌, ℕ, zero, suc, Bool, true, false, cond, not, ◌||◌, List, [], ◌∷◌, ◌++◌, map, length, get_or, set, Option, None, Some, refl, sym, ap, ◌∙◌, arith, eqb, ltb}
use Rattle.std.specs.Prelude.{slice_set, is_some}
use Rattle.std.specs.List.{list_any, count_by, range_with_len}
use Rattle.std.specs.Option.{option_map_or}
use Rattle.std.proofs.Math.Bool.{or-false, or-true, or_assoc, or_self}
use Rattle.std.proofs.Math.ListN.{length-set}
use Rattle.std.proofs.lemmas.List.{get_or-set_same, get_or-set_other}
use Rattle.std.proofs.lemmas.List.Folds.{list_any-append}
use Rattle.std.proofs.lemmas.List.Sums.{sum_by-append}
use Rattle.std.proofs.lemmas.List.FromFn.{get_or-map-range_with_len, length-map-range_with_len, fill_by_all}
use Rattle.std.proofs.lemmas.Bool.{eq-eqb, ne_eqb, cases_eq}
use Rattle.wol_model.specs.Extents.{Cover, newest, newer_of}
use Rattle.wol_model.specs.Index.{Listed, cover_of, is_covered}
use Rattle.wol_model.proofs.Counts.{counted, one}
use Rattle.wol_promise.specs.Policy.{Look, woken, has_newest_on}

-- ---- ranges

pub range_joined : (a n m : ℕ) → range_with_len a (n + m) ≡ range_with_len a n ++ range_with_len (a + n) m
range_joined a zero m = let e : 0 + m ≡ m = omega arith in let f : a + 0 ≡ a = omega arith in rw (e, f) refl
range_joined a (suc n) m =
    let e : suc n + m ≡ suc (n + m) = omega arith in
    let f : a + suc n ≡ a + 1 + n = omega arith in
    rw (e, f) (λ i. a ∷ range_joined (a + 1) n m i)

pub count_joined : (p : ℕ → Bool) (a n m : ℕ) → count_by p (range_with_len a (n + m)) ≡ count_by p (range_with_len a n) + count_by p (range_with_len (a + n) m)
count_joined p a n m = ap (count_by p) (range_joined a n m) ∙ sum_by-append (λ (b : ℕ). cond (p b) 1 0) (range_with_len a n) (range_with_len (a + n) m)

pub any_joined : (p : ℕ → Bool) (a n m : ℕ) → list_any p (range_with_len a (n + m)) ≡ (list_any p (range_with_len a n) || list_any p (range_with_len (a + n) m))
any_joined p a n m = ap (list_any p) (range_joined a n m) ∙ list_any-append p (range_with_len a n) (range_with_len (a + n) m)

pub any_same : (p : ℕ → Bool) (t : Bool) (a n : ℕ) → 1 ≤ n → ((b : ℕ) → a ≤ b → b < a + n → p b ≡ t) → list_any p (range_with_len a n) ≡ t
any_same p t a zero some same = absurd (omega arith)
any_same p t a (suc zero) some same = (λ i. same a (omega arith) (omega arith) i || false) ∙ or-false t
any_same p t a (suc (suc n)) some same =
    (λ i. same a (omega arith) (omega arith) i || any_same p t (a + 1) (suc n) (omega arith) (λ b le lt. same b (omega arith) (omega arith)) i) ∙ or_self t

pub count_all : (p : ℕ → Bool) (a n : ℕ) → ((b : ℕ) → a ≤ b → b < a + n → p b ≡ true) → count_by p (range_with_len a n) ≡ n
count_all p a zero same = refl
count_all p a (suc n) same =
    let here : one (p a) ≡ one true = ap one (same a (omega arith) (omega arith)) in
    omega (arith, counted p a (range_with_len (a + 1) n), here, count_all p (a + 1) n (λ b le lt. same b (omega arith) (omega arith)))

pub count_none : (p : ℕ → Bool) (a n : ℕ) → ((b : ℕ) → a ≤ b → b < a + n → p b ≡ false) → count_by p (range_with_len a n) ≡ 0
count_none p a zero same = refl
count_none p a (suc n) same =
    let here : one (p a) ≡ one false = ap one (same a (omega arith) (omega arith)) in
    omega (arith, counted p a (range_with_len (a + 1) n), here, count_none p (a + 1) n (λ b le lt. same b (omega arith) (omega arith)))

-- ---- covered blocks

module _ {X : Type 0} (cover : X → Cover) where
  pub some_newer : (x : X) (o : Option X) → is_some (newer_of cover x o) ≡ true
  some_newer x None = refl
  some_newer x (Some y) = elim (ltb (cover x).version (cover y).version) as (λ t. is_some (cond t (Some y) (Some x)) ≡ true) [ true ↦ refl | false ↦ refl ]

-- a block is covered where it has a newest record
pub covered_is : (es : List Listed) (b : ℕ) → is_covered es b ≡ is_some (newest cover_of es b)
covered_is [] b = refl
covered_is (e ∷ es) b = at ((cover_of e).covers b) (covered_is es b)
  where
    at : (t : Bool) → is_covered es b ≡ is_some (newest cover_of es b) → (t || is_covered es b) ≡ is_some (cond t (newer_of cover_of e (newest cover_of es b)) (newest cover_of es b))
    at true rest = sym (some_newer cover_of e (newest cover_of es b))
    at false rest = rest

-- ---- looks

-- nothing was read
pub woken_none : (l : Look) (first : ℕ) → woken l first 0 ≡ l
woken_none l first = λ i. record {
  home_up = or-false l.home_up i;
  ups = sym (fill_by_all (λ k. get_or l.ups k false || false) l.ups (length l.ups) false refl (λ k lt. sym (or-false (get_or l.ups k false)))) i;
  next = l.next;
  listed = l.listed;
  down = l.down;
}

-- one range behind another
pub woken_more : (l : Look) (first n m : ℕ) → woken (woken l first n) (first + n) m ≡ woken l first (n + m)
woken_more l first n m = λ i. record {
  home_up = (or_assoc l.home_up (list_any bare (range_with_len first n)) (list_any bare (range_with_len (first + n) m)) ∙ (λ j. l.home_up || sym (any_joined bare first n m) j)) i;
  ups = ups i;
  next = l.next;
  listed = l.listed;
  down = l.down;
}
  where
    bare : ℕ → Bool
    bare b = not (is_covered l.listed b)

    f : ℕ → Bool
    f k = get_or l.ups k false || list_any (has_newest_on l.listed k) (range_with_len first n)

    g : ℕ → Bool
    g k = get_or (map f (range_with_len 0 (length l.ups))) k false || list_any (has_newest_on l.listed k) (range_with_len (first + n) m)

    h : ℕ → Bool
    h k = get_or l.ups k false || list_any (has_newest_on l.listed k) (range_with_len first (n + m))

    count : ℕ
    count = length (map f (range_with_len 0 (length l.ups)))

    long : count ≡ length l.ups
    long = length-map-range_with_len f 0 (length l.ups)

    same : (k : ℕ) → k < length l.ups → g k ≡ h k
    same k lt = (λ i. get_or-map-range_with_len f 0 (length l.ups) k k false lt (omega arith) i || list_any (has_newest_on l.listed k) (range_with_len (first + n) m))
        ∙ or_assoc (get_or l.ups k false) (list_any (has_newest_on l.listed k) (range_with_len first n)) (list_any (has_newest_on l.listed k) (range_with_len (first + n) m))
        ∙ (λ i. get_or l.ups k false || sym (any_joined (has_newest_on l.listed k) first n m) i)

    ups : map g (range_with_len 0 count) ≡ map h (range_with_len 0 (length l.ups))
    ups = fill_by_all h (map g (range_with_len 0 count)) (length l.ups) false (length-map-range_with_len g 0 count ∙ long)
        (λ k lt. get_or-map-range_with_len g 0 count k k false (omega (arith, long)) (omega arith) ∙ same k lt)

-- ---- runs of blocks with one source

-- no record covers a block of the range
abbrev pub IsBareRun : List Listed → (first n : ℕ) → Type 0
IsBareRun es first n = (b : ℕ) → first ≤ b → b < first + n → newest cover_of es b ≡ None

-- the newest record of each block of the range is on this lane
abbrev pub IsLaneRun : List Listed → (lane first n : ℕ) → Type 0
IsLaneRun es lane first n = (b : ℕ) → first ≤ b → b < first + n → (e : Listed) × (newest cover_of es b ≡ Some e) × (e.lane ≡ lane)

module _ (es : List Listed) (first n : ℕ) (some : 1 ≤ n) where
  pub bare_reads_home : IsBareRun es first n → list_any (λ b. not (is_covered es b)) (range_with_len first n) ≡ true
  bare_reads_home bare = any_same (λ b. not (is_covered es b)) true first n some (λ b le lt. ap not (covered_is es b ∙ ap is_some (bare b le lt)))

  pub bare_reads_lane : IsBareRun es first n → (k : ℕ) → list_any (has_newest_on es k) (range_with_len first n) ≡ false
  bare_reads_lane bare k = any_same (has_newest_on es k) false first n some (λ b le lt. ap (λ (o : Option Listed). option_map_or (λ (e : Listed). eqb e.lane k) o false) (bare b le lt))

  pub log_reads_home : (lane : ℕ) → IsLaneRun es lane first n → list_any (λ b. not (is_covered es b)) (range_with_len first n) ≡ false
  log_reads_home lane run = any_same (λ b. not (is_covered es b)) false first n some (λ b le lt. ap not (covered_is es b ∙ ap is_some (run b le lt).1))

  pub log_reads_lane : (lane : ℕ) → IsLaneRun es lane first n → (k : ℕ) → list_any (has_newest_on es k) (range_with_len first n) ≡ eqb lane k
  log_reads_lane lane run k = any_same (has_newest_on es k) (eqb lane k) first n some
      (λ b le lt. ap (λ (o : Option Listed). option_map_or (λ (d : Listed). eqb d.lane k) o false) (run b le lt).1 ∙ ap (λ (j : ℕ). eqb j k) (run b le lt).2)

-- a run of blocks that no record covers
pub woken_home : (l : Look) (first n : ℕ) → 1 ≤ n → IsBareRun l.listed first n → woken l first n ≡ record l { home_up = true }
woken_home l first n some bare = λ i. record {
  home_up = ((λ j. l.home_up || bare_reads_home l.listed first n some bare j) ∙ or-true l.home_up) i;
  ups = sym (fill_by_all (λ k. get_or l.ups k false || list_any (has_newest_on l.listed k) (range_with_len first n)) l.ups (length l.ups) false refl
      (λ k lt. sym ((λ j. get_or l.ups k false || bare_reads_lane l.listed first n some bare k j) ∙ or-false (get_or l.ups k false)))) i;
  next = l.next;
  listed = l.listed;
  down = l.down;
}

-- a run of blocks of which a record on one lane is the newest
pub woken_log : (l : Look) (first n lane : ℕ) → 1 ≤ n → lane < length l.ups → IsLaneRun l.listed lane first n → woken l first n ≡ record l { ups = slice_set l.ups lane true }
woken_log l first n lane some within run = λ i. record {
  home_up = ((λ j. l.home_up || log_reads_home l.listed first n some lane run j) ∙ or-false l.home_up) i;
  ups = sym (fill_by_all up (slice_set l.ups lane true) (length l.ups) false (length-set l.ups lane true) (λ k lt. sym (same k (cases_eq k lane)))) i;
  next = l.next;
  listed = l.listed;
  down = l.down;
}
  where
    up : ℕ → Bool
    up k = get_or l.ups k false || list_any (has_newest_on l.listed k) (range_with_len first n)

    same : (k : ℕ) → (k ≡ lane) ⊎ (k ≢ lane) → up k ≡ get_or (set l.ups lane true) k false
    same k (inl here) = (λ i. get_or l.ups k false || (log_reads_lane l.listed first n some lane run k ∙ eq-eqb lane k (sym here)) i) ∙ or-true (get_or l.ups k false)
        ∙ sym (ap (λ (j : ℕ). get_or (set l.ups lane true) j false) here ∙ get_or-set_same l.ups lane true false within)
    same k (inr other) = (λ i. get_or l.ups k false || (log_reads_lane l.listed first n some lane run k ∙ ne_eqb lane k (λ is_k. other (sym is_k))) i) ∙ or-false (get_or l.ups k false)
        ∙ sym (get_or-set_other l.ups lane k true false other)
