-- Counts over ranges of blocks, marks inside a range, and what records have left.
use Rattle.std.proofs.Common.{◌≡◌, ◌⊎◌, inl, inr, ⊎_elim, ◌<◌, ◌≤◌, ◌+◌, ◌-◌, ℕ, zero, suc, Bool, true, false, cond, not, ◌&&◌, ◌||◌, List, [], ◌∷◌, ◌++◌, length, refl, sym, ap, ◌∙◌, arith, leb, get_or}
use Rattle.std.specs.Prelude.{sum_by}
use Rattle.std.specs.List.{count_by, range_with_len}
use Rattle.std.proofs.lemmas.Bool.{leb-true, le-leb, cases_lt}
use Rattle.std.proofs.lemmas.List.{get_or_past}
use Rattle.std.proofs.lemmas.List.Sums.{sum_by-cons, sum_by-append}
use Rattle.wol_model.specs.Extents.{Cover, marked, remarked, has_newer}
use Rattle.wol_model.specs.Index.{Listed, cover_of, is_homed, listed_covers, block_numbers, left}

pub both : (a b : Bool) → (a && b) ≡ true → (a ≡ true) × (b ≡ true)
both true b e = (refl, e)
both false b e = cc

pub either : (a b : Bool) → (a || b) ≡ true → (a ≡ true) ⊎ (b ≡ true)
either true b e = inl refl
either false b e = inr e

pub not_false : (t : Bool) → t ≡ false → not t ≡ true
not_false true e = cc
not_false false e = refl

pub not_true : (t : Bool) → not t ≡ true → t ≡ false
not_true true e = cc
not_true false e = refl

pub true_or : (a b : Bool) → b ≡ true → (a || b) ≡ true
true_or true b e = refl
true_or false b e = e

-- ---- counts

abbrev pub one : Bool → ℕ
one t = cond t 1 0

pub counted : (p : ℕ → Bool) (b : ℕ) (bs : List ℕ) → count_by p (b ∷ bs) ≡ cond (p b) 1 0 + count_by p bs
counted p b bs = sum_by-cons (λ (c : ℕ). cond (p c) 1 0) b bs

pub one_less : (s t : Bool) → (s ≡ true → t ≡ true) → cond s 1 0 ≤ cond t 1 0
one_less true true to = omega arith
one_less true false to = absurd (let no : false ≡ true = to refl in cc)
one_less false true to = omega arith
one_less false false to = omega arith

abbrev pub Implies : (p q : ℕ → Bool) → Type 0
Implies p q = (b : ℕ) → p b ≡ true → q b ≡ true

pub count_less : (p q : ℕ → Bool) → Implies p q → (bs : List ℕ) → count_by p bs ≤ count_by q bs
count_less p q to [] = omega arith
count_less p q to (b ∷ bs) = omega (arith, counted p b bs, counted q b bs, one_less (p b) (q b) (to b), count_less p q to bs)

-- strictly, where one number is counted no more
pub count_lower : (p q : ℕ → Bool) (at n b : ℕ) → Implies p q → at ≤ b → b < at + n → q b ≡ true → p b ≡ false → count_by p (range_with_len at n) < count_by q (range_with_len at n)
count_lower p q at zero b to le lt is_q is_p = absurd (omega arith)
count_lower p q at (suc n) b to le lt is_q is_p = ⊎_elim
    (λ later. omega (arith, counted p at (range_with_len (at + 1) n), counted q at (range_with_len (at + 1) n), one_less (p at) (q at) (to at), count_lower p q (at + 1) n b to (omega arith) (omega arith) is_q is_p))
    (λ here.
    let same : at ≡ b = omega arith in
    let is_p_at : one (p at) ≡ one false = ap (λ (k : ℕ). one (p k)) same ∙ ap one is_p in
    let is_q_at : one (q at) ≡ one true = ap (λ (k : ℕ). one (q k)) same ∙ ap one is_q in
    omega (arith, counted p at (range_with_len (at + 1) n), counted q at (range_with_len (at + 1) n), is_p_at, is_q_at, count_less p q to (range_with_len (at + 1) n)))
    (cases_lt at b)

-- ---- marks

-- a marked block lies in the range of the marks
pub marked_within : (first : ℕ) (marks : List Bool) (b : ℕ) → marked first marks b ≡ true → (first ≤ b) × (b < first + length marks)
marked_within first marks b is =
    let parts = both (leb first b) (get_or marks (b - first) false) is in
    let le : first ≤ b = leb-true first b parts.0 in
    (le, inside (cases_lt (b - first) (length marks)) parts.1 le)
  where
    inside : (b - first < length marks) ⊎ (length marks ≤ b - first) → get_or marks (b - first) false ≡ true → first ≤ b → b < first + length marks
    inside (inl lt) is le = omega arith
    inside (inr past) is le = absurd (let no : false ≡ true = sym (get_or_past marks (b - first) false past) ∙ is in cc)

-- a block's new mark inside the range
pub set_within : (k : ℕ) (marks : List Bool) (f : ℕ → Bool → Bool) (i : ℕ) → i < length marks → get_or (remarked k marks f) i false ≡ f (k + i) (get_or marks i false)
set_within k [] f i lt = absurd (omega arith)
set_within k (m ∷ marks) f zero lt = let e : k + 0 ≡ k = omega arith in rw e refl
set_within k (m ∷ marks) f (suc i) lt = let e : k + suc i ≡ k + 1 + i = omega arith in rw e (set_within (k + 1) marks f i (omega arith))

pub marked_set : (first : ℕ) (marks : List Bool) (f : ℕ → Bool → Bool) (b : ℕ) → first ≤ b → b < first + length marks → marked first (remarked first marks f) b ≡ f b (marked first marks b)
marked_set first marks f b le lt =
    let is : leb first b ≡ true = le-leb first b le in
    let e : first + (b - first) ≡ b = omega arith in
    (λ i. is i && get_or (remarked first marks f) (b - first) false) ∙ set_within first marks f (b - first) (omega arith)
    ∙ (λ i. f (e i) (sym is i && get_or marks (b - first) false))

pub length_remarked : (k : ℕ) (marks : List Bool) (f : ℕ → Bool → Bool) → length (remarked k marks f) ≡ length marks
length_remarked k [] f = refl
length_remarked k (m ∷ marks) f = ap suc (length_remarked (k + 1) marks f)

pub or_false_left : (a b : Bool) → (a || b) ≡ false → a ≡ false
or_false_left true b e = cc
or_false_left false b e = refl

-- ---- sums

-- what a record has left, by the covers of all
abbrev pub due_by : List Cover → Listed → ℕ → Bool
due_by cs e b = ((cover_of e).covers b && not (has_newer cs e.version b)) && not (is_homed e b)

abbrev pub left_by : List Cover → Listed → ℕ
left_by cs e = count_by (cover_of e).covers (block_numbers e) + count_by (due_by cs e) (block_numbers e)

pub left_is : (es : List Listed) → left es ≡ sum_by (left_by (listed_covers es)) es
left_is es = refl

pub around : (f : Listed → ℕ) (front : List Listed) (e : Listed) (back : List Listed) → sum_by f (front ++ e ∷ back) ≡ sum_by f front + (f e + sum_by f back)
around f front e back = sum_by-append f front (e ∷ back) ∙ ap (λ (n : ℕ). sum_by f front + n) (sum_by-cons f e back)
