-- The blocks that may go, and those that are due, by their bits.
use Rattle.std.proofs.Common.{◌≡◌, ◌⊎◌, inl, inr, ⊎_elim, ◌<◌, ◌≤◌, ◌+◌, ◌-◌, ◌^◌, ℕ, Bool, true, false, cond, not, ◌&&◌, ◌||◌, List, [], ◌∷◌, length, get_or, Option, None, Some, refl, sym, ap, ◌∙◌, arith, eqb, leb, bit_and}
use Rattle.std.specs.Prelude.{IfSome, ◌↔◌}
use Rattle.std.specs.Int.{bit_not, w128}
use Rattle.std.specs.List.{AllByRecursion, list_any, range_with_len}
use Rattle.std.proofs.lemmas.Nat.{and_le_l}
use Rattle.std.proofs.lemmas.Bool.{cases_lt, le-ltb, false≢true, and_parts, eq-eqb, ne_eqb, eqb-true, cases_eq}
use Rattle.std.proofs.lemmas.List.{get_or_past}
use Rattle.wol_model.specs.Log.{has_bit}
use Rattle.wol_model.specs.Extents.{marked, has_newer, has_older}
use Rattle.wol_model.specs.Index.{listed_in, Listed, Indexed, cover_of, listed_covers, is_homed, is_live, is_due, goes, block_numbers}
use Rattle.block_cells.specs.declared.record.Rec.{Rec}
use Rattle.block_cells.specs.Masks.{IsMask}
use Rattle.block_cells.proofs.Bits.{has_bit-without, has_bit-zero, some_bit}
use Rattle.block_cells.proofs.Meeting.{any_in_range, none_in_range}
use Rattle.block_cells.proofs.Marks.{marked-marks_of, in_mask-bit}
use Rattle.redirect_map.specs.Index.{entry_at, IsRecordOf}

-- a record's mask has the blocks that it covers
pub keep_is : (e : Indexed) (r : Rec) → IsRecordOf e r → IsMask e.listed.first (cover_of e.listed).covers r.keep
keep_is e r is i =
    sym (in_mask-bit e.listed.first r.keep i) ∙ sym (marked-marks_of e.listed.first r.count r.keep (e.listed.first + i) is.within)
    ∙ ap (λ (marks : List Bool). marked e.listed.first marks (e.listed.first + i)) is.keep

pub due_is : (es : List Indexed) (o : Option Indexed) (live homed : ℕ) → live < 2 ^ 128 → homed < 2 ^ 128
    → IfSome o (λ e. IsMask e.listed.first (is_live (listed_in es) e.listed) live) → IfSome o (λ e. IsMask e.listed.first (is_homed e.listed) homed)
    → IfSome o (λ e. IsMask e.listed.first (is_due (listed_in es) e.listed) (bit_and live (bit_not w128 homed)))
due_is es None live homed l h lives homes = tt
due_is es (Some e) live homed l h lives homes = λ i. has_bit-without live homed i l h ∙ (λ j. lives i j && not (homes i j))

-- ---- A record below all others

none_older : (es : List Indexed) (v b : ℕ) → AllByRecursion (λ d. v ≤ d.listed.version) es → has_older (listed_covers (listed_in es)) v b ≡ false
none_older [] v b all = refl
none_older (e ∷ es) v b all = λ i. (ap (λ (t : Bool). (cover_of e.listed).covers b && t) (le-ltb e.listed.version v all.0) ∙ none ((cover_of e.listed).covers b)) i || none_older es v b all.1 i
  where
    none : (t : Bool) → (t && false) ≡ false
    none true = refl
    none false = refl

left_over : (c n h o : Bool) → c ≡ true → o ≡ false → ((c && (n || (h && not o))) ≡ true) ⊎ (((c && not n) && not h) ≡ true)
left_over true true h o covers out = inl refl
left_over true false true true covers out = absurd (false≢true (sym out))
left_over true false true false covers out = inl refl
left_over true false false o covers out = inr refl
left_over false n h o covers out = absurd (false≢true covers)

pub least_is : (es : List Indexed) (o : Option Indexed) (version : ℕ) → IfSome o (λ e. e.listed.version ≡ version) → AllByRecursion (λ d. version ≤ d.listed.version) es
    → IfSome o (λ e. (b : ℕ) → (cover_of e.listed).covers b ≡ true → (goes (listed_in es) e.listed b ≡ true) ⊎ (is_due (listed_in es) e.listed b ≡ true))
least_is es None version is all = tt
least_is es (Some e) version is all = λ b covers.
    left_over ((cover_of e.listed).covers b) (has_newer (listed_covers (listed_in es)) e.listed.version b) (is_homed e.listed b) (has_older (listed_covers (listed_in es)) e.listed.version b) covers
    (ap (λ (v : ℕ). has_older (listed_covers (listed_in es)) v b) is ∙ none_older es version b all)

-- ---- Whether there is such a block

covers_within : (e : Listed) (i : ℕ) → (cover_of e).covers (e.first + i) ≡ true → i < length e.keep
covers_within e i covers =
    let parts = and_parts (leb e.first (e.first + i)) (get_or e.keep (e.first + i - e.first) false) covers in
    let same : e.first + i - e.first ≡ i = omega arith in
    ⊎_elim (λ less. less) (λ more. absurd (false≢true (sym (get_or_past e.keep i false more) ∙ ap (λ (k : ℕ). get_or e.keep k false) (sym same) ∙ parts.1))) (cases_lt i (length e.keep))

-- a mask of blocks that the record covers isn't 0 just where there is such a block
pub some_block : (e : Listed) (p : ℕ → Bool) (mask : ℕ) → mask < 2 ^ 128 → IsMask e.first p mask → ((b : ℕ) → p b ≡ true → (cover_of e).covers b ≡ true)
    → not (eqb mask 0) ≡ list_any p (range_with_len e.first (length e.keep))
some_block e p mask fits bits covered = ⊎_elim none some (cases_eq mask 0)
  where
    none : mask ≡ 0 → not (eqb mask 0) ≡ list_any p (range_with_len e.first (length e.keep))
    none empty = ap not (eq-eqb mask 0 empty) ∙ sym (none_in_range p e.first (length e.keep) (λ b from to.
        let same : e.first + (b - e.first) ≡ b = omega arith in
        ap p (sym same) ∙ sym (bits (b - e.first)) ∙ ap (λ (m : ℕ). has_bit m (b - e.first)) empty ∙ has_bit-zero (b - e.first)))

    some : (mask ≡ 0 → ⊥) → not (eqb mask 0) ≡ list_any p (range_with_len e.first (length e.keep))
    some full =
        let one = some_bit mask (omega arith) fits in
        let on : p (e.first + one.0) ≡ true = sym (bits one.0) ∙ one.1 in
        let inside = covers_within e one.0 (covered (e.first + one.0) on) in
        ap not (ne_eqb mask 0 full) ∙ sym (any_in_range p e.first (length e.keep) (e.first + one.0) (omega arith) (omega arith) on)

pub goes_covers : (es : List Listed) (e : Listed) (b : ℕ) → goes es e b ≡ true → (cover_of e).covers b ≡ true
goes_covers es e b on = (and_parts ((cover_of e).covers b) (has_newer (listed_covers es) e.version b || (is_homed e b && not (has_older (listed_covers es) e.version b))) on).0

pub due_covers : (es : List Listed) (e : Listed) (b : ℕ) → is_due es e b ≡ true → (cover_of e).covers b ≡ true
due_covers es e b on = (and_parts ((cover_of e).covers b) (not (has_newer (listed_covers es) e.version b)) (and_parts (is_live es e b) (not (is_homed e b)) on).0).0

-- the entry that is found has the version
pub version_is : (es : List Indexed) (version : ℕ) → IfSome (entry_at es version) (λ e. e.listed.version ≡ version)
version_is [] version = tt
version_is (x ∷ xs) version = at (eqb x.listed.version version) refl (version_is xs version)
  where
    at : (t : Bool) → eqb x.listed.version version ≡ t → IfSome (entry_at xs version) (λ e. e.listed.version ≡ version) → IfSome (cond t (Some x) (entry_at xs version)) (λ e. e.listed.version ≡ version)
    at true here rest = eqb-true x.listed.version version here
    at false here rest = rest

-- a mask is above 0 just where a block of the record has it
pub some_is : (o : Option Indexed) (p : Listed → ℕ → Bool) (mask : ℕ) → mask < 2 ^ 128 → ((e : Listed) (b : ℕ) → p e b ≡ true → (cover_of e).covers b ≡ true) → IfSome o (λ e. IsMask e.listed.first (p e.listed) mask)
    → IfSome o (λ e. (0 < mask) ↔ (list_any (p e.listed) (block_numbers e.listed) ≡ true))
some_is None p mask fits covered bits = tt
some_is (Some e) p mask fits covered bits =
    let same = some_block e.listed (p e.listed) mask fits bits (covered e.listed) in
    ((λ full. sym same ∙ ap not (ne_eqb mask 0 (λ empty. absurd (omega arith)))), (λ there. ⊎_elim (λ empty. absurd (false≢true (sym (ap not (eq-eqb mask 0 empty)) ∙ same ∙ there))) (λ full. omega arith) (cases_eq mask 0)))

-- it is a mask of 128 bits
pub without_fits : (m n : ℕ) → m < 2 ^ 128 → bit_and m n < 2 ^ 128
without_fits m n fits = let less = and_le_l m n in omega arith
