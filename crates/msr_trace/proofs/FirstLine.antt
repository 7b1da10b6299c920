-- The first line is cut off the bytes that are held.
use Rattle.std.proofs.Common.{◌≡◌, ℕ, ◌+◌, ◌≤◌, ◌<◌, ◌==◌, Bool, true, false, min, List, [], ◌∷◌, ◌++◌, length, take, drop, Option, None, Some, Ok, Err, inl, inr, ◌⊎◌, refl, sym, ap, ◌∙◌, append-nil, arith, nat_lt, length-append}
use Rattle.std.specs.List.{list_any, position_or_len, slice_split, before_first, after_first}
use Rattle.std.specs.Io.KnownBytes.{IsAtEnd, prepend_known}
use Rattle.std.proofs.lemmas.Bool.{cases_Bool, ne_eqb, lt-ltb, ltb-true, ltb-false}
use Rattle.std.proofs.lemmas.List.{take-append-le, drop-append-le, take_all, drop_all}
use Rattle.std.proofs.lemmas.List.Splits.{slice_split_first}
use Rattle.wol_model.specs.Trace.{TraceLine}
use Rattle.msr_trace.specs.declared.format.BadLine.{BadLine}
use Rattle.msr_trace.specs.declared.format.BadLine.TheVariants as bad
use Rattle.msr_trace.specs.Lines.{is_feed, lines_of, read_of, without_empty_last}
use Rattle.msr_trace.specs.Reading.{TakesLine, RefusesLine}
use Rattle.msr_trace.proofs.Feeds.{position_within, none_at_all}

some_parts : (bytes : List ℕ) → (part : List ℕ) × (parts : List (List ℕ)) × (slice_split is_feed bytes ≡ part ∷ parts)
some_parts [] = ([], [], refl)
some_parts (b ∷ bytes) = elim (cases_Bool (is_feed b)) [
  | inl feed ↦ ([], slice_split is_feed bytes, rw feed refl)
  | inr other ↦ let h = some_parts bytes in (b ∷ h.0, h.1, rw (other, h.2) refl)
]

-- a line feed stands in them
cut_feed : (bytes : List ℕ) → position_or_len is_feed bytes < length bytes → lines_of bytes ≡ before_first is_feed bytes ∷ lines_of (after_first is_feed bytes)
unfolding lines_of
cut_feed bytes h =
    let parts = some_parts (after_first is_feed bytes) in
    rw (slice_split_first is_feed bytes 0 h, parts.2) refl

-- others behind them don't move the first line feed
position_same : (xs ys : List ℕ) → position_or_len is_feed xs < length xs → position_or_len is_feed (xs ++ ys) ≡ position_or_len is_feed xs
position_same [] ys h = absurd (omega (arith, h))
position_same (x ∷ xs) ys h = elim (cases_Bool (is_feed x)) [
  | inl feed ↦ rw feed refl
  | inr other ↦ let k = rw other at h in rw other (ap (λ (n : ℕ). 1 + n) (position_same xs ys (omega (arith, k))))
]

-- bytes with no line feed are the front of the first part
front_part : (front ys part : List ℕ) (parts : List (List ℕ)) → list_any is_feed front ≡ false → slice_split is_feed ys ≡ part ∷ parts → slice_split is_feed (front ++ ys) ≡ (front ++ part) ∷ parts
front_part [] ys part parts h e = e
front_part (x ∷ front) ys part parts h e = elim (cases_Bool (is_feed x)) [
  | inl feed ↦ absurd (cc (rw feed at h))
  | inr other ↦ let k = front_part front ys part parts (rw other at h) e in rw (other, k) refl
]

-- they are the one part where nothing comes behind them
one_part : (front : List ℕ) → list_any is_feed front ≡ false → slice_split is_feed front ≡ front ∷ []
one_part [] h = refl
one_part (x ∷ front) h = elim (cases_Bool (is_feed x)) [
  | inl feed ↦ absurd (cc (rw feed at h))
  | inr other ↦ let k = one_part front (rw other at h) in rw (other, k) refl
]

-- a first part that isn't empty is the first line
first_line : (x : ℕ) (part : List ℕ) (parts : List (List ℕ)) → (others : List (List ℕ)) × (without_empty_last ((x ∷ part) ∷ parts) ≡ (x ∷ part) ∷ others)
first_line x part [] =
    let some : (length (x ∷ part) == 0) ≡ false = ne_eqb (length (x ∷ part)) 0 (λ e. absurd (omega (arith, e))) in
    ([], rw some refl)
first_line x part (next ∷ parts) = (without_empty_last (next ∷ parts), refl)

-- bytes with no line feed are the front of the first line
cut_front : (front ys : List ℕ) → 0 < length front → list_any is_feed front ≡ false → (part : List ℕ) × (others : List (List ℕ)) × (lines_of (front ++ ys) ≡ (front ++ part) ∷ others)
unfolding lines_of
cut_front [] ys some h = absurd (omega (arith, some))
cut_front (x ∷ front) ys some h =
    let parts = some_parts ys in
    let split = front_part (x ∷ front) ys parts.0 parts.1 h parts.2 in
    let line = first_line x (front ++ parts.0) parts.1 in
    (parts.0, line.0, rw split line.1)

-- they are the last line where nothing comes behind them
cut_last : (front : List ℕ) → 0 < length front → list_any is_feed front ≡ false → lines_of front ≡ front ∷ lines_of []
unfolding lines_of
cut_last [] some h = absurd (omega (arith, some))
cut_last (x ∷ front) some h =
    let whole = one_part (x ∷ front) h in
    let some : (length (x ∷ front) == 0) ≡ false = ne_eqb (length (x ∷ front)) 0 (λ e. absurd (omega (arith, e))) in
    rw (whole, some) refl

-- over 4,096 bytes are refused
too_long : (text : List ℕ) → 4096 < length text → read_of text ≡ Err bad.LineTooLong
unfolding read_of
too_long text h = rw (lt-ltb 4096 (length text) h) refl

-- the line that ends at a line feed
cut_held : (held rest : List ℕ) (end : ℕ) → end ≡ position_or_len is_feed held → end < length held → lines_of (held ++ rest) ≡ take end held ∷ lines_of (drop (end + 1) held ++ rest)
cut_held held rest end first h =
    let h' : position_or_len is_feed held < length held = rw first at h in
    let same : position_or_len is_feed (held ++ rest) ≡ end = position_same held rest h' ∙ sym first in
    let found : position_or_len is_feed (held ++ rest) < length (held ++ rest) = omega (arith, same, h, length-append held rest) in
    let cut = cut_feed (held ++ rest) found in
    cut ∙ rw (same, take-append-le end held rest (omega (arith, h)), drop-append-le (end + 1) held rest (omega (arith, h))) refl

-- where no line feed is held, all that is held is the line or its front
all_held : (held : List ℕ) (end : ℕ) → end ≡ position_or_len is_feed held → length held ≤ end → end ≡ length held
all_held held end first h = omega (arith, first, h, position_within is_feed held)

-- what is given is the first line
pub gives_line : (held : List ℕ) (left : Option (List ℕ)) (end : ℕ) (ended : Bool) (line : Option TraceLine)
    → 0 < length held → end ≡ position_or_len is_feed held → (end < length held) ⊎ ((ended ≡ true) ⊎ (4096 < end)) → (ended ≡ true → IsAtEnd left)
    → read_of (take end held) ≡ Ok line
    → TakesLine (prepend_known held left) (prepend_known (drop (min (length held) (end + 1)) held) left) (Ok line)
gives_line held None end ended line some first whole known read = tt
gives_line held (Some rest) end ended line some first whole known read = elim (cases_Bool (nat_lt end (length held))) [
  | inl found ↦
      let h = ltb-true end (length held) found in
      let count : min (length held) (end + 1) ≡ end + 1 = omega (arith, h) in
      (take end held, rw count (cut_held held rest end first h), read)
  | inr none ↦
      let all = all_held held end first (ltb-false end (length held) none) in
      let text : take end held ≡ held = take_all end held (omega (arith, all)) in
      let nothing : drop (min (length held) (end + 1)) held ≡ [] = drop_all (min (length held) (end + 1)) held (omega (arith, all)) in
      let none_held : list_any is_feed held ≡ false = none_at_all is_feed held (sym all ∙ first) in
      elim whole [
        | inl less ↦ absurd (omega (arith, less, all))
        | inr (inl over) ↦
            let last : rest ≡ [] = known over in
            (held, rw (nothing, last, append-nil held) (cut_last held some none_held), rw text at read)
        | inr (inr long) ↦
            let refused = too_long held (omega (arith, long, all)) in
            absurd (cc (rw (text, refused) at read))
      ]
]

-- what is refused is the first line
pub refuses_line : (held : List ℕ) (left : Option (List ℕ)) (end : ℕ) (ended : Bool) (why : BadLine)
    → 0 < length held → end ≡ position_or_len is_feed held → (end < length held) ⊎ ((ended ≡ true) ⊎ (4096 < end)) → (ended ≡ true → IsAtEnd left)
    → read_of (take end held) ≡ Err why
    → RefusesLine (prepend_known held left) why
refuses_line held None end ended why some first whole known read = tt
refuses_line held (Some rest) end ended why some first whole known read = elim (cases_Bool (nat_lt end (length held))) [
  | inl found ↦ (take end held, lines_of (drop (end + 1) held ++ rest), cut_held held rest end first (ltb-true end (length held) found), read)
  | inr none ↦
      let all = all_held held end first (ltb-false end (length held) none) in
      let text : take end held ≡ held = take_all end held (omega (arith, all)) in
      let none_held : list_any is_feed held ≡ false = none_at_all is_feed held (sym all ∙ first) in
      elim whole [
        | inl less ↦ absurd (omega (arith, less, all))
        | inr (inl over) ↦
            let last : rest ≡ [] = known over in
            (held, lines_of [], rw (last, append-nil held) (cut_last held some none_held), rw text at read)
        | inr (inr long) ↦
            let cut = cut_front held rest some none_held in
            let refused = too_long held (omega (arith, long, all)) in
            let same : Err bad.LineTooLong ≡ Err why = sym refused ∙ (rw text at read) in
            (held ++ cut.0, cut.1, cut.2, too_long (held ++ cut.0) (omega (arith, long, all, length-append held cut.0)) ∙ same)
      ]
]
