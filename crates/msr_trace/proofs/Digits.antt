-- A number read digit by digit.
use Rattle.std.proofs.Common.{◌≡◌, ℕ, ◌+◌, ◌-◌, ◌*◌, ◌^◌, ◌≤◌, ◌<◌, ◌&&◌, Bool, true, false, nat_lt, List, [], ◌∷◌, ◌++◌, length, get_or, drop, None, Some, inl, inr, refl, lit<, ◌∙◌, arith}
use Rattle.std.proofs.lemmas.Bool.{cases_Bool, and_parts, ltb-true, ltb-false, lt-ltb, le-ltb}
use Rattle.std.proofs.lemmas.List.{at_drop_more}
use Rattle.std.proofs.Math.Nat.{pow-le-pow_right}
use Rattle.std.proofs.lemmas.Grind.{pow_more}
use Rattle.std.specs.List.{list_all}
use Rattle.std.specs.Char.{is_digit, digit_value}
use Rattle.std.specs.Str.Parse.{digits_value_after}
use Rattle.msr_trace.specs.Numbers.{value_after, with_digit}

-- more digits write a number that is no smaller
grows : (n : ℕ) (bytes : List ℕ) → n ≤ digits_value_after 10 n bytes
grows n [] = omega arith
grows n (b ∷ bytes) = let h = grows (n * 10 + digit_value b) bytes in omega (arith, h)

both_no : (a b : Bool) → b ≡ false → (a && b) ≡ false
both_no true b h = h
both_no false b h = refl

-- a byte that gives no number ends the reading
pub value_stops : (n b : ℕ) (bytes : List ℕ) → with_digit n b ≡ None → value_after n (b ∷ bytes) ≡ None
value_stops n b bytes h = elim (cases_Bool (is_digit b 10)) [
  | inr other ↦ rw other refl
  | inl digit ↦ elim (cases_Bool (nat_lt (n * 10 + digit_value b) (2 ^ 64))) [
    | inl small ↦ absurd (cc (rw (digit, small) at h))
    | inr large ↦
        let more = grows (n * 10 + digit_value b) bytes in
        let big : 2 ^ 64 ≤ digits_value_after 10 (n * 10 + digit_value b) bytes = omega (arith, more, ltb-false (n * 10 + digit_value b) (2 ^ 64) large) in
        rw (both_no (is_digit b 10 && list_all (λ d. is_digit d 10) bytes) _ (le-ltb _ (2 ^ 64) big)) refl
  ]
]

-- the same at a place of the field
pub value_stops_at : (n i : ℕ) (field : List ℕ) → i < length field → with_digit n (get_or field i 0) ≡ None → value_after n (drop i field) ≡ None
value_stops_at n i field h k = at_drop_more (value_after n) field i 0 h ∙ value_stops n (get_or field i 0) (drop (i + 1) field) k

-- no more digits
pub value_ends : (n : ℕ) → n < 2 ^ 64 → value_after n [] ≡ Some n
value_ends n h = rw (lt-ltb n (2 ^ 64) h) refl

-- fewer than 20 digits write a number below 2^64
pub small_end : (n i : ℕ) → n < 10 ^ i → i < 20 → n < 2 ^ 64
small_end n i small short =
    let few : 10 ^ i ≤ 10 ^ 19 = pow-le-pow_right {n = 10} (lit< tt) {j = 19} (omega (arith, short)) in
    omega (arith, few, small)

-- ---- Runs of digits

abbrev pub are_digits : List ℕ → Bool
are_digits bytes = list_all (λ b. is_digit b 10) bytes

-- what is known of the digits from a place on, of which none is read yet, and what comes of the first one
pub record First (n i : ℕ) (digits : List ℕ) : Type 0 where
  pub digit : is_digit (get_or digits i 0) 10 ≡ true
  pub small : n * 10 + digit_value (get_or digits i 0) < 2 ^ 64
  pub others : are_digits (drop (i + 1) digits) ≡ true
  pub value : digits_value_after 10 n (drop i digits) ≡ digits_value_after 10 (n * 10 + digit_value (get_or digits i 0)) (drop (i + 1) digits)

pub first_digit : (n i : ℕ) (digits : List ℕ) → i < length digits → are_digits (drop i digits) ≡ true → digits_value_after 10 n (drop i digits) < 2 ^ 64 → First n i digits
first_digit n i digits h all small =
    let both = and_parts (is_digit (get_or digits i 0) 10) (are_digits (drop (i + 1) digits)) (rw (at_drop_more are_digits digits i 0 h) at all) in
    let value = at_drop_more (digits_value_after 10 n) digits i 0 h in
    let more = grows (n * 10 + digit_value (get_or digits i 0)) (drop (i + 1) digits) in
    record { digit = both.0; small = omega (arith, more, rw value at small); others = both.1; value = value }

run_on : (n : ℕ) (run behind : List ℕ) → are_digits run ≡ true → value_after n (run ++ behind) ≡ value_after (digits_value_after 10 n run) behind
run_on n [] behind h = refl
run_on n (b ∷ run) behind h =
    let both = and_parts (is_digit b 10) (are_digits run) h in
    rw both.0 (run_on (n * 10 + digit_value b) run behind both.1)

-- digits at the front go on with what they write
pub run_goes_on : (n : ℕ) (text run behind : List ℕ) → text ≡ run ++ behind → are_digits run ≡ true → value_after n text ≡ value_after (digits_value_after 10 n run) behind
run_goes_on n text run behind is h = rw is (run_on n run behind h)

run_fits : (n i : ℕ) (run : List ℕ) → are_digits run ≡ true → n < 10 ^ i → digits_value_after 10 n run < 10 ^ (i + length run)
run_fits n i [] h small = let e : i + 0 ≡ i = omega arith in rw e small
run_fits n i (b ∷ run) h small =
    let both = and_parts (is_digit b 10) (are_digits run) h in
    let digit : digit_value b < 10 = ltb-true (digit_value b) 10 both.0 in
    let more : n * 10 + digit_value b < 10 ^ (i + 1) = rw (pow_more 10 i) (omega (arith, small, digit)) in
    let e : i + 1 + length run ≡ i + length (b ∷ run) = omega arith in
    rw e at (run_fits (n * 10 + digit_value b) (i + 1) run both.1 more)

-- with a run of digits more there are still fewer than 20 in all
pub run_small : (n count : ℕ) (digits run behind : List ℕ) → length digits < 20 → n < 10 ^ (19 - length digits)
    → length run ≡ count → length behind + count ≡ length digits → are_digits run ≡ true
    → digits_value_after 10 n run < 10 ^ (19 - length behind)
run_small n count digits run behind short small front back h =
    let e : 19 - length digits + length run ≡ 19 - length behind = omega (arith, short, front, back) in
    rw e at (run_fits n (19 - length digits) run h small)

pub run_word : (n count : ℕ) (digits run behind : List ℕ) → length digits < 20 → n < 10 ^ (19 - length digits)
    → length run ≡ count → length behind + count ≡ length digits → are_digits run ≡ true
    → digits_value_after 10 n run < 2 ^ 64
run_word n count digits run behind short small front back h =
    small_end (digits_value_after 10 n run) (19 - length behind) (run_small n count digits run behind short small front back h) (omega arith)

pub none_small : (i : ℕ) → 0 < 10 ^ i
none_small i = let one : 10 ^ 0 ≤ 10 ^ i = pow-le-pow_right {n = 10} (lit< tt) {i = 0} {j = i} (omega arith) in omega (arith, one)

-- one digit more, where some are left
pub digit_small : (n d left : ℕ) → n < 10 ^ (19 - left) → d < 10 → 0 < left → left < 20 → n * 10 + d < 10 ^ (19 - (left - 1))
digit_small n d left small digit some short =
    let e : 19 - left + 1 ≡ 19 - (left - 1) = omega (arith, some, short) in
    let more : n * 10 + d < 10 ^ (19 - left + 1) = rw (pow_more 10 (19 - left)) (omega (arith, small, digit)) in
    rw e at more

pub digit_word : (n d left : ℕ) → n < 10 ^ (19 - left) → d < 10 → 0 < left → left < 20 → n * 10 + d < 2 ^ 64
digit_word n d left small digit some short =
    small_end (n * 10 + d) (19 - (left - 1)) (digit_small n d left small digit some short) (omega arith)

-- the digit at a place goes on with what those before it write
pub digit_at : (n i : ℕ) (field : List ℕ) → i < length field → digit_value (get_or field i 0) < 10 → value_after n (drop i field) ≡ value_after (n * 10 + digit_value (get_or field i 0)) (drop (i + 1) field)
digit_at n i field h k =
    let digit : is_digit (get_or field i 0) 10 ≡ true = lt-ltb (digit_value (get_or field i 0)) 10 k in
    at_drop_more (value_after n) field i 0 h ∙ rw digit refl
