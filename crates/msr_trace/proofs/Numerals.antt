-- What writes a number.
use Rattle.std.proofs.Common.{◌≡◌, ℕ, ◌^◌, ◌≤◌, ◌<◌, ◌==◌, ◌&&◌, true, false, nat_lt, nat_le, List, [], ◌∷◌, length, Some, decimal, inl, inr, refl, arith}
use Rattle.std.specs.List.{list_all, list_any}
use Rattle.std.specs.Char.{is_digit, digit_value}
use Rattle.std.specs.Str.Parse.{AllDigits, digits_value}
use Rattle.std.proofs.lemmas.Bool.{cases_Bool, and_parts, eqb-true, lt-ltb, le-leb}
use Rattle.std.proofs.lemmas.Fmt.{decimal_is_IsNumeral, length-decimal-le}
use Rattle.msr_trace.specs.Numbers.{number_of}
use Rattle.msr_trace.specs.Spelling.{is_reserved}

digit_free : (b : ℕ) → is_digit b 10 ≡ true → is_reserved b ≡ false
digit_free b h = elim (cases_Bool (is_reserved b)) [
  | inr free ↦ free
  | inl found ↦ elim (cases_Bool (b == 44)) [
    | inl comma ↦ absurd (cc (rw (eqb-true b 44 comma) at h))
    | inr c ↦ elim (cases_Bool (b == 34)) [
      | inl quote ↦ absurd (cc (rw (eqb-true b 34 quote) at h))
      | inr q ↦ elim (cases_Bool (b == 13)) [
        | inl ret ↦ absurd (cc (rw (eqb-true b 13 ret) at h))
        | inr r ↦ absurd (cc (rw (c, q, r) at found))
      ]
    ]
  ]
]

digits_free : (bytes : List ℕ) → list_all (λ b. is_digit b 10) bytes ≡ true → list_any is_reserved bytes ≡ false
digits_free [] h = refl
digits_free (b ∷ bytes) h =
    let both = and_parts (is_digit b 10) (list_all (λ d. is_digit d 10) bytes) h in
    rw (digit_free b both.0) (digits_free bytes both.1)

-- a number has no reserved byte
pub number_free : (bytes : List ℕ) (n : ℕ) → number_of bytes ≡ Some n → list_any is_reserved bytes ≡ false
unfolding number_of
number_free bytes n h = elim (cases_Bool (nat_le 1 (length bytes) && nat_le (length bytes) 20)) [
  | inr other ↦ absurd (cc (rw other at h))
  | inl fits ↦ elim (cases_Bool (list_all (λ b. is_digit b 10) bytes)) [
    | inl digits ↦ digits_free bytes digits
    | inr others ↦ absurd (cc (rw (fits, others) at h))
  ]
]

all_digits : (bytes : List ℕ) → AllDigits 10 bytes → list_all (λ b. is_digit b 10) bytes ≡ true
all_digits [] h = refl
all_digits (b ∷ bytes) h = rw (lt-ltb (digit_value b) 10 h.0) (all_digits bytes h.1)

-- the decimal digits of a number write it
pub decimal_number : (n : ℕ) → n < 2 ^ 64 → number_of (decimal n) ≡ Some n
unfolding number_of
decimal_number n h =
    let numeral = decimal_is_IsNumeral n h in
    let short : length (decimal n) ≤ 20 = length-decimal-le 20 n (omega arith) (omega (arith, h)) h in
    let value : digits_value 10 (decimal n) ≡ n = numeral.1 in
    let small : nat_lt (digits_value 10 (decimal n)) (2 ^ 64) ≡ true = lt-ltb (digits_value 10 (decimal n)) (2 ^ 64) (rw value h) in
    rw (le-leb 1 (length (decimal n)) (omega (arith, numeral.0.0)), le-leb (length (decimal n)) 20 short, all_digits (decimal n) numeral.0.1, small, value) refl
