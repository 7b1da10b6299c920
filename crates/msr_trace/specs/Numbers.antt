-- Numbers in decimal digits.
use Rattle.std.specs.Prelude.{ℕ, ◌+◌, ◌*◌, ◌^◌, ◌&&◌, nat_lt, nat_le, List, length, Option, None, Some, if◌then◌else◌}
use Rattle.std.specs.List.{list_all}
use Rattle.std.specs.Char.{is_digit, digit_value}
use Rattle.std.specs.Str.Parse.{digits_value_after}

-- the number that digits from 0 to 9 write when they follow those of n, if it is below 2^64
abbrev pub value_after : ℕ → List ℕ → Option ℕ
value_after n bytes =
    if list_all (λ b. is_digit b 10) bytes && nat_lt (digits_value_after 10 n bytes) (2 ^ 64)
    then Some (digits_value_after 10 n bytes) else None

-- the number that one to 20 digits write, if it is below 2^64
unfoldable pub number_of : List ℕ → Option ℕ
number_of bytes =
    if nat_le 1 (length bytes) && nat_le (length bytes) 20 then value_after 0 bytes else None

-- a number with one more digit
abbrev pub with_digit : ℕ → ℕ → Option ℕ
with_digit n b = if is_digit b 10 && nat_lt (n * 10 + digit_value b) (2 ^ 64)
    then Some (n * 10 + digit_value b) else None
