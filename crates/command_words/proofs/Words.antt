-- Words that are no flags, and the words that options are.
use Rattle.std.proofs.Common.{◌≡◌, ◌<◌, ◌≤◌, ◌^◌, ◌+◌, ◌%◌, ℕ, false, refl, sym, ap, subst, arith, [], ◌∷◌, ◌++◌, Some, None, eqb}
use Rattle.std.specs.Prelude.{decimal}
use Rattle.std.specs.Str.{bytes_eq}
use Rattle.std.proofs.lemmas.Bool.{ne_eqb}
use Rattle.std.proofs.lemmas.Fmt.{decimal_by_steps}
use Rattle.clap.specs.Lexer.{long_of, short_of}
use Rattle.clap.specs.Words.{Text}
use Rattle.command_words.specs.Table.{IsHost, IsName, mode_text}
use Rattle.command_words.specs.declared.command.Mode.{Mode}
use Rattle.command_words.specs.declared.command.Mode.TheVariants.{Off, Between, Beside}

-- the word is no flag, and not the word `--`
pub record IsPlain (word : Text) : Type 0 where
  pub dashes : bytes_eq word (45 ∷ 45 ∷ []) ≡ false
  pub long : long_of word ≡ None
  pub short : short_of word ≡ None

-- a word with another byte than a dash in front
pub plain : (x : ℕ) (xs : Text) → ¬ (x ≡ 45) → IsPlain (x ∷ xs)
plain x xs ne =
    let e : eqb x 45 ≡ false = ne_eqb x 45 ne in
    record { dashes = rw e refl; long = rw e refl; short = rw e refl }

pub plain_host : (name : Text) → IsHost name → IsPlain name
plain_host [] h = absurd (omega (arith, h.not_empty))
plain_host (x ∷ xs) h = plain x xs (λ e. h.no_dash_in_front (ap Some e))

pub plain_name : (name : Text) → IsName name → IsPlain name
plain_name [] h = record { dashes = refl; long = refl; short = refl }
plain_name (x ∷ xs) h = plain x xs (λ e. h (ap Some e))

-- the text begins with a digit
abbrev HasDigitInFront : Text → Type 0
HasDigitInFront ds = (x : ℕ) × (xs : Text) × (ds ≡ x ∷ xs) × (48 ≤ x)

decimal_front : (n : ℕ) → n < 2 ^ 64 → HasDigitInFront (decimal n)
decimal_front = decimal_by_steps (λ m ds. HasDigitInFront ds) (λ m l. (48 + m, [], refl, omega arith))
    (λ m ds l h. (h.0, h.1 ++ (48 + m % 10) ∷ [], ap (λ (xs : Text). xs ++ (48 + m % 10) ∷ []) h.2, h.3))

pub plain_decimal : (n : ℕ) → n < 2 ^ 64 → IsPlain (decimal n)
plain_decimal n small =
    let front = decimal_front n small in
    subst IsPlain (sym front.2) (plain front.0 front.1 (λ e. omega (arith, front.3)))

pub plain_mode : (mode : Mode) → IsPlain (mode_text mode)
plain_mode Off = record { dashes = refl; long = refl; short = refl }
plain_mode Between = record { dashes = refl; long = refl; short = refl }
plain_mode Beside = record { dashes = refl; long = refl; short = refl }
