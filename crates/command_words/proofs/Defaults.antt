-- What options that aren't given come to.
use Rattle.std.proofs.Common.{◌≡◌, ◌∙◌, ◌||◌, ℕ, Bool, true, false, refl, sym, ap, ap₂, cond, List, [], ◌∷◌, ◌++◌, append-nil, Option, Some, None, codes, true≢false}
use Rattle.std.specs.Prelude.{option_and_then, slice_get, IsTrue, ◌↔◌}
use Rattle.std.specs.List.{fold}
use Rattle.std.specs.Option.{option_map_or}
use Rattle.std.specs.Str.{bytes_eq}
use Rattle.clap.specs.Faults.{defaults_fault, given_default_fault}
use Rattle.clap.specs.Kinds.{Kinds, or_else}
use Rattle.clap.specs.Walk.{first_of, has_row, with_default, with_values}
use Rattle.clap.specs.Words.{Row, Rule, Text}
use Rattle.clap.specs.declared.parser.matches.ValueSource.TheVariants.{DefaultValue}
use Rattle.clap.specs.declared.builder.value_parser.Reading.TheVariants.{AsWritten}
use Rattle.command_words.proofs.Rows.{added, found_after, found_first, found_none, given_row, passed_over, row_from, row_of_name}
use Rattle.command_words.proofs.Steps.{switch, valued}

fallen_through : (b : Bool) (kinds : Kinds) → cond (b || true) [] kinds ≡ []
fallen_through true kinds = refl
fallen_through false kinds = refl

abbrev no_kinds : Kinds
no_kinds = []

either_way : (b : Bool) → cond (b || false) no_kinds no_kinds ≡ no_kinds
either_way true = refl
either_way false = refl

same_rows : (b : Bool) (rows : List Row) → cond b rows rows ≡ rows
same_rows true rows = refl
same_rows false rows = refl

-- an argument with one value has no default
module _ (name : Text) (long : Option Text) (index : Option ℕ) (required : Bool) (rows : List Row) (rest : List Rule) where
  abbrev one : Rule
  one = valued name long index required

  pub calm_past : defaults_fault rows (one ∷ rest) ≡ defaults_fault rows rest
  unfolding defaults_fault
  calm_past = ap₂ (λ kinds rs. or_else kinds (defaults_fault rs rest)) (fallen_through (has_row name rows) (given_default_fault one [])) (same_rows (has_row name rows) rows)

  pub rows_past : fold with_default rows (one ∷ rest) ≡ fold with_default rows rest
  rows_past = ap (λ rs. fold with_default rs rest) (same_rows (has_row name rows) rows)

pub calm_end : (rows : List Row) → defaults_fault rows [] ≡ []
unfolding defaults_fault
calm_end rows = refl

abbrev pub first_in : Option Row → Option Text
first_in = option_and_then (λ (r : Row). slice_get r.values 0)

abbrev pub with_flag : Text → List Row → List Row
with_flag flag rows = with_default rows (switch flag)

-- a flag that isn't given is false
module _ (flag : Text) (rows : List Row) where
  pub calm_flag : (rest : List Rule) → defaults_fault rows (switch flag ∷ rest) ≡ defaults_fault (with_flag flag rows) rest
  unfolding defaults_fault
  calm_flag rest = ap (λ kinds. or_else kinds (defaults_fault (with_flag flag rows) rest)) (either_way (has_row flag rows))

  abbrev default_row : Row
  default_row = row_from DefaultValue flag (codes "false")

  flag_missing : has_row flag rows ≡ false → with_flag flag rows ≡ rows ++ default_row ∷ []
  flag_missing none =
      ap (λ b. cond b rows (with_values flag AsWritten DefaultValue (codes "false" ∷ []) rows)) none
      ∙ added DefaultValue flag (codes "false") rows none

  flag_there : has_row flag rows ≡ true → with_flag flag rows ≡ rows
  flag_there there = ap (λ b. cond b rows (with_values flag AsWritten DefaultValue (codes "false" ∷ []) rows)) there

  -- its default changes no other row
  pub flag_aside : (name : Text) → bytes_eq flag name ≡ false → row_of_name name (with_flag flag rows) ≡ row_of_name name rows
  flag_aside name other = go (has_row flag rows) refl
    where
      go : (b : Bool) → has_row flag rows ≡ b → row_of_name name (with_flag flag rows) ≡ row_of_name name rows
      go true e = ap (row_of_name name) (flag_there e)
      go false e = ap (row_of_name name) (flag_missing e) ∙ passed_over name rows default_row [] other ∙ ap (row_of_name name) (append-nil rows)

  flag_kept : (r : Row) → row_of_name flag rows ≡ Some r → row_of_name flag (with_flag flag rows) ≡ Some r
  flag_kept r is = go (has_row flag rows) refl
    where
      go : (b : Bool) → has_row flag rows ≡ b → row_of_name flag (with_flag flag rows) ≡ Some r
      go true e = ap (row_of_name flag) (flag_there e) ∙ is
      go false e = ap (row_of_name flag) (flag_missing e) ∙ found_first flag rows (default_row ∷ []) r is

  flag_added : bytes_eq flag flag ≡ true → row_of_name flag rows ≡ None → row_of_name flag (with_flag flag rows) ≡ Some default_row
  flag_added own none =
      ap (row_of_name flag) (flag_missing (found_none flag rows none)) ∙ found_after flag rows (default_row ∷ []) none
      ∙ ap (λ b. cond b (Some default_row) None) own

  -- it is true exactly where it is given
  pub has_flag : bytes_eq flag flag ≡ true → (b : Bool) → row_of_name flag rows ≡ cond b (Some (given_row flag (codes "true"))) None
      → IsTrue b ↔ (first_of flag (with_flag flag rows) ≡ Some (codes "true"))
  has_flag own true found = (λ yes. ap first_in (flag_kept (given_row flag (codes "true")) found), λ is. refl)
  has_flag own false none =
      let other : first_of flag (with_flag flag rows) ≡ Some (codes "false") = ap first_in (flag_added own none) in
      (λ yes. absurd (true≢false (sym yes)), λ is. absurd (true≢false (ap (λ o. option_map_or (λ t. bytes_eq t (codes "true")) o false) (sym is ∙ other))))
