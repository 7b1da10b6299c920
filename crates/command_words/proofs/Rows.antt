-- What was found, row by row.
use Rattle.std.proofs.Common.{◌≡◌, ◌∙◌, inl, inr, true, false, refl, ap, cond, List, [], ◌∷◌, ◌++◌, append-nil, Option, Some, None, true≢false}
use Rattle.std.specs.List.{find}
use Rattle.std.proofs.lemmas.Bool.{cases_Bool}
use Rattle.std.specs.Str.{bytes_eq}
use Rattle.clap.specs.Walk.{at_row, has_row, more_values, with_values, without}
use Rattle.clap.specs.Words.{Row, Text}
use Rattle.clap.specs.declared.builder.value_parser.Reading.TheVariants.{AsWritten}
use Rattle.clap.specs.declared.parser.matches.ValueSource.{ValueSource}
use Rattle.clap.specs.declared.parser.matches.ValueSource.TheVariants.{CommandLine}

-- the row of an argument with one value
abbrev pub row_from : ValueSource → Text → Text → Row
row_from source name value = record { id = name; values = value ∷ []; count = None; source = Some source; reading = AsWritten }

abbrev pub given_row : Text → Text → Row
given_row = row_from CommandLine

abbrev pub row_of_name : Text → List Row → Option Row
row_of_name name rows = find (λ r. bytes_eq r.id name) rows

-- where no row has the name, one more stands at the end
pub at_missing : (name : Text) (change : Row → List Row) (missing rows : List Row) → has_row name rows ≡ false → at_row name change missing rows ≡ rows ++ missing
at_missing name change missing [] none = refl
at_missing name change missing (r ∷ rs) none = elim (cases_Bool (bytes_eq r.id name)) [
  | inl e ↦ absurd (true≢false (rw e at none))
  | inr e ↦ rw e (ap (λ xs. r ∷ xs) (at_missing name change missing rs (rw e at none)))
]

pub without_missing : (name : Text) (rows : List Row) → has_row name rows ≡ false → without name rows ≡ rows
without_missing name rows none = at_missing name (λ r. []) [] rows none ∙ append-nil rows

pub added : (source : ValueSource) (name value : Text) (rows : List Row) → has_row name rows ≡ false
    → with_values name AsWritten source (value ∷ []) rows ≡ rows ++ row_from source name value ∷ []
added source name value rows none = at_missing name (more_values source (value ∷ [])) (row_from source name value ∷ []) rows none

pub added_anew : (name value : Text) (rows : List Row) → has_row name rows ≡ false
    → with_values name AsWritten CommandLine (value ∷ []) (without name rows) ≡ rows ++ given_row name value ∷ []
added_anew name value rows none =
    ap (with_values name AsWritten CommandLine (value ∷ [])) (without_missing name rows none) ∙ added CommandLine name value rows none

-- one more row
pub has_more : (name : Text) (rows : List Row) (r : Row) → has_row name rows ≡ false → bytes_eq r.id name ≡ false → has_row name (rows ++ r ∷ []) ≡ false
has_more name [] r none other = rw other refl
has_more name (x ∷ xs) r none other = elim (cases_Bool (bytes_eq x.id name)) [
  | inl e ↦ absurd (true≢false (rw e at none))
  | inr e ↦ rw e (has_more name xs r (rw e at none) other)
]

-- a row of another name is passed over
pub passed_over : (name : Text) (rows : List Row) (r : Row) (more : List Row) → bytes_eq r.id name ≡ false
    → row_of_name name (rows ++ r ∷ more) ≡ row_of_name name (rows ++ more)
passed_over name [] r more other = rw other refl
passed_over name (x ∷ xs) r more other = ap (cond (bytes_eq x.id name) (Some x)) (passed_over name xs r more other)

some_none : (x : Row) → Some x ≡ None → ⊥
some_none x is = cc is

-- where no row has the name, none is found
pub found_none : (name : Text) (rows : List Row) → row_of_name name rows ≡ None → has_row name rows ≡ false
found_none name [] none = refl
found_none name (x ∷ xs) none = elim (cases_Bool (bytes_eq x.id name)) [
  | inl e ↦ absurd (some_none x (rw e at none))
  | inr e ↦ rw e (found_none name xs (rw e at none))
]

-- the first row of the name stays the first
pub found_first : (name : Text) (rows more : List Row) (r : Row) → row_of_name name rows ≡ Some r → row_of_name name (rows ++ more) ≡ Some r
found_first name [] more r is = absurd (cc is)
found_first name (x ∷ xs) more r is = elim (cases_Bool (bytes_eq x.id name)) [
  | inl e ↦ rw e (rw e at is)
  | inr e ↦ rw e (found_first name xs more r (rw e at is))
]

-- where no row has the name, the rows that follow count
pub found_after : (name : Text) (rows more : List Row) → row_of_name name rows ≡ None → row_of_name name (rows ++ more) ≡ row_of_name name more
found_after name [] more none = refl
found_after name (x ∷ xs) more none = elim (cases_Bool (bytes_eq x.id name)) [
  | inl e ↦ absurd (some_none x (rw e at none))
  | inr e ↦ rw e (found_after name xs more (rw e at none))
]
