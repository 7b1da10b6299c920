-- A line whose first byte begins a byte order mark has a first field that is no number.
use Rattle.std.proofs.Common.{◌≡◌, ◌≢◌, ℕ, ◌+◌, ◌<◌, ◌==◌, ◌&&◌, Bool, true, false, List, [], ◌∷◌, length, get_or, None, Err, refl, arith, nat_le, if◌then◌else◌}
use Rattle.std.specs.List.{count_by, onto_first}
use Rattle.std.proofs.lemmas.Bool.{ne_eqb}
use Rattle.std.proofs.lemmas.List.Splits.{length-slice_split}
use Rattle.msr_trace.specs.declared.format.BadLine.TheVariants as bad
use Rattle.msr_trace.specs.Numbers.{number_of, value_after}
use Rattle.msr_trace.specs.Lines.{fields_of, line_in, number_in}

onto : (c : ℕ) (parts : List (List ℕ)) → (rest : List ℕ) × (others : List (List ℕ)) × (onto_first c parts ≡ (c ∷ rest) ∷ others)
onto c [] = ([], [], refl)
onto c (part ∷ parts) = (part, parts, refl)

-- the first field of such a line
first_field : (body : List ℕ) → 0 < length body → get_or body 0 0 ≡ 239 → (rest : List ℕ) × (others : List (List ℕ)) × (fields_of body ≡ (239 ∷ rest) ∷ others)
first_field [] some h = absurd (omega arith)
first_field (b ∷ bytes) some h = let f = onto 239 (fields_of bytes) in rw h f

no_number : (rest : List ℕ) → number_of (239 ∷ rest) ≡ None
unfolding number_of
no_number rest = elim (nat_le 1 (length (239 ∷ rest)) && nat_le (length (239 ∷ rest)) 20) as (λ (b : Bool). (if b then value_after 0 (239 ∷ rest) else None) ≡ None) [ true ↦ refl | false ↦ refl ]

-- seven fields, and the first is no number
pub no_line : (body : List ℕ) → 0 < length body → get_or body 0 0 ≡ 239 → count_by (λ b. b == 44) body ≡ 6 → line_in (fields_of body) ≡ Err (bad.Number 1)
unfolding line_in number_in
no_line body some h six =
    let f = first_field body some h in
    let seven : length (fields_of body) ≡ 7 = omega (arith, six, length-slice_split (λ b. b == 44) body) in
    let test : (length (fields_of body) == 7) ≡ true = rw seven refl in
    rw (test, f.2, no_number f.0) refl

-- not seven fields
pub other_count : (body : List ℕ) → count_by (λ b. b == 44) body ≢ 6 → line_in (fields_of body) ≡ Err bad.FieldCount
unfolding line_in
other_count body other =
    let count : length (fields_of body) ≡ count_by (λ b. b == 44) body + 1 = length-slice_split (λ b. b == 44) body in
    let test : (length (fields_of body) == 7) ≡ false = ne_eqb (length (fields_of body)) 7 (λ e. other (omega (arith, e, count))) in
    rw test refl
