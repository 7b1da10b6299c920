-- Numbers that rise, by their places.
use Rattle.std.proofs.Common.{◌≡◌, ◌<◌, ℕ, zero, suc, List, [], ◌∷◌, Some, refl, subst, arith}
use Rattle.std.specs.Prelude.{slice_get}
use Rattle.std.specs.List.{AllByRecursion}
use Rattle.std.proofs.lemmas.Option.{same_Some}
use Rattle.wol_model.specs.Index.{AreRising}

-- a number that is below all of these is below the one at a place
above_at : (n : ℕ) (ns : List ℕ) (j m : ℕ) → AllByRecursion (λ w. n < w) ns → slice_get ns j ≡ Some m → n < m
above_at n [] j m above there = absurd (cc there)
above_at n (x ∷ ns) zero m above there = subst (λ (k : ℕ). n < k) (same_Some x m there) above.0
above_at n (x ∷ ns) (suc j) m above there = above_at n ns j m above.1 there

-- one that is below the number at each place is below all
above_all : (n : ℕ) (ns : List ℕ) → ((j m : ℕ) → slice_get ns j ≡ Some m → n < m) → AllByRecursion (λ w. n < w) ns
above_all n [] above = tt
above_all n (x ∷ ns) above = (above zero x refl, above_all n ns (λ j m there. above (suc j) m there))

-- of two places the later one has the greater number
pub rising_at : (ns : List ℕ) → AreRising ns → (i j n m : ℕ) → i < j → slice_get ns i ≡ Some n → slice_get ns j ≡ Some m → n < m
rising_at [] rising i j n m less at_i at_j = absurd (cc at_i)
rising_at (x ∷ ns) rising i zero n m less at_i at_j = absurd (omega (arith, less))
rising_at (x ∷ ns) rising zero (suc j) n m less at_i at_j = subst (λ (k : ℕ). k < m) (same_Some x n at_i) (above_at x ns j m rising.0 at_j)
rising_at (x ∷ ns) rising (suc i) (suc j) n m less at_i at_j = rising_at ns rising.1 i j n m (omega (arith, less)) at_i at_j

-- numbers of which the later one is always the greater rise
pub rising_from : (ns : List ℕ) → ((i j n m : ℕ) → i < j → slice_get ns i ≡ Some n → slice_get ns j ≡ Some m → n < m) → AreRising ns
rising_from [] later = tt
rising_from (x ∷ ns) later = (
  above_all x ns (λ j m there. later zero (suc j) x m (omega arith) refl there),
  rising_from ns (λ i j n m less at_i at_j. later (suc i) (suc j) n m (omega (arith, less)) at_i at_j),
)
