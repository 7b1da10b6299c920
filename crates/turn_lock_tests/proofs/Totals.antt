-- A sum of equal parts.
use Rattle.std.proofs.Common.{◌≡◌, ℕ, ◌*◌, List, [], ◌∷◌, length, All, refl, arith}
use Rattle.std.proofs.lemmas.List.Elements.{All-head, All-tail}
use Rattle.turn_lock.specs.Views.{total}

pub total_each : {A : Type 0} (f : A → ℕ) (xs : List A) → All (λ x. f x ≡ 1000) xs → total f xs ≡ 1000 * length xs
total_each f [] h = refl
total_each {A} f (x ∷ xs) h = let P : A → Type 0 = λ x. f x ≡ 1000 in let a : f x ≡ 1000 = All-head P x xs h in let b = total_each f xs (All-tail P x xs h) in omega arith
