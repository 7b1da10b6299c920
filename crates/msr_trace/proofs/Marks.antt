-- A byte of two kinds is sought kind by kind.
use Rattle.std.proofs.Common.{◌≡◌, ℕ, ◌||◌, Bool, true, false, List, [], ◌∷◌, refl, ap, ◌∙◌}
use Rattle.std.specs.List.{list_any}

middle_four : (a b c d : Bool) → ((a || b) || (c || d)) ≡ ((a || c) || (b || d))
middle_four true b c d = refl
middle_four false true true d = refl
middle_four false true false d = refl
middle_four false false true d = refl
middle_four false false false d = refl

pub either_kind : (p q : ℕ → Bool) (xs : List ℕ) → (list_any p xs || list_any q xs) ≡ list_any (λ x. p x || q x) xs
either_kind p q [] = refl
either_kind p q (x ∷ xs) = middle_four (p x) (list_any p xs) (q x) (list_any q xs) ∙ ap (λ (b : Bool). (p x || q x) || b) (either_kind p q xs)
