-- Cases of an option that is the value of a term.
use Rattle.std.proofs.Common.{◌≡◌, Option, None, Some, refl}

pub by_option : {A C : Type 0} (o : Option A) → (o ≡ None → C) → ((x : A) → o ≡ Some x → C) → C
by_option None none some = none refl
by_option (Some x) none some = some x refl

-- what is there where an option isn't empty
pub some_or : {A : Type 0} (o : Option A) → (o ≡ None → ⊥) → (x : A) × (o ≡ Some x)
some_or o never = by_option o (λ e. absurd (never e)) (λ x e. (x, e))

-- and one in which nothing can be is empty
pub none_or : {A : Type 0} (o : Option A) → ((x : A) → o ≡ Some x → ⊥) → o ≡ None
none_or o never = by_option o (λ e. e) (λ x e. absurd (never x e))
