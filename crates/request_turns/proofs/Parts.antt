-- Where no part is told.
use Rattle.std.proofs.Common.{◌≡◌, Option, None, Some, refl}
use Rattle.manager.specs.declared.part.Part.{Part}

pub no_part : (o : Option Part) → ((p : Part) → o ≡ Some p → ⊥) → o ≡ None
no_part None not = refl
no_part (Some p) not = absurd (not p refl)
