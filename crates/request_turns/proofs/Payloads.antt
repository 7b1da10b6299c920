-- Room that is written to keeps its length.
use Rattle.std.proofs.Common.{◌≡◌, ℕ, List, length, sym, ◌∙◌}
use Rattle.std.specs.Vec.{with_items}
use Rattle.std.specs.declared.vec.Vec.{Vec}

pub kept_length : {X Z : Type 0} (v : Vec X Z) (ws : List X) (n : ℕ) → length v.items ≡ n → length (with_items v ws).items ≡ n
kept_length v ws n is = sym (with_items v ws).ok.0 ∙ v.ok.0 ∙ is
