-- What the end of a turn makes of a pass.
use Rattle.std.specs.Prelude.{◌≡◌, ℕ, List, [], ◌∷◌, ◌++◌}
use Rattle.turn_lock.specs.Passes.{pass_number, pass_seen, pass_mine, IsFree, IsSamePass}
use Rattle.turn_lock.specs.declared.pass.PassOf.{PassOf}

-- the pass ended its turn with one entry of this operation
abbrev pub HasLeft : {T B : Type 0} → List ℕ → PassOf T B → PassOf T B → Type 0
HasLeft operation p q = IsSamePass p q × IsFree q
    × (pass_seen q ≡ pass_seen p ++ (pass_number p, operation) ∷ [])
    × (pass_mine q ≡ pass_mine p ++ (pass_number p, operation) ∷ [])
