-- A view of other volumes doesn't name its own.
use Rattle.std.proofs.Common.{◌≡◌, ◌<◌, ℕ, zero, suc, List, [], ◌∷◌, length, get_or, arith}
use Rattle.wol_model.specs.Images.{NamesOthers}

pub not_named : (n own : ℕ) (ids : List ℕ) → NamesOthers n own ids → (k : ℕ) → k < length ids → get_or ids k own ≡ own → ⊥
not_named n own [] all k less is = omega (arith, less)
not_named n own (id ∷ ids) all zero less is = all.0.1 is
not_named n own (id ∷ ids) all (suc k) less is = not_named n own ids all.1 k (omega (arith, less)) is
