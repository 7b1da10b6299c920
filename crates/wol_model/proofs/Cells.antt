-- Blocks of one number, for small examples.
use Rattle.std.proofs.Common.{ℕ, List, [], ◌∷◌, map}
use Rattle.wol_disk.specs.Disk.{Block}

abbrev pub cells : List ℕ → List Block
cells xs = map (λ x. x ∷ []) xs
