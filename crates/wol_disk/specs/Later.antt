-- The values that a block gets after the first.
use Rattle.std.specs.Prelude.{ℕ, List, [], ◌∷◌}
use Rattle.wol_disk.specs.Disk.{Values, Block, renewed, added}

-- a block that has these further values, the first of them first
abbrev pub with_later : List Block → Values Block → Values Block
with_later [] v = v
with_later (x ∷ xs) v = with_later xs (renewed x v)

-- one block of a disk gets them one after the other
abbrev pub added_each : ℕ → List Block → List (Values Block) → List (Values Block)
added_each at [] vs = vs
added_each at (x ∷ xs) vs = added_each at xs (added at (x ∷ []) vs)
