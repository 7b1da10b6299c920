-- What a replayed write stores in a block.
use Rattle.std.specs.Prelude.{ℕ, List, ◌++◌}
use Rattle.std.specs.Int.{w64, to_le_bytes}

-- the numbers of the line and of the block, each as eight bytes
abbrev pub stamp : ℕ → ℕ → List ℕ
stamp line lbn = to_le_bytes w64 line ++ to_le_bytes w64 lbn
