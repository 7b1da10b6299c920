-- What contracts see of a source and of a sink in memory.
use Rattle.std.specs.Prelude.{ℕ, ◌-◌, ◌^◌, List, [], ◌∷◌, min, max}
use Rattle.wol_io.specs.Plan.{Plan}

-- a source: the bytes that are left, the most that each call to come hands out, and which call
-- fails
pub record SourceValue : Type 0 where
  pub left : List ℕ
  pub cuts : List ℕ
  pub plan : Plan

-- a sink: the bytes that it took, and which call fails
pub record SinkValue : Type 0 where
  pub taken : List ℕ
  pub plan : Plan

-- the most that a call hands out: no more than its cut, but at least one byte, and any number once
-- the cuts are used up
abbrev pub most_of : List ℕ → ℕ
most_of [] = 2 ^ 64 - 1
most_of (cut ∷ cuts) = max cut 1

-- how many bytes a call hands out of so many that are left, into so much room
abbrev pub handed : List ℕ → ℕ → ℕ → ℕ
handed cuts left room = min (min left (most_of cuts)) room
