-- Runs of kept blocks.
use Rattle.std.specs.Prelude.{◌+◌, ℕ, Bool, true, false, List, [], ◌∷◌}

-- how many runs of blocks in a row are kept, where the block before was kept or not
abbrev pub runs_after : Bool → List Bool → ℕ
runs_after before [] = 0
runs_after before (false ∷ marks) = runs_after false marks
runs_after true (true ∷ marks) = runs_after true marks
runs_after false (true ∷ marks) = 1 + runs_after true marks

abbrev pub runs_of : List Bool → ℕ
runs_of marks = runs_after false marks
