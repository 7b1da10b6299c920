-- What is known of each block, by the entries that keep it.
use Rattle.std.specs.Prelude.{◌≡◌, nat_eq, ℕ, List, [], ◌∷◌, Option, None}
use Rattle.std.specs.HashMap.{HashMap, get}
use Rattle.block_cells.specs.declared.blocks.Cell.{Cell}
use Rattle.block_cells.specs.Cells.{with_older}
use Rattle.redirect_map.specs.declared.entry.Entry.{Entry}
use Rattle.redirect_map.specs.Kept.{keeps}

-- what is known of block b, of entries by rising version
abbrev pub cell_of : List Entry → ℕ → Option Cell
cell_of [] b = None
cell_of (e ∷ es) b = with_older (keeps e b) e.record.version (cell_of es b)

-- the table has each block's
abbrev pub AreTabled : {S : Type 0} → List Entry → HashMap ℕ Cell S → Type 0
AreTabled es m = (b : ℕ) → get nat_eq m b ≡ cell_of es b
