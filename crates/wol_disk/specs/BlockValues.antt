-- The values of one block, as they are kept apart from a disk.
use Rattle.std.specs.Prelude.{List, map}
use Rattle.wol_disk.specs.Disk.{Values, Block, fresh}
use Rattle.wol_disk.specs.Later.{with_later}
use Rattle.wol_disk.specs.declared.values.BlockValues.{BlockValues}

abbrev pub oldest_of : BlockValues → Block
oldest_of b = b.oldest

abbrev pub later_of : BlockValues → List Block
later_of b = b.later.items

abbrev pub values_of : BlockValues → Values Block
values_of b = with_later (later_of b) (fresh (oldest_of b))

-- of each block
abbrev pub all_values : List BlockValues → List (Values Block)
all_values bs = map values_of bs
