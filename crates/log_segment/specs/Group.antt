-- A group of records on its way to the disk.
use Rattle.std.specs.Prelude.{List, [], ◌∷◌, ◌++◌, take, drop, Option}
use Rattle.std.specs.Option.{option_map}
use Rattle.wol_disk.specs.Disk.{Block, State, reads}
use Rattle.wol_model.specs.Heads.{gate_block}
use Rattle.log_segment.specs.declared.item.Item.{Item}

-- what a read of the whole disk gives
abbrev pub reads_as : State → Option (List Block)
reads_as d = option_map reads d.values

-- the blocks of each item behind a gate in the place of its head
abbrev pub without_heads : List Item → List Block → List Block
without_heads [] from = []
without_heads (i ∷ items) from =
    gate_block ∷ (take i.count from ++ without_heads items (drop i.count from))
