use Rattle.std.proofs.Common.{◌≡◌, take}
use Rattle.wol_disk.specs.BlockValues.{all_values}
use Rattle.wol_bay.specs.Stored.{stored_blocks}
use Rattle.wol_bay.proofs.memory.list_parts.Given as goal

abbrev pub invariant-loop-part : goal.invariant-loop-part
invariant-loop-part l = all_values l.list.items ≡ stored_blocks (take l.part-index l.parts)
