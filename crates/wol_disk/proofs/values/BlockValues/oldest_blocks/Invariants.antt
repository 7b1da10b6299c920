use Rattle.std.proofs.Common.{◌≡◌, take, map}
use Rattle.wol_disk.specs.BlockValues.{oldest_of}
use Rattle.wol_disk.proofs.values.BlockValues.oldest_blocks.Given as goal

abbrev pub invariant-loop-block : goal.invariant-loop-block
invariant-loop-block l = l.blocks.items ≡ map oldest_of (take l.block-index l.values)
