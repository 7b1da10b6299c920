-- The blocks of an image in memory.
use Rattle.std.specs.Prelude.{List, flat_map}
use Rattle.wol_disk.specs.Disk.{Block, Values}
use Rattle.wol_disk.specs.Memory.{mem_values}
use Rattle.wol_disk.specs.Stop.{inner_of}
use Rattle.wol_disk.specs.declared.stop.StopDisk.{StopDisk}
use Rattle.wol_disk.specs.declared.memory.MemDisk.{MemDisk}

-- the blocks of all parts
abbrev pub stored_blocks : List (StopDisk MemDisk) → List (Values Block)
stored_blocks parts = flat_map (λ part. mem_values (inner_of part)) parts
