use Rattle.std.proofs.Common.{◌≡◌, ◌++◌, take}
use Rattle.wol_disk.specs.Memory.{mem_values}
use Rattle.wol_disk.specs.BlockValues.{all_values}
use Rattle.wol_disk.proofs.memory.MemDisk.list_values.Given as goal

abbrev pub invariant-loop-i : goal.invariant-loop-i
invariant-loop-i l = all_values l.list.items ≡ all_values l.fn.list.items ++ take l.i (mem_values l.self)
