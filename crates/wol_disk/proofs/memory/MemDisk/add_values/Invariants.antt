use Rattle.std.proofs.Common.{◌≡◌, take}
use Rattle.wol_disk.specs.Memory.{mem_state, mem_values, plan_of}
use Rattle.wol_disk.specs.Later.{added_each}
use Rattle.wol_disk.proofs.memory.MemDisk.add_values.Given as goal

abbrev pub invariant-loop-value : goal.invariant-loop-value
invariant-loop-value l = record {
  values : mem_values l.self ≡ added_each l.at (take l.value-index l.later) (mem_values l.fn.self);
  size : (mem_state l.self).size ≡ (mem_state l.fn.self).size;
  faults : (mem_state l.self).faults ≡ (mem_state l.fn.self).faults;
  plan : plan_of l.self ≡ plan_of l.fn.self;
}
