use Rattle.std.proofs.Common.{◌≡◌, length}
use Rattle.wol_disk.specs.Plan.{no_plan}
use Rattle.wol_disk.specs.Memory.{mem_state, mem_values, plan_of}
use Rattle.wol_disk.proofs.Building.{built}
use Rattle.wol_disk.proofs.memory.MemDisk.from_values.Given as goal

abbrev pub invariant-loop-at : goal.invariant-loop-at
invariant-loop-at l = record {
  values : mem_values l.disk ≡ built l.at l.values;
  size : (mem_state l.disk).size ≡ length l.values;
  faults : (mem_state l.disk).faults ≡ 0;
  plan : plan_of l.disk ≡ no_plan;
}
