use Rattle.std.proofs.Common.{◌≡◌, take, map}
use Rattle.wol_disk.specs.Memory.{mem_state, plan_of}
use Rattle.wol_disk.specs.Plan.{no_plan}
use Rattle.wol_bay.specs.Plans.{planned_of, calls_for}
use Rattle.wol_bay.proofs.memory.MemBay.armed.Given as goal

abbrev pub invariant-loop-plan : goal.invariant-loop-plan
invariant-loop-plan l = record {
  values : (mem_state l.disk).values ≡ (mem_state l.fn.disk).values;
  size : (mem_state l.disk).size ≡ (mem_state l.fn.disk).size;
  plan : plan_of l.disk ≡ record no_plan { calls = calls_for l.name l.place (map planned_of (take l.plan-index l.self.plans.items)) };
}
