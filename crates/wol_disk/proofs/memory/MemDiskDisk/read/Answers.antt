use Rattle.std.proofs.Common.{rules, IsErr}
use Rattle.wol_disk.specs.Disk.{only}
use Rattle.wol_disk.specs.Plan.{GoesByPlan}
use Rattle.wol_disk.proofs.Planned.{passes_by_plan}
use Rattle.wol_disk.proofs.memory.MemDiskDisk.read.Goals as goal

pub returns-in_err-begin-clause-passes : goal.returns-in_err-begin-clause-passes
returns-in_err-begin-clause-passes c = let g : GoesByPlan c.args.self.now.plan c.begin.new.self (IsErr c.from_residual.result) = search rules in passes_by_plan g (only c.args.self.now.first.items) c.args.self.now.calls.items
