use Rattle.std.proofs.Common.{refl, ap, Some, rules, IsErr}
use Rattle.wol_disk.specs.Disk.{only}
use Rattle.wol_disk.specs.declared.record.Call.TheVariants.{Synced}
use Rattle.wol_disk.specs.Plan.{GoesByPlan}
use Rattle.wol_disk.proofs.Planned.{calm_by_plan, passes_by_plan, passes_unrecorded, lacks_memory}
use Rattle.wol_disk.proofs.Recorded.{values_called, passes_called}
use Rattle.wol_disk.proofs.memory.MemDiskDisk.sync.Goals as goal

pub returns-in-Ok-clause-ok : goal.returns-in-Ok-clause-ok
returns-in-Ok-clause-ok c = ap Some (values_called _ _ c.args.self.now.calls.items c.note_sync.new.calls.items Synced refl c.in-Ok.ensures.ok)

pub returns-in-Ok-clause-passes : goal.returns-in-Ok-clause-passes
returns-in-Ok-clause-passes c = passes_called _ _ c.args.self.now.calls.items c.note_sync.new.calls.items Synced refl c.in-Ok.ensures.ok _ _ _ (calm_by_plan c.in_ok-begin.ensures.plan (λ e. cc)) (λ e. cc)

pub returns-in_err-begin-clause-passes : goal.returns-in_err-begin-clause-passes
returns-in_err-begin-clause-passes c = let g : GoesByPlan c.args.self.now.plan c.begin.new.self (IsErr c.from_residual.result) = search rules in passes_by_plan g (only c.args.self.now.first.items) c.args.self.now.calls.items

pub returns-in-Err-clause-plan : goal.returns-in-Err-clause-plan
returns-in-Err-clause-plan c = lacks_memory c.args.self.now.plan c.begin.new.self c.lack.new.self _ _ c.in_ok-begin.ensures.plan (λ e. cc) refl c.lack.ensures.short c.lack.ensures.counts

pub returns-in-Err-clause-passes : goal.returns-in-Err-clause-passes
returns-in-Err-clause-passes c = passes_unrecorded (returns-in-Err-clause-plan c) (only c.args.self.now.first.items) c.args.self.now.calls.items c.note_sync.new.calls.items c.in-Err.ensures.err
