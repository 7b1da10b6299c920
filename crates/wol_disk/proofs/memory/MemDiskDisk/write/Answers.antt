use Rattle.std.proofs.Common.{refl, ap, ◌∙◌, Some, rules, IsErr}
use Rattle.wol_disk.specs.Disk.{only}
use Rattle.wol_disk.specs.declared.record.Call.TheVariants.{Wrote}
use Rattle.wol_disk.proofs.Images.{adds_none, adds_none_err}
use Rattle.wol_disk.specs.Plan.{GoesByPlan}
use Rattle.wol_disk.proofs.Planned.{calm_by_plan, passes_by_plan, passes_unrecorded, lacks_memory}
use Rattle.wol_disk.proofs.Recorded.{passes_called, wrote, size_either, reads_either}
use Rattle.wol_disk.proofs.memory.MemDiskDisk.write.Goals as goal

pub invariant_of-self-in-Ok : goal.invariant_of-self-in-Ok
invariant_of-self-in-Ok c =
    let e = c.overwrite.ensures in
    record {
      same_size = size_either c.args.at c.args.from.now c.args.self.now.now.items c.overwrite.new.now.items c.args.self.now.calls.items c.overwrite.new.calls.items c.overwrite.result e.ok e.err ∙ c.args.self.now.same_size;
      now_is = reads_either c.args.at c.args.from.now c.args.self.now.now.items _ c.args.self.now.calls.items _ c.overwrite.result (only c.args.self.now.first.items) e.ok e.calls e.err e.calls_err c.args.self.now.now_is;
    }

pub returns-in-Ok-clause-ok : goal.returns-in-Ok-clause-ok
returns-in-Ok-clause-ok c = let v = c.in-Ok.ensures.calls in ap Some (wrote _ _ c.args.at c.args.from.now v.0 c.args.self.now.calls.items c.overwrite.new.calls.items refl v.1 v.2)

pub returns-in-Ok-clause-passes : goal.returns-in-Ok-clause-passes
returns-in-Ok-clause-passes c =
    let v = c.in-Ok.ensures.calls in
    passes_called _ _ c.args.self.now.calls.items c.overwrite.new.calls.items (Wrote c.args.at v.0) refl v.2 _ _ _ (calm_by_plan c.in_ok-begin.ensures.plan (λ e. cc)) (λ e. cc)

pub returns-in_err-begin-clause-err : goal.returns-in_err-begin-clause-err
returns-in_err-begin-clause-err c = adds_none_err c.from_residual.result c.args.at c.args.from.now _

pub returns-in_err-begin-clause-passes : goal.returns-in_err-begin-clause-passes
returns-in_err-begin-clause-passes c = let g : GoesByPlan c.args.self.now.plan c.begin.new.self (IsErr c.from_residual.result) = search rules in passes_by_plan g (only c.args.self.now.first.items) c.args.self.now.calls.items

pub returns-in-Err-clause-err : goal.returns-in-Err-clause-err
returns-in-Err-clause-err c = rw c.in-Err.ensures.calls_err (adds_none c.args.at c.args.from.now _)

pub returns-in-Err-clause-plan : goal.returns-in-Err-clause-plan
returns-in-Err-clause-plan c = lacks_memory c.args.self.now.plan c.begin.new.self c.lack.new.self _ _ c.in_ok-begin.ensures.plan (λ e. cc) refl c.lack.ensures.short c.lack.ensures.counts

pub returns-in-Err-clause-passes : goal.returns-in-Err-clause-passes
returns-in-Err-clause-passes c = passes_unrecorded (returns-in-Err-clause-plan c) (only c.args.self.now.first.items) c.args.self.now.calls.items c.overwrite.new.calls.items c.in-Err.ensures.calls_err
