use Rattle.std.proofs.Common.{length, ap, ◌∙◌, sym, arith, Some}
use Rattle.std.proofs.lemmas.List.{length-map}
use Rattle.wol_disk.specs.Disk.{only}
use Rattle.wol_disk.specs.BlockValues.{oldest_of}
use Rattle.wol_disk.specs.Later.{added_each}
use Rattle.wol_disk.proofs.Building.{built, built_none, built_all, built_more}
use Rattle.wol_disk.proofs.memory.MemDisk.from_values.Goals as goal

pub loop-at-preserved : goal.loop-at-preserved
loop-at-preserved c =
    let i = c.loop-at.invariant in
    let e = c.in_ok-add_values.ensures in
    record {
      values = e.values ∙ ap (added_each c.loop-at.at c.later.result.now) i.values ∙ ap (λ l. added_each c.loop-at.at l (built c.loop-at.at c.args.values.now)) c.later.ensures ∙ built_more c.loop-at.at c.args.values.now c.index-values-at.result (omega arith) c.index-values-at.is;
      size = e.size ∙ i.size;
      faults = e.faults ∙ i.faults;
      plan = e.plan ∙ i.plan;
    }

pub loop-at-init : goal.loop-at-init
loop-at-init c =
    let e = c.in_ok-disk.ensures in
    record {
      values = e.values ∙ ap only c.in_ok-oldest.ensures ∙ sym (built_none c.args.values.now);
      size = e.size ∙ ap length c.in_ok-oldest.ensures ∙ length-map c.args.values.now oldest_of;
      faults = e.faults;
      plan = e.plan;
    }

pub returns-clause-values : goal.returns-clause-values
returns-clause-values c = ap Some (c.loop-at.invariant.values ∙ built_all c.loop-at.at c.args.values.now (omega arith))
