use Rattle.std.proofs.Common.{get_or, ap, ◌∙◌, sym, ◌∷◌, []}
use Rattle.std.proofs.lemmas.List.{get_or_default}
use Rattle.wol_disk.specs.Disk.{added}
use Rattle.wol_disk.specs.Memory.{mem_values}
use Rattle.wol_disk.proofs.Building.{each_more}
use Rattle.wol_disk.proofs.memory.MemDisk.add_values.Goals as goal

pub loop-value-preserved : goal.loop-value-preserved
loop-value-preserved c =
    let i = c.loop-value.invariant in
    let e = c.in_ok-add_value.ensures in
    let k = c.loop-value.value-index in
    let x = get_or c.args.later.now k [] in
    record {
      values = e.values ∙ ap (added c.args.at (x ∷ [])) i.values ∙ sym (each_more c.args.at k c.args.later.now x (mem_values c.args.self.now) c.loop-value-test.true (get_or_default c.args.later.now k [] x c.loop-value-test.true));
      size = e.size ∙ i.size;
      faults = e.faults ∙ i.faults;
      plan = e.plan ∙ i.plan;
    }
