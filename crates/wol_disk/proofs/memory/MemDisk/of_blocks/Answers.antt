use Rattle.std.proofs.Common.{length, ap, sym, ◌∙◌}
use Rattle.wol_disk.proofs.Images.{reads_only}
use Rattle.wol_disk.proofs.memory.MemDisk.of_blocks.Goals as goal

pub invariant_of-result : goal.invariant_of-result
invariant_of-result c =
    let same = c.in_ok-now.ensures.items ∙ c.deref.ensures.value in
    record {
      same_size = ap length same;
      now_is = rw c.new.ensures.items (same ∙ sym (reads_only c.args.first.items));
    }
