use Rattle.std.proofs.Common.{◌≡◌, length, sym, ◌∙◌, ap}
use Rattle.wol_disk.proofs.Images.{reads_only}
use Rattle.wol_disk.proofs.memory.MemDisk.restart.Goals as goal

pub invariant_of-self : goal.invariant_of-self
invariant_of-self c =
    let same : c.copy_from_slice.new.self.items ≡ c.choose_all.new.out.items = c.copy_from_slice.ensures.items ∙ c.deref-3.ensures.value in
    record {
      same_size = sym (ap length same);
      now_is = rw c.clear.ensures.items (sym same ∙ sym (reads_only c.copy_from_slice.new.self.items));
    }
