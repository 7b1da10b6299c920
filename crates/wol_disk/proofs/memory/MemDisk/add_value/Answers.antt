use Rattle.std.proofs.Common.{[], ◌∷◌, ◌∙◌}
use Rattle.wol_disk.specs.Disk.{only}
use Rattle.wol_disk.proofs.Recorded.{size_either, reads_either}
use Rattle.wol_disk.proofs.Building.{wrote_either}
use Rattle.wol_disk.proofs.memory.MemDisk.add_value.Goals as goal

pub invariant_of-self : goal.invariant_of-self
invariant_of-self c =
    let e = c.overwrite.ensures in
    let old = c.args.self.now in
    let xs = c.args.value ∷ [] in
    record {
      same_size = size_either c.args.at xs old.now.items c.overwrite.new.now.items old.calls.items c.overwrite.new.calls.items c.overwrite.result e.ok e.err ∙ old.same_size;
      now_is = reads_either c.args.at xs old.now.items _ old.calls.items _ c.overwrite.result (only old.first.items) e.ok e.calls e.err e.calls_err old.now_is;
    }

pub returns-clause-values : goal.returns-clause-values
returns-clause-values c = wrote_either c.overwrite.result c.args.self.now.first.items c.args.at (c.args.value ∷ []) c.args.self.now.calls.items c.overwrite.new.calls.items c.overwrite.ensures.calls
