use Rattle.std.proofs.Common.{◌≡◌, ◌+◌, ◌-◌, length, sym, arith}
use Rattle.wol_disk.proofs.Images.{put_part}
use Rattle.wol_disk.proofs.memory.put_blocks.Goals as goal

pub returns : goal.returns
returns c =
    let n : c.args.at + length c.args.from.now - c.args.at ≡ length c.args.from.now = omega arith in
    rw (n, c.copy_from_slice.ensures.after) (sym (put_part c.args.at c.args.from.now c.args.blocks.now c.requires))
