use Rattle.std.proofs.Common.{◌≡◌, ◌+◌, ◌-◌, length, arith}
use Rattle.log_layout.proofs.Zeros.{put_field}
use Rattle.log_layout.proofs.bytes.put_bytes.Goals as goal

pub returns : goal.returns
returns c front k at le is =
    let n : c.args.at + length c.args.bytes.now - c.args.at ≡ length c.args.bytes.now = omega arith in
    rw (n, c.copy_from_slice.ensures.after, is) (put_field front c.args.bytes.now c.args.at k at)
