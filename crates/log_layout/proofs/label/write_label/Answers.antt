use Rattle.std.proofs.Common.{[], ◌++◌, refl, lit≤, codes}
use Rattle.byteorder.specs.Endian.{little_bytes}
use Rattle.wol_model.specs.Heads.{label_block}
use Rattle.log_layout.proofs.label.write_label.Goals as goal

pub returns : goal.returns
unfolding label_block
returns c =
    let v = c.args.v.now in
    let kind = c.put_bytes.ensures [] 512 refl (lit≤ tt) refl in
    let id = c.put_u32.ensures (codes "WOLVOL01") 504 refl (lit≤ tt) kind in
    let home = c.put_u64.ensures (codes "WOLVOL01" ++ little_bytes 4 v.id) 500 refl (lit≤ tt) id in
    let segments = c.put_u32-2.ensures (codes "WOLVOL01" ++ little_bytes 4 v.id ++ little_bytes 8 v.home) 492 refl (lit≤ tt) home in
    c.put_u32-3.ensures (codes "WOLVOL01" ++ little_bytes 4 v.id ++ little_bytes 8 v.home ++ little_bytes 4 v.segments) 488 refl (lit≤ tt) segments
