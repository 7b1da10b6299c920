use Rattle.std.proofs.Common.{[], ◌++◌, refl, lit≤, codes}
use Rattle.byteorder.specs.Endian.{little_bytes}
use Rattle.log_layout.proofs.ViewBlocks.{view_written}
use Rattle.log_layout.proofs.view.write_view.Goals as goal

pub returns : goal.returns
returns c =
    let kind = c.put_bytes.ensures [] 512 refl (lit≤ tt) refl in
    let counted = c.put_u32.ensures (codes "WOLVIEW1") 504 refl (lit≤ tt) kind in
    let all = c.put_ids.ensures (codes "WOLVIEW1" ++ little_bytes 4 c.len.result) refl counted in
    view_written c.args.v.now c.ids.result.now c.put_ids.new.b c.len.result c.len.ensures.count c.ids.ensures.value all
