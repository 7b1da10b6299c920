use Rattle.std.proofs.Common.{[], refl, lit≤, codes}
use Rattle.wol_model.specs.Heads.{free_block, owned_block}
use Rattle.log_layout.proofs.segment.write_seg.Goals as goal

pub returns-in-Free : goal.returns-in-Free
unfolding free_block
returns-in-Free c = rw c.in-Free.is (c.put_bytes.ensures [] 512 refl (lit≤ tt) refl)

pub returns-in-Owned : goal.returns-in-Owned
unfolding owned_block
returns-in-Owned c =
    let kind = c.put_bytes-in-Owned.ensures [] 512 refl (lit≤ tt) refl in
    rw c.in-Owned.is (c.put_u32.ensures (codes "WOLSEGO1") 504 refl (lit≤ tt) kind)
