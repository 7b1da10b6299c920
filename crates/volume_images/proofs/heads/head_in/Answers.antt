use Rattle.std.proofs.Common.{subst}
use Rattle.wol_model.specs.Heads.{SpellsSegment}
use Rattle.log_layout.specs.Values.{segment_head}
use Rattle.log_layout.specs.declared.segment.SegHead.{SegHead}
use Rattle.volume_images.proofs.OnlyRead.{not_configured}
use Rattle.volume_images.proofs.heads.head_in.Goals as goal

pub returns-in_default-clause-none : goal.returns-in_default-clause-none
returns-in_default-clause-none c = λ h has.
    not_configured c.args.volumes c.in-Some-Owned.owner c.args.block.now h has (subst (λ (s : SegHead). SpellsSegment c.args.block.now (segment_head s)) c.in-Some-Owned.field-0-is c.in-Some-Owned.ensures.found) c.if-owner-volumes.false
