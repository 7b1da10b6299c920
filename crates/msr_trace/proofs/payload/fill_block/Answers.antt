use Rattle.std.proofs.Common.{◌∙◌, refl}
use Rattle.wol_model.specs.Trace.{payload_block}
use Rattle.msr_trace.proofs.payload.fill_block.Goals as goal

pub returns : goal.returns
unfolding payload_block
returns c = c.repeat.ensures ∙ rw c.stamp_of.ensures refl
