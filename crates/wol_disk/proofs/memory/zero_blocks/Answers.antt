use Rattle.std.proofs.Common.{[], ◌∷◌, ◌∙◌}
use Rattle.std.proofs.lemmas.List.{replicate_more}
use Rattle.std.proofs.lemmas.Slice.{pushed}
use Rattle.wol_disk.specs.Zeros.{zero_block}
use Rattle.wol_disk.proofs.memory.zero_blocks.Goals as goal

pub loop-count-preserved : goal.loop-count-preserved
unfolding zero_block
loop-count-preserved c = pushed (zero_block ∷ []) c.loop-count.invariant c.in_ok-push.was c.push.ensures.items ∙ replicate_more c.loop-count.count zero_block
