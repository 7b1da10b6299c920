use Rattle.std.proofs.Common.{◌≡◌, take}
use Rattle.wol_model.specs.Trace.{mark}
use Rattle.msr_trace.proofs.payload.mark.Given as goal

abbrev pub invariant-loop-block : goal.invariant-loop-block
invariant-loop-block l = l.sum ≡ mark (take l.block-index l.content)
