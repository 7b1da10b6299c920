use Rattle.std.proofs.Common.{◌≡◌, take, map}
use Rattle.std.specs.List.{range_with_len}
use Rattle.wol_model.specs.Trace.{payload_block}
use Rattle.msr_trace.proofs.payload.fill.Given as goal

abbrev pub invariant-loop-i : goal.invariant-loop-i
invariant-loop-i l = take l.i l.out ≡ map (payload_block l.line) (range_with_len l.lbn l.i)
