use Rattle.std.proofs.Common.{arith, refl, ◌+◌, length, ◌<◌, sym}
use Rattle.std.proofs.lemmas.List.{take_more_set}
use Rattle.std.proofs.lemmas.List.FromFn.{map-range_with_len_more}
use Rattle.wol_model.specs.Trace.{payload_block}
use Rattle.msr_trace.proofs.payload.fill.Goals as goal

pub loop-i-preserved : goal.loop-i-preserved
loop-i-preserved c =
    let within : c.loop-i.i < length c.loop-i.out = omega arith in
    rw (take_more_set c.loop-i.out c.loop-i.i c.fill_block.new.block within, c.loop-i.invariant, c.fill_block.ensures) (sym (map-range_with_len_more (payload_block c.args.line) c.args.lbn c.loop-i.i (c.args.lbn + c.loop-i.i) refl))
