use Rattle.std.proofs.Common.{nat_eq, ◌+◌, ◌∙◌, ◌&&◌, ◌||◌, eqb, Bool, ap}
use Rattle.std.specs.HashMap.{get}
use Rattle.block_cells.proofs.Stepping.{more_bits}
use Rattle.redirect_map.specs.Marked.{goes_of}
use Rattle.redirect_map.proofs.going.all_going.Goals as goal

pub loop-i-preserved : goal.loop-i-preserved
loop-i-preserved c = λ j. c.with_bit-mask.ensures j ∙ ap (λ (t : Bool). t || (c.going_bit.result && eqb j c.loop-i.i)) (c.loop-i.invariant j)
    ∙ more_bits (λ k. goes_of c.args.entry.now (c.args.entry.now.record.lbn + k) (get nat_eq c.args.blocks.now (c.args.entry.now.record.lbn + k))) c.loop-i.i j c.going_bit.result c.going_bit.ensures
