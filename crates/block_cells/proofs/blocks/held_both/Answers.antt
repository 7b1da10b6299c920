use Rattle.std.proofs.Common.{◌≡◌, ◌+◌, ◌∙◌, ◌||◌, ◌&&◌, Bool, Option, true, false, eqb, nat_eq, ap}
use Rattle.std.specs.HashMap.{get}
use Rattle.block_cells.specs.declared.blocks.Cell.{Cell}
use Rattle.block_cells.specs.Cells.{is_held}
use Rattle.block_cells.proofs.Stepping.{more_bits}
use Rattle.block_cells.proofs.blocks.held_both.Goals as goal

pub loop-i-preserved : goal.loop-i-preserved
loop-i-preserved c =
    let known : c.newest_of-known.result ≡ get nat_eq c.args.blocks.now (c.args.one.now.lbn + c.loop-i.i) = cc in
    record {
      live = λ j. c.with_bit-live.ensures j ∙ ap (λ (t : Bool). t || (c.holds.result && eqb j c.loop-i.i)) (c.loop-i.invariant.live j)
          ∙ more_bits (λ k. is_held c.args.one.now.version false (get nat_eq c.args.blocks.now (c.args.one.now.lbn + k))) c.loop-i.i j c.holds.result
          (c.holds.ensures ∙ ap (λ (o : Option Cell). is_held c.args.one.now.version false o) known);
      alone = λ j. c.with_bit-alone.ensures j ∙ ap (λ (t : Bool). t || (c.holds-in-loop-i.result && eqb j c.loop-i.i)) (c.loop-i.invariant.alone j)
          ∙ more_bits (λ k. is_held c.args.one.now.version true (get nat_eq c.args.blocks.now (c.args.one.now.lbn + k))) c.loop-i.i j c.holds-in-loop-i.result
          (c.holds-in-loop-i.ensures ∙ ap (λ (o : Option Cell). is_held c.args.one.now.version true o) known);
    }
