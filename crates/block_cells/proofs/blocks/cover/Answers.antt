use Rattle.std.proofs.Common.{◌+◌, ◌∙◌, ap, nat_eq, arith, cond, eqb, ltb, ◌&&◌, Bool}
use Rattle.std.specs.HashMap.{get}
use Rattle.wol_model.specs.Log.{has_bit}
use Rattle.block_cells.specs.Masks.{in_mask}
use Rattle.block_cells.specs.Cells.{one_covers}
use Rattle.block_cells.proofs.Stepping.{next_block, not_before, changed_once, all_blocks, not_yet}
use Rattle.block_cells.proofs.Marks.{in_mask-bit}
use Rattle.block_cells.proofs.blocks.cover.Goals as goal

pub loop-i-preserved : goal.loop-i-preserved
loop-i-preserved c = (
  (λ b. changed_once (one_covers c.args.one.now.version) (get nat_eq c.args.blocks.now b) (get nat_eq c.loop-i.blocks b) (get nat_eq c.cover_bit.new.blocks b)
      (in_mask c.args.one.now.lbn c.args.one.now.keep b && ltb b (c.args.one.now.lbn + c.loop-i.i)) (has_bit c.args.one.now.keep c.loop-i.i && eqb b (c.args.one.now.lbn + c.loop-i.i)) _
      (c.loop-i.invariant.0 b) (c.cover_bit.ensures.cells b) (next_block c.args.one.now.lbn c.args.one.now.keep c.loop-i.i b) (not_before c.args.one.now.lbn c.args.one.now.keep c.loop-i.i b)),
  omega (arith, c.loop-i.invariant.1, c.cover_bit.ensures.spare),
)

pub returns-clause-cells : goal.returns-clause-cells
returns-clause-cells c = λ b. c.loop-i.invariant.0 b ∙ ap (λ (t : Bool). cond t (one_covers c.args.one.now.version (get nat_eq c.args.blocks.now b)) (get nat_eq c.args.blocks.now b))
    (all_blocks c.args.one.now.lbn c.args.one.now.keep c.args.one.now.count c.loop-i.i b c.requires.keep_within (omega arith))

pub cover_bit-requires-clause-fresh : goal.cover_bit-requires-clause-fresh
cover_bit-requires-clause-fresh c = λ is on. not_yet c.args.one.now.lbn c.args.one.now.keep c.loop-i.i (one_covers c.args.one.now.version) (get nat_eq c.args.blocks.now (c.args.one.now.lbn + c.loop-i.i)) _ (c.loop-i.invariant.0 (c.args.one.now.lbn + c.loop-i.i))
    ∙ c.requires.fresh is (c.args.one.now.lbn + c.loop-i.i) (in_mask-bit c.args.one.now.lbn c.args.one.now.keep c.loop-i.i ∙ on)
