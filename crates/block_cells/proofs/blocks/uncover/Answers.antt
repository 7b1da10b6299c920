use Rattle.std.proofs.Common.{◌+◌, ◌≤◌, ◌∙◌, Option, sym, subst, ap, nat_eq, arith, cond, eqb, ltb, ◌&&◌, Bool}
use Rattle.std.specs.HashMap.{get}
use Rattle.wol_model.specs.Log.{has_bit}
use Rattle.block_cells.specs.Masks.{in_mask}
use Rattle.block_cells.specs.declared.blocks.Cell.{Cell}
use Rattle.block_cells.specs.Cells.{keepers_of, take_one}
use Rattle.block_cells.proofs.Stepping.{next_block, not_before, changed_once, all_blocks, not_yet}
use Rattle.block_cells.proofs.blocks.uncover.Goals as goal

pub loop-i-preserved : goal.loop-i-preserved
loop-i-preserved c = (
  (λ b. changed_once take_one (get nat_eq c.args.blocks.now b) (get nat_eq c.loop-i.blocks b) (get nat_eq c.uncover_bit.new.blocks b)
      (in_mask c.args.first c.args.mask b && ltb b (c.args.first + c.loop-i.i)) (has_bit c.args.mask c.loop-i.i && eqb b (c.args.first + c.loop-i.i)) _
      (c.loop-i.invariant.0 b) (c.uncover_bit.ensures.cells b) (next_block c.args.first c.args.mask c.loop-i.i b) (not_before c.args.first c.args.mask c.loop-i.i b)),
  omega (arith, c.loop-i.invariant.1, c.uncover_bit.ensures.spare),
)

pub returns-clause-cells : goal.returns-clause-cells
returns-clause-cells c = λ b. c.loop-i.invariant.0 b ∙ ap (λ (t : Bool). cond t (take_one (get nat_eq c.args.blocks.now b)) (get nat_eq c.args.blocks.now b))
    (all_blocks c.args.first c.args.mask c.args.count c.loop-i.i b c.requires.mask (omega arith))

pub uncover_bit-requires-clause-alone : goal.uncover_bit-requires-clause-alone
uncover_bit-requires-clause-alone c = λ only on. subst (λ (o : Option Cell). keepers_of o ≤ 1) (sym (not_yet c.args.first c.args.mask c.loop-i.i take_one (get nat_eq c.args.blocks.now (c.args.first + c.loop-i.i)) _ (c.loop-i.invariant.0 (c.args.first + c.loop-i.i))))
    (c.requires.alone c.loop-i.i only on)
