use Rattle.std.specs.Int.{w128}
use Rattle.block_cells.proofs.Bits.{has_bit-set}
use Rattle.block_cells.proofs.blocks.with_bit.Goals as goal

pub returns-then-on : goal.returns-then-on
returns-then-on c = λ j. rw c.if-on.true (has_bit-set w128 c.args.mask c.args.i j c.requires)
