use Rattle.std.specs.Int.{w64}
use Rattle.block_cells.proofs.Bits.{has_bit-set}
use Rattle.redirect_map.proofs.marking.with_rest.Goals as goal

pub returns-then-on : goal.returns-then-on
returns-then-on c = λ j. rw c.if-on.true (has_bit-set w64 c.args.mask c.args.i j c.requires)
