use Rattle.block_cells.proofs.Bits.{moved_down, moved_out, moved_up}
use Rattle.std.proofs.Common.{arith}
use Rattle.block_cells.proofs.mask.moved.Goals as goal

pub returns-then-down-lt128 : goal.returns-then-down-lt128
returns-then-down-lt128 c = λ i. moved_down c.args.mask c.args.from c.args.to i (omega arith) (omega arith)

pub returns-else-down-lt128 : goal.returns-else-down-lt128
returns-else-down-lt128 c = λ i. moved_out c.args.mask c.args.from c.args.to i (omega arith) (omega arith) (omega arith)

pub returns-then-up-lt128 : goal.returns-then-up-lt128
returns-then-up-lt128 c = λ i. moved_up c.args.mask c.args.from c.args.to i (omega arith)
