use Rattle.std.proofs.Common.{rules}
use Rattle.nbd_session.proofs.ranges.read_piece.Goals as goal

pub returns-clause-read : goal.returns-clause-read
returns-clause-read g c = (c.read.new.out, search rules, c.put_blocks.ensures.whole, search rules, search rules)
