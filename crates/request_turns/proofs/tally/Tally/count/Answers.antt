use Rattle.request_turns.proofs.Counting.{more_is}
use Rattle.request_turns.proofs.tally.Tally.count.Goals as goal

pub returns : goal.returns
returns c = more_is _ _ _ _ c.args.self.now c.add.new.self c.from.ensures c.from-2.ensures c.add.ensures
