use Rattle.request_turns.proofs.Counting.{adds_up}
use Rattle.request_turns.proofs.tally.Tally.add.Goals as goal

pub returns : goal.returns
returns c = adds_up c.args.self.now _ c.args.other.blocks c.args.other.records c.saturating_add-self.ensures c.saturating_add-self-2.ensures
