use Rattle.redirect_map.proofs.Answering.{at_is}
use Rattle.redirect_map.proofs.index.Index.at.Goals as goal

pub returns : goal.returns
returns c = rw (← c.self.view_is) (at_is c.self.inside.entries.items c.args.place c.at.result c.self.invariant.0 c.at.ensures)
