use Rattle.redirect_map.proofs.Answering.{index_is}
use Rattle.redirect_map.proofs.index.Index.len.Goals as goal

pub returns-clause-index : goal.returns-clause-index
returns-clause-index c = rw (← c.self.view_is) (index_is c.self.inside.entries.items c.self.invariant.0)
