use Rattle.std.proofs.Common.{rules}
use Rattle.turn_lock.proofs.TurnSteps.{draws}
use Rattle.turn_lock.proofs.lock.TurnLock.draw.Goals as goal

pub fetch_add-requires : goal.fetch_add-requires
fetch_add-requires g c = (c.requires.own, search rules, draws g.T.Object.stands _ _ _ _ _ c.requires.idle.0)
