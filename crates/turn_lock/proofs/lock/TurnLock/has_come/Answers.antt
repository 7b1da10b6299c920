use Rattle.std.proofs.Common.{rules}
use Rattle.turn_lock.proofs.TurnSteps.{looks}
use Rattle.turn_lock.proofs.lock.TurnLock.has_come.Goals as goal

pub load-requires : goal.load-requires
load-requires g c = (search rules, search rules, looks g.T.Object.stands _ _ _ _ _ c.requires.waits.0 c.requires.waits.2)
