use Rattle.logger.proofs.Uses.{accesses_over}
use Rattle.manager_recovery.proofs.retiring.free_segment.Goals as goal

pub returns-in-Ok-clause-ok : goal.returns-in-Ok-clause-ok
returns-in-Ok-clause-ok g c = let k = c.in-Ok.ensures in (c.in-Ok.free, record { free = k.shape; volume = k.volume; any_moment = k.any_moment })

pub returns-in-Ok-clause-accesses : goal.returns-in-Ok-clause-accesses
returns-in-Ok-clause-accesses g c = accesses_over _ _ _ _ _ c.take_token-token.ensures.mine c.take_token-token.ensures.same.1 c.give_token.ensures.mine c.requires.lane.accesses

pub returns-in-Err-clause-accesses : goal.returns-in-Err-clause-accesses
returns-in-Err-clause-accesses g c = accesses_over _ _ _ _ _ c.take_token-token.ensures.mine c.take_token-token.ensures.same.1 c.give_token.ensures.mine c.requires.lane.accesses
