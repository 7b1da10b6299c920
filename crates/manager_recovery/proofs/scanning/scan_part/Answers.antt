use Rattle.std.proofs.Common.{ap, ◌∙◌}
use Rattle.turn_lock.specs.LockIds.{LockId}
use Rattle.spin_model.specs.declared.spindle.SpindleBase.{SpindleBase}
use Rattle.logger.proofs.Uses.{accesses_over}
use Rattle.manager_recovery.proofs.scanning.scan_part.Goals as goal

pub returns-clause-lane : goal.returns-clause-lane
returns-clause-lane g c =
    let l = c.requires.lane in let take = c.take_token-token.ensures in let give = c.give_token.ensures in record {
      pool_free = l.pool_free;
      spindle_free = give.free;
      pool_volume = l.pool_volume;
      spindle_volume = ap (λ (i : LockId SpindleBase). i.base.volume) (give.same.0 ∙ take.same.0) ∙ l.spindle_volume;
      settled = give.has_none;
      accesses = accesses_over _ _ _ _ _ take.mine take.same.1 give.mine l.accesses;
      each = l.each;
      unclaimed = l.unclaimed;
      apart = l.apart;
      room = l.room;
      handing = l.handing;
    }
