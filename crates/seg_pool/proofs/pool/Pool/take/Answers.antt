use Rattle.seg_pool.specs.declared.pool.Slot.TheVariants.{Empty}
use Rattle.seg_pool.proofs.Using.{stands_took, stands_took_none, slot_changed, in_slots}
use Rattle.seg_pool.proofs.pool.Pool.take.Goals as goal

pub returns-in-Some-clause-stands : goal.returns-in-Some-clause-stands
returns-in-Some-clause-stands g c b es n st =
    let change = slot_changed c.args.self.now c.remove.new.self c.in-Some.index Empty (in_slots c.args.self.now c.in-Some.index c.in-Some.ensures.within) c.remove.ensures.rest in (
      stands_took g.T.Blank.blank c.args.self.now c.remove.new.self b es n st c.remove.ensures.same c.in-Some.index c.remove.result c.remove.ensures.item change,
      st.items c.in-Some.index c.remove.result c.remove.ensures.item,
    )

pub returns-in-None-clause-stands : goal.returns-in-None-clause-stands
returns-in-None-clause-stands g c b es n st = stands_took_none g.T.Blank.blank c.args.self.now b es n st c.in-None.ensures.none
