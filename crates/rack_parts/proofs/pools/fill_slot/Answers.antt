use Rattle.rack_parts.proofs.pools.fill_slot.Goals as goal

pub returns-in-Owned-clause-stands : goal.returns-in-Owned-clause-stands
returns-in-Owned-clause-stands g c = c.hold.ensures.stands c.requires.stands

pub returns-in-Some-clause-stands : goal.returns-in-Some-clause-stands
returns-in-Some-clause-stands g c = c.give.ensures.opens c.requires.stands
