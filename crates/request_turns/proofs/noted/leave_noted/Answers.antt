use Rattle.request_turns.proofs.Noting.{stands_coded, has_left, part_down, is_unbroken}
use Rattle.request_turns.proofs.noted.leave_noted.Goals as goal

pub leave-requires-clause-value : goal.leave-requires-clause-value
leave-requires-clause-value g c = stands_coded _ _ _ _ _ _ _ c.requires.number c.requires.value

pub returns-clause-left : goal.returns-clause-left
returns-clause-left g c = let l = c.leave.ensures in has_left _ _ _ _ _ _ c.requires.number c.requires.value l.seen l.same l.free l.mine

pub returns-clause-broken : goal.returns-clause-broken
returns-clause-broken g c = part_down _ _ _ _ _ _ c.requires.number c.requires.value c.leave.ensures.seen

pub returns-clause-unbroken : goal.returns-clause-unbroken
returns-clause-unbroken g c = is_unbroken _ _ _ _ _ _ c.requires.number c.requires.value c.leave.ensures.seen
