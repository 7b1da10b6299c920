use Rattle.std.proofs.Common.{◌∙◌}
use Rattle.request_turns.proofs.LookNotes.{look_stands, has_looked, look_counted}
use Rattle.request_turns.proofs.look.look_turn.Goals as goal

pub leave_step-requires-clause-turn : goal.leave_step-requires-clause-turn
leave_step-requires-clause-turn g c = let e = c.enter-turn.ensures in record { own = e.same.0 ∙ c.requires.own; turn = e.turn }

pub leave_step-requires-clause-value : goal.leave_step-requires-clause-value
leave_step-requires-clause-value g c = look_stands _ _ c.enter-turn.result.value _ _ _ c.enter-turn.ensures.value

pub returns-clause-looked : goal.returns-clause-looked
returns-clause-looked g c = let e = c.enter-turn.ensures in
    rw c.down-down.ensures (has_looked _ _ c.enter-turn.result.value c.args.pass.now c.enter-turn.new.pass _ e.value c.leave_step.ensures.left e.same e.seen e.mine e.own)

pub returns-clause-counted : goal.returns-clause-counted
returns-clause-counted g c = let e = c.enter-turn.ensures in
    look_counted _ _ c.enter-turn.result.value c.args.pass.now c.enter-turn.new.pass _ e.value c.leave_step.ensures.left e.same e.seen e.mine e.own
