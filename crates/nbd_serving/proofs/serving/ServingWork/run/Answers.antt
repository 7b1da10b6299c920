use Rattle.std.proofs.Common.{refl, sym, ap, ◌∙◌}
use Rattle.inspection.proofs.Opened.{can_look}
use Rattle.rack.specs.NotOpened.{first_closed}
use Rattle.nbd_serving.specs.Racks as racks
use Rattle.nbd_serving.proofs.Placed.{has_station, never_some, rack_again}
use Rattle.nbd_serving.proofs.serving.ServingWork.run.Goals as goal

pub returns-in-Some-clause-again : goal.returns-in-Some-clause-again
returns-in-Some-clause-again g c = rack_again _

pub returns-in-Some-clause-did : goal.returns-in-Some-clause-did
returns-in-Some-clause-did g c = racks.closed c.in-Some.fault (ap (first_closed 0) (sym c.as_slice.ensures.value) ∙ sym c.first_closed.ensures ∙ c.in-Some.is) refl refl

pub serve_open-session-requires-clause-rack : goal.serve_open-session-requires-clause-rack
serve_open-session-requires-clause-rack g c = can_look _ _ _ _ c.requires.rack.1

pub serve_open-session-requires-clause-there : goal.serve_open-session-requires-clause-there
serve_open-session-requires-clause-there g c =
    has_station c.args.config.now c.args.rack.now (can_look _ _ _ _ c.requires.rack.1) (ap (first_closed 0) (sym c.as_slice.ensures.value) ∙ sym c.first_closed.ensures ∙ never_some c.first_closed.result c.in_default.not-Some) c.args.self.volume c.requires.ready

pub returns-in-Ok-Agreed-clause-did : goal.returns-in-Ok-Agreed-clause-did
returns-in-Ok-Agreed-clause-did g c =
    rw c.answer_of.ensures
    (racks.open_ _ c.serve_open-session.result (ap (first_closed 0) (sym c.as_slice.ensures.value) ∙ sym c.first_closed.ensures ∙ never_some c.first_closed.result c.in_default.not-Some) (rw c.in-Ok-Agreed.field-0-is at c.in-Ok-Agreed.ensures)
    c.serve_open-session.ensures.serves)

pub returns-in-Ok-Unagreed-clause-again : goal.returns-in-Ok-Unagreed-clause-again
returns-in-Ok-Unagreed-clause-again g c = rack_again _

pub returns-in-Ok-Unagreed-clause-did : goal.returns-in-Ok-Unagreed-clause-did
returns-in-Ok-Unagreed-clause-did g c =
    racks.unagreed c.in-Ok-Unagreed.why (ap (first_closed 0) (sym c.as_slice.ensures.value) ∙ sym c.first_closed.ensures ∙ never_some c.first_closed.result c.in_default.not-Some) (rw c.in-Ok-Unagreed.field-0-is at c.in-Ok-Unagreed.ensures) refl

pub returns-in-Err-clause-again : goal.returns-in-Err-clause-again
returns-in-Err-clause-again g c = rack_again _

pub returns-in-Err-clause-did : goal.returns-in-Err-clause-did
returns-in-Err-clause-did g c =
    rw c.answer_of-in-Err.ensures
    (racks.unbegun c.in-Err.fault (ap (first_closed 0) (sym c.as_slice.ensures.value) ∙ sym c.first_closed.ensures ∙ never_some c.first_closed.result c.in_default.not-Some) c.in-Err.ensures refl)
