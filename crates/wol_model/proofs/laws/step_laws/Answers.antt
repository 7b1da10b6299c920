use Rattle.wol_model.proofs.laws.step_laws.Goals as goal
use Rattle.wol_model.proofs.Steps.{opening_step, logging_step, home_step, home_in_flight, putting_step, putting_in_flight, giving_up_step, fewer_homed, empty_step}

pub returns-clause-opening : goal.returns-clause-opening
returns-clause-opening c = opening_step

pub returns-clause-logging : goal.returns-clause-logging
returns-clause-logging c = logging_step

pub returns-clause-home : goal.returns-clause-home
returns-clause-home c = home_step

pub returns-clause-home_in_flight : goal.returns-clause-home_in_flight
returns-clause-home_in_flight c = home_in_flight

pub returns-clause-putting : goal.returns-clause-putting
returns-clause-putting c = putting_step

pub returns-clause-putting_in_flight : goal.returns-clause-putting_in_flight
returns-clause-putting_in_flight c = putting_in_flight

pub returns-clause-giving_up : goal.returns-clause-giving_up
returns-clause-giving_up c = giving_up_step

pub returns-clause-fewer : goal.returns-clause-fewer
returns-clause-fewer c = fewer_homed

pub returns-clause-empty : goal.returns-clause-empty
returns-clause-empty c = empty_step
