use Rattle.wol_model.proofs.laws.history_laws.Goals as goal
use Rattle.wol_model.proofs.Histories.{one_more_reply, one_more_entry, writes_more, flight_more, cut_whole}

pub returns-clause-reply : goal.returns-clause-reply
returns-clause-reply c = one_more_reply

pub returns-clause-entry : goal.returns-clause-entry
returns-clause-entry c = one_more_entry

pub returns-clause-writes : goal.returns-clause-writes
returns-clause-writes c = writes_more

pub returns-clause-flight : goal.returns-clause-flight
returns-clause-flight c = flight_more

pub returns-clause-whole : goal.returns-clause-whole
returns-clause-whole c = cut_whole
