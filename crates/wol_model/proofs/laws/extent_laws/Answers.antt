use Rattle.wol_model.proofs.laws.extent_laws.Goals as goal
use Rattle.wol_model.proofs.GivingUp.{giving_up_lem}
use Rattle.wol_model.proofs.Writing.{emptied_lem, logging_lem, writing_home_lem, cut_short_lem, putting_home_lem}

pub returns-clause-giving_up : goal.returns-clause-giving_up
returns-clause-giving_up c = giving_up_lem

pub returns-clause-emptied : goal.returns-clause-emptied
returns-clause-emptied c = emptied_lem

pub returns-clause-logging : goal.returns-clause-logging
returns-clause-logging c = logging_lem

pub returns-clause-writing_home : goal.returns-clause-writing_home
returns-clause-writing_home c = writing_home_lem

pub returns-clause-cut_short : goal.returns-clause-cut_short
returns-clause-cut_short c = cut_short_lem

pub returns-clause-putting_home : goal.returns-clause-putting_home
returns-clause-putting_home c = putting_home_lem
