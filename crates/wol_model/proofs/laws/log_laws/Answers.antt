use Rattle.wol_model.proofs.laws.log_laws.Goals as goal
use Rattle.wol_model.proofs.Spellings.{reading_logs, one_log, not_both}

pub returns-clause-reading : goal.returns-clause-reading
returns-clause-reading c = reading_logs

pub returns-clause-one : goal.returns-clause-one
returns-clause-one c = one_log

pub returns-clause-not_both : goal.returns-clause-not_both
returns-clause-not_both c = not_both
