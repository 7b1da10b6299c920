use Rattle.run_laws.proofs.laws.run_laws.Goals as goal
use Rattle.run_laws.proofs.ReadLines.{lines_are_plain}
use Rattle.run_laws.proofs.Cuts.{cuts_are_plain, others_answer_nothing}
use Rattle.run_laws.proofs.Joins.{firsts_join, outcomes_join}

pub returns-clause-lines : goal.returns-clause-lines
returns-clause-lines c = lines_are_plain

pub returns-clause-cuts : goal.returns-clause-cuts
returns-clause-cuts c = cuts_are_plain

pub returns-clause-others : goal.returns-clause-others
returns-clause-others c = others_answer_nothing

pub returns-clause-outcomes : goal.returns-clause-outcomes
returns-clause-outcomes c = outcomes_join

pub returns-clause-firsts : goal.returns-clause-firsts
returns-clause-firsts c = firsts_join
