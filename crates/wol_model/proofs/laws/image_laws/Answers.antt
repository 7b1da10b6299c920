use Rattle.wol_model.proofs.laws.image_laws.Goals as goal
use Rattle.wol_model.proofs.Images.{trimming_lem, retiring_lem, claiming_lem, appending_lem}

pub returns-clause-trimming : goal.returns-clause-trimming
returns-clause-trimming c = trimming_lem

pub returns-clause-retiring : goal.returns-clause-retiring
returns-clause-retiring c = retiring_lem

pub returns-clause-claiming : goal.returns-clause-claiming
returns-clause-claiming c = claiming_lem

pub returns-clause-appending : goal.returns-clause-appending
returns-clause-appending c = appending_lem
