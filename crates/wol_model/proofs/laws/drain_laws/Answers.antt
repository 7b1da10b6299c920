use Rattle.wol_model.proofs.laws.drain_laws.Goals as goal
use Rattle.wol_model.proofs.DrainGives.{giving_up_lowers}
use Rattle.wol_model.proofs.DrainPuts.{putting_lowers}

pub returns-clause-putting : goal.returns-clause-putting
returns-clause-putting c = putting_lowers

pub returns-clause-giving_up : goal.returns-clause-giving_up
returns-clause-giving_up c = giving_up_lowers
