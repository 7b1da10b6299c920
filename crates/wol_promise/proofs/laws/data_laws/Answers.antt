use Rattle.wol_promise.proofs.laws.data_laws.Goals as goal
use Rattle.wol_promise.proofs.Data.{data_stays}

pub returns : goal.returns
returns c = record { stays = data_stays }
