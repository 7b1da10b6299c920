use Rattle.reclaimer.proofs.Later.{data_is_kept}
use Rattle.reclaimer.proofs.laws.fetch_laws.Goals as goal

pub returns : goal.returns
returns c = record { stays = data_is_kept }
