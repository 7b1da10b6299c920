use Rattle.whatif.proofs.Staying.{used_stay_up}
use Rattle.whatif.proofs.Windows.{reclaim_wakes_none}
use Rattle.whatif.proofs.laws.window_laws.Goals as goal

pub returns-clause-used : goal.returns-clause-used
returns-clause-used c = used_stay_up

pub returns-clause-reclaim : goal.returns-clause-reclaim
returns-clause-reclaim c = reclaim_wakes_none
