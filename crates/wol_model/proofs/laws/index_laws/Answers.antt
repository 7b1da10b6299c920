use Rattle.wol_model.proofs.laws.index_laws.Goals as goal
use Rattle.wol_model.proofs.Live.{live_is_newest, least_goes}
use Rattle.wol_model.proofs.Reading.{index_finds, index_finds_none, reading_lem}

pub returns-clause-live : goal.returns-clause-live
returns-clause-live c = live_is_newest

pub returns-clause-least : goal.returns-clause-least
returns-clause-least c = least_goes

pub returns-clause-finds : goal.returns-clause-finds
returns-clause-finds c = index_finds

pub returns-clause-finds_none : goal.returns-clause-finds_none
returns-clause-finds_none c = index_finds_none

pub returns-clause-reading : goal.returns-clause-reading
returns-clause-reading c = reading_lem
