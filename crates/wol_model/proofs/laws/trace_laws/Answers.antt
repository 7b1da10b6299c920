use Rattle.wol_model.proofs.laws.trace_laws.Goals as goal
use Rattle.wol_model.proofs.TraceLaws.{pieces_lie, pieces_cover, windows_have_all, windows_are}

pub returns-clause-lie : goal.returns-clause-lie
returns-clause-lie c = pieces_lie

pub returns-clause-cover : goal.returns-clause-cover
returns-clause-cover c = pieces_cover

pub returns-clause-all : goal.returns-clause-all
returns-clause-all c = windows_have_all

pub returns-clause-windows : goal.returns-clause-windows
returns-clause-windows c = windows_are
