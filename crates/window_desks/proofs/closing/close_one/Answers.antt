use Rattle.std.proofs.Common.{refl}
use Rattle.window_desks.proofs.closing.close_one.Goals as goal

pub returns : goal.returns
returns g c = let r = c.reclaim_turn-desk.ensures in record { id = refl; outcomes = refl; closed = r.closed; counted = r.counted }
