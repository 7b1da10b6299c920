use Rattle.std.proofs.Common.{refl}
use Rattle.cleaning.proofs.station.clean_station.Goals as goal

pub returns-clause-same : goal.returns-clause-same
returns-clause-same g c = let added = c.clean_turn.ensures.cleans.added in record { same = refl; pass = added.same; free = λ was. added.free }
