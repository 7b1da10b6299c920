use Rattle.std.proofs.Common.{refl}
use Rattle.inspection.proofs.Looking.{still_helps}
use Rattle.inspection.proofs.lines.look_station.Goals as goal

pub returns-clause-same : goal.returns-clause-same
returns-clause-same g c =
    let looks = c.look.ensures.looks in record {
      same = refl;
      pass = looks.added.same;
      free = λ was. looks.added.free;
      helps = still_helps _ _ _ _ _ _ _ _ _ _ looks;
    }
