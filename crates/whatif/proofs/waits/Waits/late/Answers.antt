use Rattle.std.proofs.Common.{ℕ, ap}
use Rattle.std.specs.Prelude.{Option, unwrap_or}
use Rattle.whatif.proofs.waits.Waits.late.Goals as goal

pub returns-in-Some : goal.returns-in-Some
returns-in-Some c = ap (λ (o : Option ℕ). unwrap_or o 10) c.in-Some.ensures

pub returns-in-None : goal.returns-in-None
returns-in-None c = ap (λ (o : Option ℕ). unwrap_or o 10) c.in-None.ensures
