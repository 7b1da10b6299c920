use Rattle.rack.proofs.Basics.{◌<◌, ℕ}
use Rattle.rack.specs.Surveying.{HindersNot}
use Rattle.rack.specs.Opening.{fault_at, said_at}
use Rattle.rack.proofs.missing.hindrance.Given as goal

-- no volume before stands in the way
abbrev pub invariant-loop-volume : goal.invariant-loop-volume
invariant-loop-volume l = (k : ℕ) → k < l.volume → HindersNot l.id k (said_at l.survey.said.items k) (fault_at l.survey.faults.items k)
