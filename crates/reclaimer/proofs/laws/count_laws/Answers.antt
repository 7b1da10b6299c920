use Rattle.reclaimer.proofs.TakenOff.{taken_adds_up, nothing_taken}
use Rattle.reclaimer.proofs.laws.count_laws.Goals as goal

pub returns : goal.returns
returns c = record { adds = taken_adds_up; none = nothing_taken }
