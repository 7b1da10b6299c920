use Rattle.replay.proofs.Basics.{take}
use Rattle.replay.proofs.Terms.{CountsOutcomes}
use Rattle.replay.proofs.counting.add_outcomes.Given as goal

abbrev pub invariant-loop-outcome : goal.invariant-loop-outcome
invariant-loop-outcome l = record { counts : CountsOutcomes (take l.outcome-index l.outcomes) l.initial.totals l.totals }
