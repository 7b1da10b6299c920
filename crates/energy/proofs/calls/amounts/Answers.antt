use Rattle.std.proofs.Common.{arith}
use Rattle.energy.proofs.Turns.{standby_within}
use Rattle.energy.proofs.calls.amounts.Goals as goal

pub overflow_sub-awake : goal.overflow_sub-awake
overflow_sub-awake c = let h = c.requires.sums in let within = standby_within c.args.from h.0 c.args.to h.1 in omega (arith, within)

pub overflow_sub-awake-2 : goal.overflow_sub-awake-2
overflow_sub-awake-2 c = let h = c.requires.sums in let within = standby_within c.args.from h.0 c.args.to h.1 in omega (arith, within, h.2.standby)
