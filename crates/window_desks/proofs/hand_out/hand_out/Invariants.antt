use Rattle.std.proofs.Common.{take}
use Rattle.window_desks.specs.Handed.{AreHandedOut}
use Rattle.window_desks.proofs.hand_out.hand_out.Given as goal

abbrev pub invariant-loop-request : goal.invariant-loop-request
invariant-loop-request g l = AreHandedOut (take l.request-index l.requests) l.fn.desks l.desks
