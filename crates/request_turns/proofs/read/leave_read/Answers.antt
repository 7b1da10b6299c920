use Rattle.request_turns.proofs.read.leave_read.Goals as goal

pub returns : goal.returns
returns g c = let l = c.leave_noted.ensures in record { left = l.left; broken = l.broken }
