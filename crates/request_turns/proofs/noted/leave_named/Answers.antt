use Rattle.std.proofs.Common.{subst}
use Rattle.wol_promise.specs.Ruled.{Noted}
use Rattle.request_turns.specs.Turns.{HasLeft}
use Rattle.request_turns.proofs.noted.leave_named.Goals as goal

pub returns : goal.returns
returns g c = let l = c.leave_noted.ensures in
    record { left = subst (λ (n : Noted). HasLeft g.D.Disk.tells n c.args.pass.now c.leave_noted.new.pass) c.requires.note l.left; broken = l.broken }
