-- A disk goes down at the end of the timeout.
use Rattle.std.proofs.Common.{◌≤◌, ◌+◌, ℕ, max, false, ap, arith}
use Rattle.whatif.proofs.Spinning.{goes_down}
use Rattle.whatif.specs.declared.disk.Disk.{Disk}
use Rattle.whatif.proofs.disk.Disk.begin.Goals as goal

pub returns-then-moment-self-clause-stands : goal.returns-then-moment-self-clause-stands
returns-then-moment-self-clause-stands c = λ s is.
    let d = c.args.self.now in
    let order = c.requires.kept.order in
    let idle : d.since + c.args.timeout ≤ max c.args.at d.moment = omega (arith, c.max-moment.ensures, c.if-moment-self.true, order) in
    goes_down d s c.args.at c.args.timeout is _ (ap (λ (m : ℕ). (let e : Disk = record d { moment = m; awake = false; since = d.since + c.args.timeout; sleeps = d.sleeps + 1 } in e)) c.max-moment.ensures) c.if-self.true idle
