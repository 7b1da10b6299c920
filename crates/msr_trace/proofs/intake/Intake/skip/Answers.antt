use Rattle.std.proofs.Common.{arith, ◌+◌, ◌-◌, ◌≤◌, ◌≡◌, ap, length, take, drop, refl}
use Rattle.std.proofs.lemmas.List.{length-take}
use Rattle.msr_trace.specs.Intake.{Held}
use Rattle.msr_trace.proofs.Holding.{fewer}
use Rattle.msr_trace.proofs.intake.Intake.skip.Goals as goal

pub returns : goal.returns
returns g c =
    let i = c.self.inside in
    let bytes : take (i.end - i.start) (drop i.start i.buffer) ≡ c.args.self.now.bytes = ap (λ (h : Held _). h.bytes) c.self.view_is in
    let short : c.args.count ≤ length (take (i.end - i.start) (drop i.start i.buffer)) = rw bytes c.requires in
    let within : i.start + c.args.count ≤ i.end = omega (arith, short, length-take (i.end - i.start) (drop i.start i.buffer), c.self.invariant.0) in
    rw (← c.self.view_is, fewer i.buffer i.start i.end c.args.count within) refl
