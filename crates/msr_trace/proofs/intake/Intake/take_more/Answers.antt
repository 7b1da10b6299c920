use Rattle.std.proofs.Common.{◌≡◌, ◌+◌, ◌-◌, ap, take, drop, arith}
use Rattle.msr_trace.specs.Intake.{Held}
use Rattle.msr_trace.proofs.Holding.{more}
use Rattle.msr_trace.proofs.Taking.{takes_some}
use Rattle.msr_trace.proofs.intake.Intake.take_more.Goals as goal

pub returns-clause-takes : goal.returns-clause-takes
returns-clause-takes g c =
    let i = c.self.inside in
    let held = i.end - i.start in
    let bytes : take held (drop i.start i.buffer) ≡ c.args.self.now.bytes = ap (λ (h : Held _). h.bytes) c.self.view_is in
    let source : i.source ≡ c.args.self.now.source = ap (λ (h : Held _). h.source) c.self.view_is in
    let whole = more i.buffer c.close_up.new.buffer c.read_after.new.buffer c.args.self.now.bytes i.start held c.in_ok-count.count bytes c.close_up.ensures c.in_ok-count.ensures.held in
    let all : held + c.in_ok-count.count - 0 ≡ held + c.in_ok-count.count = omega arith in
    takes_some g.S.Source.left g.S.Source.faults g.S.Source.borrow c.args.self.now _ (take c.in_ok-count.count (drop held c.read_after.new.buffer))
    (rw all whole) (rw (← source) c.in_ok-count.ensures.content) (rw (← source) c.in_ok-count.ensures.later) (rw (← source) c.in_ok-count.ensures.same_borrow)
