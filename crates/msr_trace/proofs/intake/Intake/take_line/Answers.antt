use Rattle.std.proofs.Common.{◌≡◌, ◌∙◌, sym, false}
use Rattle.std.specs.List.{list_any}
use Rattle.msr_trace.specs.Lines.{is_feed}
use Rattle.msr_trace.proofs.Feeds.{none_at_all, none_in_front, on_err}
use Rattle.msr_trace.proofs.intake.Intake.take_line.Goals as goal

pub returns-in_err-take_more-clause-err : goal.returns-in_err-take_more-clause-err
returns-in_err-take_more-clause-err g c =
    let none : list_any is_feed c.taking.self.bytes ≡ false = none_at_all is_feed c.taking.self.bytes (sym c.taking-test.ensures.0 ∙ c.taking.invariant.first) in
    on_err c.from_residual.result _ (rw c.in_err-take_more.ensures.err none)

pub first_feed-end-requires-in-taking-clause-none : goal.first_feed-end-requires-in-taking-clause-none
first_feed-end-requires-in-taking-clause-none g c =
    rw (c.bytes-in-taking.ensures.value, c.in_ok-take_more.ensures.takes.more.1) (none_in_front is_feed c.taking.self.bytes c.in_ok-take_more.ensures.takes.more.0 c.taking.end c.taking-test.ensures.0 c.taking.invariant.first)
