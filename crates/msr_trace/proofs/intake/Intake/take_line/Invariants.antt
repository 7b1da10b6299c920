use Rattle.std.proofs.Common.{◌≡◌, ◌+◌, ◌-◌, ◌≤◌, length, cond}
use Rattle.std.specs.List.{position_or_len}
use Rattle.msr_trace.specs.Lines.{is_feed}
use Rattle.msr_trace.specs.Intake.{Takes}
use Rattle.msr_trace.proofs.intake.Intake.take_line.Given as goal

abbrev pub invariant-taking : goal.invariant-taking
invariant-taking g l = record {
  takes : Takes g.S.Source.left g.S.Source.faults g.S.Source.borrow l.initial.self l.self;
  first : l.end ≡ position_or_len is_feed l.self.bytes;
  within : l.end ≤ length l.self.bytes;
  size : length l.self.bytes ≤ 8192;
  calm : g.S.Source.faults l.self.source ≡ g.S.Source.faults l.initial.self.source;
}

abbrev pub decreases-taking : goal.decreases-taking
decreases-taking g l = 8192 - length l.self.bytes + cond l.self.ended 0 1
