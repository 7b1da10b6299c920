use Rattle.std.proofs.Common.{[]}
use Rattle.manager.specs.Stands.{IsReady, IsHome}
use Rattle.log_cleaner.specs.Cleans.{CanClean}
use Rattle.log_cleaner.specs.Marks.{AreMarked}
use Rattle.log_cleaner.specs.Steps.{HasCopied, KeepsTidy}
use Rattle.log_cleaner.proofs.giving.give_up_segments.Given as goal

abbrev pub invariant-loop-step : goal.invariant-loop-step
invariant-loop-step g l = record {
  ready : IsReady g.D.Disk.state l.m;
  at : IsHome l.shared l.m;
  can : CanClean l.m;
  copied : HasCopied g.D.Disk.tells g.D.Disk.state l.initial.m l.m [];
  tidy : KeepsTidy l.initial.m l.m;
  marked : AreMarked l.marks l.m.index.entries;
}
