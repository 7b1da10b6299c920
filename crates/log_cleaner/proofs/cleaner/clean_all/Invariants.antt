use Rattle.std.proofs.Common.{◌+◌, ◌-◌, ◌*◌, ◌^◌, ◌≤◌, cond}
use Rattle.manager.specs.Stands.{IsReady, IsHome}
use Rattle.log_cleaner.proofs.Cleaning.{Between}
use Rattle.log_cleaner.proofs.cleaner.clean_all.Given as goal

abbrev pub invariant-chunks : goal.invariant-chunks
invariant-chunks g l = record {
  ready : IsReady g.D.Disk.state l.m;
  at : IsHome l.shared l.m;
  width : l.width ≤ 8;
  between : Between g.D.Disk.tells g.D.Disk.state l.most l.initial.m l.m l.copied l.from l.settled l.done.value.items;
}

abbrev pub decreases-chunks : goal.decreases-chunks
decreases-chunks g l = 3 * (2 ^ 32 - l.from) + cond l.settled 0 1 + cond l.lean 0 1
