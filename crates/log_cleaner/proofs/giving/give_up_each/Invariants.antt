use Rattle.std.proofs.Common.{[]}
use Rattle.wol_model.specs.Index.{listed_in, left}
use Rattle.manager.specs.Stands.{IsReady, IsHome}
use Rattle.log_cleaner.specs.Steps.{HasCopied, KeepsTidy}
use Rattle.log_cleaner.proofs.giving.give_up_each.Given as goal

abbrev pub invariant-steps : goal.invariant-steps
invariant-steps g l = record {
  ready : IsReady g.D.Disk.state l.m;
  at : IsHome l.shared l.m;
  copied : HasCopied g.D.Disk.tells g.D.Disk.state l.initial.m l.m [];
  tidy : KeepsTidy l.initial.m l.m;
}

abbrev pub decreases-steps : goal.decreases-steps
decreases-steps g l = left (listed_in l.m.index.entries)
