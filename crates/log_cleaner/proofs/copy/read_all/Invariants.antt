use Rattle.std.proofs.Common.{take}
use Rattle.manager.specs.Stands.{IsReady, IsHome}
use Rattle.log_cleaner.specs.Steps.{HasReadAll}
use Rattle.log_cleaner.proofs.copy.read_all.Given as goal

abbrev pub invariant-loop-chunk : goal.invariant-loop-chunk
invariant-loop-chunk g l = record {
  ready : IsReady g.D.Disk.state l.m;
  at : IsHome l.shared l.m;
  read : HasReadAll g.D.Disk.tells g.D.Disk.state (take l.chunk-index l.chunks) l.initial.m l.m l.room l.blocks;
}
