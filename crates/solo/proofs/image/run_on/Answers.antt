use Rattle.std.proofs.Common.{[]}
use Rattle.solo.specs.Served.{content_of}
use Rattle.solo.specs.Volume.{target_of}
use Rattle.solo.proofs.Cuts.{settled_cuts}
use Rattle.solo.proofs.Running.{none_run}
use Rattle.solo.proofs.image.run_on.Goals as goal

pub returns-in_default-clause-content : goal.returns-in_default-clause-content
returns-in_default-clause-content g c =
    none_run (target_of c.args.volume.now) (g.S.Source.left c.args.trace.now) (content_of (g.D.Disk.state c.args.part.now).values) (g.K.Sink.taken c.args.out.now) (g.D.Disk.state c.args.part.now).values (settled_cuts (g.D.Disk.state c.args.part.now).values [] c.requires.settled)
