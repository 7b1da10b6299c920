use Rattle.manager.specs.Reclaim.{Always}
use Rattle.volume_tests.proofs.Steps.{rig_step}
use Rattle.volume_tests.proofs.rig.Rig.fetch.Goals as goal

pub returns : goal.returns
returns g c = rig_step c.args.self.now c.requires c.fetch.new.m c.fetch.ensures.at Always c.fetch.result c.fetch.new.into tt (c.fetch.ensures.content c.requires.base c.requires.notes c.requires.keeps) c.fetch.ensures.keeps c.fetch.ensures.broke
