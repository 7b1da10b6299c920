use Rattle.manager.specs.Reclaim.{Always}
use Rattle.volume_tests.proofs.Steps.{rig_step}
use Rattle.volume_tests.proofs.rig.Rig.invalidate_one.Goals as goal

pub returns : goal.returns
returns g c = rig_step c.args.self.now c.requires c.invalidate_one.new.m c.invalidate_one.ensures.at Always c.invalidate_one.result c.args.self.now.fetched tt c.requires.fetched c.invalidate_one.ensures.keeps c.invalidate_one.ensures.broke
