use Rattle.manager.specs.Reclaim.{Always}
use Rattle.volume_tests.proofs.Steps.{rig_step}
use Rattle.volume_tests.proofs.rig.Rig.give_up_group.Goals as goal

pub returns : goal.returns
returns g c = rig_step c.args.self.now c.requires c.give_up_group.new.m c.give_up_group.ensures.at Always c.give_up_group.result c.args.self.now.fetched tt c.requires.fetched c.give_up_group.ensures.keeps c.give_up_group.ensures.broke
