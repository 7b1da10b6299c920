use Rattle.reclaimer.specs.Fetches.{HasData}
use Rattle.std.proofs.Common.{true}
use Rattle.volume_tests.proofs.Steps.{rig_step}
use Rattle.volume_tests.proofs.rig.Rig.put_home.Goals as goal

pub returns : goal.returns
returns g c = rig_step c.args.self.now c.requires c.put_home.new.m c.put_home.ensures.at (HasData true c.args.self.now.fetched) c.put_home.result c.args.self.now.fetched c.requires.fetched c.requires.fetched c.put_home.ensures.keeps c.put_home.ensures.broke
