use Rattle.std.proofs.Common.{[]}
use Rattle.wol_model.specs.History.{worker}
use Rattle.manager.specs.Answers.{was_read}
use Rattle.volume_tests.proofs.Steps.{rig_after}
use Rattle.volume_tests.proofs.rig.Rig.read.Goals as goal

pub returns : goal.returns
returns g c = rig_after c.args.self.now c.requires.rig c.read.new.self c.read.ensures.at (was_read c.args.lbn c.read.new.out c.read.result) [] worker c.read.ensures.stands
