use Rattle.wol_model.specs.History.{worker}
use Rattle.manager.specs.Answers.{written}
use Rattle.manager.specs.Stands.{passed_in}
use Rattle.volume_tests.proofs.Steps.{rig_after}
use Rattle.volume_tests.proofs.rig.Rig.write.Goals as goal

pub returns : goal.returns
returns g c = rig_after c.args.self.now c.requires.rig c.write.new.self c.write.ensures.at (written c.args.self.now.manager.next c.args.lbn c.args.from.now c.write.result)
    (passed_in c.write.new.self.rooms.items) worker c.write.ensures.stands
