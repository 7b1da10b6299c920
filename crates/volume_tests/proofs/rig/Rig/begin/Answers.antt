use Rattle.std.proofs.Common.{[], sym, subst}
use Rattle.wol_model.specs.History.{Kept, worker}
use Rattle.manager.specs.Stands.{IsHome}
use Rattle.volume_tests.proofs.Steps.{rig_after}
use Rattle.volume_tests.proofs.rig.Rig.begin.Goals as goal

pub returns : goal.returns
returns c = rig_after c.args.self.now c.requires c.begin.new.self (subst (IsHome c.args.self.now.shared) (sym c.begin.ensures.unchanged) c.requires.at) Kept [] worker (c.begin.ensures.stands worker)
