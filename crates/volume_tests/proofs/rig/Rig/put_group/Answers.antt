use Rattle.std.proofs.Common.{true, Option, sym, subst}
use Rattle.manager.specs.Reclaim.{Always}
use Rattle.reclaimer.specs.Fetches.{HasData}
use Rattle.reclaimer.specs.Records.{FetchedRecord}
use Rattle.volume_tests.proofs.Steps.{rig_step}
use Rattle.volume_tests.proofs.rig.Rig.put_group.Goals as goal

pub returns : goal.returns
returns g c = rig_step c.args.self.now c.requires c.put_group.new.m c.put_group.ensures.at Always c.put_group.result c.put_group.new.room tt
    (subst (λ (f : Option FetchedRecord). HasData true f c.requires.base c.requires.notes) (sym c.put_group.ensures.empty) tt) c.put_group.ensures.keeps c.put_group.ensures.broke
