use Rattle.std.proofs.Common.{true, Option, sym, subst}
use Rattle.manager.specs.Reclaim.{Always}
use Rattle.reclaimer.specs.Fetches.{HasData}
use Rattle.reclaimer.specs.Records.{FetchedRecord}
use Rattle.volume_tests.proofs.Steps.{rig_step}
use Rattle.volume_tests.proofs.rig.Rig.drain_step.Goals as goal

pub returns : goal.returns
returns g c = rig_step c.args.self.now c.requires c.drain_step.new.m c.drain_step.ensures.at Always c.drain_step.result c.drain_step.new.into tt
    (subst (λ (f : Option FetchedRecord). HasData true f c.requires.base c.requires.notes) (sym c.drain_step.ensures.empty) tt) c.drain_step.ensures.keeps c.drain_step.ensures.broke
