use Rattle.reclaimer.proofs.Idle.{idle}
use Rattle.reclaimer.proofs.laws.idle_laws.Goals as goal

pub returns : goal.returns
returns g c = record { idle = idle c.args._m.now }
