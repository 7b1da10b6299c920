use Rattle.whatif.proofs.Seeing.{seen_home}
use Rattle.std.proofs.Common.{refl}
use Rattle.whatif.proofs.volume.Volume.see_home.Goals as goal

pub returns-clause-volume : goal.returns-clause-volume
returns-clause-volume c = seen_home c.args.self.now c.args.awake _ refl c.requires.volume
