-- A disk that comes up for a use.
use Rattle.std.proofs.Common.{refl}
use Rattle.whatif.proofs.Spinning.{comes_up}
use Rattle.whatif.proofs.disk.Disk.access.Goals as goal

pub returns-else-self-clause-stands : goal.returns-else-self-clause-stands
returns-else-self-clause-stands c = λ t s is. comes_up c.args.self.now _ t s refl c.if-self.false is
