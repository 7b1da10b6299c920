use Rattle.rack.proofs.SoundClosed.{reads_are_left, opens_again, opens_cut}
use Rattle.rack.proofs.SoundVolumes.{opens_all_again}
use Rattle.rack.proofs.laws.reopening_laws.Goals as goal

pub returns : goal.returns
returns g c = record { reads = reads_are_left; again = opens_again g.D.Disk.tells g.D.Disk.state g.met.D.Disk.told; cut = opens_cut g.D.Disk.tells g.D.Disk.state g.met.D.Disk.told; all = opens_all_again g.D.Disk.tells g.D.Disk.state }
