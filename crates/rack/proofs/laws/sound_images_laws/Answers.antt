use Rattle.rack.proofs.SoundVolumes.{refuses_sound}
use Rattle.rack.proofs.laws.sound_images_laws.Goals as goal

pub returns : goal.returns
returns g c = record { sound = refuses_sound g.D.Disk.tells g.D.Disk.state }
