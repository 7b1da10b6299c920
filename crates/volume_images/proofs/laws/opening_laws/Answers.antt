use Rattle.volume_images.proofs.OneFault.{accepted_or_faulty, one_image_fault}
use Rattle.volume_images.proofs.laws.opening_laws.Goals as goal

pub returns : goal.returns
returns c = record { accepted = accepted_or_faulty; one = one_image_fault }
