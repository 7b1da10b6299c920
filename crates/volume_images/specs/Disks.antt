-- The disks that the parts of an image are.
use Rattle.std.specs.Prelude.{◌≡◌, ℕ, List, ◌∷◌, map, All}
use Rattle.spin_model.specs.Spun.{disk_of, volume_of}
use Rattle.spin_model.specs.declared.spun.Spun.{Spun}
use Rattle.volume_images.specs.declared.parts.ImageParts.{ImageParts}

-- in the order in which a bay hands them out
abbrev pub disks_of : {D : Type 0} → ImageParts D → List D
disks_of {D} p = disk_of p.label ∷ disk_of p.home ∷ map (λ (q : Spun D). disk_of q) p.segments.items

-- all are parts of this volume
pub record AreOfVolume {D : Type 0} (volume : ℕ) (p : ImageParts D) : Type 0 where
  pub label : volume_of p.label ≡ volume
  pub home : volume_of p.home ≡ volume
  pub segments : All (λ (q : Spun D). volume_of q ≡ volume) p.segments.items
