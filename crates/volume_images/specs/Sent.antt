-- An image that went out to be read. `state` is that of a part's disk.
use Rattle.std.specs.Prelude.{◌≡◌, ◌≢◌, ◌≤◌, ◌+◌, ℕ, List, [], Option, option_map, vec_capacity}
use Rattle.wol_disk.specs.Disk.{Block, Values, State, Rose, settled}
use Rattle.wol_model.specs.Heads.{Shape}
use Rattle.wol_bay.specs.Bay.{Name, BayState, came_back}
use Rattle.wol_bay.specs.Parts.{AreCut, blocks_of, faulty_places}
use Rattle.spin_model.specs.Spun.{state_of}
use Rattle.volume_images.specs.declared.parts.ImageParts.{ImageParts}
use Rattle.volume_images.specs.declared.attach.OutParts.{OutParts}
use Rattle.volume_images.specs.declared.attach.OutImage.{OutImage}
use Rattle.volume_images.specs.declared.reading.ImageFault.{ImageFault}
use Rattle.volume_images.specs.Formatted.{part_sizes}
use Rattle.volume_images.specs.Disks.{disks_of, AreOfVolume}
use Rattle.volume_images.specs.Heads.{AlwaysSay}
use Rattle.volume_images.specs.ImageParts.{IsReadImage, IsCalmImage, MayOpen, MayNotOpen}

-- the parts of a volume's image, cut from these blocks, and an empty list with room for them
pub record IsSentOut {D : Type 0} (state : D → State) (volume : ℕ) (s : Shape)
    (blocks : Option (List (Values Block))) (o : OutParts D) : Type 0 where
  pub cut : AreCut state blocks (part_sizes s) (disks_of o.image)
  pub of_volume : AreOfVolume volume o.image
  pub empty : o.room.items ≡ []
  pub room : 2 + s.segments ≤ vec_capacity o.room

-- the parts that went out were read and not written, and may be opened
pub record IsOpenable {D : Type 0} (state : D → State) (volumes own : ℕ) (s : Shape)
    (before : ImageParts D) (o : OutImage D) : Type 0 where
  pub read : IsReadImage state before o.parts.image
  pub calm : IsCalmImage state before o.parts.image
  pub may : MayOpen state volumes own s before o.view o.heads.items
  -- label and view were synced, and each segment before its head was read
  pub synced : (state_of state o.parts.image.label).values
      ≡ option_map settled (state_of state before.label).values
  pub always : AlwaysSay state volumes o.parts.image.segments.items o.heads.items
  pub of_volume : AreOfVolume own o.parts.image
  pub empty : o.parts.room.items ≡ []
  pub room : 2 + s.segments ≤ vec_capacity o.parts.room

-- the parts that went out were read and not written, may not be opened for this, and are in the bay
-- again
pub record IsGivenBack {D : Type 0} (state : D → State) (volumes own : ℕ) (s : Shape) (name : Name)
    (before : ImageParts D) (old new : BayState) (f : ImageFault) : Type 0 where
  pub after : ImageParts D
  pub read : IsReadImage state before after
  pub refused : MayNotOpen state volumes own s before after f
  pub back : new.told ≡ option_map (came_back name (blocks_of state (disks_of after))
      (faulty_places state (disks_of after))) old.told
  pub cause : faulty_places state (disks_of after) ≢ [] → Rose old.faults new.faults
  pub calm : faulty_places state (disks_of after) ≡ [] → new.faults ≡ old.faults
  pub counts : old.faults ≤ new.faults
