-- What the images of a bay say, each of which is in the bay again, and what of it stands in the way of
-- one missing image.
use Rattle.std.specs.Prelude.{◌≡◌, ◌≢◌, ◌≤◌, ℕ, Bool, length, Contains, Option, None, Some, slice_get}
use Rattle.wol_disk.specs.Disk.{State}
use Rattle.wol_bay.specs.Bay.{BayState}
use Rattle.wol_config.specs.declared.config.Config.{Config}
use Rattle.log_layout.specs.declared.segment.SegHead.TheVariants.{Owned}
use Rattle.volume_images.specs.Left.{IsTold}
use Rattle.rack_parts.specs.Closing.{GivesBack}
use Rattle.rack_parts.specs.declared.heads_said.Said.{Said}
use Rattle.rack_parts.specs.declared.volume_fault.VolumeFault.{VolumeFault}
use Rattle.rack_parts.specs.declared.volume_fault.VolumeFault.TheVariants.{Absent}
use Rattle.rack.specs.Opening.{AreAsked}
use Rattle.rack.specs.declared.images.Images.{Images}
use Rattle.rack.specs.declared.missing.MissingFault.{MissingFault}
use Rattle.rack.specs.declared.missing.MissingFault.TheVariants.{There, InView, HasSegment, Refused}
use Rattle.rack.specs.declared.survey.Survey.{Survey}

-- The images were taken out in order and read, and each went back.
pub record Surveys {D : Type 0} (tells : Bool) (state : D → State) (config : Config)
    (b b' : BayState) (s : Survey) : Type 0 where
  pub taken : Images D
  pub during : BayState
  pub asked : AreAsked tells state config b during (length config.volumes.items) taken
  pub given : IsTold (GivesBack state config taken.out.items 0) during.told b'.told
  pub counts : during.faults ≤ b'.faults
  pub said : s.said.items ≡ taken.said.items
  pub faults : s.faults.items ≡ taken.faults.items

-- What volume k stands in the way with, whose image says this or was refused for that: an image that
-- was refused, but that of the volume itself where there is none; its own image; a view that names it;
-- a segment of its log.
pub data Hinders (id k : ℕ) (said : Option Said) (fault : Option VolumeFault) :
    MissingFault → Type 0 where
  refused : (f : VolumeFault) → fault ≡ Some f → (k ≡ id → f ≢ Absent)
      → Hinders id k said fault (Refused k f)
  there : k ≡ id → fault ≡ None → Hinders id k said fault There
  in_view : (own : Said) → k ≢ id → fault ≡ None → said ≡ Some own → Contains own.view id
      → Hinders id k said fault (InView k)
  segment : (own : Said) (index : ℕ) → k ≢ id → fault ≡ None → said ≡ Some own
      → slice_get own.heads.items index ≡ Some (Owned id)
      → Hinders id k said fault (HasSegment k index)

-- it doesn't: its own image isn't there, and another one may be opened, doesn't name it in its view,
-- and has no segment of its log
pub record HindersNot (id k : ℕ) (said : Option Said) (fault : Option VolumeFault) : Type 0 where
  pub own : k ≡ id → fault ≡ Some Absent
  pub other : k ≢ id → fault ≡ None
  pub unnamed : k ≢ id → (says : Said) → said ≡ Some says → Contains says.view id → ⊥
  pub none_of : k ≢ id → (says : Said) → said ≡ Some says
      → Contains says.heads.items (Owned id) → ⊥
