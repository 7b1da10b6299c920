-- What a run of `format NAME` ends with, and why.
use Rattle.std.proofs.Common.{◌≡◌, ◌≢◌, ◌⊎◌, inl, inr, ℕ, Bool, true, false, [], refl, sym, subst, true≢false}
use Rattle.wol_disk.specs.Disk.{Rose, State}
use Rattle.wol_bay.specs.Bay.{BayState}
use Rattle.wol_config.specs.declared.config.Config.{Config}
use Rattle.wol_config.specs.declared.config.VolumeConf.{VolumeConf}
use Rattle.manager.specs.declared.part.Part.TheVariants as manager_part
use Rattle.volume_images.specs.Refusals.{IsCallFault}
use Rattle.volume_images.specs.declared.fault.PartName.TheVariants as part
use Rattle.volume_images.specs.declared.fault.RackFault.TheVariants as rack_fault
use Rattle.volume_images.specs.declared.reading.ImageFault.{ImageFault}
use Rattle.volume_images.specs.declared.reading.ImageFault.TheVariants as image_fault
use Rattle.rack_parts.specs.declared.volume_fault.VolumeFault.{VolumeFault}
use Rattle.rack_parts.specs.declared.volume_fault.VolumeFault.TheVariants as volume_fault
use Rattle.rack.specs.Missing.{RefusesMissing}
use Rattle.rack.specs.Opens.{RefusesVolume, fault_in_image}
use Rattle.rack.specs.Troubles.{trouble_of}
use Rattle.rack.specs.declared.missing.MissingFault.{MissingFault}
use Rattle.rack.specs.declared.missing.MissingFault.TheVariants.{There, InView, HasSegment, Refused, Format}
use Rattle.report.specs.Troubles.{trouble_status}
use Rattle.wol_run.specs.Adding.{missing_status}
use Rattle.wol_run.proofs.FormatEndings.{status_four}

-- the status of an image that is refused by itself: a failed call, or what it says
abbrev pub IsImageStatus : (old new : BayState) → (status : ℕ) → Type 0
IsImageStatus old new status = ((status ≡ 4) × Rose old.faults new.faults) ⊎ (status ≡ 5) ⊎ (status ≡ 12)

read_status : (id : ℕ) (old new : BayState) (f : ImageFault) → (IsCallFault f → Rose old.faults new.faults) → IsImageStatus old new (trouble_status (trouble_of (fault_in_image id f)))
read_status id old new (image_fault.Damaged block) cause = inr (inl refl)
read_status id old new image_fault.LabelDiffers cause = inr (inl refl)
read_status id old new image_fault.LabelFault cause = inl (refl, cause tt)
read_status id old new (image_fault.SegmentFault index) cause = inl (refl, cause tt)

pub image_status : {D : Type 0} (tells : Bool) (state : D → State) (config : Config) (old new : BayState) (k : ℕ) (v : VolumeConf) (f : VolumeFault) → RefusesVolume {D = D} tells state config [] old new k v f
    → IsImageStatus old new (trouble_status (trouble_of f))
image_status tells state config old new k v volume_fault.Absent is = inr (inr refl)
image_status tells state config old new k v (volume_fault.WrongLength bytes) is = inr (inl refl)
image_status tells state config old new k v volume_fault.BayFailed is = inl (refl, is.1)
image_status tells state config old new k v volume_fault.LabelFault is =
    subst (λ (g : VolumeFault). IsImageStatus old new (trouble_status (trouble_of g))) (sym is.is_fault) (read_status k old new is.image_fault is.cause)
image_status tells state config old new k v (volume_fault.Refused r) (inl is) =
    subst (λ (g : VolumeFault). IsImageStatus old new (trouble_status (trouble_of g))) (sym is.is_fault) (read_status k old new is.image_fault is.cause)
image_status tells state config old new k v (volume_fault.Refused r) (inr is) = absurd (true≢false (sym is.is_out))

-- why an image wasn't made, by the status that tells it
pub data MissingEnd (old new : BayState) (f : MissingFault) : ℕ → Type 0 where
  failed : Rose old.faults new.faults → MissingEnd old new f 4
  memory : MissingEnd old new f 9
  there : f ≡ There → MissingEnd old new f 15
  in_view : (k : ℕ) → f ≡ InView k → MissingEnd old new f 15
  segment : (k index : ℕ) → f ≡ HasSegment k index → MissingEnd old new f 15
  image : (k : ℕ) (g : VolumeFault) → f ≡ Refused k g → (trouble_status (trouble_of g) ≡ 5) ⊎ (trouble_status (trouble_of g) ≡ 12) → MissingEnd old new f (trouble_status (trouble_of g))

pub missing_end : {D : Type 0} (tells : Bool) (state : D → State) (config : Config) (id : ℕ) (old new : BayState) (f : MissingFault) → RefusesMissing {D = D} tells state config id old new f → MissingEnd old new f (missing_status f)
missing_end tells state config id old new There is = there refl
missing_end tells state config id old new (InView k) is = in_view k refl
missing_end tells state config id old new (HasSegment k index) is = segment k index refl
missing_end tells state config id old new (Refused k g) is = by (trouble_status (trouble_of g)) refl (image_status tells state config old new k is.1 g is.3)
  where
    by : (n : ℕ) → trouble_status (trouble_of g) ≡ n → IsImageStatus old new (trouble_status (trouble_of g)) → MissingEnd old new (Refused k g) (trouble_status (trouble_of g))
    by n same (inl (four, rose)) = subst (MissingEnd old new (Refused k g)) (sym four) (failed rose)
    by n same (inr other) = image k g refl other
missing_end tells state config id old new (Format (rack_fault.Failed n p)) is = subst (MissingEnd old new (Format (rack_fault.Failed n p))) (sym (status_four n p)) (failed is.1)
missing_end tells state config id old new (Format rack_fault.NoMemory) is = memory
