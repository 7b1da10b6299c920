-- What is told of a volume that isn't in order.
use Rattle.manager.specs.declared.part.Part.{Part}
use Rattle.manager.specs.declared.part.Part.TheVariants as part
use Rattle.manager_recovery.specs.declared.refusal.OpenRefusal.{OpenRefusal}
use Rattle.manager_recovery.specs.declared.refusal.OpenRefusal.TheVariants as refusal
use Rattle.rack_parts.specs.declared.volume_fault.VolumeFault.{VolumeFault}
use Rattle.rack_parts.specs.declared.volume_fault.VolumeFault.TheVariants as fault
use Rattle.report.specs.declared.trouble.Trouble.{Trouble}
use Rattle.report.specs.declared.trouble.Trouble.TheVariants.{Absent, Length, LabelDiffers, Damaged, Twins, OutsideView, LoggerMissing, Bay, Label, Home, Segment}

-- a part a call of which failed
abbrev pub trouble_of_part : Part → Trouble
trouble_of_part (part.Home volume) = Home
trouble_of_part (part.Segment volume index) = Segment volume index

-- why a volume couldn't be opened of its image; no volume is refused for want of memory
abbrev pub trouble_of_refusal : OpenRefusal → Trouble
trouble_of_refusal refusal.LabelDiffers = LabelDiffers
trouble_of_refusal (refusal.Damaged volume block) = Damaged volume block
trouble_of_refusal (refusal.LoggerMissing id) = LoggerMissing id
trouble_of_refusal (refusal.OutsideView logger segment) = OutsideView logger segment
trouble_of_refusal (refusal.DiskFault p) = trouble_of_part p
trouble_of_refusal refusal.NoMemory = Bay
trouble_of_refusal (refusal.Twins first_volume first second_volume second) =
    Twins first_volume first second_volume second

-- why a volume has no station
abbrev pub trouble_of : VolumeFault → Trouble
trouble_of fault.Absent = Absent
trouble_of (fault.WrongLength bytes) = Length bytes
trouble_of (fault.Refused r) = trouble_of_refusal r
trouble_of fault.LabelFault = Label
trouble_of fault.BayFailed = Bay
