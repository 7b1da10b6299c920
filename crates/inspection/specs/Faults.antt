-- What a refusal comes of, and what it leaves in the volume's history.
use Rattle.std.specs.Prelude.{[], Result, Ok, Err}
use Rattle.wol_model.specs.History.{Operation, Kept, Broke}
use Rattle.manager.specs.declared.part.ReadRefusal.{ReadRefusal}
use Rattle.manager.specs.declared.part.ReadRefusal.TheVariants as read
use Rattle.inspection.specs.declared.fault.DumpFault.{DumpFault}
use Rattle.inspection.specs.declared.fault.DumpFault.TheVariants.{DiskFault, Down, NoMemory}

-- a refused read as the fault of the whole call
abbrev pub refused : ReadRefusal → DumpFault
refused (read.DiskFault p) = DiskFault p
refused (read.Down p) = Down p

-- what a call with this answer leaves: readers see no change; a disk call that failed had no writes
-- in flight
abbrev pub was_told : {T : Type 0} → Result T DumpFault → Operation
was_told (Ok _) = Kept
was_told (Err (DiskFault p)) = Broke []
was_told (Err (Down p)) = Kept
was_told (Err NoMemory) = Kept
