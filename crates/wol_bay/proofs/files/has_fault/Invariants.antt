use Rattle.std.proofs.Common.{◌≡◌, drop}
use Rattle.wol_bay.specs.FilePart.{file_part_state}
use Rattle.wol_bay.specs.Parts.{faulty_from}
use Rattle.wol_bay.proofs.files.has_fault.Given as goal

abbrev pub invariant-loop-part : goal.invariant-loop-part
invariant-loop-part l = faulty_from 0 file_part_state l.parts ≡ faulty_from l.part-index file_part_state (drop l.part-index l.parts)
