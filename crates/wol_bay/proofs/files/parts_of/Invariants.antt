use Rattle.std.proofs.Common.{take, None}
use Rattle.wol_bay.specs.FilePart.{file_part_state}
use Rattle.wol_bay.specs.Parts.{AreBlank}
use Rattle.wol_bay.proofs.files.parts_of.Given as goal

abbrev pub invariant-loop-size : goal.invariant-loop-size
invariant-loop-size l = AreBlank file_part_state None (take l.size-index l.sizes) l.parts.items
