use Rattle.std.proofs.Common.{◌≡◌, ◌++◌, take, drop}
use Rattle.wol_disk.specs.Disk.{only}
use Rattle.wol_disk.specs.Record.{chosen}
use Rattle.wol_bay.specs.Stored.{stored_blocks}
use Rattle.wol_bay.proofs.restart.restart_parts.Given as goal

-- the parts so far are as chosen
abbrev pub invariant-loop-part : goal.invariant-loop-part
invariant-loop-part l = only (chosen l.choice (stored_blocks l.initial.parts)) ≡ stored_blocks (take l.part-index l.parts) ++ only (chosen l.rest (stored_blocks (drop l.part-index l.parts)))
