use Rattle.std.proofs.Common.{◌≡◌, take}
use Rattle.wol_disk.specs.Disk.{fresh}
use Rattle.wol_disk.specs.Record.{block_after}
use Rattle.wol_disk.specs.BlockValues.{values_of}
use Rattle.wol_disk.proofs.values.BlockValues.after.Given as goal

abbrev pub invariant-loop-call : goal.invariant-loop-call
invariant-loop-call l = values_of l.values ≡ block_after l.i (take l.call-index l.calls) (fresh l.first)
