use Rattle.std.proofs.Common.{◌≡◌, take}
use Rattle.manager_recovery.specs.Scanned.{entries_from}
use Rattle.manager_recovery.proofs.filling.fill_index.Given as goal

abbrev pub invariant-loop-one : goal.invariant-loop-one
invariant-loop-one l = l.index.entries ≡ entries_from (take l.one-index l.listed)
