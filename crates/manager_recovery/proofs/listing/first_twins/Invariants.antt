use Rattle.std.proofs.Common.{map, take}
use Rattle.wol_model.specs.Index.{AreRising}
use Rattle.manager_recovery.specs.declared.listing.FoundRecord.{FoundRecord}
use Rattle.manager_recovery.proofs.listing.first_twins.Given as goal

abbrev pub invariant-loop-k : goal.invariant-loop-k
invariant-loop-k l = AreRising (map (λ (r : FoundRecord). r.entry.version) (take l.k l.listed))
