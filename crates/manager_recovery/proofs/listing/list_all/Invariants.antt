use Rattle.std.proofs.Common.{◌≡◌, take}
use Rattle.manager_recovery.specs.Scanned.{all_found}
use Rattle.manager_recovery.proofs.listing.list_all.Given as goal

abbrev pub invariant-loop-k : goal.invariant-loop-k
invariant-loop-k g l = l.listed.items ≡ all_found l.view (take l.k l.owned) (take l.k l.scans)
