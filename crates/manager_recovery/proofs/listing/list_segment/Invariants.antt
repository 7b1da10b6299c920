use Rattle.std.proofs.Common.{◌≡◌, ◌++◌, map, take}
use Rattle.std.specs.List.{filter}
use Rattle.manager_recovery.specs.Scanned.{record_in, keeps_some}
use Rattle.manager_recovery.proofs.listing.list_segment.Given as goal

abbrev pub invariant-loop-one : goal.invariant-loop-one
invariant-loop-one g l = l.listed.items ≡ l.fn.listed.items ++ map (record_in l.lane l.owned) (filter keeps_some (take l.one-index l.found))
