use Rattle.std.proofs.Common.{◌≡◌, ◌-◌, ◌^◌, filter}
use Rattle.volume_parts.specs.Entries.{entries_at}
use Rattle.volume_parts.proofs.Forgetting.{left_from}
use Rattle.volume_parts.proofs.leaving.forget.Given as goal

abbrev pub invariant-records : goal.invariant-records
invariant-records l = (l.index.entries ≡ filter (left_from l.lane l.segment l.from) l.initial.index.entries) × (entries_at l.lane l.segment l.index.entries ≡ l.left)

abbrev pub decreases-records : goal.decreases-records
decreases-records l = 2 ^ 63 - l.from
