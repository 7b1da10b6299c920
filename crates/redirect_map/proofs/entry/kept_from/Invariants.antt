use Rattle.std.proofs.Common.{take, drop, ◌-◌}
use Rattle.redirect_map.specs.Kept.{IsKept}
use Rattle.redirect_map.proofs.entry.kept_from.Given as goal

-- the blocks that the entries so far keep
abbrev pub invariant-loop-place : goal.invariant-loop-place
invariant-loop-place l = IsKept l.lbn (take (l.place - l.from) (drop l.from l.entries.items)) l.kept
