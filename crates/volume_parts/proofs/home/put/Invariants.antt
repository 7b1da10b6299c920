use Rattle.std.proofs.Common.{length, ◌-◌, ◌+◌, ◌≤◌}
use Rattle.volume_parts.specs.Changes.{put_block}
use Rattle.volume_parts.proofs.Accesses.{Putting}
use Rattle.volume_parts.proofs.home.put.Given as goal

-- the runs before this block are written
abbrev pub invariant-loop-at : goal.invariant-loop-at
invariant-loop-at g l = (l.at ≤ length l.from) × Putting g.D.Disk.state l.fn.part l.part (put_block l.lbn l.mask l.from) (l.lbn + l.at)

abbrev pub decreases-loop-at : goal.decreases-loop-at
decreases-loop-at g l = length l.from - l.at
