use Rattle.std.proofs.Common.{◌≡◌, ◌≤◌, ◌+◌, ◌++◌, map, reverse, vec_len, vec_capacity}
use Rattle.spin_model.specs.Spun.{disk_of}
use Rattle.spin_model.specs.declared.spun.Spun.{Spun}
use Rattle.volume_images.specs.Disks.{disks_of}
use Rattle.volume_images.proofs.parts.ImageParts.put_together.Given as goal

-- the parts so far, and those of the segments that are left, the last one first
abbrev pub invariant-loop-segment : goal.invariant-loop-segment
invariant-loop-segment g l = record {
  kept : l.parts.items ++ map (λ (q : Spun g.row.D.Denot). disk_of q) (reverse l.segments.items) ≡ disks_of l.fn.self;
  room : vec_len l.parts + vec_len l.segments ≤ vec_capacity l.parts;
}

abbrev pub decreases-loop-segment : goal.decreases-loop-segment
decreases-loop-segment g l = vec_len l.segments
