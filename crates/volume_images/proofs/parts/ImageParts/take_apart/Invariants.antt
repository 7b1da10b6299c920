use Rattle.std.proofs.Common.{◌≡◌, ◌≤◌, ◌+◌, ◌++◌, map, reverse, vec_len, vec_capacity}
use Rattle.std.specs.Prelude.{All}
use Rattle.spin_model.specs.Spun.{disk_of, volume_of}
use Rattle.spin_model.specs.declared.spun.Spun.{Spun}
use Rattle.volume_images.proofs.parts.ImageParts.take_apart.Given as goal

-- the parts that are left, and the segments so far, the last one first
abbrev pub invariant-loop-parts : goal.invariant-loop-parts
invariant-loop-parts g l = record {
  kept : l.parts.items ++ map (λ (q : Spun g.row.D.Denot). disk_of q) (reverse l.segments.items) ≡ l.fn.parts.items;
  volume : All (λ (q : Spun g.row.D.Denot). volume_of q ≡ l.volume) l.segments.items;
  two : 2 ≤ vec_len l.parts;
  room : vec_len l.parts + vec_len l.segments ≤ vec_capacity l.segments + 2;
  capacity : vec_capacity l.parts ≡ vec_capacity l.fn.parts;
}

abbrev pub decreases-loop-parts : goal.decreases-loop-parts
decreases-loop-parts g l = vec_len l.parts
