use Rattle.std.proofs.Common.{◌≡◌, ◌≤◌, ℕ, length, get_or, vec_capacity}
use Rattle.spin_model.specs.declared.spun.Spun.{Spun}
use Rattle.volume_images.specs.Reads.{AreOnlyRead}
use Rattle.volume_images.specs.Heads.{SayHeads, AlwaysSay, AreCalm}
use Rattle.volume_images.proofs.reading.read_heads.Given as goal

-- the heads before the one at hand were read, and the segments from there on are as they were
abbrev pub invariant-loop-index : goal.invariant-loop-index
invariant-loop-index g l = record {
  heads : SayHeads g.D.Disk.state l.volumes l.fn.segments l.index l.heads.items;
  room : length l.fn.segments ≤ vec_capacity l.heads;
  always : AlwaysSay g.D.Disk.state l.volumes l.segments l.heads.items;
  read : AreOnlyRead g.D.Disk.state l.fn.segments l.segments;
  calm : AreCalm g.D.Disk.state l.fn.segments l.segments;
  rest : (k : ℕ) (d : Spun g.row.D.Denot) → l.index ≤ k → get_or l.segments k d ≡ get_or l.fn.segments k d;
}
