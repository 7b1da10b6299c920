use Rattle.std.proofs.Common.{◌≡◌, List, ◌∷◌, replicate}
use Rattle.std.specs.Prelude.{IsSome}
use Rattle.wol_disk.specs.Disk.{Block}
use Rattle.wol_disk.specs.Zeros.{zeros}
use Rattle.wol_bay.specs.Parts.{sizes_of, blocks_of}
use Rattle.volume_images.specs.Settled.{AreSettled}
use Rattle.volume_images.proofs.Freeing.{freed}
use Rattle.volume_images.proofs.image.free_segments.Given as goal

-- the segments before the one at hand are free
abbrev pub invariant-loop-index : goal.invariant-loop-index
invariant-loop-index g l = record {
  sizes : sizes_of g.D.Disk.state l.parts.items ≡ sizes_of g.D.Disk.state l.fn.parts.items;
  settled : (front home : List Block) → AreSettled g.D.Disk.state (front ∷ home ∷ replicate l.label.segments (zeros l.label.segment_blocks)) l.fn.parts.items
      → AreSettled g.D.Disk.state (front ∷ home ∷ freed l.index l.label.segments l.label.segment_blocks) l.parts.items;
  told : IsSome (blocks_of g.D.Disk.state l.fn.parts.items) → IsSome (blocks_of g.D.Disk.state l.parts.items);
}
