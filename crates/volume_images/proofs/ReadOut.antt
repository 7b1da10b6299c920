-- The parts of an image keep their volume and sizes while they are read.
use Rattle.std.proofs.Common.{◌≡◌, ℕ, zero, suc, ◌<◌, List, [], ◌∷◌, length, map, replicate, get_or, Option, refl, ap, ◌∙◌, arith}
use Rattle.std.specs.Prelude.{All}
use Rattle.std.proofs.lemmas.List.{length-map}
use Rattle.wol_disk.specs.Disk.{State, IsDisk, Block, Values}
use Rattle.wol_model.specs.Heads.{Shape}
use Rattle.wol_bay.specs.Parts.{sizes_of}
use Rattle.spin_model.specs.Spun.{state_of, disk_of, volume_of}
use Rattle.spin_model.specs.declared.spun.Spun.{Spun}
use Rattle.volume_images.specs.declared.parts.ImageParts.{ImageParts}
use Rattle.volume_images.specs.Formatted.{part_sizes}
use Rattle.volume_images.specs.Disks.{disks_of, AreOfVolume}
use Rattle.volume_images.specs.ImageParts.{ArePartsOf, IsReadImage}
use Rattle.volume_images.specs.declared.attach.OutParts.{OutParts}
use Rattle.volume_images.specs.Sent.{IsSentOut}
use Rattle.volume_images.proofs.Freeing.{parts_count}
use Rattle.volume_images.proofs.SentOut.{cut_sizes}

module _ {D : Type 0} (state : D → State) where
  abbrev disks : List (Spun D) → List D
  disks segments = map (λ (q : Spun D). disk_of q) segments

  each_sized : (n blocks : ℕ) (segments : List (Spun D)) → sizes_of state (disks segments) ≡ replicate n blocks → (k : ℕ) (d : Spun D) → k < length segments → (state_of state (get_or segments k d)).size ≡ blocks
  each_sized n blocks [] e k d lt = absurd (omega arith)
  each_sized zero blocks (q ∷ qs) e k d lt = absurd (cc e)
  each_sized (suc n) blocks (q ∷ qs) e zero d lt = let one : (state (disk_of q)).size ≡ blocks = cc in one
  each_sized (suc n) blocks (q ∷ qs) e (suc k) d lt =
      let more : sizes_of state (disks qs) ≡ replicate n blocks = cc in
      each_sized n blocks qs more k d (omega (arith, lt))

  sized_each : (n blocks : ℕ) (segments : List (Spun D)) → length segments ≡ n → All (λ (q : Spun D). (state_of state q).size ≡ blocks) segments → sizes_of state (disks segments) ≡ replicate n blocks
  sized_each zero blocks [] e all = refl
  sized_each (suc n) blocks [] e all = absurd (omega (arith, e))
  sized_each zero blocks (q ∷ qs) e all = absurd (omega (arith, e))
  sized_each (suc n) blocks (q ∷ qs) e all =
      λ i. all 0 q (omega arith) i ∷ sized_each n blocks qs (omega (arith, e)) (λ k d lt. all (suc k) d (omega (arith, lt))) i

  -- parts of these sizes are those of such an image
  pub parts_of : (volume : ℕ) (s : Shape) (p : ImageParts D) → sizes_of state (disks_of p) ≡ part_sizes s → AreOfVolume volume p → ArePartsOf state volume s p
  parts_of volume s p e of =
      let label : (state (disk_of p.label)).size ≡ 2 = cc in
      let home : (state (disk_of p.home)).size ≡ s.home = cc in
      let rest : sizes_of state (disks p.segments.items) ≡ replicate s.segments s.segment_blocks = cc in
      let count = parts_count state s (disks_of p) e in
      let long = length-map p.segments.items (λ (q : Spun D). disk_of q) in
      record { label = label; home = home; count = omega (arith, count, long); segments = each_sized s.segments s.segment_blocks p.segments.items rest; of_volume = of }

  pub sizes_of_parts : (volume : ℕ) (s : Shape) (p : ImageParts D) → ArePartsOf state volume s p → sizes_of state (disks_of p) ≡ part_sizes s
  sizes_of_parts volume s p are = λ i. are.label i ∷ are.home i ∷ sized_each s.segments s.segment_blocks p.segments.items are.count are.segments i

  -- also once they were read
  pub read_parts : (volume : ℕ) (s : Shape) (old new : ImageParts D) → ArePartsOf state volume s old → IsReadImage state old new → ArePartsOf state volume s new
  read_parts volume s old new are read = record {
    label = read.label.size ∙ are.label;
    home = ap (λ (q : Spun D). (state_of state q).size) read.home ∙ are.home;
    count = read.segments.count ∙ are.count;
    segments = λ k d lt. let below : k < length old.segments.items = omega (arith, lt, read.segments.count) in (read.segments.each k d below).size ∙ are.segments k d below;
    of_volume = record {
      label = read.label_volume ∙ are.of_volume.label;
      home = ap (λ (q : Spun D). volume_of q) read.home ∙ are.of_volume.home;
      segments = λ k d lt. let below : k < length old.segments.items = omega (arith, lt, read.segments.count) in read.segments.volume k d below ∙ are.of_volume.segments k d below;
    };
  }

  -- the parts that went out
  pub sent_parts : ((d : D) → IsDisk (state d)) → (volume : ℕ) (s : Shape) (blocks : Option (List (Values Block))) (o : OutParts D) → IsSentOut state volume s blocks o → ArePartsOf state volume s o.image
  sent_parts sound volume s blocks o sent = parts_of volume s o.image (cut_sizes state sound blocks (part_sizes s) (disks_of o.image) sent.cut) sent.of_volume
