use Rattle.std.proofs.Common.{◌≡◌, inl, ◌+◌, List, ◌∷◌, ap, ◌∙◌, subst, arith}
use Rattle.wol_disk.specs.Disk.{Block}
use Rattle.log_layout.specs.Values.{shape_of}
use Rattle.volume_images.specs.Settled.{AreSettled}
use Rattle.volume_images.specs.Formatted.{part_sizes}
use Rattle.volume_images.proofs.SettledParts.{settled_images}
use Rattle.volume_images.proofs.Freeing.{freed, free_step, all_freed, in_front, size_at, parts_count, segment_size, on_success}
use Rattle.volume_images.proofs.image.free_segments.Goals as goal

pub store-requires-clause-fits : goal.store-requires-clause-fits
store-requires-clause-fits g c = λ d.
    let state = g.D.Disk.state in
    let s = shape_of c.args.label.now in
    let parts = c.loop-index.parts.items in
    let count = parts_count state s parts (c.loop-index.invariant.sizes ∙ c.requires.sizes) in
    let e = size_at state parts (part_sizes s) (2 + c.loop-index.index) s.segment_blocks d (omega (arith, count)) (c.loop-index.invariant.sizes ∙ c.requires.sizes) (segment_size s c.loop-index.index (omega arith)) in
    omega (arith, e)

pub returns-then-is_err-clause-images : goal.returns-then-is_err-clause-images
returns-then-is_err-clause-images g c = λ front home d s i.
    let so_far = freed c.loop-index.index c.args.label.now.segments c.args.label.now.segment_blocks in
    in_front front home d c.loop-index.index so_far (c.store.ensures.images (front ∷ home ∷ so_far) d (c.loop-index.invariant.settled front home s) i)

pub loop-index-preserved : goal.loop-index-preserved
loop-index-preserved g c = record {
  sizes = c.store.ensures.sizes ∙ c.loop-index.invariant.sizes;
  settled = λ front home s.
      let n = c.args.label.now.segments in
      let blocks = c.args.label.now.segment_blocks in
      let so_far = freed c.loop-index.index n blocks in
      let next = on_success c.store.result c.is_err.result c.is_err.ensures.value c.if-is_err.false (c.store.ensures.ok (front ∷ home ∷ so_far) (c.loop-index.invariant.settled front home s)) in
      subst (λ (l : List (List Block)). AreSettled g.D.Disk.state l c.store.new.parts.items) (free_step front home c.loop-index.index n blocks (omega arith) (omega arith)) next;
  told = λ told. c.store.ensures.told (c.loop-index.invariant.told told);
}

pub returns-clause-ok : goal.returns-clause-ok
returns-clause-ok g c = λ front home s.
    let n = c.args.label.now.segments in
    let blocks = c.args.label.now.segment_blocks in
    let e : c.loop-index.index ≡ n = omega arith in
    subst (λ (l : List (List Block)). AreSettled g.D.Disk.state (front ∷ home ∷ l) c.loop-index.parts.items) (ap (λ k. freed k n blocks) e ∙ all_freed n blocks) (c.loop-index.invariant.settled front home s)

pub returns-clause-images : goal.returns-clause-images
returns-clause-images g c = λ front home d s i.
    let so_far = freed c.loop-index.index c.args.label.now.segments c.args.label.now.segment_blocks in
    in_front front home d 0 so_far (inl (settled_images g.D.Disk.state (front ∷ home ∷ so_far) c.loop-index.parts.items d (c.loop-index.invariant.settled front home s) i))
