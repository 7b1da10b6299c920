use Rattle.std.proofs.Common.{◌≡◌, ℕ, List, sym, ◌∙◌, subst, arith}
use Rattle.wol_bay.specs.Parts.{AreCut}
use Rattle.wol_bay.specs.Refusals.{blocks_at}
use Rattle.log_layout.specs.Values.{shape_of}
use Rattle.volume_images.specs.Formatted.{part_sizes}
use Rattle.volume_images.proofs.Freeing.{parts_count}
use Rattle.volume_images.proofs.SentOut.{cut_sizes}
use Rattle.volume_images.proofs.attach.send_out.Goals as goal

pub take_apart-image-requires-clause-room : goal.take_apart-image-requires-clause-room
take_apart-image-requires-clause-room g c =
    let state = g.B.Part.Disk.state in
    let s = shape_of c.args.want.now in
    let parts = c.in-Ok-attach.parts.items in
    let count = parts_count state s parts (cut_sizes state g.met.B.Part.Disk.sound (blocks_at c.args.name.now (g.B.Bay.state c.args.bay.now).told) c.deref.result.now parts c.in-Ok-attach.ensures.parts ∙ c.deref.ensures.value ∙ c.in-Ok.ensures) in
    omega (arith, count, c.in-Ok-with_capacity.ensures.exact)

pub returns-in-Ok-attach-clause-out : goal.returns-in-Ok-attach-clause-out
returns-in-Ok-attach-clause-out g c =
    let state = g.B.Part.Disk.state in
    let s = shape_of c.args.want.now in
    let parts = c.in-Ok-attach.parts.items in
    let blocks = blocks_at c.args.name.now (g.B.Bay.state c.args.bay.now).told in
    let are : c.deref.result.now ≡ part_sizes s = c.deref.ensures.value ∙ c.in-Ok.ensures in
    let count = parts_count state s parts (cut_sizes state g.met.B.Part.Disk.sound blocks c.deref.result.now parts c.in-Ok-attach.ensures.parts ∙ are) in
    record {
      cut = subst (λ (disks : List g.row.B-Part.Denot). AreCut state blocks (part_sizes s) disks) (sym c.take_apart-image.ensures.parts) (subst (λ (sizes : List ℕ). AreCut state blocks sizes parts) are c.in-Ok-attach.ensures.parts);
      of_volume = c.take_apart-image.ensures.volume;
      empty = c.take_apart-image.ensures.empty;
      room = omega (arith, count, c.take_apart-image.ensures.capacity);
    }
