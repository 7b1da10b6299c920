use Rattle.std.proofs.Common.{◌≡◌, ◌≢◌, [], option_map, sym, ap, ◌∙◌, subst, arith}
use Rattle.wol_bay.specs.Bay.{IsOut, came_back}
use Rattle.wol_bay.specs.Parts.{sizes_of, blocks_of, faulty_places}
use Rattle.wol_disk.specs.Disk.{Rose}
use Rattle.log_layout.specs.Values.{shape_of}
use Rattle.volume_images.specs.Formatted.{part_sizes}
use Rattle.volume_images.specs.ImageParts.{ArePartsOf}
use Rattle.volume_images.proofs.ReadOut.{sent_parts, sizes_of_parts, read_parts}
use Rattle.volume_images.proofs.attach.read_out.Goals as goal

pub read_image-requires-clause-parts : goal.read_image-requires-clause-parts
read_image-requires-clause-parts g c =
    let state = g.B.Part.Disk.state in
    let s = shape_of c.args.want.now in
    let o = c.requires.out in
    subst (λ volume. ArePartsOf state volume s c.args.out.image) (sym c.requires.token) (sent_parts state g.met.B.Part.Disk.sound c.args.want.now.id s o.0 c.args.out o.1)

pub put_together-requires-clause-room : goal.put_together-requires-clause-room
put_together-requires-clause-room g c =
    let state = g.B.Part.Disk.state in
    let s = shape_of c.args.want.now in
    let o = c.requires.out in
    let are = sent_parts state g.met.B.Part.Disk.sound c.args.want.now.id s o.0 c.args.out o.1 in
    let read = read_parts state c.args.want.now.id s c.args.out.image c.read_image.new.parts are c.read_image.ensures.read in
    omega (arith, read.count, o.1.room)

pub detach-requires : goal.detach-requires
detach-requires g c =
    let state = g.B.Part.Disk.state in
    let s = shape_of c.args.want.now in
    let o = c.requires.out in
    let are = sent_parts state g.met.B.Part.Disk.sound c.args.want.now.id s o.0 c.args.out o.1 in
    let read = read_parts state c.args.want.now.id s c.args.out.image c.read_image.new.parts are c.read_image.ensures.read in
    let sizes : sizes_of state c.put_together.result.items ≡ part_sizes s = ap (sizes_of state) c.put_together.ensures ∙ sizes_of_parts state c.args.want.now.id s c.read_image.new.parts read in
    subst (λ sizes. IsOut c.args.name.now sizes (g.B.Bay.state c.args.bay.now)) (sym sizes) c.requires.name

pub returns-in-Ok-clause-ok : goal.returns-in-Ok-clause-ok
returns-in-Ok-clause-ok g c =
    let state = g.B.Part.Disk.state in
    let s = shape_of c.args.want.now in
    let o = c.requires.out in
    let are = sent_parts state g.met.B.Part.Disk.sound c.args.want.now.id s o.0 c.args.out o.1 in
    let read = read_parts state c.args.want.now.id s c.args.out.image c.read_image.new.parts are c.read_image.ensures.read in
    record { read = c.read_image.ensures.read; calm = c.in-Ok.ensures.calm; may = c.in-Ok.ensures.ok; synced = c.in-Ok.ensures.synced; always = c.in-Ok.ensures.always; of_volume = read.of_volume; empty = o.1.empty; room = o.1.room }

pub returns-in-Err-clause-refused : goal.returns-in-Err-clause-refused
returns-in-Err-clause-refused g c =
    let state = g.B.Part.Disk.state in
    let old = g.B.Bay.state c.args.bay.now in
    let new = g.B.Bay.state c.detach.new.self in
    record {
      after = c.read_image.new.parts;
      read = c.read_image.ensures.read;
      refused = c.in-Err.ensures.refused;
      back = subst (λ parts. new.told ≡ option_map (came_back c.args.name.now (blocks_of state parts) (faulty_places state parts)) old.told) c.put_together.ensures c.detach.ensures.back;
      cause = subst (λ parts. faulty_places state parts ≢ [] → Rose old.faults new.faults) c.put_together.ensures c.detach.ensures.cause;
      calm = subst (λ parts. faulty_places state parts ≡ [] → new.faults ≡ old.faults) c.put_together.ensures c.detach.ensures.calm;
      counts = c.detach.ensures.counts;
    }
