use Rattle.std.proofs.Common.{◌≡◌, Some, ap, ◌∙◌, arith}
use Rattle.std.specs.Prelude.{string_bytes}
use Rattle.wol_bay.specs.Bay.{Name, Image, without, image_of}
use Rattle.wol_bay.specs.Names.{by_name}
use Rattle.wol_bay.proofs.BayMoves.{replaced}
use Rattle.wol_bay.proofs.ImagesApart.{placed_apart}
use Rattle.wol_bay.proofs.memory.MemBay.put.Goals as goal

pub returns-clause-ok : goal.returns-clause-ok
returns-clause-ok c =
    let bay = c.args.self.now in
    let more = c.push_reserved.ensures.items in
    ap Some (replaced c.args.name.now (image_of c.args.image.now) bay.images.items c.take_by_name-replaced.new.entries.items c.push_reserved.new.self.items bay.out.items bay.faulty.items c.in_ok-made.made
    (c.take_by_name-replaced.ensures.entries ∙ ap (λ l. without c.args.name.now (by_name (λ image. string_bytes image.name) l)) c.reserve.ensures.items)
    more c.in_ok-made.ensures)

pub invariant_of-self : goal.invariant_of-self
invariant_of-self c = record {
  image_room = omega (arith, c.args.self.now.image_room, c.reserve.ensures.len, c.reserve.ensures.capacity);
  faulty_room = c.args.self.now.faulty_room;
  apart = rw c.reserve.ensures.items c.args.self.now.apart;
}

pub invariant_of-self-2-clause-apart : goal.invariant_of-self-2-clause-apart
invariant_of-self-2-clause-apart c =
    let name = c.args.name.now in
    let bay = c.args.self.now in
    let more = c.push_reserved.ensures.items in
    let named : string_bytes c.in_ok-made.made.name ≡ name = ap (λ (e : Name × Image). e.0) c.in_ok-made.ensures in
    placed_apart name bay.images.items c.take_by_name-replaced.new.entries.items bay.apart
    (c.take_by_name-replaced.ensures.entries ∙ ap (λ l. without name (by_name (λ image. string_bytes image.name) l)) c.reserve.ensures.items)
    c.push_reserved.new.self.items c.in_ok-made.made more named
