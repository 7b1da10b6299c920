use Rattle.std.proofs.Common.{Some, ap, ◌∙◌, arith}
use Rattle.std.specs.Prelude.{string_bytes}
use Rattle.wol_bay.specs.Bay.{without}
use Rattle.wol_bay.specs.Names.{by_name}
use Rattle.wol_bay.proofs.BayMoves.{sent}
use Rattle.wol_bay.proofs.ImagesApart.{left_apart}
use Rattle.wol_bay.proofs.memory.MemBay.send_out.Goals as goal

pub returns-clause-ok : goal.returns-clause-ok
returns-clause-ok c = ap Some (sent c.args.name.now c.args.sizes.now c.args.self.now.images.items c.take_by_name-gone.new.entries.items c.args.self.now.out.items c.push.new.self.items c.args.self.now.faulty.items c.reserve-2.new.self.items c.in_ok-leave.leave
    (c.take_by_name-gone.ensures.entries ∙ ap (λ l. without c.args.name.now (by_name (λ image. string_bytes image.name) l)) c.reserve.ensures.items)
    c.in_ok-push.ensures.items c.in_ok-leave.ensures.name c.in_ok-leave.ensures.sizes c.reserve-2.ensures.items)

pub invariant_of-self : goal.invariant_of-self
invariant_of-self c = record {
  image_room = omega (arith, c.args.self.now.image_room, c.reserve.ensures.len, c.reserve.ensures.capacity);
  faulty_room = c.args.self.now.faulty_room;
  apart = rw c.reserve.ensures.items c.args.self.now.apart;
}

pub invariant_of-self-in-Break-branch-3 : goal.invariant_of-self-in-Break-branch-3
invariant_of-self-in-Break-branch-3 c = record {
  image_room = omega (arith, c.args.self.now.image_room, c.reserve.ensures.len, c.reserve.ensures.capacity);
  faulty_room = omega (arith, c.args.self.now.faulty_room, c.reserve-2.ensures.len, c.reserve-2.ensures.capacity);
  apart = rw c.reserve.ensures.items c.args.self.now.apart;
}

pub invariant_of-self-in-Break-branch-4 : goal.invariant_of-self-in-Break-branch-4
invariant_of-self-in-Break-branch-4 c = record {
  image_room = omega (arith, c.args.self.now.image_room, c.reserve.ensures.len, c.in_ok-reserve.ensures.ok, c.len-more.ensures, c.push.ensures.upper_bound);
  faulty_room = omega (arith, c.args.self.now.faulty_room, c.reserve-2.ensures.len, c.in_ok-reserve-2.ensures.ok, c.len-more.ensures, c.push.ensures.upper_bound);
  apart = rw c.reserve.ensures.items c.args.self.now.apart;
}

pub invariant_of-self-2-clause-apart : goal.invariant_of-self-2-clause-apart
invariant_of-self-2-clause-apart c =
    let name = c.args.name.now in
    let images = c.args.self.now.images.items in
    left_apart name images c.take_by_name-gone.new.entries.items c.args.self.now.apart
    (c.take_by_name-gone.ensures.entries ∙ ap (λ l. without name (by_name (λ image. string_bytes image.name) l)) c.reserve.ensures.items)
