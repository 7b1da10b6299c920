use Rattle.rack_parts.proofs.Basics.{◌≡◌, ◌<◌, None, length, refl, ap, ◌∙◌, arith, get_or_read}
use Rattle.rack_parts.proofs.Terms.{with_home, image_here}
use Rattle.rack_parts.proofs.LanesMoved.{home_moved, place_in}
use Rattle.rack_parts.proofs.Members.{some_within}
use Rattle.rack_parts.proofs.rack.Rest.take_home.Goals as goal

pub index_mut-requires : goal.index_mut-requires
index_mut-requires g c = let within = some_within c.args.self.now.images.items c.args.id c.requires.out in omega (arith, within, c.args.self.now.images.ok.0)

pub take_home-home-requires : goal.take_home-home-requires
take_home-home-requires g c =
    let r = c.args.self.now in
    let was : c.index_mut.result.now ≡ image_here r.images.items c.args.id = get_or_read r.images.items c.args.id c.index_mut.result.now (some_within r.images.items c.args.id c.requires.out) c.index_mut.ensures.value None in
    record { there = rw was c.requires.out; here = rw was c.requires.home }

pub index_mut-requires-2 : goal.index_mut-requires-2
index_mut-requires-2 g c = (place_in c.args.self.now c.args.id c.args.id c.args.id c.index_mut-passes.result.now c.requires.place c.index_mut-passes.ensures.value refl).1

pub returns-clause-home : goal.returns-clause-home
returns-clause-home g c = λ x there.
    let r = c.args.self.now in
    let was : c.index_mut.result.now ≡ image_here r.images.items c.args.id = get_or_read r.images.items c.args.id c.index_mut.result.now (some_within r.images.items c.args.id c.requires.out) c.index_mut.ensures.value None in
    rw (was ∙ there) at c.take_home-home.ensures.home

pub returns-clause-rest : goal.returns-clause-rest
returns-clause-rest g c =
    let r = c.args.self.now in let v = c.args.id in
    let within : v < length r.images.items = some_within r.images.items v c.requires.out in
    let was : c.index_mut.result.now ≡ image_here r.images.items v = get_or_read r.images.items v c.index_mut.result.now within c.index_mut.ensures.value None in
    home_moved r v c.index_mut-passes.result.now c.take_home-home.new.image None c.take.new.self None within (c.take_home-home.ensures.rest ∙ ap (with_home None) was) c.take.ensures.after c.requires.place c.index_mut-passes.ensures.value
