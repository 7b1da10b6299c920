use Rattle.rack_parts.proofs.Basics.{◌≡◌, ◌<◌, Some, None, length, refl, ap, ◌∙◌, get_or_read}
use Rattle.rack_parts.proofs.Terms.{with_home, image_here}
use Rattle.rack_parts.proofs.LanesMoved.{home_moved, spindle_found, place_in}
use Rattle.rack_parts.proofs.Members.{here_within}
use Rattle.rack_parts.proofs.rack.Rest.put_home.Goals as goal

pub index_mut-requires-2 : goal.index_mut-requires-2
index_mut-requires-2 g c = (place_in c.args.self.now c.args.id c.args.id c.args.id c.index_mut-passes.result.now c.requires.place c.index_mut-passes.ensures.value refl).1

pub fill-requires : goal.fill-requires
fill-requires g c = spindle_found c.args.self.now c.args.id c.args.id c.args.id c.index_mut-passes.result.now c.index_mut-2.result.now c.requires.place c.index_mut-passes.ensures.value refl c.index_mut-2.ensures.value ∙ c.requires.spindle

pub returns : goal.returns
returns g c =
    let r = c.args.self.now in let v = c.args.id in
    let within : v < length r.images.items = here_within r.images.items v c.requires.image c.requires.out in
    let was : c.index_mut.result.now ≡ image_here r.images.items v = get_or_read r.images.items v c.index_mut.result.now within c.index_mut.ensures.value None in
    home_moved r v c.index_mut-passes.result.now c.put_home.new.image (Some c.args.home) c.fill.new.place (Some c.args.spindle) within (c.put_home.ensures ∙ ap (with_home (Some c.args.home)) was) c.fill.ensures c.requires.place c.index_mut-passes.ensures.value
