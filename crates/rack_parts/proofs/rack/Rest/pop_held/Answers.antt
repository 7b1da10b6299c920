use Rattle.rack_parts.proofs.Basics.{refl, with_item}
use Rattle.rack_parts.proofs.Terms.{Rest}
use Rattle.rack_parts.proofs.Returned.{row_held, held_popped}
use Rattle.rack_parts.proofs.LanesMoved.{place_in}
use Rattle.rack_parts.proofs.rack.Rest.pop_held.Goals as goal

pub index_mut-requires : goal.index_mut-requires
index_mut-requires g c = (place_in c.args.self.now c.args.id c.args.logger c.args.logger c.index_mut-passes.result.now c.requires.place c.index_mut-passes.ensures.value refl).2

pub returns : goal.returns
returns g c =
    let r = c.args.self.now in let row = c.index_mut-passes.result.now in
    let new : Rest g.row.D.Denot = record { images = r.images; passes = with_item r.passes c.args.id (row_held row c.args.logger c.pop.new.self); rooms = r.rooms } in
    held_popped r new c.args.id c.args.logger row c.index_mut.result.now c.pop.new.self c.in-Some.held c.requires.place c.index_mut-passes.ensures.value c.index_mut.ensures.value c.in-Some.ensures.items refl refl refl
