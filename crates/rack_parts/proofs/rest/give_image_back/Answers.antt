use Rattle.rack_parts.proofs.Basics.{◌≡◌, ℕ, List, sym, ap, ◌∙◌, subst, arith, option_map, get_or_from_slice_get}
use Rattle.rack_parts.proofs.Terms.{Name, IsOut, came_back, blocks_of, sizes_of, faulty_places, shape_in, IsImageBack}
use Rattle.rack_parts.proofs.Members.{element_at}
use Rattle.rack_parts.proofs.GivenBack.{sizes_together}
use Rattle.rack_parts.proofs.rest.give_image_back.Goals as goal

pub into_parts-requires : goal.into_parts-requires
into_parts-requires g c =
    let v = element_at c.args.config.now.volumes.items c.args.id c.requires.known in
    let x = c.requires.image v.0 c.in-Some.image v.1 c.in-Some.is in
    record {
      home = x.1.home;
      segments = x.1.segments;
      row = (x.0.row.0, omega (arith, x.0.row.1, x.0.count));
      room = (x.0.room.0, omega (arith, x.0.room.1, x.0.count));
    }

pub detach-requires : goal.detach-requires
detach-requires g c =
    let v = element_at c.args.config.now.volumes.items c.args.id c.requires.known in
    let x = c.requires.image v.0 c.in-Some.image v.1 c.in-Some.is in
    let name : c.as_str-name.result.now ≡ v.0.name = c.as_str-name.ensures ∙ ap (λ w. w.name) (c.index.ensures ∙ get_or_from_slice_get c.args.config.now.volumes.items c.args.id v.0 c.index.result.now v.1) in
    let sizes = sizes_together g.B.Part.Disk.state c.args.id (shape_in c.args.config.now v.0) c.in-Some.image c.into_parts.result.items x.0 c.into_parts.ensures in
    subst (λ (n : Name). IsOut n (sizes_of g.B.Part.Disk.state c.into_parts.result.items) (g.B.Bay.state c.args.bay.now)) (sym name) (subst (λ (l : List ℕ). IsOut v.0.name l (g.B.Bay.state c.args.bay.now)) (sym sizes) x.2)

pub returns-in-Some : goal.returns-in-Some
returns-in-Some g c = λ v at.
    let name : c.as_str-name.result.now ≡ v.name = c.as_str-name.ensures ∙ ap (λ w. w.name) (c.index.ensures ∙ get_or_from_slice_get c.args.config.now.volumes.items c.args.id v c.index.result.now at) in
    let disks = c.into_parts.result.items in
    let state = g.B.Part.Disk.state in
    subst (λ o. IsImageBack state v.name o (g.B.Bay.state c.args.bay.now) (g.B.Bay.state c.detach.new.self)) (sym c.in-Some.is)
    (disks, c.into_parts.ensures, c.detach.ensures.back ∙ ap (λ (n : Name). option_map (came_back n (blocks_of state disks) (faulty_places state disks)) (g.B.Bay.state c.args.bay.now).told) name, c.detach.ensures.cause, c.detach.ensures.counts)
