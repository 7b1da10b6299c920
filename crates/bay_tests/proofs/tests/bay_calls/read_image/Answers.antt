use Rattle.std.proofs.Common.{append-nil, sym, ap, ◌∙◌}
use Rattle.wol_bay.specs.Parts.{sizes_of}
use Rattle.wol_bay.proofs.OneImage.{goes_out, comes_home, is_back}
use Rattle.bay_tests.proofs.AllHome.{home_of, same_home}
use Rattle.fixtures.proofs.Cut.{cut_sizes, last_sized}
use Rattle.bay_tests.proofs.tests.bay_calls.read_image.Goals as goal

pub detach-requires : goal.detach-requires
detach-requires g c =
    let state = g.B.Part.Disk.state in
    let before = g.B.Bay.state c.args.bay.now in
    let sizes = ap (sizes_of state) (sym (append-nil c.pop.new.self.items) ∙ sym c.in_default.ensures.items) ∙ cut_sizes state _ c.args.sizes.now c.in_ok-parts.parts.items c.in_ok-parts.ensures.parts in
    rw sizes (goes_out c.args.name.now c.args.sizes.now before (g.B.Bay.state c.attach.new.self) (home_of c.args.name.now before c.requires) c.in_ok-parts.ensures.ok)

pub returns-in_default-clause-home : goal.returns-in_default-clause-home
returns-in_default-clause-home g c =
    let before = g.B.Bay.state c.args.bay.now in
    let out = g.B.Bay.state c.attach.new.self in
    let after = g.B.Bay.state c.detach.new.self in
    same_home before after c.requires (comes_home c.args.name.now c.args.sizes.now _ _ before out after (home_of c.args.name.now before c.requires) c.in_ok-parts.ensures.ok c.detach.ensures.back)

pub returns-in_default-clause-there : goal.returns-in_default-clause-there
returns-in_default-clause-there g c tells = is_back g.B.Part.Disk.state (g.met.B.Part.Disk.told tells) c.pop.new.self.items c.args.name.now _ (g.B.Bay.state c.attach.new.self) (g.B.Bay.state c.detach.new.self) c.detach.ensures.back

pub detach-requires-2 : goal.detach-requires-2
detach-requires-2 g c =
    let state = g.B.Part.Disk.state in
    let before = g.B.Bay.state c.args.bay.now in
    let back = rw c.unwrap.ensures at c.push.ensures.items in
    let cut = cut_sizes state _ c.args.sizes.now c.in_ok-parts.parts.items c.in_ok-parts.ensures.parts in
    let same = last_sized state c.pop.new.self.items c.push.new.self.items c.in-Some.part c.first_bytes-read.new.disk back c.first_bytes-read.ensures in
    let sizes = same ∙ ap (sizes_of state) (sym c.in-Some.ensures.items) ∙ cut in
    rw sizes (goes_out c.args.name.now c.args.sizes.now before (g.B.Bay.state c.attach.new.self) (home_of c.args.name.now before c.requires) c.in_ok-parts.ensures.ok)

pub returns-clause-home : goal.returns-clause-home
returns-clause-home g c =
    let before = g.B.Bay.state c.args.bay.now in
    let out = g.B.Bay.state c.attach.new.self in
    let after = g.B.Bay.state c.detach-2.new.self in
    same_home before after c.requires (comes_home c.args.name.now c.args.sizes.now _ _ before out after (home_of c.args.name.now before c.requires) c.in_ok-parts.ensures.ok c.detach-2.ensures.back)

pub returns-clause-there : goal.returns-clause-there
returns-clause-there g c tells = is_back g.B.Part.Disk.state (g.met.B.Part.Disk.told tells) c.push.new.self.items c.args.name.now _ (g.B.Bay.state c.attach.new.self) (g.B.Bay.state c.detach-2.new.self) c.detach-2.ensures.back
