use Rattle.std.proofs.Common.{[], ◌∷◌}
use Rattle.wol_bay.proofs.OneImage.{goes_out, comes_home, one_part, one_size, is_back}
use Rattle.bay_tests.proofs.AllHome.{home_of, same_home}
use Rattle.bay_tests.proofs.tests.bay_calls.write_image.Goals as goal

pub create-requires : goal.create-requires
create-requires g c = home_of c.args.name.now (g.B.Bay.state c.args.bay.now) c.requires

pub detach-requires : goal.detach-requires
detach-requires g c =
    let state = g.B.Part.Disk.state in
    let before = g.B.Bay.state c.args.bay.now in
    let one = one_part state before.told 4 c.pop.new.self.items c.in-Some.part (rw c.in-Some.ensures.items at c.in_ok-parts.ensures.parts) in
    let back = rw c.unwrap.ensures at c.push.ensures.items in
    let sizes = one_size state 4 c.push.new.self.items c.pop.new.self.items c.in-Some.part c.write_blocks-done.new.disk back one.0 c.write_blocks-done.ensures one.1.sized in
    rw sizes (goes_out c.args.name.now (4 ∷ []) before (g.B.Bay.state c.create.new.self) (home_of c.args.name.now before c.requires) c.in_ok-parts.ensures.ok)

pub returns-clause-home : goal.returns-clause-home
returns-clause-home g c =
    let before = g.B.Bay.state c.args.bay.now in
    let out = g.B.Bay.state c.create.new.self in
    let after = g.B.Bay.state c.detach.new.self in
    same_home before after c.requires (comes_home c.args.name.now (4 ∷ []) _ _ before out after (home_of c.args.name.now before c.requires) c.in_ok-parts.ensures.ok c.detach.ensures.back)

pub returns-clause-there : goal.returns-clause-there
returns-clause-there g c tells = is_back g.B.Part.Disk.state (g.met.B.Part.Disk.told tells) c.push.new.self.items c.args.name.now _ (g.B.Bay.state c.create.new.self) (g.B.Bay.state c.detach.new.self) c.detach.ensures.back
