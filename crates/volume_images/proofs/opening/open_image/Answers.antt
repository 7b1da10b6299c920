use Rattle.std.proofs.Common.{◌≡◌, inr, subst, arith}
use Rattle.wol_bay.proofs.OneImage.{goes_out, comes_home}
use Rattle.log_layout.specs.Values.{shape_of}
use Rattle.volume_images.specs.Formatted.{part_sizes}
use Rattle.volume_images.proofs.GivenBack.{says_so, gave_back, call_faults}
use Rattle.volume_images.proofs.Refused.{rose_since}
use Rattle.volume_images.specs.Refusals.{IsCallFault}
use Rattle.volume_images.proofs.TwoTurns.{two_turns}
use Rattle.volume_images.proofs.opening.open_image.Goals as goal

pub read_out-read-requires-clause-name : goal.read_out-read-requires-clause-name
read_out-read-requires-clause-name g c = goes_out c.args.name.now (part_sizes (shape_of c.args.want.now)) (g.B.Bay.state c.args.bay.now) (g.B.Bay.state c.send_out.new.bay) c.requires.home c.in-Ok-send_out.ensures.ok

pub returns-in-Ok-read-clause-says : goal.returns-in-Ok-read-clause-says
returns-in-Ok-read-clause-says g c =
    says_so g.B.Part.Disk.state g.met.B.Part.Disk.sound c.args.volumes c.args.want.now.id (shape_of c.args.want.now) c.args.name.now c.in-Ok-send_out.out (g.B.Bay.state c.args.bay.now).told c.in-Ok-read.image
    c.in-Ok-send_out.ensures.out (c.in-Ok-send_out.ensures.refused (λ never. cc never)) c.in-Ok-read.ensures.ok

pub returns-in-Err-read-clause-home : goal.returns-in-Err-read-clause-home
returns-in-Err-read-clause-home g c =
    let given = c.in-Err-read.ensures.refused in
    comes_home c.args.name.now (part_sizes (shape_of c.args.want.now)) _ _ (g.B.Bay.state c.args.bay.now) (g.B.Bay.state c.send_out.new.bay) (g.B.Bay.state c.read_out-read.new.bay) c.requires.home c.in-Ok-send_out.ensures.ok given.back

pub returns-in-Err-read-clause-refused : goal.returns-in-Err-read-clause-refused
returns-in-Err-read-clause-refused g c =
    gave_back g.B.Part.Disk.state g.met.B.Part.Disk.sound c.args.volumes c.args.want.now.id (shape_of c.args.want.now) c.args.name.now c.in-Ok-send_out.out (g.B.Bay.state c.args.bay.now) (g.B.Bay.state c.send_out.new.bay) (g.B.Bay.state c.read_out-read.new.bay) c.in-Err-read.fault (g.B.Bay.apart c.args.bay.now)
    c.in-Ok-send_out.ensures.out (c.in-Ok-send_out.ensures.refused (λ never. cc never)) c.in-Ok-send_out.ensures.ok c.in-Err-read.ensures.refused

pub returns-in-Err-read-clause-counts : goal.returns-in-Err-read-clause-counts
returns-in-Err-read-clause-counts g c = let given = c.in-Err-read.ensures.refused in omega (arith, given.counts, c.send_out.ensures.counts)

pub returns-in-Err-read-clause-part_cause : goal.returns-in-Err-read-clause-part_cause
returns-in-Err-read-clause-part_cause g c = λ f is call.
    let given = c.in-Err-read.ensures.refused in
    let same : f ≡ c.in-Err-read.fault = cc in
    rose_since (g.B.Bay.state c.args.bay.now).faults (g.B.Bay.state c.send_out.new.bay).faults (g.B.Bay.state c.read_out-read.new.bay).faults c.send_out.ensures.counts
    (given.cause (call_faults g.B.Part.Disk.state c.args.volumes c.args.want.now.id (shape_of c.args.want.now) c.in-Ok-send_out.out.image given.after c.in-Err-read.fault (subst (λ e. IsCallFault e) same call) given.read given.refused))

pub returns-in-Ok-read-clause-uses : goal.returns-in-Ok-read-clause-uses
returns-in-Ok-read-clause-uses g c = inr (two_turns c.args.pass.now c.take_token-token.new.pass c.give_token.new.pass c.take_token-token.ensures.same c.take_token-token.ensures.mine c.give_token.ensures.mine)

pub returns-in-Err-read-clause-uses : goal.returns-in-Err-read-clause-uses
returns-in-Err-read-clause-uses g c = inr (two_turns c.args.pass.now c.take_token-token.new.pass c.give_token.new.pass c.take_token-token.ensures.same c.take_token-token.ensures.mine c.give_token.ensures.mine)
