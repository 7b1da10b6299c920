use Rattle.rack_parts.proofs.Basics.{◌≡◌, Bool, true, is_some, sym, subst, ◌∙◌}
use Rattle.rack_parts.proofs.Terms.{image_here, TakesOneLane}
use Rattle.rack_parts.proofs.rack.Rest.take_lane_of.Goals as goal

pub take_lane-requires-clause-place : goal.take_lane-requires-clause-place
take_lane-requires-clause-place g c = c.requires.place (sym c.is_out.ensures ∙ c.if-not-is_out.false)

pub returns-clause-taken : goal.returns-clause-taken
returns-clause-taken g c =
    let r = c.args.self.now in
    let out : is_some (image_here r.images.items c.args.logger) ≡ true = sym c.is_out.ensures ∙ c.if-not-is_out.false in
    subst (λ (b : Bool). TakesOneLane g.D.Disk.state c.args.config.now b r c.take_lane.new.self c.args.id c.args.logger c.args.lanes.now.items c.push_reserved.new.self.items) (sym out)
    (c.in_ok-lane.lane, c.push_reserved.ensures.items, c.in_ok-lane.ensures.lane, c.in_ok-lane.ensures.logger, c.in_ok-lane.ensures.taken)
