use Rattle.std.proofs.Common.{ℕ, set, vec_capacity, Result, ◌∙◌, sym, refl, subst, arith}
use Rattle.wol_disk.specs.declared.disk.Failed.{Failed}
use Rattle.log_segment.specs.Records.{group_of}
use Rattle.log_segment.specs.Segment.{IsWhole, place_of}
use Rattle.logger.specs.Lanes.{IsHeld, Grown, IsSpot, to_held}
use Rattle.logger.specs.declared.lane.HeldSegment.{HeldSegment}
use Rattle.logger.specs.declared.lane.Spot.{Spot}
use Rattle.logger.proofs.Held.{all_get, there_get, within}
use Rattle.logger.proofs.Results.{grown_of, grown_spot, spot_is}
use Rattle.logger.proofs.Trimming.{IsChanged}
use Rattle.logger.proofs.Turned.{lane_changed, all_changed}
use Rattle.logger.proofs.Uses.{over, at_passes}
use Rattle.logger.proofs.lane.Lane.write_held.Goals as goal

pub index_mut-held-requires : goal.index_mut-held-requires
index_mut-held-requires g c = let items = c.args.self.now.held.items in let f = c.requires.place in omega (arith, within items c.args.place f.segment f.there, c.args.self.now.held.ok.0)

pub append_group-written-requires-clause-shape : goal.append_group-written-requires-clause-shape
append_group-written-requires-clause-shape g c =
    let self = c.args.self.now in let f = c.requires.place in let o = c.index_mut-held.result.now in
    let there = there_get self.held.items c.args.place o (within self.held.items c.args.place f.segment f.there) c.index_mut-held.ensures.value in
    (all_get (IsHeld g.D.Disk.state self.logger self.owner (vec_capacity self.held) self.pool) self.held.items c.args.place o c.requires.lane.each there).shape

pub append_group-written-requires-clause-whole : goal.append_group-written-requires-clause-whole
append_group-written-requires-clause-whole g c =
    let self = c.args.self.now in let f = c.requires.place in let o = c.index_mut-held.result.now in
    let there = there_get self.held.items c.args.place o (within self.held.items c.args.place f.segment f.there) c.index_mut-held.ensures.value in
    all_get (λ (h : HeldSegment g.row.D.Denot). IsWhole h.segment) self.held.items c.args.place o c.requires.whole there

pub append_group-written-requires-clause-volume : goal.append_group-written-requires-clause-volume
append_group-written-requires-clause-volume g c =
    let self = c.args.self.now in let f = c.requires.place in let o = c.index_mut-held.result.now in
    let there = there_get self.held.items c.args.place o (within self.held.items c.args.place f.segment f.there) c.index_mut-held.ensures.value in
    let held = all_get (IsHeld g.D.Disk.state self.logger self.owner (vec_capacity self.held) self.pool) self.held.items c.args.place o c.requires.lane.each there in
    c.take_token-token.ensures.volume ∙ (c.requires.lane.spindle_volume ∙ sym held.volume)

pub append_group-written-requires-clause-room : goal.append_group-written-requires-clause-room
append_group-written-requires-clause-room g c =
    let self = c.args.self.now in let f = c.requires.place in let o = c.index_mut-held.result.now in
    c.requires.room o (there_get self.held.items c.args.place o (within self.held.items c.args.place f.segment f.there) c.index_mut-held.ensures.value)

pub returns : goal.returns
returns g c =
    let state = g.D.Disk.state in let l = c.requires.lane in let self = c.args.self.now in let items = self.held.items in let p = c.args.place in let o = c.index_mut-held.result.now in let a = c.append_group-written.ensures in let f = c.requires.place in let w = c.append_group-written.result in
    let there = there_get items p o (within items p f.segment f.there) c.index_mut-held.ensures.value in
    let held = all_get (IsHeld state self.logger self.owner (vec_capacity self.held) self.pool) items p o l.each there in
    let n : HeldSegment g.row.D.Denot = record { index = o.index; segment = c.append_group-written.new.self } in
    let ch : IsChanged state items (set items p n) p = record { old = o; new = n; there = there; held = refl; shape = a.shape; index = refl; same = a.same } in
    let ov = over self.spindle c.take_token-token.new.pass c.give_token.new.pass c.take_token-token.ensures.same c.take_token-token.ensures.mine c.give_token.ensures.free c.give_token.ensures.same c.give_token.ensures.has_none c.give_token.ensures.mine in
    let added = group_of self.owner c.args.group.now.version c.args.group.now.items.now c.args.group.now.from.now in
    let grown : Grown state o n added w = grown_of state o n self.owner c.args.group.now.version c.args.group.now.items.now c.args.group.now.from.now w held.owned refl a.same a.ok a.valid a.whole a.err a.any_moment a.cause a.calm in record {
      lane = lane_changed state self l _ c.give_token.new.pass p ov refl ch;
      same = record { logger = refl; owner = refl; segments = refl; pool = (refl, refl); spindle = ov.same };
      all = all_changed state self l _ p ch;
      at = at_passes c.args.shared.now self _ refl refl ov.same.0 c.requires.at;
      pool = refl;
      used = ov.mine;
      moved =
          to_held p o n f there refl refl (subst (λ (r : Result Spot (ℕ × Failed)). Grown state o n added r) (sym c.spot_of.ensures) (grown_spot state o n added o.index w grown))
          (subst (IsSpot o.index (place_of o.segment)) (sym c.spot_of.ensures) (spot_is o.index (place_of o.segment) w a.position));
    }
