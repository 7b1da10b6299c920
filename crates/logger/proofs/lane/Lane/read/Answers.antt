use Rattle.std.proofs.Common.{◌≤◌, ◌+◌, set, length, vec_capacity, ◌∙◌, sym, refl, subst, arith}
use Rattle.log_segment.specs.Segment.{IsWhole, blocks_of}
use Rattle.logger.specs.Lanes.{IsHeld}
use Rattle.logger.specs.declared.lane.HeldSegment.{HeldSegment}
use Rattle.logger.proofs.Held.{all_get, within}
use Rattle.logger.proofs.Places.{index_there, found, same_segment}
use Rattle.logger.proofs.Results.{on_err}
use Rattle.logger.proofs.Trimming.{IsChanged}
use Rattle.logger.proofs.Turned.{lane_changed, all_changed}
use Rattle.logger.proofs.Uses.{over, at_passes}
use Rattle.logger.proofs.lane.Lane.read.Goals as goal

pub place_of_index-place-requires : goal.place_of_index-place-requires
place_of_index-place-requires g c = let s = c.requires.spot in index_there c.deref.result.now c.args.self.now.held.items s.place c.args.spot.now.segment s.segment c.deref.ensures.value s.there s.named

pub index_mut-held-requires : goal.index_mut-held-requires
index_mut-held-requires g c = let at = c.place_of_index-place.ensures in omega (arith, within c.deref.result.now c.place_of_index-place.result at.segment at.there, c.deref.ensures.len)

pub read-read-requires-clause-shape : goal.read-read-requires-clause-shape
read-read-requires-clause-shape g c =
    let items = c.args.self.now.held.items in let p = c.place_of_index-place.result in
    let f = found c.deref.result.now items p c.args.spot.now.segment c.index_mut-held.result.now c.deref.ensures.value c.place_of_index-place.ensures c.index_mut-held.ensures.value in
    (all_get (IsHeld g.D.Disk.state c.args.self.now.logger c.args.self.now.owner (vec_capacity c.args.self.now.held) c.args.self.now.pool) items p c.index_mut-held.result.now c.requires.lane.each f.there).shape

pub read-read-requires-clause-volume : goal.read-read-requires-clause-volume
read-read-requires-clause-volume g c =
    let items = c.args.self.now.held.items in let p = c.place_of_index-place.result in
    let f = found c.deref.result.now items p c.args.spot.now.segment c.index_mut-held.result.now c.deref.ensures.value c.place_of_index-place.ensures c.index_mut-held.ensures.value in
    let held = all_get (IsHeld g.D.Disk.state c.args.self.now.logger c.args.self.now.owner (vec_capacity c.args.self.now.held) c.args.self.now.pool) items p c.index_mut-held.result.now c.requires.lane.each f.there in
    c.take_token-token.ensures.volume ∙ (c.requires.lane.spindle_volume ∙ sym held.volume)

pub read-read-requires-clause-whole : goal.read-read-requires-clause-whole
read-read-requires-clause-whole g c =
    let items = c.args.self.now.held.items in let p = c.place_of_index-place.result in let s = c.requires.spot in
    let f = found c.deref.result.now items p c.args.spot.now.segment c.index_mut-held.result.now c.deref.ensures.value c.place_of_index-place.ensures c.index_mut-held.ensures.value in
    subst (λ (h : HeldSegment g.row.D.Denot). IsWhole h.segment) (sym (same_segment items _ p s.place c.index_mut-held.result.now s.segment c.requires.lane.apart f.there s.there (f.named ∙ sym s.named))) s.whole

pub read-read-requires-clause-fits : goal.read-read-requires-clause-fits
read-read-requires-clause-fits g c =
    let items = c.args.self.now.held.items in let p = c.place_of_index-place.result in let s = c.requires.spot in
    let f = found c.deref.result.now items p c.args.spot.now.segment c.index_mut-held.result.now c.deref.ensures.value c.place_of_index-place.ensures c.index_mut-held.ensures.value in
    subst (λ (h : HeldSegment g.row.D.Denot). c.args.spot.now.pos + 1 + c.args.skip + length c.args.out.now ≤ blocks_of h.segment) (sym (same_segment items _ p s.place c.index_mut-held.result.now s.segment c.requires.lane.apart f.there s.there (f.named ∙ sym s.named))) s.fits

pub returns-clause-lane : goal.returns-clause-lane
returns-clause-lane g c =
    let self = c.args.self.now in let items = self.held.items in let p = c.place_of_index-place.result in let o = c.index_mut-held.result.now in let a = c.read-read.ensures in
    let f = found c.deref.result.now items p c.args.spot.now.segment o c.deref.ensures.value c.place_of_index-place.ensures c.index_mut-held.ensures.value in
    let ch : IsChanged g.D.Disk.state items (set items p (record { index = o.index; segment = c.read-read.new.self })) p = record { old = o; new = record { index = o.index; segment = c.read-read.new.self }; there = f.there; held = refl; shape = a.shape; index = refl; same = a.same } in
    lane_changed g.D.Disk.state self c.requires.lane _ c.give_token.new.pass p (over self.spindle c.take_token-token.new.pass c.give_token.new.pass c.take_token-token.ensures.same c.take_token-token.ensures.mine c.give_token.ensures.free c.give_token.ensures.same c.give_token.ensures.has_none c.give_token.ensures.mine) refl ch

pub returns-clause-at : goal.returns-clause-at
returns-clause-at g c = at_passes c.args.shared.now c.args.self.now _ refl refl (c.give_token.ensures.same.0 ∙ c.take_token-token.ensures.same.0) c.requires.at

pub returns-clause-all : goal.returns-clause-all
returns-clause-all g c =
    let self = c.args.self.now in let items = self.held.items in let p = c.place_of_index-place.result in let o = c.index_mut-held.result.now in let a = c.read-read.ensures in
    let f = found c.deref.result.now items p c.args.spot.now.segment o c.deref.ensures.value c.place_of_index-place.ensures c.index_mut-held.ensures.value in
    let ch : IsChanged g.D.Disk.state items (set items p (record { index = o.index; segment = c.read-read.new.self })) p = record { old = o; new = record { index = o.index; segment = c.read-read.new.self }; there = f.there; held = refl; shape = a.shape; index = refl; same = a.same } in
    all_changed g.D.Disk.state self c.requires.lane _ p ch

pub returns-clause-moved : goal.returns-clause-moved
returns-clause-moved g c =
    let items = c.args.self.now.held.items in let p = c.place_of_index-place.result in let o = c.index_mut-held.result.now in let a = c.read-read.ensures in
    let f = found c.deref.result.now items p c.args.spot.now.segment o c.deref.ensures.value c.place_of_index-place.ensures c.index_mut-held.ensures.value in record {
      place = p;
      old_segment = o;
      new_segment = record { index = o.index; segment = c.read-read.new.self };
      there = f.there;
      named = f.named;
      held = refl;
      index = refl;
      same = a.same;
      end = a.place;
      valid = a.valid;
      whole = a.whole;
      keeps = a.holds;
      content = a.content;
      any_moment = a.any_moment;
      cause = on_err c.read-read.result a.cause;
      calm = a.calm;
    }
