use Rattle.std.proofs.Common.{ℕ, vec_capacity, is_ok, Ok, ap, ◌∙◌, sym, refl, subst}
use Rattle.turn_lock.specs.Passes.{lock_id}
use Rattle.log_layout.specs.Values.{record_head}
use Rattle.logger.specs.Lanes.{IsHeld, GaveUp, to_pool}
use Rattle.logger.proofs.Held.{all_get}
use Rattle.logger.proofs.Places.{index_there, place_is, has_index}
use Rattle.logger.proofs.Trimming.{freed_of, is_changed, trimmed_stays}
use Rattle.logger.proofs.Turned.{lane_changed, all_changed, cut_removed, removed_holding, removed_blank, lane_gave, all_gave}
use Rattle.logger.proofs.Uses.{over, at_passes}
use Rattle.logger.proofs.lane.Lane.trim.Goals as goal

pub place_of_index-place-requires : goal.place_of_index-place-requires
place_of_index-place-requires g c = let s = c.requires.spot in index_there c.deref.result.now c.args.self.now.held.items s.place c.args.spot.now.segment s.segment c.deref.ensures.value s.there s.named

pub trim_held-trimmed-requires-clause-segment : goal.trim_held-trimmed-requires-clause-segment
trim_held-trimmed-requires-clause-segment g c =
    let self = c.args.self.now in let s = c.requires.spot in let l = c.requires.lane in
    let there = place_is c.deref.result.now self.held.items _ c.place_of_index-place.result s.place c.args.spot.now.segment s.segment c.deref.ensures.value c.place_of_index-place.ensures s.there s.named l.apart in
    let held = all_get (IsHeld g.D.Disk.state self.logger self.owner (vec_capacity self.held) self.pool) self.held.items s.place s.segment l.each s.there in record {
      segment = s.segment;
      there = there;
      shape = held.shape;
      whole = s.whole;
      volume = held.volume ∙ sym (c.take_token-token.ensures.volume ∙ l.spindle_volume);
      owned = held.owned ∙ sym c.requires.owner;
      fits = s.fits;
    }

pub give_token-requires-clause-own : goal.give_token-requires-clause-own
give_token-requires-clause-own g c = c.take_token-token.ensures.same.0 ∙ (c.requires.at.spindle c.index-lock.result.now ∙ ap lock_id (sym c.index-lock.ensures))

pub give_item-requires-clause-holds : goal.give_item-requires-clause-holds
give_item-requires-clause-holds g c =
    let self = c.args.self.now in let l = c.requires.lane in let t = c.trim_held-trimmed in
    removed_holding g.D.Disk.state self l (cut_removed g.D.Disk.state self l c.deref.result.now t.new.held.items c.place_of_index-place.result c.args.spot.now.segment c.in-Ok-Some.segment c.args.spot.now.pos (record_head c.args.head.now) c.args.keep t.result c.deref.ensures.value c.place_of_index-place.ensures t.ensures.cut (ap freed_of (c.in-Ok-Some.is ∙ ap Ok c.in-Ok-Some.field-0-is)))

pub give_item-requires-clause-blank : goal.give_item-requires-clause-blank
give_item-requires-clause-blank g c =
    let self = c.args.self.now in let l = c.requires.lane in let t = c.trim_held-trimmed in let r = cut_removed g.D.Disk.state self l c.deref.result.now t.new.held.items c.place_of_index-place.result c.args.spot.now.segment c.in-Ok-Some.segment c.args.spot.now.pos (record_head c.args.head.now) c.args.keep t.result c.deref.ensures.value c.place_of_index-place.ensures t.ensures.cut (ap freed_of (c.in-Ok-Some.is ∙ ap Ok c.in-Ok-Some.field-0-is)) in
    removed_blank g.D.Disk.state self l r c.in-Ok-Some.segment r.said.blank

pub returns-in-Ok-Some-clause-lane : goal.returns-in-Ok-Some-clause-lane
returns-in-Ok-Some-clause-lane g c =
    let self = c.args.self.now in let l = c.requires.lane in let t = c.trim_held-trimmed in let give = c.give_item.ensures in
    lane_gave g.D.Disk.state self l (cut_removed g.D.Disk.state self l c.deref.result.now t.new.held.items c.place_of_index-place.result c.args.spot.now.segment c.in-Ok-Some.segment c.args.spot.now.pos (record_head c.args.head.now) c.args.keep t.result c.deref.ensures.value c.place_of_index-place.ensures t.ensures.cut (ap freed_of (c.in-Ok-Some.is ∙ ap Ok c.in-Ok-Some.field-0-is))) t.new.held c.give_item.new.pass c.give_token.new.pass refl (over self.spindle c.take_token-token.new.pass c.give_token.new.pass c.take_token-token.ensures.same c.take_token-token.ensures.mine c.give_token.ensures.free c.give_token.ensures.same c.give_token.ensures.has_none c.give_token.ensures.mine) t.ensures.room give.free give.same give.kept

pub returns-in-Ok-Some-clause-at : goal.returns-in-Ok-Some-clause-at
returns-in-Ok-Some-clause-at g c = at_passes c.args.shared.now c.args.self.now _ refl c.give_item.ensures.same.0 (c.give_token.ensures.same.0 ∙ c.take_token-token.ensures.same.0) c.requires.at

pub returns-in-Ok-Some-clause-all : goal.returns-in-Ok-Some-clause-all
returns-in-Ok-Some-clause-all g c =
    let self = c.args.self.now in let l = c.requires.lane in let t = c.trim_held-trimmed in let give = c.give_item.ensures in
    all_gave g.D.Disk.state self l (cut_removed g.D.Disk.state self l c.deref.result.now t.new.held.items c.place_of_index-place.result c.args.spot.now.segment c.in-Ok-Some.segment c.args.spot.now.pos (record_head c.args.head.now) c.args.keep t.result c.deref.ensures.value c.place_of_index-place.ensures t.ensures.cut (ap freed_of (c.in-Ok-Some.is ∙ ap Ok c.in-Ok-Some.field-0-is))) c.give_item.new.pass give.same give.mine

pub returns-in-Ok-Some-clause-moved : goal.returns-in-Ok-Some-clause-moved
returns-in-Ok-Some-clause-moved g c =
    let self = c.args.self.now in let l = c.requires.lane in let t = c.trim_held-trimmed in let r = cut_removed g.D.Disk.state self l c.deref.result.now t.new.held.items c.place_of_index-place.result c.args.spot.now.segment c.in-Ok-Some.segment c.args.spot.now.pos (record_head c.args.head.now) c.args.keep t.result c.deref.ensures.value c.place_of_index-place.ensures t.ensures.cut (ap freed_of (c.in-Ok-Some.is ∙ ap Ok c.in-Ok-Some.field-0-is)) in
    to_pool c.place_of_index-place.result r.segment c.in-Ok-Some.segment r.there r.named r.gone c.give_item.ensures.mine refl (subst (λ (k : ℕ). GaveUp g.D.Disk.state r.segment k c.in-Ok-Some.segment c.args.spot.now.pos (record_head c.args.head.now) c.args.keep) r.held.blocks r.said)

pub returns-in-Ok-None-clause-lane : goal.returns-in-Ok-None-clause-lane
returns-in-Ok-None-clause-lane g c =
    let self = c.args.self.now in let l = c.requires.lane in let t = c.trim_held-trimmed in
    lane_changed g.D.Disk.state self l t.new.held c.give_token.new.pass c.place_of_index-place.result (over self.spindle c.take_token-token.new.pass c.give_token.new.pass c.take_token-token.ensures.same c.take_token-token.ensures.mine c.give_token.ensures.free c.give_token.ensures.same c.give_token.ensures.has_none c.give_token.ensures.mine) t.ensures.room (is_changed g.D.Disk.state self.held.items t.new.held.items c.place_of_index-place.result c.args.spot.now.pos (record_head c.args.head.now) c.args.keep t.result t.ensures.cut (ap freed_of (c.in-Ok-None.is ∙ ap Ok c.in-Ok-None.field-0-is)))

pub returns-in-Ok-None-clause-at : goal.returns-in-Ok-None-clause-at
returns-in-Ok-None-clause-at g c = at_passes c.args.shared.now c.args.self.now _ refl refl (c.give_token.ensures.same.0 ∙ c.take_token-token.ensures.same.0) c.requires.at

pub returns-in-Ok-None-clause-all : goal.returns-in-Ok-None-clause-all
returns-in-Ok-None-clause-all g c =
    let self = c.args.self.now in let l = c.requires.lane in let t = c.trim_held-trimmed in
    all_changed g.D.Disk.state self l t.new.held.items c.place_of_index-place.result (is_changed g.D.Disk.state self.held.items t.new.held.items c.place_of_index-place.result c.args.spot.now.pos (record_head c.args.head.now) c.args.keep t.result t.ensures.cut (ap freed_of (c.in-Ok-None.is ∙ ap Ok c.in-Ok-None.field-0-is)))

pub returns-in-Ok-None-clause-moved : goal.returns-in-Ok-None-clause-moved
returns-in-Ok-None-clause-moved g c =
    let self = c.args.self.now in let t = c.trim_held-trimmed in let p = c.place_of_index-place.result in
    trimmed_stays g.D.Disk.state self _ c.args.spot.now p (record_head c.args.head.now) c.args.keep t.result _ t.ensures.cut (ap is_ok (c.in-Ok-None.is ∙ ap Ok c.in-Ok-None.field-0-is)) (ap freed_of (c.in-Ok-None.is ∙ ap Ok c.in-Ok-None.field-0-is)) (λ o there. has_index c.deref.result.now self.held.items p c.args.spot.now.segment o c.deref.ensures.value c.place_of_index-place.ensures there) refl

pub returns-in-Err-clause-lane : goal.returns-in-Err-clause-lane
returns-in-Err-clause-lane g c =
    let self = c.args.self.now in let l = c.requires.lane in let t = c.trim_held-trimmed in
    lane_changed g.D.Disk.state self l t.new.held c.give_token.new.pass c.place_of_index-place.result (over self.spindle c.take_token-token.new.pass c.give_token.new.pass c.take_token-token.ensures.same c.take_token-token.ensures.mine c.give_token.ensures.free c.give_token.ensures.same c.give_token.ensures.has_none c.give_token.ensures.mine) t.ensures.room (is_changed g.D.Disk.state self.held.items t.new.held.items c.place_of_index-place.result c.args.spot.now.pos (record_head c.args.head.now) c.args.keep t.result t.ensures.cut (ap freed_of c.in-Err.is))

pub returns-in-Err-clause-at : goal.returns-in-Err-clause-at
returns-in-Err-clause-at g c = at_passes c.args.shared.now c.args.self.now _ refl refl (c.give_token.ensures.same.0 ∙ c.take_token-token.ensures.same.0) c.requires.at

pub returns-in-Err-clause-all : goal.returns-in-Err-clause-all
returns-in-Err-clause-all g c =
    let self = c.args.self.now in let l = c.requires.lane in let t = c.trim_held-trimmed in
    all_changed g.D.Disk.state self l t.new.held.items c.place_of_index-place.result (is_changed g.D.Disk.state self.held.items t.new.held.items c.place_of_index-place.result c.args.spot.now.pos (record_head c.args.head.now) c.args.keep t.result t.ensures.cut (ap freed_of c.in-Err.is))

pub returns-in-Err-clause-moved : goal.returns-in-Err-clause-moved
returns-in-Err-clause-moved g c =
    let self = c.args.self.now in let t = c.trim_held-trimmed in let p = c.place_of_index-place.result in
    trimmed_stays g.D.Disk.state self _ c.args.spot.now p (record_head c.args.head.now) c.args.keep t.result _ t.ensures.cut (ap is_ok c.in-Err.is) (ap freed_of c.in-Err.is) (λ o there. has_index c.deref.result.now self.held.items p c.args.spot.now.segment o c.deref.ensures.value c.place_of_index-place.ensures there) refl
