use Rattle.std.proofs.Common.{vec_capacity, ap, ◌∙◌, sym, refl}
use Rattle.turn_lock.specs.Passes.{lock_id}
use Rattle.logger.specs.Lanes.{IsHeld}
use Rattle.logger.specs.Trims.{gone, held_still}
use Rattle.logger.proofs.Held.{all_get}
use Rattle.logger.proofs.Places.{index_there, place_is, has_index}
use Rattle.logger.proofs.Trimming.{changed_still}
use Rattle.logger.proofs.Turned.{lane_changed, all_changed, freed_removed, removed_holding, removed_blank, lane_gave, all_gave}
use Rattle.logger.proofs.Uses.{over, at_passes}
use Rattle.logger.proofs.lane.Lane.retire.Goals as goal

pub place_of_index-place-requires : goal.place_of_index-place-requires
place_of_index-place-requires g c = let s = c.requires.segment in index_there c.deref.result.now c.args.self.now.held.items s.place c.args.segment s.segment c.deref.ensures.value s.there s.named

pub free_held-freed-requires : goal.free_held-freed-requires
free_held-freed-requires g c =
    let self = c.args.self.now in let s = c.requires.segment in let l = c.requires.lane in
    let there = place_is c.deref.result.now self.held.items _ c.place_of_index-place.result s.place c.args.segment s.segment c.deref.ensures.value c.place_of_index-place.ensures s.there s.named l.apart in
    let held = all_get (IsHeld g.D.Disk.state self.logger self.owner (vec_capacity self.held) self.pool) self.held.items s.place s.segment l.each s.there in record {
      segment = record {
        segment = s.segment;
        there = there;
        shape = held.shape;
        whole = s.whole;
        volume = held.volume ∙ sym (c.take_token-token.ensures.volume ∙ l.spindle_volume);
      };
    }

pub give_token-requires-clause-own : goal.give_token-requires-clause-own
give_token-requires-clause-own g c = c.take_token-token.ensures.same.0 ∙ (c.requires.at.spindle c.index-lock.result.now ∙ ap lock_id (sym c.index-lock.ensures))

pub give_item-requires-clause-holds : goal.give_item-requires-clause-holds
give_item-requires-clause-holds g c =
    let self = c.args.self.now in let l = c.requires.lane in
    removed_holding g.D.Disk.state self l (freed_removed g.D.Disk.state self l c.deref.result.now c.free_held-freed.new.held.items c.place_of_index-place.result c.args.segment c.in-Ok.free c.deref.ensures.value c.place_of_index-place.ensures c.in-Ok.ensures.ok)

pub give_item-requires-clause-blank : goal.give_item-requires-clause-blank
give_item-requires-clause-blank g c =
    let self = c.args.self.now in let l = c.requires.lane in let r = freed_removed g.D.Disk.state self l c.deref.result.now c.free_held-freed.new.held.items c.place_of_index-place.result c.args.segment c.in-Ok.free c.deref.ensures.value c.place_of_index-place.ensures c.in-Ok.ensures.ok in
    removed_blank g.D.Disk.state self l r c.in-Ok.free r.said.blank

pub returns-in-Ok-clause-lane : goal.returns-in-Ok-clause-lane
returns-in-Ok-clause-lane g c =
    let self = c.args.self.now in let l = c.requires.lane in let t = c.free_held-freed in let give = c.give_item.ensures in
    lane_gave g.D.Disk.state self l (freed_removed g.D.Disk.state self l c.deref.result.now c.free_held-freed.new.held.items c.place_of_index-place.result c.args.segment c.in-Ok.free c.deref.ensures.value c.place_of_index-place.ensures c.in-Ok.ensures.ok) t.new.held c.give_item.new.pass c.give_token.new.pass refl (over self.spindle c.take_token-token.new.pass c.give_token.new.pass c.take_token-token.ensures.same c.take_token-token.ensures.mine c.give_token.ensures.free c.give_token.ensures.same c.give_token.ensures.has_none c.give_token.ensures.mine) t.ensures.room give.free give.same give.kept

pub returns-in-Ok-clause-at : goal.returns-in-Ok-clause-at
returns-in-Ok-clause-at g c = at_passes c.args.shared.now c.args.self.now _ refl c.give_item.ensures.same.0 (c.give_token.ensures.same.0 ∙ c.take_token-token.ensures.same.0) c.requires.at

pub returns-in-Ok-clause-all : goal.returns-in-Ok-clause-all
returns-in-Ok-clause-all g c =
    let self = c.args.self.now in let l = c.requires.lane in let give = c.give_item.ensures in
    all_gave g.D.Disk.state self l (freed_removed g.D.Disk.state self l c.deref.result.now c.free_held-freed.new.held.items c.place_of_index-place.result c.args.segment c.in-Ok.free c.deref.ensures.value c.place_of_index-place.ensures c.in-Ok.ensures.ok) c.give_item.new.pass give.same give.mine

pub returns-in-Ok-clause-retired : goal.returns-in-Ok-clause-retired
returns-in-Ok-clause-retired g c =
    let self = c.args.self.now in let l = c.requires.lane in let r = freed_removed g.D.Disk.state self l c.deref.result.now c.free_held-freed.new.held.items c.place_of_index-place.result c.args.segment c.in-Ok.free c.deref.ensures.value c.place_of_index-place.ensures c.in-Ok.ensures.ok in
    gone c.place_of_index-place.result r.segment c.in-Ok.free r.there r.named r.gone c.give_item.ensures.mine refl r.said

pub returns-in-Err-clause-lane : goal.returns-in-Err-clause-lane
returns-in-Err-clause-lane g c =
    let self = c.args.self.now in let l = c.requires.lane in let t = c.free_held-freed in
    lane_changed g.D.Disk.state self l t.new.held c.give_token.new.pass c.place_of_index-place.result (over self.spindle c.take_token-token.new.pass c.give_token.new.pass c.take_token-token.ensures.same c.take_token-token.ensures.mine c.give_token.ensures.free c.give_token.ensures.same c.give_token.ensures.has_none c.give_token.ensures.mine) t.ensures.room (changed_still g.D.Disk.state self.held.items c.free_held-freed.new.held.items c.place_of_index-place.result c.in-Err.ensures.err)

pub returns-in-Err-clause-at : goal.returns-in-Err-clause-at
returns-in-Err-clause-at g c = at_passes c.args.shared.now c.args.self.now _ refl refl (c.give_token.ensures.same.0 ∙ c.take_token-token.ensures.same.0) c.requires.at

pub returns-in-Err-clause-all : goal.returns-in-Err-clause-all
returns-in-Err-clause-all g c =
    let self = c.args.self.now in let l = c.requires.lane in let t = c.free_held-freed in
    all_changed g.D.Disk.state self l t.new.held.items c.place_of_index-place.result (changed_still g.D.Disk.state self.held.items c.free_held-freed.new.held.items c.place_of_index-place.result c.in-Err.ensures.err)

pub returns-in-Err-clause-retired : goal.returns-in-Err-clause-retired
returns-in-Err-clause-retired g c =
    let p = c.place_of_index-place.result in let st = c.in-Err.ensures.err in
    held_still p st.segment st.after st.there (has_index c.deref.result.now c.args.self.now.held.items p c.args.segment st.segment c.deref.ensures.value c.place_of_index-place.ensures st.there) st.held refl refl st.stays
