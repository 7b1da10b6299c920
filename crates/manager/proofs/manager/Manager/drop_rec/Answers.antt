-- What may go of a record is given up.
use Rattle.std.proofs.Common.{◌≡◌, ◌<◌, Bool, true, length, refl, sym, ap, ◌∙◌, arith}
use Rattle.std.specs.Prelude.{◌↔◌}
use Rattle.redirect_map.specs.Index.{entry_at}
use Rattle.wol_model.specs.Index.{Indexed, listed_in, has_going}
use Rattle.logger.specs.Lanes.{IsAt}
use Rattle.volume_parts.proofs.Calm.{calm_trim}
use Rattle.manager.proofs.Calm.{none_lane}
use Rattle.volume_parts.proofs.Elements.{refill_set, all_at}
use Rattle.manager.proofs.DropCall.{IsFound, found_as, lane_in, AreGoing, HasTurned, trimmable_at, trimmed_at, old_lane, spot_ready, version_ready, count_ready, range_ready, its_head, its_owner, proper_keep, given_entries, gone_is, ready_then, ready_broke, dropped_then, keeps_then, stops_then, dropped_broke, cause_broke, stands_broke, stops_broke}
use Rattle.manager.proofs.FetchRec.{lane_within}
use Rattle.volume_parts.proofs.Entries.{some_of}
use Rattle.manager.proofs.ReadyLanes.{at_lane}
use Rattle.manager.proofs.manager.Manager.drop_rec.Given as given
use Rattle.manager.proofs.manager.Manager.drop_rec.Goals.{After-may_go-given, After-trim, In-Some-find}
use Rattle.manager.proofs.manager.Manager.drop_rec.Goals as goal

-- ---- What the call found

found : (g : given.Over) (c : In-Some-find g) → IsFound g.D.Disk.state c.args.self.now c.args.version c.in-Some-find.record
found g c = found_as g.D.Disk.state c.args.self.now c.args.version c.in-Some-find.record c.requires.ready c.in_default.not-Some c.in-Some-find.ensures.index c.in-Some-find.ensures.value

-- what goes of the record
going : (g : given.Over) (c : After-may_go-given g) → AreGoing c.args.self.now c.args.version c.may_go-given.result
going g c = record { fits = omega arith; mask = c.may_go-given.ensures.value }

-- ---- The lane of the record

pub bounds-deref_mut-place : goal.bounds-deref_mut-place
bounds-deref_mut-place g c = let e = ap length c.deref_mut.ensures.value in omega (arith, e, c.requires.ready.ready.flags, lane_within g.D.Disk.state c.args.self.now c.requires.ready c.in_default.not-Some c.args.version c.in-Some-find.record c.in-Some-find.ensures.index c.in-Some-find.ensures.value)

pub index_mut-lane-requires : goal.index_mut-lane-requires
index_mut-lane-requires g c = omega (arith, c.args.self.now.lanes.ok.0, lane_within g.D.Disk.state c.args.self.now c.requires.ready c.in_default.not-Some c.args.version c.in-Some-find.record c.in-Some-find.ensures.index c.in-Some-find.ensures.value)

-- ---- What may be kept of it

pub head_of-head-requires : goal.head_of-head-requires
head_of-head-requires g c =
    let p = goal.at.head_of-head-requires g c in let call = found g p.In-Some-find in let goes = going g p.After-may_go-given in
    record {
      version = version_ready call goes;
      count = count_ready call goes;
      range = range_ready call goes;
      kept = call.its.record_.within;
    }

pub trim-requires : goal.trim-requires
trim-requires g c =
    let m = c.args.self.now in let r = c.in-Some-find.record in let l = c.index_mut-lane.result.now in
    let p = goal.at.trim-requires g c in let call = found g p.In-Some-find in let goes = going g p.After-may_go-given in
    let here = lane_in call c.index_mut-lane.result.now c.index_mut-lane.ensures.value in
    let was = old_lane call goes here in
    record {
      lane = was.lane;
      at = all_at (IsAt c.args.shared.now) m.lanes.items r.lane l here c.requires.at.lanes_;
      spot = trimmable_at c.spot_of-spot.ensures (spot_ready call goes here);
      head = c.head_of-head.ensures.head;
      owner = its_owner call goes c.head_of-head.result c.head_of-head.ensures.value ∙ sym was.owner;
      keep = proper_keep call goes c.head_of-head.result c.head_of-head.ensures.value
          ((some_of (λ (d : Indexed). (0 < c.may_go-given.result) ↔ (has_going (listed_in m.index.entries) d.listed ≡ true)) (entry_at m.index.entries c.args.version) call.its.entry c.may_go-given.ensures.some call.its.is).1 (c.requires.goes call.its.entry call.its.is));
    }

-- ---- It was trimmed

-- what became of its lane
turned : (g : given.Over) (c : After-trim g) → HasTurned g.D.Disk.state c.index_mut-lane.result.now c.trim.new.self
turned g c = let t = c.trim.ensures in record { is_lane = t.lane; same = t.same; all = t.all; taken = t.taken; used = t.used }

pub returns-in-Ok : goal.returns-in-Ok
returns-in-Ok g c =
    let m = c.args.self.now in let r = c.in-Some-find.record in let l = c.index_mut-lane.result.now in let l' = c.trim.new.self in
    let p = goal.at.returns-in-Ok g c in let call = found g p.In-Some-find in let goes = going g p.After-may_go-given in
    let here = lane_in call c.index_mut-lane.result.now c.index_mut-lane.ensures.value in let turn = turned g p.After-trim in
    let head_is = its_head call goes c.head_of-head.result c.head_of-head.ensures.value in let moved = trimmed_at c.spot_of-spot.ensures c.in-Ok.ensures.moved in
    let flags = refill_set m.ups.items c.deref_mut.result.now r.lane true c.deref_mut.ensures.value in let entries = c.trim-in-Ok.ensures.entries ∙ given_entries call goes in
    record {
      ready = ready_then call goes here turn c.in-Ok.field-0 _ head_is moved c.trim-in-Ok.new.self _ entries flags;
      at = at_lane m r.lane l' c.requires.at c.trim.ensures.at;
      fault = (call.up, call.up);
      calm = none_lane g.D.Disk.state m _ c.requires.ready refl r.lane l l' here refl (calm_trim g.D.Disk.state l l' _ _ _ c.in-Ok.field-0 (old_lane call goes here).lane moved);
      gone = gone_is call goes c.trim-in-Ok.new.self.entries entries;
      dropped = dropped_then call goes here turn c.in-Ok.field-0 _ head_is moved _ c.trim-in-Ok.new.self _ entries flags;
      keeps = keeps_then call goes here turn c.in-Ok.field-0 _ head_is moved g.D.Disk.tells c.trim-in-Ok.new.self _ entries flags;
      broke = tt;
      any_moment = λ told. stops_then call goes here turn c.in-Ok.field-0 _ head_is moved g.D.Disk.tells g.met.D.Disk.sound told c.trim-in-Ok.new.self _ flags;
    }

-- ---- A call failed

pub returns-in-Err : goal.returns-in-Err
returns-in-Err g c =
    let m = c.args.self.now in let r = c.in-Some-find.record in
    let p = goal.at.returns-in-Err g c in let call = found g p.In-Some-find in let goes = going g p.After-may_go-given in
    let here = lane_in call c.index_mut-lane.result.now c.index_mut-lane.ensures.value in let turn = turned g p.After-trim in
    let head_is = its_head call goes c.head_of-head.result c.head_of-head.ensures.value in let moved = trimmed_at c.spot_of-spot.ensures c.in-Err.ensures.moved in
    let flags = refill_set m.ups.items c.deref_mut.result.now r.lane true c.deref_mut.ensures.value in
    record {
      ready = ready_broke call goes here turn c.in-Err.field-0 _ head_is moved c.logger.result c.logger.ensures _ flags;
      at = at_lane m r.lane c.trim.new.self c.requires.at c.trim.ensures.at;
      fault = (call.up, refl, cause_broke call goes here turn c.in-Err.field-0 _ head_is moved c.logger.result c.logger.ensures _ flags);
      calm = tt;
      gone = tt;
      dropped = dropped_broke call goes here turn c.in-Err.field-0 _ head_is moved c.logger.result c.logger.ensures _ flags Bool _;
      keeps = tt;
      broke = stands_broke call goes here turn c.in-Err.field-0 _ head_is moved c.logger.result c.logger.ensures _ flags g.D.Disk.tells g.met.D.Disk.sound;
      any_moment = λ told. stops_broke call goes here turn c.in-Err.field-0 _ head_is moved c.logger.result c.logger.ensures _ flags g.D.Disk.tells g.met.D.Disk.sound told;
    }
