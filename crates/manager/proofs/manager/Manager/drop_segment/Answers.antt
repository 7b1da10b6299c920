-- A segment is given up with all its records.
use Rattle.std.proofs.Common.{◌<◌, ◌^◌, ℕ, Bool, List, true, false, length, refl, ap, ◌∙◌, arith}
use Rattle.std.proofs.lemmas.Option.{slice_get_within}
use Rattle.wol_model.specs.Index.{Indexed}
use Rattle.wol_promise.proofs.Lists.{all_map}
use Rattle.logger.specs.Lanes.{IsAt}
use Rattle.manager.proofs.Calm.{none_lane}
use Rattle.volume_parts.proofs.Elements.{refill_set, all_at}
use Rattle.volume_parts.proofs.Forgetting.{flag_set}
use Rattle.manager.proofs.ReadyLanes.{at_lane}
use Rattle.manager.proofs.RetireCall.{calm_then, cause_broke, counted_there, dropped_broke, dropped_then, keeps_then, all_go, old_lane, ready_broke, ready_then, retirable, so_many, stands_broke, stops_broke, stops_then}
use Rattle.manager.proofs.DropCall.{IsFound, found_as, lane_in, HasTurned}
use Rattle.manager.proofs.FetchRec.{lane_within}
use Rattle.std.specs.Prelude.{slice_index_or}
use Rattle.manager.proofs.manager.Manager.drop_segment.Given as given
use Rattle.manager.proofs.manager.Manager.drop_segment.Goals.{After-retire, In-Some-find}
use Rattle.manager.proofs.manager.Manager.drop_segment.Goals as goal

-- ---- What the call found

found : (g : given.Over) (c : In-Some-find g) → IsFound g.D.Disk.state c.args.self.now c.args.version c.in-Some-find.record
found g c = found_as g.D.Disk.state c.args.self.now c.args.version c.in-Some-find.record c.requires.ready c.in_default.not-Some c.in-Some-find.ensures.index c.in-Some-find.ensures.value

-- ---- The lane of the segment

pub bounds-deref_mut-place : goal.bounds-deref_mut-place
bounds-deref_mut-place g c = let e = ap length c.deref_mut.ensures.value in omega (arith, e, c.requires.ready.ready.flags, lane_within g.D.Disk.state c.args.self.now c.requires.ready c.in_default.not-Some c.args.version c.in-Some-find.record c.in-Some-find.ensures.index c.in-Some-find.ensures.value)

pub index_mut-lane-requires : goal.index_mut-lane-requires
index_mut-lane-requires g c = omega (arith, c.args.self.now.lanes.ok.0, lane_within g.D.Disk.state c.args.self.now c.requires.ready c.in_default.not-Some c.args.version c.in-Some-find.record c.in-Some-find.ensures.index c.in-Some-find.ensures.value)

pub valid-count-requires : goal.valid-count-requires
valid-count-requires g c =
    let p = goal.at.valid-count-requires g c in let call = found g p.In-Some-find in
    retirable call (lane_in call c.index_mut-lane.result.now c.index_mut-lane.ensures.value)

pub retire-requires : goal.retire-requires
retire-requires g c =
    let p = goal.at.retire-requires g c in let call = found g p.In-Some-find in let here = lane_in call c.index_mut-lane.result.now c.index_mut-lane.ensures.value in
    record {
      lane = (old_lane call here).lane;
      at = all_at (IsAt c.args.shared.now) c.args.self.now.lanes.items c.in-Some-find.record.lane c.index_mut-lane.result.now here c.requires.at.lanes_;
      segment = retirable call here;
    }

-- ---- It was retired

-- what became of its lane
turned : (g : given.Over) (c : After-retire g) → HasTurned g.D.Disk.state c.index_mut-lane.result.now c.retire.new.self
turned g c = let t = c.retire.ensures in record { is_lane = t.lane; same = t.same; all = t.all; taken = t.taken; used = t.used }

pub forget-requires : goal.forget-requires
forget-requires g c =
    let m = c.args.self.now in let r = c.in-Some-find.record in
    let p = goal.at.forget-requires g c in let call = found g p.In-Some-find in let here = lane_in call c.index_mut-lane.result.now c.index_mut-lane.ensures.value in
    let flags = refill_set m.ups.items c.deref_mut.result.now r.lane true c.deref_mut.ensures.value in
    let lt = slice_get_within m.lanes.items r.lane c.index_mut-lane.result.now here in let long = c.requires.ready.ready.flags in let n = c.requires.ready.next.1 in
    record {
      count = counted_there call here c.valid-count.result c.valid-count.ensures;
      awake = ap (λ (us : List Bool). slice_index_or us r.lane false) (c.deref.ensures.0 ∙ flags) ∙ flag_set m.ups.items r.lane (omega (arith, lt, long));
      below = all_map (λ (e : Indexed). e.listed.version < m.next) (λ (e : Indexed). e.listed.version < 2 ^ 63) (λ e lt'. omega (arith, lt', n)) m.index.entries c.requires.ready.below;
      go = all_go call (c.requires.go call.its.entry call.its.is);
    }

pub returns-in-Ok : goal.returns-in-Ok
returns-in-Ok g c =
    let m = c.args.self.now in let r = c.in-Some-find.record in let l = c.index_mut-lane.result.now in let l' = c.retire.new.self in
    let p = goal.at.returns-in-Ok g c in let call = found g p.In-Some-find in let none = all_go call (c.requires.go call.its.entry call.its.is) in
    let here = lane_in call c.index_mut-lane.result.now c.index_mut-lane.ensures.value in let turn = turned g p.After-retire in
    let flags = refill_set m.ups.items c.deref_mut.result.now r.lane true c.deref_mut.ensures.value in let retired = c.in-Ok.ensures.retired in
    record {
      ready = ready_then call here turn c.in-Ok.field-0 retired c.forget.new.index _ c.forget.ensures flags;
      at = at_lane m r.lane l' c.requires.at c.retire.ensures.at;
      fault = (call.up, call.up);
      calm = none_lane g.D.Disk.state m _ c.requires.ready refl r.lane l l' here refl (calm_then call here turn c.in-Ok.field-0 retired);
      gone = so_many call here c.valid-count.result c.valid-count.ensures;
      dropped = dropped_then call here turn c.in-Ok.field-0 retired _ c.forget.new.index _ c.forget.ensures flags;
      keeps = keeps_then call here turn c.in-Ok.field-0 retired none g.D.Disk.tells c.forget.new.index _ c.forget.ensures flags;
      broke = tt;
      any_moment = λ told. stops_then call here turn c.in-Ok.field-0 retired none g.D.Disk.tells g.met.D.Disk.sound told c.forget.new.index _ flags;
    }

-- ---- A call failed

pub returns-in-Err : goal.returns-in-Err
returns-in-Err g c =
    let m = c.args.self.now in let r = c.in-Some-find.record in
    let p = goal.at.returns-in-Err g c in let call = found g p.In-Some-find in let none = all_go call (c.requires.go call.its.entry call.its.is) in
    let here = lane_in call c.index_mut-lane.result.now c.index_mut-lane.ensures.value in let turn = turned g p.After-retire in
    let flags = refill_set m.ups.items c.deref_mut.result.now r.lane true c.deref_mut.ensures.value in let retired = c.in-Err.ensures.retired in
    record {
      ready = ready_broke call here turn c.in-Err.field-0 retired c.logger.result c.logger.ensures _ flags;
      at = at_lane m r.lane c.retire.new.self c.requires.at c.retire.ensures.at;
      fault = (call.up, refl, cause_broke call here turn c.in-Err.field-0 retired c.logger.result c.logger.ensures _ flags);
      calm = tt;
      gone = tt;
      dropped = dropped_broke call here turn c.in-Err.field-0 retired c.logger.result c.logger.ensures _ flags ℕ _;
      keeps = tt;
      broke = stands_broke call here turn c.in-Err.field-0 retired c.logger.result c.logger.ensures _ flags none g.D.Disk.tells g.met.D.Disk.sound;
      any_moment = λ told. stops_broke call here turn c.in-Err.field-0 retired c.logger.result c.logger.ensures _ flags none g.D.Disk.tells g.met.D.Disk.sound told;
    }
