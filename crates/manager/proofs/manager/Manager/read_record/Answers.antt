-- A record is read where the index has it.
use Rattle.std.proofs.Common.{◌≡◌, Bool, true, List, length, refl, sym, ap, subst, arith}
use Rattle.std.specs.Prelude.{slice_set, IfErr}
use Rattle.std.specs.Vec.{with_item}
use Rattle.std.proofs.Math.ListN.{length-set}
use Rattle.std.proofs.lemmas.Option.{slice_get_within}
use Rattle.logger.specs.Lanes.{IsAt}
use Rattle.manager.specs.Stands.{IsReady, IsReadyLane}
use Rattle.manager.specs.declared.part.Part.{Part}
use Rattle.volume_parts.proofs.Calm.{calm_read}
use Rattle.manager.proofs.Calm.{none_lane, segment_rose}
use Rattle.volume_parts.proofs.Elements.{refill_set, all_at}
use Rattle.volume_parts.proofs.Entries.{found_of}
use Rattle.manager.proofs.FetchRec.{spot_of, spot_in, readable_at, read_at, data_blocks}
use Rattle.volume_parts.proofs.PartReads.{lane_read, whole_after, counted_after, stays_after, on_ok_like, err_like}
use Rattle.manager.proofs.ReadRuns.{ready_after}
use Rattle.manager.proofs.ReadThrough.{through_lane}
use Rattle.manager.proofs.manager.Manager.read_record.Goals as goal

pub bounds-deref_mut-place : goal.bounds-deref_mut-place
bounds-deref_mut-place g c =
    let m = c.args.self.now in let r = c.args.record.now in
    let s = spot_of g.D.Disk.state m c.requires.serves.ready c.requires.serves.up r.version r c.requires.index (found_of m.index.entries r.version r c.requires.there) in
    let lt = slice_get_within m.lanes.items r.lane s.0 s.1.lane_is in
    let e = ap length c.deref_mut.ensures.value in
    omega (arith, lt, e, c.requires.serves.ready.ready.flags)

pub index_mut-lane-requires : goal.index_mut-lane-requires
index_mut-lane-requires g c =
    let m = c.args.self.now in let r = c.args.record.now in
    let s = spot_of g.D.Disk.state m c.requires.serves.ready c.requires.serves.up r.version r c.requires.index (found_of m.index.entries r.version r c.requires.there) in
    let lt = slice_get_within m.lanes.items r.lane s.0 s.1.lane_is in
    omega (arith, lt, m.lanes.ok.0)

pub read-answer-requires-clause-lane : goal.read-answer-requires-clause-lane
read-answer-requires-clause-lane g c =
    let m = c.args.self.now in let r = c.args.record.now in let l = c.index_mut-lane.result.now in
    let s = spot_in g.D.Disk.state m c.requires.serves.ready c.requires.serves.up r.version r c.requires.index (found_of m.index.entries r.version r c.requires.there) l c.index_mut-lane.ensures.value in
    (all_at (IsReadyLane g.D.Disk.state m.id m.most) m.lanes.items r.lane l s.lane_is c.requires.serves.ready.ready.each).lane

pub read-answer-requires-clause-at : goal.read-answer-requires-clause-at
read-answer-requires-clause-at g c =
    let m = c.args.self.now in let r = c.args.record.now in let l = c.index_mut-lane.result.now in
    let s = spot_in g.D.Disk.state m c.requires.serves.ready c.requires.serves.up r.version r c.requires.index (found_of m.index.entries r.version r c.requires.there) l c.index_mut-lane.ensures.value in
    all_at (IsAt c.args.shared.now) m.lanes.items r.lane l s.lane_is c.requires.serves.at.lanes_

pub read-answer-requires-clause-spot : goal.read-answer-requires-clause-spot
read-answer-requires-clause-spot g c =
    let m = c.args.self.now in let r = c.args.record.now in let l = c.index_mut-lane.result.now in
    let s = spot_in g.D.Disk.state m c.requires.serves.ready c.requires.serves.up r.version r c.requires.index (found_of m.index.entries r.version r c.requires.there) l c.index_mut-lane.ensures.value in
    readable_at c.spot_of-spot.ensures (record { place = s.place; segment = s.segment; there = s.there; named = s.index; whole = s.segment_whole; fits = let f = s.fits in let n = c.requires.count in omega arith })

pub returns-clause-ready : goal.returns-clause-ready
returns-clause-ready g c =
    let m = c.args.self.now in let state = g.D.Disk.state in let r = c.args.record.now in let k = r.lane in let l = c.index_mut-lane.result.now in let e = c.read-answer.ensures in let l' = c.read-answer.new.self in
    let s = spot_in state m c.requires.serves.ready c.requires.serves.up r.version r c.requires.index (found_of m.index.entries r.version r c.requires.there) l c.index_mut-lane.ensures.value in
    let was = all_at (IsReadyLane state m.id m.most) m.lanes.items k l s.lane_is c.requires.serves.ready.ready.each in
    subst (λ (ups : List Bool). IsReady state (record m { lanes = with_item m.lanes k l'; ups = record { items = ups } })) (sym (refill_set m.ups.items c.deref_mut.result.now k true c.deref_mut.ensures.value))
    (ready_after state m c.requires.serves.ready c.requires.serves.up k l l' (slice_set m.ups.items k true) s.lane_is e.same e.lane e.all e.taken
    (whole_after state g.met.D.Disk.sound l l' _ _ _ _ c.read-answer.result was.lane e.lane s.whole e.same e.moved) (stays_after state g.met.D.Disk.sound l l' _ _ _ _ c.read-answer.result was.lane e.lane s.whole e.same e.moved)
    (counted_after state g.met.D.Disk.sound l l' _ _ _ _ c.read-answer.result was.lane e.lane s.whole e.same e.moved k m.index.entries ((c.requires.serves.ready.up c.requires.serves.up).counted k l s.lane_is)) (length-set m.ups.items k true))

pub returns-clause-read : goal.returns-clause-read
returns-clause-read g c =
    let m = c.args.self.now in let state = g.D.Disk.state in let r = c.args.record.now in let k = r.lane in let l = c.index_mut-lane.result.now in let e = c.read-answer.ensures in let l' = c.read-answer.new.self in
    let s = spot_in state m c.requires.serves.ready c.requires.serves.up r.version r c.requires.index (found_of m.index.entries r.version r c.requires.there) l c.index_mut-lane.ensures.value in
    let was = all_at (IsReadyLane state m.id m.most) m.lanes.items k l s.lane_is c.requires.serves.ready.ready.each in
    through_lane state g.met.D.Disk.sound m _ k l l' s.lane_is refl refl (lane_read state g.met.D.Disk.sound l l' _ _ _ _ c.read-answer.result was.lane e.lane s.whole e.same e.moved e.taken e.pool)

pub returns-clause-fetched : goal.returns-clause-fetched
returns-clause-fetched g c =
    let m = c.args.self.now in let r = c.args.record.now in let k = r.lane in let l = c.index_mut-lane.result.now in let e = c.read-answer.ensures in let l' = c.read-answer.new.self in
    let s = spot_in g.D.Disk.state m c.requires.serves.ready c.requires.serves.up r.version r c.requires.index (found_of m.index.entries r.version r c.requires.there) l c.index_mut-lane.ensures.value in
    record {
      rest = λ i. record m { lanes = with_item m.lanes k l'; ups = record { items = refill_set m.ups.items c.deref_mut.result.now k true c.deref_mut.ensures.value i } };
      lanes = record { before = l; after = l'; there = s.lane_is; set = refl; change = record { same = e.same; used = e.used; pool = e.pool } };
    }

pub returns-clause-content : goal.returns-clause-content
returns-clause-content g c b notes keeps =
    let m = c.args.self.now in let state = g.D.Disk.state in let r = c.args.record.now in let l = c.index_mut-lane.result.now in let l' = c.read-answer.new.self in let moved = read_at c.spot_of-spot.ensures c.read-answer.ensures.moved in
    let f = found_of m.index.entries r.version r c.requires.there in
    let s = spot_in state m c.requires.serves.ready c.requires.serves.up r.version r c.requires.index f l c.index_mut-lane.ensures.value in
    data_blocks state m c.requires.serves.ready c.requires.serves.up r.version r c.requires.index f g.D.Disk.tells b notes keeps c.args.out.now c.read-answer.new.out c.requires.count l l' c.read-answer.result c.at_part.result c.at_part.ensures.like s moved

pub returns-clause-cause : goal.returns-clause-cause
returns-clause-cause g c =
    let m = c.args.self.now in let state = g.D.Disk.state in let r = c.args.record.now in let k = r.lane in let l = c.index_mut-lane.result.now in let l' = c.read-answer.new.self in let moved = read_at c.spot_of-spot.ensures c.read-answer.ensures.moved in
    let s = spot_in state m c.requires.serves.ready c.requires.serves.up r.version r c.requires.index (found_of m.index.entries r.version r c.requires.there) l c.index_mut-lane.ensures.value in
    err_like _ c.read-answer.result c.at_part.result c.at_part.ensures.like (subst (λ (q : Part). IfErr c.at_part.result (λ (p : Part). p ≡ q)) c.segment_of-segment.ensures c.at_part.ensures.part) moved.cause (λ rose. segment_rose state m.lanes.items _ k moved.place l l' moved.old_segment moved.new_segment s.lane_is refl moved.there moved.held _ _ c.logger.ensures (sym moved.named) rose)

pub returns-clause-calm : goal.returns-clause-calm
returns-clause-calm g c =
    let m = c.args.self.now in let state = g.D.Disk.state in let r = c.args.record.now in let k = r.lane in let l = c.index_mut-lane.result.now in let l' = c.read-answer.new.self in let moved = read_at c.spot_of-spot.ensures c.read-answer.ensures.moved in
    let s = spot_in state m c.requires.serves.ready c.requires.serves.up r.version r c.requires.index (found_of m.index.entries r.version r c.requires.there) l c.index_mut-lane.ensures.value in
    let was = all_at (IsReadyLane state m.id m.most) m.lanes.items k l s.lane_is c.requires.serves.ready.ready.each in
    on_ok_like c.read-answer.result c.at_part.result c.at_part.ensures.like (λ same. none_lane state m _ c.requires.serves.ready refl k l l' s.lane_is refl (calm_read state l l' _ _ _ _ c.read-answer.result was.lane moved same)) moved.calm
