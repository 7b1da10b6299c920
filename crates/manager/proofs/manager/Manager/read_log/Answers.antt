-- A log is read where one of its records is the newest one of the blocks.
use Rattle.std.proofs.Common.{◌≡◌, Bool, true, List, length, refl, sym, ap, subst, ◌∙◌, arith}
use Rattle.std.specs.Prelude.{slice_set, IfErr}
use Rattle.std.specs.Vec.{with_item}
use Rattle.std.proofs.Math.ListN.{length-set}
use Rattle.std.proofs.lemmas.Option.{slice_get_within}
use Rattle.wol_model.specs.Index.{listed_in}
use Rattle.logger.specs.Lanes.{IsAt}
use Rattle.manager.specs.Seen.{down_of, look_of_manager}
use Rattle.manager.specs.Stands.{IsReady, IsReadyLane}
use Rattle.manager.specs.declared.part.Part.{Part}
use Rattle.volume_parts.proofs.Calm.{calm_read}
use Rattle.manager.proofs.FetchRec.{readable_at, read_at}
use Rattle.manager.proofs.Calm.{none_lane, segment_rose}
use Rattle.volume_parts.proofs.Elements.{refill_set, all_at}
use Rattle.manager.proofs.ReadContent.{log_content}
use Rattle.manager.proofs.ReadRuns.{spotted, spotted_in, ready_after}
use Rattle.manager.proofs.ReadThrough.{through_lane}
use Rattle.manager.proofs.ReadyLanes.{at_lane}
use Rattle.volume_parts.proofs.PartReads.{lane_read, whole_after, counted_after, stays_after, on_ok_like, err_like, needs_set, needs_none}
use Rattle.volume_parts.proofs.Contents.{lane_run_of}
use Rattle.wol_promise.proofs.Woken.{woken_log, log_reads_home, log_reads_lane}
use Rattle.manager.proofs.manager.Manager.read_log.Goals as goal

pub bounds-deref_mut-place : goal.bounds-deref_mut-place
bounds-deref_mut-place g c =
    let m = c.args.self.now in
    let s = spotted g.D.Disk.state m c.requires.serves.ready c.requires.serves.up c.args.record.now c.args.lbn (length c.args.out.now) c.requires.some c.requires.source in
    let lt = slice_get_within m.lanes.items c.args.record.now.lane s.0 s.1.spot.lane_is in
    let e = ap length c.deref_mut.ensures.value in
    omega (arith, lt, e, c.requires.serves.ready.ready.flags)

pub index_mut-lane-requires : goal.index_mut-lane-requires
index_mut-lane-requires g c =
    let m = c.args.self.now in
    let s = spotted g.D.Disk.state m c.requires.serves.ready c.requires.serves.up c.args.record.now c.args.lbn (length c.args.out.now) c.requires.some c.requires.source in
    let lt = slice_get_within m.lanes.items c.args.record.now.lane s.0 s.1.spot.lane_is in
    omega (arith, lt, m.lanes.ok.0)

pub overflow_sub-skip : goal.overflow_sub-skip
overflow_sub-skip g c = (spotted g.D.Disk.state c.args.self.now c.requires.serves.ready c.requires.serves.up c.args.record.now c.args.lbn (length c.args.out.now) c.requires.some c.requires.source).1.behind

pub read-answer-requires-clause-lane : goal.read-answer-requires-clause-lane
read-answer-requires-clause-lane g c =
    let m = c.args.self.now in
    let s = spotted_in g.D.Disk.state m c.requires.serves.ready c.requires.serves.up c.args.record.now c.args.lbn (length c.args.out.now) c.requires.some c.requires.source c.index_mut-lane.result.now c.index_mut-lane.ensures.value in
    (all_at (IsReadyLane g.D.Disk.state m.id m.most) m.lanes.items c.args.record.now.lane c.index_mut-lane.result.now s.spot.lane_is c.requires.serves.ready.ready.each).lane

pub read-answer-requires-clause-at : goal.read-answer-requires-clause-at
read-answer-requires-clause-at g c =
    let m = c.args.self.now in
    let s = spotted_in g.D.Disk.state m c.requires.serves.ready c.requires.serves.up c.args.record.now c.args.lbn (length c.args.out.now) c.requires.some c.requires.source c.index_mut-lane.result.now c.index_mut-lane.ensures.value in
    all_at (IsAt c.args.shared.now) m.lanes.items c.args.record.now.lane c.index_mut-lane.result.now s.spot.lane_is c.requires.serves.at.lanes_

pub read-answer-requires-clause-spot : goal.read-answer-requires-clause-spot
read-answer-requires-clause-spot g c =
    let m = c.args.self.now in
    let s = spotted_in g.D.Disk.state m c.requires.serves.ready c.requires.serves.up c.args.record.now c.args.lbn (length c.args.out.now) c.requires.some c.requires.source c.index_mut-lane.result.now c.index_mut-lane.ensures.value in
    readable_at c.spot_of-spot.ensures (record { place = s.spot.place; segment = s.spot.segment; there = s.spot.there; named = s.spot.index; whole = s.spot.segment_whole; fits = s.fits })

pub returns-clause-run : goal.returns-clause-run
returns-clause-run g c =
    let m = c.args.self.now in let state = g.D.Disk.state in let k = c.args.record.now.lane in let l = c.index_mut-lane.result.now in let e = c.read-answer.ensures in let l' = c.read-answer.new.self in let n = length c.args.out.now in
    let s = spotted_in state m c.requires.serves.ready c.requires.serves.up c.args.record.now c.args.lbn n c.requires.some c.requires.source l c.index_mut-lane.ensures.value in
    let was = all_at (IsReadyLane state m.id m.most) m.lanes.items k l s.spot.lane_is c.requires.serves.ready.ready.each in
    let lt = slice_get_within m.lanes.items k l s.spot.lane_is in
    let run = lane_run_of m.index.entries c.args.lbn n c.args.record.now c.requires.source in
    record {
      ready = subst (λ (ups : List Bool). IsReady state (record m { lanes = with_item m.lanes k l'; ups = record { items = ups } })) (sym (refill_set m.ups.items c.deref_mut.result.now k true c.deref_mut.ensures.value))
          (ready_after state m c.requires.serves.ready c.requires.serves.up k l l' (slice_set m.ups.items k true) s.spot.lane_is e.same e.lane e.all e.taken
          (whole_after state g.met.D.Disk.sound l l' _ _ _ _ c.read-answer.result was.lane e.lane s.spot.whole e.same e.moved) (stays_after state g.met.D.Disk.sound l l' _ _ _ _ c.read-answer.result was.lane e.lane s.spot.whole e.same e.moved)
          (counted_after state g.met.D.Disk.sound l l' _ _ _ _ c.read-answer.result was.lane e.lane s.spot.whole e.same e.moved k m.index.entries ((c.requires.serves.ready.up c.requires.serves.up).counted k l s.spot.lane_is)) (length-set m.ups.items k true));
      at = at_lane m k l' c.requires.serves.at e.at;
      read = through_lane state g.met.D.Disk.sound m _ k l l' s.spot.lane_is refl refl (lane_read state g.met.D.Disk.sound l l' _ _ _ _ c.read-answer.result was.lane e.lane s.spot.whole e.same e.moved e.taken e.pool);
      look = (λ i. record { home_up = m.home_up; ups = refill_set m.ups.items c.deref_mut.result.now k true c.deref_mut.ensures.value i; next = m.next; listed = listed_in m.index.entries; down = down_of m.down })
          ∙ sym (woken_log (look_of_manager m) c.args.lbn n k c.requires.some (omega (arith, lt, c.requires.serves.ready.ready.flags)) run);
      needs = record {
        home = rw (log_reads_home (listed_in m.index.entries) c.args.lbn n c.requires.some k run) (needs_none m.spindle m.spindle refl);
        lanes = λ j o o' was is. rw (log_reads_lane (listed_in m.index.entries) c.args.lbn n c.requires.some k run j) (needs_set m.lanes.items k l l' s.spot.lane_is e.used j o o' was is);
      };
    }

pub returns-clause-content : goal.returns-clause-content
returns-clause-content g c told b notes keeps =
    let m = c.args.self.now in let state = g.D.Disk.state in let r = c.args.record.now in let l = c.index_mut-lane.result.now in let moved = read_at c.spot_of-spot.ensures c.read-answer.ensures.moved in
    let t = g.met.D.Disk.told told m.home.inner in
    let s = spotted_in state m c.requires.serves.ready c.requires.serves.up r c.args.lbn (length c.args.out.now) c.requires.some c.requires.source l c.index_mut-lane.ensures.value in
    let long : length t.0 ≡ (state m.home.inner).size = (g.met.D.Disk.sound m.home.inner).each_block t.0 t.1 in
    let found = log_content g.D.Disk.tells state m b notes keeps c.requires.serves.up told t.0 t.1 c.args.lbn (length c.args.out.now) (omega (arith, long, c.requires.fits)) c.requires.some r c.requires.source l moved.place moved.old_segment s.spot.lane_is moved.there moved.named in
    on_ok_like c.read-answer.result c.at_part.result c.at_part.ensures.like (λ is. is ∙ found.content) (moved.content found.stands.records found.stands.place found.stands.record_ found.stands.holds found.stands.there found.stands.position found.within)

pub returns-clause-cause : goal.returns-clause-cause
returns-clause-cause g c =
    let m = c.args.self.now in let state = g.D.Disk.state in let k = c.args.record.now.lane in let l = c.index_mut-lane.result.now in let l' = c.read-answer.new.self in let moved = read_at c.spot_of-spot.ensures c.read-answer.ensures.moved in
    let s = spotted_in state m c.requires.serves.ready c.requires.serves.up c.args.record.now c.args.lbn (length c.args.out.now) c.requires.some c.requires.source l c.index_mut-lane.ensures.value in
    err_like _ c.read-answer.result c.at_part.result c.at_part.ensures.like (subst (λ (q : Part). IfErr c.at_part.result (λ (p : Part). p ≡ q)) c.segment_of-segment.ensures c.at_part.ensures.part) moved.cause (λ rose. segment_rose state m.lanes.items _ k moved.place l l' moved.old_segment moved.new_segment s.spot.lane_is refl moved.there moved.held _ _ c.logger.ensures (sym moved.named) rose)

pub returns-clause-calm : goal.returns-clause-calm
returns-clause-calm g c =
    let m = c.args.self.now in let state = g.D.Disk.state in let k = c.args.record.now.lane in let l = c.index_mut-lane.result.now in let l' = c.read-answer.new.self in let moved = read_at c.spot_of-spot.ensures c.read-answer.ensures.moved in
    let s = spotted_in state m c.requires.serves.ready c.requires.serves.up c.args.record.now c.args.lbn (length c.args.out.now) c.requires.some c.requires.source l c.index_mut-lane.ensures.value in
    let was = all_at (IsReadyLane state m.id m.most) m.lanes.items k l s.spot.lane_is c.requires.serves.ready.ready.each in
    on_ok_like c.read-answer.result c.at_part.result c.at_part.ensures.like (λ same. none_lane state m _ c.requires.serves.ready refl k l l' s.spot.lane_is refl (calm_read state l l' _ _ _ _ c.read-answer.result was.lane moved same)) moved.calm
