use Rattle.rack_parts.proofs.Basics.{◌≡◌, Some, length, refl, sym, ap, ◌∙◌, arith, none-some, same_Some, slice_get_read}
use Rattle.rack_parts.proofs.Terms.{pass_lock, PassOf, PoolBase, Pool, FreeSegment, pool_pass, spindle_pass}
use Rattle.rack_parts.proofs.LanesMoved.{segments_are, lane_gone, lane_back, pool_found, spindle_found, place_in}
use Rattle.rack_parts.proofs.rack.Rest.take_lane.Goals as goal

pub index_mut-requires : goal.index_mut-requires
index_mut-requires g c = (place_in c.args.self.now c.args.id c.args.logger c.args.logger c.index_mut-passes.result.now c.requires.place.place c.index_mut-passes.ensures.value refl).0

pub index_mut-requires-2 : goal.index_mut-requires-2
index_mut-requires-2 g c = (place_in c.args.self.now c.args.id c.args.logger c.args.logger c.index_mut-passes.result.now c.requires.place.place c.index_mut-passes.ensures.value refl).1

pub unreachable-requires : goal.unreachable-requires
unreachable-requires g c =
    let k = c.args.logger in let place = c.requires.place in
    none-some place.pool (c.in_default.ensures.value ∙ pool_found c.args.self.now c.args.id k k c.index_mut-passes.result.now c.index_mut.result.now place.place c.index_mut-passes.ensures.value refl c.index_mut.ensures.value ∙ place.pool_here)

-- the passes that were here are those that the lane gets
pub new-requires : goal.new-requires
new-requires g c =
    let r = c.args.self.now in let v = c.args.id in let k = c.args.logger in let row = c.index_mut-passes.result.now in let place = c.requires.place in let vs = c.args.config.now.volumes in
    let pool : place.pool ≡ c.in-Some.pool = same_Some place.pool c.in-Some.pool
    (sym place.pool_here ∙ sym (pool_found r v k k row c.index_mut.result.now place.place c.index_mut-passes.ensures.value refl c.index_mut.ensures.value) ∙ sym c.take.ensures.value ∙ c.in-Some.is) in
    let spindle : place.spindle ≡ c.in-Some-take.spindle = same_Some place.spindle c.in-Some-take.spindle
    (sym place.spindle_here ∙ sym (spindle_found r v k k row c.index_mut-2.result.now place.place c.index_mut-passes.ensures.value refl c.index_mut-2.ensures.value) ∙ sym c.take-2.ensures.value ∙ c.in-Some-take.is) in
    let segments = segments_are c.args.config.now k c.index.result.now (slice_get_read vs.items (length vs.items) k c.index.result.now refl (omega (arith, c.requires.within, vs.ok.0)) c.index.ensures) in
    record {
      few = omega (arith, ap (λ (x : PassOf (Pool (FreeSegment g.row.D.Denot)) PoolBase). length (pass_lock x).base.holders) pool, place.room, segments);
      pool_volume = rw pool at place.pool_volume;
      spindle_volume = rw spindle at place.spindle_volume;
      pool_free = rw pool at place.pool_free;
      spindle_free = rw spindle at place.spindle_free;
      settled = rw spindle at place.settled;
      accesses = rw spindle at place.accesses;
    }

pub returns-in-Ok-clause-lane : goal.returns-in-Ok-clause-lane
returns-in-Ok-clause-lane g c =
    let r = c.args.self.now in let v = c.args.id in let k = c.args.logger in let row = c.index_mut-passes.result.now in let place = c.requires.place.place in let vs = c.args.config.now.volumes in
    record {
      lane = c.in-Ok.ensures.lane;
      owner = c.in-Ok.ensures.owner;
      size = c.in-Ok.ensures.segments ∙ sym (segments_are c.args.config.now k c.index.result.now (slice_get_read vs.items (length vs.items) k c.index.result.now refl (omega (arith, c.requires.within, vs.ok.0)) c.index.ensures));
      bare = c.in-Ok.ensures.held;
      untaken = c.in-Ok.ensures.taken;
      pool = ap (pool_pass r v) c.in-Ok.ensures.logger ∙ sym (pool_found r v k k row c.index_mut.result.now place c.index_mut-passes.ensures.value refl c.index_mut.ensures.value) ∙ sym c.take.ensures.value ∙ c.in-Some.is ∙ ap Some (sym c.in-Ok.ensures.pool);
      spindle = ap (spindle_pass r v) c.in-Ok.ensures.logger ∙ sym (spindle_found r v k k row c.index_mut-2.result.now place c.index_mut-passes.ensures.value refl c.index_mut-2.ensures.value) ∙ sym c.take-2.ensures.value ∙ c.in-Some-take.is
          ∙ ap Some (sym c.in-Ok.ensures.spindle);
    }

pub returns-in-Ok-clause-taken : goal.returns-in-Ok-clause-taken
returns-in-Ok-clause-taken g c =
    lane_gone c.args.self.now c.args.id c.args.logger c.index_mut-passes.result.now c.take.new.self c.take-2.new.self c.requires.place.place c.index_mut-passes.ensures.value c.requires.place.held c.take.ensures.after c.take-2.ensures.after

pub returns-in-Err-clause-same : goal.returns-in-Err-clause-same
returns-in-Err-clause-same g c =
    let r = c.args.self.now in let v = c.args.id in let k = c.args.logger in let row = c.index_mut-passes.result.now in let place = c.requires.place.place in let read = c.index_mut-passes.ensures.value in
    lane_back r v k row c.take.new.self (Some c.in-Err.pool) c.take-2.new.self (Some c.in-Err.spindle) place read
    (ap Some c.in-Err.ensures.unchanged.0 ∙ sym c.in-Some.is ∙ c.take.ensures.value ∙ pool_found r v k k row c.index_mut.result.now place read refl c.index_mut.ensures.value)
    (ap Some c.in-Err.ensures.unchanged.1 ∙ sym c.in-Some-take.is ∙ c.take-2.ensures.value ∙ spindle_found r v k k row c.index_mut-2.result.now place read refl c.index_mut-2.ensures.value)
