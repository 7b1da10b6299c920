use Rattle.rack_parts.proofs.Basics.{◌<◌, ◌≤◌, ℕ, List, length, is_some, sym, ap, subst, ◌∙◌, arith, slice_index_or, take_all}
use Rattle.rack_parts.proofs.Terms.{Lane, TakesLanes, loggers_out}
use Rattle.rack_parts.proofs.LanesTaken.{AreLanesTaken, lanes_none, next_usable, same_out, lanes_step, may_put_back, all_back, can_after_same, puts_after_same}
use Rattle.rack_parts.proofs.rack.Rest.take_lanes.Goals as goal

pub loop-logger-init : goal.loop-logger-init
loop-logger-init g c =
    record {
      taken = subst (λ (l : List (Lane g.row.D.Denot)). AreLanesTaken g.D.Disk.state c.args.config.now c.args.view.now c.args.id c.args.self.now c.args.self.now l 0) (sym c.in-Ok.ensures.items) (lanes_none g.D.Disk.state c.args.config.now c.args.view.now c.args.id c.args.self.now);
      room = omega (arith, c.len.ensures.count, c.in-Ok.ensures.capacity);
    }

pub take_lane_of-requires-clause-config : goal.take_lane_of-requires-clause-config
take_lane_of-requires-clause-config g c = ap (λ x. length x.items) c.loop-logger.invariant.taken.takes.passes.images ∙ c.requires.config

pub take_lane_of-requires-clause-room : goal.take_lane_of-requires-clause-room
take_lane_of-requires-clause-room g c =
    let within : c.loop-logger.logger-index < length c.args.view.now = omega (arith, ap length c.ids-logger-items.ensures.value) in
    omega (arith, within, c.loop-logger.invariant.taken.few, c.loop-logger.invariant.room, c.loop-logger.lanes.ok.0)

pub take_lane_of-requires-clause-place : goal.take_lane_of-requires-clause-place
take_lane_of-requires-clause-place g c = λ some.
    let view = c.args.view.now in let n = c.loop-logger.logger-index in let k = slice_index_or c.ids-logger-items.result.now n 0 in let old = c.args.self.now in let new = c.loop-logger.self in
    let within : n < length view = omega (arith, ap length c.ids-logger-items.ensures.value) in
    let so_far = c.loop-logger.invariant.taken in let state = g.D.Disk.state in let config = c.args.config.now in let v = c.args.id in let lanes = c.loop-logger.lanes.items in
    next_usable state config view v c.len.ensures.valid.distinct old new lanes n so_far k within (ap (λ (l : List ℕ). slice_index_or l n 0) c.ids-logger-items.ensures.value)
    (ap is_some (sym (same_out state config view v c.len.ensures.valid.distinct old new lanes n so_far k)) ∙ some) c.requires.places

pub put_lanes-requires : goal.put_lanes-requires
put_lanes-requires g c =
    let new = c.loop-logger.self in let state = g.D.Disk.state in let v = c.args.id in let lanes = c.loop-logger.lanes.items in
    rw c.in-Err.ensures.same_lanes (can_after_same state new c.take_lane_of.new.self v lanes c.in-Err.ensures.same
    (may_put_back state c.args.config.now c.args.view.now v c.len.ensures.valid.distinct c.args.self.now new lanes c.loop-logger.logger-index c.loop-logger.invariant.taken))

pub returns-in-Err-clause-same : goal.returns-in-Err-clause-same
returns-in-Err-clause-same g c =
    let new = c.loop-logger.self in let v = c.args.id in let lanes = c.loop-logger.lanes.items in
    all_back g.D.Disk.state c.args.config.now c.args.view.now v c.len.ensures.valid.distinct c.args.self.now new lanes c.loop-logger.logger-index c.loop-logger.invariant.taken c.put_lanes.new.self
    (puts_after_same new c.take_lane_of.new.self c.put_lanes.new.self v lanes c.in-Err.ensures.same (rw c.in-Err.ensures.same_lanes at c.put_lanes.ensures))

pub loop-logger-preserved : goal.loop-logger-preserved
loop-logger-preserved g c =
    let view = c.args.view.now in let n = c.loop-logger.logger-index in
    record {
      taken = lanes_step g.D.Disk.state c.args.config.now view c.args.id c.len.ensures.valid.distinct c.args.self.now c.loop-logger.self c.take_lane_of.new.self c.loop-logger.lanes.items c.take_lane_of.new.lanes.items n c.loop-logger.invariant.taken
          (slice_index_or c.ids-logger-items.result.now n 0) (omega (arith, ap length c.ids-logger-items.ensures.value)) (ap (λ (l : List ℕ). slice_index_or l n 0) c.ids-logger-items.ensures.value) c.requires.places c.in_default-take_lane_of.ensures.taken;
      room = omega (arith, c.loop-logger.invariant.room, c.take_lane_of.ensures.room);
    }

pub returns : goal.returns
returns g c =
    let state = g.D.Disk.state in let config = c.args.config.now in let view = c.args.view.now in let n = c.loop-logger.logger-index in let old = c.args.self.now in let new = c.loop-logger.self in let lanes = c.loop-logger.lanes.items in
    let all : length view ≤ n = omega (arith, ap length c.ids-logger-items.ensures.value) in
    let so_far = c.loop-logger.invariant.taken in
    record {
      distinct = c.len.ensures.valid.distinct;
      taken = subst (λ (l : List ℕ). TakesLanes state config old new c.args.id (loggers_out old l) lanes) (take_all n view all) so_far.takes;
      back = may_put_back state config view c.args.id c.len.ensures.valid.distinct old new lanes n so_far;
      restored = all_back state config view c.args.id c.len.ensures.valid.distinct old new lanes n so_far;
      same = tt;
    }
