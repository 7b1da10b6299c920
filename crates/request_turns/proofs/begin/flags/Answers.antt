use Rattle.std.proofs.Common.{◌<◌, length, ◌∙◌, arith}
use Rattle.std.proofs.lemmas.List.{length-set}
use Rattle.logger.specs.Lanes.{logger_of}
use Rattle.request_turns.proofs.Flagged.{place_of_flag, holds_too, front_more}
use Rattle.request_turns.proofs.begin.flags.Goals as goal

pub bounds-awake-logger : goal.bounds-awake-logger
bounds-awake-logger g c =
    let within = place_of_flag c.ups-lane-end.result.now c.args.manager.now.ups.items c.args.manager.now.lanes.items c.loop-lane.lane c.ups-lane-end.ensures c.requires.count c.loop-lane-test.true in
    holds_too logger_of c.args.manager.now.lanes.items c.loop-lane.lane c.logger.result within c.logger.ensures (λ v. v < length c.args.awake.now) c.requires.view

pub loop-lane-preserved : goal.loop-lane-preserved
loop-lane-preserved g c =
    let within = place_of_flag c.ups-lane-end.result.now c.args.manager.now.ups.items c.args.manager.now.lanes.items c.loop-lane.lane c.ups-lane-end.ensures c.requires.count c.loop-lane-test.true in
    record {
      long = length-set c.loop-lane.flags c.loop-lane.lane _ ∙ c.loop-lane.invariant.long;
      front = front_more logger_of c.args.manager.now.lanes.items c.loop-lane.lane c.logger.result within c.logger.ensures c.loop-lane.flags c.args.awake.now (let l = c.loop-lane.invariant.long in let f = c.requires.few in omega arith) c.loop-lane.invariant.front;
    }
