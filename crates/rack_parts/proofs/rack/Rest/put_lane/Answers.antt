use Rattle.rack_parts.proofs.Basics.{ℕ, length, ap, ◌∙◌, arith, Global, Vec, Some}
use Rattle.rack_parts.proofs.Terms.{Spun, logger_of}
use Rattle.rack_parts.proofs.LanesMoved.{lane_put, pool_found, spindle_found, held_found, place_in}
use Rattle.rack_parts.proofs.rack.Rest.put_lane.Goals as goal

pub index_mut-requires : goal.index_mut-requires
index_mut-requires g c = (place_in c.args.self.now c.args.id (logger_of c.args.lane) c.release-logger.result.logger c.index_mut-passes.result.now c.requires.bare.place c.index_mut-passes.ensures.value c.release-logger.ensures.logger).0

pub fill-requires : goal.fill-requires
fill-requires g c =
    pool_found c.args.self.now c.args.id (logger_of c.args.lane) c.release-logger.result.logger c.index_mut-passes.result.now c.index_mut.result.now c.requires.bare.place c.index_mut-passes.ensures.value c.release-logger.ensures.logger c.index_mut.ensures.value
    ∙ c.requires.bare.pool

pub index_mut-requires-2 : goal.index_mut-requires-2
index_mut-requires-2 g c = (place_in c.args.self.now c.args.id (logger_of c.args.lane) c.release-logger.result.logger c.index_mut-passes.result.now c.requires.bare.place c.index_mut-passes.ensures.value c.release-logger.ensures.logger).1

pub fill-requires-2 : goal.fill-requires-2
fill-requires-2 g c =
    spindle_found c.args.self.now c.args.id (logger_of c.args.lane) c.release-logger.result.logger c.index_mut-passes.result.now c.index_mut-2.result.now c.requires.bare.place c.index_mut-passes.ensures.value c.release-logger.ensures.logger c.index_mut-2.ensures.value
    ∙ c.requires.bare.spindle

pub index_mut-requires-3 : goal.index_mut-requires-3
index_mut-requires-3 g c = (place_in c.args.self.now c.args.id (logger_of c.args.lane) c.release-logger.result.logger c.index_mut-passes.result.now c.requires.bare.place c.index_mut-passes.ensures.value c.release-logger.ensures.logger).2

pub destroy_empty-requires : goal.destroy_empty-requires
destroy_empty-requires g c =
    let found = held_found c.args.self.now c.args.id (logger_of c.args.lane) c.release-logger.result.logger c.index_mut-passes.result.now c.index_mut-3.result.now c.requires.bare.place c.index_mut-passes.ensures.value c.release-logger.ensures.logger c.index_mut-3.ensures.value in
    omega (arith, ap (λ (x : Vec (ℕ × Spun g.row.D.Denot) Global). x.len) c.replace-none.ensures.value, c.index_mut-3.result.now.ok.0, ap length found.1, ap length c.requires.bare.held)

pub returns : goal.returns
returns g c = lane_put c.args.self.now c.args.id c.index_mut-passes.result.now c.args.lane c.release-logger.result.logger c.fill.new.place c.fill-2.new.place c.replace-none.new.dest
    c.release-logger.ensures.logger c.requires.bare.place c.index_mut-passes.ensures.value (c.fill.ensures ∙ ap Some c.release-logger.ensures.pool) (c.fill-2.ensures ∙ ap Some c.release-logger.ensures.spindle)
    (ap (λ (x : Vec (ℕ × Spun g.row.D.Denot) Global). x.items) c.replace-none.ensures.after ∙ c.release-logger.ensures.held)
