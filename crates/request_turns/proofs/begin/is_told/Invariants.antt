use Rattle.std.proofs.Common.{◌≡◌, false, map, take, slice_index_or}
use Rattle.logger.specs.Lanes.{logger_of}
use Rattle.request_turns.proofs.begin.is_told.Given as goal

abbrev pub invariant-loop-lane : goal.invariant-loop-lane
invariant-loop-lane g l = take l.lane l.manager.ups.items ≡ map (λ v. slice_index_or l.awake v false) (map logger_of (take l.lane l.manager.lanes.items))
