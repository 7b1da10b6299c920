use Rattle.std.proofs.Common.{◌≡◌, false, length, map, take, slice_index_or}
use Rattle.logger.specs.Lanes.{logger_of}
use Rattle.request_turns.proofs.begin.flags.Given as goal

abbrev pub invariant-loop-lane : goal.invariant-loop-lane
invariant-loop-lane g l = record {
  long : length l.flags ≡ 16;
  front : take l.lane l.flags ≡ map (λ v. slice_index_or l.awake v false) (map logger_of (take l.lane l.manager.lanes.items));
}
