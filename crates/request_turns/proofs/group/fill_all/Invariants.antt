use Rattle.std.proofs.Common.{◌≡◌, length, sum_by, take}
use Rattle.std.specs.List.{flat_map}
use Rattle.trace_windows.specs.declared.request.Request.{Request}
use Rattle.request_turns.specs.Groups.{blocks_of}
use Rattle.request_turns.proofs.group.fill_all.Given as goal

abbrev pub invariant-loop-request : goal.invariant-loop-request
invariant-loop-request l = record {
  at_is : l.at ≡ sum_by (λ (r : Request). r.count) (take l.request-index l.requests);
  filled : take l.at l.out ≡ flat_map blocks_of (take l.request-index l.requests);
  same : length l.out ≡ length l.fn.out;
}
