use Rattle.std.proofs.Common.{◌≡◌, map, take}
use Rattle.trace_windows.specs.Requests.{asked}
use Rattle.trace_windows.specs.declared.request.Request.{Request}
use Rattle.comparison.specs.Asked.{ask_of}
use Rattle.comparison.proofs.windows.gather.Given as goal

abbrev pub invariant-loop-request : goal.invariant-loop-request
invariant-loop-request l = l.asks.items ≡ map (λ (r : Request). ask_of (asked r)) (take l.request-index l.requests)
