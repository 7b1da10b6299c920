use Rattle.request_turns.proofs.ClosedTurn.{bare_is_idle}
use Rattle.request_turns.proofs.Reclaiming.{nothing_yet}
use Rattle.request_turns.proofs.reclaim.reclaim_anew.Goals as goal

pub returns-then-is_bare : goal.returns-then-is_bare
returns-then-is_bare g c = let m = c.args.m.now in let bare = c.is_bare.ensures c.if-is_bare.true in
    record { none = c.new-done.result; fresh = c.new-done.ensures; steps = nothing_yet _ _ _ c.new-done.result m c.requires.ready c.requires.at; idle = bare_is_idle m bare.1 }

pub returns : goal.returns
returns g c = let r = c.reclaim_all-answer.ensures in
    record { none = c.new-done.result; fresh = c.new-done.ensures; steps = r.reclaims; idle = r.idle }
