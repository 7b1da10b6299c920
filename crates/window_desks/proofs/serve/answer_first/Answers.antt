use Rattle.std.proofs.Common.{arith, ◌≡◌, ◌≤◌, ◌-◌, List, length, take, drop, ap, subst}
use Rattle.request_turns.specs.Answered.{HasAnsweredMany}
use Rattle.trace_windows.specs.declared.request.Request.{Request}
use Rattle.window_desks.proofs.Batching.{part_length}
use Rattle.window_desks.proofs.Making.{one_answered}
use Rattle.window_desks.proofs.serve.answer_first.Goals as goal

pub returns-in-Read-clause-answered : goal.returns-in-Read-clause-answered
returns-in-Read-clause-answered g c =
    let xs = c.as_slice.result.now in let a = c.args.at in let e = c.args.end in let v = c.as_slice.ensures.value in
    let some : 1 ≤ length (take (e - a) (drop a xs)) = (let n = ap length v in let s = c.requires.some in let w = c.requires.end in let l = part_length xs a e (omega (arith, s)) (omega (arith, n, w)) in omega (arith, l, s)) in
    subst (λ (l : List Request). HasAnsweredMany g.D.Disk.tells (take (e - a) (drop a l)) 1 c.read_turn-outcome.result c.args.desk.now.worker c.read_turn-outcome.new.pass) v
    (one_answered _ (take (e - a) (drop a xs)) _ _ _ _ some c.in-Read.is c.read_turn-outcome.ensures.answered)

pub returns-in-Read-clause-counted : goal.returns-in-Read-clause-counted
returns-in-Read-clause-counted g c = c.read_turn-outcome.ensures.counted c.args.desk.now.tally
