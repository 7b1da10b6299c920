use Rattle.std.proofs.Common.{arith, ◌≡◌, ◌≤◌, ◌<◌, ◌+◌, ◌-◌, List, length, take, drop, ap, sym, subst}
use Rattle.trace_windows.specs.declared.request.Request.{Request}
use Rattle.window_desks.specs.Batches.{IsBatch}
use Rattle.window_desks.proofs.Serving.{up_to_none, up_to_both, ready_next}
use Rattle.window_desks.proofs.Batching.{batch_within, batch_rest}
use Rattle.window_desks.proofs.serve.serve_batch.Goals as goal

pub turns-init : goal.turns-init
turns-init g c = up_to_none _ c.args.at c.args.desk.now (let s = c.requires.some in omega (arith, s)) c.requires.ready.pass.free

pub serve_turn-next-requires-clause-ready : goal.serve_turn-next-requires-clause-ready
serve_turn-next-requires-clause-ready g c = ready_next _ _ _ c.args.at _ c.args.desk.now _ c.requires.ready c.turns.invariant

pub serve_turn-next-requires-clause-batch : goal.serve_turn-next-requires-clause-batch
serve_turn-next-requires-clause-batch g c =
    let rs = c.args.desk.now.requests.items in let at = c.args.at in let n = c.first_batch.result in let b = c.first_batch.ensures in let v = c.deref.ensures.value in
    let in_list : at ≤ length rs = (let s = c.requires.some in omega (arith, s)) in
    let within = subst (λ (l : List Request). n ≤ length (take (length l - at) (drop at l))) v b.within in
    let is = subst (λ (l : List Request). IsBatch (take n (take (length l - at) (drop at l)))) v b.batch in
    subst (λ (l : List Request). IsBatch (take (at + n - c.turns.next) (drop c.turns.next l))) (sym (ap (λ x. x.items) c.turns.invariant.served.requests))
    (batch_rest rs at n in_list within is c.turns.next c.turns.invariant.order c.turns-test.true)

pub turns-preserved : goal.turns-preserved
turns-preserved g c =
    let rs = c.args.desk.now.requests.items in let at = c.args.at in let n = c.first_batch.result in
    let in_list : at ≤ length rs = (let s = c.requires.some in omega (arith, s)) in
    let end = batch_within rs at n in_list (subst (λ (l : List Request). n ≤ length (take (length l - at) (drop at l))) c.deref.ensures.value c.first_batch.ensures.within) in
    up_to_both _ at _ _ c.args.desk.now _ _ c.turns.invariant (let t = c.turns-test.true in omega (arith, t, end)) c.serve_turn-next.ensures.served
