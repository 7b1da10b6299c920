use Rattle.std.proofs.Common.{arith, ap, length}
use Rattle.window_desks.proofs.Serving.{up_to_none, up_to_both, ready_first, ready_next, all_served}
use Rattle.window_desks.proofs.serve.serve_desk.Goals as goal

pub batches-init : goal.batches-init
batches-init g c = up_to_none _ 0 _ (omega arith) c.requires.ready.pass.free

pub serve_batch-next-requires-clause-ready : goal.serve_batch-next-requires-clause-ready
serve_batch-next-requires-clause-ready g c = ready_next _ _ _ 0 _ _ _ (ready_first _ _ _ c.requires.ready) c.batches.invariant

pub batches-preserved : goal.batches-preserved
batches-preserved g c =
    let t = c.batches-test.true in let l = c.len.ensures in let o = c.batches.desk.requests.ok.0 in let s = ap (λ v. length v.items) c.batches.invariant.served.requests in
    up_to_both _ 0 _ _ _ _ _ c.batches.invariant (omega (arith, t, l, o, s)) c.serve_batch-next.ensures.served

pub returns : goal.returns
returns g c =
    let t = c.batches-test.false in let l = c.len.ensures in let o = c.batches.desk.requests.ok.0 in let s = ap (λ v. length v.items) c.batches.invariant.served.requests in
    all_served _ _ _ _ c.requires.ready.empty (omega (arith, t, l, o, s)) c.batches.invariant
