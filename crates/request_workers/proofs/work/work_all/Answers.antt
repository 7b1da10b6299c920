use Rattle.std.proofs.Common.{◌≡◌, ◌+◌, ℕ, arith, slice_index_or, subst}
use Rattle.errands.specs.Ends.{IsTold}
use Rattle.errands.specs.declared.ends.Worker.{Worker}
use Rattle.request_workers.proofs.work.work_all.Goals as goal

pub for_each_chunk_mut-requires-clause-accepts : goal.for_each_chunk_mut-requires-clause-accepts
for_each_chunk_mut-requires-clause-accepts g c κs in_scope start run chunk = (
  (let b = chunk.in_bounds in let e = c.requires.count in omega arith),
  (λ k e w h. rw (chunk.elements k w h) (c.requires.waiting (start + k) e w (let b = chunk.in_bounds in omega arith))),
)

pub returns : goal.returns
returns g c = λ k e w lt.
    let same = c.for_each_chunk_mut.auto.s in
    let at = (c.for_each_chunk_mut.ensures.by_index k w (omega (arith, lt, same))).1 in
    let within = at.offset_in_chunk in
    let long = at.call.0 in
    let told = at.call.1 at.offset e w (omega (arith, within, long)) in
    subst (λ (x : Worker g.row.T.Denot). IsTold (slice_index_or c.args.errands.now k e) x) at.new_element
    (subst (λ (i : ℕ). IsTold (slice_index_or c.args.errands.now i e) (slice_index_or at.after_call.now at.offset w)) at.start_plus_offset told)
