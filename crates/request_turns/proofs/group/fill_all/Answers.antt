use Rattle.std.proofs.Common.{◌≡◌, ◌≤◌, ◌+◌, ℕ, length, slice_index_or, refl, sym, ap, ◌∙◌, arith, rules}
use Rattle.std.proofs.lemmas.List.Sums.{sum_by_more_le}
use Rattle.wol_model.specs.declared.trace.Kind.TheVariants as kind
use Rattle.trace_windows.specs.declared.request.Request.{Request}
use Rattle.request_turns.proofs.GroupPayloads.{counted_more, filled_more}
use Rattle.request_turns.proofs.group.fill_all.Goals as goal

pub loop-request-preserved : goal.loop-request-preserved
loop-request-preserved c =
    let i = c.loop-request.invariant in let rs = c.args.requests.now in let n = c.loop-request.request-index in let other : Request = record { number = 0; line = 0; volume = 0; kind = kind.Read; lbn = 0; count = 0 } in
    let request : Request = slice_index_or rs n other in
    let fits = sum_by_more_le (λ (r : Request). r.count) rs n other c.loop-request-test.true in
    let is_at = i.at_is in let same = i.same in let room = c.requires.room in
    let inside : c.loop-request.at + request.count ≤ length c.loop-request.out = omega (arith, fits, is_at, same, room) in
    let long : length c.fill.new.out ≡ request.count = search rules in
    record {
      at_is = ap (λ (k : ℕ). k + request.count) i.at_is ∙ sym (counted_more rs n other c.loop-request-test.true);
      filled = filled_more rs n other c.loop-request.at (c.loop-request.at + request.count) _ c.loop-request.out c.fill.new.out c.loop-request-test.true i.filled c.fill.ensures long refl (omega (arith, inside));
      same = search rules;
    }
