use Rattle.std.proofs.Common.{◌≡◌, ◌∙◌, List, length, get_or, sym, ap, subst, arith}
use Rattle.std.specs.Vec.{with_items}
use Rattle.std.proofs.lemmas.List.{with_items_is}
use Rattle.window_desks.specs.Collects.{HoldsOutcomes}
use Rattle.window_desks.specs.Worked.{AreWorked}
use Rattle.window_desks.specs.declared.desk.Desk.{Desk}
use Rattle.request_workers.proofs.Working.{all_hold, all_worked}
use Rattle.request_workers.proofs.Roomy.{passes_served, shares_served}
use Rattle.request_workers.proofs.Parts.{helped_still}
use Rattle.request_workers.proofs.slices.run_window.Goals as goal

pub close_all-requires-clause-passes : goal.close_all-requires-clause-passes
close_all-requires-clause-passes g c =
    let s = rw c.shares_for-shares.ensures.reclaim at c.serve_all.ensures.shared in
    rw c.as_mut_slice-desks.ensures.value (rw s.on.only (passes_served c.args.floor.now.locks.now c.args.shared.now _ _ _ c.requires.count s.len c.requires.can.ready s.served))

pub close_all-requires-clause-shared : goal.close_all-requires-clause-shared
close_all-requires-clause-shared g c =
    let s = rw c.shares_for-shares.ensures.reclaim at c.serve_all.ensures.shared in
    rw c.as_mut_slice-desks.ensures.value (shares_served c.args.floor.now.locks.now _ _ _ _ c.requires.count s.len c.requires.can.ready s.served)

pub collect-requires-clause-each : goal.collect-requires-clause-each
collect-requires-clause-each g c k d h =
    let s = rw c.shares_for-shares.ensures.reclaim at c.serve_all.ensures.shared in let v = c.serve_all.new.floor.desks in let fs = c.close_all.new.desks in
    let same : length fs ≡ length v.items = c.close_all.auto.desks ∙ ap length c.as_mut_slice-desks.ensures.value in
    let e = c.as_mut_slice.ensures.value ∙ with_items_is v fs (same ∙ sym v.ok.0) in
    let long = ap length e in let count = s.len in
    subst (λ (xs : List (Desk g.row.D.Denot)). HoldsOutcomes c.args.requests.now k (get_or xs k d)) (sym e)
    (all_hold _ _ _ _ _ _ c.requires.own s.served (rw c.as_mut_slice-desks.ensures.value at c.close_all.ensures) s.len k d (omega (arith, h, long, same, count)))

pub returns-clause-run : goal.returns-clause-run
returns-clause-run g c =
    let s = rw c.shares_for-shares.ensures.reclaim at c.serve_all.ensures.shared in let v = c.serve_all.new.floor.desks in let fs = c.close_all.new.desks in let gs = c.collect.new.desks in
    let same : length fs ≡ length v.items = c.close_all.auto.desks ∙ ap length c.as_mut_slice-desks.ensures.value in
    let e : c.as_mut_slice.result.now ≡ fs = c.as_mut_slice.ensures.value ∙ with_items_is v fs (same ∙ sym v.ok.0) in
    let same2 : length gs ≡ length fs = c.collect.auto.desks ∙ ap length e in
    let f : (with_items (with_items v fs) gs).items ≡ gs = with_items_is (with_items v fs) gs (same2 ∙ (same ∙ sym v.ok.0)) in
    record {
      len = c.collect.ensures.len;
      desk_count = ap length f ∙ (same2 ∙ (same ∙ s.len));
      worked = subst (λ (xs : List (Desk g.row.D.Denot)). AreWorked g.D.Disk.tells c.args.requests.now c.collect.new.out.items c.args.reclaim c.args.floor.now.desks.items xs) (sym f)
          (all_worked _ _ _ _ _ _ c.requires.own s.served (rw c.as_mut_slice-desks.ensures.value at c.close_all.ensures) s.len c.requires.fresh _ gs (same ∙ s.len) (rw e at c.collect.ensures.each));
      on = helped_still _ _ c.args.floor.now c.serve_all.new.floor _ _ s.on;
    }
