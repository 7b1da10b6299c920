use Rattle.std.proofs.Common.{◌≡◌, ◌≢◌, ◌≤◌, ◌<◌, length, arith, sym, subst, ◌∙◌, get_or}
use Rattle.std.proofs.lemmas.List.{get_or_default, get_or-set_other}
use Rattle.request_turns.specs.Helped.{ManagerLock}
use Rattle.window_desks.specs.Desks.{IsReadyDesk}
use Rattle.window_desks.specs.Served.{HasServed}
use Rattle.window_desks.specs.declared.desk.Desk.{Desk}
use Rattle.window_desks.proofs.OneMore.{each_next}
use Rattle.window_desks.proofs.run.serve_run.Goals as goal

pub serve_desk-requires : goal.serve_desk-requires
serve_desk-requires g c =
    let k = c.loop-k.k in let d = c.index-run-k.result in let l = c.index-locks-start.result in
    let test : k < length c.args.run.now = c.loop-k-test.true in
    let was : Desk g.row.D.Denot = get_or c.args.run.now k d in
    let ready : IsReadyDesk l c.args.shared.now was = subst (λ (m : ManagerLock g.row.D.Denot). IsReadyDesk m c.args.shared.now was) (sym c.index-locks-start.is) (c.requires.ready k l d test) in
    record { ready = subst (λ (x : Desk g.row.D.Denot). IsReadyDesk l c.args.shared.now x) (sym (c.loop-k.invariant.rest k d (omega arith))) ready }

pub loop-k-preserved : goal.loop-k-preserved
loop-k-preserved g c =
    let k = c.loop-k.k in let ds = c.args.run.now in let ps = c.loop-k.run in let new = c.serve_desk.new.desk in
    let room : k < length ps = (let t = c.loop-k-test.true in let a = c.loop-k.auto.run in omega arith) in
    let rest = c.loop-k.invariant.rest in
    let old : (d : Desk g.row.D.Denot) → get_or ps k c.index-run-k.result ≡ get_or ds k d =
    (λ d. rest k c.index-run-k.result (omega arith) ∙ get_or_default ds k c.index-run-k.result d (let a = c.loop-k.auto.run in omega (arith, room, a))) in
    record {
      served = each_next (λ (x y : Desk g.row.D.Denot). HasServed g.D.Disk.tells x.requests.items x y) ds ps new k room c.loop-k.invariant.served
          (λ d. subst (λ (x : Desk g.row.D.Denot). HasServed g.D.Disk.tells x.requests.items x new) (old d) c.serve_desk.ensures);
      rest = λ j d le. let other : j ≢ k = (λ same. omega (arith, le, same)) in get_or-set_other ps k j new d other ∙ rest j d (omega (arith, le));
    }
