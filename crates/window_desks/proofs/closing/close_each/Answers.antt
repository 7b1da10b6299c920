use Rattle.std.proofs.Common.{◌≡◌, ◌≢◌, ◌≤◌, ◌<◌, length, arith, sym, subst, ◌∙◌, get_or}
use Rattle.std.proofs.lemmas.List.{get_or_default, get_or-set_other}
use Rattle.wol_model.specs.History.{worker}
use Rattle.turn_lock.specs.Passes.{IsPassAt}
use Rattle.request_turns.specs.Helped.{ManagerLock}
use Rattle.window_desks.specs.Closed.{HasClosedDesk}
use Rattle.window_desks.specs.declared.desk.Desk.{Desk}
use Rattle.window_desks.specs.declared.request.Reclaim.TheVariants as reclaim
use Rattle.window_desks.proofs.OneMore.{each_next}
use Rattle.window_desks.proofs.closing.close_each.Goals as goal

pub close_one-requires : goal.close_one-requires
close_one-requires g c =
    let within : c.loop-k.k < length c.args.desks.now = (let t = c.loop-k-test.true in let a = c.loop-k.auto.desks in omega arith) in
    let same : c.loop-k.k ≤ c.loop-k.k = omega arith in
    let was : Desk g.row.D.Denot = get_or c.args.desks.now c.loop-k.k c.index-desks-k.result in
    rw (c.loop-k.invariant.rest c.loop-k.k c.index-desks-k.result same) (record {
      pass = subst (λ (l : ManagerLock g.row.D.Denot). IsPassAt l worker was.worker) (sym c.index-locks-k.is) (c.requires.passes c.loop-k.k c.index-locks-k.result c.index-desks-k.result within);
      shared_ = c.requires.shared c.loop-k.k c.index-desks-k.result within;
    })

pub loop-k-preserved : goal.loop-k-preserved
loop-k-preserved g c =
    let room : c.loop-k.k < length c.loop-k.desks = (let t = c.loop-k-test.true in let a = c.loop-k.auto.desks in omega arith) in
    let rest = c.loop-k.invariant.rest in let new = c.close_one.new.desk in
    let old : (d : Desk g.row.D.Denot) → get_or c.loop-k.desks c.loop-k.k c.index-desks-k.result ≡ get_or c.args.desks.now c.loop-k.k d =
    (λ d. rest c.loop-k.k c.index-desks-k.result (omega arith) ∙ get_or_default c.args.desks.now c.loop-k.k c.index-desks-k.result d (let a = c.loop-k.auto.desks in omega (arith, room, a))) in
    record {
      closed = each_next (HasClosedDesk g.D.Disk.tells reclaim.Between) c.args.desks.now c.loop-k.desks new c.loop-k.k room c.loop-k.invariant.closed
          (λ d. subst (λ (x : Desk g.row.D.Denot). HasClosedDesk g.D.Disk.tells reclaim.Between x new) (old d) c.close_one.ensures);
      rest = λ j d le. let other : j ≢ c.loop-k.k = (λ same. omega (arith, le, same)) in get_or-set_other c.loop-k.desks c.loop-k.k j new d other ∙ rest j d (omega (arith, le));
    }
