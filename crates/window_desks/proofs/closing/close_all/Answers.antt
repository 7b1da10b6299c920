use Rattle.std.proofs.Common.{◌≡◌, Bool, sym, subst}
use Rattle.std.specs.Prelude.{slice_index_or}
use Rattle.window_desks.specs.Closed.{HasClosedDesk}
use Rattle.window_desks.specs.declared.desk.Desk.{Desk}
use Rattle.window_desks.specs.declared.request.Reclaim.{Reclaim}
use Rattle.window_desks.specs.declared.request.Reclaim.TheVariants as reclaim
use Rattle.window_desks.proofs.closing.close_all.Goals as goal

-- a turn beside is as one between
beside : {D : Type 0} (tells : Bool) (d e : Desk D) (mode : Reclaim) → mode ≡ reclaim.Beside → HasClosedDesk tells reclaim.Between d e → HasClosedDesk tells mode d e
beside tells d e mode is m =
    let same : HasClosedDesk tells reclaim.Beside d e = record { id = m.id; outcomes = m.outcomes; closed = m.closed; counted = m.counted } in
    subst (λ (r : Reclaim). HasClosedDesk tells r d e) (sym is) same

pub returns-in-Beside : goal.returns-in-Beside
returns-in-Beside g c k d within =
    let new = c.close_each-in-Beside.new.desks in
    beside g.D.Disk.tells (slice_index_or c.args.desks.now k d) (slice_index_or new k d) c.args.reclaim c.in-Beside.is (c.close_each-in-Beside.ensures k d within)
