use Rattle.std.proofs.Common.{◌≡◌, ◌≤◌, ◌<◌, length, slice_index_or, sym, ap, arith, subst}
use Rattle.std.specs.Prelude.{vec_len}
use Rattle.std.specs.List.{AllByRecursion}
use Rattle.manager.specs.declared.base.LaneBase.{LaneBase}
use Rattle.window_desks.specs.Helped.{ArePassesAt}
use Rattle.wol_model.specs.History.{keeper}
use Rattle.turn_lock.specs.Passes.{pass_lock}
use Rattle.window_desks.proofs.Opened.{owned, viewed, counted}
use Rattle.window_desks.proofs.begin.begin_window.Goals as goal

pub begin_volumes-requires-clause-passes : goal.begin_volumes-requires-clause-passes
begin_volumes-requires-clause-passes g c =
    subst (λ (ps : _). ArePassesAt c.args.floor.now.locks.now keeper ps) (sym c.as_mut_slice.ensures.value) c.requires.floor.keep

pub begin_volumes-requires-clause-owners : goal.begin_volumes-requires-clause-owners
begin_volumes-requires-clause-owners g c k d within = subst (λ ps. k < length ps → (pass_lock (slice_index_or ps k d)).base.volume.began.owner ≡ k) (sym c.as_mut_slice.ensures.value) (λ lt. owned c.args.floor.now c.requires.floor k d lt) within

pub begin_volumes-requires-clause-volumes : goal.begin_volumes-requires-clause-volumes
begin_volumes-requires-clause-volumes g c =
    let n : vec_len c.args.shared.now.spindles ≡ length c.as_slice-2.result.now = (let a = c.args.shared.now.spindles.ok in let b = c.requires.keepers.count in let d = c.begin_spindles.ensures.len in let e = ap length c.as_slice-2.ensures.value in omega (arith, a, b, d, e)) in
    subst (λ ps. length ps ≤ length c.as_slice-2.result.now) (sym c.as_mut_slice.ensures.value) (counted c.args.floor.now c.requires.floor c.args.shared.now _ c.requires.shared n)

pub begin_volumes-requires-clause-views : goal.begin_volumes-requires-clause-views
begin_volumes-requires-clause-views g c k d within =
    let n : vec_len c.args.shared.now.spindles ≡ length c.as_slice-2.result.now = (let a = c.args.shared.now.spindles.ok in let b = c.requires.keepers.count in let m = c.begin_spindles.ensures.len in let e = ap length c.as_slice-2.ensures.value in omega (arith, a, b, m, e)) in
    subst (λ ps. k < length ps → AllByRecursion (λ (b : LaneBase). b.logger < length c.as_slice-2.result.now) (pass_lock (slice_index_or ps k d)).base.lanes) (sym c.as_mut_slice.ensures.value) (λ lt. viewed c.args.floor.now c.requires.floor k d lt c.args.shared.now _ c.requires.shared n) within
