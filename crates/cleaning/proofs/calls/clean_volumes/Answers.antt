use Rattle.std.proofs.Common.{inr, refl}
use Rattle.std.proofs.lemmas.Result.{err_from_is_err_and}
use Rattle.wol_io.proofs.Appending.{keeps_same}
use Rattle.cleaning.specs.Runs.{unopened}
use Rattle.cleaning.proofs.Leaving.{cleans_by, completes_by, left_by}
use Rattle.rack.proofs.ViewsKept.{views_kept}
use Rattle.cleaning.proofs.calls.clean_volumes.Goals as goal

pub returns-in_err-closed-clause-leaves : goal.returns-in_err-closed-clause-leaves
returns-in_err-closed-clause-leaves g c = record { left = c.in_err-closed.ensures.left; sound = c.with_open.ensures.sound }

pub returns-in_err-closed-clause-cleans : goal.returns-in_err-closed-clause-cleans
returns-in_err-closed-clause-cleans g c =
    let p = err_from_is_err_and c.from_residual.result c.from_residual.ensures.1 in
    rw (p.1, p.2, c.in_err-closed.ensures.unwritten) (unopened refl (keeps_same _))

pub returns-in_err-closed-clause-complete : goal.returns-in_err-closed-clause-complete
returns-in_err-closed-clause-complete g c =
    let p = err_from_is_err_and c.from_residual.result c.from_residual.ensures.1 in
    λ m. inr (rw (p.1, p.2) refl)

pub returns-clause-leaves : goal.returns-clause-leaves
returns-clause-leaves g c = let session = c.in_ok-closed.ensures.did in record { left = left_by _ _ _ _ _ _ _ session _ _ _ _ _ session.done.1; sound = c.with_open.ensures.sound }

pub returns-clause-views : goal.returns-clause-views
returns-clause-views g c = views_kept _ _ _ _ _ _ _ c.in_ok-closed.ensures.did

pub returns-clause-cleans : goal.returns-clause-cleans
returns-clause-cleans g c = let session = c.in_ok-closed.ensures.did in cleans_by _ _ _ _ _ _ _ session _ _ _ _ _ session.done.1

pub returns-clause-later : goal.returns-clause-later
returns-clause-later g c = c.in_ok-closed.ensures.did.done.0

pub returns-clause-complete : goal.returns-clause-complete
returns-clause-complete g c = let session = c.in_ok-closed.ensures.did in completes_by _ _ _ _ _ _ _ session _ _ _ _ _ session.done.1
