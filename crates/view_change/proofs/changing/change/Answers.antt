use Rattle.std.proofs.Common.{◌≢◌, ◌<◌, inl, inr, rules}
use Rattle.std.proofs.lemmas.Result.{err_from_is_err_and}
use Rattle.wol_disk.specs.Disk.{LeavesOnly, reads}
use Rattle.spin_model.specs.Spun.{state_of}
use Rattle.view_change.specs.Changes.{MayShow, id_of}
use Rattle.view_change.proofs.LabelPart.{fails_in_store, load_refused, refused, while_stored, now_stored}
use Rattle.view_change.proofs.changing.change.Given as given
use Rattle.view_change.proofs.changing.change.Goals.{After-store_view}
use Rattle.view_change.proofs.changing.change.Goals as goal

-- until it is stored each image is one at entry, or has the new view
storing : (g : given.Over) (c : After-store_view g) → LeavesOnly (state_of g.D.Disk.state c.args.label.now) (state_of g.D.Disk.state c.store_view.new.part) (MayShow c.args.own c.args.change.now (state_of g.D.Disk.state c.args.label.now))
storing g c =
    let v = c.in_ok-view.ensures in let n = c.in_ok-new.ensures.ok in
    while_stored _ _ c.args.own c.args.change.now c.in_ok-view.view c.in_ok-new.new v.settled (λ vs is. record { labelled = (_, _, v.label vs is); view = v.view vs is; others = v.others }) n.0 n.1
    v.any_moment c.store_view.ensures.any_moment

pub returns-in_err-view-clause-answer : goal.returns-in_err-view-clause-answer
returns-in_err-view-clause-answer g c vs is =
    let p = err_from_is_err_and c.from_residual.result c.from_residual.ensures.1 in
    let less : id_of c.args.change.now < c.args.volumes = search rules in
    let other : id_of c.args.change.now ≢ c.args.own = search rules in
    rw (p.1, p.2) (load_refused c.args.own c.args.volumes c.args.change.now (reads vs) c.in_err-view.field-0.0 (less, other) (λ block e. c.in_err-view.ensures.damaged vs block is e))

pub returns-in_err-new-clause-answer : goal.returns-in_err-new-clause-answer
returns-in_err-new-clause-answer g c vs is =
    let p = err_from_is_err_and c.from_residual-in_err-new.result c.from_residual-in_err-new.ensures.1 in
    let v = c.in_ok-view.ensures in
    let less : id_of c.args.change.now < c.args.volumes = search rules in
    let other : id_of c.args.change.now ≢ c.args.own = search rules in
    rw (p.1, p.2) (refused c.args.own c.args.volumes c.args.change.now (reads vs) c.in_ok-view.view c.in_err-new.field-0.0 (less, other)
    (record { labelled = (_, _, v.label vs is); view = v.view vs is; others = v.others }) c.in_err-new.ensures.err)

pub returns-in-Err-clause-any_moment : goal.returns-in-Err-clause-any_moment
returns-in-Err-clause-any_moment g c = storing g (goal.at.returns-in-Err-clause-any_moment g c).After-store_view

pub returns-in-Ok-clause-answer : goal.returns-in-Ok-clause-answer
returns-in-Ok-clause-answer g c vs is =
    let v = c.in_ok-view.ensures in let n = c.in_ok-new.ensures.ok in
    let less : id_of c.args.change.now < c.args.volumes = search rules in
    let other : id_of c.args.change.now ≢ c.args.own = search rules in
    ((less, other), c.in_ok-view.view, record { labelled = (_, _, v.label vs is); view = v.view vs is; others = v.others }, n.0, n.1)

pub returns-in-Ok-clause-any_moment : goal.returns-in-Ok-clause-any_moment
returns-in-Ok-clause-any_moment g c = storing g (goal.at.returns-in-Ok-clause-any_moment g c).After-store_view

pub returns-in-Ok-clause-stored : goal.returns-in-Ok-clause-stored
returns-in-Ok-clause-stored g c = now_stored _ _ _ c.in_ok-new.new c.in_ok-view.ensures.settled c.in-Ok.ensures.settles

pub returns-in_err-view-clause-failed : goal.returns-in_err-view-clause-failed
returns-in_err-view-clause-failed g c is = inl c.in_err-view.ensures.values

pub returns-in_err-new-clause-failed : goal.returns-in_err-new-clause-failed
returns-in_err-new-clause-failed g c is = inl (inr c.in_ok-view.ensures.settled)

pub returns-in-Err-clause-failed : goal.returns-in-Err-clause-failed
returns-in-Err-clause-failed g c is =
    let v = c.in_ok-view.ensures in let n = c.in_ok-new.ensures.ok in
    inr (fails_in_store _ _ _ c.args.own c.args.change.now c.in_ok-view.view c.in_ok-new.new v.settled (λ vs at. record { labelled = (_, _, v.label vs at); view = v.view vs at; others = v.others }) n.0 n.1 c.in-Err.ensures.err)
