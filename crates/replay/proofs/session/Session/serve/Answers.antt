use Rattle.replay.proofs.Basics.{◌<◌, inr, refl, err_from_is_err_and, arith}
use Rattle.replay.proofs.LinesServed.{ends_unbegun, ends_unrun}
use Rattle.replay.proofs.Serving.{ends_in, err_with, goes_on, on_ok}
use Rattle.replay.proofs.session.Session.serve.Given as given
use Rattle.replay.proofs.session.Session.serve.Goals.{After-begin}
use Rattle.replay.proofs.session.Session.serve.Goals as goal

-- the window that is begun has a line
some_line : (g : given.Over) (c : After-begin g) → 0 < c.args.batch.now.lines
some_line g c = let lines = c.lines.ensures in let other = c.if-lines-eq0.false in omega (arith, lines, other)

pub returns-in_err-begin-clause-err : goal.returns-in_err-begin-clause-err
returns-in_err-begin-clause-err g c =
    let some = some_line g (goal.at.returns-in_err-begin-clause-err g c).After-begin in
    let p = err_from_is_err_and c.from_residual.result c.from_residual.ensures.1 in
    rw (p.1, p.2) (some, ends_unbegun g.D.Disk.tells c.args.config.now c.args.options c.args.batch.now c.args.self.now c.begin.new.self (g.K.Sink.faults c.args.out.now) (g.K.Sink.taken c.args.out.now) (rw c.moment.ensures at c.in_err-begin.ensures.err))

pub returns-in_err-window-clause-err : goal.returns-in_err-window-clause-err
returns-in_err-window-clause-err g c =
    let some = some_line g (goal.at.returns-in_err-window-clause-err g c).After-begin in
    let p = err_from_is_err_and c.from_residual-in_err-window.result c.from_residual-in_err-window.ensures.1 in
    rw (p.1, p.2) (some, ends_unrun g.D.Disk.tells c.args.config.now c.args.options c.args.batch.now c.args.self.now _ (g.K.Sink.faults c.args.out.now) (g.K.Sink.taken c.args.out.now) c.begin.new.self (rw c.moment.ensures at c.in_ok-begin.ensures.ok) c.in_err-window.ensures.unchanged refl)

pub returns-clause-ok : goal.returns-clause-ok
returns-clause-ok g c =
    let some = some_line g (goal.at.returns-clause-ok g c).After-begin in
    on_ok c.finish.result (λ goes. inr (some, goes)) (goes_on g.D.Disk.tells c.args.config.now c.args.options c.args.batch.now c.args.self.now c.begin.new.self _ (rw c.moment.ensures at c.in_ok-begin.ensures.ok) c.in_ok-window.window
    (rw c.requests.ensures.content at c.in_ok-window.ensures.run) (rw c.in_ok-begin.ensures.totals at c.add_window.ensures.counts) refl c.finish.result _ _ _ _
    (rw c.requests-2.ensures.content at c.finish.ensures.finishes))

pub returns-clause-err : goal.returns-clause-err
returns-clause-err g c =
    let some = some_line g (goal.at.returns-clause-err g c).After-begin in
    err_with _ c.finish.result some (ends_in g.D.Disk.tells c.args.config.now c.args.options c.args.batch.now c.args.self.now c.begin.new.self _ (rw c.moment.ensures at c.in_ok-begin.ensures.ok) c.in_ok-window.window
    (rw c.requests.ensures.content at c.in_ok-window.ensures.run) (rw c.in_ok-begin.ensures.totals at c.add_window.ensures.counts) refl c.finish.result _ _ _ _
    (rw c.requests-2.ensures.content at c.finish.ensures.finishes))
