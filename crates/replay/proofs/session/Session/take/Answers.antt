use Rattle.replay.proofs.Basics.{inl, inr, refl, err_from_is_err_and}
use Rattle.replay.proofs.Terms.{keeps_same}
use Rattle.replay.proofs.LinesServed.{batch_lies, window_served}
use Rattle.replay.proofs.session.Session.take.Goals.{then-branch+in_ok-serve, else-branch}
use Rattle.replay.proofs.session.Session.take.Goals as goal

pub serve-requires-clause-inside : goal.serve-requires-clause-inside
serve-requires-clause-inside g c =
    let t = c.requires.cut in
    let took = rw c.if-branch.true at (c.in_ok-take.ensures.ok t.lines t.given t.cut) in
    rw c.whole-batch.ensures (batch_lies c.args.config.now _ took.0 c.take.new.self.whole c.requires.valid took.1)

pub returns-in_err-serve-clause-err : goal.returns-in_err-serve-clause-err
returns-in_err-serve-clause-err g c =
    let p = err_from_is_err_and c.from_residual-in_err-serve.result c.from_residual-in_err-serve.ensures.1 in
    rw (p.1, p.2) (λ ls ws cut.
    let took = rw c.if-branch.true at (c.in_ok-take.ensures.ok ls ws cut) in
    inr (took.0, c.take.new.self.whole, (took.1, took.2), (rw c.whole-batch.ensures at c.in_err-serve.ensures.err).1))

pub returns-clause-ok : goal.returns-clause-ok
returns-clause-ok g c = elim c.if-branch.branch [
  | then-branch+in_ok-serve w ↦ rw (w.self-is, w.out-is) (λ ls ws cut.
      let took = rw w.if-branch.true at (c.in_ok-take.ensures.ok ls ws cut) in
      inr (
        took.0,
        c.take.new.self.whole,
        (took.1, took.2),
        (rw w.whole-batch.ensures at w.in_ok-serve.ensures.started) took.1.some,
        window_served g.D.Disk.tells c.args.config.now c.args.options c.take.new.self.whole c.args.self.now w.serve.new.self g.K.Sink.faults g.K.Sink.taken c.args.out.now w.serve.new.out took.1.some (rw w.whole-batch.ensures at w.in_ok-serve.ensures.ok),
      ))
  | else-branch w ↦ rw (w.self-is, w.out-is) (λ ls ws cut.
      let took = rw w.if-branch.false at (c.in_ok-take.ensures.ok ls ws cut) in
      inl (took.0, refl, refl, keeps_same (g.K.Sink.taken c.args.out.now)))
]
