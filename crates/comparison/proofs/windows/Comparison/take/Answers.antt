-- A line is taken, and the window that it makes whole is run.
use Rattle.replay.proofs.LinesServed.{batch_lies}
use Rattle.comparison.proofs.Taking.{may_take, took, took_window}
use Rattle.comparison.proofs.windows.Comparison.take.Goals as goal

pub run-requires-clause-inside : goal.run-requires-clause-inside
run-requires-clause-inside c =
    let t = c.requires.some in
    let took = rw c.if-branch.true at (c.in_ok-take.ensures.ok t.lines t.taken.given t.taken.cut) in
    rw c.whole-batch.ensures (batch_lies c.args.config.now _ took.0 c.take.new.self.whole c.requires.valid took.1)

pub run-requires-clause-may : goal.run-requires-clause-may
run-requires-clause-may c =
    let t = c.requires.some in
    let took = rw c.if-branch.true at (c.in_ok-take.ensures.ok t.lines t.taken.given t.taken.cut) in
    rw c.whole-batch.ensures (may_take c.args.config.now t.lines _ c.args.cutter.now c.take.new.self c.args.self.now t.taken took.0 _ took.1 took.2)

pub returns-in_ok-run-clause-taken : goal.returns-in_ok-run-clause-taken
returns-in_ok-run-clause-taken c = λ ls taken.
    let took = rw c.if-branch.true at (c.in_ok-take.ensures.ok ls taken.given taken.cut) in
    took_window c.args.config.now ls _ c.args.cutter.now c.take.new.self c.args.self.now c.run.new.self taken took.0 _ c.in_ok-take.ensures.lines took.1 took.2 (rw c.whole-batch.ensures at c.in_ok-run.ensures.behind) c.in_ok-run.ensures.few

pub returns-else-branch-clause-taken : goal.returns-else-branch-clause-taken
returns-else-branch-clause-taken c = λ ls taken.
    let cut = rw c.if-branch.false at (c.in_ok-take.ensures.ok ls taken.given taken.cut) in
    took c.args.config.now ls _ c.args.cutter.now c.take.new.self c.args.self.now taken c.in_ok-take.ensures.lines cut.0
