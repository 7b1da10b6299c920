use Rattle.replay.proofs.Basics.{◌≢◌, ◌∙◌, arith}
use Rattle.replay.proofs.Terms.{trace_line, targets_of}
use Rattle.trace_gen.proofs.Written.{lines_are_writable}
use Rattle.replay.proofs.Giving.{lines_end, lines_more, lines_refused, made_more}
use Rattle.replay.proofs.given.Given.next.Goals as goal

pub returns-in-Trace-clause-line : goal.returns-in-Trace-clause-line
returns-in-Trace-clause-line g c =
    rw c.in-Trace.is (lines_more g.S.Source.left (targets_of c.args.config.now) trace_line c.in-Trace.lines c.next_line.new.self c.next_line.result c.next_line.ensures.line c.next_line.ensures.count)

pub returns-in-Trace-clause-end : goal.returns-in-Trace-clause-end
returns-in-Trace-clause-end g c =
    rw c.in-Trace.is (lines_end g.S.Source.left (targets_of c.args.config.now) c.in-Trace.lines c.next_line.new.self c.next_line.result c.next_line.ensures.end)

pub returns-in-Trace-clause-refused : goal.returns-in-Trace-clause-refused
returns-in-Trace-clause-refused g c =
    let e = c.next_line.ensures in
    rw c.in-Trace.is (lines_refused g.S.Source.left (targets_of c.args.config.now) c.in-Trace.lines c.next_line.new.self c.next_line.result e.kept e.given e.bad e.spent.0 e.cut)

pub returns-in-Ok-clause-line : goal.returns-in-Ok-clause-line
returns-in-Ok-clause-line g c start ls has =
    made_more g.S.Source.left (targets_of c.args.config.now) start c.in-Generated.generator c.next.new.self c.in-Generated.lines ls (trace_line c.in-Ok.line) (rw c.in-Generated.is at has) c.in-Ok.ensures.line c.in-Ok.ensures.ok

pub returns-in-Ok-clause-fits : goal.returns-in-Ok-clause-fits
returns-in-Ok-clause-fits g c =
    let live = rw c.in-Generated.is at c.requires.live in
    let apart : c.in-Generated.generator.given ≢ c.in-Generated.lines = λ e. c.if-given-lines.false (c.given.ensures ∙ e) in
    rw c.in-Ok.ensures.line ((lines_are_writable c.args.config.now c.in-Generated.generator.seed c.in-Generated.generator.given c.requires.valid (omega (arith, apart, live.0, live.1))).fits)
