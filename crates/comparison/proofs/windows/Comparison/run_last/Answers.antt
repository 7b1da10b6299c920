-- The last window is run.
use Rattle.std.proofs.Common.{◌≡◌, ◌≢◌, ap, arith}
use Rattle.trace_windows.specs.Batches.{Batched}
use Rattle.replay.proofs.LinesServed.{current_lies}
use Rattle.comparison.proofs.Taking.{ended_on, may_end}
use Rattle.comparison.proofs.windows.Comparison.run_last.Goals as goal

pub run-requires-clause-inside : goal.run-requires-clause-inside
run-requires-clause-inside c =
    let t = c.requires.some in
    rw c.current-last.ensures (current_lies c.args.config.now t.lines t.taken.given c.args.cutter.now c.requires.valid t.taken.cut)

pub run-requires-clause-may : goal.run-requires-clause-may
run-requires-clause-may c =
    let t = c.requires.some in
    let same = ap (λ (b : Batched). b.lines) c.current-last.ensures in
    let some : c.args.cutter.now.current.lines ≢ 0 = (λ is. omega (arith, same, is)) in
    rw c.current-last.ensures (may_end c.args.config.now t.lines c.args.cutter.now c.args.self.now t.taken some)

pub run-requires-clause-few : goal.run-requires-clause-few
run-requires-clause-few c = let few = c.requires.some.taken.few in let lines = c.requires.lines in omega (arith, few, lines)

pub returns-clause-behind : goal.returns-clause-behind
returns-clause-behind c =
    let same = ap (λ (b : Batched). b.lines) c.current-last.ensures in
    let some : c.args.cutter.now.current.lines ≢ 0 = (λ is. omega (arith, same, is)) in
    ended_on c.run.result c.args.config.now c.args.cutter.now c.args.self.now c.run.new.self some (rw c.current-last.ensures at c.run.ensures.behind)
