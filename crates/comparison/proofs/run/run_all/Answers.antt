-- The lines that come are run.
use Rattle.std.proofs.Common.{◌≡◌, ◌+◌, ◌++◌, ◌∷◌, [], inr, refl, ap, ◌∙◌, arith}
use Rattle.std.specs.Prelude.{option_map}
use Rattle.std.proofs.lemmas.Result.{err_from_is_err_and}
use Rattle.msr_trace.specs.Lines.{trace_line}
use Rattle.trace_gen.specs.Generated.{targets_of}
use Rattle.replay.proofs.Giving.{none_given}
use Rattle.replay.proofs.LinesServed.{copied_line}
use Rattle.comparison.proofs.Lines.{stops_at}
use Rattle.comparison.proofs.run.run_all.Goals as goal

pub returns-in_err-comparison-clause-some : goal.returns-in_err-comparison-clause-some
returns-in_err-comparison-clause-some g c =
    let p = err_from_is_err_and c.from_residual.result c.from_residual.ensures.1 in
    rw (p.1, p.2) (record { run = []; given = none_given g.S.Source.left (targets_of c.args.config.now) c.args.given.now; cause = inr refl })

pub loop-init : goal.loop-init
loop-init g c = record {
  so_far = record {
    run = [];
    given = none_given g.S.Source.left (targets_of c.args.config.now) c.args.given.now;
    taken = record {
      given = [];
      cut = c.new-cutter.ensures.cut _ _;
      behind = c.in_ok-comparison.ensures.behind;
      few = (let none = c.in_ok-comparison.ensures.none in omega (arith, none));
    };
  };
  more = c.in_ok-comparison.ensures.more ∙ c.tells_more.ensures;
  live = c.requires.new.0;
  turns = c.requires.new.1;
  lines = c.new-cutter.ensures.lines;
  most = (let new = c.requires.new.1 in omega (arith, new));
  source_later = omega arith;
  source_calm = refl;
  same_borrow = refl;
}

pub returns-in-Err-clause-some : goal.returns-in-Err-clause-some
returns-in-Err-clause-some g c =
    let so = c.loop.invariant.so_far in
    let has = c.in-Err.ensures.refused c.args.given.now so.run so.given in
    rw c.fault_of_trace.ensures (stops_at g.S.Source.left c.args.details c.args.config.now c.args.given.now c.next.new.self c.in-Err.fault so.run has.0 has.1)

pub loop-preserved : goal.loop-preserved
loop-preserved g c =
    let i = c.loop.invariant in
    let so = i.so_far in
    let next = rw c.in-Ok-Some.field-0-is at c.in-Ok-Some.ensures.line in
    let e = c.in_ok-take-in-Ok-Some.ensures in
    record {
      so_far = record {
        run = so.run ++ option_map trace_line c.in-Ok-Some.line ∷ [];
        given = next c.args.given.now so.run so.given;
        taken = rw (copied_line c.as_ref-line.result c.in-Ok-Some.line c.as_ref-line.ensures.value) at (e.taken so.run so.taken);
      };
      more = e.more ∙ i.more;
      live = c.in-Ok-Some.ensures.live;
      turns = (rw c.in-Ok-Some.field-0-is at c.in-Ok-Some.ensures.count) ∙ ap (λ n. n + 1) i.turns;
      lines = e.lines ∙ ap (λ n. n + 1) i.lines;
      most = c.in-Ok-Some.ensures.most;
      source_later = (let a = i.source_later in let b = c.in-Ok-Some.ensures.later in omega (arith, a, b));
      source_calm = c.in-Ok-Some.ensures.calm (λ is. cc) ∙ i.source_calm;
      same_borrow = c.in-Ok-Some.ensures.same_borrow ∙ i.same_borrow;
    }

pub returns-in_err-take-in-Ok-Some-clause-some : goal.returns-in_err-take-in-Ok-Some-clause-some
returns-in_err-take-in-Ok-Some-clause-some g c =
    let so = c.loop.invariant.so_far in
    let next = rw c.in-Ok-Some.field-0-is at c.in-Ok-Some.ensures.line in
    let p = err_from_is_err_and c.from_residual-in_err-take-in-Ok-Some.result c.from_residual-in_err-take-in-Ok-Some.ensures.1 in
    rw (p.1, p.2) (record {
      run = so.run ++ option_map trace_line c.in-Ok-Some.line ∷ [];
      given = next c.args.given.now so.run so.given;
      cause = inr refl;
    })
