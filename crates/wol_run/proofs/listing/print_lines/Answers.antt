use Rattle.std.proofs.Common.{◌+◌, ap, ◌∙◌, arith}
use Rattle.std.proofs.lemmas.Result.{err_from_is_err_and}
use Rattle.trace_gen.specs.Generated.{Generator, line, targets_of}
use Rattle.wol_run.proofs.Pending.{pending_front, pending_handed, pending_line}
use Rattle.wol_run.proofs.listing.print_lines.Goals as goal

pub returns-in_err-write_line-clause-content : goal.returns-in_err-write_line-clause-content
returns-in_err-write_line-clause-content g c =
    let p = err_from_is_err_and c.from_residual-in_err-write_line.result c.from_residual-in_err-write_line.ensures.1 in
    let pending = c.loop-number.invariant.pending in
    rw (p.1, p.2) (c.loop-number.invariant.quiet, (pending.some, omega (arith, pending.few), pending.handed))

pub returns-in_err-hand_on-clause-content : goal.returns-in_err-hand_on-clause-content
returns-in_err-hand_on-clause-content g c =
    let p = err_from_is_err_and c.from_residual-in_err-hand_on.result c.from_residual-in_err-hand_on.ensures.1 in
    let is = c.in_ok-line.ensures.line ∙ ap (λ (r : Generator). line (targets_of c.args.config.now) r.seed r.given) c.loop-number.invariant.at in
    let waits = pending_line c.args.config.now c.args.asked.seed c.loop-number._number _ _ _ c.write_line.new.out.items _ c.loop-number.invariant.pending is c.in_ok-write_line.ensures.ok in
    rw (p.1, p.2) (
      rw c.loop-number.invariant.quiet at c.in_err-hand_on.ensures.cause,
      pending_front c.args.config.now c.args.asked.seed (c.loop-number._number + 1) c.args.asked.lines _ _ _ _ waits (omega arith) c.in_err-hand_on.ensures.err,
    )

pub loop-number-preserved : goal.loop-number-preserved
loop-number-preserved g c =
    let is = c.in_ok-line.ensures.line ∙ ap (λ (r : Generator). line (targets_of c.args.config.now) r.seed r.given) c.loop-number.invariant.at in
    let waits = pending_line c.args.config.now c.args.asked.seed c.loop-number._number _ _ _ c.write_line.new.out.items _ c.loop-number.invariant.pending is c.in_ok-write_line.ensures.ok in
    record {
      at = c.in_ok-line.ensures.ok ∙ ap (λ (r : Generator). record r { given = r.given + 1 }) c.loop-number.invariant.at;
      quiet = c.in_ok-hand_on.ensures.calm ∙ c.loop-number.invariant.quiet;
      pending = pending_handed c.args.config.now c.args.asked.seed (c.loop-number._number + 1) _ _ _ _ _ waits c.in_ok-hand_on.ensures.ok;
    }

pub returns-in_err-hand_on-2-clause-content : goal.returns-in_err-hand_on-2-clause-content
returns-in_err-hand_on-2-clause-content g c =
    let p = err_from_is_err_and c.from_residual-in_err-hand_on-2.result c.from_residual-in_err-hand_on-2.ensures.1 in
    rw (p.1, p.2) (
      rw c.loop-number.invariant.quiet at c.in_err-hand_on-2.ensures.cause,
      pending_front c.args.config.now c.args.asked.seed c.loop-number._number c.args.asked.lines _ _ _ _ c.loop-number.invariant.pending (omega arith) c.in_err-hand_on-2.ensures.err,
    )
