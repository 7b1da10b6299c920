use Rattle.replay.proofs.Basics.{◌∙◌, ◌+◌, refl, err_from_is_err_and}
use Rattle.replay.proofs.Terms.{printed_names}
use Rattle.replay.proofs.Waiting.{front_of_all, pending_handed, some_of_all, waits_more}
use Rattle.replay.proofs.printing.print_reads.Goals as goal

pub returns-in_err-append_read-clause-prints : goal.returns-in_err-append_read-clause-prints
returns-in_err-append_read-clause-prints g c =
    let p = err_from_is_err_and c.from_residual.result c.from_residual.ensures.1 in
    let names = printed_names c.args.config.now.volumes.items in
    rw (p.1, p.2) (refl, c.loop-at.invariant.quiet, some_of_all names c.args.requests.now c.args.outcomes.now c.loop-at.at _ _ _ c.loop-at.invariant.pending)

pub returns-in_err-hand_on-clause-prints : goal.returns-in_err-hand_on-clause-prints
returns-in_err-hand_on-clause-prints g c =
    let p = err_from_is_err_and c.from_residual-in_err-hand_on.result c.from_residual-in_err-hand_on.ensures.1 in
    let names = printed_names c.args.config.now.volumes.items in
    let waits = waits_more names c.args.requests.now c.args.outcomes.now c.loop-at.at _ _ _ _ _ c.append_read.new.text.items c.loop-at-test.true c.requires.count c.loop-at.invariant.pending c.in_ok-append_read.ensures.ok in
    rw (p.1, p.2) (rw c.loop-at.invariant.quiet at c.in_err-hand_on.ensures.cause, front_of_all names c.args.requests.now c.args.outcomes.now (c.loop-at.at + 1) _ _ _ _ waits c.in_err-hand_on.ensures.err)

pub loop-at-preserved : goal.loop-at-preserved
loop-at-preserved g c =
    let names = printed_names c.args.config.now.volumes.items in
    let waits = waits_more names c.args.requests.now c.args.outcomes.now c.loop-at.at _ _ _ _ _ c.append_read.new.text.items c.loop-at-test.true c.requires.count c.loop-at.invariant.pending c.in_ok-append_read.ensures.ok in
    record {
      quiet = c.in_ok-hand_on.ensures.calm ∙ c.loop-at.invariant.quiet;
      pending = pending_handed _ _ _ _ _ _ waits c.in_ok-hand_on.ensures.ok;
    }

pub returns-in_err-hand_on-2-clause-prints : goal.returns-in_err-hand_on-2-clause-prints
returns-in_err-hand_on-2-clause-prints g c =
    let p = err_from_is_err_and c.from_residual-in_err-hand_on-2.result c.from_residual-in_err-hand_on-2.ensures.1 in
    let names = printed_names c.args.config.now.volumes.items in
    rw (p.1, p.2) (rw c.loop-at.invariant.quiet at c.in_err-hand_on-2.ensures.cause, front_of_all names c.args.requests.now c.args.outcomes.now c.loop-at.at _ _ _ _ c.loop-at.invariant.pending c.in_err-hand_on-2.ensures.err)
