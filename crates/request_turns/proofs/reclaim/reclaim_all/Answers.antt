use Rattle.std.proofs.Common.{rules, ◌≡◌, Bool, None, Ok, Err, ap, sym, subst}
use Rattle.manager.specs.declared.manager.Manager.{Manager}
use Rattle.reclaimer.specs.Fetches.{due_entry}
use Rattle.reclaimer.proofs.Idle.{idle}
use Rattle.request_turns.proofs.Reclaiming.{nothing_yet, told_on, then_, and_done}
use Rattle.request_turns.proofs.reclaim.reclaim_all.Goals as goal

pub steps-init : goal.steps-init
steps-init g c = nothing_yet _ _ _ c.args.tally.now c.args.m.now c.requires.ready c.requires.at

pub returns-then-not-branch-clause-idle : goal.returns-then-not-branch-clause-idle
returns-then-not-branch-clause-idle g c =
    let none = c.in_ok-give_up.ensures.none (ap Ok c.if-not-branch.true) in
    idle {D = g.row.D.Denot} c.give_up.new.m (subst (λ (m : Manager g.row.D.Denot). due_entry m ≡ None) (sym none) c.in_ok-put_due.ensures.nothing) c.in_ok-give_up.ensures.nothing

pub returns-in_err-put_due-clause-reclaims : goal.returns-in_err-put_due-clause-reclaims
returns-in_err-put_due-clause-reclaims g c =
    let so = then_ _ _ _ _ _ _ _ c.steps.invariant _ _ (Err c.in_err-put_due.field-0.0) c.in_err-put_due.ensures.reclaims in
    search rules

pub returns-in_err-give_up-clause-reclaims : goal.returns-in_err-give_up-clause-reclaims
returns-in_err-give_up-clause-reclaims g c = let put = and_done _ _ _ _ _ _ _ c.steps.invariant _ _ c.in_ok-put_due.field-0 c.in_ok-put_due.ensures.reclaims in
    let so = told_on _ _ _ _ _ _ _ {T = Bool} {U = Unit {0}} c.in_err-give_up.field-0.0 (then_ _ _ _ _ _ _ _ put _ _ (Err c.in_err-give_up.field-0.0) c.in_err-give_up.ensures.reclaims) in
    search rules

pub returns-then-not-branch-clause-reclaims : goal.returns-then-not-branch-clause-reclaims
returns-then-not-branch-clause-reclaims g c = let put = and_done _ _ _ _ _ _ _ c.steps.invariant _ _ c.in_ok-put_due.field-0 c.in_ok-put_due.ensures.reclaims in
    and_done _ _ _ _ _ _ _ put _ _ c.in_ok-give_up.field-0 c.in_ok-give_up.ensures.reclaims

pub steps-preserved : goal.steps-preserved
steps-preserved g c = let put = and_done _ _ _ _ _ _ _ c.steps.invariant _ _ c.in_ok-put_due.field-0 c.in_ok-put_due.ensures.reclaims in
    and_done _ _ _ _ _ _ _ put _ _ c.in_ok-give_up.field-0 c.in_ok-give_up.ensures.reclaims
