use Rattle.std.proofs.Common.{Err, sym, subst, ◌∙◌}
use Rattle.std.proofs.lemmas.Bool.{false≢true}
use Rattle.log_cleaner.specs.Steps.{Settles}
use Rattle.log_cleaner.specs.declared.answer.CleanFault.{CleanFault}
use Rattle.log_cleaner.proofs.Stepping.{gave_all_failing, gave_all_then, settles_failing}
use Rattle.log_cleaner.proofs.giving.settle.Goals as goal

pub returns-in-Err-clause-settled : goal.returns-in-Err-clause-settled
returns-in-Err-clause-settled g c =
    subst (λ (f : CleanFault). Settles g.D.Disk.tells g.D.Disk.state c.args.all c.args.m.now c.give_up_segments.new.m (Err f)) (sym c.step_fault.ensures)
    (settles_failing g.D.Disk.tells g.D.Disk.state c.args.m.now c.give_up_segments.new.m c.args.all c.in-Err.fault c.in-Err.ensures.given)

pub returns-then-not-all-clause-settled : goal.returns-then-not-all-clause-settled
returns-then-not-all-clause-settled g c = let s = c.in-Ok.ensures.given in (s.0, s.1, λ is. absurd (false≢true (sym c.if-not-all.true ∙ is)))

pub give_up_each-requires-clause-can : goal.give_up_each-requires-clause-can
give_up_each-requires-clause-can g c = c.in-Ok.ensures.given.0.goes_on.can

pub returns-in-Err-give_up_each-clause-settled : goal.returns-in-Err-give_up_each-clause-settled
returns-in-Err-give_up_each-clause-settled g c =
    let s = c.in-Ok.ensures.given in
    subst (λ (f : CleanFault). Settles g.D.Disk.tells g.D.Disk.state c.args.all c.args.m.now c.give_up_each.new.m (Err f)) (sym c.step_fault-in-Err-give_up_each.ensures)
    (gave_all_failing g.D.Disk.tells g.D.Disk.state c.args.m.now c.give_up_segments.new.m c.give_up_each.new.m c.requires.can s.0 s.1 c.args.all c.in-Err-give_up_each.fault c.in-Err-give_up_each.ensures.given)

pub returns-in-Ok-give_up_each-clause-settled : goal.returns-in-Ok-give_up_each-clause-settled
returns-in-Ok-give_up_each-clause-settled g c =
    let s = c.in-Ok.ensures.given in
    gave_all_then g.D.Disk.tells g.D.Disk.state c.args.m.now c.give_up_segments.new.m c.give_up_each.new.m c.requires.can s.0 s.1 c.args.all tt c.in-Ok-give_up_each.ensures.given
