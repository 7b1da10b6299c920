use Rattle.std.proofs.Common.{◌≡◌, [], Ok, Err, sym, ap, subst}
use Rattle.std.proofs.lemmas.Result.{err_from_is_err_and}
use Rattle.reclaimer.specs.Steps.{HasGivenUp}
use Rattle.reclaimer.specs.declared.answers.Gone.{Gone}
use Rattle.manager.specs.declared.manager.Manager.{Manager}
use Rattle.wol_model.specs.Index.{listed_in}
use Rattle.log_cleaner.specs.Chunks.{NoneGoes}
use Rattle.log_cleaner.specs.Steps.{HasCopied, KeepsTidy, TidiesAll}
use Rattle.log_cleaner.proofs.Stepping.{copied_none, copied_then, gave_failing, gave_more, gave_then, gives_all_failing, lanes_within, lowers_of, none_left, tidies_up, tidy_none, tidy_then}
use Rattle.log_cleaner.proofs.giving.give_up_each.Goals as goal

pub steps-init : goal.steps-init
steps-init g c = record { ready = c.requires.ready; at = c.requires.at; copied = copied_none g.D.Disk.tells g.D.Disk.state c.args.m.now c.requires.can; tidy = tidy_none c.args.m.now }

pub returns-in_err-invalidate_one-clause-given : goal.returns-in_err-invalidate_one-clause-given
returns-in_err-invalidate_one-clause-given g c =
    let p = err_from_is_err_and c.from_residual.result c.from_residual.ensures.1 in
    let e = c.in_err-invalidate_one.ensures in let i = c.steps.invariant in
    rw (p.1, p.2) (gives_all_failing g.D.Disk.tells g.D.Disk.state c.args.m.now c.invalidate_one.new.m c.in_err-invalidate_one.field-0.0
    (gave_then g.D.Disk.tells g.D.Disk.state c.args.m.now c.steps.m c.invalidate_one.new.m c.requires.can i.copied i.tidy (Err c.in_err-invalidate_one.field-0.0)
    (gave_failing g.D.Disk.tells g.D.Disk.state c.steps.m c.invalidate_one.new.m i.copied.goes_on.can c.in_err-invalidate_one.field-0.0 e.fault e.broke e.gone e.any_moment)))

pub returns-in-Nothing-clause-given : goal.returns-in-Nothing-clause-given
returns-in-Nothing-clause-given g c =
    let e = c.in_ok-invalidate_one.ensures in let i = c.steps.invariant in
    let same : c.invalidate_one.new.m ≡ c.steps.m = subst (λ (x : Gone). HasGivenUp (Ok x) c.steps.m c.invalidate_one.new.m) c.in-Nothing.is e.gone in
    let none = (e.nothing.0 (ap Ok c.in-Nothing.is)).1 in
    subst (λ (m : Manager _). HasCopied g.D.Disk.tells g.D.Disk.state c.args.m.now m [] × KeepsTidy c.args.m.now m × TidiesAll c.args.m.now m × NoneGoes (listed_in m.index.entries)) (sym same) (
      i.copied,
      i.tidy,
      λ first count some. tidies_up g.D.Disk.state c.args.m.now c.steps.m first count some i.ready i.copied.goes_on.can none i.tidy,
      none_left c.steps.m i.copied.goes_on.can.awake (lanes_within g.D.Disk.state c.steps.m i.ready i.copied.goes_on.can.up) none,
    )

pub steps-preserved : goal.steps-preserved
steps-preserved g c =
    let e = c.in_ok-invalidate_one.ensures in let i = c.steps.invariant in
    let s = gave_more g.D.Disk.tells g.D.Disk.state c.steps.m c.invalidate_one.new.m i.copied.goes_on.can c.in_ok-invalidate_one.field-0 c.in_default.not-Nothing e.gone e.fault e.calm e.keeps e.any_moment in record {
      ready = e.ready;
      at = e.at;
      copied = copied_then g.D.Disk.tells g.D.Disk.state c.args.m.now c.steps.m c.invalidate_one.new.m [] [] c.requires.can i.copied s.0;
      tidy = tidy_then c.args.m.now c.steps.m c.invalidate_one.new.m i.tidy s.1;
    }

pub steps-smaller : goal.steps-smaller
steps-smaller g c = lowers_of c.in_ok-invalidate_one.field-0 c.steps.m c.invalidate_one.new.m c.in_default.not-Nothing c.in_ok-invalidate_one.ensures.lowers
