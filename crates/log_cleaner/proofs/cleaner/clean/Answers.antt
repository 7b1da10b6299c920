use Rattle.std.proofs.Common.{refl, rules, ◌∙◌}
use Rattle.std.proofs.lemmas.Result.{err_from_is_err_and}
use Rattle.log_cleaner.proofs.Cleaning.{cleaned_err, cleaned_none, cleaned_ok}
use Rattle.log_cleaner.proofs.cleaner.clean.Goals as goal

pub returns-in_default-clause-cleaned : goal.returns-in_default-clause-cleaned
returns-in_default-clause-cleaned g c = let x = cleaned_none g.D.Disk.tells g.D.Disk.state c.args.most c.args.m.now c.requires.can in (x.0, c.no_copies.ensures ∙ x.1)

pub returns-in_err-copied-clause-cleaned : goal.returns-in_err-copied-clause-cleaned
returns-in_err-copied-clause-cleaned g c =
    let p = err_from_is_err_and c.from_residual.result c.from_residual.ensures.1 in
    rw (p.1, p.2) (cleaned_err g.D.Disk.tells g.D.Disk.state c.args.most c.args.m.now _ c.requires.can _ _ c.in_err-copied.ensures.cleaned)

pub returns-clause-cleaned : goal.returns-clause-cleaned
returns-clause-cleaned g c = cleaned_ok g.D.Disk.tells g.D.Disk.state c.args.most c.args.m.now _ c.requires.can _ _ _ _ (search rules) (search rules) refl refl c.in_ok-copied.ensures.cleaned
