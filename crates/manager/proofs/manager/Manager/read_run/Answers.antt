-- The covered blocks of a run are all of them or none.
use Rattle.std.proofs.Common.{length, sym, subst, arith}
use Rattle.manager.specs.Reading.{IsSource}
use Rattle.volume_parts.proofs.Contents.{bare_count, log_count}
use Rattle.manager.proofs.manager.Manager.read_run.Goals as goal

pub returns-in_ok-read_home-in-None-clause-counted : goal.returns-in_ok-read_home-in-None-clause-counted
returns-in_ok-read_home-in-None-clause-counted g c =
    let es = c.args.self.now.index.entries in
    (sym (bare_count es c.args.lbn (length c.args.out.now) (subst (IsSource es c.args.lbn (length c.args.out.now)) c.in-None.is c.requires.run.source)), omega arith)

pub returns-in_ok-read_log-in-Some-clause-counted : goal.returns-in_ok-read_log-in-Some-clause-counted
returns-in_ok-read_log-in-Some-clause-counted g c =
    let es = c.args.self.now.index.entries in
    (sym (log_count es c.args.lbn (length c.args.out.now) c.in-Some.record (subst (IsSource es c.args.lbn (length c.args.out.now)) c.in-Some.is c.requires.run.source)), omega arith)
