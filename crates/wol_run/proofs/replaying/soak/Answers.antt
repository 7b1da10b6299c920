use Rattle.std.proofs.Common.{None, Some}
use Rattle.replay.specs.declared.given.Given.TheVariants.{Generated}
use Rattle.wol_run.proofs.Completing.{complete_unread, may_soak}
use Rattle.wol_run.proofs.ReplayEndings.{unreplayed}
use Rattle.wol_run.proofs.SeenLines.{left_of_seed, seed_calm}
use Rattle.wol_run.proofs.replaying.soak.Goals as goal

pub returns-in-Err-clause-content : goal.returns-in-Err-clause-content
returns-in-Err-clause-content g c rest = record { read = None; has = tt; is = unreplayed _ _ _ _ _ _ _ _ _ c.in-Err.fault c.in-Err.ensures.err tt c.tell_fault.ensures.content }

pub returns-clause-content : goal.returns-clause-content
returns-clause-content g c rest =
    record {
      read = Some c.in-Ok.config;
      has = c.in-Ok.ensures.ok;
      is = rw c.new.ensures at (c.replay_given.ensures.content rest (left_of_seed _ c.replay_given.new.given rest c.replay_given.ensures.same_source.1));
    }

pub returns-clause-source : goal.returns-clause-source
returns-clause-source g c eight = absurd (seed_calm _ (Generated c.new.result c.args.asked.lines) c.replay_given.new.given (λ is. is) c.replay_given.ensures.same_source.1 (c.replay_given.ensures.source eight))

pub returns-in-Err-clause-complete : goal.returns-in-Err-clause-complete
returns-in-Err-clause-complete g c free versions =
    complete_unread _ _ _ c.tell_fault.result _ _ c.in-Err.fault c.in-Err.ensures.err free.configured free.source (λ seven. free.sink (c.tell_fault.ensures.sink.cause seven)) c.tell_fault.ensures.content

pub returns-clause-complete : goal.returns-clause-complete
returns-clause-complete g c free versions =
    (rw c.new.ensures at c.replay_given.ensures.complete)
    (may_soak _ _ c.in-Ok.config _ c.in-Ok.ensures.ok c.args.asked c.replay_given.new.given _ _ _ _ _ _ (seed_calm _ (Generated c.new.result c.args.asked.lines) c.replay_given.new.given (λ is. is) c.replay_given.ensures.same_source.1) c.replay_given.ensures.within free.images versions free.bay free.sink)
