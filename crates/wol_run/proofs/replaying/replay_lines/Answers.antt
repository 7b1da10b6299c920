use Rattle.std.proofs.Common.{refl}
use Rattle.wol_run.proofs.replaying.replay_lines.Goals as goal

pub returns-clause-content : goal.returns-clause-content
returns-clause-content g c = c.replay_given-status.ensures.content _ (rw c.in-Trace.is refl)

pub returns-clause-complete : goal.returns-clause-complete
returns-clause-complete g c may = rw c.in-Trace.is at c.replay_given-status.ensures.complete may
