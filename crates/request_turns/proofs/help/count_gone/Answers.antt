use Rattle.std.proofs.Common.{refl, ap, sym}
use Rattle.request_turns.specs.Counts.{gone_count}
use Rattle.request_turns.proofs.Counting.{more_is}
use Rattle.request_turns.proofs.help.count_gone.Goals as goal

pub returns-in-Version-clause-counted : goal.returns-in-Version-clause-counted
returns-in-Version-clause-counted c = more_is 0 0 1 _ c.args.tally.now c.count.new.self refl (sym (ap gone_count c.in-Version.is)) c.count.ensures
