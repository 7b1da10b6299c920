use Rattle.std.proofs.Common.{◌-◌, arith}
use Rattle.garbage_list.proofs.Finding.{last_is, none_listed}
use Rattle.garbage_list.proofs.find.last_version.Goals as goal

pub returns-then-count-eq0 : goal.returns-then-count-eq0
returns-then-count-eq0 c = none_listed c.args.index.now.entries (omega (arith, c.len-count.ensures.value, c.if-count-eq0.true))

pub returns : goal.returns
returns c = last_is c.args.index.now.entries (c.len-count.result - 1) c.at.result c.len-count.ensures.index (omega (arith, c.len-count.ensures.value, c.if-count-eq0.false)) (omega (arith, c.len-count.ensures.value, c.if-count-eq0.false)) c.at.ensures
