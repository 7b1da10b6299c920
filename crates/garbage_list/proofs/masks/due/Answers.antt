use Rattle.std.proofs.Common.{arith}
use Rattle.wol_model.specs.Index.{listed_in, is_due}
use Rattle.garbage_list.proofs.Going.{without_fits, some_is, due_covers, due_is}
use Rattle.redirect_map.specs.Index.{entry_at}
use Rattle.garbage_list.proofs.masks.due.Goals as goal

pub returns-clause-value : goal.returns-clause-value
returns-clause-value c = due_is c.args.index.now.entries (entry_at c.args.index.now.entries c.args.version) c.live.result c.homed.result (omega arith) (omega arith) c.live.ensures c.homed.ensures.value

pub returns-clause-some : goal.returns-clause-some
returns-clause-some c = some_is (entry_at c.args.index.now.entries c.args.version) (is_due (listed_in c.args.index.now.entries)) _ (without_fits c.live.result _ (omega arith)) (due_covers (listed_in c.args.index.now.entries)) (due_is c.args.index.now.entries (entry_at c.args.index.now.entries c.args.version) c.live.result c.homed.result (omega arith) (omega arith) c.live.ensures c.homed.ensures.value)
