use Rattle.std.proofs.Common.{arith}
use Rattle.wol_model.specs.Index.{listed_in, goes}
use Rattle.garbage_list.proofs.Going.{some_is, goes_covers, least_is, version_is}
use Rattle.redirect_map.specs.Index.{entry_at}
use Rattle.garbage_list.proofs.masks.may_go.Goals as goal

pub returns-clause-least : goal.returns-clause-least
returns-clause-least c = λ all. least_is c.args.index.now.entries (entry_at c.args.index.now.entries c.args.version) c.args.version (version_is c.args.index.now.entries c.args.version) all

pub returns-clause-some : goal.returns-clause-some
returns-clause-some c = some_is (entry_at c.args.index.now.entries c.args.version) (goes (listed_in c.args.index.now.entries)) c.going.result (omega arith) (goes_covers (listed_in c.args.index.now.entries)) c.going.ensures
