use Rattle.std.proofs.Common.{sym, rules}
use Rattle.wol_bay.proofs.NameLists.{without_none}
use Rattle.wol_bay.proofs.names.take_by_name.Goals as goal

pub returns-in-None-clause-entries : goal.returns-in-None-clause-entries
returns-in-None-clause-entries g c = sym (without_none c.args.name.now _ (search rules))
