use Rattle.garbage_list.specs.Least.{has_awake}
use Rattle.garbage_list.proofs.Finding.{next_of_all}
use Rattle.garbage_list.proofs.find.next.Goals as goal

pub returns : goal.returns
returns c = next_of_all (has_awake c.args.sought c.args.lanes.now c.args.index.now.entries) c.args.index.now.entries c.next_from.result c.next_from.ensures
