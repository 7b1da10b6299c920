use Rattle.std.proofs.Common.{◌+◌, ◌*◌}
use Rattle.inspection.proofs.beside.+parts.Given as goal

abbrev pub decreases-find_parts : goal.decreases-find_parts
decreases-find_parts g l = 4 * l.halvings

abbrev pub decreases-find_both : goal.decreases-find_both
decreases-find_both g l = 4 * l.halvings + 2

abbrev pub decreases-find_both-join_mut+arg2 : goal.decreases-find_both-join_mut+arg2
decreases-find_both-join_mut+arg2 g l = 4 * l.halvings + 1

abbrev pub decreases-find_both-join_mut+arg3 : goal.decreases-find_both-join_mut+arg3
decreases-find_both-join_mut+arg3 g l = 4 * l.halvings + 1
