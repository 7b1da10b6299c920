use Rattle.std.proofs.Common.{arith}
use Rattle.log_layout.proofs.StoredIds.{stored_ids, all_small}
use Rattle.log_layout.proofs.view.View.new.Goals as goal

pub invariant_of-result : goal.invariant_of-result
invariant_of-result c = stored_ids c.args.ids.now c.copy_from_slice.new.self c.copy_from_slice.ensures.after c.if-ids-gt-MOST.false (all_small c.args.ids.now (λ i. omega (arith, c.type_inv.ids i))) (c.are_apart.ensures.0 c.if-not-are_apart.false)
