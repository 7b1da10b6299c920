use Rattle.std.proofs.Common.{◌≡◌, ◌/◌, ◌*◌, ◌∙◌, length, bit_or, arith}
use Rattle.std.proofs.lemmas.List.{length-set, drop-set-lt}
use Rattle.redirect_map.proofs.Summed.{raised_read, as_it_was}
use Rattle.redirect_map.proofs.tree.raise.Goals as goal

pub loop-node-preserved : goal.loop-node-preserved
loop-node-preserved c =
    let even : length c.loop-node.nodes.items ≡ 2 * (length c.loop-node.nodes.items / 2) = omega arith in
    let size = length-set c.loop-node.nodes.items (c.loop-node.node / 2) (bit_or c.index.result.now c.index-in-loop-node.result.now) in
    record {
      within = omega (arith, size);
      summed = raised_read c.loop-node.nodes.items c.loop-node.node c.index.result.now c.index-in-loop-node.result.now even (omega arith) (omega arith) c.loop-node.invariant.summed c.index.ensures c.index-in-loop-node.ensures;
      same = size ∙ c.loop-node.invariant.same;
      leaves = drop-set-lt (length c.args.nodes.now.items / 2) c.loop-node.nodes.items (c.loop-node.node / 2) (bit_or c.index.result.now c.index-in-loop-node.result.now) (omega arith) ∙ c.loop-node.invariant.leaves;
    }

pub returns-then-index-both-clause-summed : goal.returns-then-index-both-clause-summed
returns-then-index-both-clause-summed c =
    let even : length c.loop-node.nodes.items ≡ 2 * (length c.loop-node.nodes.items / 2) = omega arith in
    as_it_was c.loop-node.nodes.items c.loop-node.node c.index.result.now c.index-in-loop-node.result.now c.index-in-loop-node-2.result.now even c.loop-node.invariant.within c.loop-node-test.true c.loop-node.invariant.summed
    c.index.ensures c.index-in-loop-node.ensures c.index-in-loop-node-2.ensures c.if-index-both.true
