use Rattle.std.proofs.Common.{⊎_elim, arith}
use Rattle.std.proofs.lemmas.Bool.{cases_lt}
use Rattle.redirect_map.proofs.Summed.{skipped, whole, further}
use Rattle.redirect_map.proofs.tree.first_leaf.Goals as goal

pub loop-leaf-preserved-then-nodes-leaf-eq0 : goal.loop-leaf-preserved-then-nodes-leaf-eq0
loop-leaf-preserved-then-nodes-leaf-eq0 c =
    let e = whole c.loop-leaf.leaf c.loop-leaf.height c.loop-leaf.invariant.height (omega arith) in
    let more = further c.loop-leaf.leaf c.loop-leaf.height in
    record {
      start = omega arith;
      height = omega arith;
      apart = λ n from before within. ⊎_elim
          (λ less. c.loop-leaf.invariant.apart n from less within)
          (λ rest. skipped c.args.nodes.now c.loop-leaf.leaf c.loop-leaf.height c.args.wanted n c.requires c.if-nodes-leaf-eq0.true rest (omega arith) within)
          (cases_lt n c.loop-leaf.leaf);
    }
