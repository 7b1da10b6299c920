use Rattle.rack.proofs.Basics.{sym, subst, arith, All, common_steps, All-push}
use Rattle.rack.proofs.Terms.{AreEmptyPasses}
use Rattle.rack.proofs.lists.new_passes.Goals as goal

pub loop-volume-preserved : goal.loop-volume-preserved
loop-volume-preserved g c = record {
  count = grind (arith, common_steps);
  room = omega arith;
  empty = subst (All (AreEmptyPasses {D = g.row.D.Denot} c.args.volumes)) (sym c.push_reserved.ensures.items)
      (All-push (AreEmptyPasses {D = g.row.D.Denot} c.args.volumes) c.loop-volume.passes.items c.in-Ok.row c.loop-volume.invariant.empty c.in-Ok.ensures);
}
