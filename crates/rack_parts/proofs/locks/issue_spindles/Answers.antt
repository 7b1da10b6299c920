use Rattle.rack_parts.proofs.Basics.{◌∙◌, List, length, sym, ap, subst, arith, length_push}
use Rattle.rack_parts.proofs.Terms.{Spindle, SpindleBase, AreSpindlesOf, Issued}
use Rattle.rack_parts.proofs.LocksIssued.{new_in_order, new_settled, one_more}
use Rattle.rack_parts.proofs.locks.issue_spindles.Goals as goal

pub loop-id-preserved : goal.loop-id-preserved
loop-id-preserved c =
    let i : Issued Spindle SpindleBase = record { lock = c.in-Ok-new.lock; passes = c.in-Ok-new.passes } in
    let new = c.in-Ok-new.ensures in
    let inv = c.loop-id.invariant in
    let p = c.push_reserved.ensures in
    let n = new.count in
    let l = new.lock.1 in
    let v = c.in-Ok-new.passes.ok.0 in
    let so_far = inv.count in
    record {
      count = let e = ap length p.items in let m = length_push c.loop-id.made.items i in omega (arith, e, m, so_far);
      room = let r = inv.room in let q = p.capacity in omega (arith, r, q);
      spindles = subst (λ (l' : List (Issued Spindle SpindleBase)). AreSpindlesOf c.args.volumes c.args.timeout l') (sym p.items)
          (one_more c.args.volumes c.args.timeout c.loop-id.made.items i inv.spindles (new_in_order i (omega (arith, n, l, v)) new.passes) (new_settled (length c.loop-id.made.items) i new.passes)
          (record {
            passes = omega (arith, l);
            volume = ap (λ (b : SpindleBase). b.volume) new.lock.0 ∙ c.new-spindle.ensures.volume ∙ sym so_far;
            timeout_is = ap (λ (b : SpindleBase). b.timeout) new.lock.0 ∙ c.new-spindle.ensures.timeout;
          }));
    }
