use Rattle.std.proofs.Common.{ℕ, subst}
use Rattle.seg_pool.specs.declared.pool.Slot.TheVariants.{Free}
use Rattle.seg_pool.proofs.Using.{stands_gave, slot_changed, in_slots}
use Rattle.seg_pool.proofs.pool.Pool.give.Goals as goal

pub returns-clause-stands : goal.returns-clause-stands
returns-clause-stands g c b es n st may =
    let p = c.args.self.now in
    let change = slot_changed p c.put.new.self c.args.index (Free c.args.item) (in_slots p c.args.index c.requires.within) c.put.ensures.rest in
    let is_blank = subst (λ (v : ℕ). g.T.Blank.blank v b.blocks c.args.item) st.volume (subst (λ (k : ℕ). g.T.Blank.blank p.volume k c.args.item) st.blocks c.requires.blank) in
    stands_gave g.T.Blank.blank p c.put.new.self b es n st c.put.ensures.same c.args.index c.args.item is_blank may change
