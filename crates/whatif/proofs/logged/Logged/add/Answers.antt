-- One more is told of.
use Rattle.std.proofs.Common.{◌∷◌, [], refl, sym, subst, length-append, arith}
use Rattle.whatif.specs.declared.logged.Held.{Held}
use Rattle.whatif.specs.Waits.{IsMost, of_disk}
use Rattle.whatif.proofs.Counting.{each_raised, each_same, raised}
use Rattle.whatif.proofs.logged.Logged.add.Goals as goal

pub returns-then-disk-len-clause-told : goal.returns-then-disk-len-clause-told
returns-then-disk-len-clause-told c = λ hs are.
    let h = c.args.held.now in let old = c.args.self.now in record {
      count = (let was = are.count in omega (arith, was, length-append hs (h ∷ [])));
      blocks = raised (λ (x : Held). x.all) hs h old.blocks c.max-self.result are.blocks c.max-self.ensures;
      segments = raised (λ (x : Held). x.segments) hs h old.segments c.max-self-2.result are.segments c.max-self-2.ensures;
      each = each_raised hs h old.each.items _ c.index_mut.result.now c.raise.new.self are.each refl
          (λ lt is. c.raise.ensures (of_disk h.disk hs) (subst (IsMost (of_disk h.disk hs)) (sym c.index_mut.ensures.value) is));
    }

pub returns-else-disk-len-clause-told : goal.returns-else-disk-len-clause-told
returns-else-disk-len-clause-told c = λ hs are.
    let h = c.args.held.now in let old = c.args.self.now in record {
      count = (let was = are.count in omega (arith, was, length-append hs (h ∷ [])));
      blocks = raised (λ (x : Held). x.all) hs h old.blocks c.max-self.result are.blocks c.max-self.ensures;
      segments = raised (λ (x : Held). x.segments) hs h old.segments c.max-self-2.result are.segments c.max-self-2.ensures;
      each = each_same hs h old.each.items are.each (let past = c.if-disk-len.false in let long = c.len.ensures in omega (arith, past, long));
    }
