use Rattle.rack_parts.proofs.Basics.{List, Some, Option, sym, subst}
use Rattle.rack_parts.proofs.Terms.{SegHead, CanIssue, IsSupplied, IsFilledPool, TakesFree, Said, ImageRest, volume_of}
use Rattle.rack_parts.proofs.LocksIssued.{supplied_some}
use Rattle.rack_parts.proofs.pools.supply.Goals as goal

pub returns-clause-supplied : goal.returns-clause-supplied
returns-clause-supplied g c =
    let state = g.D.Disk.state in let old = c.args.pool.now in let r = c.requires.ready in let said = c.in-Some.said in let image = c.in-Some-image.image in let p = c.give_free.new.pool in
    let may = subst (λ (o : Option (ImageRest g.row.D.Denot)). CanIssue state r.volumes (volume_of old) r.shape (Some said) o) c.in-Some-image.is
    (subst (λ (s : Option Said). CanIssue state r.volumes (volume_of old) r.shape s c.args.image.now) c.in-Some.is r.may) in
    let filled = subst (λ (hs : List SegHead). IsFilledPool hs image.segments.items p) c.as_slice.ensures.value c.give_free.ensures.filled in
    let takes = subst (λ (hs : List SegHead). TakesFree hs image.segments.items c.give_free.new.self.segments.items) c.as_slice.ensures.value c.give_free.ensures.segments in
    subst (λ (s : Option Said). IsSupplied state s c.args.image.now (Some c.give_free.new.self) p) (sym c.in-Some.is)
    (subst (λ (o : Option (ImageRest g.row.D.Denot)). IsSupplied state (Some said) o (Some c.give_free.new.self) p) (sym c.in-Some-image.is)
    (supplied_some state said image c.give_free.new.self old p r.volumes r.shape may r.room r.blocks c.give_free.ensures.same c.give_free.ensures.rest c.give_free.ensures.stands filled takes))
