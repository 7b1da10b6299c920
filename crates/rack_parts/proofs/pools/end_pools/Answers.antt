use Rattle.rack_parts.proofs.Basics.{◌≡◌, [], length, sym, ap, subst, ◌∙◌, arith, Option, None, nil_from_length, get_or_default}
use Rattle.rack_parts.proofs.Terms.{ImageRest, lock_id, CanEnd, EndsInto}
use Rattle.rack_parts.proofs.PoolsEmptied.{AreEndedTo, ended_none, end_within, next_can_end, ended_next}
use Rattle.rack_parts.proofs.pools.end_pools.Goals as goal

pub loop-issued-init : goal.loop-issued-init
loop-issued-init g c = ended_none g.D.Disk.state c.args.images.now c.args.made.items

pub end_pool-requires : goal.end_pool-requires
end_pool-requires g c =
    let state = g.D.Disk.state in let old = c.args.images.now in let now = c.loop-issued.images in let all = c.args.made.items in let rest = c.pop.new.self.items in let i = c.in-Some.issued in let n = c.len.result in
    let size : n ≡ length rest = c.len.ensures ∙ c.pop.new.self.ok.0 in
    let so_far = subst (AreEndedTo state old now all) c.in-Some.ensures.items c.loop-issued.invariant in
    record {
      ready = subst (CanEnd i) (sym (get_or_default now n c.index-images-len.result None (end_within state old now all rest i n size so_far c.requires.count)))
          (next_can_end state old now all rest i n size so_far c.requires.count c.requires.each);
    }

pub loop-issued-preserved : goal.loop-issued-preserved
loop-issued-preserved g c =
    let state = g.D.Disk.state in let old = c.args.images.now in let now = c.loop-issued.images in let all = c.args.made.items in let rest = c.pop.new.self.items in let i = c.in-Some.issued in let n = c.len.result in
    let size : n ≡ length rest = c.len.ensures ∙ c.pop.new.self.ok.0 in
    let so_far = subst (AreEndedTo state old now all) c.in-Some.ensures.items c.loop-issued.invariant in
    let lt = end_within state old now all rest i n size so_far c.requires.count in
    let was = c.index-images-len.result in
    ended_next state old now all rest i n size so_far c.requires.count c.end_pool.new.image
    (subst (λ (o : Option (ImageRest g.row.D.Denot)). EndsInto state (lock_id i.lock).base o c.end_pool.new.image) (get_or_default now n was None lt) c.end_pool.ensures)

pub returns : goal.returns
returns g c =
    let none : c.loop-issued.made.items ≡ [] = nil_from_length c.loop-issued.made.items (omega (arith, c.in_default.ensures.cases, c.loop-issued.made.ok.0)) in
    let inv = c.loop-issued.invariant in
    record { count = inv.count; each = λ k i is. inv.ended k i (omega (arith, ap length none)) is; others = inv.others }
