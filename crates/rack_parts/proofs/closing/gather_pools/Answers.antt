use Rattle.rack_parts.proofs.Basics.{refl, sym, subst, ◌∙◌, arith, IsSome}
use Rattle.rack_parts.proofs.Terms.{pool_in, IsPoolTaken, VolumePasses}
use Rattle.rack_parts.proofs.SpindlesClosed.{gathered_none, gathered_more}
use Rattle.rack_parts.proofs.closing.gather_pools.Goals as goal

pub loop-volume-init : goal.loop-volume-init
loop-volume-init g c = record { so_far = gathered_none (IsPoolTaken c.args.id) c.args.passes.now c.args.room.items c.requires.empty; capacity = refl }

pub take_pool-requires : goal.take_pool-requires
take_pool-requires g c =
    subst (λ (p : VolumePasses g.row.D.Denot). IsSome (pool_in p c.args.id)) (sym (c.loop-volume.invariant.so_far.others c.loop-volume.volume-index c.volume-item.result (omega arith)))
    (c.requires.there c.loop-volume.volume-index c.volume-item.result (omega arith))

pub loop-volume-preserved : goal.loop-volume-preserved
loop-volume-preserved g c =
    let l = c.loop-volume in
    record {
      so_far = rw c.push_reserved.ensures.items (gathered_more (IsPoolTaken c.args.id) c.args.passes.now l.passes l.room.items l.volume-index c.take_pool.new.self c.take_pool.result c.volume-item.result l.invariant.so_far (omega arith) c.take_pool.ensures);
      capacity = c.push_reserved.ensures.capacity ∙ l.invariant.capacity;
    }

pub returns : goal.returns
returns g c =
    let i = c.loop-volume.invariant.so_far in
    record { count = i.count; taken = omega (arith, i.gathered); each = λ v d e within. i.taken v d e (omega (arith, within)) }
