use Rattle.rack_parts.proofs.Basics.{◌<◌, length, get_or, None, refl, sym, ap, ◌∙◌, arith, with_items_is, option_and_then, slice_get-get_or}
use Rattle.rack_parts.proofs.Basics.{get_or_read, get_or-set_same, get_or-set_other, length-set}
use Rattle.rack_parts.proofs.Terms.{pool_in, VolumePasses}
use Rattle.rack_parts.proofs.SpindlesClosed.{pools_kept, spindles_stay, lists_stay, rows_stay}
use Rattle.rack_parts.proofs.Members.{is_there}
use Rattle.rack_parts.proofs.PoolsClosed.{pool_passes, closed_pool, lists_go, places_empty, all_back}
use Rattle.rack_parts.proofs.rack.Rest.close_pool.Goals as goal

pub gather_pools-room-requires-clause-there : goal.gather_pools-room-requires-clause-there
gather_pools-room-requires-clause-there g c =
    rw c.deref_mut.ensures.value
    (λ v d within.
    let p = c.requires.pool.2.passes v (omega (arith, within, c.requires.pool.2.count)) in
    is_there (pool_in (get_or c.args.self.now.passes.items v d) c.args.id) p.0 (sym (ap (option_and_then (λ (q : VolumePasses g.row.D.Denot). pool_in q c.args.id)) (slice_get-get_or c.args.self.now.passes.items v d within)) ∙ p.1))

pub close-pool-requires-clause-passes : goal.close-pool-requires-clause-passes
close-pool-requires-clause-passes g c =
    let pool = c.requires.pool in
    pool_passes g.D.Disk.state pool.0 c.args.id pool.1 c.args.lock c.args.self.now pool.2 c.gather_pools-room.new.passes c.gather_pools-room.result.items (rw c.deref_mut.ensures.value at c.gather_pools-room.ensures)

pub put_all_held-requires : goal.put_all_held-requires
put_all_held-requires g c =
    let pool = c.requires.pool in let taken = rw c.deref_mut.ensures.value at c.gather_pools-room.ensures in
    lists_go g.D.Disk.state pool.0 c.args.id pool.1 c.args.lock c.args.self.now pool.2 c.close-pool.result c.close-pool.ensures.0 c.gather_pools-room.new.passes c.gather_pools-room.result.items taken c.close-pool.ensures.1 c.close-pool.ensures.2
    _ refl (with_items_is c.args.self.now.passes c.gather_pools-room.new.passes (c.gather_pools-room.ensures.count ∙ c.deref_mut.ensures.len))

pub empty_pool-requires : goal.empty_pool-requires
empty_pool-requires g c =
    let pool = c.requires.pool in let taken = rw c.deref_mut.ensures.value at c.gather_pools-room.ensures in
    let within : c.args.id < length c.put_all_held.new.self.images.items = omega (arith, c.put_all_held.ensures.count, pool.2.image_count, pool.2.below) in
    record {
      places = rw (get_or_read c.put_all_held.new.self.images.items c.args.id c.index_mut.result.now within c.index_mut.ensures.value None)
          (places_empty g.D.Disk.state pool.0 c.args.id pool.1 c.args.lock c.args.self.now pool.2 c.close-pool.result c.close-pool.ensures.0 c.gather_pools-room.new.passes c.gather_pools-room.result.items taken c.close-pool.ensures.1 c.close-pool.ensures.2
          _ c.put_all_held.new.self refl (with_items_is c.args.self.now.passes c.gather_pools-room.new.passes (c.gather_pools-room.ensures.count ∙ c.deref_mut.ensures.len)) c.put_all_held.ensures);
    }

pub returns-clause-image : goal.returns-clause-image
returns-clause-image g c =
    let pool = c.requires.pool in let taken = rw c.deref_mut.ensures.value at c.gather_pools-room.ensures in
    let within : c.args.id < length c.put_all_held.new.self.images.items = omega (arith, c.put_all_held.ensures.count, pool.2.image_count, pool.2.below) in
    rw (get_or-set_same c.put_all_held.new.self.images.items c.args.id c.empty_pool.new.image None within)
    (all_back g.D.Disk.state pool.0 c.args.id pool.1 c.args.lock c.args.self.now pool.2 c.close-pool.result c.close-pool.ensures.0 c.gather_pools-room.new.passes c.gather_pools-room.result.items taken c.close-pool.ensures.1 c.close-pool.ensures.2
    _ c.put_all_held.new.self refl (with_items_is c.args.self.now.passes c.gather_pools-room.new.passes (c.gather_pools-room.ensures.count ∙ c.deref_mut.ensures.len)) c.put_all_held.ensures c.empty_pool.new.image
    (rw (get_or_read c.put_all_held.new.self.images.items c.args.id c.index_mut.result.now within c.index_mut.ensures.value None) at c.empty_pool.ensures))

pub returns-clause-uses : goal.returns-clause-uses
returns-clause-uses g c = (
  c.close-pool.ensures.0,
  closed_pool g.D.Disk.state c.requires.pool.0 c.args.id c.requires.pool.1 c.args.lock c.args.self.now c.requires.pool.2 c.close-pool.result c.close-pool.ensures.0 c.gather_pools-room.new.passes c.gather_pools-room.result.items
      (rw c.deref_mut.ensures.value at c.gather_pools-room.ensures) c.close-pool.ensures.1 c.close-pool.ensures.2,
)

pub returns-clause-others : goal.returns-clause-others
returns-clause-others g c =
    let rows = c.args.self.now.passes.items in let new = c.gather_pools-room.new.passes in let taken = rw c.deref_mut.ensures.value at c.gather_pools-room.ensures in
    let items = with_items_is c.args.self.now.passes new (c.gather_pools-room.ensures.count ∙ c.deref_mut.ensures.len) in
    λ k differs. record {
      image = get_or-set_other c.put_all_held.new.self.images.items c.args.id k c.empty_pool.new.image None differs ∙ c.put_all_held.ensures.images k differs;
      pools = λ v. c.put_all_held.ensures.pools v k ∙ rw items (pools_kept c.args.id rows new c.gather_pools-room.result.items taken v k differs);
      held = λ v. c.put_all_held.ensures.held_others v k differs ∙ rw items (lists_stay c.args.id rows new c.gather_pools-room.result.items taken v k);
    }

pub returns-clause-spindles : goal.returns-clause-spindles
returns-clause-spindles g c =
    let rows = c.args.self.now.passes.items in let new = c.gather_pools-room.new.passes in let taken = rw c.deref_mut.ensures.value at c.gather_pools-room.ensures in
    let items = with_items_is c.args.self.now.passes new (c.gather_pools-room.ensures.count ∙ c.deref_mut.ensures.len) in
    record {
      count = c.put_all_held.ensures.rows.count ∙ ap length items ∙ taken.count;
      image_count = length-set c.put_all_held.new.self.images.items c.args.id c.empty_pool.new.image ∙ c.put_all_held.ensures.count;
      rows = λ n all. c.put_all_held.ensures.rows.rows n (rw items (rows_stay c.args.id rows new c.gather_pools-room.result.items taken n all));
      spindles = λ v k. c.put_all_held.ensures.spindles v k ∙ rw items (spindles_stay c.args.id rows new c.gather_pools-room.result.items taken v k);
    }
