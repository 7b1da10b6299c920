use Rattle.rack_parts.proofs.Basics.{◌≡◌, ◌≤◌, ◌+◌, ℕ, [], length, Some, refl, sym, ap, ◌∙◌, subst, arith, slice_get, vec_capacity}
use Rattle.rack_parts.proofs.Terms.{lock_id, shapes_of, image_here, Rest, Rooms, CanClosePool}
use Rattle.rack_parts.proofs.Members.{IsFrontOf, element_at, front_all, pop_front}
use Rattle.rack_parts.proofs.LanesMoved.{all_read}
use Rattle.rack_parts.proofs.PoolsClosed.{ArePoolsClosed, still_may, refills_same, no_pool_closed, one_pool_more}
use Rattle.rack_parts.proofs.rack.Rest.close_pools.Goals as goal

pub loop-lock-init : goal.loop-lock-init
loop-lock-init g c = record {
  front = front_all c.args.locks.items;
  rooms_front = front_all c.args.self.now.rooms.pools.items;
  rooms_count = c.requires.1.room_count;
  closed = no_pool_closed g.D.Disk.state c.args.locks.items c.args.self.now;
  rooms = refl;
}

pub close_pool-requires : goal.close_pool-requires
close_pool-requires g c =
    let state = g.D.Disk.state in let can = c.requires.1 in let volumes = length (shapes_of c.requires.0) in let rest = c.pop.new.self.items in let lock = c.in-Some.lock in
    let init = c.args.self.now in let cur = c.loop-lock.self in let rooms = c.pop-in-Some.new.self in let inv = c.loop-lock.invariant in
    let next : Rest g.row.D.Denot = record cur { rooms = record cur.rooms { pools = rooms } } in
    let p = pop_front c.loop-lock.locks.items rest c.args.locks.items lock c.in-Some.ensures.items inv.front in
    let q = pop_front cur.rooms.pools.items rooms.items init.rooms.pools.items c.in-Some-pop.room c.in-Some-pop.ensures.items inv.rooms_front in
    let z = element_at (shapes_of c.requires.0) (length rest) (omega (arith, p.count, p.few, can.few)) in
    let number : length rest ≡ c.len.result = omega (arith, c.len.ensures, c.pop.new.self.ok.0) in
    let first = can.each (length rest) z.0 lock z.1 p.there in
    let now = still_may state volumes (length rest) z.0 lock init cur (inv.closed.before (length rest) (omega (arith, p.count))) inv.closed.spindles first in
    let popped = still_may state volumes (length rest) z.0 lock cur next (record { image = refl; pools = λ v. refl; held = λ v. refl }) (record { count = refl; image_count = refl; rows = λ n rows. rows; spindles = λ v k. refl }) now in
    let room = all_read (λ row. (row.items ≡ []) × (volumes ≤ vec_capacity row)) init.rooms.pools.items (length rooms.items) c.in-Some-pop.room q.there can.rooms in
    record {
      pool = (volumes, z.0, subst (λ (n : ℕ). CanClosePool state volumes n z.0 lock next) number popped);
      empty = room.0;
      room = omega (arith, room.1, first.count, inv.closed.spindles.count);
    }

pub loop-lock-preserved : goal.loop-lock-preserved
loop-lock-preserved g c =
    let state = g.D.Disk.state in let rest = c.pop.new.self.items in let lock = c.in-Some.lock in let locks = c.args.locks.items in let n = c.len.result in
    let init = c.args.self.now in let cur = c.loop-lock.self in let rooms = c.pop-in-Some.new.self in let inv = c.loop-lock.invariant in let new = c.close_pool.new.self in let e = c.close_pool.ensures in
    let p = pop_front c.loop-lock.locks.items rest locks lock c.in-Some.ensures.items inv.front in
    let q = pop_front cur.rooms.pools.items rooms.items init.rooms.pools.items c.in-Some-pop.room c.in-Some-pop.ensures.items inv.rooms_front in
    let number : length rest ≡ n = omega (arith, c.len.ensures, c.pop.new.self.ok.0) in
    let pools : new.rooms.pools.items ≡ rooms.items = ap (λ r. r.pools.items) e.rooms in
    let so_far : ArePoolsClosed state locks init (n + 1) cur = subst (λ (m : ℕ). ArePoolsClosed state locks init m cur) (omega (arith, p.count, number)) inv.closed in
    let now = one_pool_more state locks init n lock (subst (λ (m : ℕ). slice_get locks m ≡ Some lock) number p.there) cur new so_far
    (refills_same state (lock_id lock).base.blocks cur (record cur { rooms = record cur.rooms { pools = rooms } }) n (record { image = refl; pools = λ v. refl; held = λ v. refl }) (image_here new.images.items n) e.image)
    (e.uses.0, record { legal = e.uses.1.legal; made = e.uses.1.made }) e.held
    (λ k differs. let x = e.others k differs in record { image = x.image; pools = x.pools; held = x.held })
    (let x = e.spindles in record { count = x.count; image_count = x.image_count; rows = x.rows; spindles = x.spindles }) in
    record {
      front = p.front;
      rooms_front = subst (λ l. IsFrontOf l init.rooms.pools.items) (sym pools) q.front;
      rooms_count = ap length pools ∙ omega (arith, q.count, p.count, inv.rooms_count);
      closed = subst (λ (m : ℕ). ArePoolsClosed state locks init m new) (sym number) now;
      rooms = e.rooms ∙ ap {A = Rooms g.row.D.Denot} (λ r. record r { pools = rooms }) inv.rooms ∙ ap (λ p. record init.rooms { pools = p }) (sym (ap (λ r. r.pools) e.rooms));
    }

pub returns : goal.returns
returns g c =
    let none : length c.loop-lock.locks.items ≡ 0 = omega (arith, c.in_default.ensures.cases, c.loop-lock.locks.ok.0) in
    let closed = c.loop-lock.invariant.closed in
    record {
      images = λ k lock at. closed.images k lock (omega (arith, none)) at;
      uses = λ k lock at. closed.uses k lock (omega (arith, none)) at;
      held = λ v k below. closed.held v k (omega (arith, none)) below;
      others = closed.behind;
      spindles = closed.spindles;
      rooms = c.loop-lock.invariant.rooms;
    }
