use Rattle.rack.proofs.Basics.{◌≡◌, List, [], refl, subst, arith, nil_from_length}
use Rattle.rack.proofs.Setting.{PoolLock, ArePoolsPut, pools_none, pool_lock_room, pool_row_room, pools_next, pools_all}
use Rattle.rack.proofs.lists.Lists.put_pools.Goals as goal

pub loop-lock-init : goal.loop-lock-init
loop-lock-init g c = pools_none c.args.pools.items c.reverse.new.self.items c.args.self.now c.reverse.ensures.items c.requires.shared c.requires.rooms

pub push_reserved-requires : goal.push_reserved-requires
push_reserved-requires g c =
    let so_far = subst (λ (l : List (PoolLock g.row.D.Denot)). ArePoolsPut c.args.pools.items l c.args.self.now c.loop-lock.self) c.in-Some.ensures.items c.loop-lock.invariant in
    pool_lock_room c.args.pools.items c.pop.new.self.items c.in-Some.field-0 c.args.self.now c.loop-lock.self so_far

pub push_reserved-requires-in-Some : goal.push_reserved-requires-in-Some
push_reserved-requires-in-Some g c =
    let so_far = subst (λ (l : List (PoolLock g.row.D.Denot)). ArePoolsPut c.args.pools.items l c.args.self.now c.loop-lock.self) c.in-Some.ensures.items c.loop-lock.invariant in
    pool_row_room c.args.pools.items c.pop.new.self.items c.in-Some.field-0 c.args.self.now c.loop-lock.self so_far

pub loop-lock-preserved : goal.loop-lock-preserved
loop-lock-preserved g c =
    let all = c.args.pools.items in let rest = c.pop.new.self.items in let old = c.args.self.now in let new = c.loop-lock.self in
    let so_far = subst (λ (l : List (PoolLock g.row.D.Denot)). ArePoolsPut all l old new) c.in-Some.ensures.items c.loop-lock.invariant in
    pools_next all rest c.in-Some.field-0 old new so_far _ c.push_reserved.ensures.items c.push_reserved.ensures.capacity c.push_reserved-in-Some.ensures.items c.push_reserved-in-Some.ensures.capacity refl

pub returns : goal.returns
returns g c =
    let none : c.loop-lock.pools.items ≡ [] = nil_from_length c.loop-lock.pools.items (omega (arith, c.in_default.ensures.cases, c.loop-lock.pools.ok.0)) in
    pools_all c.args.pools.items c.args.self.now c.loop-lock.self (subst (λ (l : List (PoolLock g.row.D.Denot)). ArePoolsPut c.args.pools.items l c.args.self.now c.loop-lock.self) none c.loop-lock.invariant)
