use Rattle.std.proofs.Common.{refl}
use Rattle.request_workers.proofs.Crewing.{pool_more, pool_same}
use Rattle.request_workers.proofs.pool.Pool.add.Goals as goal

pub returns-in_err-reserve : goal.returns-in_err-reserve
returns-in_err-reserve g c = pool_same c.args.self.now _ c.reserve.ensures.items refl refl c.requires

pub returns-in_err-reserve-2 : goal.returns-in_err-reserve-2
returns-in_err-reserve-2 g c = pool_same c.args.self.now _ c.reserve.ensures.items c.reserve-2.ensures.items refl c.requires

pub returns-in_err-reserve-3 : goal.returns-in_err-reserve-3
returns-in_err-reserve-3 g c = pool_same c.args.self.now _ c.reserve.ensures.items c.reserve-2.ensures.items c.reserve-3.ensures.items c.requires

pub returns : goal.returns
returns g c = pool_more c.args.self.now _ c.in-Ok.errands _ c.in-Ok.worker
    (rw c.reserve.ensures.items at c.push_reserved.ensures.items) (rw c.reserve-2.ensures.items at c.push_reserved-2.ensures.items) (rw c.reserve-3.ensures.items at c.push_reserved-3.ensures.items)
    (record { idle = c.in-Ok.ensures.sender; empty = c.in_ok-room.ensures.items }) c.in-Ok.ensures.worker c.requires
