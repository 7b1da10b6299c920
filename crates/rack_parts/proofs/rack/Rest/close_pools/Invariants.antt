use Rattle.rack_parts.proofs.Basics.{◌≡◌, length, vec_len}
use Rattle.rack_parts.proofs.Members.{IsFrontOf}
use Rattle.rack_parts.proofs.PoolsClosed.{ArePoolsClosed}
use Rattle.rack_parts.proofs.rack.Rest.close_pools.Given as goal

-- the pools behind those that are left are closed
abbrev pub invariant-loop-lock : goal.invariant-loop-lock
invariant-loop-lock g l = record {
  front : IsFrontOf l.locks.items l.fn.locks.items;
  rooms_front : IsFrontOf l.self.rooms.pools.items l.fn.self.rooms.pools.items;
  rooms_count : length l.self.rooms.pools.items ≡ length l.locks.items;
  closed : ArePoolsClosed g.D.Disk.state l.fn.locks.items l.fn.self (length l.locks.items) l.self;
  rooms : l.self.rooms ≡ record l.fn.self.rooms { pools = l.self.rooms.pools };
}

abbrev pub decreases-loop-lock : goal.decreases-loop-lock
decreases-loop-lock g l = vec_len l.locks
