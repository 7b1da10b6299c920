use Rattle.rack_parts.proofs.Basics.{◌≡◌, vec_capacity}
use Rattle.rack_parts.proofs.Terms.{IsPoolTaken}
use Rattle.rack_parts.proofs.SpindlesClosed.{AreGathered}
use Rattle.rack_parts.proofs.closing.gather_pools.Given as goal

-- the rows so far have given theirs, and the others are as they were
abbrev pub invariant-loop-volume : goal.invariant-loop-volume
invariant-loop-volume g l = record {
  so_far : AreGathered (IsPoolTaken l.id) l.initial.passes l.passes l.room.items l.volume-index;
  capacity : vec_capacity l.room ≡ vec_capacity l.fn.room;
}
