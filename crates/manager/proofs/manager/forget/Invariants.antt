use Rattle.std.proofs.Common.{◌≡◌, replicate}
use lib.Seq.{paste}
use Rattle.offload_policy.specs.declared.Room.TheVariants.{Unknown}
use Rattle.manager.proofs.manager.forget.Given as goal

abbrev pub invariant-loop-k : goal.invariant-loop-k
invariant-loop-k l = l.rooms.items ≡ paste l.initial.rooms.items 0 (replicate l.k Unknown) l.k
