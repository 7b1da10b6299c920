use Rattle.std.proofs.Common.{◌≡◌, ◌+◌, take}
use Rattle.window_desks.specs.Batches.{AreWrites, blocks_of}
use Rattle.window_desks.proofs.batch.first_batch.Given as goal

abbrev pub invariant-loop-k : goal.invariant-loop-k
invariant-loop-k l = record {
  writes : AreWrites (take l.k l.requests);
  all : l.left + blocks_of (take l.k l.requests) ≡ 128;
}
