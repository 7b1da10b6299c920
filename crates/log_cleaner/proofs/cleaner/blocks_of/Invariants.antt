use Rattle.std.proofs.Common.{◌≡◌, ◌*◌, ◌≤◌, take}
use Rattle.log_segment.specs.Records.{count_of}
use Rattle.log_cleaner.proofs.cleaner.blocks_of.Given as goal

abbrev pub invariant-loop-chunk : goal.invariant-loop-chunk
invariant-loop-chunk l = record {
  blocks : l.blocks ≡ count_of (take l.chunk-index l.chunks);
  few : l.blocks ≤ 128 * l.chunk-index;
}
