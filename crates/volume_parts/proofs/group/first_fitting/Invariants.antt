use Rattle.std.proofs.Common.{◌≡◌, ◌+◌, ◌-◌, ◌≤◌, take}
use Rattle.log_segment.specs.Records.{count_of}
use Rattle.volume_parts.proofs.group.first_fitting.Given as goal

abbrev pub invariant-loop-place : goal.invariant-loop-place
invariant-loop-place l = record {
  blocks : l.blocks ≡ count_of (take l.place l.items);
  fits : l.blocks + (l.place - 1) ≤ l.room;
}
