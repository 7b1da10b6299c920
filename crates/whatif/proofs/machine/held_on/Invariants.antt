use Rattle.std.proofs.Common.{◌≡◌, ◌≤◌, ◌*◌, ◌^◌, length, take}
use Rattle.std.specs.Prelude.{sum_by}
use Rattle.whatif.specs.declared.volume.Volume.{Volume}
use Rattle.whatif.specs.Volumes.{store_in}
use Rattle.whatif.proofs.machine.held_on.Given as goal

abbrev pub invariant-loop-place : goal.invariant-loop-place
invariant-loop-place l = record {
  disk : l.held.disk ≡ l.disk;
  blocks : l.held.blocks ≡ sum_by (λ (v : Volume). ((store_in v.store).shelf l.disk).kept) (take l.place l.volumes);
  segments : l.held.segments ≡ sum_by (λ (v : Volume). length ((store_in v.store).shelf l.disk).segments) (take l.place l.volumes);
  all : l.held.all ≡ sum_by (λ (v : Volume). v.store.kept) (take l.place l.volumes);
  few_blocks : l.held.blocks ≤ l.place * 2 ^ 71;
  few_segments : l.held.segments ≤ l.place * 2 ^ 64;
  few_all : l.held.all ≤ l.place * 2 ^ 71;
}
