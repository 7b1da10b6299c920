use Rattle.std.proofs.Common.{◌≡◌, take, length}
use Rattle.wol_disk.specs.Memory.{mem_state}
use Rattle.wol_disk.specs.Stop.{stop_state}
use Rattle.wol_bay.specs.Parts.{AreBlank}
use Rattle.wol_bay.specs.MemBay.{mem_bay_state, plans_of, bay_fuse, AreArmed}
use Rattle.wol_bay.proofs.memory.MemBay.blank_parts.Given as goal

abbrev pub invariant-loop-place : goal.invariant-loop-place
invariant-loop-place l = record {
  blank : AreBlank (λ s. stop_state mem_state s) (mem_bay_state l.self).told (take l.place l.sizes) l.parts.items;
  armed : AreArmed l.name 0 (plans_of l.self) (bay_fuse l.self) l.parts.items;
  count : length l.parts.items ≡ l.place;
}
