use Rattle.std.proofs.Common.{◌≡◌, take, length, Some}
use Rattle.std.specs.Prelude.{sum}
use Rattle.wol_disk.specs.Memory.{mem_state}
use Rattle.wol_disk.specs.Stop.{stop_state}
use Rattle.wol_disk.specs.BlockValues.{all_values}
use Rattle.wol_bay.specs.Parts.{AreCut}
use Rattle.wol_bay.specs.MemBay.{plans_of, bay_fuse, AreArmed}
use Rattle.wol_bay.proofs.memory.MemBay.cut_parts.Given as goal

abbrev pub invariant-loop-place : goal.invariant-loop-place
invariant-loop-place l = record {
  cut : AreCut (λ s. stop_state mem_state s) (Some (all_values l.values)) (take l.place l.sizes) l.parts.items;
  armed : AreArmed l.name 0 (plans_of l.self) (bay_fuse l.self) l.parts.items;
  count : length l.parts.items ≡ l.place;
  first : l.first ≡ sum (take l.place l.sizes);
}
