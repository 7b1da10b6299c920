-- A disk that stops, as callers see it.
use Rattle.std.specs.Prelude.{ℕ, Option}
use Rattle.std.specs.declared.alloc.Global.{Global}
use Rattle.std.specs.declared.sync.Arc.{Arc}
use Rattle.wol_disk.specs.Disk.{State, IsDisk}
use Rattle.wol_disk.specs.declared.stop.Fuse.{Fuse}
use Rattle.wol_disk.specs.declared.stop.StopDisk.{StopDisk}

-- how many calls a fuse passes
abbrev pub length_of : Fuse → ℕ
length_of f = f.calls

-- a disk with a count of its own
abbrev pub counted : State → ℕ → State
counted d faults = record d { faults = faults }

abbrev pub inner_of : {D : Type 0} → StopDisk D → D
inner_of s = s.inner

abbrev pub fuse_of : {D : Type 0} → StopDisk D → Option (Arc Fuse Global)
fuse_of s = s.fuse

-- the inner disk's blocks, clock and images, with the count of its own
abbrev pub stop_state : {D : Type 0} → (D → State) → StopDisk D → State
stop_state state s = counted (state (inner_of s)) s.faults

pub counted_sound : (d : State) (faults : ℕ) → IsDisk d → IsDisk (counted d faults)
counted_sound d faults s = record {
  small = s.small;
  each_block = s.each_block;
  counts_now = s.counts_now;
  only_now = s.only_now;
}
