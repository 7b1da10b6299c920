-- The volume of a run.
use Rattle.std.specs.Prelude.{◌≤◌, ◌^◌}
use Rattle.wol_model.specs.Trace.{Target}
use Rattle.solo.specs.declared.volume.Volume.{Volume}

-- the volume as a trace may name it, without where its host's name lies in memory
abbrev pub target_of : Volume → Target
target_of volume = record { host = volume.host.now; disk = volume.disk; home = volume.blocks }

-- a volume has a block, and at most 2^32 of them
pub record IsVolume (target : Target) : Type 0 where
  pub some : 1 ≤ target.home
  pub small : target.home ≤ 2 ^ 32
