-- A disk that counts its syncs, as callers see it.
use Rattle.wol_disk.specs.Disk.{State}
use Rattle.wol_disk.specs.Memory.{mem_state}
use Rattle.volume_tests.specs.declared.counting.CountingDisk.{CountingDisk}

-- that of the disk which it counts for
abbrev pub counting_state : CountingDisk → State
counting_state d = mem_state d.inner
