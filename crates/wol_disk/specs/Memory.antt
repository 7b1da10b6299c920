-- A disk in memory, as callers see it.
use Rattle.std.specs.Prelude.{◌+◌, List, refl}
use Rattle.wol_disk.specs.Disk.{Block, Values, State, only, IsDisk, TellsContent}
use Rattle.wol_disk.specs.Plan.{Plan}
use Rattle.wol_disk.specs.Record.{values_after, record_state}
use Rattle.wol_disk.specs.RecordSound.{record_sound, length-only}
use Rattle.std.proofs.Common.{arith}
use Rattle.wol_disk.specs.declared.memory.MemDisk.{MemDisk}

-- the values of its blocks
abbrev pub mem_values : MemDisk → List (Values Block)
mem_values m = values_after m.calls.items (only m.first.items)

-- its blocks since the last sync, the images that its record tells of, and its count of faults
abbrev pub mem_state : MemDisk → State
mem_state m = record_state (only m.first.items) m.calls.items (m.plan.planned + m.plan.short)

-- the calls that are to fail, and how its calls went
abbrev pub plan_of : MemDisk → Plan
plan_of m = m.plan

pub mem_sound : (m : MemDisk) → IsDisk (mem_state m)
mem_sound m = record_sound (only m.first.items) m.calls.items (m.plan.planned + m.plan.short)
    (omega (arith, length-only m.first.items, m.first.ok, m.first.small))

pub mem_told : (m : MemDisk) → TellsContent (mem_state m)
mem_told m = (mem_values m, refl)
