-- What is known of each block: the newest record that keeps it, and how many keep it.
use Rattle.std.specs.Prelude.{◌+◌, ◌-◌, ◌==◌, nat_lt, ℕ, Bool, true, false, not, ◌&&◌, ◌||◌, Option, None, Some, if◌then◌else◌}
use Rattle.block_cells.specs.declared.record.Rec.{Rec}
use Rattle.block_cells.specs.declared.blocks.Cell.{Cell}
use Rattle.block_cells.specs.Masks.{in_mask}

-- the newest record is that of this version, and the only one if `alone`
abbrev pub is_held : ℕ → Bool → Option Cell → Bool
is_held version alone None = false
is_held version alone (Some c) = c.version == version && (not alone || c.keepers == 1)

abbrev pub keepers_of : Option Cell → ℕ
keepers_of None = 0
keepers_of (Some c) = c.keepers

-- the version of the newest record that keeps the block
abbrev pub version_in : Option Cell → Option ℕ
version_in None = None
version_in (Some c) = Some c.version

-- a record of this version, above all others, keeps the block too
abbrev pub one_covers : ℕ → Option Cell → Option Cell
one_covers v c = Some (record { version = v; keepers = keepers_of c + 1 })

-- the same of the blocks of a record
abbrev pub covering : Rec → ℕ → Option Cell → Option Cell
covering r b c = if in_mask r.lbn r.keep b then one_covers r.version c else c

-- one record less keeps the block, and not the newest of several
abbrev pub take_one : Option Cell → Option Cell
take_one None = None
take_one (Some c) = if nat_lt 1 c.keepers
    then Some (record { version = c.version; keepers = c.keepers - 1 }) else None

-- an older record keeps the block too
abbrev pub with_older : Bool → ℕ → Option Cell → Option Cell
with_older false v c = c
with_older true v None = Some (record { version = v; keepers = 1 })
with_older true v (Some c) = Some (record { version = c.version; keepers = c.keepers + 1 })
