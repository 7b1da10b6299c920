-- What a fetch has of a record.
use Rattle.std.specs.Prelude.{ℕ, List, take, Option, None, Some}
use Rattle.wol_disk.specs.Disk.{Block}
use Rattle.reclaimer.specs.declared.room.Filled.{Filled}

-- a record that was read: its version and first block, which blocks of it were due (a mask: bit i
-- is block `first + i`), and all its blocks
pub record FetchedRecord : Type 0 where
  pub version : ℕ
  pub first : ℕ
  pub due : ℕ
  pub blocks : List Block

-- of blocks of which the first are the record's
abbrev pub record_of : Option Filled → List Block → Option FetchedRecord
record_of None blocks = None
record_of (Some f) blocks =
    Some (record { version = f.version; first = f.lbn; due = f.due; blocks = take f.count blocks })
