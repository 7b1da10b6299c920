-- A part of a disk and a token, as callers see them.
use Rattle.std.specs.Prelude.{ℕ}
use Rattle.wol_disk.specs.Disk.{State}
use Rattle.spin_model.specs.declared.spun.Spun.{Spun}
use Rattle.spin_model.specs.declared.token.Awake.{Awake}

-- the volume of a part
abbrev pub volume_of : {D : Type 0} → Spun D → ℕ
volume_of part = part.volume

-- its disk
abbrev pub disk_of : {D : Type 0} → Spun D → D
disk_of part = part.inner

-- the state of its disk
abbrev pub state_of : {D : Type 0} → (D → State) → Spun D → State
state_of state part = state (disk_of part)

-- the volume whose spindle a token keeps awake
abbrev pub token_volume : Awake → ℕ
token_volume token = token.volume
