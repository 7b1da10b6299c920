-- Where the bytes of a host's name are, and what tells most names apart.
use Rattle.std.specs.Prelude.{⊤, ◌≤◌, ◌+◌, ◌-◌, ◌*◌, ℕ, List, length, slice_index, take}
use Rattle.msr_trace.specs.declared.host.Bytes.{Bytes}
use Rattle.msr_trace.specs.declared.host.Bytes.TheVariants as held

abbrev pub bytes_of : Bytes → List ℕ
bytes_of (held.Short len bytes) = take len bytes
bytes_of (held.Long bytes) = bytes.items

-- a short name says how many of its bytes are meant
abbrev pub IsHeld : Bytes → Type 0
IsHeld (held.Short len bytes) = len ≤ 23
IsHeld (held.Long bytes) = ⊤

-- the last two bytes; a lone byte counts twice
abbrev pub mark_of : List ℕ → ℕ
mark_of bytes = slice_index bytes (length bytes - 2) * 256 + slice_index bytes (length bytes - 1)
