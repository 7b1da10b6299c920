-- The errors of replies.
use Rattle.std.specs.Prelude.{◌==◌, ◌%◌, ◌*◌, ◌+◌, ◌||◌, Bool, not, nat_lt, if◌then◌else◌, ℕ, Option, None, Some}
use Rattle.nbd_session.specs.declared.error.NbdError.{NbdError}
use Rattle.nbd_session.specs.declared.error.NbdError.TheVariants.{Io, NoMemory, Invalid, NoSpace}
use Rattle.nbd_session.specs.declared.header.Command.{Command}
use Rattle.nbd_session.specs.declared.header.Command.TheVariants.{Read, Write, Disc, Flush, Unknown}
use Rattle.nbd_session.specs.declared.header.Header.{Header}
use Rattle.nbd_session.specs.declared.volume.Refusal.{Refusal}
use Rattle.nbd_session.specs.declared.volume.Refusal.TheVariants as refused

-- the number of an error
abbrev pub code_of : NbdError → ℕ
code_of Io = 5
code_of NoMemory = 12
code_of Invalid = 22
code_of NoSpace = 28

-- the error where a volume refused
abbrev pub error_of : Refusal → NbdError
error_of refused.Down = Io
error_of refused.VersionsSpent = NoSpace
error_of refused.NoMemory = NoMemory
error_of refused.Broke = Io

-- the range isn't one of whole blocks, or is longer than 32 MiB
abbrev pub is_uneven : Header → Bool
is_uneven h = not (h.offset % 512 == 0) || not (h.length % 512 == 0) || nat_lt 33554432 h.length

-- the range passes the end of a volume of so many blocks
abbrev pub passes_end : (home : ℕ) → Header → Bool
passes_end home h = nat_lt (512 * home) (h.offset + h.length)

-- the error of a range
abbrev pub range_error : Command → (home : ℕ) → Header → Option NbdError
range_error Read home h = if is_uneven h || passes_end home h then Some Invalid else None
range_error Write home h =
    if is_uneven h then Some Invalid else if passes_end home h then Some NoSpace else None
range_error Disc home h = None
range_error Flush home h = None
range_error Unknown home h = Some Invalid

-- the error that a request has whatever a volume of so many blocks holds, where it has one: its
-- flags are tried first
abbrev pub known_error : (home : ℕ) → Header → Option NbdError
known_error home h = if nat_lt 1 h.flags then Some Invalid else range_error h.command home h
