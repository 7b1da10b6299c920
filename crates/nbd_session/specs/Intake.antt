-- What is taken from a source: the header of a request, and its data.
use Rattle.std.specs.Prelude.{◌≡◌, ◌≢◌, ◌⊎◌, ◌≤◌, ◌<◌, ℕ, Bool, true, false, List, [], length, take, Option, Result, Ok, Err, MatchResult}
use Rattle.std.specs.Io.KnownBytes.{Consumes, IsAtEnd}
use Rattle.nbd_session.specs.declared.header.Command.TheVariants as command
use Rattle.nbd_session.specs.declared.header.Header.{Header}
use Rattle.nbd_session.specs.declared.intake.Next.{Next}
use Rattle.nbd_session.specs.declared.intake.Next.TheVariants as next
use Rattle.nbd_session.specs.Headers.{HasMagic, IsHeader}

-- a source gave some bytes, fewer than so many
abbrev pub TakesFewer : Option (List ℕ) → Option (List ℕ) → ℕ → Type 0
TakesFewer old new count = (part : List ℕ) × Consumes old new part × (length part < count)

-- the front of a room was filled, as far as the source had bytes; or a call of it failed
abbrev pub FillsRoom : {E : Type 0} → Option (List ℕ) → Option (List ℕ) → Result ℕ E → List ℕ
    → Type 0
FillsRoom old new result room = MatchResult result
    (λ n. (n ≤ length room) × Consumes old new (take n room) × (n < length room → IsAtEnd new))
    (λ _. TakesFewer old new (length room))

-- so many bytes were taken, or all that there were
abbrev pub TakesCount : Option (List ℕ) → Option (List ℕ) → (count : ℕ) → (whole : Bool) → Type 0
TakesCount old new count true = (part : List ℕ) × Consumes old new part × (length part ≡ count)
TakesCount old new count false =
    (part : List ℕ) × Consumes old new part × (length part < count) × IsAtEnd new

abbrev pub Skips : {E : Type 0} → Option (List ℕ) → Option (List ℕ) → Result Bool E → (count : ℕ)
    → Type 0
Skips old new result count =
    MatchResult result (λ whole. TakesCount old new count whole) (λ _. TakesFewer old new count)

-- the bytes that begin a header, and end within it
pub record IsCutHeader (bs : List ℕ) : Type 0 where
  pub some : 1 ≤ length bs
  pub short : length bs < 28
  pub magic : (length bs < 4) ⊎ HasMagic bs

-- what comes next, in these bytes
abbrev pub IsNext : List ℕ → Next → Type 0
IsNext bs (next.Request h) = IsHeader bs h × (h.command ≢ command.Disc)
IsNext bs next.Disc = (h : Header) × IsHeader bs h × (h.command ≡ command.Disc)
IsNext bs next.End = bs ≡ []
IsNext bs next.BadMagic = (4 ≤ length bs) × (length bs ≤ 28) × (HasMagic bs → ⊥)
IsNext bs next.Cut = IsCutHeader bs

-- what comes next was taken; a header is short only where the source has no more
pub record TakesHeader (old new : Option (List ℕ)) (n : Next) : Type 0 where
  pub bs : List ℕ
  pub taken : Consumes old new bs
  pub is : IsNext bs n
  pub end : length bs < 28 → IsAtEnd new

abbrev pub TakesNext : {E : Type 0} → Option (List ℕ) → Option (List ℕ) → Result Next E → Type 0
TakesNext old new result =
    MatchResult result (λ n. TakesHeader old new n) (λ _. TakesFewer old new 28)

-- the data of a request were taken into the front of a room; or the source ended within them
abbrev pub TakesData : {E : Type 0} → Option (List ℕ) → Option (List ℕ) → Result Bool E
    → (count : ℕ) → (room : List ℕ) → Type 0
TakesData old new (Ok true) count room = Consumes old new (take count room)
TakesData old new (Ok false) count room =
    (part : List ℕ) × Consumes old new part × (length part < count) × IsAtEnd new
TakesData old new (Err e) count room = TakesFewer old new count

-- a request that comes next doesn't ask to go away
abbrev pub IsComing : Next → Type 0
IsComing (next.Request h) = h.command ≢ command.Disc
IsComing next.Disc = Unit {0}
IsComing next.End = Unit {0}
IsComing next.BadMagic = Unit {0}
IsComing next.Cut = Unit {0}
