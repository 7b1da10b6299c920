-- What is taken from a source: the client's flags, and its options.
use Rattle.std.specs.Prelude.{◌≡◌, ◌≤◌, ◌<◌, ◌⊎◌, ◌++◌, ℕ, Bool, nat_lt, List, [], length, take, Option, Result, Ok, Err}
use Rattle.std.specs.Io.KnownBytes.{Consumes, IsAtEnd}
use Rattle.byteorder.specs.Endian.{big_number}
use Rattle.nbd_session.specs.declared.ending.Unagreed.{Unagreed}
use Rattle.nbd_session.specs.declared.ending.Unagreed.TheVariants as unagreed
use Rattle.nbd_session.specs.declared.option_intake.Next.{Next}
use Rattle.nbd_session.specs.declared.option_intake.Next.TheVariants as next
use Rattle.nbd_session.specs.Options.{HasMagic, IsHead, IsOption}

-- ---- Flags

-- four bytes of flags, none of which is one that isn't known
pub record AreFlags (bs : List ℕ) : Type 0 where
  pub size : length bs ≡ 4
  pub known : big_number 4 bs ≤ 3

-- a client with these flags wants zeroes behind an export
abbrev pub wants_zeroes : List ℕ → Bool
wants_zeroes bs = nat_lt (big_number 4 bs) 2

-- bytes in place of known flags, which end the handshake so
abbrev pub EndsFlags : Unagreed → (last : List ℕ) → (left : Option (List ℕ)) → Type 0
EndsFlags unagreed.End last left = (last ≡ []) × IsAtEnd left
EndsFlags unagreed.Cut last left = (1 ≤ length last) × (length last < 4) × IsAtEnd left
EndsFlags unagreed.BadFlags last left = (length last ≡ 4) × (3 < big_number 4 last)
EndsFlags why last left = ⊥

-- the flags were taken, and tell whether zeroes are wanted; or others, or none
abbrev pub TakesFlags : {E : Type 0} → (left left' : Option (List ℕ))
    → Result (Result Bool Unagreed) E → Type 0
TakesFlags left left' (Ok (Ok zeroes)) =
    (flags : List ℕ) × Consumes left left' flags × AreFlags flags × (zeroes ≡ wants_zeroes flags)
TakesFlags left left' (Ok (Err why)) =
    (last : List ℕ) × Consumes left left' last × EndsFlags why last left'
TakesFlags left left' (Err e) = (last : List ℕ) × Consumes left left' last × (length last < 4)

-- ---- Options

-- the head of an option, and a part of the data that follow it
pub record IsCutData (bs : List ℕ) : Type 0 where
  pub head : List ℕ
  pub number : ℕ
  pub len : ℕ
  pub header : IsHead head number len
  pub few : len ≤ 4096
  pub part : List ℕ
  pub short : length part < len
  pub is : bs ≡ head ++ part

-- bytes that begin an option, and end within it
abbrev pub IsCut : List ℕ → Type 0
IsCut bs = ((1 ≤ length bs) × (length bs < 16)) ⊎ IsCutData bs

-- bytes of an option that isn't whole
abbrev pub IsUnfinished : List ℕ → Type 0
IsUnfinished bs = (length bs < 16) ⊎ IsCutData bs

-- bytes in place of an option, which end the handshake so
abbrev pub EndsOptions : Unagreed → (last : List ℕ) → (left : Option (List ℕ)) → Type 0
EndsOptions unagreed.End last left = (last ≡ []) × IsAtEnd left
EndsOptions unagreed.Cut last left = IsCut last × IsAtEnd left
EndsOptions unagreed.BadMagic last left = (length last ≡ 16) × (HasMagic last → ⊥)
EndsOptions unagreed.TooLong last left = (number len : ℕ) × IsHead last number len × (4096 < len)
EndsOptions why last left = ⊥

-- an option was taken, whose data stand in front in a room; or something else, or nothing
abbrev pub TakesOption : {E : Type 0} → (left left' : Option (List ℕ)) → (room : List ℕ)
    → Result Next E → Type 0
TakesOption left left' room (Ok (next.Asked number len)) =
    (len ≤ 4096) × (bytes : List ℕ)
    × IsOption (record { number = number; given = take len room }) bytes × Consumes left left' bytes
TakesOption left left' room (Ok (next.Ended why)) =
    (last : List ℕ) × Consumes left left' last × EndsOptions why last left'
TakesOption left left' room (Err e) = (last : List ℕ) × Consumes left left' last × IsUnfinished last

-- behind a head, the data of its option were taken into the front of a room; or they are too many,
-- or the source ended or failed within them
abbrev pub TakesGiven : {E : Type 0} → (head : List ℕ) → (left left' : Option (List ℕ))
    → (room : List ℕ) → Result Next E → Type 0
TakesGiven head left left' room (Ok (next.Asked number len)) =
    IsHead head number len × (len ≤ 4096) × Consumes left left' (take len room)
TakesGiven head left left' room (Ok (next.Ended why)) =
    (part : List ℕ) × Consumes left left' part × EndsOptions why (head ++ part) left'
TakesGiven head left left' room (Err e) =
    (part : List ℕ) × Consumes left left' part × IsCutData (head ++ part)
