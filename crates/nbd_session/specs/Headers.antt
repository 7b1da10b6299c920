-- Requests and replies as bytes. All numbers are big-endian.
use Rattle.std.specs.Prelude.{◌≡◌, ◌==◌, ◌++◌, if◌then◌else◌, ℕ, List, drop, length}
use Rattle.byteorder.specs.Endian.{big_bytes, big_number}
use Rattle.nbd_session.specs.declared.header.Command.{Command}
use Rattle.nbd_session.specs.declared.header.Command.TheVariants.{Read, Write, Disc, Flush, Unknown}
use Rattle.nbd_session.specs.declared.header.Header.{Header}

-- what a number asks for
abbrev pub command_of : ℕ → Command
command_of n = if n == 0 then Read else if n == 1 then Write else if n == 2 then Disc else if n == 3
    then Flush else Unknown

-- the header in 28 bytes, behind the magic of a request
abbrev pub header_of : List ℕ → Header
header_of bs = record {
  flags = big_number 2 (drop 4 bs);
  command = command_of (big_number 2 (drop 6 bs));
  cookie = big_number 8 (drop 8 bs);
  offset = big_number 8 (drop 16 bs);
  length = big_number 4 (drop 24 bs);
}

-- they begin as a request does
abbrev pub HasMagic : List ℕ → Type 0
HasMagic bs = big_number 4 bs ≡ 0x25609513

-- 28 bytes that spell a header
pub record IsHeader (bs : List ℕ) (h : Header) : Type 0 where
  pub size : length bs ≡ 28
  pub magic : HasMagic bs
  pub is : h ≡ header_of bs

-- how many bytes follow a header of this command: as many as a write's length says
abbrev pub payload_of : Command → (len : ℕ) → ℕ
payload_of Read len = 0
payload_of Write len = len
payload_of Disc len = 0
payload_of Flush len = 0
payload_of Unknown len = 0

-- a whole request: a header, and the data of a write
pub record IsRequest (h : Header) (given bytes : List ℕ) : Type 0 where
  pub head : List ℕ
  pub header : IsHeader head h
  pub size : length given ≡ payload_of h.command h.length
  pub is : bytes ≡ head ++ given

-- what each reply begins with: its magic, its error, and the cookie of its request
abbrev pub reply_head : (error cookie : ℕ) → List ℕ
reply_head error cookie = big_bytes 4 0x67446698 ++ big_bytes 4 error ++ big_bytes 8 cookie
