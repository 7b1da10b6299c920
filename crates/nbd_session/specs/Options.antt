-- Options of a handshake as bytes, and the replies to each. All numbers are big-endian.
use Rattle.std.specs.Prelude.{◌≡◌, ◌==◌, ◌≤◌, ◌&&◌, ◌||◌, not, ◌++◌, ◌*◌, ◌+◌, nat_le, if◌then◌else◌, ℕ, Bool, List, [], drop, take, length, replicate, Option, None, Some}
use Rattle.std.specs.Str.{bytes_eq}
use Rattle.byteorder.specs.Endian.{big_bytes, big_number}
use Rattle.nbd_session.specs.declared.asked.Kind.{Kind}
use Rattle.nbd_session.specs.declared.asked.Kind.TheVariants as asked
use Rattle.nbd_session.specs.declared.ending.Shaken.{Shaken}
use Rattle.nbd_session.specs.declared.ending.Shaken.TheVariants.{Agreed, Unagreed as NotAgreed}
use Rattle.nbd_session.specs.declared.ending.Unagreed.TheVariants as unagreed
use Rattle.nbd_session.specs.declared.replies.ReplyKind.{ReplyKind}
use Rattle.nbd_session.specs.declared.replies.ReplyKind.TheVariants as reply_kind

-- ---- Options

-- an option: its number, and its data
pub record Asked : Type 0 where
  pub number : ℕ
  pub given : List ℕ

-- they begin as an option does: IHAVEOPT
abbrev pub HasMagic : List ℕ → Type 0
HasMagic bs = big_number 8 bs ≡ 0x49484156454f5054

-- 16 bytes that begin the option of this number, with so many bytes of data
pub record IsHead (bs : List ℕ) (number len : ℕ) : Type 0 where
  pub size : length bs ≡ 16
  pub magic : HasMagic bs
  pub number_ : number ≡ big_number 4 (drop 8 bs)
  pub length_ : len ≡ big_number 4 (drop 12 bs)

-- a whole option
pub record IsOption (a : Asked) (bytes : List ℕ) : Type 0 where
  pub head : List ℕ
  pub header : IsHead head a.number (length a.given)
  pub few : length a.given ≤ 4096
  pub is : bytes ≡ head ++ a.given

-- what the option of a number asks for
abbrev pub kind_of : ℕ → Kind
kind_of n = if n == 1 then asked.ExportName else if n == 2 then asked.Abort else if n == 3
    then asked.List else if n == 6 then asked.Info else if n == 7 then asked.Go else asked.Other

-- a name is that of the export, or none, which stands for it
abbrev pub is_offered : (name other : List ℕ) → Bool
is_offered name other = (length other == 0) || bytes_eq name other

-- the name in the data of INFO and GO
abbrev pub name_in : List ℕ → List ℕ
name_in given = take (big_number 4 given) (drop 4 given)

-- the data are a name with its length before it, and a list of facts of 2 bytes each with their
-- number before them
abbrev pub is_asking : List ℕ → Bool
is_asking given = nat_le 6 (length given) && nat_le (6 + big_number 4 given) (length given)
    && (length given == 6 + big_number 4 given
    + 2 * big_number 2 (drop (4 + big_number 4 given) given))

-- .. and the name is the export's
abbrev pub asks_for_export : (name given : List ℕ) → Bool
asks_for_export name given = is_asking given && is_offered name (name_in given)

-- ---- Replies

-- the number of a kind of reply
abbrev pub code_of : ReplyKind → ℕ
code_of reply_kind.Ack = 1
code_of reply_kind.Server = 2
code_of reply_kind.Info = 3
code_of reply_kind.Unsupported = 0x80000001
code_of reply_kind.Invalid = 0x80000003
code_of reply_kind.Unknown = 0x80000006

-- what each reply to an option begins with: its magic, the option's number, what kind of reply it
-- is, and how many bytes follow
abbrev pub reply_head : (number kind len : ℕ) → List ℕ
reply_head number kind len =
    big_bytes 8 0x3e889045565a9 ++ big_bytes 4 number ++ big_bytes 4 kind ++ big_bytes 4 len

abbrev pub reply : (number kind : ℕ) → (given : List ℕ) → List ℕ
reply number kind given = reply_head number kind (length given) ++ given

-- the size of the export in bytes, and what may be asked of it: it has flags, FLUSH, and writes
-- that are durable before their reply
abbrev pub export_bytes : (blocks : ℕ) → List ℕ
export_bytes blocks = big_bytes 8 (512 * blocks) ++ big_bytes 2 13

-- the same as a fact, and the least, the best and the greatest length of a request
abbrev pub told_bytes : (blocks : ℕ) → List ℕ
told_bytes blocks = big_bytes 2 0 ++ big_bytes 8 (512 * blocks) ++ big_bytes 2 13

abbrev pub size_bytes : List ℕ
size_bytes = big_bytes 2 3 ++ big_bytes 4 512 ++ big_bytes 4 4096 ++ big_bytes 4 33554432

-- a name with its length before it
abbrev pub name_bytes : (name : List ℕ) → List ℕ
name_bytes name = big_bytes 4 (length name) ++ name

-- the export itself, and 124 zeroes for a client that wants them
abbrev pub export_replies : (blocks : ℕ) → (zeroes : Bool) → List ℕ
export_replies blocks zeroes = export_bytes blocks ++ (if zeroes then replicate 124 0 else [])

-- what there is to know of the export
abbrev pub info_replies : (blocks number : ℕ) → List ℕ
info_replies blocks number =
    reply number 3 (told_bytes blocks) ++ reply number 3 size_bytes ++ reply number 1 []

-- .. where the data ask for it; else why not
abbrev pub info_or_not : (name : List ℕ) → (blocks number : ℕ) → (given : List ℕ) → List ℕ
info_or_not name blocks number given = if not (is_asking given) then reply number 0x80000003 []
    else if is_offered name (name_in given) then info_replies blocks number
    else reply number 0x80000006 []

-- the replies to an option, where the export has this name and so many blocks
abbrev pub replies_of : Kind → (name : List ℕ) → (blocks : ℕ) → (zeroes : Bool) → (number : ℕ)
    → (given : List ℕ) → List ℕ
replies_of asked.ExportName name blocks zeroes number given =
    if is_offered name given then export_replies blocks zeroes else []
replies_of asked.Abort name blocks zeroes number given = reply number 1 []
replies_of asked.List name blocks zeroes number given =
    if length given == 0 then reply number 2 (name_bytes name) ++ reply number 1 []
    else reply number 0x80000003 []
replies_of asked.Info name blocks zeroes number given = info_or_not name blocks number given
replies_of asked.Go name blocks zeroes number given = info_or_not name blocks number given
replies_of asked.Other name blocks zeroes number given = reply number 0x80000001 []

abbrev pub replies_to : (name : List ℕ) → (blocks : ℕ) → (zeroes : Bool) → Asked → List ℕ
replies_to name blocks zeroes a = replies_of (kind_of a.number) name blocks zeroes a.number a.given

-- ---- What an option ends

-- how a handshake ends at an option, where it does
abbrev pub end_of : Kind → (name given : List ℕ) → Option Shaken
end_of asked.ExportName name given =
    if is_offered name given then Some Agreed else Some (NotAgreed unagreed.Unoffered)
end_of asked.Abort name given = Some (NotAgreed unagreed.Aborted)
end_of asked.List name given = None
end_of asked.Info name given = None
end_of asked.Go name given = if asks_for_export name given then Some Agreed else None
end_of asked.Other name given = None

abbrev pub ends_at : (name : List ℕ) → Asked → Option Shaken
ends_at name a = end_of (kind_of a.number) name a.given
