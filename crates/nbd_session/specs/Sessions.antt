-- A session: requests one after another, and how it ends.
use Rattle.std.specs.Prelude.{◌≡◌, ◌≢◌, ◌⊎◌, ◌+◌, ◌++◌, ◌<◌, ◌≤◌, ◌^◌, ◌-◌, ℕ, List, [], length, min, Option, None, Some, Result, Ok, Err}
use Rattle.std.specs.Io.KnownBytes.{Appends, Consumes, IsAtEnd, Keeps}
use Rattle.wol_disk.specs.Disk.{Rose}
use Rattle.wol_io.specs.Streams.{AppendsFront}
use Rattle.nbd_session.specs.declared.error.NbdError.{NbdError}
use Rattle.nbd_session.specs.declared.header.Command.TheVariants as command
use Rattle.nbd_session.specs.declared.header.Header.{Header}
use Rattle.nbd_session.specs.declared.session.Ended.{Ended}
use Rattle.nbd_session.specs.declared.session.Ended.TheVariants as ended
use Rattle.nbd_session.specs.declared.session.NbdFault.{NbdFault}
use Rattle.nbd_session.specs.declared.session.NbdFault.TheVariants as fault
use Rattle.nbd_session.specs.Answers.{Answer, Serves, answer_in, reply_of}
use Rattle.nbd_session.specs.Headers.{HasMagic, IsHeader, IsRequest, payload_of}
use Rattle.nbd_session.specs.Intake.{IsCutHeader}
use Rattle.nbd_session.specs.Turns.{Turn}

-- So many whole requests, none of them a DISC, stand in these bytes one after another; these are
-- their replies, one after another, and this is what the volume has become.
pub data HasServed {V : Type 0} (turned : Turn → V → V → Type 0) (home most : ℕ) (v : V) :
    (requests : ℕ) → (taken replies : List ℕ) → V → Type 0 where
  none : HasServed turned home most v 0 [] [] v
  next : (n : ℕ) (taken replies : List ℕ) (m w : V) (h : Header) (given bytes : List ℕ)
      (answer : Answer) → HasServed turned home most v n taken replies m → IsRequest h given bytes
      → h.command ≢ command.Disc → Serves turned home most h given m answer w
      → HasServed turned home most v (n + 1) (taken ++ bytes) (replies ++ reply_of h.cookie answer)
      w

-- a request stands in these bytes, it was asked of the volume, and this is its reply
pub record IsAnswered {V : Type 0} (turned : Turn → V → V → Type 0) (home most : ℕ) (v w : V)
    (bytes reply : List ℕ) : Type 0 where
  pub h : Header
  pub given : List ℕ
  pub answer : Answer
  pub request : IsRequest h given bytes
  pub stays : h.command ≢ command.Disc
  pub serves : Serves turned home most h given v answer w
  pub is : reply ≡ reply_of h.cookie answer

-- a whole header, and a part of the data that follow it
pub record IsCutData (bs : List ℕ) : Type 0 where
  pub h : Header
  pub head : List ℕ
  pub header : IsHeader head h
  pub part : List ℕ
  pub short : length part < payload_of h.command h.length
  pub is : bs ≡ head ++ part

-- bytes that begin a request, and end within it
abbrev pub IsCut : List ℕ → Type 0
IsCut bs = IsCutHeader bs ⊎ IsCutData bs

-- bytes of a request that isn't whole
abbrev pub IsUnfinished : List ℕ → Type 0
IsUnfinished bs = (length bs < 28) ⊎ IsCutData bs

-- the bytes from this request on end the session so
abbrev pub EndsSo : (request : ℕ) → (last : List ℕ) → Ended → Type 0
EndsSo request last ended.Disc = (h : Header) × IsHeader last h × (h.command ≡ command.Disc)
EndsSo request last ended.End = last ≡ []
EndsSo request last (ended.BadMagic at) =
    (at ≡ request) × (4 ≤ length last) × (length last ≤ 28) × (HasMagic last → ⊥)
EndsSo request last (ended.Cut at) = (at ≡ request) × IsCut last

-- the session ends there only where the source has no more bytes
abbrev pub NeedsEnd : Ended → (left : Option (List ℕ)) → Type 0
NeedsEnd ended.Disc left = Unit {0}
NeedsEnd ended.End left = IsAtEnd left
NeedsEnd (ended.BadMagic at) left = Unit {0}
NeedsEnd (ended.Cut at) left = IsAtEnd left

-- what is left of a session that goes no further, and how its source and its sink are left: after
-- whole requests, an end or a fault
abbrev pub EndsWith : (request : ℕ) → (last : List ℕ) → (left : Option (List ℕ))
    → Result Ended NbdFault → Type 0
EndsWith request last left (Ok e) = EndsSo request last e × NeedsEnd e left
EndsWith request last left (Err fault.Source) = IsUnfinished last
EndsWith request last left (Err fault.Sink) = last ≡ []
EndsWith request last left (Err fault.NoMemory) = (request ≡ 1) × (last ≡ [])

-- the sink failed within the reply to the last of these requests, and the replies before it are out
pub record IsCutReply {V : Type 0} (turned : Turn → V → V → Type 0) (home most : ℕ) (v w : V)
    (bytes : List ℕ) (taken taken' : Option (List ℕ)) : Type 0 where
  pub n : ℕ
  pub before : List ℕ
  pub replies : List ℕ
  pub m : V
  pub served : HasServed turned home most v n before replies m
  pub more : List ℕ
  pub reply : List ℕ
  pub last : IsAnswered turned home most m w more reply
  pub is : bytes ≡ before ++ more
  pub front : List ℕ
  pub rest : List ℕ
  pub cut : reply ≡ front ++ rest
  pub out : Appends taken taken' (replies ++ front)

-- the replies are out; where the sink failed, all but the last, of which a front is
abbrev pub AreOut : {V T : Type 0} → (turned : Turn → V → V → Type 0) → (home most : ℕ) → (v w : V)
    → (bytes replies : List ℕ) → (taken taken' : Option (List ℕ)) → Result T NbdFault → Type 0
AreOut turned home most v w bytes replies taken taken' (Ok x) = Appends taken taken' replies
AreOut turned home most v w bytes replies taken taken' (Err fault.Source) =
    Appends taken taken' replies
AreOut turned home most v w bytes replies taken taken' (Err fault.Sink) =
    IsCutReply turned home most v w bytes taken taken'
AreOut turned home most v w bytes replies taken taken' (Err fault.NoMemory) =
    Appends taken taken' replies

-- the counts of faults of the source and of the sink, before and behind: a fault rises its own, and
-- nothing else does
abbrev pub CountsFaults : {T : Type 0} → (source source' sink sink' : ℕ) → Result T NbdFault
    → Type 0
CountsFaults source source' sink sink' (Ok x) = (source' ≡ source) × (sink' ≡ sink)
CountsFaults source source' sink sink' (Err fault.Source) = Rose source source' × (sink' ≡ sink)
CountsFaults source source' sink sink' (Err fault.Sink) = (source' ≡ source) × Rose sink sink'
CountsFaults source source' sink sink' (Err fault.NoMemory) = (source' ≡ source) × (sink' ≡ sink)

-- the number of the request behind so many, counted from 1; it stands still at its type's end
abbrev pub request_behind : ℕ → ℕ
request_behind n = min (n + 1) (2 ^ 64 - 1)

-- A session, whatever it ended by: the source gave whole requests and some last bytes, the volume
-- was asked for these requests in order, and the sink took their replies.
pub record IsSession {V : Type 0} (turned : Turn → V → V → Type 0) (home most : ℕ) (v w : V)
    (left left' taken taken' : Option (List ℕ)) (result : Result Ended NbdFault) : Type 0 where
  pub requests : ℕ
  pub bytes : List ℕ
  pub replies : List ℕ
  pub served : HasServed turned home most v requests bytes replies w
  pub last : List ℕ
  pub took : Consumes left left' (bytes ++ last)
  pub ends : EndsWith (request_behind requests) last left' result
  pub out : AreOut turned home most v w bytes replies taken taken' result

-- the bytes of one request were taken, which was answered by this reply
pub record ServesOne {V : Type 0} (turned : Turn → V → V → Type 0) (home most : ℕ) (v w : V)
    (left left' : Option (List ℕ)) (reply : List ℕ) : Type 0 where
  pub bytes : List ℕ
  pub took : Consumes left left' bytes
  pub one : IsAnswered turned home most v w bytes reply
  pub open one use *

-- what comes of the request with this number: it is served, or it ends the session; or a fault does
abbrev pub GoesOn : {V : Type 0} → (turned : Turn → V → V → Type 0) → (home most request : ℕ)
    → (v w : V) → (left left' taken taken' : Option (List ℕ)) → Result (Option Ended) NbdFault
    → Type 0
GoesOn turned home most request v w left left' taken taken' (Ok None) =
    (reply : List ℕ) × ServesOne turned home most v w left left' reply × Appends taken taken' reply
GoesOn turned home most request v w left left' taken taken' (Ok (Some e)) =
    (w ≡ v) × ((last : List ℕ) × Consumes left left' last × EndsSo request last e
    × NeedsEnd e left') × Keeps taken taken'
GoesOn turned home most request v w left left' taken taken' (Err fault.Source) =
    (w ≡ v) × ((last : List ℕ) × Consumes left left' last × IsUnfinished last) × Keeps taken taken'
GoesOn turned home most request v w left left' taken taken' (Err fault.Sink) =
    (reply : List ℕ) × ServesOne turned home most v w left left' reply
    × AppendsFront taken taken' reply
GoesOn turned home most request v w left left' taken taken' (Err fault.NoMemory) = ⊥

-- the reply was sent to a request that was answered so, or a front of it where the sink failed; or
-- the source had ended within the data of the request, and that ends the session
abbrev pub RepliesSo : Header → Option (Result ℕ NbdError) → (room : List ℕ) → (request : ℕ)
    → (taken taken' : Option (List ℕ)) → Result (Option Ended) NbdFault → Type 0
RepliesSo h (Some answer) room request taken taken' (Ok None) =
    Appends taken taken' (reply_of h.cookie (answer_in room answer))
RepliesSo h (Some answer) room request taken taken' (Ok (Some e)) = ⊥
RepliesSo h (Some answer) room request taken taken' (Err f) =
    (f ≡ fault.Sink) × AppendsFront taken taken' (reply_of h.cookie (answer_in room answer))
RepliesSo h None room request taken taken' (Ok None) = ⊥
RepliesSo h None room request taken taken' (Ok (Some e)) =
    (e ≡ ended.Cut request) × Keeps taken taken'
RepliesSo h None room request taken taken' (Err f) = ⊥
