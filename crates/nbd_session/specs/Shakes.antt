-- A handshake: the greeting, the client's flags, options one after another, and how it ends.
use Rattle.std.specs.Prelude.{◌≡◌, ◌<◌, ◌⊎◌, ◌+◌, ◌++◌, ◌∷◌, ℕ, Bool, codes, List, [], length, Option, None, Some, Result, Ok, Err}
use Rattle.std.specs.Io.KnownBytes.{Appends, Consumes, Keeps}
use Rattle.wol_io.specs.Streams.{AppendsFront}
use Rattle.nbd_session.specs.declared.session.NbdFault.{NbdFault}
use Rattle.nbd_session.specs.declared.session.NbdFault.TheVariants as fault
use Rattle.nbd_session.specs.declared.ending.Shaken.{Shaken}
use Rattle.nbd_session.specs.declared.ending.Shaken.TheVariants.{Unagreed as NotAgreed}
use Rattle.nbd_session.specs.declared.ending.Unagreed.{Unagreed}
use Rattle.nbd_session.specs.declared.ending.Unagreed.TheVariants as unagreed
use Rattle.nbd_session.specs.Options.{Asked, IsOption, ends_at, replies_to}
use Rattle.nbd_session.specs.OptionTaking.{AreFlags, EndsFlags, EndsOptions, IsUnfinished, wants_zeroes}

-- what a server begins with: its two magics, and that it speaks fixed newstyle and needs to send no
-- zeroes
abbrev pub greeting : List ℕ
greeting = codes "NBDMAGICIHAVEOPT" ++ 0 ∷ 3 ∷ []

-- So many whole options, none of which ends the handshake, stand in these bytes one after another;
-- these are the replies.
pub data HasAnswered (name : List ℕ) (blocks : ℕ) (zeroes : Bool) : (options : ℕ)
    → (asked replies : List ℕ) → Type 0 where
  none : HasAnswered name blocks zeroes 0 [] []
  next : (n : ℕ) (asked replies bytes : List ℕ) (a : Asked)
      → HasAnswered name blocks zeroes n asked replies → IsOption a bytes → ends_at name a ≡ None
      → HasAnswered name blocks zeroes (n + 1) (asked ++ bytes)
      (replies ++ replies_to name blocks zeroes a)

-- The last bytes of the source end the handshake so, or a fault does, and these bytes are sent for
-- them: an option is the last, or there is none; the source or the sink failed, or there was no
-- memory for the replies.
pub data Ends (name : List ℕ) (blocks : ℕ) (zeroes : Bool) (left : Option (List ℕ)) :
    (last sent : List ℕ) → Result Shaken NbdFault → Type 0 where
  by_option : (a : Asked) (last : List ℕ) (end : Shaken) → IsOption a last
      → ends_at name a ≡ Some end
      → Ends name blocks zeroes left last (replies_to name blocks zeroes a) (Ok end)
  by_bytes : (why : Unagreed) (last : List ℕ) → EndsOptions why last left
      → Ends name blocks zeroes left last [] (Ok (NotAgreed why))
  by_source : (last : List ℕ) → IsUnfinished last
      → Ends name blocks zeroes left last [] (Err fault.Source)
  by_sink : (a : Asked) (last front rest : List ℕ) → IsOption a last
      → replies_to name blocks zeroes a ≡ front ++ rest
      → Ends name blocks zeroes left last front (Err fault.Sink)
  by_memory : (a : Asked) (last : List ℕ) → IsOption a last
      → Ends name blocks zeroes left last [] (Err fault.NoMemory)

-- .. or there were too many options
pub record AreTooMany (options : ℕ) (last sent : List ℕ) (result : Result Shaken NbdFault) :
    Type 0 where
  pub all : options ≡ 64
  pub last_ : last ≡ []
  pub sent_ : sent ≡ []
  pub is : result ≡ Ok (NotAgreed unagreed.TooMany)

-- options from the first on, whatever the handshake ended by: the source gave whole options and
-- some last bytes, and the sink took the replies to these options, and what was sent for the last
pub record AsksAlong (name : List ℕ) (blocks : ℕ) (zeroes : Bool)
    (left left' taken taken' : Option (List ℕ)) (result : Result Shaken NbdFault) : Type 0 where
  pub options : ℕ
  pub asked : List ℕ
  pub replies : List ℕ
  pub answered : HasAnswered name blocks zeroes options asked replies
  pub last : List ℕ
  pub sent : List ℕ
  pub took : Consumes left left' (asked ++ last)
  pub out : Appends taken taken' (replies ++ sent)
  pub ends : ((options < 64) × Ends name blocks zeroes left' last sent result)
      ⊎ AreTooMany options last sent result

-- A handshake on an export of this name and of so many blocks: the greeting is sent, the client's
-- flags are taken, and then its options.
pub data IsShake (name : List ℕ) (blocks : ℕ) (left left' taken taken' : Option (List ℕ)) :
    Result Shaken NbdFault → Type 0 where
  -- the sink failed within the greeting
  ungreeted : Keeps left left' → AppendsFront taken taken' greeting
      → IsShake name blocks left left' taken taken' (Err fault.Sink)
  -- the flags aren't known ones, or the source ended within them
  unflagged : (why : Unagreed) (last : List ℕ) → Consumes left left' last
      → Appends taken taken' greeting → EndsFlags why last left'
      → IsShake name blocks left left' taken taken' (Ok (NotAgreed why))
  -- the source failed within the flags
  unread : (last : List ℕ) → Consumes left left' last → Appends taken taken' greeting
      → length last < 4 → IsShake name blocks left left' taken taken' (Err fault.Source)
  flagged : (flags : List ℕ) (left'' taken'' : Option (List ℕ)) (result : Result Shaken NbdFault)
      → Appends taken taken'' greeting → Consumes left left'' flags → AreFlags flags
      → AsksAlong name blocks (wants_zeroes flags) left'' left' taken'' taken' result
      → IsShake name blocks left left' taken taken' result

-- ---- Steps

-- one option was taken, and its replies are out
pub record AnswersOne (name : List ℕ) (blocks : ℕ) (zeroes : Bool)
    (left left' taken taken' : Option (List ℕ)) : Type 0 where
  pub a : Asked
  pub bytes : List ℕ
  pub option_ : IsOption a bytes
  pub goes : ends_at name a ≡ None
  pub took : Consumes left left' bytes
  pub out : Appends taken taken' (replies_to name blocks zeroes a)

-- the handshake ended there
pub record EndsThere (name : List ℕ) (blocks : ℕ) (zeroes : Bool)
    (left left' taken taken' : Option (List ℕ)) (result : Result Shaken NbdFault) : Type 0 where
  pub last : List ℕ
  pub sent : List ℕ
  pub took : Consumes left left' last
  pub out : Appends taken taken' sent
  pub ends : Ends name blocks zeroes left' last sent result

-- what comes of the next option: it is answered, or the handshake ends
abbrev pub GoesOn : (name : List ℕ) → (blocks : ℕ) → (zeroes : Bool)
    → (left left' taken taken' : Option (List ℕ)) → Result (Option Shaken) NbdFault → Type 0
GoesOn name blocks zeroes left left' taken taken' (Ok None) =
    AnswersOne name blocks zeroes left left' taken taken'
GoesOn name blocks zeroes left left' taken taken' (Ok (Some end)) =
    EndsThere name blocks zeroes left left' taken taken' (Ok end)
GoesOn name blocks zeroes left left' taken taken' (Err f) =
    EndsThere name blocks zeroes left left' taken taken' (Err f)

-- an option that was taken is answered: its replies are out, and the handshake goes on or ends; or
-- the sink failed within them, or there was no memory for them
abbrev pub AnswersSo : (name : List ℕ) → (blocks : ℕ) → (zeroes : Bool) → Asked
    → (taken taken' : Option (List ℕ)) → Result (Option Shaken) NbdFault → Type 0
AnswersSo name blocks zeroes a taken taken' (Ok end) =
    (end ≡ ends_at name a) × Appends taken taken' (replies_to name blocks zeroes a)
AnswersSo name blocks zeroes a taken taken' (Err fault.Source) = ⊥
AnswersSo name blocks zeroes a taken taken' (Err fault.Sink) =
    AppendsFront taken taken' (replies_to name blocks zeroes a)
AnswersSo name blocks zeroes a taken taken' (Err fault.NoMemory) = Keeps taken taken'
