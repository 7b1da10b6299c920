-- What becomes of a request whose header was taken.
use Rattle.std.specs.Prelude.{◌≡◌, ◌<◌, ◌≤◌, ℕ, List, length, Option, None, Some, Result, Ok, Err, IfOk}
use Rattle.std.specs.Io.KnownBytes.{Consumes, IsAtEnd}
use Rattle.nbd_session.specs.declared.error.NbdError.{NbdError}
use Rattle.nbd_session.specs.declared.header.Header.{Header}
use Rattle.nbd_session.specs.Answers.{Serves, answer_in}
use Rattle.nbd_session.specs.Headers.{payload_of}
use Rattle.nbd_session.specs.Intake.{TakesFewer}
use Rattle.nbd_session.specs.Turns.{Turn}

-- its data were taken, and it was asked of the volume; the data of its reply stand in front in a
-- room
pub record AnswersWhole {V : Type 0} (turned : Turn → V → V → Type 0) (home most : ℕ) (h : Header)
    (v w : V) (left left' : Option (List ℕ)) (room : List ℕ) (answer : Result ℕ NbdError) :
    Type 0 where
  pub given : List ℕ
  pub took : Consumes left left' given
  pub size : length given ≡ payload_of h.command h.length
  pub serves : Serves turned home most h given v (answer_in room answer) w
  pub fits : IfOk answer (λ n. n ≤ length room)

-- the source ended within them, and nothing was asked
pub record EndsWithin {V : Type 0} (h : Header) (v w : V) (left left' : Option (List ℕ)) :
    Type 0 where
  pub part : List ℕ
  pub took : Consumes left left' part
  pub short : length part < payload_of h.command h.length
  pub end : IsAtEnd left'
  pub same : w ≡ v

-- one of these; or the source failed, and nothing was asked
abbrev pub AnswersTaken : {V E : Type 0} → (turned : Turn → V → V → Type 0) → (home most : ℕ)
    → Header → (v w : V) → (left left' : Option (List ℕ)) → (room : List ℕ)
    → Result (Option (Result ℕ NbdError)) E → Type 0
AnswersTaken turned home most h v w left left' room (Ok (Some answer)) =
    AnswersWhole turned home most h v w left left' room answer
AnswersTaken turned home most h v w left left' room (Ok None) = EndsWithin h v w left left'
AnswersTaken turned home most h v w left left' room (Err e) =
    TakesFewer left left' (payload_of h.command h.length) × (w ≡ v)

-- the data of a request with this error were taken; or the source ended within them, or failed
abbrev pub RefusesSo : {E : Type 0} → (left left' : Option (List ℕ)) → Header → NbdError
    → Result (Option (Result ℕ NbdError)) E → Type 0
RefusesSo left left' h error (Ok (Some answer)) =
    (given : List ℕ) × Consumes left left' given × (length given ≡ payload_of h.command h.length)
    × (answer ≡ Err error)
RefusesSo left left' h error (Ok None) =
    (part : List ℕ) × Consumes left left' part × (length part < payload_of h.command h.length)
    × IsAtEnd left'
RefusesSo left left' h error (Err e) = TakesFewer left left' (payload_of h.command h.length)
