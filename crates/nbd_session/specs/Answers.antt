-- What becomes of one request.
use Rattle.std.specs.Prelude.{◌≡◌, ◌≢◌, ◌⊎◌, ◌+◌, ◌*◌, ◌/◌, ◌≤◌, ◌++◌, ℕ, List, [], take, None, Some, Result, Ok, Err}
use Rattle.nbd_session.specs.declared.error.NbdError.{NbdError}
use Rattle.nbd_session.specs.declared.header.Command.TheVariants as command
use Rattle.nbd_session.specs.declared.header.Header.{Header}
use Rattle.nbd_session.specs.declared.volume.Refusal.{Refusal}
use Rattle.nbd_session.specs.Errors.{code_of, error_of, known_error}
use Rattle.nbd_session.specs.Headers.{reply_head}
use Rattle.nbd_session.specs.Ranges.{HasRead, HasWritten, HasNotRead, HasNotWritten}
use Rattle.nbd_session.specs.Turns.{Turn, Looked, NotLooked, look_turn}

-- what is answered: the data of the reply, or the error
abbrev pub Answer : Type 0
Answer = Result (List ℕ) NbdError

-- the reply to the request with this cookie
abbrev pub reply_of : (cookie : ℕ) → Answer → List ℕ
reply_of cookie (Ok got) = reply_head 0 cookie ++ got
reply_of cookie (Err e) = reply_head (code_of e) cookie

-- what is answered where that many bytes of a room are the data
abbrev pub answer_in : (room : List ℕ) → Result ℕ NbdError → Answer
answer_in room (Ok n) = Ok (take n room)
answer_in room (Err e) = Err e

-- the answer where nothing is asked but whether the volume is up
abbrev pub look_answer : {T : Type 0} → Result T Refusal → Answer
look_answer (Ok done) = Ok []
look_answer (Err refusal) = Err (error_of refusal)

-- where a range begins, and how many blocks it has
abbrev pub first_of : Header → ℕ
first_of h = h.offset / 512

abbrev pub count_of : Header → ℕ
count_of h = h.length / 512

-- a range of whole blocks, at most 32 MiB, which lies in a volume of so many blocks
pub record IsInside (home : ℕ) (h : Header) : Type 0 where
  pub whole : 512 * count_of h ≡ h.length
  pub few : h.length ≤ 33554432
  pub fits : first_of h + count_of h ≤ home

-- What is answered to a request with these data, at a volume of so many blocks that takes so many
-- in one turn. It is refused before the volume is asked; or there is nothing to do but to look
-- whether the volume is up; or its range is read or written, piece by piece, as far as no piece is
-- refused.
pub data Serves {V : Type 0} (turned : Turn → V → V → Type 0) (home most : ℕ) (h : Header)
    (given : List ℕ) (v : V) : Answer → V → Type 0 where
  refused : (e : NbdError) → known_error home h ≡ Some e
      → Serves turned home most h given v (Err e) v
  looked : (w : V) (answer : Result (Unit {0}) Refusal) → known_error home h ≡ None
      → (h.command ≡ command.Flush) ⊎ (h.length ≡ 0) → turned (look_turn answer) v w
      → Serves turned home most h given v (look_answer answer) w
  has_read : (w : V) (got : List ℕ) → known_error home h ≡ None → h.command ≡ command.Read
      → h.length ≢ 0 → HasRead turned most (first_of h) (count_of h) v (count_of h) got w
      → Serves turned home most h given v (Ok got) w
  not_read : (w : V) (refusal : Refusal) → known_error home h ≡ None → h.command ≡ command.Read
      → HasNotRead turned most (first_of h) (count_of h) v w refusal
      → Serves turned home most h given v (Err (error_of refusal)) w
  has_written : (w : V) → known_error home h ≡ None → h.command ≡ command.Write → h.length ≢ 0
      → HasWritten turned most (first_of h) (count_of h) v (count_of h) given w
      → Serves turned home most h given v (Ok []) w
  not_written : (w : V) (refusal : Refusal) → known_error home h ≡ None → h.command ≡ command.Write
      → HasNotWritten turned most (first_of h) (count_of h) given v w refusal
      → Serves turned home most h given v (Err (error_of refusal)) w

-- ---- Steps

-- a look, as the answer with no data
abbrev pub LooksSo : {V : Type 0} → (turned : Turn → V → V → Type 0) → (v w : V) → Result ℕ NbdError
    → Type 0
LooksSo turned v w (Ok n) = (n ≡ 0) × turned Looked v w
LooksSo turned v w (Err e) = (r : Refusal) × (e ≡ error_of r) × turned (NotLooked r) v w

-- a range was read, and stands in front in a room
abbrev pub ReadsSo : {V : Type 0} → (turned : Turn → V → V → Type 0) → (most : ℕ) → Header
    → (room : List ℕ) → (v w : V) → Result ℕ NbdError → Type 0
ReadsSo turned most h room v w (Ok n) =
    (n ≡ h.length) × HasRead turned most (first_of h) (count_of h) v (count_of h) (take n room) w
ReadsSo turned most h room v w (Err e) =
    (r : Refusal) × (e ≡ error_of r) × HasNotRead turned most (first_of h) (count_of h) v w r

-- a range was written
abbrev pub WritesSo : {V : Type 0} → (turned : Turn → V → V → Type 0) → (most : ℕ) → Header
    → (given : List ℕ) → (v w : V) → Result ℕ NbdError → Type 0
WritesSo turned most h given v w (Ok n) =
    (n ≡ 0) × HasWritten turned most (first_of h) (count_of h) v (count_of h) given w
WritesSo turned most h given v w (Err e) =
    (r : Refusal) × (e ≡ error_of r)
    × HasNotWritten turned most (first_of h) (count_of h) given v w r
