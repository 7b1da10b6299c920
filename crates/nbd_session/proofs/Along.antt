-- A session at a volume, seen as one at another: where each turn is one there.
use Rattle.std.proofs.Common.{◌+◌, ℕ, List, Option, Result, Ok, Err}
use Rattle.wol_disk.specs.Disk.{Block}
use Rattle.nbd_session.specs.declared.header.Header.{Header}
use Rattle.nbd_session.specs.declared.session.Ended.{Ended}
use Rattle.nbd_session.specs.declared.session.NbdFault.{NbdFault}
use Rattle.nbd_session.specs.declared.session.NbdFault.TheVariants as fault
use Rattle.nbd_session.specs.declared.volume.Refusal.{Refusal}
use Rattle.nbd_session.specs.Answers.{Answer, Serves}
use Rattle.nbd_session.specs.Ranges.{HasTransferred, HasNotRead, HasNotWritten}
use Rattle.nbd_session.specs.Sessions.{AreOut, HasServed, IsAnswered, IsCutReply, IsSession}
use Rattle.nbd_session.specs.Turns.{Turn, Read, Wrote, look_turn}

-- `Fits` is what holds of a volume by which its turns are turns of the other: it is known at the end, and so before each turn
module _ {V W : Type 0} (turned : Turn → V → V → Type 0) (seen : Turn → W → W → Type 0) (as_seen : V → W) (Fits : V → Type 0) (step : (t : Turn) (v w : V) → Fits w → turned t v w → Fits v × seen t (as_seen v) (as_seen w)) (home most : ℕ) where
  transferred_along : (turn_of : ℕ → List Block → Turn) (at count : ℕ) (v : V) (done : ℕ) (got : List ℕ) (w : V) → HasTransferred turned turn_of most at count v done got w → Fits w → Fits v × HasTransferred seen turn_of most at count (as_seen v) done got (as_seen w)
  transferred_along turn_of at count v done got w HasTransferred.none fits = (fits, HasTransferred.none)
  transferred_along turn_of at count v done got w (HasTransferred.next now had m n blocks before more size whole last) fits =
      let s = step (turn_of (at + now) blocks) m n fits last in
      let b = transferred_along turn_of at count v now had m before s.0 in
      (b.0, HasTransferred.next now had (as_seen m) (as_seen n) blocks b.1 more size whole s.1)

  not_read_along : (at count : ℕ) (v w : V) (refusal : Refusal) → HasNotRead turned most at count v w refusal → Fits w → Fits v × HasNotRead seen most at count (as_seen v) (as_seen w) refusal
  not_read_along at count v w refusal r fits =
      let s = step _ r.m w fits r.last in
      let b = transferred_along Read at count v r.done r.got r.m r.before s.0 in
      (b.0, record { done = r.done; got = r.got; m = as_seen r.m; before = b.1; more = r.more; last = s.1 })

  not_written_along : (at count : ℕ) (given : List ℕ) (v w : V) (refusal : Refusal) → HasNotWritten turned most at count given v w refusal → Fits w → Fits v × HasNotWritten seen most at count given (as_seen v) (as_seen w) refusal
  not_written_along at count given v w refusal r fits =
      let s = step _ r.m w fits r.last in
      let b = transferred_along Wrote at count v r.done r.got r.m r.before s.0 in
      (b.0, record { done = r.done; got = r.got; m = as_seen r.m; before = b.1; more = r.more; blocks = r.blocks; size = r.size; whole = r.whole; last = s.1; rest = r.rest; is = r.is })

  serves_along : (h : Header) (given : List ℕ) (v : V) (answer : Answer) (w : V) → Serves turned home most h given v answer w → Fits w → Fits v × Serves seen home most h given (as_seen v) answer (as_seen w)
  serves_along h given v answer w (Serves.refused e known) fits = (fits, Serves.refused e known)
  serves_along h given v answer w (Serves.looked n done known nothing last) fits =
      let s = step (look_turn done) v n fits last in
      (s.0, Serves.looked (as_seen n) done known nothing s.1)
  serves_along h given v answer w (Serves.has_read n got known is some read) fits =
      let r = transferred_along Read _ _ v _ got n read fits in
      (r.0, Serves.has_read (as_seen n) got known is some r.1)
  serves_along h given v answer w (Serves.not_read n refusal known is read) fits =
      let r = not_read_along _ _ v n refusal read fits in
      (r.0, Serves.not_read (as_seen n) refusal known is r.1)
  serves_along h given v answer w (Serves.has_written n known is some written) fits =
      let r = transferred_along Wrote _ _ v _ given n written fits in
      (r.0, Serves.has_written (as_seen n) known is some r.1)
  serves_along h given v answer w (Serves.not_written n refusal known is written) fits =
      let r = not_written_along _ _ given v n refusal written fits in
      (r.0, Serves.not_written (as_seen n) refusal known is r.1)

  served_along : (v : V) (requests : ℕ) (taken replies : List ℕ) (w : V) → HasServed turned home most v requests taken replies w → Fits w → Fits v × HasServed seen home most (as_seen v) requests taken replies (as_seen w)
  served_along v requests taken replies w HasServed.none fits = (fits, HasServed.none)
  served_along v requests taken replies w (HasServed.next n had out m k h given bytes answer before request stays serves) fits =
      let s = serves_along h given m answer k serves fits in
      let b = served_along v n had out m before s.0 in
      (b.0, HasServed.next n had out (as_seen m) (as_seen k) h given bytes answer b.1 request stays s.1)

  answered_along : (v w : V) (bytes reply : List ℕ) → IsAnswered turned home most v w bytes reply → Fits w → Fits v × IsAnswered seen home most (as_seen v) (as_seen w) bytes reply
  answered_along v w bytes reply a fits =
      let s = serves_along a.h a.given v a.answer w a.serves fits in
      (s.0, record { h = a.h; given = a.given; answer = a.answer; request = a.request; stays = a.stays; serves = s.1; is = a.is })

  cut_along : (v w : V) (bytes : List ℕ) (taken taken' : Option (List ℕ)) → IsCutReply turned home most v w bytes taken taken' → Fits w → IsCutReply seen home most (as_seen v) (as_seen w) bytes taken taken'
  cut_along v w bytes taken taken' c fits =
      let s = answered_along c.m w c.more c.reply c.last fits in
      let b = served_along v c.n c.before c.replies c.m c.served s.0 in
      record { n = c.n; before = c.before; replies = c.replies; m = as_seen c.m; served = b.1; more = c.more; reply = c.reply; last = s.1; is = c.is; front = c.front; rest = c.rest; cut = c.cut; out = c.out }

  out_along : {T : Type 0} (v w : V) (bytes replies : List ℕ) (taken taken' : Option (List ℕ)) (result : Result T NbdFault) → AreOut turned home most v w bytes replies taken taken' result → Fits w → AreOut seen home most (as_seen v) (as_seen w) bytes replies taken taken' result
  out_along v w bytes replies taken taken' (Ok x) out fits = out
  out_along v w bytes replies taken taken' (Err fault.Source) out fits = out
  out_along v w bytes replies taken taken' (Err fault.Sink) out fits = cut_along v w bytes taken taken' out fits
  out_along v w bytes replies taken taken' (Err fault.NoMemory) out fits = out

  pub session_along : (v w : V) (left left' taken taken' : Option (List ℕ)) (result : Result Ended NbdFault) → IsSession turned home most v w left left' taken taken' result → Fits w
      → Fits v × IsSession seen home most (as_seen v) (as_seen w) left left' taken taken' result
  session_along v w left left' taken taken' result s fits =
      let b = served_along v s.requests s.bytes s.replies w s.served fits in
      (b.0, record { requests = s.requests; bytes = s.bytes; replies = s.replies; served = b.1; last = s.last; took = s.took; ends = s.ends; out = out_along v w s.bytes s.replies taken taken' result s.out fits })

-- what each turn keeps, the session keeps
pub session_keeps : {V : Type 0} (turned : Turn → V → V → Type 0) (home most : ℕ) (Keeps : V → V → Type 0) → ((v : V) → Keeps v v) → ((v m w : V) → Keeps v m → Keeps m w → Keeps v w) → ((t : Turn) (v w : V) → turned t v w → Keeps v w)
    → (v w : V) (left left' taken taken' : Option (List ℕ)) (result : Result Ended NbdFault) → IsSession turned home most v w left left' taken taken' result → Keeps v w
session_keeps {V} turned home most Keeps same both each v w left left' taken taken' result s =
    (session_along turned turned (λ (x : V). x) (λ (x : V). Keeps x w) (λ t a b kept turn. (both a b w (each t a b turn) kept, turn)) home most v w left left' taken taken' result s (same w)).0
