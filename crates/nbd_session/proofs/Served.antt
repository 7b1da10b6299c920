-- Requests of a session, one after another.
use Rattle.std.proofs.Common.{◌≡◌, ◌≢◌, ◌+◌, ◌-◌, ◌^◌, ℕ, List, [], ◌++◌, length, min, Option, None, Some, Result, Ok, Err, refl, sym, ap, subst, arith, append-nil, inl, inr}
use Rattle.std.specs.Io.KnownBytes.{Appends, Consumes}
use Rattle.wol_io.proofs.Appending.{appends_both, appends_kept, appends_none, keeps_same}
use Rattle.wol_io.proofs.Consuming.{consumes_both, consumes_none}
use Rattle.nbd_session.specs.declared.error.NbdError.{NbdError}
use Rattle.nbd_session.specs.declared.header.Command.TheVariants as command
use Rattle.nbd_session.specs.declared.header.Header.{Header}
use Rattle.nbd_session.specs.declared.intake.Next.TheVariants as next
use Rattle.nbd_session.specs.declared.session.Ended.{Ended}
use Rattle.nbd_session.specs.declared.session.Ended.TheVariants as ended
use Rattle.nbd_session.specs.declared.session.NbdFault.{NbdFault}
use Rattle.nbd_session.specs.declared.session.NbdFault.TheVariants as fault
use Rattle.nbd_session.specs.Answers.{Serves, answer_in, reply_of}
use Rattle.nbd_session.specs.Errors.{known_error}
use Rattle.nbd_session.specs.Headers.{payload_of}
use Rattle.nbd_session.specs.Intake.{TakesFewer, TakesHeader}
use Rattle.nbd_session.specs.Sessions.{AreOut, CountsFaults, EndsWith, GoesOn, HasServed, IsSession, RepliesSo, ServesOne, request_behind}
use Rattle.nbd_session.specs.Taking.{AnswersTaken, AnswersWhole, RefusesSo}
use Rattle.nbd_session.specs.Turns.{Turn}

module _ {V : Type 0} (turned : Turn → V → V → Type 0) (home most : ℕ) (v : V) (left taken : Option (List ℕ)) where
  -- so many requests were served, and their replies are out
  pub record SoFar (n : ℕ) (m : V) (left' taken' : Option (List ℕ)) : Type 0 where
    pub bytes : List ℕ
    pub replies : List ℕ
    pub served : HasServed turned home most v n bytes replies m
    pub took : Consumes left left' bytes
    pub out : Appends taken taken' replies

  -- and these, whose number the counter has
  pub record Underway (request : ℕ) (m : V) (left' taken' : Option (List ℕ)) : Type 0 where
    pub requests : ℕ
    pub so : SoFar requests m left' taken'
    pub number : request ≡ min requests (2 ^ 64 - 1)

  pub begun : Underway 0 v left taken
  begun = record {
    requests = 0;
    so = record { bytes = []; replies = []; served = HasServed.none; took = consumes_none left left (keeps_same left); out = appends_none taken taken (keeps_same taken) };
    number = omega arith;
  }

  -- one more
  pub one_more : (n : ℕ) (m w : V) (left' left'' taken' : Option (List ℕ)) (reply : List ℕ) (so : SoFar n m left' taken') (one : ServesOne turned home most m w left' left'' reply) → HasServed turned home most v (n + 1) (so.bytes ++ one.bytes) (so.replies ++ reply) w
  one_more n m w left' left'' taken' reply so one = rw one.is (HasServed.next n so.bytes so.replies m w one.h one.given one.bytes one.answer so.served one.request one.stays one.serves)

  -- what one more request makes of it: it goes on, or it is the whole session
  abbrev pub Becomes : (next : ℕ) → V → (left' taken' : Option (List ℕ)) → Result (Option Ended) NbdFault → Type 0
  Becomes next w left' taken' (Ok None) = Underway next w left' taken'
  Becomes next w left' taken' (Ok (Some e)) = IsSession turned home most v w left left' taken taken' (Ok e)
  Becomes next w left' taken' (Err f) = IsSession turned home most v w left left' taken taken' (Err f)

  -- a session that goes no further behind these
  stops : (request : ℕ) (m w : V) (left' left'' taken' taken'' : Option (List ℕ)) (result : Result Ended NbdFault) (u : Underway request m left' taken') → w ≡ m → (last : List ℕ) → Consumes left' left'' last → EndsWith (request_behind u.requests) last left'' result
      → AreOut turned home most v w u.so.bytes u.so.replies taken taken'' result → IsSession turned home most v w left left'' taken taken'' result
  stops request m w left' left'' taken' taken'' result u same last took ends out = record {
    requests = u.requests;
    bytes = u.so.bytes;
    replies = u.so.replies;
    served = rw same u.so.served;
    last = last;
    took = consumes_both left left' left'' u.so.bytes last u.so.took took;
    ends = ends;
    out = out;
  }

  becomes : (request next : ℕ) (m w : V) (left' left'' taken' taken'' : Option (List ℕ)) (result : Result (Option Ended) NbdFault) → Underway request m left' taken' → next ≡ min (request + 1) (2 ^ 64 - 1) → GoesOn turned home most next m w left' left'' taken' taken'' result → Becomes next w left'' taken'' result
  becomes request next m w left' left'' taken' taken'' (Ok None) u is (reply, one, out) = record {
    requests = u.requests + 1;
    so = record {
      bytes = u.so.bytes ++ one.bytes;
      replies = u.so.replies ++ reply;
      served = one_more u.requests m w left' left'' taken' reply u.so one;
      took = consumes_both left left' left'' u.so.bytes one.bytes u.so.took one.took;
      out = appends_both taken taken' taken'' u.so.replies reply u.so.out out;
    };
    number = let e = u.number in omega arith;
  }
  becomes request next m w left' left'' taken' taken'' (Ok (Some e)) u is (same, (last, took, so, end), kept) =
      let number : next ≡ request_behind u.requests = let k = u.number in omega arith in
      stops request m w left' left'' taken' taken'' (Ok e) u same last took (rw number at so, end) (appends_kept taken taken' taken'' u.so.replies u.so.out kept)
  becomes request next m w left' left'' taken' taken'' (Err fault.Source) u is (same, (part, took, short), kept) =
      stops request m w left' left'' taken' taken'' (Err fault.Source) u same part took short (appends_kept taken taken' taken'' u.so.replies u.so.out kept)
  becomes request next m w left' left'' taken' taken'' (Err fault.Sink) u is (reply, one, out) = record {
    requests = u.requests + 1;
    bytes = u.so.bytes ++ one.bytes;
    replies = u.so.replies ++ reply;
    served = one_more u.requests m w left' left'' taken' reply u.so one;
    last = [];
    took = rw append-nil (consumes_both left left' left'' u.so.bytes one.bytes u.so.took one.took);
    ends = refl;
    out = let (front, rest, cut, appended) = out in record {
      n = u.requests;
      before = u.so.bytes;
      replies = u.so.replies;
      m = m;
      served = u.so.served;
      more = one.bytes;
      reply = reply;
      last = one.one;
      is = refl;
      front = front;
      rest = rest;
      cut = cut;
      out = appends_both taken taken' taken'' u.so.replies front u.so.out appended;
    };
  }
  becomes request next m w left' left'' taken' taken'' (Err fault.NoMemory) u is h = absurd h

  -- the same where the volume's shape has other names
  pub becomes_at : (h k request next : ℕ) (m w : V) (left' left'' taken' taken'' : Option (List ℕ)) (result : Result (Option Ended) NbdFault) → h ≡ home → k ≡ most → Underway request m left' taken' → next ≡ min (request + 1) (2 ^ 64 - 1) → GoesOn turned h k next m w left' left'' taken' taken'' result → Becomes next w left'' taken'' result
  becomes_at h k request next m w left' left'' taken' taken'' result eh ek u is x =
      let P : ℕ → Type 0 = λ (n : ℕ). GoesOn turned n k next m w left' left'' taken' taken'' result in
      let Q : ℕ → Type 0 = λ (n : ℕ). GoesOn turned home n next m w left' left'' taken' taken'' result in
      becomes request next m w left' left'' taken' taken'' result u is (subst Q ek (subst P eh x))

  -- before the first
  pub unbegun : IsSession turned home most v v left left taken taken (Err fault.NoMemory)
  unbegun = record {
    requests = 0;
    bytes = [];
    replies = [];
    served = HasServed.none;
    last = [];
    took = consumes_none left left (keeps_same left);
    ends = (omega arith, refl);
    out = appends_none taken taken (keeps_same taken);
  }

-- counts of faults that stood still before
pub counts_still : {T : Type 0} (s s' s'' k k' k'' : ℕ) (result : Result T NbdFault) → s' ≡ s → k' ≡ k → CountsFaults s' s'' k' k'' result → CountsFaults s s'' k k'' result
counts_still s s' s'' k k' k'' (Ok x) e d (a, b) = (rw e at a, rw d at b)
counts_still s s' s'' k k' k'' (Err fault.Source) e d (a, b) = (rw e at a, rw d at b)
counts_still s s' s'' k k' k'' (Err fault.Sink) e d (a, b) = (rw e at a, rw d at b)
counts_still s s' s'' k k' k'' (Err fault.NoMemory) e d (a, b) = (rw e at a, rw d at b)

-- ---- One request

module _ {V : Type 0} (turned : Turn → V → V → Type 0) (home most request : ℕ) (v : V) (left left' taken : Option (List ℕ)) where
  pub at_disc : TakesHeader left left' next.Disc → GoesOn turned home most request v v left left' taken taken (Ok (Some ended.Disc))
  at_disc t = (refl, (t.bs, t.taken, t.is, tt), keeps_same taken)

  pub at_end : TakesHeader left left' next.End → GoesOn turned home most request v v left left' taken taken (Ok (Some ended.End))
  at_end t = (refl, (t.bs, t.taken, t.is, t.end (let e = ap length t.is in omega (arith, e))), keeps_same taken)

  pub at_bad_magic : TakesHeader left left' next.BadMagic → GoesOn turned home most request v v left left' taken taken (Ok (Some (ended.BadMagic request)))
  at_bad_magic t = (refl, (t.bs, t.taken, (refl, t.is.0, t.is.1, t.is.2), tt), keeps_same taken)

  pub at_cut : TakesHeader left left' next.Cut → GoesOn turned home most request v v left left' taken taken (Ok (Some (ended.Cut request)))
  at_cut t = (refl, (t.bs, t.taken, (refl, inl t.is), t.end t.is.short), keeps_same taken)

  -- a call of the source failed within the data
  pub at_fault : (w : V) (left'' : Option (List ℕ)) (h : Header) → TakesHeader left left' (next.Request h) → TakesFewer left' left'' (payload_of h.command h.length) → w ≡ v → GoesOn turned home most request v w left left'' taken taken (Err fault.Source)
  at_fault w left'' h t (part, took, short) same = (same, (t.bs ++ part, consumes_both left left' left'' t.bs part t.taken took, inr (record { h = h; head = t.bs; header = t.is.0; part = part; short = short; is = refl })), keeps_same taken)

  -- a call of the source failed within the header
  pub at_fault_first : TakesFewer left left' 28 → GoesOn turned home most request v v left left' taken taken (Err fault.Source)
  at_fault_first (part, took, short) = (refl, (part, took, inl short), keeps_same taken)

  -- it was asked of the volume
  asked_one : (w : V) (left'' : Option (List ℕ)) (h : Header) (room : List ℕ) (answer : Result ℕ NbdError) → h.command ≢ command.Disc → TakesHeader left left' (next.Request h) → AnswersWhole turned home most h v w left' left'' room answer → ServesOne turned home most v w left left'' (reply_of h.cookie (answer_in room answer))
  asked_one w left'' h room answer stays t whole = record {
    bytes = t.bs ++ whole.given;
    took = consumes_both left left' left'' t.bs whole.given t.taken whole.took;
    one = record { h = h; given = whole.given; answer = answer_in room answer; request = record { head = t.bs; header = t.is.0; size = whole.size; is = refl }; stays = stays; serves = whole.serves; is = refl };
  }

  pub answered : (E : Type 0) (w : V) (left'' taken'' : Option (List ℕ)) (h : Header) (room : List ℕ) (a : Option (Result ℕ NbdError)) (result : Result (Option Ended) NbdFault) → h.command ≢ command.Disc → TakesHeader left left' (next.Request h) → AnswersTaken {E = E} turned home most h v w left' left'' room (Ok a) → RepliesSo h a room request taken taken'' result → GoesOn turned home most request v w left left'' taken taken'' result
  answered E w left'' taken'' h room (Some a) (Ok None) stays t whole out = (reply_of h.cookie (answer_in room a), asked_one w left'' h room a stays t whole, out)
  answered E w left'' taken'' h room (Some a) (Ok (Some e)) stays t whole out = absurd out
  answered E w left'' taken'' h room (Some a) (Err fault.Sink) stays t whole out = (reply_of h.cookie (answer_in room a), asked_one w left'' h room a stays t whole, out.1)
  answered E w left'' taken'' h room (Some a) (Err fault.Source) stays t whole out = absurd (let e = out.0 in cc)
  answered E w left'' taken'' h room (Some a) (Err fault.NoMemory) stays t whole out = absurd (let e = out.0 in cc)
  answered E w left'' taken'' h room None (Ok None) stays t within out = absurd out
  answered E w left'' taken'' h room None (Ok (Some e)) stays t within out =
      let at : Ended → Type 0 = λ (x : Ended). GoesOn turned home most request v w left left'' taken taken'' (Ok (Some x)) in
      subst at (sym out.0) (
        within.same,
        (t.bs ++ within.part, consumes_both left left' left'' t.bs within.part t.taken within.took, (refl, inr (record { h = h; head = t.bs; header = t.is.0; part = within.part; short = within.short; is = refl })), within.end),
        out.1,
      )
  answered E w left'' taken'' h room None (Err f) stays t within out = absurd out

-- a request that was refused before the volume was asked
pub refused_so : {V : Type 0} (E : Type 0) (turned : Turn → V → V → Type 0) (home most : ℕ) (h : Header) (v : V) (left left' : Option (List ℕ)) (room : List ℕ) (error : NbdError) (result : Result (Option (Result ℕ NbdError)) E) → known_error home h ≡ Some error → RefusesSo {E = E} left left' h error result → AnswersTaken {E = E} turned home most h v v left left' room result
refused_so E turned home most h v left left' room error (Ok (Some answer)) known (given, took, size, is) =
    let at : Result ℕ NbdError → Type 0 = λ (x : Result ℕ NbdError). AnswersWhole turned home most h v v left left' room x in
    subst at (sym is) (record { given = given; took = took; size = size; serves = Serves.refused error known; fits = tt })
refused_so E turned home most h v left left' room error (Ok None) known (part, took, short, end) = record { part = part; took = took; short = short; end = end; same = refl }
refused_so E turned home most h v left left' room error (Err e) known some = (some, refl)
