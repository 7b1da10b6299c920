-- Options of a handshake, one after another.
use Rattle.std.proofs.Common.{◌≡◌, ◌<◌, ◌+◌, ℕ, Bool, List, [], ◌++◌, take, Option, None, Some, Result, Ok, Err, refl, sym, subst, ◌⊎◌, inl, inr}
use Rattle.std.specs.Io.KnownBytes.{Appends, Consumes}
use Rattle.wol_io.specs.Streams.{SinkTakes}
use Rattle.wol_io.proofs.Appending.{appends_both, appends_none, keeps_same}
use Rattle.wol_io.proofs.Consuming.{consumes_both, consumes_none}
use Rattle.nbd_session.specs.declared.session.NbdFault.{NbdFault}
use Rattle.nbd_session.specs.declared.session.NbdFault.TheVariants as fault
use Rattle.nbd_session.specs.declared.ending.Shaken.{Shaken}
use Rattle.nbd_session.specs.declared.ending.Shaken.TheVariants.{Unagreed as NotAgreed}
use Rattle.nbd_session.specs.declared.ending.Unagreed.{Unagreed}
use Rattle.nbd_session.specs.declared.ending.Unagreed.TheVariants as unagreed
use Rattle.nbd_session.specs.declared.option_intake.Next.TheVariants as next
use Rattle.nbd_session.specs.Options.{replies_to}
use Rattle.nbd_session.specs.Shakes.{AnswersOne, AnswersSo, AreTooMany, AsksAlong, Ends, EndsThere, GoesOn, HasAnswered, IsShake, greeting}
use Rattle.nbd_session.specs.OptionTaking.{TakesFlags, TakesOption}

module _ (name : List ℕ) (blocks : ℕ) (zeroes : Bool) (left taken : Option (List ℕ)) where
  -- so many options were answered, and their replies are out
  pub record SoFar (n : ℕ) (left' taken' : Option (List ℕ)) : Type 0 where
    pub asked : List ℕ
    pub replies : List ℕ
    pub answered : HasAnswered name blocks zeroes n asked replies
    pub took : Consumes left left' asked
    pub out : Appends taken taken' replies

  pub begun : SoFar 0 left taken
  begun = record { asked = []; replies = []; answered = HasAnswered.none; took = consumes_none left left (keeps_same left); out = appends_none taken taken (keeps_same taken) }

  -- one more
  pub goes_on : (n : ℕ) (left' left'' taken' taken'' : Option (List ℕ)) → SoFar n left' taken' → AnswersOne name blocks zeroes left' left'' taken' taken'' → SoFar (n + 1) left'' taken''
  goes_on n left' left'' taken' taken'' so one = record {
    asked = so.asked ++ one.bytes;
    replies = so.replies ++ replies_to name blocks zeroes one.a;
    answered = HasAnswered.next n so.asked so.replies one.bytes one.a so.answered one.option_ one.goes;
    took = consumes_both left left' left'' so.asked one.bytes so.took one.took;
    out = appends_both taken taken' taken'' so.replies (replies_to name blocks zeroes one.a) so.out one.out;
  }

  -- these last bytes are behind them, for which this is sent
  followed : (n : ℕ) (left' left'' taken' taken'' : Option (List ℕ)) (result : Result Shaken NbdFault) → SoFar n left' taken' → (last sent : List ℕ) → Consumes left' left'' last → Appends taken' taken'' sent
      → ((n < 64) × Ends name blocks zeroes left'' last sent result) ⊎ AreTooMany n last sent result → AsksAlong name blocks zeroes left left'' taken taken'' result
  followed n left' left'' taken' taken'' result so last sent took out end = record {
    options = n;
    asked = so.asked;
    replies = so.replies;
    answered = so.answered;
    last = last;
    sent = sent;
    took = consumes_both left left' left'' so.asked last so.took took;
    out = appends_both taken taken' taken'' so.replies sent so.out out;
    ends = end;
  }

  -- the end
  pub ends : (n : ℕ) (left' left'' taken' taken'' : Option (List ℕ)) (result : Result Shaken NbdFault) → SoFar n left' taken' → n < 64 → EndsThere name blocks zeroes left' left'' taken' taken'' result → AsksAlong name blocks zeroes left left'' taken taken'' result
  ends n left' left'' taken' taken'' result so few there = followed n left' left'' taken' taken'' result so there.last there.sent there.took there.out (inl (few, there.ends))

  -- too many
  pub too_many : (n : ℕ) (left' taken' : Option (List ℕ)) → SoFar n left' taken' → n ≡ 64 → AsksAlong name blocks zeroes left left' taken taken' (Ok (NotAgreed unagreed.TooMany))
  too_many n left' taken' so all =
      followed n left' left' taken' taken' (Ok (NotAgreed unagreed.TooMany)) so [] [] (consumes_none left' left' (keeps_same left')) (appends_none taken' taken' (keeps_same taken')) (inr (record { all = all; last_ = refl; sent_ = refl; is = refl }))

-- ---- One option

module _ (E : Type 0) (name : List ℕ) (blocks : ℕ) (zeroes : Bool) (left left' taken : Option (List ℕ)) (room : List ℕ) where
  pub ended : (why : Unagreed) → TakesOption {E = E} left left' room (Ok (next.Ended why)) → GoesOn name blocks zeroes left left' taken taken (Ok (Some (NotAgreed why)))
  ended why (last, took, ends_so) = record { last = last; sent = []; took = took; out = appends_none taken taken (keeps_same taken); ends = Ends.by_bytes why last ends_so }

  pub failed : (e : E) → TakesOption left left' room (Err e) → GoesOn name blocks zeroes left left' taken taken (Err fault.Source)
  failed e (last, took, cut) = record { last = last; sent = []; took = took; out = appends_none taken taken (keeps_same taken); ends = Ends.by_source last cut }

  pub answered : (number len : ℕ) (taken' : Option (List ℕ)) (result : Result (Option Shaken) NbdFault) → TakesOption {E = E} left left' room (Ok (next.Asked number len)) → AnswersSo name blocks zeroes (record { number = number; given = take len room }) taken taken' result → GoesOn name blocks zeroes left left' taken taken' result
  answered number len taken' (Ok None) (few, bytes, option_, took) (is, out) = record { a = record { number = number; given = take len room }; bytes = bytes; option_ = option_; goes = sym is; took = took; out = out }
  answered number len taken' (Ok (Some end)) (few, bytes, option_, took) (is, out) = record { last = bytes; sent = replies_to name blocks zeroes (record { number = number; given = take len room }); took = took; out = out; ends = Ends.by_option (record { number = number; given = take len room }) bytes end option_ (sym is) }
  answered number len taken' (Err fault.Source) (few, bytes, option_, took) out = absurd out
  answered number len taken' (Err fault.Sink) (few, bytes, option_, took) (front, rest, cut, out) = record { last = bytes; sent = front; took = took; out = out; ends = Ends.by_sink (record { number = number; given = take len room }) bytes front rest option_ cut }
  answered number len taken' (Err fault.NoMemory) (few, bytes, option_, took) kept = record { last = bytes; sent = []; took = took; out = appends_none taken taken' kept; ends = Ends.by_memory (record { number = number; given = take len room }) bytes option_ }

-- ---- What comes first

-- a piece that was sent without a fault is out
pub sent : {T E : Type 0} (a b : Option (List ℕ)) (x : List ℕ) (r : Result T E) → ((e : E) → r ≡ Err e → ⊥) → SinkTakes a b r x → Appends a b x
sent a b x (Ok t) never h = h
sent a b x (Err e) never h = absurd (never e refl)

module _ (E : Type 0) (name : List ℕ) (blocks : ℕ) (left left'' taken taken'' : Option (List ℕ)) (out : Appends taken taken'' greeting) where
  pub flagged : (zeroes : Bool) (left' taken' : Option (List ℕ)) (result : Result Shaken NbdFault) → TakesFlags {E = E} left left'' (Ok (Ok zeroes)) → AsksAlong name blocks zeroes left'' left' taken'' taken' result → IsShake name blocks left left' taken taken' result
  flagged zeroes left' taken' result (flags, took, are, is) asks =
      let P : Bool → Type 0 = λ (z : Bool). AsksAlong name blocks z left'' left' taken'' taken' result in
      IsShake.flagged flags left'' taken'' result out took are (subst P is asks)

  pub unflagged : (why : Unagreed) → TakesFlags {E = E} left left'' (Ok (Err why)) → IsShake name blocks left left'' taken taken'' (Ok (NotAgreed why))
  unflagged why (last, took, ends_so) = IsShake.unflagged why last took out ends_so

  pub unread : (e : E) → TakesFlags left left'' (Err e) → IsShake name blocks left left'' taken taken'' (Err fault.Source)
  unread e (last, took, short) = IsShake.unread last took out short
