-- A reply, as a sink takes it.
use Rattle.std.proofs.Common.{◌≡◌, ℕ, List, [], ◌++◌, take, Option, Result, Ok, Err, refl, sym, ◌∙◌, ap, subst, append-nil}
use Rattle.std.specs.Io.KnownBytes.{Appends}
use Rattle.wol_io.specs.Streams.{AppendsFront, SinkTakes}
use Rattle.wol_io.proofs.Appending.{appends_both, front_last, front_longer}
use Rattle.nbd_session.specs.declared.error.NbdError.{NbdError}
use Rattle.nbd_session.specs.Answers.{answer_in, reply_of}
use Rattle.nbd_session.specs.Errors.{code_of}
use Rattle.nbd_session.specs.Headers.{reply_head}

module _ {E : Type 0} (a b d : Option (List ℕ)) (result : Result (Unit {0}) E) (cookie : ℕ) (room head : List ℕ) (answer : Result ℕ NbdError) where
  as_reply : (xs : List ℕ) → xs ≡ reply_of cookie (answer_in room answer) → SinkTakes a d result xs → SinkTakes a d result (reply_of cookie (answer_in room answer))
  as_reply xs e h =
      let P : List ℕ → Type 0 = λ (ys : List ℕ). SinkTakes a d result ys in
      subst P e h

  -- an error
  pub error_taken : (error : NbdError) (code : ℕ) → answer ≡ Err error → code ≡ code_of error → head ≡ reply_head code cookie → SinkTakes a d result head → SinkTakes a d result (reply_of cookie (answer_in room answer))
  error_taken error code is number at h =
      as_reply head (at ∙ ap (λ (n : ℕ). reply_head n cookie) number ∙ sym (ap (λ (x : Result ℕ NbdError). reply_of cookie (answer_in room x)) is)) h

  data_is : (n : ℕ) (got : List ℕ) → answer ≡ Ok n → head ≡ reply_head 0 cookie → got ≡ take n room → head ++ got ≡ reply_of cookie (answer_in room answer)
  data_is n got is at whole =
      ap (λ (xs : List ℕ). xs ++ got) at ∙ ap (λ (xs : List ℕ). reply_head 0 cookie ++ xs) whole ∙ sym (ap (λ (x : Result ℕ NbdError). reply_of cookie (answer_in room x)) is)

  -- no data
  pub nothing_taken : (n : ℕ) → answer ≡ Ok n → n ≡ 0 → head ≡ reply_head 0 cookie → SinkTakes a d result head → SinkTakes a d result (reply_of cookie (answer_in room answer))
  nothing_taken n is none at h = as_reply head (sym (append-nil head) ∙ data_is n [] is at (sym (ap (λ (k : ℕ). take k room) none))) h

  both : (r : Result (Unit {0}) E) (xs ys : List ℕ) → Appends a b xs → SinkTakes b d r ys → SinkTakes a d r (xs ++ ys)
  both (Ok x) xs ys h k = appends_both a b d xs ys h k
  both (Err e) xs ys h k = front_last a b d xs ys h k

  -- data
  pub data_taken : (n : ℕ) (got : List ℕ) → answer ≡ Ok n → head ≡ reply_head 0 cookie → Appends a b head → SinkTakes b d result got → got ≡ take n room → SinkTakes a d result (reply_of cookie (answer_in room answer))
  data_taken n got is at h k whole = as_reply (head ++ got) (data_is n got is at whole) (both result head got h k)

  -- a front of the head
  pub head_cut : (n : ℕ) → answer ≡ Ok n → head ≡ reply_head 0 cookie → AppendsFront a b head → AppendsFront a b (reply_of cookie (answer_in room answer))
  head_cut n is at h =
      let P : List ℕ → Type 0 = λ (xs : List ℕ). AppendsFront a b xs in
      subst P (data_is n (take n room) is at refl) (front_longer a b head (take n room) h)
