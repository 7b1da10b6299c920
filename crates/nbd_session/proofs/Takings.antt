-- Options that are taken.
use Rattle.std.proofs.Common.{◌≡◌, ◌≤◌, ◌<◌, ℕ, List, [], ◌++◌, length, take, drop, Option, Result, Ok, Err, refl, sym, subst, inr, arith, append-nil}
use Rattle.std.proofs.Math.Seq.{take-length}
use Rattle.std.proofs.lemmas.List.{length-take-le}
use Rattle.std.specs.Io.KnownBytes.{Consumes}
use Rattle.byteorder.specs.Endian.{big_number}
use Rattle.wol_io.proofs.Appending.{keeps_same}
use Rattle.wol_io.proofs.Consuming.{consumes_both, consumes_none}
use Rattle.nbd_session.specs.declared.option_intake.Next.{Next}
use Rattle.nbd_session.specs.declared.option_intake.Next.TheVariants as next
use Rattle.nbd_session.specs.declared.ending.Unagreed.TheVariants as unagreed
use Rattle.nbd_session.specs.Options.{HasMagic, IsHead}
use Rattle.nbd_session.specs.OptionTaking.{TakesGiven, TakesOption}

-- a room that is full
pub whole_room : (room : List ℕ) (n count : ℕ) → length room ≡ n → count ≤ n → n ≤ count → take count room ≡ room
whole_room room n count size few all = let is : count ≡ length room = omega arith in rw is (take-length room)

module _ (E : Type 0) (head room : List ℕ) (left mid left' : Option (List ℕ)) (size : length head ≡ 16) (magic : HasMagic head) (took : Consumes left mid head) (long : length room ≡ 4096) where
  -- a head, and then what came of its data
  pub given_option : (result : Result Next E) → TakesGiven head mid left' room result → TakesOption left left' room result
  given_option (Ok (next.Asked number len)) (header, few, more) =
      let fits : len ≤ length room = omega arith in
      let P : ℕ → Type 0 = λ (n : ℕ). IsHead head number n in
      (few, head ++ take len room, record { head = head; header = subst P (sym (length-take-le len room fits)) header; few = rw (length-take-le len room fits) few; is = refl }, consumes_both left mid left' head (take len room) took more)
  given_option (Ok (next.Ended why)) (part, more, ends) = (head ++ part, consumes_both left mid left' head part took more, ends)
  given_option (Err e) (part, more, cut) = (head ++ part, consumes_both left mid left' head part took more, inr cut)

-- more data than are taken
pub too_long : (E : Type 0) (head room : List ℕ) (left : Option (List ℕ)) (len : ℕ) → length head ≡ 16 → HasMagic head → len ≡ big_number 4 (drop 12 head) → 4096 < len → TakesGiven {E = E} head left left room (Ok (next.Ended unagreed.TooLong))
too_long E head room left len size magic is long =
    let number = big_number 4 (drop 8 head) in
    let P : List ℕ → Type 0 = λ (bs : List ℕ). IsHead bs number len in
    ([], consumes_none left left (keeps_same left), (number, len, subst P (sym (append-nil head)) (record { size = size; magic = magic; number_ = refl; length_ = is }), long))
