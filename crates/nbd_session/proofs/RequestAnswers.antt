-- What a volume was asked for a request.
use Rattle.std.proofs.Common.{◌≡◌, ◌≢◌, ◌⊎◌, ◌≤◌, ◌+◌, ◌*◌, ◌%◌, ◌==◌, ◌||◌, ℕ, Bool, true, false, not, List, take, Option, None, Some, Result, Ok, Err, refl, ap, arith, inl, inr}
use Rattle.std.specs.Prelude.{if◌then◌else◌, nat_lt}
use Rattle.std.proofs.lemmas.Bool.Decides.{nat_tests}
use Rattle.nbd_session.specs.declared.error.NbdError.{NbdError}
use Rattle.nbd_session.specs.declared.header.Command.{Command}
use Rattle.nbd_session.specs.declared.header.Command.TheVariants as command
use Rattle.nbd_session.specs.declared.header.Header.{Header}
use Rattle.nbd_session.specs.Answers.{IsInside, LooksSo, ReadsSo, Serves, WritesSo, answer_in}
use Rattle.nbd_session.specs.Errors.{known_error, range_error, is_uneven, passes_end}
use Rattle.nbd_session.specs.Headers.{payload_of}
use Rattle.nbd_session.specs.Turns.{Turn}

past_if : {A : Type 0} (b : Bool) (s : A) (x : Option A) → (if b then Some s else x) ≡ None → (b ≡ false) × (x ≡ None)
past_if true s x e = cc
past_if false s x e = (refl, e)

neither : (a b : Bool) → (a || b) ≡ false → (a ≡ false) × (b ≡ false)
neither true b e = cc
neither false b e = (refl, e)

is_none : (n : ℕ) → not (n == 0) ≡ false → n ≡ 0
is_none n e = grind (arith, nat_tests)

at_most : (a b : ℕ) → nat_lt a b ≡ false → b ≤ a
at_most a b e = grind (arith, nat_tests)

inside : (home : ℕ) (h : Header) → is_uneven h ≡ false → passes_end home h ≡ false → IsInside home h
inside home h even ends =
    let (front, few) = neither (not (h.offset % 512 == 0) || not (h.length % 512 == 0)) (nat_lt 33554432 h.length) even in
    let (first, whole) = neither (not (h.offset % 512 == 0)) (not (h.length % 512 == 0)) front in
    let a : h.offset % 512 ≡ 0 = is_none (h.offset % 512) first in
    let b : h.length % 512 ≡ 0 = is_none (h.length % 512) whole in
    let d : h.length ≤ 33554432 = at_most 33554432 h.length few in
    let e : h.offset + h.length ≤ 512 * home = at_most (512 * home) (h.offset + h.length) ends in
    record { whole = omega arith; few = d; fits = omega arith }

range_inside : (home : ℕ) (h : Header) (c : Command) → (c ≡ command.Read) ⊎ (c ≡ command.Write) → range_error c home h ≡ None → IsInside home h
range_inside home h command.Read which e =
    let (ok, rest) = past_if (is_uneven h || passes_end home h) _ _ e in
    let (even, ends) = neither (is_uneven h) (passes_end home h) ok in
    inside home h even ends
range_inside home h command.Write which e =
    let (even, rest) = past_if (is_uneven h) _ _ e in
    let (ends, none) = past_if (passes_end home h) _ _ rest in
    inside home h even ends
range_inside home h command.Disc which e = elim which [ inl x ↦ cc | inr x ↦ cc ]
range_inside home h command.Flush which e = elim which [ inl x ↦ cc | inr x ↦ cc ]
range_inside home h command.Unknown which e = elim which [ inl x ↦ cc | inr x ↦ cc ]

-- a read or a write that has no error so far has a range within the volume
pub known_inside : (home : ℕ) (h : Header) → (h.command ≡ command.Read) ⊎ (h.command ≡ command.Write) → known_error home h ≡ None → IsInside home h
known_inside home h which e = range_inside home h h.command which (past_if (nat_lt 1 h.flags) _ _ e).1

unknown_error : (home : ℕ) (h : Header) (c : Command) → c ≡ command.Unknown → range_error c home h ≡ None → ⊥
unknown_error home h command.Read is e = cc
unknown_error home h command.Write is e = cc
unknown_error home h command.Disc is e = cc
unknown_error home h command.Flush is e = cc
unknown_error home h command.Unknown is e = cc

-- an unknown type has one
pub known_unknown : (home : ℕ) (h : Header) → h.command ≡ command.Unknown → known_error home h ≡ None → ⊥
known_unknown home h is e = unknown_error home h h.command is (past_if (nat_lt 1 h.flags) _ _ e).1

-- the data of a request that has no error so far have room where its range has
payload_within : (home : ℕ) (h : Header) (c : Command) (room : ℕ) → range_error c home h ≡ None → (h.length ≤ 33554432 → h.length ≤ room) → payload_of c h.length ≤ room
payload_within home h command.Read room e fits = omega arith
payload_within home h command.Write room e fits = fits (range_inside home h command.Write (inr refl) e).few
payload_within home h command.Disc room e fits = omega arith
payload_within home h command.Flush room e fits = omega arith
payload_within home h command.Unknown room e fits = omega arith

pub payload_fits : (home : ℕ) (h : Header) (room : ℕ) → known_error home h ≡ None → (h.length ≤ 33554432 → h.length ≤ room) → payload_of h.command h.length ≤ room
payload_fits home h room e = payload_within home h h.command room (past_if (nat_lt 1 h.flags) _ _ e).1

module _ {V : Type 0} (turned : Turn → V → V → Type 0) (home most : ℕ) (h : Header) (given room : List ℕ) (v w : V) (known : known_error home h ≡ None) where
  pub serves_look : (result : Result ℕ NbdError) → (h.command ≡ command.Flush) ⊎ (h.length ≡ 0) → LooksSo turned v w result → Serves turned home most h given v (answer_in room result) w
  serves_look (Ok n) nothing (none, took) = rw none (Serves.looked w (Ok tt) known nothing took)
  serves_look (Err e) nothing (r, is, took) = rw is (Serves.looked w (Err r) known nothing took)

  pub serves_read : (result : Result ℕ NbdError) → h.command ≡ command.Read → h.length ≢ 0 → ReadsSo turned most h room v w result → Serves turned home most h given v (answer_in room result) w
  serves_read (Ok n) is some (size, read) = Serves.has_read w (take n room) known is some read
  serves_read (Err e) is some (r, error, stopped) = rw error (Serves.not_read w r known is stopped)

  pub serves_write : (result : Result ℕ NbdError) → h.command ≡ command.Write → h.length ≢ 0 → WritesSo turned most h given v w result → Serves turned home most h given v (answer_in room result) w
  serves_write (Ok n) is some (none, written) = rw none (Serves.has_written w known is some written)
  serves_write (Err e) is some (r, error, stopped) = rw error (Serves.not_written w r known is stopped)

-- a write's data
pub payload_write : (h : Header) → h.command ≡ command.Write → payload_of h.command h.length ≡ h.length
payload_write h is = ap (λ (c : Command). payload_of c h.length) is
