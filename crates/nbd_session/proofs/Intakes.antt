-- Bytes taken from a source, call by call.
use Rattle.std.proofs.Common.{◌≡◌, ◌≤◌, ◌<◌, ◌+◌, ◌-◌, ℕ, List, [], ◌++◌, length, take, drop, Option, arith, length-append}
use Rattle.std.proofs.Math.Seq.{take-add}
use Rattle.std.proofs.lemmas.List.{length-take}
use Rattle.std.specs.Io.KnownBytes.{Consumes, Keeps}
use Rattle.wol_io.proofs.Appending.{keeps_same}
use Rattle.wol_io.proofs.Consuming.{consumes_both, consumes_kept, consumes_none}
use Rattle.nbd_session.specs.Intake.{TakesFewer}

-- bytes behind those that a room held before
pub filled_more : (a b d : Option (List ℕ)) (old new : List ℕ) (count more : ℕ) → Consumes a b (take count old) → take count new ≡ take count old → Consumes b d (take more (drop count new)) → Consumes a d (take (count + more) new)
filled_more a b d old new count more h same k = rw (take-add count more new, same) (consumes_both a b d (take count old) (take more (drop count new)) h k)

-- nothing of them yet
pub filled_none : (a : Option (List ℕ)) (room : List ℕ) → Consumes a a (take 0 room)
filled_none a room = consumes_none a a (keeps_same a)

-- of so many bytes all but these were taken
pub record Skipped (old new : Option (List ℕ)) (count left : ℕ) : Type 0 where
  pub part : List ℕ
  pub took : Consumes old new part
  pub rest : length part + left ≡ count

pub skipped_none : (a : Option (List ℕ)) (count : ℕ) → Skipped a a count count
skipped_none a count = record { part = []; took = consumes_none a a (keeps_same a); rest = omega arith }

-- some more
pub skipped_more : (a b d : Option (List ℕ)) (count left n : ℕ) → Skipped a b count left → ((bs : List ℕ) × Consumes b d bs × (length bs ≡ n)) → n ≤ left → Skipped a d count (left - n)
skipped_more a b d count left n s (bs, took, size) le = record {
  part = s.part ++ bs;
  took = consumes_both a b d s.part bs s.took took;
  rest = let e = s.rest in omega (arith, length-append s.part bs);
}

-- nothing was taken of what is left
pub skipped_kept : (a b d : Option (List ℕ)) (count left : ℕ) → Skipped a b count left → 0 < left → Keeps b d → TakesFewer a d count
skipped_kept a b d count left s more k = (s.part, consumes_kept a b d s.part s.took k, let e = s.rest in omega arith)

pub filled_kept : (a b d : Option (List ℕ)) (room : List ℕ) (count size : ℕ) → Consumes a b (take count room) → count < length room → length room ≡ size → Keeps b d → TakesFewer a d size
filled_kept a b d room count size h more is k = (take count room, consumes_kept a b d (take count room) h k, omega (arith, length-take count room))
