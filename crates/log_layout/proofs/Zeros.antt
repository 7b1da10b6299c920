-- Fields written one after another in front of zeros.
use Rattle.std.proofs.Common.{◌≡◌, ℕ, ◌-◌, List, ◌++◌, length, take, drop, replicate, sym, append_assoc}
use Rattle.std.proofs.lemmas.List.{take_at, drop_at, drop-replicate}

pub put_field : (front bytes : List ℕ) (at k : ℕ) → length front ≡ at
    → take at (front ++ replicate k 0) ++ (bytes ++ drop (length bytes) (drop at (front ++ replicate k 0))) ≡ front ++ bytes ++ replicate (k - length bytes) 0
put_field front bytes at k e =
    rw (take_at front (replicate k 0) at e, drop_at front (replicate k 0) at e, drop-replicate {X = ℕ} (length bytes) k 0) (sym (append_assoc front bytes (replicate (k - length bytes) 0)))
