-- The bytes that a call of a source in memory hands out.
use Rattle.std.proofs.Common.{◌≡◌, ℕ, ◌+◌, ◌≤◌, List, ◌++◌, length, take, drop, arith, length-drop}
use Rattle.std.proofs.lemmas.List.{take-append-drop, drop-drop, take_at, length-take}

-- the first n bytes of what is left are the part that was copied out, and the rest is left
pub handed : (bs src rest : List ℕ) (at n : ℕ) → at + n ≤ length bs → src ≡ take n (drop at bs) → drop at bs ≡ take n (src ++ rest) ++ drop (at + n) bs
handed bs src rest at n h e =
    let l : length src ≡ n = rw e (simp (length-take, length-drop) (omega arith)) in
    rw (take_at src rest n l, e, ← drop-drop n at bs, take-append-drop)
