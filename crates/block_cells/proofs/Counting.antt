-- Runs of kept blocks, counted bit by bit.
use Rattle.std.proofs.Common.{◌≡◌, ◌+◌, ◌-◌, ◌/◌, ◌^◌, ◌<◌, ℕ, zero, suc, Bool, true, false, not, ◌&&◌, cond, List, ◌∷◌, map, arith, ap, eqb, bit_and}
use Rattle.std.proofs.lemmas.Nat.Bits.{shr_and_one}
use Rattle.std.specs.List.{range_with_len}
use Rattle.wol_model.specs.Log.{has_bit}
use Rattle.block_cells.specs.Runs.{runs_after}

one_more : (b before : Bool) (marks : List Bool) → cond (b && not before) 1 0 + runs_after b marks ≡ runs_after before (b ∷ marks)
one_more true true marks = omega arith
one_more true false marks = omega arith
one_more false true marks = omega arith
one_more false false marks = omega arith

pub at_bit : (keep i : ℕ) → eqb (bit_and (keep / 2 ^ i) 1) 1 ≡ has_bit keep i
at_bit keep i = ap (λ (k : ℕ). eqb k 1) (shr_and_one keep i)

first_left : (keep i n : ℕ) (before : Bool) → 0 < n → cond (has_bit keep i && not before) 1 0 + runs_after (has_bit keep i) (map (has_bit keep) (range_with_len (i + 1) (n - 1))) ≡ runs_after before (map (has_bit keep) (range_with_len i n))
first_left keep i zero before some = absurd (omega arith)
first_left keep i (suc n) before some =
    let e : suc n - 1 ≡ n = omega arith in
    rw e (one_more (has_bit keep i) before (map (has_bit keep) (range_with_len (i + 1) n)))

-- a further bit is counted
pub counted : (keep count i runs added all : ℕ) (before : Bool) → i < count → runs + runs_after before (map (has_bit keep) (range_with_len i (count - i))) ≡ all
    → added ≡ cond (eqb (bit_and (keep / 2 ^ i) 1) 1 && not before) 1 0
    → runs + added + runs_after (eqb (bit_and (keep / 2 ^ i) 1) 1) (map (has_bit keep) (range_with_len (i + 1) (count - (i + 1)))) ≡ all
counted keep count i runs added all before less so_far more =
    let one : count - (i + 1) ≡ count - i - 1 = omega arith in
    let head = first_left keep i (count - i) before (omega arith) in
    rw (more, at_bit keep i, one) (omega (arith, head, so_far))
