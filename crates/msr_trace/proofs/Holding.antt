-- The bytes between two places of a buffer, as they move.
use Rattle.std.proofs.Common.{◌≡◌, ℕ, ◌+◌, ◌-◌, ◌≤◌, List, ◌++◌, take, drop, ◌∙◌, arith, refl}
use Rattle.std.proofs.lemmas.List.{drop-take, drop-drop}
use Rattle.std.proofs.Math.Seq.{take-add}

-- with the first n of them given
pub fewer : (buffer : List ℕ) (start end n : ℕ) → start + n ≤ end → take (end - (start + n)) (drop (start + n) buffer) ≡ drop n (take (end - start) (drop start buffer))
fewer buffer start end n h =
    let e : end - start ≡ n + (end - (start + n)) = omega (arith, h) in
    rw (e, drop-take n (end - (start + n)) (drop start buffer), drop-drop n start buffer) refl

-- with others read behind them, after they were moved to the front
pub more : (before moved after bytes : List ℕ) (start held count : ℕ) → take held (drop start before) ≡ bytes → take held moved ≡ take held (drop start before) → take held after ≡ take held moved
    → take (held + count) after ≡ bytes ++ take count (drop held after)
more before moved after bytes start held count is close read = take-add held count after ∙ rw (read, close, is) refl
