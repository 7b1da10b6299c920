-- The last of the runs that so many things are cut into.
use Rattle.std.proofs.Common.{◌≡◌, ◌<◌, ◌+◌, ◌-◌, ◌%◌, ℕ, ap, ◌∙◌, arith}
use Rattle.request_workers.specs.Shares.{IsLastRun}

-- what is left over where whole runs are taken off all but one, and that one
pub last_of : (size n whole m : ℕ) → whole + m ≡ n - 1 → 0 < n → m < size → whole % size ≡ 0 → IsLastRun size n (m + 1)
last_of size n whole m parts some low is_whole =
    let before : n - (m + 1) ≡ whole = omega (arith, parts, some) in record {
      some = omega arith;
      few = omega (arith, low);
      within = omega (arith, parts, some);
      before = ap (λ k. k % size) before ∙ is_whole;
    }
