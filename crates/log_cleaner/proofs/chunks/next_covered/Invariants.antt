use Rattle.std.proofs.Common.{◌≡◌, ◌<◌, ◌≤◌, ◌-◌, ◌^◌, ℕ, false}
use Rattle.wol_model.specs.Index.{listed_in, is_covered}
use Rattle.log_cleaner.proofs.chunks.next_covered.Given as goal

abbrev pub invariant-widening : goal.invariant-widening
invariant-widening l = record {
  low_ : (l.from ≤ l.low) × (l.low ≤ 2 ^ 32);
  width_ : (1 ≤ l.width) × (l.width ≤ 2 ^ 31);
  bare : (b : ℕ) → l.from ≤ b → b < l.low → is_covered (listed_in l.index.entries) b ≡ false;
}

abbrev pub decreases-widening : goal.decreases-widening
decreases-widening l = 2 ^ 32 - l.low
