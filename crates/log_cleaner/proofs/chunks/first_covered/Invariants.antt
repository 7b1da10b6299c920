use Rattle.std.proofs.Common.{◌≡◌, ◌<◌, ◌≤◌, ◌-◌, ℕ, true, false}
use Rattle.wol_model.specs.Index.{listed_in, is_covered}
use Rattle.log_cleaner.proofs.chunks.first_covered.Given as goal

abbrev pub invariant-search : goal.invariant-search
invariant-search l = record {
  order : (l.low ≤ l.first) × (l.first ≤ l.last) × (l.last ≤ l.high);
  bare : (b : ℕ) → l.low ≤ b → b < l.first → is_covered (listed_in l.index.entries) b ≡ false;
  there : (b : ℕ) × (l.first ≤ b) × (b ≤ l.last) × (is_covered (listed_in l.index.entries) b ≡ true);
}

abbrev pub decreases-search : goal.decreases-search
decreases-search l = l.last - l.first
