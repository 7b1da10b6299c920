use Rattle.std.proofs.Common.{◌≡◌, ◌<◌, ◌≤◌, ◌+◌, ◌-◌, ℕ, true}
use Rattle.wol_model.specs.Index.{listed_in, is_covered}
use Rattle.log_cleaner.proofs.chunks.chunk_len.Given as goal

abbrev pub invariant-records : goal.invariant-records
invariant-records l = record {
  count : (1 ≤ l.count) × (l.count ≤ l.most);
  run : (b : ℕ) → l.lbn ≤ b → b < l.lbn + l.count → is_covered (listed_in l.index.entries) b ≡ true;
}

abbrev pub decreases-records : goal.decreases-records
decreases-records l = l.most - l.count
