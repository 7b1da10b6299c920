use Rattle.std.proofs.Common.{◌≡◌, ◌<◌, ◌≤◌, ◌+◌, ℕ, cond, length, get_or}
use Rattle.whatif.specs.Waits.{is_over}
use Rattle.whatif.proofs.waits.Waits.add.Given as goal

abbrev pub invariant-loop-k : goal.invariant-loop-k
invariant-loop-k l = record {
  long : length l.self.over ≡ 10;
  below : (j : ℕ) → j < l.k → get_or l.self.over j 0 ≡ get_or l.initial.self.over j 0 + cond (is_over l.wake j l.wait) 1 0;
  beyond : (j : ℕ) → l.k ≤ j → get_or l.self.over j 0 ≡ get_or l.initial.self.over j 0;
  count : l.self.count ≡ l.initial.self.count;
  sum : l.self.sum ≡ l.initial.self.sum;
}
