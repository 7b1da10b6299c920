use Rattle.std.proofs.Common.{◌≡◌, ◌<◌, ◌≤◌, ◌+◌, ℕ, true}
use Rattle.block_cells.specs.Masks.{in_mask}
use Rattle.log_cleaner.proofs.chunks.kept_end.Given as goal

abbrev pub invariant-loop-next : goal.invariant-loop-next
invariant-loop-next l = (b : ℕ) → l.lbn + l.count ≤ b → b < l.lbn + l.next → in_mask l.record.lbn l.record.keep b ≡ true
