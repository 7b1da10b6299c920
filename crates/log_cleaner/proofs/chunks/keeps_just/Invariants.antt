use Rattle.std.proofs.Common.{◌≡◌, ◌<◌, ◌+◌, ℕ}
use Rattle.wol_model.specs.Log.{has_bit}
use Rattle.log_cleaner.specs.Chunks.{is_within}
use Rattle.log_cleaner.proofs.chunks.keeps_just.Given as goal

abbrev pub invariant-loop-place : goal.invariant-loop-place
invariant-loop-place l = (i : ℕ) → i < l.place → has_bit l.record.keep i ≡ is_within l.lbn l.count (l.record.lbn + i)
