-- What a run counts of writes and of reclaim stands in its histories.
use Rattle.std.specs.Prelude.{◌≡◌, ℕ, List, Some, IsTrue, count_by, length, min, slice_get, sum_by}
use Rattle.wol_promise.specs.Report.{AreGone, blocks_put_home, drains, home_writes, logged_writes}
use Rattle.wol_promise.specs.Ruled.{last_look}
use Rattle.request_turns.specs.Counts.{records_dropped}
use Rattle.replay.specs.Counts.{most_count, was_drained, was_logged, went_home}
use Rattle.replay.specs.Histories.{History, is_broken}
use Rattle.replay.specs.Served.{ServedWindow, outcomes_in}

-- those that went to logs, those that went home, and of these those that went home after a drain
pub record CountsPlaced (windows : List ServedWindow) (histories : List History) : Type 0 where
  pub log : count_by was_logged (outcomes_in windows)
      ≡ sum_by (λ (h : History). logged_writes h.notes) histories
  pub home : count_by went_home (outcomes_in windows)
      ≡ sum_by (λ (h : History). home_writes h.notes) histories
  pub drained : count_by was_drained (outcomes_in windows)
      ≡ sum_by (λ (h : History). drains h.notes) histories

-- the blocks that reclaim and drains put home, and the records that they dropped, up to the
-- greatest count
pub record CountsReclaimed (windows : List ServedWindow) (histories : List History) : Type 0 where
  pub blocks : min (sum_by (λ (s : ServedWindow). s.answer.blocks) windows) most_count
      ≡ min (sum_by (λ (h : History). blocks_put_home h.base.look h.notes) histories) most_count
  pub records : min (sum_by (λ (s : ServedWindow). s.answer.records) windows) most_count
      ≡ min (sum_by (λ (h : History). records_dropped h.base.look h.notes) histories) most_count
  -- with those that are listed in the end they are those at opening and the writes to logs
  pub gone : (v : ℕ) (h : History) → slice_get histories v ≡ Some h → (IsTrue (is_broken h) → ⊥)
      → AreGone (records_dropped h.base.look h.notes) (length h.base.look.listed)
      (logged_writes h.notes) (length (last_look h.base.look h.notes).listed)
