-- What is counted of the windows of a run.
use Rattle.std.specs.Prelude.{◌≡◌, ◌≤◌, ◌<◌, ◌+◌, ◌-◌, ◌^◌, ℕ, Bool, true, false, List, min, count_by}
use Rattle.manager.specs.declared.part.Place.TheVariants.{Home, Log}
use Rattle.report.specs.declared.totals.Totals.{Totals}
use Rattle.request_turns.specs.declared.outcome.Outcome.{Outcome}
use Rattle.request_turns.specs.declared.outcome.Outcome.TheVariants.{Read, Wrote}
use Rattle.window_desks.specs.declared.request.Window.{Window}

-- nothing was counted
abbrev pub no_totals : Totals
no_totals = record {
  lines = 0;
  blank = 0;
  skipped = 0;
  reads = 0;
  writes = 0;
  home = 0;
  log = 0;
  drains = 0;
  blocks = 0;
  records = 0;
  span = 0;
}

-- an answered read
abbrev pub was_read : Outcome → Bool
was_read (Read mark sources) = true
was_read _ = false

-- an answered write
abbrev pub was_written : Outcome → Bool
was_written (Wrote place drained) = true
was_written _ = false

-- an answered write that went to a log
abbrev pub was_logged : Outcome → Bool
was_logged (Wrote (Log logger) drained) = true
was_logged _ = false

-- an answered write that went home
abbrev pub went_home : Outcome → Bool
went_home (Wrote Home drained) = true
went_home _ = false

-- an answered write that went home after a drain
abbrev pub was_drained : Outcome → Bool
was_drained (Wrote place drained) = drained
was_drained _ = false

-- the most that a count of what was reclaimed is
abbrev pub most_count : ℕ
most_count = 2 ^ 64 - 1

-- the outcomes of some requests more were counted
pub record CountsOutcomes (os : List Outcome) (old new : Totals) : Type 0 where
  pub reads : new.reads ≡ old.reads + count_by was_read os
  pub writes : new.writes ≡ old.writes + count_by was_written os
  pub home : new.home ≡ old.home + count_by went_home os
  pub log : new.log ≡ old.log + count_by was_logged os
  pub drains : new.drains ≡ old.drains + count_by was_drained os
  pub blocks : new.blocks ≡ old.blocks
  pub records : new.records ≡ old.records

-- a window more was counted
pub record CountsWindow (w : Window) (old new : Totals) : Type 0 where
  pub reads : new.reads ≡ old.reads + count_by was_read w.outcomes.items
  pub writes : new.writes ≡ old.writes + count_by was_written w.outcomes.items
  pub home : new.home ≡ old.home + count_by went_home w.outcomes.items
  pub log : new.log ≡ old.log + count_by was_logged w.outcomes.items
  pub drains : new.drains ≡ old.drains + count_by was_drained w.outcomes.items
  pub blocks : new.blocks ≡ min (old.blocks + w.blocks) most_count
  pub records : new.records ≡ min (old.records + w.records) most_count

-- so many requests more can be counted
pub record HasRoomFor (count : ℕ) (t : Totals) : Type 0 where
  pub reads : t.reads + count < 2 ^ 64
  pub writes : t.writes + count < 2 ^ 64
  pub home : t.home + count < 2 ^ 64
  pub log : t.log + count < 2 ^ 64
  pub drains : t.drains + count < 2 ^ 64

-- the counts of requests grew by at most so many
pub record AddsAtMost (count : ℕ) (old new : Totals) : Type 0 where
  pub reads : new.reads ≤ old.reads + count
  pub writes : new.writes ≤ old.writes + count
  pub home : new.home ≤ old.home + count
  pub log : new.log ≤ old.log + count
  pub drains : new.drains ≤ old.drains + count
