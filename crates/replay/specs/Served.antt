-- Windows that are served one after another on a floor.
use Rattle.std.specs.Prelude.{◌≡◌, ◌⊎◌, ◌<◌, ◌++◌, ℕ, Bool, true, false, List, [], ◌∷◌, length, min, count_by, sum_by, slice_index_or}
use Rattle.std.specs.List.{flat_map}
use Rattle.turn_lock.specs.Histories.{Begins, Entry}
use Rattle.turn_lock.specs.Passes.{pass_number, pass_mine, pass_seen, IsFree, IsSamePass}
use Rattle.spin_model.specs.Operations.{operation_of}
use Rattle.wol_model.specs.Journal.{Started}
use Rattle.request_turns.specs.declared.outcome.Outcome.{Outcome}
use Rattle.request_workers.specs.Begun.{SpindlePass, HaveBegun, HaveBegunVolumes}
use Rattle.request_workers.specs.Floors.{AreSameButRoom, HasRun}
use Rattle.window_desks.specs.declared.floor.Floor.{Floor}
use Rattle.window_desks.specs.declared.request.Reclaim.{Reclaim}
use Rattle.window_desks.specs.declared.request.Window.{Window}
use Rattle.report.specs.declared.totals.Totals.{Totals}
use Rattle.trace_windows.specs.Batches.{Batched}
use Rattle.replay.specs.Counts.{was_read, was_written, was_logged, went_home, was_drained, most_count}

-- ---- Spindles

-- the spindle's keeper let the account start
pub record HasStarted (at : ℕ) (p q : SpindlePass) : Type 0 where
  pub same : IsSamePass p q
  pub free : IsFree q
  pub mine : pass_mine q ≡ pass_mine p ++ (pass_number p, operation_of (Started at)) ∷ []
  -- behind what it had seen, and what other passes did since
  pub seen : (before : List Entry) × Begins (pass_seen p) before
      × (pass_seen q ≡ before ++ (pass_number p, operation_of (Started at)) ∷ [])

-- so did each of them
abbrev pub HaveStarted : (at : ℕ) → List SpindlePass → List SpindlePass → Type 0
HaveStarted at ps qs = (k : ℕ) (d : SpindlePass) → k < length ps
    → HasStarted at (slice_index_or ps k d) (slice_index_or qs k d)

-- each is still the same pass
pub record AreSamePasses (ps qs : List SpindlePass) : Type 0 where
  pub count : length qs ≡ length ps
  pub each : (k : ℕ) (d : SpindlePass) → k < length ps
      → IsSamePass (slice_index_or ps k d) (slice_index_or qs k d)

-- the account starts with the first window
abbrev pub StartsOnce : (has_started : Bool) → (at : ℕ) → List SpindlePass → List SpindlePass
    → Type 0
StartsOnce true at ps qs = qs ≡ ps
StartsOnce false at ps qs = HaveStarted at ps qs

-- ---- Windows

-- a window that was served: its moment and requests, and what running them gave
pub record ServedWindow : Type 0 where
  pub batch : Batched
  pub answer : Window

-- the list has none
abbrev pub is_none_served : List ServedWindow → Bool
is_none_served [] = true
is_none_served (s ∷ ss) = false

-- the outcomes of the requests of windows, in order
abbrev pub outcomes_in : List ServedWindow → List Outcome
outcomes_in ss = flat_map (λ (s : ServedWindow). s.answer.outcomes.items) ss

-- what is counted of windows; a count of what was reclaimed stands still at its type's end
pub record AreTotals (ss : List ServedWindow) (t : Totals) : Type 0 where
  pub reads : t.reads ≡ count_by was_read (outcomes_in ss)
  pub writes : t.writes ≡ count_by was_written (outcomes_in ss)
  pub home : t.home ≡ count_by went_home (outcomes_in ss)
  pub log : t.log ≡ count_by was_logged (outcomes_in ss)
  pub drains : t.drains ≡ count_by was_drained (outcomes_in ss)
  pub blocks : t.blocks ≡ min (sum_by (λ (s : ServedWindow). s.answer.blocks) ss) most_count
  pub records : t.records ≡ min (sum_by (λ (s : ServedWindow). s.answer.records) ss) most_count

module _ {D : Type 0} (tells : Bool) (mode : Reclaim) where
  -- the spindles and then the managers were told the window's moment, and its requests were run
  pub record WasServed (s : ServedWindow) (f : Floor D) (ps : List SpindlePass) (g : Floor D)
      (qs : List SpindlePass) : Type 0 where
    pub awake : List Bool
    pub begun : Floor D
    pub spindles : HaveBegun s.batch.moment awake ps qs
    pub volumes : HaveBegunVolumes tells awake f.keepers.items begun.keepers.items
    pub only : begun ≡ record f { keepers = begun.keepers }
    pub run : HasRun tells s.batch.requests mode begun g s.answer

  -- so were these, one after another
  abbrev pub WereServed : List ServedWindow → (f : Floor D) → List SpindlePass → (g : Floor D)
      → List SpindlePass → Type 0
  WereServed [] f ps g qs = (g ≡ f) × (qs ≡ ps)
  WereServed (s ∷ ss) f ps g qs =
      (h : Floor D) × (rs : List SpindlePass) × WasServed s f ps h rs × WereServed ss h rs g qs

  -- .. from the start of the account on
  abbrev pub ServedFromStart : List ServedWindow → (f : Floor D) → List SpindlePass → (g : Floor D)
      → List SpindlePass → Type 0
  ServedFromStart [] f ps g qs = (g ≡ f) × (qs ≡ ps)
  ServedFromStart (s ∷ ss) f ps g qs =
      (rs : List SpindlePass) × HaveStarted s.batch.moment ps rs × WereServed (s ∷ ss) f rs g qs

-- no request of a window was run, though it may have begun
pub record WasNotRun {D : Type 0} (tells : Bool) (f g : Floor D) : Type 0 where
  pub desks : AreSameButRoom f.desks.items g.desks.items
  pub helpers : g.helpers ≡ f.helpers
  pub locks : g.locks ≡ f.locks
  pub keepers : (g.keepers ≡ f.keepers)
      ⊎ ((awake : List Bool) × HaveBegunVolumes tells awake f.keepers.items g.keepers.items)

-- What the keepers did behind windows, which had begun the account or not: nothing; or, where
-- memory ran out before a further window began, they started the account alone; or of a further
-- window, of which no request was run, they told the spindles the moment, and the managers too.
pub data Further {D : Type 0} (tells has_started : Bool) (f : Floor D) (ps : List SpindlePass)
    (g : Floor D) (qs : List SpindlePass) : Type 0 where
  none_further : g.keepers ≡ f.keepers → qs ≡ ps → Further tells has_started f ps g qs
  fails_to_begin : (moment : ℕ) (start : List SpindlePass) → g.keepers ≡ f.keepers
      → StartsOnce has_started moment ps start → qs ≡ start
      → Further tells has_started f ps g qs
  begins_alone : (moment : ℕ) (start : List SpindlePass) (awake : List Bool)
      → StartsOnce has_started moment ps start → HaveBegun moment awake start qs
      → HaveBegunVolumes tells awake f.keepers.items g.keepers.items
      → Further tells has_started f ps g qs
