-- What the beginning of a window makes of the keepers' passes.
use Rattle.std.specs.Prelude.{◌≡◌, ◌<◌, ◌∷◌, ◌++◌, ℕ, Bool, List, [], length, slice_index_or}
use Rattle.turn_lock.specs.Histories.{Begins, Entry}
use Rattle.turn_lock.specs.Passes.{pass_lock, pass_number, pass_seen, pass_mine, IsPassOf, IsFree, IsSamePass}
use Rattle.turn_lock.specs.declared.pass.PassOf.{PassOf}
use Rattle.spin_model.specs.Operations.{operation_of}
use Rattle.spin_model.specs.Spindles.{state_after}
use Rattle.spin_model.specs.declared.spindle.Spindle.{Spindle}
use Rattle.spin_model.specs.declared.spindle.SpindleBase.{SpindleBase}
use Rattle.wol_model.specs.Journal.{Began}
use Rattle.logger.specs.declared.shared.Shared.{Shared}
use Rattle.request_turns.specs.Begun.{HasBegunVolume}
use Rattle.request_turns.specs.Turns.{ManagerPass}

-- a pass of a spindle's lock
abbrev pub SpindlePass : Type 0
SpindlePass = PassOf Spindle SpindleBase

-- one pass for each spindle, in order, in no turn
pub record AreKeepers {D : Type 0} (shared : Shared D) (ps : List SpindlePass) : Type 0 where
  pub count : length ps ≡ length shared.spindles.items
  pub own : (k : ℕ) (l : _) (d : SpindlePass) → k < length ps
      → IsPassOf (slice_index_or shared.spindles.items k l) (slice_index_or ps k d)
  pub free : (k : ℕ) (d : SpindlePass) → k < length ps → IsFree (slice_index_or ps k d)

-- the spindle's keeper let the moment t come, and was told whether the disk is awake
pub record HasBegun (t : ℕ) (awake : Bool) (p q : SpindlePass) : Type 0 where
  pub same : IsSamePass p q
  pub free : IsFree q
  pub mine : pass_mine q ≡ pass_mine p ++ (pass_number p, operation_of (Began t)) ∷ []
  -- behind what it had seen, and what other passes did since
  pub seen : (before : List Entry) × Begins (pass_seen p) before
      × (pass_seen q ≡ before ++ (pass_number p, operation_of (Began t)) ∷ [])
  pub answer : awake ≡ (state_after (pass_lock q).base (pass_seen q)).awake

-- whether each spindle is awake, in order
abbrev pub HaveBegun : (t : ℕ) → (awake : List Bool) → List SpindlePass → List SpindlePass → Type 0
HaveBegun t awake ps qs = (k : ℕ) (b : Bool) (d : SpindlePass) → k < length ps
    → HasBegun t (slice_index_or awake k b) (slice_index_or ps k d) (slice_index_or qs k d)

-- so did the keeper of each volume
abbrev pub HaveBegunVolumes : {D : Type 0} → (tells : Bool) → (awake : List Bool)
    → List (ManagerPass D) → List (ManagerPass D) → Type 0
HaveBegunVolumes {D} tells awake ps qs =
    (k : ℕ) (d : ManagerPass D) → k < length ps
    → HasBegunVolume tells awake (slice_index_or ps k d) (slice_index_or qs k d)
