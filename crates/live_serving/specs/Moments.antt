-- What moments make of keepers and helpers.
use Rattle.std.specs.Prelude.{◌≡◌, ◌⊎◌, ◌≤◌, ◌<◌, ◌^◌, ◌++◌, ◌∷◌, [], ℕ, Bool, true, false, List, None, Some, Option, length, slice_index_or}
use Rattle.std.specs.List.{AllByRecursion}
use Rattle.turn_lock.specs.Passes.{pass_lock}
use Rattle.wol_model.specs.History.{helper, keeper}
use Rattle.logger.specs.declared.shared.Shared.{Shared}
use Rattle.manager.specs.declared.base.LaneBase.{LaneBase}
use Rattle.manager.specs.declared.part.StepFault.{StepFault}
use Rattle.request_turns.specs.Helped.{ManagerLock}
use Rattle.request_turns.specs.Turns.{ManagerPass}
use Rattle.window_desks.specs.Begun.{AreKeepers, HaveBegun, HaveBegunVolumes, SpindlePass}
use Rattle.window_desks.specs.Helped.{AreHelped, ArePassesAt, AreSharing, IsCause}
use Rattle.live_serving.specs.Ticks.{AreInOrder, GoesOn}

-- what the thread of the moments has: the passes of the keepers of all spindles and of all volumes,
-- and of all helpers, in order
pub record Hands (D : Type 0) : Type 0 where
  pub spindles : List SpindlePass
  pub keepers : List (ManagerPass D)
  pub helpers : List (ManagerPass D)

abbrev pub hands : {D : Type 0} → List SpindlePass → (keepers helpers : List (ManagerPass D))
    → Hands D
hands spindles keepers helpers =
    record { spindles = spindles; keepers = keepers; helpers = helpers }

-- they are those of these locks, in no turn; the first refused step of a helper has its cause
pub record CanTick {D : Type 0} (ls : List (ManagerLock D)) (shared : Shared D) (h : Hands D)
    (fault : Option (ℕ × StepFault)) : Type 0 where
  pub spindles_ : AreKeepers shared h.spindles
  pub keeper_count : length h.keepers ≡ length ls
  pub helper_count : length h.helpers ≡ length ls
  pub volumes : length ls ≤ length h.spindles
  pub few : length ls ≤ 2 ^ 32
  pub keepers_ : ArePassesAt ls keeper h.keepers
  pub helpers_ : ArePassesAt ls helper h.helpers
  pub owners : (k : ℕ) (d : ManagerPass D) → k < length h.keepers
      → (pass_lock (slice_index_or h.keepers k d)).base.volume.began.owner ≡ k
  pub views : (k : ℕ) (d : ManagerPass D) → k < length h.keepers
      → AllByRecursion (λ (b : LaneBase). b.logger < length h.spindles)
      (pass_lock (slice_index_or h.keepers k d)).base.lanes
  pub sharing : AreSharing shared h.helpers
  pub cause : IsCause h.helpers fault

-- a moment came: each spindle's keeper let it come, and was told so whether its disk is awake; each
-- volume's keeper was told which disks are; and the helpers had turns
pub record HasTicked {D : Type 0} (tells : Bool) (t : ℕ) (awake : List Bool) (s n : Hands D) :
    Type 0 where
  pub spindles : HaveBegun t awake s.spindles n.spindles
  pub told : length awake ≡ length s.spindles
  pub volumes : HaveBegunVolumes tells awake s.keepers n.keepers
  pub helped : AreHelped tells s.helpers n.helpers

-- what a call of the ticks gave, and the last moment that they gave
module _ {T D : Type 0} (gave : T → Option ℕ → T → Type 0) (last_of : T → ℕ) (tells : Bool) where
  -- moments came one after another: those of them for which there was memory, each with which disks
  -- were awake; at the others nobody had a turn
  pub data HaveTicked (k : T) (s : Hands D) : (moments : List (ℕ × List Bool)) → T → Hands D
      → Type 0 where
    none : HaveTicked k s [] k s
    next : (moments : List (ℕ × List Bool)) (l m : T) (n o : Hands D) (t : ℕ) (awake : List Bool)
        → HaveTicked k s moments l n → gave l (Some t) m → HasTicked tells t awake n o
        → HaveTicked k s (moments ++ (t, awake) ∷ []) m o
    missed : (moments : List (ℕ × List Bool)) (l m : T) (n : Hands D) (t : ℕ)
        → HaveTicked k s moments l n → gave l (Some t) m → HaveTicked k s moments m n

  -- a moment came, or was missed for want of memory; or none came any more
  abbrev pub TicksNext : (k : T) → (s : Hands D) → (l : T) → (n : Hands D) → Bool → Type 0
  TicksNext k s l n true = (t : ℕ) × gave k (Some t) l × GoesOn (last_of k) (Some t) (last_of l)
      × (((awake : List Bool) × HasTicked tells t awake s n) ⊎ (n ≡ s))
  TicksNext k s l n false = gave k None l × GoesOn (last_of k) None (last_of l) × (n ≡ s)

  -- .. until none came any more, and none went back
  pub record HasRunOut (k : T) (s : Hands D) (l : T) (n : Hands D) : Type 0 where
    pub moments : List (ℕ × List Bool)
    pub last : T
    pub ticked : HaveTicked k s moments last n
    pub over : gave last None l
    pub in_order : AreInOrder (last_of k) moments (last_of l)
