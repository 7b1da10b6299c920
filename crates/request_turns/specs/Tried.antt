-- What the steps of a request's turn make of the manager.
use Rattle.std.specs.Prelude.{◌≡◌, ◌≤◌, ◌+◌, ◌^◌, ◌↔◌, ℕ, Bool, List, [], None, Some, Result, Err, OnOk, IfOk, IfErr, IsSome, length, map, count_by}
use Rattle.std.specs.List.{range_with_len}
use Rattle.turn_lock.specs.Passes.{pass_seen, pass_mine, IsInTurnWith, IsSamePass}
use Rattle.wol_disk.specs.Disk.{State, Block}
use Rattle.spin_model.specs.Spun.{state_of}
use Rattle.wol_model.specs.History.{worker}
use Rattle.wol_model.specs.Index.{listed_in, is_covered}
use Rattle.wol_promise.specs.Policy.{drained, woken}
use Rattle.log_segment.specs.Records.{count_of}
use Rattle.log_segment.specs.declared.item.Item.{Item}
use Rattle.logger.specs.Lanes.{logger_of}
use Rattle.logger.specs.declared.shared.Shared.{Shared}
use Rattle.manager.specs.Answers.{home_write, written, was_read, IsPlaceOf}
use Rattle.manager.specs.Groups.{AreItemsOf, ruled_run, HasRun}
use Rattle.manager.specs.Reclaim.{OnKept, OnFailed, KeepsOn, BreaksOff, Always}
use Rattle.manager.specs.Seen.{look_of_manager}
use Rattle.manager.specs.Stands.{IsReady, IsHome, Leaves, passed_in}
use Rattle.manager.specs.Writing.{HasLook, IsAsBefore, TellsFault, ruled_place}
use Rattle.manager.specs.declared.manager.Manager.{Manager}
use Rattle.manager.specs.declared.part.Part.{Part}
use Rattle.manager.specs.declared.part.Place.{Place}
use Rattle.manager.specs.declared.part.ReadRefusal.{ReadRefusal}
use Rattle.manager.specs.declared.part.ReadRefusal.TheVariants as NotRead
use Rattle.manager.specs.declared.part.Sources.{Sources}
use Rattle.manager.specs.declared.part.StepFault.{StepFault}
use Rattle.manager.specs.declared.part.WriteRefusal.{WriteRefusal}
use Rattle.manager.specs.declared.part.WriteRefusal.TheVariants.{Down, VersionsSpent}
use Rattle.manager.specs.declared.run.Ran.{Ran}
use Rattle.request_turns.specs.Counts.{Counts, HasTaken}
use Rattle.request_turns.specs.Entries.{read_outcome}
use Rattle.request_turns.specs.Turns.{ManagerPass, faulty_part}
use Rattle.request_turns.specs.Written.{IsDiskFault}
use Rattle.request_turns.specs.declared.outcome.Outcome.{Outcome}
use Rattle.request_turns.specs.declared.tally.Tally.{Tally}

-- a manager can be asked to read or write so many blocks from `first` on
pub record CanBeAsked {D : Type 0} (state : D → State) (shared : Shared D) (first count : ℕ)
    (m : Manager D) : Type 0 where
  pub ready : IsReady state m
  pub at : IsHome shared m
  pub some : 1 ≤ count
  pub few : count ≤ m.most
  pub fits : first + count ≤ (state_of state m.home).size

-- it was asked to read them, and gave these blocks, with this answer
pub record HasReplied {D : Type 0} (tells : Bool) (state : D → State) (first count : ℕ)
    (answer : Result Sources ReadRefusal) (o : Outcome) (blocks : List Block) (m n : Manager D) :
    Type 0 where
  pub long : length blocks ≡ count
  pub outcome_is : o ≡ read_outcome blocks answer
  pub stands : Leaves tells state m n (was_read first blocks answer) [] worker
  pub look : OnOk answer (look_of_manager n ≡ woken (look_of_manager m) first count)
  pub logged : IfOk answer (λ s.
      s.logged ≡ count_by (is_covered (listed_in m.index.entries)) (range_with_len first count))
  pub all : IfOk answer (λ s. s.home + s.logged ≡ count)
  pub down : (p : Part) → (answer ≡ Err (NotRead.Down p)) ↔ (m.down ≡ Some p)
  pub unchanged : IsSome m.down → n ≡ m
  pub failed : (p : Part) → answer ≡ Err (NotRead.DiskFault p) → n.down ≡ Some p

-- it was asked to write these blocks, with this answer
pub record HasTried {D : Type 0} (tells : Bool) (state : D → State) (first : ℕ)
    (blocks : List Block) (answer : Result Place WriteRefusal) (m n : Manager D) : Type 0 where
  pub stands : Leaves tells state m n (written m.next first blocks answer)
      (passed_in n.rooms.items) worker
  pub placed : IsPlaceOf (map logger_of m.lanes.items) answer (ruled_place m n first blocks)
  pub look : HasLook (ruled_place m n first blocks) (home_write first blocks) answer
      (look_of_manager m) (look_of_manager n)
  pub down : (p : Part) → (answer ≡ Err (Down p)) ↔ (m.down ≡ Some p)
  pub versions : (answer ≡ Err VersionsSpent) ↔ ((m.down ≡ None) × (m.next ≡ 2 ^ 63))
  pub fault : TellsFault state answer m n

-- .. and it stands in its place in a turn that has seen no more since
pub record HasTriedInPlace {D : Type 0} (tells : Bool) (state : D → State) (first : ℕ)
    (blocks : List Block) (answer : Result Place WriteRefusal) (p q : ManagerPass D) : Type 0 where
  pub same : IsSamePass p q
  pub seen : pass_seen q ≡ pass_seen p
  pub mine : pass_mine q ≡ pass_mine p
  pub tried : (m : Manager D) → IsInTurnWith m p
      → (n : Manager D) × IsInTurnWith n q × HasTried tells state first blocks answer m n

-- a manager can be asked to write some first ones of these items
pub record CanWriteSome {D : Type 0} (state : D → State) (shared : Shared D) (items : List Item)
    (from : List Block) (m : Manager D) : Type 0 where
  pub ready : IsReady state m
  pub at : IsHome shared m
  pub some : 1 ≤ length items
  pub items_ : AreItemsOf m.most (state_of state m.home).size items
  pub blocks : count_of items ≤ length from

-- it was, with this answer
pub record HasTriedSome {D : Type 0} (tells : Bool) (state : D → State) (items : List Item)
    (from : List Block) (ran : Ran) (m n : Manager D) : Type 0 where
  pub run : HasRun tells state items from ran.items ran.answer (ruled_run m n items from) m n
  pub placed : IsPlaceOf (map logger_of m.lanes.items) ran.answer (ruled_run m n items from)
  pub down : (p : Part) → (ran.answer ≡ Err (Down p)) ↔ (m.down ≡ Some p)
  pub versions : (ran.answer ≡ Err VersionsSpent) ↔ ((m.down ≡ None) × (m.next ≡ 2 ^ 63))
  pub fault : TellsFault state ran.answer m n
  pub unchanged : IsAsBefore ran.answer m n

-- a manager that was not down was drained, with this answer, and what was counted
pub record HasDrained {D T : Type 0} (tells : Bool) (state : D → State)
    (answer : Result T StepFault) (done : Tally) (m n : Manager D) : Type 0 where
  pub drained_ : OnOk answer
      ((n.down ≡ None) × (look_of_manager n ≡ drained (look_of_manager m)))
  pub refused : IfErr answer IsDiskFault
  pub down : IfErr answer (λ f. n.down ≡ Some (faulty_part f))
  pub none : Tally
  pub fresh : Counts 0 0 none
  pub taken : OnOk answer (HasTaken none done (look_of_manager m) (look_of_manager n))
  pub keeps : OnKept answer (KeepsOn tells state m n Always)
  pub broke : OnFailed answer (BreaksOff tells state m n Always)
