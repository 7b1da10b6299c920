-- Locks and passes made of stations, and stations of these.
use Rattle.std.specs.Prelude.{◌≡◌, ◌<◌, ◌≤◌, ◌+◌, ◌++◌, ℕ, List, [], map, reverse, length, vec_capacity, slice_index_or, All}
use Rattle.turn_lock.specs.Passes.{lock_id}
use Rattle.std.specs.declared.alloc.Global.{Global}
use Rattle.std.specs.declared.vec.Vec.{Vec}
use Rattle.request_turns.specs.Helped.{ManagerLock}
use Rattle.window_desks.specs.Floors.{passes_of}
use Rattle.window_desks.specs.declared.desk.Desk.{Desk}
use Rattle.manager.specs.Stations.{HasOwnPasses}
use Rattle.manager.specs.declared.station.Station.{Station}
use Rattle.window_desks.specs.declared.floor.Floor.{Floor}
use Rattle.window_desks.specs.declared.floor.Passes.{Passes}

-- station k has the id k, the lock of that volume's manager, and the passes 0, 1 and 2 of its lock,
-- in no turn
pub record IsStation {D : Type 0} (k : ℕ) (s : Station D) : Type 0 where
  pub id : s.id ≡ k
  pub owner : (lock_id s.lock).base.volume.began.owner ≡ k
  pub own_passes : HasOwnPasses s
  pub open own_passes use *

abbrev pub AreStations : {D : Type 0} → List (Station D) → Type 0
AreStations {D} ss = (k : ℕ) (d : Station D) → k < length ss → IsStation k (slice_index_or ss k d)

-- each lock and pass is at its station's place
pub record AreMoved {D : Type 0} (ss : List (Station D)) (ls : List (ManagerLock D))
    (p : Passes D) : Type 0 where
  pub locks : ls ≡ map (λ (s : Station D). s.lock) ss
  pub ids : map (λ (d : Desk D). d.id) p.desks.items ≡ map (λ (s : Station D). s.id) ss
  pub workers : map (λ (d : Desk D). d.worker) p.desks.items ≡ map (λ (s : Station D). s.worker) ss
  pub helpers : p.helpers.items ≡ map (λ (s : Station D). s.helper) ss
  pub keepers : p.keepers.items ≡ map (λ (s : Station D). s.keeper) ss

-- .. of a floor
abbrev pub IsMoved : {D : Type 0} → List (Station D) → Floor D → Type 0
IsMoved {D} ss f = AreMoved ss f.locks.now (passes_of f)

-- locks and passes of stations: each at its place, no outcome in a desk, and room for as many
-- stations
pub record AreSetUp {D : Type 0} (ss : List (Station D)) (ls : List (ManagerLock D))
    (p : Passes D) : Type 0 where
  pub moved : AreMoved ss ls p
  pub empty : All (λ (d : Desk D). d.outcomes.items ≡ []) p.desks.items
  pub left : p.room.items ≡ []
  pub room : length ss ≤ vec_capacity p.room

-- some stations are moved, and the others wait, the next last
pub record AreMoving {D : Type 0} (ss : List (Station D)) (ls : Vec (ManagerLock D) Global)
    (p : Passes D) : Type 0 where
  pub done : List (Station D)
  pub parts : ss ≡ done ++ reverse p.room.items
  pub moved : AreMoved done ls.items p
  pub empty : All (λ (d : Desk D). d.outcomes.items ≡ []) p.desks.items
  pub lock_room : length ls.items + length p.room.items ≤ vec_capacity ls
  pub desk_room : length p.desks.items + length p.room.items ≤ vec_capacity p.desks
  pub helper_room : length p.helpers.items + length p.room.items ≤ vec_capacity p.helpers
  pub keeper_room : length p.keepers.items + length p.room.items ≤ vec_capacity p.keepers
  pub room : length ss ≤ vec_capacity p.room

-- the last stations are made, the first of them last
pub record AreLeaving {D : Type 0} (ls : List (ManagerLock D)) (p : Passes D)
    (ms : List (ManagerLock D)) (q : Passes D) : Type 0 where
  pub locks : ls ≡ ms ++ map (λ (s : Station D). s.lock) (reverse q.room.items)
  pub ids : map (λ (d : Desk D). d.id) p.desks.items
      ≡ map (λ (d : Desk D). d.id) q.desks.items
      ++ map (λ (s : Station D). s.id) (reverse q.room.items)
  pub workers : map (λ (d : Desk D). d.worker) p.desks.items
      ≡ map (λ (d : Desk D). d.worker) q.desks.items
      ++ map (λ (s : Station D). s.worker) (reverse q.room.items)
  pub helpers : p.helpers.items
      ≡ q.helpers.items ++ map (λ (s : Station D). s.helper) (reverse q.room.items)
  pub keepers : p.keepers.items
      ≡ q.keepers.items ++ map (λ (s : Station D). s.keeper) (reverse q.room.items)
  pub desk_count : length q.desks.items ≡ length ms
  pub helper_count : length q.helpers.items ≡ length ms
  pub keeper_count : length q.keepers.items ≡ length ms
  pub room : length ms + length q.room.items ≤ vec_capacity q.room
