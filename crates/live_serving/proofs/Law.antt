-- The clients of a door are clients of a plain array: each turn is the next of the worker's own entries in the one history of the
-- volume's lock, whatever its helper and its keeper did between.
use Rattle.std.proofs.Common.{ℕ, Bool, List, Option}
use Rattle.std.specs.Prelude.{IsTrue}
use Rattle.turn_lock.specs.Histories.{Entry}
use Rattle.turn_lock.specs.LockIds.{LockId}
use Rattle.turn_lock.specs.Passes.{pass_mine}
use Rattle.manager.specs.declared.base.ManagerBase.{ManagerBase}
use Rattle.request_turns.specs.Turns.{ManagerPass}
use Rattle.nbd_doors.specs.Doors.{ServesDoor}
use Rattle.nbd_doors.specs.declared.door.Connection.{Connection}
use Rattle.nbd_doors.proofs.Along.{door_along}
use Rattle.nbd_serving.specs.Histories.{TurnsIn}
use Rattle.nbd_serving.specs.Turns.{MakesTurn}
use Rattle.nbd_serving.proofs.Law.{IsWorkerOf, step}

pub door_in : {D S K G : Type 0} (tells : Bool) (lock : LockId ManagerBase) (es : List Entry) (left : S → Option (List ℕ)) (source_faults : S → ℕ) (taken : K → Option (List ℕ)) (sink_faults : K → ℕ) (name : List ℕ) (home most : ℕ) (gave : G → Option (Connection S K) → G → Type 0)
    (d : G) (p : ManagerPass D) (e : G) (q : ManagerPass D) → IsWorkerOf lock es q → ServesDoor left source_faults taken sink_faults (MakesTurn tells) name home most gave d p e q
    → ServesDoor left source_faults taken sink_faults (TurnsIn (IsTrue tells) lock.base.volume.began es) name home most gave d (pass_mine p) e (pass_mine q)
door_in tells lock es left source_faults taken sink_faults name home most gave d p e q fits s =
    (door_along left source_faults taken sink_faults (MakesTurn tells) (TurnsIn (IsTrue tells) lock.base.volume.began es) pass_mine (IsWorkerOf lock es) (step tells lock es) name home most gave d p e q s fits).1
