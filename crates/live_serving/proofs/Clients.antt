-- The clients of a door at a worker are clients at its pass.
use Rattle.std.proofs.Common.{◌≡◌, ℕ, Bool, List, Option}
use Rattle.turn_lock.specs.Passes.{IsSamePass}
use Rattle.nbd_doors.specs.Doors.{ServesDoor}
use Rattle.nbd_doors.specs.declared.door.Connection.{Connection}
use Rattle.nbd_doors.proofs.Along.{door_along, door_keeps}
use Rattle.nbd_serving.specs.Turns.{MakesTurn}
use Rattle.nbd_serving.specs.declared.worker.WorkerVolume.{WorkerVolume}
use Rattle.nbd_serving.proofs.WorkerServing.{Made, Same, same_none, same_both, same_made}

module _ {R D S K G : Type 0} (tells : Bool) (left : S → Option (List ℕ)) (source_faults : S → ℕ) (taken : K → Option (List ℕ)) (sink_faults : K → ℕ) (name : List ℕ) (home most : ℕ) (gave : G → Option (Connection S K) → G → Type 0) (d : G) (v : WorkerVolume R D) (e : G) (w : WorkerVolume R D)
    (s : ServesDoor left source_faults taken sink_faults (Made tells) name home most gave d v e w) where
  pub seen : ServesDoor left source_faults taken sink_faults (MakesTurn tells) name home most gave d v.worker.now e w.worker.now
  seen = (door_along left source_faults taken sink_faults (Made tells) (MakesTurn tells) (λ (x : WorkerVolume R D). x.worker.now) (λ (x : WorkerVolume R D). Unit {0}) (λ t a b fits turn. (tt, turn.0)) name home most gave d v e w s tt).1

  kept : Same tells v w
  kept = door_keeps left source_faults taken sink_faults (Made tells) name home most gave (Same tells) (same_none tells) (same_both tells) (same_made tells) d v e w s

  pub same_pass : IsSamePass v.worker.now w.worker.now
  same_pass = kept.0

  pub same_reference : w.worker.ghost_name ≡ v.worker.ghost_name
  same_reference = kept.1
