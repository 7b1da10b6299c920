-- What serving a volume of a bay comes to.
use Rattle.std.specs.Prelude.{◌≡◌, ◌≢◌, ◌<◌, ℕ, Bool, List, [], length, None, Some, Result, Ok, Err, IsSome, IsTrue, slice_get, unwrap_or}
use Rattle.wol_promise.specs.Policy.{PartName}
use Rattle.turn_lock.specs.Histories.{Entry, own}
use Rattle.wol_disk.specs.Disk.{Rose, State}
use Rattle.wol_bay.specs.Bay.{BayState, Told}
use Rattle.wol_config.specs.Documents.{names_of, number_named}
use Rattle.wol_config.specs.declared.config.Config.{Config}
use Rattle.wol_config.specs.declared.config.VolumeConf.{VolumeConf}
use Rattle.wol_model.specs.History.{IsCut, flight_of, in_flight}
use Rattle.wol_model.specs.Images.{Images, recovered_from}
use Rattle.wol_promise.specs.Manager.{Base}
use Rattle.wol_promise.specs.Ruled.{Noted, entries_of, last_look}
use Rattle.wol_promise.specs.Stands.{IsOpening}
use Rattle.report.specs.declared.fault.Fault.TheVariants.{Memory, Volume}
use Rattle.rack.specs.Troubles.{trouble_of}
use Rattle.manager.specs.Stands.{takes_in}
use Rattle.volume_images.specs.Left.{IsTold}
use Rattle.volume_images.specs.Volumes.{AreLeft, images_read, shapes_of}
use Rattle.rack.specs.Closes.{HasFaultyPart, part_named}
use Rattle.rack.specs.PoolUses.{ArePools, PassesEmpty, TakesFew}
use Rattle.rack_parts.specs.declared.volume_fault.VolumeFault.{VolumeFault}
use Rattle.request_turns.specs.Entries.{IsFlightAt}
use Rattle.rack.specs.NotOpened.{IsFirstClosed, LeavesViews}
use Rattle.nbd_session.specs.declared.ending.Shaken.TheVariants.{Agreed, Unagreed as NotAgreed}
use Rattle.nbd_session.specs.declared.ending.Unagreed.{Unagreed}
use Rattle.nbd_session.specs.Sessions.{CountsFaults, IsSession}
use Rattle.nbd_session.specs.declared.session.Ended.{Ended}
use Rattle.nbd_session.specs.declared.session.NbdFault.{NbdFault}
use Rattle.nbd_serving.specs.Pieces.{Pieces, pieces_of}
use Rattle.nbd_serving.specs.Racks.{Begins}
use Rattle.nbd_serving.specs.Volumes.{IsKept, IsOpen, KeepsBay}
use Rattle.inspection.specs.Logs.{LeavesDistinct, LeavesLogs}
use Rattle.nbd_serving.specs.Entries.{AddsEntry}
use Rattle.nbd_serving.specs.Wires.{Wire, answer_of}
use Rattle.nbd_serving.specs.declared.serving.Beginning.{Beginning}
use Rattle.nbd_serving.specs.declared.stop.Stop.{Stop}
use Rattle.nbd_serving.specs.declared.stop.Stop.TheVariants as stop
use Rattle.wol_config.specs.Configs.{most_of}

-- ---- Images

-- whatever images a crash leaves, the volume recovers to its array at entry after the pieces that
-- stand, or with what was in flight when a call of a disk failed
abbrev pub LeavesServed : Config → (volume : ℕ) → (end : Pieces) → (entry left : Told) → Type 0
LeavesServed config volume end entry left = (images : Images) → AreLeft config left images
    → IsCut (recovered_from (shapes_of config) (images_read config entry) volume) end.stand
    (unwrap_or end.flight []) (recovered_from (shapes_of config) images volume)

-- and each other volume was open, and is kept
abbrev pub LeavesOthers : Config → (volume : ℕ) → (entry left : Told) → Type 0
LeavesOthers config volume entry left =
    (v : ℕ) → v < length config.volumes.items → v ≢ volume → IsKept config v entry left

-- ---- The session

-- by these entries of the pools' locks no volume but this one took a segment
abbrev pub OnlyTakes : Config → (volume : ℕ) → (pools : ℕ → List Entry) → Type 0
OnlyTakes config volume pools = (k v : ℕ) → k < length config.volumes.items → v ≢ volume
    → takes_in (own v (pools k)) ≡ 0

-- All volumes were open, and this one was served: the session was one at a volume that begins with
-- its array at entry, and with the version that the images give next, and each turn added an entry
-- to the volume's.
pub record ServesOpen (tells : Bool) (config : Config) (volume : ℕ) (old new : BayState)
    (wire wire' : Wire) (answer : Result Ended NbdFault) : Type 0 where
  pub conf : VolumeConf
  pub conf_is : slice_get config.volumes.items volume ≡ Some conf
  pub base : Base
  pub owner : base.owner ≡ volume
  pub open_ : IsTrue tells → IsTold (IsOpen config volume conf base) old.told new.told
  pub opening : IsOpening base
  pub notes : List Noted
  pub session : IsSession (AddsEntry (IsTrue tells) base) conf.home (most_of config) [] notes
      wire.left wire'.left wire.taken wire'.taken answer
  pub faults :
      CountsFaults wire.source_faults wire'.source_faults wire.sink_faults wire'.sink_faults answer
  -- no entry passed over a logger but where its free segments were found spent
  pub pools : (k : ℕ) → List Entry
  pub are_pools : IsTrue tells
      → IsTold (λ entry left. ArePools config entry pools) old.told new.told
  pub passed : PassesEmpty pools base notes
  -- and of all pools together it took no more segments than it wrote to logs, where no call failed
  pub taken : TakesFew pools base notes
  -- .. and no other volume took one
  pub alone : OnlyTakes config volume pools
  -- a call of a disk that failed is counted, the part of this volume that is down in the end came
  -- back with a fault, and what was in flight was on its way home, where that is its home, and else
  -- to some log
  pub cause : IsSome (flight_of (entries_of notes)) → Rose old.faults new.faults
  pub faulty : IsSome (flight_of (entries_of notes))
      → (name : PartName) × ((last_look base.look notes).down ≡ Some name)
      × IsFlightAt (part_named volume name) (in_flight (entries_of notes))
      × IsTold (HasFaultyPart tells config volume base.view name) old.told new.told
  pub images : IsTrue tells
      → IsTold (LeavesServed config volume (pieces_of base.look notes)) old.told new.told
  -- no two records that are left have one version; where no call failed they are those of the last
  -- look, in logs on the loggers of the view
  pub distinct : IsTrue tells → IsTold (λ entry left. LeavesDistinct config volume left) old.told
      new.told
  pub logs : IsTrue tells → flight_of (entries_of notes) ≡ None → IsTold (λ entry left.
      LeavesLogs config volume base.view (last_look base.look notes).listed left) old.told new.told
  pub others : IsTrue tells → IsTold (LeavesOthers config volume) old.told new.told

-- ---- The command

-- A volume was to be served: no volume has the name; or there was no memory to open the volumes, or
-- one of them couldn't be opened, and no view was changed; or all were open, and no session began,
-- and all are kept, or the volume was served.
pub data ServesNamed {D : Type 0} (tells : Bool) (state : D → State) (config : Config)
    (begins : Beginning) (name : List ℕ) (old new : BayState) (wire wire' : Wire) :
    Result Ended Stop → Type 0 where
  unknown : number_named (names_of config.volumes.items) name ≡ None → new ≡ old → wire' ≡ wire
      → ServesNamed tells state config begins name old new wire wire' (Err stop.Unknown)
  no_memory : (volume : ℕ) → number_named (names_of config.volumes.items) name ≡ Some volume
      → LeavesViews tells state config old new → wire' ≡ wire
      → ServesNamed tells state config begins name old new wire wire' (Err (stop.Fault Memory))
  closed : (volume k : ℕ) (f : VolumeFault)
      → number_named (names_of config.volumes.items) name ≡ Some volume
      → IsFirstClosed tells state config old new k f → LeavesViews tells state config old new
      → wire' ≡ wire
      → ServesNamed tells state config begins name old new wire wire'
      (Err (stop.Fault (Volume k (trouble_of f))))
  unagreed : (volume : ℕ) (why : Unagreed)
      → number_named (names_of config.volumes.items) name ≡ Some volume
      → Begins config volume begins wire wire' (Ok (NotAgreed why))
      → KeepsBay tells state config old new
      → ServesNamed tells state config begins name old new wire wire' (Err (stop.Unagreed why))
  unbegun : (volume : ℕ) (f : NbdFault)
      → number_named (names_of config.volumes.items) name ≡ Some volume
      → Begins config volume begins wire wire' (Err f) → KeepsBay tells state config old new
      → ServesNamed tells state config begins name old new wire wire' (answer_of (Err f))
  served : (volume : ℕ) (begun : Wire) (answer : Result Ended NbdFault)
      → number_named (names_of config.volumes.items) name ≡ Some volume
      → Begins config volume begins wire begun (Ok Agreed)
      → ServesOpen tells config volume old new begun wire' answer
      → ServesNamed tells state config begins name old new wire wire' (answer_of answer)

-- ---- Completeness

-- the session ended or the handshake did, or no volume has the name, or there was no memory
abbrev pub Completes : Result Ended Stop → Type 0
Completes (Ok e) = Unit {0}
Completes (Err stop.Unknown) = Unit {0}
Completes (Err (stop.Fault f)) = f ≡ Memory
Completes (Err (stop.Unagreed why)) = Unit {0}
Completes (Err stop.Source) = ⊥
Completes (Err stop.Sink) = ⊥
