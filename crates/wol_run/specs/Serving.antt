-- What serving a volume of the configuration to a client comes to, and its exit status.
use Rattle.std.specs.Prelude.{◌≡◌, ◌≢◌, ℕ, ◌⊎◌, ◌≤◌, ◌++◌, Bool, IsTrue, List, [], length, Option, None, Some, Result, Ok}
use Rattle.std.specs.Io.KnownBytes.{Consumes, IsAtEnd}
use Rattle.wol_disk.specs.Disk.{State}
use Rattle.wol_bay.specs.Bay.{BayState}
use Rattle.wol_config.specs.declared.config.Config.{Config}
use Rattle.report.specs.Faults.{status_of}
use Rattle.report.specs.declared.fault.Fault.{Fault}
use Rattle.volume_images.specs.Left.{IsTold}
use Rattle.rack.specs.Opens.{KeepsAllSound, KeepsOthers}
use Rattle.nbd_session.specs.Headers.{HasMagic, IsRequest}
use Rattle.nbd_session.specs.Sessions.{IsCut}
use Rattle.nbd_session.specs.declared.header.Command.TheVariants as command
use Rattle.nbd_session.specs.declared.header.Header.{Header}
use Rattle.nbd_session.specs.declared.session.Ended.{Ended}
use Rattle.nbd_session.specs.Shakes.{IsShake}
use Rattle.nbd_session.specs.declared.ending.Shaken.TheVariants.{Agreed, Unagreed as NotAgreed}
use Rattle.nbd_session.specs.declared.ending.Unagreed.{Unagreed}
use Rattle.command_words.specs.Values.{served_by}
use Rattle.command_words.specs.declared.command.Command.{Command}
use Rattle.command_words.specs.declared.command.Command.TheVariants.{Nbd, Serve}
use Rattle.nbd_serving.specs.Runs.{ServesNamed}
use Rattle.nbd_serving.specs.Wires.{Wire, status_of as status_of_answer, unagreed_status}
use Rattle.nbd_serving.specs.declared.serving.Beginning.{Beginning}
use Rattle.nbd_serving.specs.declared.serving.Beginning.TheVariants as beginning
use Rattle.nbd_serving.specs.declared.stop.Stop.{Stop}
use Rattle.wol_run.specs.Settings.{IsUnread}
use Rattle.wol_run.specs.Tops.{IsDoneOrMemory, TellsNoMemory}

-- how a command serves a client, and the volume of which name; none of another command
abbrev pub served_as : Command → Option (Beginning × List ℕ)
served_as (Nbd name) = Some (beginning.AtOnce, served_by name)
served_as (Serve name patience) = Some (beginning.Handshake, served_by name)
served_as command = None

-- the volume of this name was to be served
pub record IsServing {D : Type 0} (tells : Bool) (state : D → State) (begins : Beginning)
    (name : List ℕ) (config : Config) (old new : BayState) (wire_ wire' : Wire) (status : ℕ) :
    Type 0 where
  pub result : Result Ended Stop
  -- sound images stay sound, and images of names that aren't configured are as they were
  pub sound : IsTrue tells → IsTold (KeepsAllSound config) old.told new.told
  pub others : IsTrue tells → IsTold (KeepsOthers config) old.told new.told
  pub serves : ServesNamed tells state config begins name old new wire_ wire' result
  pub done : status ≡ status_of_answer result

-- the configuration wasn't had: the status says why, and all else is as it was
pub record IsUnserved (left : Option (List ℕ)) (faults faults' : ℕ) (old new : BayState)
    (wire_ wire' : Wire) (status : ℕ) : Type 0 where
  pub fault : Fault
  pub cause : IsUnread fault left faults faults'
  pub told : status ≡ status_of fault
  pub bay : new ≡ old
  pub unused : wire' ≡ wire_

-- there was no memory to read the words, and that was told
pub record HasNoWords (old new : BayState) (wire_ wire' : Wire) (status : ℕ) : Type 0 where
  pub bay : new ≡ old
  pub source : (wire'.left ≡ wire_.left) × (wire'.source_faults ≡ wire_.source_faults)
  pub ends : TellsNoMemory status wire_.taken wire'.taken

-- a run of `nbd` or `serve`, by the configuration that was read (none: it wasn't had), the bytes of
-- its source and their count of faults, the bay, the client's source and sink, and the status
abbrev pub RunsServing : {D : Type 0} → (tells : Bool) → (D → State) → (begins : Beginning)
    → (name : List ℕ) → (read : Option Config) → (left : Option (List ℕ)) → (faults faults' : ℕ)
    → (old new : BayState) → (wire_ wire' : Wire) → (status : ℕ) → Type 0
RunsServing tells state begins name (Some config) left faults faults' old new wire_ wire' status =
    IsServing tells state begins name config old new wire_ wire' status
RunsServing tells state begins name None left faults faults' old new wire_ wire' status =
    IsUnserved left faults faults' old new wire_ wire' status
    ⊎ HasNoWords old new wire_ wire' status

-- the client ended the session, or its bytes are none, or no volume has the name; or there was no
-- memory
abbrev pub EndsAtClient : (status : ℕ) → Type 0
EndsAtClient status = IsDoneOrMemory status ⊎ (status ≡ 14) ⊎ (status ≡ 15)

-- ---- Bytes that are no requests

-- whole requests, one after another, none of which ends the session
pub data AreRequests : List ℕ → Type 0 where
  none : AreRequests []
  next : (before bytes given : List ℕ) (h : Header) → AreRequests before → IsRequest h given bytes
      → h.command ≢ command.Disc → AreRequests (before ++ bytes)

-- What a client's source gave were whole requests, and then bytes that begin with another magic, or
-- a request within which the source ends.
pub record HasBadRequests (left left' : Option (List ℕ)) : Type 0 where
  pub requests : List ℕ
  pub whole : AreRequests requests
  pub last : List ℕ
  pub took : Consumes left left' (requests ++ last)
  pub bad : ((4 ≤ length last) × (HasMagic last → ⊥)) ⊎ (IsCut last × IsAtEnd left')

-- .. or they were no handshake that can be agreed on, or what follows one that was are no requests
pub data HasBadHandshake (left left' : Option (List ℕ)) : Type 0 where
  no_handshake : (name : List ℕ) (blocks : ℕ) (taken taken' : Option (List ℕ)) (why : Unagreed)
      → IsShake name blocks left left' taken taken' (Ok (NotAgreed why)) → unagreed_status why ≡ 14
      → HasBadHandshake left left'
  no_requests : (name : List ℕ) (blocks : ℕ) (begun taken taken' : Option (List ℕ))
      → IsShake name blocks left begun taken taken' (Ok Agreed) → HasBadRequests begun left'
      → HasBadHandshake left left'

-- what a client sent is bad for a command that begins so
abbrev pub HasBadBytes : Beginning → (left left' : Option (List ℕ)) → Type 0
HasBadBytes beginning.AtOnce left left' = HasBadRequests left left'
HasBadBytes beginning.Handshake left left' = HasBadHandshake left left'
