-- What becomes of a volume's clients, told by what its turns make of it.
use Rattle.std.specs.Prelude.{◌≡◌, ◌≢◌, ℕ, Bool, true, false, List, Option, None, Some, Result, Ok}
use Rattle.nbd_session.specs.Sessions.{CountsFaults, IsSession}
use Rattle.nbd_session.specs.Shakes.{IsShake}
use Rattle.nbd_session.specs.Turns.{Turn}
use Rattle.nbd_session.specs.declared.ending.Shaken.{Shaken}
use Rattle.nbd_session.specs.declared.ending.Shaken.TheVariants.{Agreed}
use Rattle.nbd_session.specs.declared.session.Ended.{Ended}
use Rattle.nbd_session.specs.declared.session.NbdFault.{NbdFault}
use Rattle.nbd_doors.specs.declared.door.Connection.{Connection}

-- what a source has left and how many of its calls failed, what a sink has taken and how many of its
-- calls failed; what each turn makes of the volume; its name, its blocks, and the most of one turn
module _ {S K V : Type 0} (left : S → Option (List ℕ)) (source_faults : S → ℕ)
    (taken : K → Option (List ℕ)) (sink_faults : K → ℕ) (turned : Turn → V → V → Type 0)
    (name : List ℕ) (home most : ℕ) where
  -- a handshake on the volume's name and all of its blocks came to this
  pub record Shakes (c c' : Connection S K) (result : Result Shaken NbdFault) : Type 0 where
    pub shake : IsShake name home (left c.input) (left c'.input) (taken c.output) (taken c'.output)
        result
    pub faults : CountsFaults (source_faults c.input) (source_faults c'.input)
        (sink_faults c.output) (sink_faults c'.output) result

  -- a session at the volume came to this
  pub record HasSession (v u : V) (c c' : Connection S K) (result : Result Ended NbdFault) :
      Type 0 where
    pub session : IsSession turned home most v u (left c.input) (left c'.input) (taken c.output)
        (taken c'.output) result
    pub faults : CountsFaults (source_faults c.input) (source_faults c'.input)
        (sink_faults c.output) (sink_faults c'.output) result

  -- A client of the volume: the handshake came to no session, and the volume had no turn; or client
  -- and server agreed, and a session followed.
  pub data ServesClient (v : V) (c c' : Connection S K) : V → Type 0 where
    unagreed : (result : Result Shaken NbdFault) → result ≢ Ok Agreed → Shakes c c' result
        → ServesClient v c c' v
    served : (begun : Connection S K) (u : V) (result : Result Ended NbdFault)
        → Shakes c begun (Ok Agreed) → HasSession v u begun c' result → ServesClient v c c' u

  -- .. whom a door gives, as this relation of a call says
  module _ {G : Type 0} (gave : G → Option (Connection S K) → G → Type 0) where
    -- the door gave a client, which was served; or it gave none, and the volume had no turn
    abbrev pub ServesNext : (d : G) → (v : V) → (e : G) → (u : V) → Bool → Type 0
    ServesNext d v e u true =
        (c c' : Connection S K) × gave d (Some c) e × ServesClient v c c' u
    ServesNext d v e u false = gave d None e × (u ≡ v)

    -- clients came one after another, and each found the volume as those before it left it
    pub data AreServed (d : G) (v : V) : G → V → Type 0 where
      none : AreServed d v d v
      next : (e f : G) (u x : V) → AreServed d v e u → ServesNext e u f x true
          → AreServed d v f x

    -- .. until the door gave none
    pub record ServesDoor (d : G) (v : V) (e : G) (u : V) : Type 0 where
      pub last : G
      pub served : AreServed d v last u
      pub over : gave last None e
