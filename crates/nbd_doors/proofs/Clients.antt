-- A client with whom nothing was agreed, and a door that gives none.
use Rattle.std.proofs.Common.{◌≡◌, ℕ, true, false, List, Option, Result, Ok, Err, sym, subst}
use Rattle.nbd_session.specs.Sessions.{CountsFaults}
use Rattle.nbd_session.specs.Shakes.{IsShake}
use Rattle.nbd_session.specs.Turns.{Turn}
use Rattle.nbd_session.specs.declared.ending.Shaken.{Shaken}
use Rattle.nbd_session.specs.declared.ending.Shaken.TheVariants.{Agreed, Unagreed as NotAgreed}
use Rattle.nbd_session.specs.declared.ending.Unagreed.{Unagreed}
use Rattle.nbd_session.specs.declared.session.NbdFault.{NbdFault}
use Rattle.nbd_doors.specs.Doors.{AreServed, ServesClient, ServesDoor, ServesNext, Shakes}
use Rattle.nbd_doors.specs.declared.door.Connection.{Connection}

-- a handshake on so many blocks, and what it came to, by other words for both
pub shaken : {S K V : Type 0} (left : S → Option (List ℕ)) (source_faults : S → ℕ) (taken : K → Option (List ℕ)) (sink_faults : K → ℕ) (turned : Turn → V → V → Type 0) (name : List ℕ) (most : ℕ) (c c' : Connection S K) {blocks home : ℕ} {result wanted : Result Shaken NbdFault}
    → blocks ≡ home → result ≡ wanted → IsShake name blocks (left c.input) (left c'.input) (taken c.output) (taken c'.output) result → CountsFaults (source_faults c.input) (source_faults c'.input) (sink_faults c.output) (sink_faults c'.output) result
    → Shakes left source_faults taken sink_faults turned name home most c c' wanted
shaken left source_faults taken sink_faults turned name most c c' {blocks} {home} {result} {wanted} is_home is shake faults =
    subst (λ (n : ℕ). Shakes left source_faults taken sink_faults turned name n most c c' wanted) is_home
    (subst (λ (r : Result Shaken NbdFault). Shakes left source_faults taken sink_faults turned name blocks most c c' r) is (record { shake = shake; faults = faults }))

module _ {S K V : Type 0} (left : S → Option (List ℕ)) (source_faults : S → ℕ) (taken : K → Option (List ℕ)) (sink_faults : K → ℕ) (turned : Turn → V → V → Type 0) (name : List ℕ) (home most : ℕ) where
  module _ (v : V) (c c' : Connection S K) where
    pub not_agreed : (why : Unagreed) → Shakes left source_faults taken sink_faults turned name home most c c' (Ok (NotAgreed why)) → ServesClient left source_faults taken sink_faults turned name home most v c c' v
    not_agreed why shakes = ServesClient.unagreed (Ok (NotAgreed why)) (λ same. let no : Ok (NotAgreed why) ≡ Ok Agreed = same in cc) shakes

    pub failed : (f : NbdFault) → Shakes left source_faults taken sink_faults turned name home most c c' (Err f) → ServesClient left source_faults taken sink_faults turned name home most v c c' v
    failed f shakes = ServesClient.unagreed (Err f) (λ same. let no : Err f ≡ Ok Agreed = same in cc) shakes

  module _ {G : Type 0} (gave : G → Option (Connection S K) → G → Type 0) (d : G) (v : V) (e f : G) (u x : V) where
    pub over_so : AreServed left source_faults taken sink_faults turned name home most gave d v e u → ServesNext left source_faults taken sink_faults turned name home most gave e u f x false → ServesDoor left source_faults taken sink_faults turned name home most gave d v f x
    over_so before none = record {
      last = e;
      served = subst (λ (y : V). AreServed left source_faults taken sink_faults turned name home most gave d v e y) (sym none.1) before;
      over = none.0;
    }

-- the next client at a volume, by other words for its blocks and for the most of one turn
pub next_at : {S K V G : Type 0} (left : S → Option (List ℕ)) (source_faults : S → ℕ) (taken : K → Option (List ℕ)) (sink_faults : K → ℕ) (turned : Turn → V → V → Type 0) (name : List ℕ) (gave : G → Option (Connection S K) → G → Type 0) (d : G) (v : V) (e : G) (u : V) {home most home' most' : ℕ} → home ≡ home' → most ≡ most'
    → ServesNext left source_faults taken sink_faults turned name home most gave d v e u true → ServesNext left source_faults taken sink_faults turned name home' most' gave d v e u true
next_at left source_faults taken sink_faults turned name gave d v e u {home} {most} {home'} {most'} is_home is_most served =
    subst (λ (n : ℕ). ServesNext left source_faults taken sink_faults turned name home' n gave d v e u true) is_most
    (subst (λ (n : ℕ). ServesNext left source_faults taken sink_faults turned name n most gave d v e u true) is_home served)
