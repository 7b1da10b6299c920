-- The clients of a door at a volume, seen at another: where each turn is one there.
use Rattle.std.proofs.Common.{ℕ, List, Option}
use Rattle.nbd_session.specs.Turns.{Turn}
use Rattle.nbd_session.proofs.Along.{session_along}
use Rattle.nbd_doors.specs.Doors.{AreServed, ServesClient, ServesDoor}
use Rattle.nbd_doors.specs.declared.door.Connection.{Connection}

-- `Fits` is what holds of a volume by which its turns are turns of the other: it is known at the end, and so before each client
module _ {S K V W : Type 0} (left : S → Option (List ℕ)) (source_faults : S → ℕ) (taken : K → Option (List ℕ)) (sink_faults : K → ℕ) (turned : Turn → V → V → Type 0) (seen : Turn → W → W → Type 0) (as_seen : V → W) (Fits : V → Type 0) (step : (t : Turn) (v w : V) → Fits w → turned t v w → Fits v × seen t (as_seen v) (as_seen w)) (name : List ℕ) (home most : ℕ) where
  client_along : (v : V) (c c' : Connection S K) (u : V) → ServesClient left source_faults taken sink_faults turned name home most v c c' u → Fits u → Fits v × ServesClient left source_faults taken sink_faults seen name home most (as_seen v) c c' (as_seen u)
  client_along v c c' u (ServesClient.unagreed result not shakes) fits = (fits, ServesClient.unagreed result not (record { shake = shakes.shake; faults = shakes.faults }))
  client_along v c c' u (ServesClient.served begun x result shakes had) fits =
      let s = session_along turned seen as_seen Fits step home most v u _ _ _ _ result had.session fits in
      (s.0, ServesClient.served begun (as_seen u) result (record { shake = shakes.shake; faults = shakes.faults }) (record { session = s.1; faults = had.faults }))

  module _ {G : Type 0} (gave : G → Option (Connection S K) → G → Type 0) where
    served_along : (d : G) (v : V) (e : G) (u : V) → AreServed left source_faults taken sink_faults turned name home most gave d v e u → Fits u → Fits v × AreServed left source_faults taken sink_faults seen name home most gave d (as_seen v) e (as_seen u)
    served_along d v e u AreServed.none fits = (fits, AreServed.none)
    served_along d v e u (AreServed.next m f x y before (c, c', came, one)) fits =
        let s = client_along x c c' u one fits in
        let b = served_along d v m x before s.0 in
        (b.0, AreServed.next m e (as_seen x) (as_seen u) b.1 (c, c', came, s.1))

    pub door_along : (d : G) (v : V) (e : G) (u : V) → ServesDoor left source_faults taken sink_faults turned name home most gave d v e u → Fits u → Fits v × ServesDoor left source_faults taken sink_faults seen name home most gave d (as_seen v) e (as_seen u)
    door_along d v e u s fits =
        let b = served_along d v s.last u s.served fits in
        (b.0, record { last = s.last; served = b.1; over = s.over })

-- what each turn keeps, the clients of a door keep
module _ {S K V G : Type 0} (left : S → Option (List ℕ)) (source_faults : S → ℕ) (taken : K → Option (List ℕ)) (sink_faults : K → ℕ) (turned : Turn → V → V → Type 0) (name : List ℕ) (home most : ℕ) (gave : G → Option (Connection S K) → G → Type 0) where
  pub door_keeps : (Keeps : V → V → Type 0) → ((v : V) → Keeps v v) → ((v m w : V) → Keeps v m → Keeps m w → Keeps v w) → ((t : Turn) (v w : V) → turned t v w → Keeps v w)
      → (d : G) (v : V) (e : G) (u : V) → ServesDoor left source_faults taken sink_faults turned name home most gave d v e u → Keeps v u
  door_keeps Keeps same both each d v e u s =
      (door_along left source_faults taken sink_faults turned turned (λ (x : V). x) (λ (x : V). Keeps x u) (λ t a b kept turn. (both a b u (each t a b turn) kept, turn)) name home most gave d v e u s (same u)).0
