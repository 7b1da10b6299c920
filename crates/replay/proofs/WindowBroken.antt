-- Where a part of a volume is at fault in a window, it was down among the entries of the volume.
use Rattle.replay.proofs.Basics.{◌≡◌, ◌==◌, ◌<◌, ◌+◌, ℕ, zero, suc, Bool, true, false, cond, List, [], ◌∷◌, ◌++◌, length, map, refl, sym}
use Rattle.replay.proofs.Basics.{ap, subst, ◌∙◌, Option, None, Some, is_some, arith, slice_get, slice_index_or, if◌then◌else◌, list_any}
use Rattle.replay.proofs.Basics.{AllByRecursion, option_or, map-append, eq-eqb}
use Rattle.replay.proofs.Terms.{Write, Broke, Kept, Operation, Read, Wrote, flight_from, flight_of, Noted, entries_of, Begins, Entry}
use Rattle.replay.proofs.Terms.{pass_seen, notes_of, Part, StepFault, Station, Fault, Memory, Volume, Trouble, trouble_of_part, Request}
use Rattle.replay.proofs.Terms.{HasClosed, TellsFault, IsBroken, ManagerPass, WasDown, faulty_part, notes_seen, Outcome, down_more}
use Rattle.replay.proofs.Terms.{notes_joined, IsClosed, HasRun, outcomes_of, IsMoved, first_fault, Desk, Floor, Reclaim, Window}
use Rattle.replay.proofs.Terms.{fault_of_outcome, fault_of_reclaim, fault_of_window, first_refused, lacked_memory}
use Rattle.replay.proofs.AnswersServed.{desk_there}
use Rattle.replay.proofs.RacksServed.{a_member, at_place, mapped, there_at, unmapped}
use Rattle.wol_model.specs.History as history
use Rattle.manager.specs.declared.part.StepFault.TheVariants as step
use Rattle.manager.specs.declared.part.ReadRefusal.TheVariants as read
use Rattle.manager.specs.declared.part.WriteRefusal.TheVariants as write
use Rattle.request_turns.specs.declared.outcome.Outcome.TheVariants as outcome
use Rattle.window_desks.specs.declared.request.Reclaim.TheVariants as reclaim

-- ---- Entries

pub flight_joined : (xs ys : List history.Entry) → flight_of (xs ++ ys) ≡ option_or (flight_of xs) (flight_of ys)
flight_joined [] ys = refl
flight_joined (x ∷ xs) ys = at x.operation (flight_joined xs ys)
  where
    at : (o : Operation) → flight_of (xs ++ ys) ≡ option_or (flight_of xs) (flight_of ys) → flight_from o (flight_of (xs ++ ys)) ≡ option_or (flight_from o (flight_of xs)) (flight_of ys)
    at (Broke ws) same = refl
    at (Wrote ws) same = same
    at (Read first reply) same = same
    at Kept same = same

-- the writes in flight in the entries of a lock
abbrev pub flight_in : List Entry → Option (List Write)
flight_in es = flight_of (entries_of (notes_of es))

pub flight_in_joined : (xs ys : List Entry) → flight_in (xs ++ ys) ≡ option_or (flight_in xs) (flight_in ys)
flight_in_joined xs ys =
    ap (λ (ns : List Noted). flight_of (entries_of ns)) (notes_joined xs ys) ∙ ap flight_of (map-append (λ (n : Noted). n.entry) (notes_of xs) (notes_of ys)) ∙ flight_joined (entries_of (notes_of xs)) (entries_of (notes_of ys))

some_or : (x y : Option (List Write)) → is_some x ≡ true → is_some (option_or x y) ≡ true
some_or None y some = absurd (cc some)
some_or (Some w) y some = refl

-- what a pass saw stays
pub broken_in : (xs es : List Entry) → Begins xs es → IsBroken (notes_of xs) → IsBroken (notes_of es)
broken_in xs es (more, same) broken = subst (λ (l : List Entry). is_some (flight_in l) ≡ true) same (ap is_some (flight_in_joined xs more) ∙ some_or (flight_in xs) (flight_in more) broken)

pub not_none : (notes : List Noted) → IsBroken notes → flight_of (entries_of notes) ≡ None → ⊥
not_none notes broken none = let no : true ≡ false = sym broken ∙ ap is_some none in absurd (cc no)

-- a part of this trouble was down behind one of these entries
abbrev pub HasDown : Trouble → List Noted → Type 0
HasDown t notes = (p : Part) × (t ≡ trouble_of_part p) × WasDown p notes

-- what a pass saw stays
pub part_down_in : (p : Part) (xs es : List Entry) → Begins xs es → WasDown p (notes_of xs) → WasDown p (notes_of es)
part_down_in p xs es (more, same) was = subst (WasDown p) (sym (notes_joined xs more) ∙ ap notes_of same) (down_more p (notes_of xs) (notes_of more) was)

pub down_in : (t : Trouble) (xs es : List Entry) → Begins xs es → HasDown t (notes_of xs) → HasDown t (notes_of es)
down_in t xs es begins (p, is, was) = (p, is, part_down_in p xs es begins was)

-- ---- Requests

outcome_down : (o : Outcome) (w v : ℕ) (t : Trouble) → fault_of_outcome w o ≡ Some (Volume v t) → (seen : List Noted) → TellsFault seen o → HasDown t seen
outcome_down (outcome.Read mark sources) w v t is seen told = absurd (cc is)
outcome_down (outcome.Wrote place drained) w v t is seen told = absurd (cc is)
outcome_down (outcome.NoRead (read.DiskFault p)) w v t is seen told = (p, cc is, told)
outcome_down (outcome.NoRead (read.Down p)) w v t is seen told = (p, cc is, told)
outcome_down (outcome.NoWrite write.Full) w v t is seen told = absurd (cc is)
outcome_down (outcome.NoWrite (write.DiskFault p)) w v t is seen told = (p, cc is, told)
outcome_down (outcome.NoWrite (write.Down p)) w v t is seen told = (p, cc is, told)
outcome_down (outcome.NoWrite write.VersionsSpent) w v t is seen told = absurd (cc is)
outcome_down (outcome.NoWrite write.NoMemory) w v t is seen told = absurd (cc is)
outcome_down outcome.NotRun w v t is seen told = absurd (cc is)

outcome_volume : (o : Outcome) (w v : ℕ) (t : Trouble) → fault_of_outcome w o ≡ Some (Volume v t) → w ≡ v
outcome_volume (outcome.Read mark sources) w v t is = absurd (cc is)
outcome_volume (outcome.Wrote place drained) w v t is = absurd (cc is)
outcome_volume (outcome.NoRead (read.DiskFault p)) w v t is = cc is
outcome_volume (outcome.NoRead (read.Down p)) w v t is = cc is
outcome_volume (outcome.NoWrite write.Full) w v t is = absurd (cc is)
outcome_volume (outcome.NoWrite (write.DiskFault p)) w v t is = cc is
outcome_volume (outcome.NoWrite (write.Down p)) w v t is = cc is
outcome_volume (outcome.NoWrite write.VersionsSpent) w v t is = absurd (cc is)
outcome_volume (outcome.NoWrite write.NoMemory) w v t is = absurd (cc is)
outcome_volume outcome.NotRun w v t is = absurd (cc is)

refused_down : (n : ℕ) (rs : List Request) (os : List Outcome) (v : ℕ) (t : Trouble) → first_refused rs os ≡ Some (Volume v t) → AllByRecursion (λ (r : Request). r.volume < n) rs
    → (seen : (k : ℕ) → k < n → List Noted) → ((k : ℕ) (lt : k < n) → AllByRecursion (TellsFault (seen k lt)) (outcomes_of k rs os)) → (k : ℕ) × (lt : k < n) × HasDown t (seen k lt) × (k ≡ v)
refused_down n [] os v t refused within seen tells = absurd (cc refused)
refused_down n (r ∷ rs) [] v t refused within seen tells = absurd (cc refused)
refused_down n (r ∷ rs) (o ∷ os) v t refused within seen tells =
    at (fault_of_outcome r.volume o) refl refused (λ rest. refused_down n rs os v t rest within.1 seen (λ k lt. behind k lt (r.volume == k) (tells k lt)))
  where
    behind : (k : ℕ) (lt : k < n) (b : Bool) → AllByRecursion (TellsFault (seen k lt)) (cond b (o ∷ outcomes_of k rs os) (outcomes_of k rs os)) → AllByRecursion (TellsFault (seen k lt)) (outcomes_of k rs os)
    behind k lt true all = all.1
    behind k lt false all = all

    at : (x : Option Fault) → fault_of_outcome r.volume o ≡ x → option_or x (first_refused rs os) ≡ Some (Volume v t)
        → (first_refused rs os ≡ Some (Volume v t) → (k : ℕ) × (lt : k < n) × HasDown t (seen k lt) × (k ≡ v)) → (k : ℕ) × (lt : k < n) × HasDown t (seen k lt) × (k ≡ v)
    at None is rest others = others rest
    at (Some f) is here others =
        let all = subst (λ (b : Bool). AllByRecursion (TellsFault (seen r.volume within.0)) (cond b (o ∷ outcomes_of r.volume rs os) (outcomes_of r.volume rs os))) (eq-eqb r.volume r.volume refl) (tells r.volume within.0) in
        (r.volume, within.0, outcome_down o r.volume v t (is ∙ here) (seen r.volume within.0) all.0, outcome_volume o r.volume v t (is ∙ here))

-- ---- A reclaim turn

turn_seen : {D : Type 0} (tells : Bool) (fault : Option StepFault) (p q : ManagerPass D) (t : Trouble) → HasClosed tells fault p q → HasDown t (notes_seen p) → HasDown t (notes_seen q)
turn_seen tells fault p q t closed down =
    let first = down_in t (pass_seen p) closed.before closed.turned.begins down in
    down_in t closed.before (pass_seen q) (_, sym closed.turned.seen) first

-- what was seen before it stays
closed_seen : {D : Type 0} (tells : Bool) (mode : Reclaim) (fault : Option StepFault) (p q : ManagerPass D) (t : Trouble) → IsClosed tells mode fault p q → HasDown t (notes_seen p) → HasDown t (notes_seen q)
closed_seen tells reclaim.Off fault p q t closed down = subst (λ x. HasDown t (notes_seen x)) (sym closed.0) down
closed_seen tells reclaim.Between fault p q t closed down = turn_seen tells fault p q t closed down
closed_seen tells reclaim.Beside fault p q t closed down = turn_seen tells fault p q t closed down

closed_cause : {D : Type 0} (tells : Bool) (mode : Reclaim) (f : StepFault) (fault : Option StepFault) (p q : ManagerPass D) → IsClosed tells mode fault p q → fault ≡ Some f → WasDown (faulty_part f) (notes_seen q)
closed_cause tells reclaim.Off f fault p q closed is = let no : None ≡ Some f = sym closed.1 ∙ is in absurd (cc no)
closed_cause tells reclaim.Between f fault p q closed is = closed.cause f is
closed_cause tells reclaim.Beside f fault p q closed is = closed.cause f is

first_at : {D : Type 0} (start : ℕ) (es : List (Desk D)) (k : ℕ) (f : StepFault) → first_fault start (map (λ (d : Desk D). d.fault) es) ≡ Some (k, f) → (j : ℕ) × (e : Desk D) × (slice_get es j ≡ Some e) × (e.fault ≡ Some f) × (start + j ≡ k)
first_at start [] k f first = absurd (cc first)
first_at {D} start (e ∷ es) k f first = at e.fault refl first (λ rest. first_at (start + 1) es k f rest)
  where
    at : (x : Option StepFault) → e.fault ≡ x → first_fault start (x ∷ map (λ (d : Desk D). d.fault) es) ≡ Some (k, f)
        → (first_fault (start + 1) (map (λ (d : Desk D). d.fault) es) ≡ Some (k, f) → (j : ℕ) × (d : Desk D) × (slice_get es j ≡ Some d) × (d.fault ≡ Some f) × (start + 1 + j ≡ k))
        → (j : ℕ) × (d : Desk D) × (slice_get (e ∷ es) j ≡ Some d) × (d.fault ≡ Some f) × (start + j ≡ k)
    at None is rest others = let (j, d, there, fault, at_) = others rest in (suc j, d, there, fault, omega (arith, at_))
    at (Some g) is here others = let both : (start, g) ≡ (k, f) = cc here in (let same : start ≡ k = ap (λ (x : ℕ × StepFault). x.0) both in (zero, e, refl, is ∙ ap (λ (x : ℕ × StepFault). Some x.1) both, omega (arith, same)))

-- ---- A window

-- a part of volume k of this trouble was down, as its worker or its helper saw
pub data IsDownIn {D : Type 0} (g : Floor D) (k : ℕ) (t : Trouble) : Type 0 where
  by_worker : (e : Desk D) → slice_get g.desks.items k ≡ Some e → HasDown t (notes_seen e.worker) → IsDownIn g k t
  by_helper : (p : ManagerPass D) → slice_get g.helpers.items k ≡ Some p → HasDown t (notes_seen p) → IsDownIn g k t

module _ {D : Type 0} (tells : Bool) (rs : List Request) (mode : Reclaim) (f g : Floor D) (w : Window) (run : HasRun tells rs mode f g w) where
  there : (k : ℕ) (d : Desk D) → k < length f.desks.items → slice_get g.desks.items k ≡ Some (slice_index_or g.desks.items k d)
  there k d lt = there_at g.desks.items k d (desk_there tells rs w.outcomes.items mode f.desks.items g.desks.items k d (λ (x : Desk D). run.worked k x lt) lt)

  of_requests : (v : ℕ) (t : Trouble) → first_refused rs w.outcomes.items ≡ Some (Volume v t) → AllByRecursion (λ (r : Request). r.volume < length f.desks.items) rs → IsDownIn g v t
  of_requests v t refused within =
      let one = λ (k : ℕ) (lt : k < length f.desks.items). (a_member f.desks.items k lt).0 in
      let worked = λ (k : ℕ) (lt : k < length f.desks.items). run.worked k (one k lt) lt in
      let (k, lt, down, same) = refused_down (length f.desks.items) rs w.outcomes.items v t refused within (λ k lt. notes_seen (worked k lt).middle) (λ k lt. (worked k lt).faults) in
      let e : Desk D = slice_index_or g.desks.items k (one k lt) in
      subst (λ (x : ℕ). IsDownIn g x t) same (by_worker e (there k (one k lt) lt) (closed_seen tells mode e.fault (worked k lt).middle e.worker t (worked k lt).closed down))

  step_volume : (k v : ℕ) (t : Trouble) (s : StepFault) → fault_of_reclaim (Some (k, s)) ≡ Some (Volume v t) → k ≡ v
  step_volume k v t (step.DiskFault p) is = cc is
  step_volume k v t (step.Down p) is = cc is

  step_trouble : (k v : ℕ) (t : Trouble) (s : StepFault) → fault_of_reclaim (Some (k, s)) ≡ Some (Volume v t) → t ≡ trouble_of_part (faulty_part s)
  step_trouble k v t (step.DiskFault p) is = cc is
  step_trouble k v t (step.Down p) is = cc is

  of_reclaim : (v : ℕ) (t : Trouble) → fault_of_reclaim w.fault ≡ Some (Volume v t) → ((k : ℕ) → k < length g.desks.items → k < length f.desks.items) → IsDownIn g v t
  of_reclaim v t fault back = at w.fault refl fault
    where
      of_desk : (k : ℕ) (s : StepFault) → t ≡ trouble_of_part (faulty_part s) → first_fault 0 (map (λ (d : Desk D). d.fault) g.desks.items) ≡ Some (k, s) → IsDownIn g k t
      of_desk k s named first =
          let (j, e, here, is, place) = first_at 0 g.desks.items k s first in
          let (less, same) = at_place g.desks.items j e here in
          let worked = run.worked j e (back j less) in
          let closed = subst (λ (x : Desk D). IsClosed tells mode x.fault worked.middle x.worker) (same e) worked.closed in
          let number : j ≡ k = omega (arith, place) in
          subst (λ (x : ℕ). IsDownIn g x t) number (by_worker e here (faulty_part s, named, closed_cause tells mode s e.fault worked.middle e.worker closed is))

      of_helper : (k : ℕ) (s : StepFault) → t ≡ trouble_of_part (faulty_part s) → g.help.fault ≡ Some (k, s) → IsDownIn g k t
      of_helper k s named is =
          let (less, down) = run.cause k s is in
          let (p, here) = a_member g.helpers.items k less in
          let (lt, same) = at_place g.helpers.items k p here in
          by_helper p here (faulty_part s, named, subst (λ (x : ManagerPass D). WasDown (faulty_part s) (notes_seen x)) (same p) (down p))

      which : (k : ℕ) (s : StepFault) → t ≡ trouble_of_part (faulty_part s) → (x : Option (ℕ × StepFault)) → g.help.fault ≡ x → option_or x (first_fault 0 (map (λ (d : Desk D). d.fault) g.desks.items)) ≡ Some (k, s) → IsDownIn g k t
      which k s named None is rest = of_desk k s named rest
      which k s named (Some y) is here = of_helper k s named (is ∙ here)

      at : (x : Option (ℕ × StepFault)) → w.fault ≡ x → fault_of_reclaim x ≡ Some (Volume v t) → IsDownIn g v t
      at None is told = absurd (cc told)
      at (Some (k, s)) is told = subst (λ (x : ℕ). IsDownIn g x t) (step_volume k v t s told) (which k s (step_trouble k v t s told) g.help.fault refl (sym run.fault ∙ is))

  pub window_down : (v : ℕ) (t : Trouble) → fault_of_window rs w ≡ Some (Volume v t) → AllByRecursion (λ (r : Request). r.volume < length f.desks.items) rs
      → ((k : ℕ) → k < length g.desks.items → k < length f.desks.items) → IsDownIn g v t
  window_down v t fault within back = at (list_any lacked_memory w.outcomes.items) fault
    where
      next : (x : Option Fault) → first_refused rs w.outcomes.items ≡ x → option_or x (fault_of_reclaim w.fault) ≡ Some (Volume v t) → IsDownIn g v t
      next None is rest = of_reclaim v t rest back
      next (Some y) is here = of_requests v t (is ∙ here) within

      at : (b : Bool) → (if b then Some Memory else option_or (first_refused rs w.outcomes.items) (fault_of_reclaim w.fault)) ≡ Some (Volume v t) → IsDownIn g v t
      at true is = absurd (cc is)
      at false is = next (first_refused rs w.outcomes.items) refl is

-- ---- Stations

-- so of the station of that volume
pub station_down : {D : Type 0} (ss : List (Station D)) (g : Floor D) → IsMoved ss g → (k : ℕ) (t : Trouble) → IsDownIn g k t → (s : Station D) × (slice_get ss k ≡ Some s) × ((es : List Entry) → Begins (pass_seen s.worker) es → Begins (pass_seen s.helper) es → HasDown t (notes_of es))
station_down {D} ss g moved k t (by_worker e here down) =
    let at : slice_get (map (λ (s : Station D). s.worker) ss) k ≡ Some e.worker = ap (λ (l : List (ManagerPass D)). slice_get l k) (sym moved.workers) ∙ mapped (λ (d : Desk D). d.worker) g.desks.items k e here in
    let (s, there, same) = unmapped (λ (s : Station D). s.worker) ss k e.worker at in
    (s, there, λ es by_worker_ by_helper_. down_in t (pass_seen s.worker) es by_worker_ (subst (λ (x : ManagerPass D). HasDown t (notes_seen x)) (sym same) down))
station_down {D} ss g moved k t (by_helper p here down) =
    let at : slice_get (map (λ (s : Station D). s.helper) ss) k ≡ Some p = ap (λ (l : List (ManagerPass D)). slice_get l k) (sym moved.helpers) ∙ here in
    let (s, there, same) = unmapped (λ (s : Station D). s.helper) ss k p at in
    (s, there, λ es by_worker_ by_helper_. down_in t (pass_seen s.helper) es by_helper_ (subst (λ (x : ManagerPass D). HasDown t (notes_seen x)) (sym same) down))
