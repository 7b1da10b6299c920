-- Where the fault of a part ended a run, the count of the bay rose.
use Rattle.replay.proofs.Basics.{◌≡◌, ◌<◌, ◌≤◌, ◌++◌, ℕ, Bool, List, [], ◌∷◌, length, map, sym, ap, subst, ◌∙◌, Option, Some, inl, inr}
use Rattle.replay.proofs.Basics.{append-nil, arith, All, AllByRecursion, flat_map, length-map, flat_map-append}
use Rattle.replay.proofs.Terms.{Rose, BayState, TraceLine, windows, Config, notes_of, Station, Fault, Trouble, Begins, Entry, pass_seen}
use Rattle.replay.proofs.Terms.{History, Versions, Volume, targets_of, windows_have_requests, numbers_leave, asked, requests_in_all}
use Rattle.replay.proofs.Terms.{Request, HasRun, IsMoved, Desk, Floor, Reclaim, IsClosedVolume, ImageRest, HasRefusedWrite, fault_of_window}
use Rattle.replay.proofs.Terms.{ServedFromStart, ServedWindow, WereServed, AreWindowsOf, most_of}
use Rattle.replay.proofs.FirstsServed.{was_worked}
use Rattle.replay.proofs.RacksServed.{a_member, at_place}
use Rattle.replay.proofs.RequestsServed.{requests_of_volumes}
use Rattle.replay.proofs.RunEnded.{TellsRise}
use Rattle.replay.proofs.SpentServed.{window_spent}
use Rattle.replay.proofs.HistoriesLeft.{histories_count, histories_of, history_at}
use Rattle.replay.proofs.RunCauses.{run_cause}
use Rattle.replay.proofs.PartNamed.{HasDownAt, breaks_at}
use Rattle.replay.proofs.WindowBroken.{HasDown, station_down, window_down}
use Rattle.replay.proofs.Serving.{served_requests}
use Rattle.wol_model.specs.Trace as trace

-- ---- The window behind all others

module _ {D : Type 0} (tells : Bool) (mode : Reclaim) where
  -- it was run, on no fewer desks than there were before
  abbrev LastRun : ServedWindow → (before g : Floor D) → Type 0
  LastRun s before g = (f : Floor D) × HasRun tells s.batch.requests mode f g s.answer × ((k : ℕ) → k < length before.desks.items → k < length f.desks.items)

  were_run : (earlier : List ServedWindow) (s : ServedWindow) (f : Floor D) (ps : List _) (g : Floor D) (qs : List _) → WereServed tells mode (earlier ++ s ∷ []) f ps g qs → LastRun s f g
  were_run [] s f ps g qs (h, rs, was, (same, passes)) =
      subst (λ (x : Floor D). LastRun s f x) (sym same) (was.begun, was.run, λ k lt. subst (λ x. k < length x.items) (sym (ap (λ (x : Floor D). x.desks) was.only)) lt)
  were_run (t ∷ earlier) s f ps g qs (h, rs, was, others) =
      let (e, run, there) = were_run earlier s h rs g qs others in
      (e, run, λ k lt. there k (was_worked tells mode k (a_member f.desks.items k lt).0 t f ps h rs was lt).1)

  served_run : (earlier : List ServedWindow) (s : ServedWindow) (f : Floor D) (ps : List _) (g : Floor D) (qs : List _) → ServedFromStart tells mode (earlier ++ s ∷ []) f ps g qs → LastRun s f g
  served_run [] s f ps g qs (rs, started, were) = were_run [] s f rs g qs were
  served_run (t ∷ earlier) s f ps g qs (rs, started, were) = were_run (t ∷ earlier) s f rs g qs were

-- ---- Its requests

each_asked : (n : ℕ) (rs : List Request) → AllByRecursion (λ (r : trace.Request). r.volume < n) (map asked rs) → AllByRecursion (λ (r : Request). r.volume < n) rs
each_asked n [] all = tt
each_asked n (r ∷ rs) (first, others) = (first, each_asked n rs others)

behind_others : {X : Type 0} (P : X → Type 0) (xs ys : List X) → AllByRecursion P (xs ++ ys) → AllByRecursion P ys
behind_others P [] ys all = all
behind_others P (x ∷ xs) ys (first, others) = behind_others P xs ys others

requests_within : (config : Config) (run : List (Option TraceLine)) (earlier : List ServedWindow) (s : ServedWindow) → AreWindowsOf config run (earlier ++ s ∷ [])
    → AllByRecursion (λ (r : Request). r.volume < length (targets_of config)) s.batch.requests
requests_within config run earlier s are =
    let of_window = λ (x : ServedWindow). x.batch.requests in
    let split : flat_map of_window (earlier ++ s ∷ []) ≡ flat_map of_window earlier ++ s.batch.requests = flat_map-append of_window earlier (s ∷ []) ∙ ap (λ (l : List Request). flat_map of_window earlier ++ l) (append-nil s.batch.requests) in
    let same : trace.requests (most_of config) (targets_of config) run ≡ map asked (flat_map of_window earlier ++ s.batch.requests)
    = sym (ap (map asked) (sym split ∙ served_requests config (windows (most_of config) (targets_of config) run) (earlier ++ s ∷ []) are)
    ∙ numbers_leave 0 (requests_in_all (most_of config) (targets_of config) (windows (most_of config) (targets_of config) run))
    ∙ windows_have_requests (most_of config) (targets_of config) run) in
    let all = each_asked (length (targets_of config)) (flat_map of_window earlier ++ s.batch.requests)
    (subst (λ (rs : List trace.Request). AllByRecursion (λ (r : trace.Request). r.volume < length (targets_of config)) rs) same (requests_of_volumes (most_of config) (targets_of config) run)) in
    behind_others (λ (r : Request). r.volume < length (targets_of config)) (flat_map of_window earlier) s.batch.requests all

-- ---- The cause

each_less : (n m : ℕ) (rs : List Request) → ((k : ℕ) → k < n → k < m) → AllByRecursion (λ (r : Request). r.volume < n) rs → AllByRecursion (λ (r : Request). r.volume < m) rs
each_less n m [] less all = tt
each_less n m (r ∷ rs) less (first, others) = (less r.volume first, each_less n m rs less others)

desks_count : {D : Type 0} (ss : List (Station D)) (f : Floor D) → IsMoved ss f → length f.desks.items ≡ length ss
desks_count {D} ss f moved = sym (length-map f.desks.items (λ (d : Desk D). d.id)) ∙ ap length moved.ids ∙ length-map ss (λ (s : Station D). s.id)

pub rose_from : (a b c : ℕ) → a ≤ b → Rose b c → Rose a c
rose_from a b c le (inl less) = inl (omega (arith, le, less))
rose_from a b c le (inr most) = inr most

module _ {D : Type 0} (tells : Bool) (mode : Reclaim) (config : Config) (out : List (Option (ImageRest D))) (old new : BayState) (olds news : List (Station D)) (all : All (IsClosedVolume tells config out old new) news)
    (before after : Floor D) (moved : IsMoved olds before) (back : IsMoved news after) (count : length olds ≡ length (targets_of config)) (same : length news ≡ length olds) where
  module _ (run : List (Option TraceLine)) (earlier : List ServedWindow) (s : ServedWindow) (ps qs : List _) (are : AreWindowsOf config run (earlier ++ s ∷ [])) (served_ : ServedFromStart tells mode (earlier ++ s ∷ []) before ps after qs) where
    ran : LastRun tells mode s before after
    ran = served_run tells mode earlier s before ps after qs served_

    inside : AllByRecursion (λ (r : Request). r.volume < length ran.0.desks.items) s.batch.requests
    inside = each_less (length (targets_of config)) (length ran.0.desks.items) s.batch.requests (λ k lt. (let many = desks_count olds before moved in ran.2 k (omega (arith, lt, many, count)))) (requests_within config run earlier s are)

    back_there : (k : ℕ) → k < length after.desks.items → k < length ran.0.desks.items
    back_there k lt = let many = desks_count olds before moved in let many_after = desks_count news after back in ran.2 k (omega (arith, lt, many, many_after, same))

    -- where a part is at fault, it was down in the history of the named volume
    pub named_down : (v : ℕ) (t : Trouble) → fault_of_window s.batch.requests s.answer ≡ Some (Volume v t) → HasDownAt (histories_of tells config out old new news all) v t
    named_down v t fault =
        let (station, there, down) = station_down news after back v t (window_down tells s.batch.requests mode ran.0 after s.answer ran.1 v t fault inside back_there) in
        let less = (at_place news v station there).0 in
        let sized = histories_count tells config out old new news all in
        let (h, here) = a_member (histories_of tells config out old new news all) v (omega (arith, less, sized)) in
        let one = history_at tells config out old new news all v h here in
        let both : Some station ≡ Some one.station = sym there ∙ one.there in
        let alike : station ≡ one.station = cc both in
        let was = subst (λ (x : Station D). (es : List Entry) → Begins (pass_seen x.worker) es → Begins (pass_seen x.helper) es → HasDown t (notes_of es)) alike down one.closed.entries one.closed.worker_part.seen one.closed.helper_part.seen in
        record { history = h; there = here; down = subst (λ (x : History). HasDown t x.notes) (sym one.is) was }

    pub last_spent : (v : ℕ) → fault_of_window s.batch.requests s.answer ≡ Some (Versions v) → HasRefusedWrite v s
    last_spent v fault = window_spent tells mode ran.0 after s ran.1 v fault inside

  pub rises : (run : List (Option TraceLine)) (earlier last : List ServedWindow) (ps qs : List _) → AreWindowsOf config run (earlier ++ last) → ServedFromStart tells mode (earlier ++ last) before ps after qs
      → (bay : ℕ) → bay ≤ old.faults → TellsRise last bay new.faults
  rises run earlier last ps qs are served_ bay le f s only fault =
      let are_one = subst (λ (l : List ServedWindow). AreWindowsOf config run (earlier ++ l)) only are in
      let served_one = subst (λ (l : List ServedWindow). ServedFromStart tells mode (earlier ++ l) before ps after qs) only served_ in (
        λ part. rose_from bay old.faults new.faults le (run_cause tells config out old new news all part.0
            (breaks_at (histories_of tells config out old new news all) part.0 part.1 (named_down run earlier s ps qs are_one served_one part.0 part.1 (subst (λ (x : Fault). fault_of_window s.batch.requests s.answer ≡ Some x) part.2 fault)))),
        λ v is. last_spent run earlier s ps qs are_one served_one v (subst (λ (x : Fault). fault_of_window s.batch.requests s.answer ≡ Some x) is fault),
      )
