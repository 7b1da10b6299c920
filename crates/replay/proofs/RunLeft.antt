-- The histories of the volumes of a rack that was opened, served and closed: what they began with, and why not all requests were answered.
use Rattle.replay.proofs.Basics.{◌≡◌, ◌<◌, ◌≤◌, ℕ, zero, suc, Bool, List, [], ◌∷◌, length, Option, None, Some, sym, ap, subst, ◌∙◌, arith}
use Rattle.replay.proofs.Basics.{All, IfSome, IsTrue, slice_get, AllByRecursion, length-map}
use Rattle.replay.proofs.Terms.{lock_id, BayState, Told, State, flight_of, Answered, entries_of, AreFirst, answers_of, Config, IsTold}
use Rattle.replay.proofs.Terms.{images_read, shape_in, shapes_of, target_of, targets_of, ManagerBase, Station, IsClosedVolume, BeganWith}
use Rattle.replay.proofs.Terms.{HasFaulty, IsBegun, images_taken, base_of_station, IsImageOut, Rack, ManagerLock, AreStations, History}
use Rattle.replay.proofs.Terms.{AreHistories, ArePlainMarks, BeginAsRead, next_after, locks_of, taken_all}
use Rattle.replay.proofs.HistoriesLeft.{IsHistoryAt, all_ruled, are_histories, histories_count, histories_of, history_at, passes_numbered}
use Rattle.replay.proofs.LastWindow.{IsBelow}
use Rattle.replay.proofs.MarksLeft.{marks_left, told_through}
use Rattle.replay.proofs.PassesRuled.{IsRuled}
use Rattle.replay.proofs.RacksServed.{a_member, at_place, mapped}
use Rattle.replay.proofs.StationsRan.{StationRan}
use Rattle.replay.proofs.VersionsLeft.{next_below}

beyond_end : {X : Type 0} (xs : List X) (v : ℕ) → slice_get xs v ≡ None → length xs ≤ v
beyond_end [] v none = omega arith
beyond_end (x ∷ xs) zero none = absurd (cc none)
beyond_end (x ∷ xs) (suc v) none = let rest = beyond_end xs v none in omega (arith, rest)

-- stations with the same locks have the same bases
pub base_same : {D : Type 0} (olds news : List (Station D)) → locks_of news ≡ locks_of olds → (v : ℕ) (old new : Station D) → slice_get olds v ≡ Some old → slice_get news v ≡ Some new → base_of_station new ≡ base_of_station old
base_same {D} olds news locks v old new was now =
    let one : slice_get (locks_of news) v ≡ Some new.lock = mapped (λ (s : Station D). s.lock) news v new now in
    let other : slice_get (locks_of olds) v ≡ Some old.lock = mapped (λ (s : Station D). s.lock) olds v old was in
    let same : Some new.lock ≡ Some old.lock = sym one ∙ ap (λ l. slice_get l v) locks ∙ other in
    let lock : new.lock ≡ old.lock = cc same in
    ap (λ (l : ManagerLock D). (lock_id l).base) lock

module _ {D : Type 0} (state : D → State) (tells : Bool) (config : Config) (entry opened left_ : BayState) (r q : Rack D) (rest : q.rest ≡ r.rest) (locks : locks_of q.stations.items ≡ locks_of r.stations.items)
    (count : length q.stations.items ≡ length (shapes_of config)) (all_out : (k : ℕ) → k < length (shapes_of config) → IsImageOut r.rest.images.items k)
    (began : IsTrue tells → IfSome entry.told (λ t. BeganWith state config t r)) (told_open : IsTold HasFaulty entry.told opened.told)
    (Q : Told → Told → Type 0) (told_left : IsTrue tells → IsTold Q opened.told left_.told)
    (closed : All (IsClosedVolume tells config q.rest.images.items opened left_) q.stations.items) (stations : AreStations q.stations.items) (answers : List Answered)
    (ran : (v : ℕ) (s : Station D) → slice_get q.stations.items v ≡ Some s → StationRan v answers s) (first : (v : ℕ) → AreFirst v answers) (others : (v : ℕ) → length (targets_of config) ≤ v → answers_of v answers ≡ []) where
  abbrev pub histories : List History
  histories = histories_of tells config q.rest.images.items opened left_ q.stations.items closed

  pub run_histories : AreHistories (IsTrue tells) config answers histories
  run_histories = are_histories tells config q.rest.images.items opened left_ q.stations.items closed stations answers ran count first

  abbrev pub its_history : (v : ℕ) (h : History) → slice_get histories v ≡ Some h → IsHistoryAt tells config q.rest.images.items opened left_ q.stations.items v h
  its_history v h here = history_at tells config q.rest.images.items opened left_ q.stations.items closed v h here

  -- ---- What they began with

  begins : (t : Told) → BeganWith state config t r → BeginAsRead config t histories
  begins t with v h here =
      let at = its_history v h here in
      let (less, is) = at_place q.stations.items v at.station at.there in
      let same_count : length q.stations.items ≡ length r.stations.items = sym (length-map q.stations.items (λ (s : Station D). s.lock)) ∙ ap length locks ∙ length-map r.stations.items (λ (s : Station D). s.lock) in
      let (old, was) = a_member r.stations.items v (omega (arith, less, same_count)) in
      let (within, old_is) = at_place r.stations.items v old was in
      let base : base_of_station at.station ≡ base_of_station old = base_same r.stations.items q.stations.items locks v old at.station was at.there in
      let here_old : IsBegun config (images_taken config r.rest.images.items t) (base_of_station old).volume.began
      = subst (λ (s : Station D). IsBegun config (images_taken config r.rest.images.items t) (base_of_station s).volume.began) (old_is old) (with.stations v old within) in
      subst (λ (x : History). IsBegun config (images_read config t) x.base) (sym at.is)
      (subst (λ (b : ManagerBase). IsBegun config (images_read config t) b.volume.began) (sym base)
      (subst (λ images. IsBegun config images (base_of_station old).volume.began) (taken_all config r.rest.images.items all_out t) here_old))

  at_entry : IsTrue tells → (t : Told) → entry.told ≡ Some t → BeginAsRead config t histories
  at_entry told t is = begins t (subst (λ (x : Option Told). IfSome x (λ y. BeganWith state config y r)) is (began told))

  pub run_begun : IsTrue tells → IsTold (λ t left_. BeginAsRead config t histories) entry.told left_.told
  run_begun told = told_through HasFaulty Q (λ t n. BeginAsRead config t histories) entry.told opened.told left_.told told_open (told_left told) (λ t n is. at_entry told t is)

  pub run_marks : IsTrue tells → IsTold (λ t left_. ArePlainMarks config answers t) entry.told left_.told
  run_marks told = told_through HasFaulty Q (λ t n. ArePlainMarks config answers t) entry.told opened.told left_.told told_open (told_left told)
      (λ t n is. marks_left config answers histories (IsTrue tells) told run_histories (λ v none. others v (far v none)) t (at_entry told t is))
    where
      far : (v : ℕ) → slice_get histories v ≡ None → length (targets_of config) ≤ v
      far v none =
          let end = beyond_end histories v none in
          let same = histories_count tells config q.rest.images.items opened left_ q.stations.items closed in
          omega (arith, end, same, count, length-map config.volumes.items (shape_in config), length-map config.volumes.items target_of)

  -- ---- Versions

  -- what is told of the history of volume v is told of a closed station
  pub at_volume : (v : ℕ) → v < length (targets_of config) → (h : History) × (slice_get histories v ≡ Some h)
  at_volume v lt =
      let same = histories_count tells config q.rest.images.items opened left_ q.stations.items closed in
      a_member histories v (omega (arith, lt, same, count, length-map config.volumes.items (shape_in config), length-map config.volumes.items target_of))

  -- the entries follow the rules
  pub run_ruled : (v : ℕ) (h : History) → slice_get histories v ≡ Some h → AllByRecursion IsRuled h.notes
  run_ruled v h here =
      let at = its_history v h here in
      let ruled = all_ruled tells config q.rest.images.items opened left_ at.station at.closed
      (passes_numbered tells config q.rest.images.items opened left_ q.stations.items closed stations answers ran v at.station at.there) v answers (ran v at.station at.there) in
      subst (λ (x : History). AllByRecursion IsRuled x.notes) (sym at.is) ruled

  -- no entry leaves a next version above the last one, while nothing broke
  pub run_below : (v : ℕ) (h : History) (here : slice_get histories v ≡ Some h) → flight_of (entries_of h.notes) ≡ None → AllByRecursion (IsBelow (next_after h)) h.notes
  run_below v h here whole =
      let at = its_history v h here in
      let one = run_histories.each v h here in
      let ruled = all_ruled tells config q.rest.images.items opened left_ at.station at.closed
      (passes_numbered tells config q.rest.images.items opened left_ q.stations.items closed stations answers ran v at.station at.there) v answers (ran v at.station at.there) in
      let next = one.opening.next in
      next_below h.base.look h.notes (next_after h) one.legal.ruled (subst (λ (x : History). AllByRecursion IsRuled x.notes) (sym at.is) ruled) whole (omega (arith, next))
