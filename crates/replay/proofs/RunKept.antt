-- What a run over open volumes keeps of its lines and windows: the histories, the marks, and which requests were answered.
use Rattle.replay.proofs.Basics.{◌≡◌, ◌≢◌, ◌<◌, ◌≤◌, ◌^◌, ℕ, Bool, List, [], ◌∷◌, ◌++◌, length, Option, Some, refl, sym, ap, subst, ◌∙◌}
use Rattle.replay.proofs.Basics.{inl, inr, arith, All, IfSome, IsTrue, slice_get, AllByRecursion, cases_lt, length-map}
use Rattle.replay.proofs.Terms.{Begins, own, pass_mine, pass_seen, HasNoHelp, LeavesIdle, ManagerPass, BayState, Told, Rose, State}
use Rattle.replay.proofs.Terms.{TraceLine, requests, Answered, AreFirst, answers_of, requests_in, AreAllAnswered, Config, IsTold, shape_in}
use Rattle.replay.proofs.Terms.{shapes_of, target_of, targets_of, Station, Fault, Memory, Versions, IsClosedVolume, BeganWith}
use Rattle.replay.proofs.Terms.{KeepsAllSound, LeavesFronts, HasFaulty, AreUnused, IsUnused, base_of_station, IsImageOut, Rack, Rest, answers_to}
use Rattle.replay.proofs.Terms.{AreStations, IsMoved, Floor, Reclaim, fault_of_window, History, AreHistories, ArePlainMarks, BeginAsRead}
use Rattle.replay.proofs.Terms.{LeavesReclaimed, is_broken, answers_in, is_broken_at, next_at, LeavesImages, locks_of, ServedFromStart}
use Rattle.replay.proofs.Terms.{ServedWindow, AreWindowsOf, WentWell, most_of}
use Rattle.wol_model.specs.Trace.{Request}
use Rattle.replay.proofs.FirstsServed.{ends_well}
use Rattle.replay.proofs.FlightEnded.{StationFlew, station_flew, station_still}
use Rattle.replay.proofs.HistoriesLeft.{passes_numbered, histories_of}
use Rattle.replay.proofs.RacksServed.{a_member, at_place}
use Rattle.replay.proofs.ReclaimedLeft.{closed_idle, last_of, none_helped}
use Rattle.replay.proofs.CountsLeft.{answers_joined}
use Rattle.replay.proofs.LastWindow.{part_left, part_right}
use Rattle.replay.proofs.RunCounts.{answered_last, spent_last}
use Rattle.replay.proofs.SpentLeft.{spent_request, spent_within}
use Rattle.replay.proofs.RunImages.{run_images}
use Rattle.replay.proofs.RunCauses.{run_cause}
use Rattle.replay.proofs.RunLeft.{at_volume, histories, its_history, run_begun, run_below, run_histories, run_marks, run_ruled}
use Rattle.replay.proofs.PassesRuled.{IsRuled}
use Rattle.replay.proofs.StationsRan.{AreNumbered, EndsOn, StationRan, station_unused}
use Rattle.replay.proofs.RequestsServed.{requests_of_volumes, served_counted}
use Rattle.replay.proofs.WritesPlaced.{ArePlaced, counts_placed}
use Rattle.replay.proofs.TracesLeft.{last_beyond, none_beyond, run_alone, run_asked, run_final, run_first, run_last, run_stations, run_well}

each_within : (n : ℕ) (xs : List Answered) → AllByRecursion (λ (r : Request). r.volume < n) (requests_in xs) → AllByRecursion (λ (a : Answered). a.request.volume < n) xs
each_within n [] all = tt
each_within n (x ∷ xs) (first, others) = (first, each_within n xs others)

pub record RunKept (tells : Bool) (config : Config) (mode : Reclaim) (entry opened left_ : BayState) (run : List (Option TraceLine)) (earlier last : List ServedWindow) : Type 0 where
  pub asked : requests_in (answers_in (earlier ++ last)) ≡ requests (most_of config) (targets_of config) run
  pub kept : List History
  pub are : AreHistories (IsTrue tells) config (answers_in (earlier ++ last)) kept
  pub cause : (v : ℕ) → IsTrue (is_broken_at kept v) → Rose opened.faults left_.faults
  pub begun : IsTrue tells → IsTold (λ t left_. BeginAsRead config t kept) entry.told left_.told
  pub sized : AllByRecursion (λ (s : ServedWindow). length s.answer.outcomes.items ≡ length s.batch.requests) (earlier ++ last)
  pub within : AllByRecursion (λ (a : Answered). a.request.volume < length kept) (answers_in (earlier ++ last))
  pub placed : ArePlaced (earlier ++ last) kept
  pub ruled : (v : ℕ) (h : History) → slice_get kept v ≡ Some h → AllByRecursion IsRuled h.notes
  pub reclaims : LeavesReclaimed mode (earlier ++ last) kept
  pub marks : IsTrue tells → IsTold (λ t left_. ArePlainMarks config (answers_in (earlier ++ last)) t) entry.told left_.told
  pub images : IsTrue tells → IsTold (LeavesImages tells config (answers_in (earlier ++ last)) kept) entry.told left_.told
  pub well : (v : ℕ) → AreAllAnswered (answers_of v (answers_in earlier))
  -- of the last window all requests of a volume were answered, where none of its parts failed and it had versions left
  pub unless : (s : ServedWindow) → last ≡ s ∷ [] → (f : Fault) → fault_of_window s.batch.requests s.answer ≡ Some f → f ≢ Memory → (v : ℕ) → (IsTrue (is_broken_at kept v) → ⊥) → next_at kept v < 2 ^ 63
      → AreAllAnswered (answers_of v (answers_in last))
  -- where the versions of a volume ended it, none was left
  pub spent : (s : ServedWindow) → last ≡ s ∷ [] → (v : ℕ) → fault_of_window s.batch.requests s.answer ≡ Some (Versions v) → 2 ^ 63 ≤ next_at kept v

module _ {D : Type 0} (state : D → State) (tells : Bool) (config : Config) (entry opened left_ : BayState) (r q : Rack D) (rest : q.rest ≡ r.rest) (counted : length r.stations.items ≡ length (shapes_of config))
    (all_out : (k : ℕ) → k < length (shapes_of config) → IsImageOut r.rest.images.items k)
    (began : IsTrue tells → IfSome entry.told (λ t. BeganWith state config t r)) (told_open : IsTold HasFaulty entry.told opened.told)
    (Q : Told → Told → Type 0) (told_left : IsTrue tells → IsTold Q opened.told left_.told)
    (closed : All (IsClosedVolume tells config q.rest.images.items opened left_) q.stations.items) (stations : AreStations q.stations.items) (fresh : AreUnused r.stations.items)
    (unfaulty : IsTold (λ x y. y.faulty ≡ x.faulty) entry.told opened.told) (sound : IsTrue tells → IsTold (KeepsAllSound config) entry.told left_.told) (fronts : IsTrue tells → IsTold (LeavesFronts config) entry.told left_.told) where
  out_still : (k : ℕ) → k < length (shapes_of config) → IsImageOut q.rest.images.items k
  out_still = subst (λ (x : Rest D). (k : ℕ) → k < length (shapes_of config) → IsImageOut x.images.items k) (sym rest) all_out

  target_count : length (shapes_of config) ≡ length (targets_of config)
  target_count = length-map config.volumes.items (shape_in config) ∙ sym (length-map config.volumes.items target_of)

  module _ (mode : Reclaim) (before middle after : Floor D) (ps qs : List _) (moved : IsMoved r.stations.items before) (back : IsMoved q.stations.items after) (locks : locks_of q.stations.items ≡ before.locks.now)
      (numbers : (v : ℕ) (s : Station D) → slice_get r.stations.items v ≡ Some s → AreNumbered s) (run : List (Option TraceLine)) (earlier last : List ServedWindow) (are : AreWindowsOf config run (earlier ++ last))
      (well : AllByRecursion WentWell earlier) (one : length last ≤ 1) (served : ServedFromStart tells mode (earlier ++ last) before ps middle qs) (ends : EndsOn tells middle after) where
    locks_same : locks_of q.stations.items ≡ locks_of r.stations.items
    locks_same = locks ∙ moved.locks

    count : length q.stations.items ≡ length (shapes_of config)
    count = sym (length-map q.stations.items (λ (s : Station D). s.lock)) ∙ ap length locks_same ∙ length-map r.stations.items (λ (s : Station D). s.lock) ∙ counted

    sized : length r.stations.items ≡ length (targets_of config)
    sized = counted ∙ target_count

    ran : (v : ℕ) (s : Station D) → slice_get q.stations.items v ≡ Some s → StationRan v (answers_in (earlier ++ last)) s
    ran = run_stations tells mode config r.stations.items q.stations.items before middle after ps qs moved back locks sized numbers fresh run earlier last are well one served ends

    first : (v : ℕ) → AreFirst v (answers_in (earlier ++ last))
    first = run_first tells mode config r.stations.items q.stations.items before middle after ps qs moved back locks sized numbers fresh run earlier last are well one served ends

    others : (v : ℕ) → length (targets_of config) ≤ v → answers_of v (answers_in (earlier ++ last)) ≡ []
    others = none_beyond tells mode config r.stations.items q.stations.items before middle after ps qs moved back locks sized numbers fresh run earlier last are well one served ends

    abbrev hs : List History
    hs = histories state tells config entry opened left_ r q rest locks_same count all_out began told_open Q told_left closed stations (answers_in (earlier ++ last)) ran first others

    unless_here : (s : ServedWindow) → last ≡ s ∷ [] → (f : Fault) → fault_of_window s.batch.requests s.answer ≡ Some f → f ≢ Memory → (v : ℕ) → (IsTrue (is_broken_at hs v) → ⊥) → next_at hs v < 2 ^ 63
        → AreAllAnswered (answers_of v (answers_in last))
    unless_here s is f fault other v whole few = elim (cases_lt v (length (targets_of config))) [
      | inl lt ↦
          let (h, here) = at_volume state tells config entry opened left_ r q rest locks_same count all_out began told_open Q told_left closed stations (answers_in (earlier ++ last)) ran first others v lt in
          let at = its_history state tells config entry opened left_ r q rest locks_same count all_out began told_open Q told_left closed stations (answers_in (earlier ++ last)) ran first others v h here in
          let number = (passes_numbered tells config q.rest.images.items opened left_ q.stations.items closed stations (answers_in (earlier ++ last)) ran v at.station at.there).0 in
          subst (λ (l : List ServedWindow). AreAllAnswered (answers_of v (answers_in l))) (sym is)
          (answered_last tells mode config q.rest.images.items opened left_ q.stations.items hs v h here at number
          (run_below state tells config entry opened left_ r q rest locks_same count all_out began told_open Q told_left closed stations (answers_in (earlier ++ last)) ran first others v h here)
          s (run_last tells mode config r.stations.items q.stations.items before middle after ps qs moved back locks sized numbers fresh run earlier last are well one served ends s is v at.station at.there) f fault other whole few)
      | inr beyond ↦ last_beyond tells mode config r.stations.items q.stations.items before middle after ps qs moved back locks sized numbers fresh run earlier last are well one served ends v beyond
    ]

    flew : (v : ℕ) (s : Station D) → slice_get q.stations.items v ≡ Some s → StationFlew v (answers_in (earlier ++ last)) s
    flew v s there =
        let less = (at_place q.stations.items v s there).0 in
        let (old, was) = a_member r.stations.items v (omega (arith, less, count, counted)) in
        station_flew tells mode (earlier ++ last) r.stations.items q.stations.items before middle after ps qs moved back fresh served ends (ends_well earlier last well one) v old s was there (numbers v old was)

    are_here : AreHistories (IsTrue tells) config (answers_in (earlier ++ last)) hs
    are_here = run_histories state tells config entry opened left_ r q rest locks_same count all_out began told_open Q told_left closed stations (answers_in (earlier ++ last)) ran first others

    all_asked : requests_in (answers_in (earlier ++ last)) ≡ requests (most_of config) (targets_of config) run
    all_asked = run_asked tells mode config r.stations.items q.stations.items before middle after ps qs moved back locks sized numbers fresh run earlier last are well one served ends

    within_here : AllByRecursion (λ (a : Answered). a.request.volume < length hs) (answers_in (earlier ++ last))
    within_here = each_within (length hs) (answers_in (earlier ++ last)) (subst (λ (n : ℕ). AllByRecursion (λ (x : Request). x.volume < n) (requests_in (answers_in (earlier ++ last)))) (sym (are_here.count ∙ target_count))
        (subst (λ (rs : List Request). AllByRecursion (λ (x : Request). x.volume < length (targets_of config)) rs) (sym all_asked) (requests_of_volumes (most_of config) (targets_of config) run)))

    spent_here : (s : ServedWindow) → last ≡ s ∷ [] → (v : ℕ) → fault_of_window s.batch.requests s.answer ≡ Some (Versions v) → 2 ^ 63 ≤ next_at hs v
    spent_here s is v ended = elim (cases_lt v (length hs)) [
      | inl lt ↦
          let (h, here) = a_member hs v lt in
          let at = its_history state tells config entry opened left_ r q rest locks_same count all_out began told_open Q told_left closed stations (answers_in (earlier ++ last)) ran first others v h here in
          let number = (passes_numbered tells config q.rest.images.items opened left_ q.stations.items closed stations (answers_in (earlier ++ last)) ran v at.station at.there).0 in
          spent_last tells mode config q.rest.images.items opened left_ q.stations.items hs v h here at number
          (run_below state tells config entry opened left_ r q rest locks_same count all_out began told_open Q told_left closed stations (answers_in (earlier ++ last)) ran first others v h here)
          s (run_last tells mode config r.stations.items q.stations.items before middle after ps qs moved back locks sized numbers fresh run earlier last are well one served ends s is v at.station at.there) ended
          (are_here.each v h here).legal.ruled
          (run_ruled state tells config entry opened left_ r q rest locks_same count all_out began told_open Q told_left closed stations (answers_in (earlier ++ last)) ran first others v h here) (are_here.each v h here).opening.next
      | inr beyond ↦
          let all = subst (λ (l : List Answered). AllByRecursion (λ (a : Answered). a.request.volume < length hs) l) (answers_joined earlier last) within_here in
          let of_last = subst (λ (l : List ServedWindow). AllByRecursion (λ (a : Answered). a.request.volume < length hs) (answers_in l)) is (part_right (λ (a : Answered). a.request.volume < length hs) (answers_in earlier) (answers_in last) all) in
          let own_all = part_left (λ (a : Answered). a.request.volume < length hs) (answers_to s.batch.requests s.answer.outcomes.items) [] of_last in
          let less = spent_within (length hs) s.batch.requests s.answer.outcomes.items v (spent_request s.batch.requests s.answer v ended) own_all in
          absurd (omega (arith, beyond, less))
    ]

    reclaims_here : LeavesReclaimed mode (earlier ++ last) hs
    reclaims_here = record {
      idle = λ some nonempty v h here whole. (
          let at = its_history state tells config entry opened left_ r q rest locks_same count all_out began told_open Q told_left closed stations (answers_in (earlier ++ last)) ran first others v h here in
          let (front, s, is) = last_of (earlier ++ last) nonempty in
          let end = run_final tells mode config r.stations.items q.stations.items before middle after ps qs moved back locks sized numbers fresh run earlier last are well one served ends front s is v at.station at.there in
          let number = (passes_numbered tells config q.rest.images.items opened left_ q.stations.items closed stations (answers_in (earlier ++ last)) ran v at.station at.there).0 in
          subst (λ (x : History). LeavesIdle x.base.look x.notes) (sym at.is)
          (closed_idle tells mode some end.after.fault end.worked.middle end.after.worker end.worked.closed (base_of_station at.station).volume.began.look at.closed.entries
          (ap (λ n. own n at.closed.entries) (sym number) ∙ at.closed.worker_part.mine ∙ ap (λ (p : ManagerPass D). pass_mine p) end.same)
          (subst (λ (p : ManagerPass D). Begins (pass_seen p) at.closed.entries) end.same at.closed.worker_part.seen) (λ broken. whole (subst (λ (x : History). IsTrue (is_broken x)) (sym at.is) broken))));
      alone = λ other v h here. (
          let at = its_history state tells config entry opened left_ r q rest locks_same count all_out began told_open Q told_left closed stations (answers_in (earlier ++ last)) ran first others v h here in
          let number = (passes_numbered tells config q.rest.images.items opened left_ q.stations.items closed stations (answers_in (earlier ++ last)) ran v at.station at.there).1 in
          subst (λ (x : History). HasNoHelp x.notes) (sym at.is)
          (none_helped at.closed.entries (ap (λ n. own n at.closed.entries) (sym number) ∙ at.closed.helper_part.mine
          ∙ run_alone tells mode config r.stations.items q.stations.items before middle after ps qs moved back locks sized numbers fresh run earlier last are well one served ends other v at.station at.there)));
    }

    -- where a trace was served
    pub kept_served : RunKept tells config mode entry opened left_ run earlier last
    kept_served = record {
      asked = all_asked;
      kept = hs;
      are = are_here;
      cause = run_cause tells config q.rest.images.items opened left_ q.stations.items closed;
      begun = run_begun state tells config entry opened left_ r q rest locks_same count all_out began told_open Q told_left closed stations (answers_in (earlier ++ last)) ran first others;
      ruled = run_ruled state tells config entry opened left_ r q rest locks_same count all_out began told_open Q told_left closed stations (answers_in (earlier ++ last)) ran first others;
      sized = served_counted tells mode (earlier ++ last) before ps middle qs served;
      within = within_here;
      placed = counts_placed (earlier ++ last) hs (served_counted tells mode (earlier ++ last) before ps middle qs served) within_here (λ v h here. (are_here.each v h here).answered);
      reclaims = reclaims_here;
      marks = run_marks state tells config entry opened left_ r q rest locks_same count all_out began told_open Q told_left closed stations (answers_in (earlier ++ last)) ran first others;
      images = λ told. run_images tells told config q.rest.images.items out_still opened left_ q.stations.items stations closed (answers_in (earlier ++ last))
          (run_histories state tells config entry opened left_ r q rest locks_same count all_out began told_open Q told_left closed stations (answers_in (earlier ++ last)) ran first others) flew entry Q unfaulty
          (run_begun state tells config entry opened left_ r q rest locks_same count all_out began told_open Q told_left closed stations (answers_in (earlier ++ last)) ran first others told) (sound told) (fronts told) (told_left told);
      well = run_well tells mode config r.stations.items q.stations.items before middle after ps qs moved back locks sized numbers fresh run earlier last are well one served ends;
      unless = unless_here;
      spent = spent_here;
    }

    -- these are the histories of the closed volumes
    pub kept_is : kept_served.kept ≡ histories_of tells config q.rest.images.items opened left_ q.stations.items closed
    unfolding kept_served
    kept_is = refl

  -- where nothing was asked for
  module _ (same : q.stations.items ≡ r.stations.items) where
    none_ran : (v : ℕ) (s : Station D) → slice_get q.stations.items v ≡ Some s → StationRan v [] s
    none_ran v s there =
        let was : slice_get r.stations.items v ≡ Some s = ap (λ l. slice_get l v) (sym same) ∙ there in
        let (less, is) = at_place r.stations.items v s was in
        station_unused v s (subst (λ (x : Station D). IsUnused x.worker × IsUnused x.helper × IsUnused x.keeper) (is s) (fresh v s less))

    none_flew : (v : ℕ) (s : Station D) → slice_get q.stations.items v ≡ Some s → StationFlew v [] s
    none_flew v s there =
        let was : slice_get r.stations.items v ≡ Some s = ap (λ l. slice_get l v) (sym same) ∙ there in
        let (less, is) = at_place r.stations.items v s was in
        station_still v s (subst (λ (x : Station D). IsUnused x.worker) (is s) (fresh v s less).0)

    abbrev none_histories : List History
    none_histories = histories state tells config entry opened left_ r q rest (ap locks_of same) (ap length same ∙ counted) all_out began told_open Q told_left closed stations [] none_ran (λ v. refl) (λ v beyond. refl)

    none_are : AreHistories (IsTrue tells) config [] none_histories
    none_are = run_histories state tells config entry opened left_ r q rest (ap locks_of same) (ap length same ∙ counted) all_out began told_open Q told_left closed stations [] none_ran (λ v. refl) (λ v beyond. refl)

    none_alone : (v : ℕ) (h : History) → slice_get none_histories v ≡ Some h → HasNoHelp h.notes
    none_alone v h here =
        let at = its_history state tells config entry opened left_ r q rest (ap locks_of same) (ap length same ∙ counted) all_out began told_open Q told_left closed stations [] none_ran (λ v. refl) (λ v beyond. refl) v h here in
        let number = (passes_numbered tells config q.rest.images.items opened left_ q.stations.items closed stations [] none_ran v at.station at.there).1 in
        let was : slice_get r.stations.items v ≡ Some at.station = ap (λ l. slice_get l v) (sym same) ∙ at.there in
        let (less, is) = at_place r.stations.items v at.station was in
        let none = subst (λ (x : Station D). pass_mine x.helper ≡ []) (is at.station) (fresh v at.station less).1.mine in
        subst (λ (x : History). HasNoHelp x.notes) (sym at.is) (none_helped at.closed.entries (ap (λ n. own n at.closed.entries) (sym number) ∙ at.closed.helper_part.mine ∙ none))

    pub kept_none : requests (most_of config) (targets_of config) [] ≡ [] → (mode : Reclaim) → RunKept tells config mode entry opened left_ [] [] []
    kept_none none mode = record {
      asked = sym none;
      kept = none_histories;
      are = none_are;
      cause = run_cause tells config q.rest.images.items opened left_ q.stations.items closed;
      begun = run_begun state tells config entry opened left_ r q rest (ap locks_of same) (ap length same ∙ counted) all_out began told_open Q told_left closed stations [] none_ran (λ v. refl) (λ v beyond. refl);
      ruled = run_ruled state tells config entry opened left_ r q rest (ap locks_of same) (ap length same ∙ counted) all_out began told_open Q told_left closed stations [] none_ran (λ v. refl) (λ v beyond. refl);
      sized = tt;
      within = tt;
      placed = counts_placed [] none_histories tt tt (λ v h here. (none_are.each v h here).answered);
      reclaims = record { idle = λ some nonempty. absurd (nonempty refl); alone = λ other v h here. none_alone v h here };
      marks = run_marks state tells config entry opened left_ r q rest (ap locks_of same) (ap length same ∙ counted) all_out began told_open Q told_left closed stations [] none_ran (λ v. refl) (λ v beyond. refl);
      images = λ told. run_images tells told config q.rest.images.items out_still opened left_ q.stations.items stations closed []
          (run_histories state tells config entry opened left_ r q rest (ap locks_of same) (ap length same ∙ counted) all_out began told_open Q told_left closed stations [] none_ran (λ v. refl) (λ v beyond. refl)) none_flew entry Q unfaulty
          (run_begun state tells config entry opened left_ r q rest (ap locks_of same) (ap length same ∙ counted) all_out began told_open Q told_left closed stations [] none_ran (λ v. refl) (λ v beyond. refl) told) (sound told) (fronts told) (told_left told);
      well = λ v. tt;
      unless = λ s is. absurd (cc is);
      spent = λ s is. absurd (cc is);
    }

    pub none_is : (none : requests (most_of config) (targets_of config) [] ≡ []) (mode : Reclaim) → (kept_none none mode).kept ≡ histories_of tells config q.rest.images.items opened left_ q.stations.items closed
    unfolding kept_none
    none_is none mode = refl
