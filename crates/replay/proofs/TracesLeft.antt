-- What serving a trace on the stations of a rack leaves of their passes.
use Rattle.replay.proofs.Basics.{◌≡◌, ◌≢◌, ◌<◌, ◌≤◌, ℕ, Bool, List, [], ◌∷◌, ◌++◌, length, map, Option, Some, refl, sym, ap, subst, ◌∙◌}
use Rattle.replay.proofs.Basics.{inl, inr, arith, slice_get, slice_index_or, AllByRecursion, cases_lt, length-map}
use Rattle.replay.proofs.Terms.{TraceLine, requests, Answered, AreFirst, answers_of, requests_in, AreAllAnswered, volume_joined, pass_mine}
use Rattle.replay.proofs.Terms.{ManagerPass, Config, targets_of, Station, AreUnused, IsMoved, HasWorked, Desk, Floor, Reclaim, answers_in}
use Rattle.replay.proofs.Terms.{locks_of, ServedFromStart, ServedWindow, WereServed, AreWindowsOf, WentWell, most_of}
use Rattle.replay.proofs.CountsLeft.{answers_joined}
use Rattle.replay.proofs.FirstsServed.{ends_well, served_answered, served_first}
use Rattle.replay.proofs.LastWindow.{served_last}
use Rattle.replay.proofs.ReclaimedLeft.{served_alone}
use Rattle.replay.proofs.RacksServed.{a_member, at_place, mapped}
use Rattle.replay.proofs.RequestsServed.{others_none, served_asked}
use Rattle.replay.proofs.StationsRan.{AreNumbered, EndsOn, IsAt, StationRan, desk, first, station_ran, worker_same}
use Rattle.window_desks.specs.declared.request.Reclaim.TheVariants as reclaim

module _ {D : Type 0} (tells : Bool) (mode : Reclaim) where
  were_front : (earlier last : List ServedWindow) (f : Floor D) (ps : List _) (g : Floor D) (qs : List _) → WereServed tells mode (earlier ++ last) f ps g qs
      → (h : Floor D) × (rs : List _) × WereServed tells mode earlier f ps h rs
  were_front [] last f ps g qs were = (f, ps, (refl, refl))
  were_front (s ∷ earlier) last f ps g qs (h, rs, was, others) = let (i, ts, front) = were_front earlier last h rs g qs others in (i, ts, (h, rs, was, front))

  -- the windows before the last were served
  served_front : (earlier last : List ServedWindow) (f : Floor D) (ps : List _) (g : Floor D) (qs : List _) → ServedFromStart tells mode (earlier ++ last) f ps g qs
      → (h : Floor D) × (rs : List _) × ServedFromStart tells mode earlier f ps h rs
  served_front [] last f ps g qs served = (f, ps, (refl, refl))
  served_front (s ∷ earlier) last f ps g qs (rs, started, were) = let (h, ts, front) = were_front (s ∷ earlier) last f rs g qs were in (h, ts, (rs, started, front))

-- no answer of a volume that isn't there
first_none : (v : ℕ) (answers : List Answered) → answers_of v answers ≡ [] → AreFirst v answers
first_none v answers none = rw none refl

all_none : (v : ℕ) (answers : List Answered) → answers_of v answers ≡ [] → AreAllAnswered (answers_of v answers)
all_none v answers none = rw none tt

-- what the worker of volume v made of the last window, with its desk before and after
pub record LastServed {D : Type 0} (tells : Bool) (mode : Reclaim) (v : ℕ) (s : ServedWindow) (new : Station D) : Type 0 where
  pub before : Desk D
  pub after : Desk D
  pub worked : HasWorked tells s.batch.requests s.answer.outcomes.items mode v before after
  pub same : new.worker ≡ after.worker

module _ {D : Type 0} (tells : Bool) (mode : Reclaim) (config : Config) (olds news : List (Station D)) (before middle after : Floor D) (ps qs : List _) (moved : IsMoved olds before) (back : IsMoved news after)
    (locks : locks_of news ≡ before.locks.now) (count : length olds ≡ length (targets_of config)) (numbers : (v : ℕ) (s : Station D) → slice_get olds v ≡ Some s → AreNumbered s) (unused : AreUnused olds) (run : List (Option TraceLine)) (earlier last : List ServedWindow)
    (are : AreWindowsOf config run (earlier ++ last)) (well : AllByRecursion WentWell earlier) (one : length last ≤ 1) (served : ServedFromStart tells mode (earlier ++ last) before ps middle qs) (ends : EndsOn tells middle after) where
  same_count : length news ≡ length olds
  same_count = sym (length-map news (λ (s : Station D). s.lock)) ∙ ap length locks ∙ ap length moved.locks ∙ length-map olds (λ (s : Station D). s.lock)

  abbrev answers : List Answered
  answers = answers_in (earlier ++ last)

  pub run_asked : requests_in answers ≡ requests (most_of config) (targets_of config) run
  run_asked = served_asked tells mode config run (earlier ++ last) before ps middle qs served are

  pub none_beyond : (v : ℕ) → length (targets_of config) ≤ v → answers_of v answers ≡ []
  none_beyond v beyond = others_none (most_of config) (targets_of config) run answers run_asked v beyond

  parts : (v : ℕ) → answers_of v answers ≡ answers_of v (answers_in earlier) ++ answers_of v (answers_in last)
  parts v = ap (answers_of v) (answers_joined earlier last) ∙ volume_joined v (answers_in earlier) (answers_in last)

  module _ (v : ℕ) (lt : v < length (targets_of config)) where
    there : (s : Station D) × (slice_get olds v ≡ Some s)
    there = a_member olds v (omega (arith, lt, count))

    now : (s : Station D) × (slice_get news v ≡ Some s)
    now = a_member news v (omega (arith, lt, count, same_count))

    abbrev its_desk : Desk D
    its_desk = desk tells mode (earlier ++ last) olds news before middle after ps qs moved back unused served ends v there.0 now.0 there.1 now.1 (numbers v there.0 there.1)

    at : IsAt before v its_desk there.0.worker there.0
    at = first tells mode (earlier ++ last) olds news before middle after ps qs moved back unused served ends v there.0 now.0 there.1 now.1 (numbers v there.0 there.1)

    first_here : AreFirst v answers
    first_here = served_first tells mode v its_desk (earlier ++ last) before ps middle qs served (ends_well earlier last well one) at.desk

    well_here : AreAllAnswered (answers_of v (answers_in earlier))
    well_here = let (h, rs, front) = served_front tells mode earlier last before ps middle qs served in served_answered tells mode v its_desk earlier before ps h rs front well at.desk

  pub run_first : (v : ℕ) → AreFirst v answers
  run_first v = elim (cases_lt v (length (targets_of config))) [
    | inl lt ↦ first_here v lt
    | inr beyond ↦ first_none v answers (none_beyond v beyond)
  ]

  pub run_well : (v : ℕ) → AreAllAnswered (answers_of v (answers_in earlier))
  run_well v = elim (cases_lt v (length (targets_of config))) [
    | inl lt ↦ well_here v lt
    | inr beyond ↦ all_none v (answers_in earlier) (front_empty (answers_of v (answers_in earlier)) (answers_of v (answers_in last)) (sym (parts v) ∙ none_beyond v beyond))
  ]
    where
      front_empty : {X : Type 0} (xs ys : List X) → xs ++ ys ≡ [] → xs ≡ []
      front_empty [] ys is = refl
      front_empty (x ∷ xs) ys is = absurd (cc is)

  -- .. and no answer of the last window is of a volume that isn't there
  pub last_beyond : (v : ℕ) → length (targets_of config) ≤ v → AreAllAnswered (answers_of v (answers_in last))
  last_beyond v beyond = all_none v (answers_in last) (back_empty (answers_of v (answers_in earlier)) (answers_of v (answers_in last)) (sym (parts v) ∙ none_beyond v beyond))
    where
      back_empty : {X : Type 0} (xs ys : List X) → xs ++ ys ≡ [] → ys ≡ []
      back_empty [] ys is = is
      back_empty (x ∷ xs) ys is = absurd (cc is)

  pub run_stations : (v : ℕ) (s : Station D) → slice_get news v ≡ Some s → StationRan v answers s
  run_stations v s here =
      let less = (at_place news v s here).0 in
      let (old, was) = a_member olds v (omega (arith, less, same_count)) in
      station_ran tells mode (earlier ++ last) olds news before middle after ps qs moved back unused served ends v old s was here (numbers v old was)

  pub run_final : (front : List ServedWindow) (s : ServedWindow) → earlier ++ last ≡ front ++ s ∷ [] → (v : ℕ) (new : Station D) → slice_get news v ≡ Some new → LastServed tells mode v s new
  run_final front s is v new here =
      let less = (at_place news v new here).0 in
      let (old, was) = a_member olds v (omega (arith, less, same_count)) in
      let place : Desk D = desk tells mode (earlier ++ last) olds news before middle after ps qs moved back unused served ends v old new was here (numbers v old was) in
      let there = first tells mode (earlier ++ last) olds news before middle after ps qs moved back unused served ends v old new was here (numbers v old was) in
      let (x, worked) = served_last tells mode v place front s before ps middle qs (subst (λ l. ServedFromStart tells mode l before ps middle qs) is served) there.desk in
      record {
        before = x;
        after = slice_index_or middle.desks.items v place;
        worked = worked;
        same = worker_same tells mode (earlier ++ last) olds news before middle after ps qs moved back unused served ends v old new was here (numbers v old was);
      }

  pub run_last : (s : ServedWindow) → last ≡ s ∷ [] → (v : ℕ) (new : Station D) → slice_get news v ≡ Some new → LastServed tells mode v s new
  run_last s is v new here = run_final earlier s (ap (λ l. earlier ++ l) is) v new here

  -- no helper's pass was used
  pub run_alone : mode ≢ reclaim.Beside → (v : ℕ) (new : Station D) → slice_get news v ≡ Some new → pass_mine new.helper ≡ []
  run_alone other v new here =
      let less = (at_place news v new here).0 in
      let (old, was) = a_member olds v (omega (arith, less, same_count)) in
      let (old_less, old_is) = at_place olds v old was in
      let ended : after.helpers.items ≡ middle.helpers.items = elim ends [
        | inl same ↦ ap (λ (f : Floor D). f.helpers.items) same
        | inr not_run ↦ ap (λ hs. hs.items) not_run.helpers
      ] in
      let all : map (λ (s : Station D). s.helper) news ≡ map (λ (s : Station D). s.helper) olds = sym back.helpers ∙ ended ∙ served_alone tells mode other (earlier ++ last) before ps middle qs served ∙ moved.helpers in
      let one : Some new.helper ≡ Some old.helper = sym (mapped (λ (s : Station D). s.helper) news v new here) ∙ ap (λ l. slice_get l v) all ∙ mapped (λ (s : Station D). s.helper) olds v old was in
      let same : new.helper ≡ old.helper = cc one in
      ap (λ (p : ManagerPass D). pass_mine p) same ∙ subst (λ (s : Station D). pass_mine s.helper ≡ []) (old_is old) (unused v old old_less).1.mine
