-- What the passes of each station did while windows were served.
use Rattle.replay.proofs.Basics.{◌≡◌, ◌<◌, ℕ, Bool, List, [], ◌++◌, length, map, refl, sym, ap, subst, ◌∙◌, Some, inl, inr, ◌⊎◌, slice_get}
use Rattle.replay.proofs.Basics.{slice_index_or, AllByRecursion}
use Rattle.replay.proofs.Terms.{pass_mine, pass_number, helper, keeper, worker, Answered, AreOutcomes, answered_in, Noted, answers_of}
use Rattle.replay.proofs.Terms.{Station, ManagerPass, coded, IsMoved, Desk, Floor, Reclaim, AreUnused, IsUnused, answers_in}
use Rattle.replay.proofs.Terms.{ServedFromStart, ServedWindow, WasNotRun}
use Rattle.replay.proofs.AnswersServed.{HasAnswers, operation_in, served_answers}
use Rattle.replay.proofs.PassesRuled.{AllRuled, IsRuled, MakesRuled, not_run_ruled, served_ruled}
use Rattle.replay.proofs.RacksServed.{at_place, mapped, unmapped}

-- the entries that a pass made, all of which follow the rules
pub record HasMade {D : Type 0} (p : ManagerPass D) : Type 0 where
  pub notes : List Noted
  pub mine : pass_mine p ≡ map coded notes
  pub ruled : AllByRecursion IsRuled notes

-- its passes have their numbers
abbrev pub AreNumbered : {D : Type 0} → Station D → Type 0
AreNumbered s = (pass_number s.worker ≡ worker) × (pass_number s.helper ≡ helper) × (pass_number s.keeper ≡ keeper)

-- so of the passes of volume v; the worker's entries are what these answers read and wrote
pub record StationRan {D : Type 0} (v : ℕ) (answers : List Answered) (s : Station D) : Type 0 where
  pub worker_ : HasMade s.worker
  pub helper_ : HasMade s.helper
  pub keeper_ : HasMade s.keeper
  pub notes : List Noted
  pub mine : pass_mine s.worker ≡ map coded notes
  pub answered : AreOutcomes (answered_in (answers_of v answers)) (map operation_in notes)

module _ {D : Type 0} where
  unused_made : (p : ManagerPass D) → IsUnused p → HasMade p
  unused_made p unused = record { notes = []; mine = unused.mine; ruled = tt }

  -- passes that weren't used
  pub station_unused : (v : ℕ) (s : Station D) → IsUnused s.worker × IsUnused s.helper × IsUnused s.keeper → StationRan v [] s
  station_unused v s (worker, helper, keeper) = record {
    worker_ = unused_made s.worker worker;
    helper_ = unused_made s.helper helper;
    keeper_ = unused_made s.keeper keeper;
    notes = [];
    mine = worker.mine;
    answered = refl;
  }

  ruled_made : (p q r : ManagerPass D) → IsUnused p → MakesRuled p q → r ≡ q → HasMade r
  ruled_made p q r unused made same = record {
    notes = made.notes;
    mine = ap (λ (x : ManagerPass D). pass_mine x) same ∙ made.mine ∙ ap (λ l. l ++ map coded made.notes) unused.mine;
    ruled = made.all;
  }

  -- ---- Stations on a floor

  -- the passes of a station are at its place
  pub record IsAt (f : Floor D) (k : ℕ) (d : Desk D) (p : ManagerPass D) (s : Station D) : Type 0 where
    pub desk : k < length f.desks.items
    pub helper : k < length f.helpers.items
    pub keeper : k < length f.keepers.items
    pub worker_is : (slice_index_or f.desks.items k d).worker ≡ s.worker
    pub helper_is : slice_index_or f.helpers.items k p ≡ s.helper
    pub keeper_is : slice_index_or f.keepers.items k p ≡ s.keeper

  pub moved_at : (ss : List (Station D)) (f : Floor D) → IsMoved ss f → (k : ℕ) (s : Station D) → slice_get ss k ≡ Some s → (d : Desk D) (p : ManagerPass D) → IsAt f k d p s
  moved_at ss f moved k s there d p =
      let (x, desk, worker) = unmapped (λ (x : Desk D). x.worker) f.desks.items k s.worker (subst (λ l. slice_get l k ≡ Some s.worker) (sym moved.workers) (mapped (λ (y : Station D). y.worker) ss k s there)) in
      let (less, is) = at_place f.desks.items k x desk in
      let (help_less, help_is) = at_place f.helpers.items k s.helper (subst (λ l. slice_get l k ≡ Some s.helper) (sym moved.helpers) (mapped (λ (y : Station D). y.helper) ss k s there)) in
      let (keep_less, keep_is) = at_place f.keepers.items k s.keeper (subst (λ l. slice_get l k ≡ Some s.keeper) (sym moved.keepers) (mapped (λ (y : Station D). y.keeper) ss k s there)) in
      record {
        desk = less;
        helper = help_less;
        keeper = keep_less;
        worker_is = ap (λ (y : Desk D). y.worker) (is d) ∙ worker;
        helper_is = help_is p;
        keeper_is = keep_is p;
      }

-- nothing more was run
abbrev pub EndsOn : {D : Type 0} → (tells : Bool) → (f g : Floor D) → Type 0
EndsOn tells f g = (g ≡ f) ⊎ WasNotRun tells f g

module _ {D : Type 0} (tells : Bool) (mode : Reclaim) (ss : List ServedWindow) (olds news : List (Station D)) (before middle after : Floor D) (ps qs : List _) (moved : IsMoved olds before) (back : IsMoved news after)
    (unused : AreUnused olds) (served : ServedFromStart tells mode ss before ps middle qs) (ends : EndsOn tells middle after) (v : ℕ) (old new : Station D) (there : slice_get olds v ≡ Some old) (now : slice_get news v ≡ Some new)
    (numbered : AreNumbered old) where
  old_unused : IsUnused old.worker × IsUnused old.helper × IsUnused old.keeper
  old_unused = let (less, is) = at_place olds v old there in subst (λ (s : Station D). IsUnused s.worker × IsUnused s.helper × IsUnused s.keeper) (is old) (unused v old less)

  -- the desk of the volume before
  pub desk : Desk D
  desk = (unmapped (λ (x : Desk D). x.worker) before.desks.items v old.worker (subst (λ l. slice_get l v ≡ Some old.worker) (sym moved.workers) (mapped (λ (y : Station D). y.worker) olds v old there))).0

  pub first : IsAt before v desk old.worker old
  first = moved_at olds before moved v old there desk old.worker

  last : IsAt after v desk old.worker new
  last = moved_at news after back v new now desk old.worker

  ruled : AllRuled tells mode v desk old.worker numbered.0 before middle
  ruled = served_ruled tells mode v desk old.worker numbered.0 ss before ps middle qs served (record {
    desks = first.desk;
    helpers = first.helper;
    keepers = first.keeper;
    helper_is = ap (λ (x : ManagerPass D). pass_number x) first.helper_is ∙ numbered.1;
    keeper_is = ap (λ (x : ManagerPass D). pass_number x) first.keeper_is ∙ numbered.2;
  })

  to_end : AllRuled tells mode v desk old.worker numbered.0 before after
  to_end = elim ends [
    | inl same ↦ subst (λ (f : Floor D). AllRuled tells mode v desk old.worker numbered.0 before f) (sym same) ruled
    | inr not_run ↦ not_run_ruled tells mode v desk old.worker numbered.0 before middle after ruled not_run last.desk
  ]

  -- the worker's pass made no entry behind the last window
  pub worker_same : new.worker ≡ (slice_index_or middle.desks.items v desk).worker
  worker_same = sym last.worker_is ∙ elim ends [
    | inl same ↦ ap (λ (f : Floor D). (slice_index_or f.desks.items v desk).worker) same
    | inr not_run ↦ (not_run.desks v desk ruled.there.desks).worker_is
  ]

  answers : HasAnswers v (answers_in ss) (slice_index_or before.desks.items v desk).worker (slice_index_or middle.desks.items v desk).worker
  answers = served_answers tells mode v desk ss before ps middle qs served first.desk

  pub station_ran : StationRan v (answers_in ss) new
  station_ran = record {
    worker_ = made_by (slice_index_or before.desks.items v desk).worker (slice_index_or after.desks.items v desk).worker new.worker first.worker_is old_unused.0 to_end.worker_ (sym last.worker_is);
    helper_ = made_by (slice_index_or before.helpers.items v old.worker) (slice_index_or after.helpers.items v old.worker) new.helper first.helper_is old_unused.1 to_end.helper_ (sym last.helper_is);
    keeper_ = made_by (slice_index_or before.keepers.items v old.worker) (slice_index_or after.keepers.items v old.worker) new.keeper first.keeper_is old_unused.2 to_end.keeper_ (sym last.keeper_is);
    notes = answers.notes;
    mine = ap (λ (x : ManagerPass D). pass_mine x) worker_same ∙ answers.mine ∙ ap (λ (x : ManagerPass D). pass_mine x ++ map coded answers.notes) first.worker_is ∙ ap (λ l. l ++ map coded answers.notes) old_unused.0.mine;
    answered = answers.answered;
  }
    where
      made_by : {x : ManagerPass D} (p q r : ManagerPass D) → p ≡ x → IsUnused x → MakesRuled p q → r ≡ q → HasMade r
      made_by p q r is none made same = ruled_made p q r (subst (λ y. IsUnused y) (sym is) none) made same
