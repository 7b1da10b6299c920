-- What the worker and the keeper of a volume did while windows were served.
use Rattle.replay.proofs.Basics.{◌≡◌, ◌<◌, ◌≤◌, ◌⊎◌, ℕ, suc, Bool, List, [], ◌∷◌, ◌++◌, length, map, refl, sym, ap, subst, ◌∙◌}
use Rattle.replay.proofs.Basics.{append_assoc, append-nil, Option, None, Some, arith, inl, inr, slice_index_or, map-append}
use Rattle.replay.proofs.Terms.{LackedIn, OneLacked, looks_so, own_requests, outcomes_of, Entry, IsFree, IsSamePass, pass_mine, pass_number, pass_seen, keeper, worker, Noted, StepFault}
use Rattle.replay.proofs.Terms.{HasBegunVolume, HasClosed, Gains, IsBroken, IsHonest, LooksStay, ManagerPass, began, coded, faulty_part}
use Rattle.replay.proofs.Terms.{notes_seen, down_breaks, gains_both, gains_none, gains_turn, stays_both, turn_more, HaveBegunVolumes}
use Rattle.replay.proofs.Terms.{IsClosed, HasWorked, Desk, Floor, Reclaim, ServedFromStart, ServedWindow, WasNotRun, WereServed, AreBegun}
use Rattle.replay.proofs.Terms.{AreWorks, IsClosing, IsWork}
use Rattle.replay.proofs.FirstsServed.{was_worked}
use Rattle.replay.proofs.PassesRuled.{pass_there}
use Rattle.replay.proofs.StationsRan.{EndsOn}
use Rattle.replay.proofs.WindowBroken.{broken_in}
use Rattle.window_desks.specs.declared.request.Reclaim.TheVariants as reclaim

-- ---- The worker in one window

no_fault : (seen : List Noted) (fault : Option StepFault) → ((f : StepFault) → fault ≡ Some f → IsBroken seen) → (IsBroken seen → ⊥) → fault ≡ None
no_fault seen None cause unbroken = refl
no_fault seen (Some f) cause unbroken = absurd (unbroken (cause f refl))

module _ {D : Type 0} (tells : Bool) (whole : Type 0) where
  -- what the worker added in a window
  pub record WorksOnce (mode : Reclaim) (v : ℕ) (s : ServedWindow) (p q : ManagerPass D) : Type 0 where
    pub more : List Entry
    pub notes : List Noted
    pub gains : Gains tells p q more notes
    pub work : (whole → IsBroken (notes_seen q) → ⊥) → IsWork mode (began p).view v whole s notes
    pub stays : mode ≡ reclaim.Off → IsHonest tells p → LooksStay (OneLacked (own_requests v s.batch.requests) (outcomes_of v s.batch.requests s.answer.outcomes.items)) p more

  closing_of : (fault : Option StepFault) (p q : ManagerPass D) (c : HasClosed tells fault p q) → (whole → IsBroken (notes_seen q) → ⊥) → IsClosing whole c.note
  closing_of fault p q c unbroken = record {
    help = c.help;
    kept = λ w. c.kept (no_fault (notes_seen q) fault (λ f is. down_breaks (faulty_part f) (notes_seen q) (c.cause f is)) (unbroken w));
    idle = λ w. c.idle (no_fault (notes_seen q) fault (λ f is. down_breaks (faulty_part f) (notes_seen q) (c.cause f is)) (unbroken w));
  }

  works_once : (mode : Reclaim) (v : ℕ) (s : ServedWindow) (d e : Desk D) → HasWorked tells s.batch.requests s.answer.outcomes.items mode v d e → WorksOnce mode v s d.worker e.worker
  works_once mode v s d e w = at mode w.closed
    where
      at : (m : Reclaim) → IsClosed tells m e.fault w.middle e.worker → WorksOnce m v s d.worker e.worker
      at reclaim.Off c = record {
        more = w.more;
        notes = w.notes;
        gains = subst (λ (x : ManagerPass D). Gains tells d.worker x w.more w.notes) (sym c.0) w.gains;
        work = λ unbroken. record { served = w.notes; closing = []; split = sym (append-nil w.notes); made = w.made; stops = w.stops; closes = refl };
        stays = λ off honest. w.stays honest;
      }
      at on c = record {
        more = w.more ++ turn_more tells w.middle e.worker c.before c.note c.turned;
        notes = w.notes ++ c.note ∷ [];
        gains = gains_both tells d.worker w.middle e.worker w.more (turn_more tells w.middle e.worker c.before c.note c.turned) w.notes (c.note ∷ []) w.gains (gains_turn tells w.middle e.worker c.before c.note c.turned);
        work = λ unbroken. record { served = w.notes; closing = c.note ∷ []; split = refl; made = w.made; stops = w.stops; closes = (c.note, refl, closing_of e.fault w.middle e.worker c unbroken) };
        stays = λ off honest. absurd (cc off);
      }

  -- ---- .. and in windows one after another

  pub record WorksOn (mode : Reclaim) (v : ℕ) (ss : List ServedWindow) (p q : ManagerPass D) : Type 0 where
    pub more : List Entry
    pub notes : List Noted
    pub gains : Gains tells p q more notes
    pub works : (whole → IsBroken (notes_seen q) → ⊥) → AreWorks mode (began p).view v whole ss notes
    pub stays : mode ≡ reclaim.Off → IsHonest tells p → LooksStay (LackedIn v ss) p more

  works_none : (mode : Reclaim) (v : ℕ) (p : ManagerPass D) → IsFree p → WorksOn mode v [] p p
  works_none mode v p free = record { more = []; notes = []; gains = gains_none tells p free; works = λ unbroken. refl; stays = λ off honest. tt }

  works_then : (mode : Reclaim) (v : ℕ) (s : ServedWindow) (ss : List ServedWindow) (p q r : ManagerPass D) → WorksOnce mode v s p q → WorksOn mode v ss q r → WorksOn mode v (s ∷ ss) p r
  works_then mode v s ss p q r a b = record {
    more = a.more ++ b.more;
    notes = a.notes ++ b.notes;
    gains = gains_both tells p q r a.more b.more a.notes b.notes a.gains b.gains;
    works = λ unbroken. (
      a.notes,
      b.notes,
      refl,
      a.work (λ w broken. unbroken w (broken_in (pass_seen q) (pass_seen r) (b.more, sym b.gains.seen) broken)),
      subst (λ (view : List ℕ). AreWorks mode view v whole ss b.notes) (ap (λ x. x.base.volume.began.view) a.gains.same.0) (b.works unbroken),
    );
    stays = λ off honest. stays_both tells p q r a.more b.more a.notes b.notes a.gains b.gains (LackedIn v (s ∷ ss))
        (looks_so (OneLacked (own_requests v s.batch.requests) (outcomes_of v s.batch.requests s.answer.outcomes.items)) (LackedIn v (s ∷ ss)) (λ w lacked. inl lacked) p a.more (a.stays off honest))
        (looks_so (LackedIn v ss) (LackedIn v (s ∷ ss)) (λ w lacked. inr lacked) q b.more (b.stays off (a.gains.honest honest)));
  }

  module _ (mode : Reclaim) (k : ℕ) (d : Desk D) where
    abbrev worker_at : Floor D → ManagerPass D
    worker_at f = (slice_index_or f.desks.items k d).worker

    were_works : (ss : List ServedWindow) (f : Floor D) (ps : List _) (g : Floor D) (qs : List _) → WereServed tells mode ss f ps g qs → k < length f.desks.items → IsFree (worker_at f) → WorksOn mode k ss (worker_at f) (worker_at g)
    were_works [] f ps g qs (floor, passes) lt free = subst (λ (x : Floor D). WorksOn mode k [] (worker_at f) (worker_at x)) (sym floor) (works_none mode k (worker_at f) free)
    were_works (s ∷ ss) f ps g qs (h, rs, was, others) lt free =
        let (worked, less) = was_worked tells mode k d s f ps h rs was lt in
        let one = works_once mode k s (slice_index_or was.begun.desks.items k d) (slice_index_or h.desks.items k d) worked in
        let first = subst (λ x. WorksOnce mode k s (slice_index_or x.items k d).worker (worker_at h)) (ap (λ (x : Floor D). x.desks) was.only) one in
        works_then mode k s ss (worker_at f) (worker_at h) (worker_at g) first (were_works ss h rs g qs others less first.gains.free)

    pub served_works : (ss : List ServedWindow) (f : Floor D) (ps : List _) (g : Floor D) (qs : List _) → ServedFromStart tells mode ss f ps g qs → k < length f.desks.items → IsFree (worker_at f) → WorksOn mode k ss (worker_at f) (worker_at g)
    served_works [] f ps g qs (floor, passes) lt free = subst (λ (x : Floor D). WorksOn mode k [] (worker_at f) (worker_at x)) (sym floor) (works_none mode k (worker_at f) free)
    served_works (s ∷ ss) f ps g qs (rs, started, were) lt free = were_works (s ∷ ss) f rs g qs were lt free

-- ---- The keeper

begun_joined : (owner : ℕ) (view : List ℕ) (xs ys : List (List Bool)) (ns ms : List Noted) → AreBegun owner view xs ns → AreBegun owner view ys ms → AreBegun owner view (xs ++ ys) (ns ++ ms)
begun_joined owner view [] ys ns ms none right = subst (λ (l : List Noted). AreBegun owner view ys (l ++ ms)) (sym none) right
begun_joined owner view (a ∷ xs) ys ns ms (n, rest, is, here, others) right = (n, rest ++ ms, ap (λ (l : List Noted). l ++ ms) is, here, begun_joined owner view xs ys rest ms others right)

-- what the keeper added as windows began with these answers of the spindles
pub record BeginsOn {D : Type 0} (awake : List (List Bool)) (p q : ManagerPass D) : Type 0 where
  pub same : IsSamePass p q
  pub notes : List Noted
  pub mine : pass_mine q ≡ pass_mine p ++ map coded notes
  pub begun : AreBegun (began p).owner (began p).view awake notes

module _ {D : Type 0} (tells : Bool) where
  begins_none : (p : ManagerPass D) → BeginsOn [] p p
  begins_none p = record { same = (refl, refl); notes = []; mine = sym (append-nil (pass_mine p)); begun = refl }

  begins_once : (a : List Bool) (p q : ManagerPass D) → HasBegunVolume tells a p q → BeginsOn (a ∷ []) p q
  begins_once a p q b = record { same = b.turned.same; notes = b.note ∷ []; mine = b.turned.mine; begun = (b.note, [], refl, b.begun, refl) }

  begins_both : (xs ys : List (List Bool)) (p q r : ManagerPass D) → BeginsOn xs p q → BeginsOn ys q r → BeginsOn (xs ++ ys) p r
  begins_both xs ys p q r a b = record {
    same = (b.same.0 ∙ a.same.0, b.same.1 ∙ a.same.1);
    notes = a.notes ++ b.notes;
    mine = rw (b.mine, a.mine, map-append coded a.notes b.notes) (append_assoc (pass_mine p) (map coded a.notes) (map coded b.notes));
    begun = begun_joined (began p).owner (began p).view xs ys a.notes b.notes a.begun (subst (λ x. AreBegun x.base.volume.began.owner x.base.volume.began.view ys b.notes) a.same.0 b.begun);
  }

  -- ---- What the spindles answered

  module _ (mode : Reclaim) where
    unfoldable pub awake_then : (ss : List ServedWindow) (f : Floor D) (ps : List _) (g : Floor D) (qs : List _) → WereServed tells mode ss f ps g qs → List (List Bool)
    awake_then [] f ps g qs were = []
    awake_then (s ∷ ss) f ps g qs (h, rs, was, others) = was.awake ∷ awake_then ss h rs g qs others

    -- window by window
    unfoldable pub awake_in : (ss : List ServedWindow) (f : Floor D) (ps : List _) (g : Floor D) (qs : List _) → ServedFromStart tells mode ss f ps g qs → List (List Bool)
    awake_in [] f ps g qs were = []
    awake_in (s ∷ ss) f ps g qs (rs, started, were) = awake_then (s ∷ ss) f rs g qs were

    count_then : (ss : List ServedWindow) (f : Floor D) (ps : List _) (g : Floor D) (qs : List _) (were : WereServed tells mode ss f ps g qs) → length (awake_then ss f ps g qs were) ≡ length ss
    unfolding awake_then
    count_then [] f ps g qs were = refl
    count_then (s ∷ ss) f ps g qs (h, rs, was, others) = ap suc (count_then ss h rs g qs others)

    pub awake_count : (ss : List ServedWindow) (f : Floor D) (ps : List _) (g : Floor D) (qs : List _) (were : ServedFromStart tells mode ss f ps g qs) → length (awake_in ss f ps g qs were) ≡ length ss
    unfolding awake_in
    awake_count [] f ps g qs were = refl
    awake_count (s ∷ ss) f ps g qs (rs, started, were) = count_then (s ∷ ss) f rs g qs were

    -- .. and of a window that began, of which no request was run
    pub awake_last : (f g : Floor D) → EndsOn tells f g → List (List Bool)
    awake_last f g (inl same) = []
    awake_last f g (inr not_run) = elim not_run.keepers [
      | inl same ↦ []
      | inr (awake, begun) ↦ awake ∷ []
    ]

    pub awake_last_none : (f g : Floor D) (same : g ≡ f) → awake_last f g (inl same) ≡ []
    unfolding awake_last
    awake_last_none f g same = refl

    last_of : (f g : Floor D) → (g.keepers ≡ f.keepers) ⊎ ((awake : List Bool) × HaveBegunVolumes tells awake f.keepers.items g.keepers.items) → List (List Bool)
    last_of f g (inl same) = []
    last_of f g (inr (awake, begun)) = awake ∷ []

    last_is : (f g : Floor D) (not_run : WasNotRun tells f g) → awake_last f g (inr not_run) ≡ last_of f g not_run.keepers
    unfolding awake_last last_of
    last_is f g not_run = at not_run.keepers
      where
        at : (o : (g.keepers ≡ f.keepers) ⊎ ((awake : List Bool) × HaveBegunVolumes tells awake f.keepers.items g.keepers.items)) → (let l : List (List Bool) = elim o [ inl same ↦ [] | inr (awake, begun) ↦ awake ∷ [] ] in l) ≡ last_of f g o
        at (inl same) = refl
        at (inr (awake, begun)) = refl

    pub awake_last_kept : (f g : Floor D) (not_run : WasNotRun tells f g) (same : g.keepers ≡ f.keepers) → not_run.keepers ≡ inl same → awake_last f g (inr not_run) ≡ []
    unfolding last_of
    awake_last_kept f g not_run same is = last_is f g not_run ∙ ap (last_of f g) is

    pub awake_last_begun : (f g : Floor D) (not_run : WasNotRun tells f g) (awake : List Bool) (begun : HaveBegunVolumes tells awake f.keepers.items g.keepers.items) → not_run.keepers ≡ inr (awake, begun) → awake_last f g (inr not_run) ≡ awake ∷ []
    unfolding last_of
    awake_last_begun f g not_run awake begun is = last_is f g not_run ∙ ap (last_of f g) is

    pub awake_few : (f g : Floor D) (ends : EndsOn tells f g) → length {A = List Bool} (awake_last f g ends) ≤ 1
    unfolding awake_last
    awake_few f g (inl same) = omega arith
    awake_few f g (inr not_run) = at not_run.keepers
      where
        at : (o : (g.keepers ≡ f.keepers) ⊎ ((awake : List Bool) × HaveBegunVolumes tells awake f.keepers.items g.keepers.items)) → length {A = List Bool} (elim o [ inl same ↦ [] | inr (awake, begun) ↦ awake ∷ [] ]) ≤ 1
        at (inl same) = omega arith
        at (inr (awake, begun)) = omega arith

  -- ---- On a floor

  module _ (mode : Reclaim) (k : ℕ) (p : ManagerPass D) (client : pass_number p ≡ worker) where
    abbrev keeper_at : List (ManagerPass D) → ManagerPass D
    keeper_at ps = slice_index_or ps k p

    abbrev pub KeepsAt : List (ManagerPass D) → Type 0
    KeepsAt ps = (k < length ps) × (pass_number (keeper_at ps) ≡ keeper)

    begins_at : (a : List Bool) (ps qs : List (ManagerPass D)) → HaveBegunVolumes tells a ps qs → KeepsAt ps → BeginsOn (a ∷ []) (keeper_at ps) (keeper_at qs) × KeepsAt qs
    begins_at a ps qs all (lt, number) =
        let one = all k p lt in (
          begins_once a (keeper_at ps) (keeper_at qs) one,
          (pass_there ps qs k p (λ same. (let no : worker ≡ keeper = sym client ∙ same ∙ number in absurd (cc no))) one.turned.same, one.turned.same.1 ∙ number),
        )

    begins_then : (ss : List ServedWindow) (f : Floor D) (ps : List _) (g : Floor D) (qs : List _) (were : WereServed tells mode ss f ps g qs) → KeepsAt f.keepers.items
        → BeginsOn (awake_then mode ss f ps g qs were) (keeper_at f.keepers.items) (keeper_at g.keepers.items) × KeepsAt g.keepers.items
    unfolding awake_then
    begins_then [] f ps g qs were here = subst (λ (x : Floor D). BeginsOn [] (keeper_at f.keepers.items) (keeper_at x.keepers.items) × KeepsAt x.keepers.items) (sym were.0) (begins_none (keeper_at f.keepers.items), here)
    begins_then (s ∷ ss) f ps g qs (h, rs, was, others) here =
        let first = subst (λ x. BeginsOn (was.awake ∷ []) (keeper_at f.keepers.items) (keeper_at x.items) × KeepsAt x.items) (sym was.run.keepers) (begins_at was.awake f.keepers.items was.begun.keepers.items was.volumes here) in
        let rest = begins_then ss h rs g qs others first.1 in
        (begins_both (was.awake ∷ []) (awake_then mode ss h rs g qs others) (keeper_at f.keepers.items) (keeper_at h.keepers.items) (keeper_at g.keepers.items) first.0 rest.0, rest.1)

    served_begins : (ss : List ServedWindow) (f : Floor D) (ps : List _) (g : Floor D) (qs : List _) (were : ServedFromStart tells mode ss f ps g qs) → KeepsAt f.keepers.items
        → BeginsOn (awake_in mode ss f ps g qs were) (keeper_at f.keepers.items) (keeper_at g.keepers.items) × KeepsAt g.keepers.items
    unfolding awake_in
    served_begins [] f ps g qs were here = subst (λ (x : Floor D). BeginsOn [] (keeper_at f.keepers.items) (keeper_at x.keepers.items) × KeepsAt x.keepers.items) (sym were.0) (begins_none (keeper_at f.keepers.items), here)
    served_begins (s ∷ ss) f ps g qs (rs, started, were) here = begins_then (s ∷ ss) f rs g qs were here

    last_begins : (f g : Floor D) (ends : EndsOn tells f g) → KeepsAt f.keepers.items → BeginsOn (awake_last mode f g ends) (keeper_at f.keepers.items) (keeper_at g.keepers.items)
    unfolding awake_last
    last_begins f g (inl same) here = subst (λ (x : Floor D). BeginsOn [] (keeper_at f.keepers.items) (keeper_at x.keepers.items)) (sym same) (begins_none (keeper_at f.keepers.items))
    last_begins f g (inr not_run) here = at not_run.keepers
      where
        at : (o : (g.keepers ≡ f.keepers) ⊎ ((awake : List Bool) × HaveBegunVolumes tells awake f.keepers.items g.keepers.items))
            → BeginsOn (elim o [ inl same ↦ [] | inr (awake, begun) ↦ awake ∷ [] ]) (keeper_at f.keepers.items) (keeper_at g.keepers.items)
        at (inl same) = subst (λ x. BeginsOn [] (keeper_at f.keepers.items) (keeper_at x.items)) (sym same) (begins_none (keeper_at f.keepers.items))
        at (inr (awake, begun)) = (begins_at awake f.keepers.items g.keepers.items begun here).0

    pub all_begins : (ss : List ServedWindow) (f : Floor D) (ps : List _) (g : Floor D) (qs : List _) (were : ServedFromStart tells mode ss f ps g qs) (h : Floor D) (ends : EndsOn tells g h) → KeepsAt f.keepers.items
        → BeginsOn (awake_in mode ss f ps g qs were ++ awake_last mode g h ends) (keeper_at f.keepers.items) (keeper_at h.keepers.items)
    all_begins ss f ps g qs were h ends here =
        let (front, there) = served_begins ss f ps g qs were here in
        begins_both (awake_in mode ss f ps g qs were) (awake_last mode g h ends) (keeper_at f.keepers.items) (keeper_at g.keepers.items) (keeper_at h.keepers.items) front (last_begins g h ends there)
