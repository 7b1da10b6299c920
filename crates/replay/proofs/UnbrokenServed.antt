-- While windows go well no call of a disk fails: no pass of a volume makes a Broke.
use Rattle.replay.proofs.Basics.{◌≡◌, ◌<◌, ◌+◌, ℕ, zero, suc, Bool, true, false, List, [], ◌∷◌, ◌++◌, length, map, drop, refl, sym, ap}
use Rattle.replay.proofs.Basics.{subst, ◌∙◌, Option, None, Some, arith, slice_index_or, if◌then◌else◌, AllByRecursion, list_any, option_or}
use Rattle.replay.proofs.Basics.{drop-append_seam}
use Rattle.replay.proofs.Terms.{pass_mine, pass_number, Broke, Kept, Operation, Read, Wrote, flight_from, flight_of, worker, is_answered}
use Rattle.replay.proofs.Terms.{Noted, entries_of, AreAllAnswered, Memory, notes_of, StepFault, Request, HasBegunVolume, AreEntriesOf}
use Rattle.replay.proofs.Terms.{AreMade, AreKept, made_since, ManagerPass, coded, Outcome, IsWhole, SpindlePass, IsClosed, AreAllKept}
use Rattle.replay.proofs.Terms.{answers_to, told, HasWorked, HelpedIn, first_fault, Desk, Floor, Reclaim, Window, fault_of_reclaim}
use Rattle.replay.proofs.Terms.{fault_of_window, first_refused, lacked_memory, ServedFromStart, ServedWindow, WasServed, WereServed}
use Rattle.replay.proofs.Terms.{WentWell}
use Rattle.replay.proofs.AnswersServed.{own_answers}
use Rattle.replay.proofs.EntriesOwn.{notes_back}
use Rattle.replay.proofs.FirstsServed.{window_answered}
use Rattle.replay.proofs.Grouped.{answered_rest, made_by_cases}
use Rattle.replay.proofs.Makes.{Makes, makes_both, makes_none, makes_same}
use Rattle.replay.proofs.PassesRuled.{AreThere, helper_on, keeper_on, was_ruled, worker_on}
use Rattle.request_turns.specs.declared.outcome.Outcome.TheVariants as outcome
use Rattle.window_desks.specs.declared.request.Reclaim.TheVariants as reclaim

-- ---- Entries

-- the entry is no Broke
abbrev pub IsWholeNote : Noted → Type 0
IsWholeNote n = IsWhole n.entry.operation

pub whole_flight : (notes : List Noted) → AllByRecursion IsWholeNote notes → flight_of (entries_of notes) ≡ None
whole_flight [] all = refl
whole_flight (n ∷ notes) (first, others) = at n.entry.operation first (whole_flight notes others)
  where
    at : (o : Operation) → IsWhole o → flight_of (entries_of notes) ≡ None → flight_from o (flight_of (entries_of notes)) ≡ None
    at (Wrote ws) whole rest = rest
    at (Read first reply) whole rest = rest
    at Kept whole rest = rest
    at (Broke ws) whole rest = absurd whole

kept_whole : (notes : List Noted) → AllByRecursion (λ (n : Noted). n.entry.operation ≡ Kept) notes → AllByRecursion IsWholeNote notes
kept_whole [] all = tt
kept_whole (n ∷ notes) (first, others) = (subst IsWhole (sym first) tt, kept_whole notes others)

-- the entry of an answered request
request_whole : (view : List ℕ) (r : Request) (rs : List Request) (o : Outcome) (first rest : List Noted) → AreEntriesOf view r rs o first → is_answered (told o) ≡ true → AllByRecursion IsWholeNote rest → AllByRecursion IsWholeNote (first ++ rest)
request_whole view r rs (outcome.Read mark sources) first rest (n, one, entry) is all =
    subst (λ (l : List Noted). AllByRecursion IsWholeNote (l ++ rest)) (sym one) (subst IsWhole (sym entry.operation) tt, all)
request_whole view r rs (outcome.Wrote place drained) first rest (n, one, (is_write, entry)) is all =
    subst (λ (l : List Noted). AllByRecursion IsWholeNote (l ++ rest)) (sym one) (subst IsWhole (sym entry.operation) tt, all)
request_whole view r rs (outcome.NoRead refusal) first rest entries is all = absurd (cc is)
request_whole view r rs (outcome.NoWrite refusal) first rest entries is all = absurd (cc is)
request_whole view r rs outcome.NotRun first rest entries is all = absurd (cc is)

-- the entries of answered requests
made_whole : (view : List ℕ) (rs : List Request) (os : List Outcome) (notes : List Noted) → AreMade view rs os notes → AreAllAnswered (answers_to rs os) → AllByRecursion IsWholeNote notes
made_whole view rs os notes made =
    made_by_cases view (λ rs os notes. AreAllAnswered (answers_to rs os) → AllByRecursion IsWholeNote notes) (λ all. tt)
    (λ r rs o os first rest entries others further all. request_whole view r rs o first rest entries all.0 (further all.1))
    (λ group rs place os n rest two entry further all. (subst IsWhole (sym entry.together.operation) tt, further (answered_rest group rs place os all))) rs os notes made

-- ---- Refused steps of reclaim

or_none : {X : Type 0} (x y : Option X) → option_or x y ≡ None → (x ≡ None) × (y ≡ None)
or_none None y none = (refl, none)
or_none (Some f) y none = absurd (cc none)

no_reclaim : (x : Option (ℕ × StepFault)) → fault_of_reclaim x ≡ None → x ≡ None
no_reclaim None none = refl
no_reclaim (Some (v, f)) none = absurd (cc none)

-- where a window went well no step was refused
well_fault : (rs : List Request) (w : Window) → fault_of_window rs w ≡ None → w.fault ≡ None
well_fault rs w well = at (list_any lacked_memory w.outcomes.items) well
  where
    at : (t : Bool) → (if t then Some Memory else option_or (first_refused rs w.outcomes.items) (fault_of_reclaim w.fault)) ≡ None → w.fault ≡ None
    at true none = absurd (cc none)
    at false none = no_reclaim w.fault (or_none (first_refused rs w.outcomes.items) (fault_of_reclaim w.fault) none).1

no_first : {D : Type 0} (start : ℕ) (es : List (Desk D)) → first_fault start (map (λ (d : Desk D). d.fault) es) ≡ None → (k : ℕ) (d : Desk D) → k < length es → (slice_index_or es k d).fault ≡ None
no_first start [] none k d lt = absurd (omega (arith, lt))
no_first {D} start (e ∷ es) none k d lt = at e.fault refl none k lt (λ rest j less. no_first (start + 1) es rest j d less)
  where
    at : (x : Option StepFault) → e.fault ≡ x → first_fault start (x ∷ map (λ (d : Desk D). d.fault) es) ≡ None → (j : ℕ) → j < length (e ∷ es)
        → (first_fault (start + 1) (map (λ (d : Desk D). d.fault) es) ≡ None → (i : ℕ) → i < length es → (slice_index_or es i d).fault ≡ None) → (slice_index_or (e ∷ es) j d).fault ≡ None
    at None is rest zero less others = is
    at None is rest (suc j) less others = others rest j (omega (arith, less))
    at (Some f) is gone j less others = absurd (cc gone)

-- ---- One pass

-- what a pass added since has no Broke
abbrev pub MakesWhole : {D : Type 0} → (p q : ManagerPass D) → Type 0
MakesWhole p q = Makes IsWholeNote p q

module _ {D : Type 0} (tells : Bool) where
  whole_closed : (mode : Reclaim) (fault : Option StepFault) (p q : ManagerPass D) → IsClosed tells mode fault p q → fault ≡ None → MakesWhole p q
  whole_closed reclaim.Off fault p q c none = makes_same IsWholeNote p q c.0
  whole_closed reclaim.Between fault p q c none = record { same = c.turned.same; notes = c.note ∷ []; mine = c.turned.mine; all = (subst IsWhole (sym (c.kept none)) tt, tt) }
  whole_closed reclaim.Beside fault p q c none = record { same = c.turned.same; notes = c.note ∷ []; mine = c.turned.mine; all = (subst IsWhole (sym (c.kept none)) tt, tt) }

  whole_worked : (rs : List Request) (w : Window) (mode : Reclaim) (k : ℕ) (d e : Desk D) → HasWorked tells rs w.outcomes.items mode k d e → fault_of_window rs w ≡ None → e.fault ≡ None → MakesWhole d.worker e.worker
  whole_worked rs w mode k d e worked well none =
      let all = subst AreAllAnswered (own_answers k rs w.outcomes.items) (window_answered tells mode k rs w d e worked well) in
      makes_both IsWholeNote d.worker worked.middle e.worker (record { same = worked.gains.same; notes = worked.notes; mine = worked.gains.mine; all = made_whole _ _ _ worked.notes worked.made all })
      (whole_closed mode e.fault worked.middle e.worker worked.closed none)

  whole_begun : (awake : List Bool) (p q : ManagerPass D) → HasBegunVolume tells awake p q → MakesWhole p q
  whole_begun awake p q b = record { same = b.turned.same; notes = b.note ∷ []; mine = b.turned.mine; all = (subst IsWhole (sym b.begun.does) tt, tt) }

  whole_helped : (mode : Reclaim) (fault : Option (ℕ × StepFault)) (ps qs : List (ManagerPass D)) → HelpedIn tells mode ps qs → AreAllKept fault ps qs → fault ≡ None → (k : ℕ) (p : ManagerPass D) → k < length ps
      → MakesWhole (slice_index_or ps k p) (slice_index_or qs k p)
  whole_helped reclaim.Off fault ps qs same kept none k p lt = makes_same IsWholeNote (slice_index_or ps k p) (slice_index_or qs k p) (ap (λ (x : List (ManagerPass D)). slice_index_or x k p) same)
  whole_helped reclaim.Between fault ps qs same kept none k p lt = makes_same IsWholeNote (slice_index_or ps k p) (slice_index_or qs k p) (ap (λ (x : List (ManagerPass D)). slice_index_or x k p) same)
  whole_helped reclaim.Beside fault ps qs all kept none k p lt =
      let one = all k p lt in
      let before : ManagerPass D = slice_index_or ps k p in
      let made : made_since before (slice_index_or qs k p) ≡ map coded one.notes = ap (drop (length (pass_mine before))) one.gains.mine ∙ drop-append_seam (pass_mine before) (map coded one.notes) in
      let is_kept : AreKept before (slice_index_or qs k p) = kept none k p lt in
      record {
        same = one.gains.same;
        notes = one.notes;
        mine = one.gains.mine;
        all = kept_whole one.notes (subst (λ (ns : List Noted). AllByRecursion (λ (n : Noted). n.entry.operation ≡ Kept) ns) (ap notes_of made ∙ notes_back one.notes) is_kept);
      }

-- ---- The passes of one volume on a floor

module _ {D : Type 0} (tells : Bool) (mode : Reclaim) (k : ℕ) (d : Desk D) (p : ManagerPass D) (client : pass_number p ≡ worker) where
  abbrev There : Floor D → Type 0
  There f = AreThere tells mode k d p client f

  pub record AllWhole (f g : Floor D) : Type 0 where
    pub worker_ : MakesWhole (worker_on tells mode k d p client f) (worker_on tells mode k d p client g)
    pub helper_ : MakesWhole (helper_on tells mode k d p client f) (helper_on tells mode k d p client g)
    pub keeper_ : MakesWhole (keeper_on tells mode k d p client f) (keeper_on tells mode k d p client g)

  all_none : (f : Floor D) → AllWhole f f
  all_none f = record { worker_ = makes_none IsWholeNote _; helper_ = makes_none IsWholeNote _; keeper_ = makes_none IsWholeNote _ }

  all_then : (f g h : Floor D) → AllWhole f g → AllWhole g h → AllWhole f h
  all_then f g h a b = record { worker_ = makes_both IsWholeNote _ _ _ a.worker_ b.worker_; helper_ = makes_both IsWholeNote _ _ _ a.helper_ b.helper_; keeper_ = makes_both IsWholeNote _ _ _ a.keeper_ b.keeper_ }

  was_whole : (s : ServedWindow) (f : Floor D) (ps : List SpindlePass) (g : Floor D) (qs : List SpindlePass) → WasServed tells mode s f ps g qs → WentWell s → There f → There g → AllWhole f g
  was_whole s f ps g qs was well there there_after =
      let desks : was.begun.desks ≡ f.desks = ap (λ (x : Floor D). x.desks) was.only in
      let helpers : was.begun.helpers ≡ f.helpers = ap (λ (x : Floor D). x.helpers) was.only in
      let less : k < length was.begun.desks.items = rw desks there.desks in
      let faults = or_none g.help.fault (first_fault 0 (map (λ (x : Desk D). x.fault) g.desks.items)) (sym was.run.fault ∙ well_fault s.batch.requests s.answer well) in
      let worked = whole_worked tells s.batch.requests s.answer mode k (slice_index_or was.begun.desks.items k d) (slice_index_or g.desks.items k d) (was.run.worked k d less) well (no_first 0 g.desks.items faults.1 k d there_after.desks) in
      let kept = whole_helped tells mode g.help.fault f.helpers.items g.helpers.items (subst (λ x. HelpedIn tells mode x.items g.helpers.items) helpers was.run.helped)
      (subst (λ x. AreAllKept g.help.fault x.items g.helpers.items) helpers was.run.kept) faults.0 k p there.helpers in
      record {
        worker_ = subst (λ x. MakesWhole (slice_index_or x.items k d).worker (slice_index_or g.desks.items k d).worker) desks worked;
        helper_ = kept;
        keeper_ = subst (λ x. MakesWhole (slice_index_or f.keepers.items k p) (slice_index_or x.items k p)) (sym was.run.keepers)
            (whole_begun tells was.awake (slice_index_or f.keepers.items k p) (slice_index_or was.begun.keepers.items k p) (was.volumes k p there.keepers));
      }

  were_whole : (ss : List ServedWindow) (f : Floor D) (ps : List SpindlePass) (g : Floor D) (qs : List SpindlePass) → WereServed tells mode ss f ps g qs → AllByRecursion WentWell ss → There f → AllWhole f g
  were_whole [] f ps g qs (floor, passes) well there = subst (λ (x : Floor D). AllWhole f x) (sym floor) (all_none f)
  were_whole (s ∷ ss) f ps g qs (h, rs, was, others) (first, rest) there =
      let there_after = (was_ruled tells mode k d p client s f ps h rs was there).there in
      all_then f h g (was_whole s f ps h rs was first there there_after) (were_whole ss h rs g qs others rest there_after)

  pub served_whole : (ss : List ServedWindow) (f : Floor D) (ps : List SpindlePass) (g : Floor D) (qs : List SpindlePass) → ServedFromStart tells mode ss f ps g qs → AllByRecursion WentWell ss → There f → AllWhole f g
  served_whole [] f ps g qs (floor, passes) well there = subst (λ (x : Floor D). AllWhole f x) (sym floor) (all_none f)
  served_whole (s ∷ ss) f ps g qs (rs, started, were) well there = were_whole (s ∷ ss) f rs g qs were well there
