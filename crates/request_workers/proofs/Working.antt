-- A desk through a whole window.
use Rattle.std.proofs.Common.{◌≡◌, ◌<◌, ℕ, Bool, true, false, List, [], ◌∷◌, ◌++◌, map, length, take, drop, replicate, get_or, refl, ap, ◌∙◌, sym, subst, Option}
use Rattle.std.specs.Prelude.{is_some}
use Rattle.std.proofs.lemmas.List.{take_at, drop_at, length-map}
use Rattle.wol_model.specs.ArrayLaws.{unversioned}
use Rattle.wol_model.specs.Blocks.{Write}
use Rattle.wol_model.specs.History.{Operation, Wrote, Kept, Broke}
use Rattle.wol_model.specs.Trace.{payload}
use Rattle.wol_model.specs.declared.trace.Kind.TheVariants as kind
use Rattle.wol_promise.specs.Outcomes.{Answered, WasRead, WasWritten, AreOutcomes, AreWritten, answered_in}
use Rattle.wol_promise.specs.Ruled.{Noted}
use Rattle.manager.specs.declared.part.Place.{Place}
use Rattle.manager.specs.declared.part.ReadRefusal.{ReadRefusal}
use Rattle.manager.specs.declared.part.ReadRefusal.TheVariants as refused_read
use Rattle.manager.specs.declared.part.StepFault.{StepFault}
use Rattle.manager.specs.declared.part.WriteRefusal.{WriteRefusal}
use Rattle.manager.specs.declared.part.WriteRefusal.TheVariants as refused
use Rattle.window_desks.specs.Closed.{IsClosed, HasClosedDesk, AreClosed}
use Rattle.window_desks.specs.Collects.{IsCollected, HoldsOutcomes}
use Rattle.window_desks.specs.Desks.{HaveOwn, AreServed}
use Rattle.request_turns.specs.Causes.{OneLacked}
use Rattle.request_turns.specs.Counts.{Counts, blocks_between, records_between}
use Rattle.request_turns.specs.Entries.{AreEntriesOf, AreMade, none, one, several, IsGroupEntry, IsRefusedRead, IsRefusedWrite, TellsFault, is_log}
use Rattle.trace_windows.specs.Requests.{asked}
use Rattle.window_desks.specs.Requests.{own_requests, outcomes_of, answers_to, StopsAtRefusal}
use Rattle.window_desks.specs.Served.{HasServed}
use Rattle.request_turns.specs.Turns.{ManagerPass, began, notes_seen, LooksStay}
use Rattle.window_desks.specs.Worked.{HasWorked, AreWorked}
use Rattle.window_desks.specs.declared.desk.Desk.{Desk}
use Rattle.window_desks.specs.declared.request.Reclaim.{Reclaim}
use Rattle.trace_windows.specs.declared.request.Request.{Request}
use Rattle.request_turns.specs.declared.outcome.Outcome.{Outcome}
use Rattle.request_turns.specs.declared.outcome.Outcome.TheVariants as outcome
use Rattle.request_turns.specs.declared.tally.Tally.{Tally}
use Rattle.window_desks.proofs.Counted.{from_none, closed_counted}
use Rattle.request_turns.proofs.MadeLaws.{made_length}
use Rattle.std.specs.List.{AllByRecursion}

-- ---- Outcomes and operations

operations : List Noted → List Operation
operations ns = map (λ (n : Noted). n.entry.operation) ns

skips_kept : (xs : List Answered) (op : Operation) (ops : List Operation) → op ≡ Kept → AreOutcomes xs ops → AreOutcomes xs (op ∷ ops)
skips_kept xs op ops is h = subst (λ (o : Operation). AreOutcomes xs (o ∷ ops)) (sym is) h

skips_broke : (xs : List Answered) (op : Operation) (ops : List Operation) (ws : List Write) → op ≡ Broke ws → AreOutcomes xs ops → AreOutcomes xs (op ∷ ops)
skips_broke xs op ops ws is h = subst (λ (o : Operation). AreOutcomes xs (o ∷ ops)) (sym is) h

skips_read : (xs : List Answered) (r : ReadRefusal) (n : Noted) (ops : List Operation) → IsRefusedRead r n → AreOutcomes xs ops → AreOutcomes xs (n.entry.operation ∷ ops)
skips_read xs (refused_read.DiskFault p) n ops is h = skips_broke xs n.entry.operation ops [] is h
skips_read xs (refused_read.Down p) n ops is h = skips_kept xs n.entry.operation ops is h

skips_write : (xs : List Answered) (w : List Write) (r : WriteRefusal) (n : Noted) (ops : List Operation) → IsRefusedWrite w r n → AreOutcomes xs ops → AreOutcomes xs (n.entry.operation ∷ ops)
skips_write xs w refused.Full n ops is h = absurd is
skips_write xs w (refused.DiskFault p) n ops is h = skips_broke xs n.entry.operation ops is.0 is.1 h
skips_write xs w (refused.Down p) n ops is h = skips_kept xs n.entry.operation ops is h
skips_write xs w refused.VersionsSpent n ops is h = skips_kept xs n.entry.operation ops is.0 h
skips_write xs w refused.NoMemory n ops is h = skips_kept xs n.entry.operation ops is h

one_more : (view : List ℕ) (r : Request) (o : Outcome) (rs : List Request) (os : List Outcome) (ns first rest : List Noted) → ns ≡ first ++ rest → AreEntriesOf view r rs o first → AreOutcomes (answered_in (answers_to rs os)) (operations rest)
    → AreOutcomes (answered_in (answers_to (r ∷ rs) (o ∷ os))) (operations ns)
unfolding operations
one_more view r outcome.NotRun rs os ns first rest split are h = subst (λ (l : List Noted). AreOutcomes (answered_in (answers_to rs os)) (operations l)) (sym (split ∙ ap (λ (l : List Noted). l ++ rest) are)) h
one_more view r (outcome.Read m s) rs os ns first rest split are h =
    let e = are.2 in
    subst (λ (l : List Noted). AreOutcomes (answered_in (answers_to (r ∷ rs) (outcome.Read m s ∷ os))) (operations l)) (sym (split ∙ ap (λ (l : List Noted). l ++ rest) are.1))
    (subst (λ (o : Operation). AreOutcomes (answered_in (answers_to (r ∷ rs) (outcome.Read m s ∷ os))) (o ∷ operations rest)) (sym e.operation)
    (record { asked = e.kind_is; begins = refl; count = e.count; marked = ap WasRead e.marked }, h))
one_more view r (outcome.Wrote p d) rs os ns first rest split are h =
    let e = are.2.1 in
    subst (λ (l : List Noted). AreOutcomes (answered_in (answers_to (r ∷ rs) (outcome.Wrote p d ∷ os))) (operations l)) (sym (split ∙ ap (λ (l : List Noted). l ++ rest) are.1))
    (subst (λ (o : Operation). AreOutcomes (answered_in (answers_to (r ∷ rs) (outcome.Wrote p d ∷ os))) (o ∷ operations rest)) (sym e.operation)
    (((are.2.0, record { same = e.same; place = e.logged }), tt), h))
one_more view r (outcome.NoRead x) rs os ns first rest split are h =
    subst (λ (l : List Noted). AreOutcomes (answered_in (answers_to rs os)) (operations l)) (sym (split ∙ ap (λ (l : List Noted). l ++ rest) are.1)) (skips_read (answered_in (answers_to rs os)) x are.0 (operations rest) are.2.1 h)
one_more view r (outcome.NoWrite x) rs os ns first rest split are h =
    subst (λ (l : List Noted). AreOutcomes (answered_in (answers_to rs os)) (operations l)) (sym (split ∙ ap (λ (l : List Noted). l ++ rest) are.1)) (skips_write (answered_in (answers_to rs os)) _ x are.0 (operations rest) are.2.1 h)

-- writes that went to this log together, each with its outcome
told_of : Place → List Request → List Answered
told_of place rs = map (λ (r : Request). record { request = asked r; outcome = WasWritten (is_log place) false }) rs

told_first : (place : Place) (group rs : List Request) (os : List Outcome) → answered_in (answers_to (group ++ rs) (replicate (length group) (outcome.Wrote place false) ++ os)) ≡ told_of place group ++ answered_in (answers_to rs os)
unfolding told_of
told_first place [] rs os = refl
told_first place (r ∷ group) rs os = ap (λ (l : List Answered). record { request = asked r; outcome = WasWritten (is_log place) false } ∷ l) (told_first place group rs os)

told_written : (place : Place) (group : List Request) (ws : List Write) → is_log place ≡ true → AllByRecursion (λ (r : Request). r.kind ≡ kind.Write) group → map unversioned ws ≡ map (λ (r : Request). payload (asked r)) group
    → AllByRecursion (λ (w : Write). is_some w.version ≡ true) ws → AreWritten (told_of place group) ws
unfolding told_of
told_written place [] [] log kinds same logged = tt
told_written place [] (w ∷ ws) log kinds same logged = cc
told_written place (r ∷ group) [] log kinds same logged = cc
told_written place (r ∷ group) (w ∷ ws) log kinds same logged =
    let front : unversioned w ≡ payload (asked r) = cc in
    let behind : map unversioned ws ≡ map (λ (q : Request). payload (asked q)) group = cc in
    ((kinds.0, record { same = front; place = logged.0 ∙ sym log }), told_written place group ws log kinds.1 behind logged.1)

told_length : (place : Place) (group : List Request) (ws : List Write) → map unversioned ws ≡ map (λ (r : Request). payload (asked r)) group → length (told_of place group) ≡ length ws
unfolding told_of
told_length place group ws same = length-map group _ ∙ (sym (length-map group (λ (r : Request). payload (asked r))) ∙ (ap length (sym same) ∙ length-map ws unversioned))

group_more : (view : List ℕ) (all : List Request) (outs : List Outcome) (notes : List Noted) (group rs : List Request) (place : Place) (os : List Outcome) (n : Noted) (rest : List Noted) → all ≡ group ++ rs
    → outs ≡ replicate (length group) (outcome.Wrote place false) ++ os → notes ≡ n ∷ rest → IsGroupEntry view group place n → AreOutcomes (answered_in (answers_to rs os)) (operations rest) → AreOutcomes (answered_in (answers_to all outs)) (operations notes)
unfolding operations
group_more view all outs notes group rs place os n rest all_is outs_is notes_is entry h =
    let t = entry.together in let ws = t.writes in let later = answered_in (answers_to rs os) in
    let are : answered_in (answers_to all outs) ≡ told_of place group ++ later = (λ i. answered_in (answers_to (all_is i) (outs_is i))) ∙ told_first place group rs os in
    let long = told_length place group ws t.same in
    subst (λ (l : List Noted). AreOutcomes (answered_in (answers_to all outs)) (operations l)) (sym notes_is)
    (subst (λ (o : Operation). AreOutcomes (answered_in (answers_to all outs)) (o ∷ operations rest)) (sym t.operation)
    (subst (λ (xs : List Answered). AreOutcomes xs (Wrote ws ∷ operations rest)) (sym are) (
      subst (λ (xs : List Answered). AreWritten xs ws) (sym (take_at (told_of place group) later (length ws) long)) (told_written place group ws t.logger entry.kinds t.same t.logged),
      subst (λ (xs : List Answered). AreOutcomes xs (operations rest)) (sym (drop_at (told_of place group) later (length ws) long)) h,
    )))

pub made_outcomes : (view : List ℕ) (rs : List Request) (os : List Outcome) (ns : List Noted) → AreMade view rs os ns → AreOutcomes (answered_in (answers_to rs os)) (map (λ (n : Noted). n.entry.operation) ns)
unfolding operations
made_outcomes view _ _ _ none = refl
made_outcomes view _ _ _ (one r rs o os notes first rest is entries made) = one_more view r o rs os notes first rest is entries (made_outcomes view rs os rest made)
made_outcomes view _ _ _ (several all outs notes group rs place os n rest two all_is outs_is notes_is entry made) =
    group_more view all outs notes group rs place os n rest all_is outs_is notes_is entry (made_outcomes view rs os rest made)

-- ---- A desk

module _ {D : Type 0} (tells : Bool) (rs : List Request) (mode : Reclaim) (k : ℕ) (d e f : Desk D) (own : d.requests.items ≡ own_requests k rs) (s : HasServed tells d.requests.items d e) (c : HasClosedDesk tells mode e f) where
  holds_outcomes : HoldsOutcomes rs k f
  holds_outcomes = ap length c.outcomes ∙ (made_length (began d.worker).view d.requests.items e.outcomes.items s.notes s.made ∙ ap length own)

  worked : Counts 0 0 d.tally → (os : List Outcome) (g : Desk D) → IsCollected rs os k f g → HasWorked tells rs os mode k d g
  worked fresh os g t =
      let are : e.outcomes.items ≡ outcomes_of k rs os = sym (t.outcomes ∙ c.outcomes) in
      let made : AreMade (began d.worker).view (own_requests k rs) (outcomes_of k rs os) s.notes =
      subst (λ (xs : List Outcome). AreMade (began d.worker).view (own_requests k rs) xs s.notes) are (subst (λ (qs : List Request). AreMade (began d.worker).view qs e.outcomes.items s.notes) own s.made) in
      record {
        id = t.same.id ∙ (c.id ∙ s.id);
        middle = e.worker;
        more = s.more;
        notes = s.notes;
        gains = s.gains;
        made = made;
        answered = made_outcomes (began d.worker).view (own_requests k rs) (outcomes_of k rs os) s.notes made;
        stops = subst (StopsAtRefusal Rattle.std.proofs.Common.true) are s.stops;
        stays = λ honest. subst (λ (xs : List Outcome). LooksStay (OneLacked (own_requests k rs) xs) d.worker s.more) are
            (subst (λ (qs : List Request). LooksStay (OneLacked qs e.outcomes.items) d.worker s.more) own (s.stays honest));
        faults = subst (AllByRecursion (TellsFault (notes_seen e.worker))) are s.faults;
        closed = subst (λ (x : Option StepFault). IsClosed tells mode x e.worker g.worker) (sym t.same.fault) (subst (λ (p : ManagerPass D). IsClosed tells mode f.fault e.worker p) (sym t.same.worker) c.closed);
        empty = t.empty;
        counted = λ honest. subst (λ (u : Tally). Counts (blocks_between d.worker g.worker) (records_between d.worker g.worker) u) (sym t.same.tally)
            (subst (λ (q : ManagerPass D). Counts (blocks_between d.worker q) (records_between d.worker q) f.tally) (sym t.same.worker)
            (from_none tells d.worker f.worker d.tally f.tally fresh (closed_counted tells d.worker e.worker f.worker s.more s.notes s.gains d.tally e.tally f.tally s.counted mode f.fault c.closed c.counted) honest));
      }

module _ {D : Type 0} (tells : Bool) (rs : List Request) (mode : Reclaim) (ds es fs : List (Desk D)) (own : HaveOwn rs ds) (s : AreServed tells ds es) (c : AreClosed tells mode es fs) (same : length es ≡ length ds) where
  pub all_hold : (k : ℕ) (d : Desk D) → k < length ds → HoldsOutcomes rs k (get_or fs k d)
  all_hold k d h = let h2 = subst (λ n. k < n) (sym same) h in holds_outcomes tells rs mode k (get_or ds k d) (get_or es k d) (get_or fs k d) (own k d h) (s k d h) (c k d h2)

  pub all_worked : ((k : ℕ) (d : Desk D) → k < length ds → Counts 0 0 (get_or ds k d).tally) → (os : List Outcome) (gs : List (Desk D)) → length fs ≡ length ds → ((k : ℕ) (d : Desk D) → k < length fs → IsCollected rs os k (get_or fs k d) (get_or gs k d)) → AreWorked tells rs os mode ds gs
  all_worked fresh os gs same3 t k d h =
      let h2 = subst (λ n. k < n) (sym same) h in let h3 = subst (λ n. k < n) (sym same3) h in
      worked tells rs mode k (get_or ds k d) (get_or es k d) (get_or fs k d) (own k d h) (s k d h) (c k d h2) (fresh k d h) os (get_or gs k d) (t k d h3)
