-- The entry of a write after a drain, and of one whose drain failed.
use Rattle.std.proofs.Common.{◌≡◌, ◌^◌, ℕ, Bool, true, false, List, [], ◌∷◌, ◌++◌, length, None, Some, Result, Ok, Err, refl, sym, ap, subst, ◌∙◌, inl, inr, arith}
use Rattle.std.specs.Prelude.{is_some, is_ok, ◌↔◌}
use Rattle.std.specs.List.{list_any, range_with_len}
use Rattle.turn_lock.specs.Passes.{pass_number}
use Rattle.wol_disk.specs.Disk.{State, Block}
use Rattle.wol_model.specs.Blocks.{Write}
use Rattle.wol_model.specs.History.{Entry, Wrote, Kept, Broke, worker}
use Rattle.wol_model.specs.Index.{is_covered}
use Rattle.wol_model.specs.Placing.{Home as AtHome, Log as InLog, Full as Nowhere}
use Rattle.wol_model.specs.Placing as placing
use Rattle.wol_promise.specs.Policy.{Look, place_of, placed, drained, rooms_but}
use Rattle.wol_promise.specs.Ruled.{Noted, IsStep, IsDrained, last_look}
use Rattle.wol_promise.specs.Ruled as ruled
use Rattle.wol_promise.specs.Report.{reclaims}
use Rattle.manager.specs.Answers.{home_write, failed_write, log_write, written, IsPlaceOf}
use Rattle.manager.specs.Reclaim.{OnFailed, BreaksOff, Always}
use Rattle.manager.specs.Seen.{look_of_manager}
use Rattle.manager.specs.Stands.{Keeps, Stands, Leaves, passed_in}
use Rattle.manager.specs.Writing as writing
use Rattle.manager.specs.Writing.{HasLook, ruled_place}
use Rattle.manager.specs.declared.base.ManagerBase.{ManagerBase}
use Rattle.manager.specs.declared.manager.Manager.{Manager}
use Rattle.manager.specs.declared.part.Part.{Part}
use Rattle.manager.specs.declared.part.Part.TheVariants as part
use Rattle.manager.specs.declared.part.Place.{Place}
use Rattle.manager.specs.declared.part.Place.TheVariants as place
use Rattle.manager.specs.declared.part.StepFault.{StepFault}
use Rattle.manager.specs.declared.part.StepFault.TheVariants as fault
use Rattle.manager.specs.declared.part.WriteRefusal.{WriteRefusal}
use Rattle.manager.specs.declared.part.WriteRefusal.TheVariants.{Full, DiskFault, Down, VersionsSpent, NoMemory}
use Rattle.request_turns.specs.Causes.{CanTake, IsCauseOfWrite, LackedMemory}
use Rattle.request_turns.specs.Counts.{CountsMore, CountsEntry, IsTakenOff}
use Rattle.request_turns.specs.Entries.{note_of, written_outcome, refused_as, has_broken, IsFlightAt, IsWrittenAs}
use Rattle.request_turns.specs.Turns.{ManagerPass, began, notes_seen, HasLeft, IsBroken, WasDown, faulty_part, Stays}
use Rattle.request_turns.specs.Written.{HasWritten, IsDiskFault}
use Rattle.request_turns.specs.declared.outcome.Outcome.TheVariants as outcome
use Rattle.request_turns.specs.declared.tally.Tally.{Tally}
use Rattle.request_turns.proofs.Counting.{entry_quiet, entry_taken, taken_then, more_of}
use Rattle.request_turns.proofs.Merging.{merged}
use Rattle.request_turns.proofs.WriteNotes.{one_flight, flight_at, was_spent, write_fault}

none_covered : (xs : List ℕ) → list_any (is_covered []) xs ≡ false
none_covered [] = refl
none_covered (x ∷ xs) = none_covered xs

module _ {D : Type 0} (old new : Manager D) (first : ℕ) (blocks : List Block) (pass next : ℕ) (passed : List ℕ) (l : Look)
    (bare : look_of_manager old ≡ drained l) (full : place_of passed l (home_write first blocks) ≡ Nowhere) where
  abbrev w : Write
  w = home_write first blocks

  abbrev P : placing.Place
  P = ruled_place old new first blocks

  at_home : P ≡ AtHome
  at_home = ap (λ (k : Look). place_of (passed_in new.rooms.items) k w) bare
      ∙ ap (λ (c : Bool). placing.place true c (drained l).ups (rooms_but (passed_in new.rooms.items) (drained l).ups)) (none_covered (range_with_len first (length blocks)))

  abbrev pub drain_note : Result Place WriteRefusal → Noted
  drain_note a = note_of pass (written next first blocks a) (look_of_manager new) passed (is_ok a)

  is_drained : look_of_manager new ≡ look_of_manager old → IsDrained passed l w (look_of_manager new)
  is_drained look = record { full = full; bare = look ∙ bare }

  drain_step : pass ≡ worker → (view : List ℕ) (a : Result Place WriteRefusal) → IsPlaceOf view a P → HasLook P w a (look_of_manager old) (look_of_manager new) → IsStep (drain_note a) pass (written next first blocks a) l (look_of_manager new)
  drain_step client view (Ok place.Home) at look = inr (refl, record { write = w; only = refl; home = refl; drains = record { full = full; bare = look ∙ (λ i. placed (at_home i) (bare i) w) } })
  drain_step client view (Ok (place.Log logger)) at look = absurd (let no : AtHome ≡ InLog at.0 = sym at_home ∙ at.2 in cc)
  drain_step client view (Err Full) at look = absurd (let no : AtHome ≡ Nowhere = sym at_home ∙ at in cc)
  drain_step client view (Err (DiskFault p)) at look = refl
  drain_step client view (Err (Down p)) at look = (refl, ruled.refused w client (is_drained look))
  drain_step client view (Err VersionsSpent) at look = (refl, ruled.refused w client (is_drained look))
  drain_step client view (Err NoMemory) at look = (refl, ruled.refused w client (is_drained look))

  drain_entry : (view mine : List ℕ) (a : Result Place WriteRefusal) → IsPlaceOf view a P → HasLook P w a (look_of_manager old) (look_of_manager new)
      → ((a ≡ Err VersionsSpent) → old.next ≡ 2 ^ 63) → IsWrittenAs mine w [] (written_outcome true a) (drain_note a)
  drain_entry view mine (Ok place.Home) at look spent = record { write = w; operation = refl; same = refl; logged = refl; placed = tt; drain = refl }
  drain_entry view mine (Ok (place.Log logger)) at look spent = absurd (let no : AtHome ≡ InLog at.0 = sym at_home ∙ at.2 in cc)
  drain_entry view mine (Err Full) at look spent = absurd (let no : AtHome ≡ Nowhere = sym at_home ∙ at in cc)
  drain_entry view mine (Err (DiskFault p)) at look spent = (failed_write next first blocks p ∷ [], refl, (record { count = 1; same = λ t. one_flight next first blocks p t ∷ []; logged = inl (omega arith) }), flight_at next first blocks p)
  drain_entry view mine (Err (Down p)) at look spent = refl
  drain_entry view mine (Err VersionsSpent) at look spent = (refl, ap (λ (k : Look). k.next) look ∙ spent refl)
  drain_entry view mine (Err NoMemory) at look spent = refl

  drain_cause : (view : List ℕ) (before : List Noted) (a : Result Place WriteRefusal) → CanTake before l → old.down ≡ None → IsPlaceOf view a P → ((d : Part) → (a ≡ Err (Down d)) ↔ (old.down ≡ Some d))
      → ((a ≡ Err VersionsSpent) → old.next ≡ 2 ^ 63) → IsCauseOfWrite before l (written_outcome true a)
  drain_cause view before (Ok p) takes up at down spent = takes
  drain_cause view before (Err Full) takes up at down spent = absurd (let no : AtHome ≡ Nowhere = sym at_home ∙ at in cc)
  drain_cause view before (Err (DiskFault p)) takes up at down spent = takes
  drain_cause view before (Err (Down p)) takes up at down spent = absurd (let no : true ≡ false = sym (ap is_some ((down p).0 refl)) ∙ ap is_some up in cc)
  drain_cause view before (Err VersionsSpent) takes up at down spent = (takes.unbroken, ap (λ (k : Look). k.next) (sym bare) ∙ spent refl)
  drain_cause view before (Err NoMemory) takes up at down spent = takes

  drain_stays : (view : List ℕ) (before : List Noted) (a : Result Place WriteRefusal) → CanTake before l → old.down ≡ None → IsPlaceOf view a P → HasLook P w a (look_of_manager old) (look_of_manager new) → ((d : Part) → (a ≡ Err (Down d)) ↔ (old.down ≡ Some d))
      → ((a ≡ Err VersionsSpent) → old.next ≡ 2 ^ 63) → written next first blocks a ≡ Kept → Stays (LackedMemory w (written_outcome true a)) l (drain_note a)
  drain_stays view before (Ok place.Home) takes up at look down spent kept = absurd (let no : Wrote (w ∷ []) ≡ Kept = kept in cc)
  drain_stays view before (Ok (place.Log logger)) takes up at look down spent kept = absurd (let no : Wrote (log_write next first blocks ∷ []) ≡ Kept = kept in cc)
  drain_stays view before (Err Full) takes up at look down spent kept = absurd (let no : AtHome ≡ Nowhere = sym at_home ∙ at in cc)
  drain_stays view before (Err (DiskFault p)) takes up at look down spent kept = absurd (let no : Broke (failed_write next first blocks p ∷ []) ≡ Kept = kept in cc)
  drain_stays view before (Err (Down p)) takes up at look down spent kept = absurd (let no : true ≡ false = sym (ap is_some ((down p).0 refl)) ∙ ap is_some up in cc)
  drain_stays view before (Err VersionsSpent) takes up at look down spent kept = let none : l.next ≡ 2 ^ 63 = ap (λ (k : Look). k.next) (sym bare) ∙ spent refl in let some = takes.left in absurd (omega (arith, none, some))
  drain_stays view before (Err NoMemory) takes up at look down spent kept = inr (w, (refl, refl), is_drained look)

  pub drain_stands : (tells : Bool) (state : D → State) (b : ManagerBase) (notes : List Noted) (n1 : Noted) (view : List ℕ) (a : Result Place WriteRefusal) → l ≡ last_look b.volume.began.look notes → pass ≡ worker → next ≡ old.next
      → n1.entry.operation ≡ Kept → passed ≡ n1.passed → IsPlaceOf view a P → HasLook P w a (look_of_manager old) (look_of_manager new)
      → Leaves tells state old new (written old.next first blocks a) (passed_in new.rooms.items) worker → Keeps tells state old b (notes ++ n1 ∷ []) → Stands tells state new b (notes ++ drain_note a ∷ [])
  drain_stands tells state b notes n1 view a is_l client is_next kept is_passed at look stands keeps =
      let n2 : Noted = record { entry = record { pass = pass; operation = written old.next first blocks a }; look = look_of_manager new; passed = passed_in new.rooms.items; after_drain = false; ruled = false } in
      merged notes n1 n2 (drain_note a) kept (ap (λ (k : ℕ). (let e : Entry = record { pass = pass; operation = written k first blocks a } in e)) is_next) tells state new b refl is_passed
      (λ _. subst (λ (k : Look). IsStep (drain_note a) pass (written next first blocks a) k (look_of_manager new)) is_l (drain_step client view a at look))
      (stands b (notes ++ n1 ∷ []) n2 client (record { operation_is = refl; look_is = refl; passed_is = refl; drain = refl; follows = λ is. absurd (let no : false ≡ true = is in cc) }) keeps)

-- what the drain took off is counted, unless the write's disk call failed
module _ {D : Type 0} (old new : Manager D) (first : ℕ) (blocks : List Block) (pass next : ℕ) (passed : List ℕ) (l : Look)
    (bare : look_of_manager old ≡ drained l) (full : place_of passed l (home_write first blocks) ≡ Nowhere) (done t u : Tally) (taken : IsTakenOff done l (look_of_manager old)) (failed : Bool)
    (add : failed ≡ false → CountsMore done.blocks done.records t u) (stays : failed ≡ true → u ≡ t) where
  abbrev n : Result Place WriteRefusal → Noted
  n a = drain_note old new first blocks pass next passed l bare full a

  took : (a : Result Place WriteRefusal) → failed ≡ false → reclaims (n a).after_drain (n a).entry.operation ≡ true → (look_of_manager new).listed ≡ (look_of_manager old).listed → CountsEntry l (n a) t u
  took a not is same = entry_taken taken.blocks taken.records l (n a) t u is (taken_then taken.blocks taken.records l (look_of_manager old) (look_of_manager new) taken.taken same) (more_of taken.blocks taken.records done t u taken.counts (add not))

  pub drain_counted : (view : List ℕ) (a : Result Place WriteRefusal) → failed ≡ has_broken a → IsPlaceOf view a (ruled_place old new first blocks) → HasLook (ruled_place old new first blocks) (home_write first blocks) a (look_of_manager old) (look_of_manager new)
      → CountsEntry l (n a) t u
  drain_counted view (Ok place.Home) is at look = took (Ok place.Home) is refl
      (ap (λ (k : Look). k.listed) look ∙ ap (λ (q : placing.Place). (placed q (look_of_manager old) (home_write first blocks)).listed) (at_home old new first blocks pass next passed l bare full))
  drain_counted view (Ok (place.Log logger)) is at look = absurd (let no : AtHome ≡ InLog at.0 = sym (at_home old new first blocks pass next passed l bare full) ∙ at.2 in cc)
  drain_counted view (Err Full) is at look = absurd (let no : AtHome ≡ Nowhere = sym (at_home old new first blocks pass next passed l bare full) ∙ at in cc)
  drain_counted view (Err (DiskFault p)) is at look = subst (λ (v : Tally). CountsEntry l (n (Err (DiskFault p))) t v) (sym (stays is)) (entry_quiet l (n (Err (DiskFault p))) t refl)
  drain_counted view (Err (Down p)) is at look = took (Err (Down p)) is refl (ap (λ (k : Look). k.listed) look)
  drain_counted view (Err VersionsSpent) is at look = took (Err VersionsSpent) is refl (ap (λ (k : Look). k.listed) look)
  drain_counted view (Err NoMemory) is at look = took (Err NoMemory) is refl (ap (λ (k : Look). k.listed) look)

pub has_drained : {D : Type 0} (tells : Bool) (state : D → State) (old new : Manager D) (first : ℕ) (blocks : List Block) (next : ℕ) (passed view : List ℕ) (a : Result Place WriteRefusal) (p q : ManagerPass D) (done t u : Tally) (failed : Bool) → failed ≡ has_broken a
    → IsTakenOff done (last_look (began p).look (notes_seen p)) (look_of_manager old) → (failed ≡ false → CountsMore done.blocks done.records t u) → (failed ≡ true → u ≡ t)
    → CanTake (notes_seen p) (last_look (began p).look (notes_seen p)) → old.down ≡ None
    → look_of_manager old ≡ drained (last_look (began p).look (notes_seen p)) → place_of passed (last_look (began p).look (notes_seen p)) (home_write first blocks) ≡ Nowhere
    → IsPlaceOf view a (ruled_place old new first blocks) → HasLook (ruled_place old new first blocks) (home_write first blocks) a (look_of_manager old) (look_of_manager new)
    → ((d : Part) → (a ≡ Err (Down d)) ↔ (old.down ≡ Some d)) → ((a ≡ Err VersionsSpent) ↔ ((old.down ≡ None) × (old.next ≡ 2 ^ 63))) → writing.TellsFault state a old new
    → HasLeft tells (note_of (pass_number p) (written next first blocks a) (look_of_manager new) passed (is_ok a)) p q → ((d : Part) → new.down ≡ Some d → WasDown d (notes_seen q)) → (new.down ≡ None → IsBroken (notes_seen q) → ⊥) → HasWritten tells first blocks (written_outcome true a) t u p q
has_drained tells state old new first blocks next passed view a p q done t u failed is_failed taken add stays takes up bare full at look down spent told left broken unbroken = record {
  note = note_of (pass_number p) (written next first blocks a) (look_of_manager new) passed (is_ok a);
  left = left;
  ruled = refl;
  entry = drain_entry old new first blocks (pass_number p) next passed (last_look (began p).look (notes_seen p)) bare full view (began p).view a at look (λ e. (spent.0 e).1);
  stays = drain_stays old new first blocks (pass_number p) next passed (last_look (began p).look (notes_seen p)) bare full view (notes_seen p) a takes up at look down (λ e. (spent.0 e).1);
  cause = drain_cause old new first blocks (pass_number p) next passed (last_look (began p).look (notes_seen p)) bare full view (notes_seen p) a takes up at down (λ e. (spent.0 e).1);
  fault = write_fault state old new true (notes_seen q) a told down broken
      (was_spent tells state old new (ruled_place old new first blocks) (home_write first blocks) (note_of (pass_number p) (written next first blocks a) (look_of_manager new) passed (is_ok a)) p q refl left a look told spent unbroken);
  counted = drain_counted old new first blocks (pass_number p) next passed (last_look (began p).look (notes_seen p)) bare full done t u taken failed add stays view a is_failed at look;
}

-- ---- A drain that failed

-- nothing was on its way
none_at : (p : Part) → IsFlightAt p []
none_at (part.Home volume) = tt
none_at (part.Segment volume index) = tt

pub broke_stands : {D : Type 0} (tells : Bool) (state : D → State) (old new : Manager D) (b : ManagerBase) (notes : List Noted) (n1 : Noted) (pass : ℕ) (f : StepFault) → IsDiskFault f → n1.entry.operation ≡ Kept
    → OnFailed {T = Unit {0}} (Err f) (BreaksOff tells state old new Always) → Keeps tells state old b (notes ++ n1 ∷ []) → Stands tells state new b (notes ++ note_of pass (Broke []) (look_of_manager new) n1.passed false ∷ [])
broke_stands tells state old new b notes n1 pass (fault.DiskFault p) failed kept breaks keeps =
    let n2 : Noted = record { entry = record { pass = pass; operation = Broke [] }; look = look_of_manager new; passed = []; after_drain = false; ruled = false } in
    merged notes n1 n2 (note_of pass (Broke []) (look_of_manager new) n1.passed false) kept refl tells state new b refl refl (λ _. refl)
    (breaks b (notes ++ n1 ∷ []) n2 tt (record { operation_is = refl; look_is = refl; passed_is = refl; drain = refl; follows = λ is. absurd (let no : false ≡ true = is in cc) }) keeps)
broke_stands tells state old new b notes n1 pass (fault.Down p) failed kept breaks keeps = absurd failed

pub write_broken : {D : Type 0} (tells : Bool) (new : Manager D) (first : ℕ) (blocks : List Block) (passed : List ℕ) (f : StepFault) (p q : ManagerPass D) (t : Tally) → IsDiskFault f
    → HasLeft tells (note_of (pass_number p) (Broke []) (look_of_manager new) passed false) p q → ((d : Part) → new.down ≡ Some d → WasDown d (notes_seen q)) → new.down ≡ Some (faulty_part f)
    → CanTake (notes_seen p) (last_look (began p).look (notes_seen p)) → HasWritten tells first blocks (outcome.NoWrite (refused_as f)) t t p q
write_broken tells new first blocks passed (fault.DiskFault d) p q t failed left broken down takes = record {
  note = note_of (pass_number p) (Broke []) (look_of_manager new) passed false;
  left = left;
  ruled = refl;
  entry = ([], refl, (record { count = 0; same = refl; logged = inl (omega arith) }), none_at d);
  stays = λ kept. absurd (let no : Broke [] ≡ Kept = kept in cc);
  cause = takes;
  fault = broken d down;
  counted = entry_quiet (last_look (began p).look (notes_seen p)) (note_of (pass_number p) (Broke []) (look_of_manager new) passed false) t refl;
}
write_broken tells new first blocks passed (fault.Down d) p q t failed left broken down takes = absurd failed
