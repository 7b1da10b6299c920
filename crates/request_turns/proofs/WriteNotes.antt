-- A write's entry, where a log or home took it or it was refused.
use Rattle.std.proofs.Common.{◌≡◌, ◌<◌, ◌≤◌, ◌^◌, ℕ, Bool, true, false, List, [], ◌∷◌, ◌++◌, map, None, Some, Result, Ok, Err, refl, sym, ap, subst, ◌∙◌, inl, arith}
use Rattle.std.specs.Prelude.{is_some, ◌↔◌}
use Rattle.wol_disk.specs.Disk.{State, Block}
use Rattle.turn_lock.specs.Passes.{pass_lock, pass_number, pass_seen}
use Rattle.wol_model.specs.Blocks.{Write}
use Rattle.wol_model.specs.ArrayLaws.{unversioned}
use Rattle.wol_model.specs.History.{Wrote, Kept, Broke}
use Rattle.wol_model.specs.Placing.{Home as AtHome, Log as InLog, Full as Nowhere}
use Rattle.wol_model.specs.Placing as placing
use Rattle.wol_promise.specs.Policy.{Look, place_of, placed, version_at}
use Rattle.wol_promise.specs.Ruled.{Noted, IsStep, last_look}
use Rattle.wol_promise.specs.Ruled as ruled
use Rattle.logger.specs.Lanes.{logger_of}
use Rattle.manager.specs.Answers.{home_write, log_write, failed_write, written, IsPlaceOf}
use Rattle.manager.specs.Seen.{look_of_manager}
use Rattle.manager.specs.Stands.{IsNote, notes_of, passed_in}
use Rattle.manager.specs.Writing as writing
use Rattle.manager.specs.Writing.{HasLook, ruled_place}
use Rattle.manager.specs.declared.manager.Manager.{Manager}
use Rattle.manager.specs.declared.part.Part.{Part}
use Rattle.manager.specs.declared.part.Part.TheVariants as part
use Rattle.manager.specs.declared.part.Place.{Place}
use Rattle.manager.specs.declared.part.Place.TheVariants as place
use Rattle.manager.specs.declared.part.WriteRefusal.{WriteRefusal}
use Rattle.manager.specs.declared.part.WriteRefusal.TheVariants.{Full, DiskFault, Down, VersionsSpent, NoMemory}
use Rattle.manager.specs.Stands.{Keeps, Stands, Leaves}
use Rattle.manager.specs.declared.base.ManagerBase.{ManagerBase}
use Rattle.wol_model.specs.History.{worker}
use Rattle.request_turns.specs.Causes.{CanTake, IsCauseOfWrite, IsUnbroken}
use Rattle.request_turns.specs.Counts.{CountsEntry}
use Rattle.request_turns.specs.Entries.{note_of, full_note, written_outcome, is_full, IsFlightAt, IsWrittenAs, TellsFault, WasSpent}
use Rattle.request_turns.specs.Turns.{ManagerPass, began, notes_seen, HasLeft, IsBroken, WasDown}
use Rattle.request_turns.specs.Written.{HasWritten}
use Rattle.request_turns.specs.declared.tally.Tally.{Tally}
use Rattle.request_turns.proofs.Counting.{entry_same, entry_quiet}
use Rattle.request_turns.proofs.Noting.{notes_at, was_broken, was_unbroken}
use Rattle.request_turns.proofs.Parts.{no_part}

-- a part that failed had this payload in flight
pub one_flight : (next first : ℕ) (blocks : List Block) (p : Part) → unversioned (failed_write next first blocks p) ≡ home_write first blocks
one_flight next first blocks (part.Home volume) = refl
one_flight next first blocks (part.Segment volume index) = refl

-- .. on its way to that part
pub flight_at : (next first : ℕ) (blocks : List Block) (p : Part) → IsFlightAt p (failed_write next first blocks p ∷ [])
flight_at next first blocks (part.Home volume) = (refl, tt)
flight_at next first blocks (part.Segment volume index) = (refl, tt)

pub full_is : (a : Result Place WriteRefusal) → is_full a ≡ true → a ≡ Err Full
full_is (Ok p) is = absurd (let no : false ≡ true = is in cc)
full_is (Err Full) is = refl
full_is (Err (DiskFault p)) is = absurd (let no : false ≡ true = is in cc)
full_is (Err (Down p)) is = absurd (let no : false ≡ true = is in cc)
full_is (Err VersionsSpent) is = absurd (let no : false ≡ true = is in cc)
full_is (Err NoMemory) is = absurd (let no : false ≡ true = is in cc)

module _ {D : Type 0} (old new : Manager D) (first : ℕ) (blocks : List Block) (pass : ℕ) where
  abbrev w : Write
  w = home_write first blocks

  abbrev P : placing.Place
  P = ruled_place old new first blocks

  abbrev l : Look
  l = look_of_manager old

  abbrev pub write_note : Result Place WriteRefusal → Noted
  write_note a = note_of pass (written old.next first blocks a) (look_of_manager new) (passed_in new.rooms.items) false

  write_step : (view : List ℕ) (a : Result Place WriteRefusal) → IsPlaceOf view a P → HasLook P w a l (look_of_manager new) → IsStep (write_note a) pass (written old.next first blocks a) l (look_of_manager new)
  write_step view (Ok place.Home) at look = inl (refl, ((λ no. absurd (let e : AtHome ≡ Nowhere = sym at ∙ no in cc)), sym (ap (λ (q : placing.Place). version_at q l) at), look))
  write_step view (Ok (place.Log logger)) at look = inl (
    refl,
    (
      (λ no. absurd (let e : InLog at.0 ≡ Nowhere = sym at.2 ∙ no in cc)),
      sym (ap (λ (q : placing.Place). version_at q l) at.2),
      look ∙ ap (λ (q : placing.Place). placed q l w) at.2 ∙ sym (ap (λ (q : placing.Place). placed q l (log_write old.next first blocks)) at.2),
    ),
  )
  write_step view (Err Full) at look = (refl, ruled.same look)
  write_step view (Err (DiskFault p)) at look = refl
  write_step view (Err (Down p)) at look = (refl, ruled.same look)
  write_step view (Err VersionsSpent) at look = (refl, ruled.same look)
  write_step view (Err NoMemory) at look = (refl, ruled.same look)

  pub is_write_note : (view : List ℕ) (a : Result Place WriteRefusal) → IsPlaceOf view a P → HasLook P w a l (look_of_manager new) → (k : Look) → k ≡ l
      → IsNote k (written old.next first blocks a) (passed_in new.rooms.items) (look_of_manager new) (write_note a)
  is_write_note view a at look k is = subst (λ (j : Look). IsNote j (written old.next first blocks a) (passed_in new.rooms.items) (look_of_manager new) (write_note a)) (sym is)
      (record { operation_is = refl; look_is = refl; passed_is = refl; drain = refl; follows = λ _. write_step view a at look })

  write_entry : (view : List ℕ) (a : Result Place WriteRefusal) → is_full a ≡ false → IsPlaceOf view a P → HasLook P w a l (look_of_manager new)
      → ((a ≡ Err VersionsSpent) → old.next ≡ 2 ^ 63) → IsWrittenAs view w [] (written_outcome false a) (write_note a)
  write_entry view (Ok place.Home) not_full at look spent = record { write = w; operation = refl; same = refl; logged = refl; placed = tt; drain = refl }
  write_entry view (Ok (place.Log logger)) not_full at look spent = record {
    write = log_write old.next first blocks;
    operation = refl;
    same = refl;
    logged = refl;
    placed = (_, _, ap (λ (k : Look). k.listed) (look ∙ ap (λ (q : placing.Place). placed q l w) at.2), at.1);
    drain = refl;
  }
  write_entry view (Err Full) not_full at look spent = absurd (let no : true ≡ false = not_full in cc)
  write_entry view (Err (DiskFault p)) not_full at look spent = (failed_write old.next first blocks p ∷ [], refl, (record { count = 1; same = λ t. one_flight old.next first blocks p t ∷ []; logged = inl (omega arith) }), flight_at old.next first blocks p)
  write_entry view (Err (Down p)) not_full at look spent = refl
  write_entry view (Err VersionsSpent) not_full at look spent = (refl, ap (λ (k : Look). k.next) look ∙ spent refl)
  write_entry view (Err NoMemory) not_full at look spent = refl

  write_same : (a : Result Place WriteRefusal) → HasLook P w a l (look_of_manager new) → (k : Look) → k ≡ l → written old.next first blocks a ≡ Kept → look_of_manager new ≡ k
  write_same (Ok place.Home) look k is kept = absurd (let no : Wrote (w ∷ []) ≡ Kept = kept in cc)
  write_same (Ok (place.Log logger)) look k is kept = absurd (let no : Wrote (log_write old.next first blocks ∷ []) ≡ Kept = kept in cc)
  write_same (Err Full) look k is kept = look ∙ sym is
  write_same (Err (DiskFault p)) look k is kept = absurd (let no : Broke (failed_write old.next first blocks p ∷ []) ≡ Kept = kept in cc)
  write_same (Err (Down p)) look k is kept = look ∙ sym is
  write_same (Err VersionsSpent) look k is kept = look ∙ sym is
  write_same (Err NoMemory) look k is kept = look ∙ sym is

  write_counted : (a : Result Place WriteRefusal) → HasLook P w a l (look_of_manager new) → (k : Look) → k ≡ l → (t : Tally) → CountsEntry k (write_note a) t t
  write_counted (Ok place.Home) look k is t = entry_quiet k (write_note (Ok place.Home)) t refl
  write_counted (Ok (place.Log logger)) look k is t = entry_quiet k (write_note (Ok (place.Log logger))) t refl
  write_counted (Err Full) look k is t = entry_same k (write_note (Err Full)) t (λ _. ap (λ (j : Look). j.listed) (look ∙ sym is))
  write_counted (Err (DiskFault p)) look k is t = entry_quiet k (write_note (Err (DiskFault p))) t refl
  write_counted (Err (Down p)) look k is t = entry_same k (write_note (Err (Down p))) t (λ _. ap (λ (j : Look). j.listed) (look ∙ sym is))
  write_counted (Err VersionsSpent) look k is t = entry_same k (write_note (Err VersionsSpent)) t (λ _. ap (λ (j : Look). j.listed) (look ∙ sym is))
  write_counted (Err NoMemory) look k is t = entry_same k (write_note (Err NoMemory)) t (λ _. ap (λ (j : Look). j.listed) (look ∙ sym is))

-- where writes are refused since no version is left, none is left behind their entry
pub spent_behind : {D : Type 0} (tells : Bool) (state : D → State) (old new : Manager D) (n : Noted) (p q : ManagerPass D) → n.look ≡ look_of_manager new → HasLeft tells n p q → (a : Result Place WriteRefusal)
    → (a ≡ Err VersionsSpent → look_of_manager new ≡ look_of_manager old) → writing.TellsFault state a old new → ((a ≡ Err VersionsSpent) ↔ ((old.down ≡ None) × (old.next ≡ 2 ^ 63))) → (new.down ≡ None → IsBroken (notes_seen q) → ⊥)
    → a ≡ Err VersionsSpent → WasSpent (notes_seen q)
spent_behind {D} tells state old new n p q is_look left a same told spent unbroken is =
    let seen : notes_seen q ≡ notes_seen p ++ n ∷ [] = ap notes_of left.seen ∙ notes_at (pass_seen p) n.entry.pass n refl in
    let up : new.down ≡ None = subst (λ (r : Result Place WriteRefusal). writing.TellsFault state r old new) is told ∙ (spent.0 is).0 in
    record {
      front = notes_seen p;
      note = n;
      later = [];
      seen_is = seen;
      unbroken = λ broken. unbroken up (subst (λ (ns : List Noted). IsBroken ns) (sym seen) broken);
      spent = ap (λ (k : Look). k.next) (is_look ∙ same is) ∙ (spent.0 is).1;
    }

-- .. so it is for one write
pub was_spent : {D : Type 0} (tells : Bool) (state : D → State) (old new : Manager D) (P : placing.Place) (w : Write) (n : Noted) (p q : ManagerPass D) → n.look ≡ look_of_manager new → HasLeft tells n p q → (a : Result Place WriteRefusal)
    → HasLook P w a (look_of_manager old) (look_of_manager new) → writing.TellsFault state a old new → ((a ≡ Err VersionsSpent) ↔ ((old.down ≡ None) × (old.next ≡ 2 ^ 63))) → (new.down ≡ None → IsBroken (notes_seen q) → ⊥)
    → a ≡ Err VersionsSpent → WasSpent (notes_seen q)
was_spent tells state old new P w n p q is_look left a look =
    spent_behind tells state old new n p q is_look left a (λ is. subst (λ (r : Result Place WriteRefusal). HasLook P w r (look_of_manager old) (look_of_manager new)) is look)

-- a refusal that tells of a part comes where the manager keeps it as down after the call
pub write_fault : {D : Type 0} (state : D → State) (old new : Manager D) (drained : Bool) (seen : List Noted) (a : Result Place WriteRefusal) → writing.TellsFault state a old new
    → ((p : Part) → (a ≡ Err (Down p)) ↔ (old.down ≡ Some p)) → ((d : Part) → new.down ≡ Some d → WasDown d seen) → (a ≡ Err VersionsSpent → WasSpent seen) → TellsFault seen (written_outcome drained a)
write_fault state old new drained seen (Ok p) told down broken spent = tt
write_fault state old new drained seen (Err Full) told down broken spent = tt
write_fault state old new drained seen (Err (DiskFault p)) told down broken spent = broken p told.0
write_fault state old new drained seen (Err (Down p)) told down broken spent = broken p (told ∙ (down p).0 refl)
write_fault state old new drained seen (Err VersionsSpent) told down broken spent = spent refl
write_fault state old new drained seen (Err NoMemory) told down broken spent = tt

-- ---- Why it came

abbrev pub is_down : Result Place WriteRefusal → Bool
is_down (Err (Down p)) = true
is_down answer = false

abbrev pub is_spent : Result Place WriteRefusal → Bool
is_spent (Err VersionsSpent) = true
is_spent answer = false

below_spent : (n : ℕ) → n ≤ 2 ^ 63 → (n ≡ 2 ^ 63 → ⊥) → n < 2 ^ 63
below_spent n most not = omega (arith, most, not)

-- what the manager was before a write with this answer
module _ {D : Type 0} (tells : Bool) (state : D → State) (old : Manager D) (b : ManagerBase) (before : List Noted) (keeps : Keeps tells state old b before) (l : Look) (is_l : l ≡ look_of_manager old)
    (a : Result Place WriteRefusal) (down : (p : Part) → (a ≡ Err (Down p)) ↔ (old.down ≡ Some p)) (spent : (a ≡ Err VersionsSpent) ↔ ((old.down ≡ None) × (old.next ≡ 2 ^ 63))) where
  was_up : is_down a ≡ false → old.down ≡ None
  was_up up = no_part old.down (λ p is. absurd (let no : is_down a ≡ true = ap is_down ((down p).1 is) in cc (up, no)))

  is_next : l.next ≡ old.next
  is_next = ap (λ (k : Look). k.next) is_l

  pub can_take : is_down a ≡ false → is_spent a ≡ false → CanTake before l
  can_take up left = record {
    unbroken = was_unbroken tells state old b before keeps (was_up up);
    left = let below = below_spent old.next keeps.ready.next.1 (λ e. absurd (let no : is_spent a ≡ true = ap is_spent (spent.1 (was_up up, e)) in cc (left, no))) in
        subst (λ (k : ℕ). k < 2 ^ 63) (sym is_next) below;
  }

  pub down_before : (p : Part) → a ≡ Err (Down p) → IsBroken before
  down_before p is = was_broken tells state old b before keeps (ap is_some ((down p).0 is))

  pub spent_before : a ≡ Err VersionsSpent → IsUnbroken before × (l.next ≡ 2 ^ 63)
  spent_before is = let h = spent.0 is in (was_unbroken tells state old b before keeps h.0, is_next ∙ h.1)

pub write_cause : {D : Type 0} (tells : Bool) (state : D → State) (old : Manager D) (b : ManagerBase) (before : List Noted) → Keeps tells state old b before → (l : Look) → l ≡ look_of_manager old → (drained : Bool)
    → (a : Result Place WriteRefusal) → is_full a ≡ false → ((p : Part) → (a ≡ Err (Down p)) ↔ (old.down ≡ Some p)) → ((a ≡ Err VersionsSpent) ↔ ((old.down ≡ None) × (old.next ≡ 2 ^ 63)))
    → IsCauseOfWrite before l (written_outcome drained a)
write_cause tells state old b before keeps l is_l drained (Ok p) not_full down spent = can_take tells state old b before keeps l is_l (Ok p) down spent refl refl
write_cause tells state old b before keeps l is_l drained (Err Full) not_full down spent = absurd (let no : true ≡ false = not_full in cc)
write_cause tells state old b before keeps l is_l drained (Err (DiskFault p)) not_full down spent = can_take tells state old b before keeps l is_l (Err (DiskFault p)) down spent refl refl
write_cause tells state old b before keeps l is_l drained (Err (Down p)) not_full down spent = down_before tells state old b before keeps l is_l (Err (Down p)) down spent p refl
write_cause tells state old b before keeps l is_l drained (Err VersionsSpent) not_full down spent = spent_before tells state old b before keeps l is_l (Err VersionsSpent) down spent refl
write_cause tells state old b before keeps l is_l drained (Err NoMemory) not_full down spent = can_take tells state old b before keeps l is_l (Err NoMemory) down spent refl refl

-- a write that is refused as full is tried again behind a drain
pub full_takes : {D : Type 0} (tells : Bool) (state : D → State) (old : Manager D) (b : ManagerBase) (before : List Noted) → Keeps tells state old b before → (l : Look) → l ≡ look_of_manager old
    → (a : Result Place WriteRefusal) → is_full a ≡ true → ((p : Part) → (a ≡ Err (Down p)) ↔ (old.down ≡ Some p)) → ((a ≡ Err VersionsSpent) ↔ ((old.down ≡ None) × (old.next ≡ 2 ^ 63))) → CanTake before l
full_takes tells state old b before keeps l is_l a full down spent =
    can_take tells state old b before keeps l is_l a down spent (ap is_down (full_is a full)) (ap is_spent (full_is a full))

module _ {D : Type 0} (tells : Bool) (state : D → State) (old new : Manager D) (first : ℕ) (blocks : List Block) (a : Result Place WriteRefusal) (next : ℕ) (is_next : next ≡ old.next) where
  abbrev at_next : (pass : ℕ) → Noted
  at_next pass = note_of pass (written next first blocks a) (look_of_manager new) (passed_in new.rooms.items) false

  to_next : (Q : Noted → Type 0) (pass : ℕ) → Q (write_note old new first blocks pass a) → Q (at_next pass)
  to_next Q pass q = subst (λ (k : ℕ). Q (note_of pass (written k first blocks a) (look_of_manager new) (passed_in new.rooms.items) false)) (sym is_next) q

  pub write_stands : (b : ManagerBase) (notes : List Noted) (pass : ℕ) (view : List ℕ) → pass ≡ worker → last_look b.volume.began.look notes ≡ look_of_manager old
      → IsPlaceOf view a (ruled_place old new first blocks) → HasLook (ruled_place old new first blocks) (home_write first blocks) a (look_of_manager old) (look_of_manager new)
      → Leaves tells state old new (written old.next first blocks a) (passed_in new.rooms.items) worker → Keeps tells state old b notes
      → Stands tells state new b (notes ++ note_of pass (written next first blocks a) (look_of_manager new) (passed_in new.rooms.items) false ∷ [])
  write_stands b notes pass view client is at look stands keeps =
      to_next (λ n. Stands tells state new b (notes ++ n ∷ [])) pass
      (stands b notes (write_note old new first blocks pass a) client (is_write_note old new first blocks pass view a at look (last_look b.volume.began.look notes) is) keeps)

  pub has_written : (p q : ManagerPass D) (t : Tally)
      → is_full a ≡ false → Keeps tells state old (pass_lock p).base (notes_seen p) → map logger_of old.lanes.items ≡ (began p).view → last_look (began p).look (notes_seen p) ≡ look_of_manager old
      → IsPlaceOf (map logger_of old.lanes.items) a (ruled_place old new first blocks) → HasLook (ruled_place old new first blocks) (home_write first blocks) a (look_of_manager old) (look_of_manager new)
      → ((d : Part) → (a ≡ Err (Down d)) ↔ (old.down ≡ Some d)) → ((a ≡ Err VersionsSpent) ↔ ((old.down ≡ None) × (old.next ≡ 2 ^ 63))) → writing.TellsFault state a old new
      → HasLeft tells (note_of (pass_number p) (written next first blocks a) (look_of_manager new) (passed_in new.rooms.items) false) p q → ((d : Part) → new.down ≡ Some d → WasDown d (notes_seen q)) → (new.down ≡ None → IsBroken (notes_seen q) → ⊥)
      → HasWritten tells first blocks (written_outcome false a) t t p q
  has_written p q t not_full keeps view is at look down spent told left broken unbroken = record {
    note = write_note old new first blocks (pass_number p) a;
    left = left_here;
    ruled = refl;
    entry = write_entry old new first blocks (pass_number p) (began p).view a not_full (subst (λ (v : List ℕ). IsPlaceOf v a (ruled_place old new first blocks)) view at) look (λ e. (spent.0 e).1);
    stays = λ kept. inl (write_same old new first blocks (pass_number p) a look (last_look (began p).look (notes_seen p)) is kept);
    cause = write_cause tells state old (pass_lock p).base (notes_seen p) keeps (last_look (began p).look (notes_seen p)) is false a not_full down spent;
    fault = write_fault state old new false (notes_seen q) a told down broken
        (was_spent tells state old new (ruled_place old new first blocks) (home_write first blocks) (write_note old new first blocks (pass_number p) a) p q refl left_here a look told spent unbroken);
    counted = write_counted old new first blocks (pass_number p) a look (last_look (began p).look (notes_seen p)) is t;
  }
    where
      left_here : HasLeft tells (write_note old new first blocks (pass_number p) a) p q
      left_here = subst (λ (k : ℕ). HasLeft tells (note_of (pass_number p) (written k first blocks a) (look_of_manager new) (passed_in new.rooms.items) false) p q) is_next left

-- ---- A write that is refused as full

differ : (p : Part) → (let f : Result Place WriteRefusal = Err Full in let r : Result Place WriteRefusal = Err (Down p) in f ≡ r) → ⊥
differ p is = absurd (let no : true ≡ false = ap is_full is in cc)

module _ {D : Type 0} (old new : Manager D) (first : ℕ) (blocks : List Block) (a : Result Place WriteRefusal) (full : is_full a ≡ true) (k : Look) (is_l : k ≡ look_of_manager old) where
  pub full_place : (view : List ℕ) → IsPlaceOf view a (ruled_place old new first blocks) → place_of (passed_in new.rooms.items) k (home_write first blocks) ≡ Nowhere
  full_place view at = ap (λ (j : Look). place_of (passed_in new.rooms.items) j (home_write first blocks)) is_l
      ∙ subst (λ (r : Result Place WriteRefusal). IsPlaceOf view r (ruled_place old new first blocks)) (full_is a full) at

  pub full_look : HasLook (ruled_place old new first blocks) (home_write first blocks) a (look_of_manager old) (look_of_manager new) → look_of_manager new ≡ k
  full_look look = subst (λ (r : Result Place WriteRefusal). HasLook (ruled_place old new first blocks) (home_write first blocks) r (look_of_manager old) (look_of_manager new)) (full_is a full) look ∙ sym is_l

  pub full_up : (state : D → State) → ((p : Part) → (a ≡ Err (Down p)) ↔ (old.down ≡ Some p)) → writing.TellsFault state a old new → new.down ≡ None
  full_up state down told = subst (λ (r : Result Place WriteRefusal). writing.TellsFault state r old new) (full_is a full) told
      ∙ no_part old.down (λ p is. absurd (differ p (sym (full_is a full) ∙ (down p).1 is)))

  pub full_keeps : (tells : Bool) (state : D → State) (b : ManagerBase) (notes : List Noted) (pass : ℕ) → pass ≡ worker
      → Leaves tells state old new (written old.next first blocks a) (passed_in new.rooms.items) worker → Keeps tells state old b notes
      → Keeps tells state new b (notes ++ full_note pass (look_of_manager new) (passed_in new.rooms.items) ∷ [])
  full_keeps tells state b notes pass client stands keeps =
      (stands b notes (full_note pass (look_of_manager new) (passed_in new.rooms.items)) client
      (record { operation_is = sym (ap (written old.next first blocks) (full_is a full)); look_is = refl; passed_is = refl; drain = refl; follows = λ is. absurd (let no : false ≡ true = is in cc) }) keeps).keeps
