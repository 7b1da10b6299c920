-- The entry of several writes, where a log or home took some first ones of them or they were refused.
use Rattle.std.proofs.Common.{◌≡◌, inl, inr, ◌≤◌, ◌+◌, ◌^◌, ℕ, zero, suc, Bool, true, false, List, [], ◌∷◌, ◌++◌, map, length, take, drop, None, Some, Result, Ok, Err, refl, sym, ap, subst, ◌∙◌, arith}
use Rattle.std.specs.Prelude.{OnOk, is_some, slice_get}
use Rattle.std.specs.List.{AllByRecursion}
use Rattle.wol_disk.specs.Disk.{State, Block}
use Rattle.wol_model.specs.Blocks.{Write}
use Rattle.wol_model.specs.ArrayLaws.{unversioned}
use Rattle.wol_model.specs.History.{Wrote, Kept, Broke}
use Rattle.wol_model.specs.Index.{Listed, listed_in}
use Rattle.wol_model.specs.Placing.{Home as AtHome, Log as InLog, Full as Nowhere}
use Rattle.wol_model.specs.Placing as placing
use Rattle.wol_promise.specs.Policy.{Look, placed, AreWrites}
use Rattle.wol_promise.specs.Ruled.{Noted, IsStep, last_look}
use Rattle.wol_promise.specs.Ruled as ruled
use Rattle.log_segment.specs.declared.item.Item.{Item}
use Rattle.manager.specs.Answers.{IsPlaceOf, home_write, log_write}
use Rattle.manager.specs.Groups.{writes_to_home, log_writes, run_writes, run_written, ruled_run, placed_all, AreTried}
use Rattle.manager.specs.Seen.{down_of, look_of_manager}
use Rattle.manager.specs.Stands.{IsNote, passed_in}
use Rattle.manager.specs.Writing as writing
use Rattle.manager.specs.Writing.{IsAsBefore, was_tried}
use Rattle.manager.specs.declared.manager.Manager.{Manager}
use Rattle.manager.specs.declared.part.Part.{Part}
use Rattle.manager.specs.declared.part.Part.TheVariants as part
use Rattle.manager.specs.declared.part.Place.{Place}
use Rattle.manager.specs.declared.part.Place.TheVariants as place
use Rattle.manager.specs.declared.part.WriteRefusal.{WriteRefusal}
use Rattle.manager.specs.declared.part.WriteRefusal.TheVariants.{Full, DiskFault, Down, VersionsSpent, NoMemory}
use Rattle.request_turns.specs.Counts.{CountsEntry}
use Rattle.request_turns.specs.Entries.{note_of, written_outcome, is_full, IsFlight, IsFlightAt, IsPlaced, IsRefusedWrite}
use Rattle.request_turns.specs.Groups.{AreWrittenAs, one, several, answered_of}
use Rattle.request_turns.specs.declared.outcome.Outcome.TheVariants as outcome
use Rattle.request_turns.specs.declared.tally.Tally.{Tally}
use Rattle.request_turns.proofs.Counting.{entry_same, entry_quiet}

-- ---- Writes without their versions

pub logged_bare : (next : ℕ) (items : List Item) (from : List Block) → map unversioned (log_writes next items from) ≡ writes_to_home items from
logged_bare next [] from = refl
logged_bare next (i ∷ items) from = λ t. home_write i.lbn (take i.count from) ∷ logged_bare (next + 1) items (drop i.count from) t

pub home_bare : (items : List Item) (from : List Block) → map unversioned (writes_to_home items from) ≡ writes_to_home items from
home_bare [] from = refl
home_bare (i ∷ items) from = λ t. home_write i.lbn (take i.count from) ∷ home_bare items (drop i.count from) t

pub front_writes : (n : ℕ) (items : List Item) (from : List Block) → writes_to_home (take n items) from ≡ take n (writes_to_home items from)
front_writes zero items from = refl
front_writes (suc n) [] from = refl
front_writes (suc n) (i ∷ items) from = λ t. home_write i.lbn (take i.count from) ∷ front_writes n items (drop i.count from) t

logged_versions : (next : ℕ) (items : List Item) (from : List Block) → AllByRecursion (λ (w : Write). is_some w.version ≡ true) (log_writes next items from)
logged_versions next [] from = tt
logged_versions next (i ∷ items) from = (refl, logged_versions (next + 1) items (drop i.count from))

home_versions : (items : List Item) (from : List Block) → AllByRecursion (λ (w : Write). w.version ≡ None) (writes_to_home items from)
home_versions [] from = tt
home_versions (i ∷ items) from = (refl, home_versions items (drop i.count from))

home_long : (items : List Item) (from : List Block) → length (writes_to_home items from) ≡ length items
home_long [] from = refl
home_long (i ∷ items) from = ap suc (home_long items (drop i.count from))

-- ---- The newest record behind writes to a log

last_placed : (k : ℕ) (l : Look) (w : Write) (ws : List Write) → (front : List Listed) × (e : Listed) × ((placed_all (InLog k) l (w ∷ ws)).listed ≡ front ++ e ∷ []) × (e.lane ≡ k)
last_placed k l w [] = (_, _, refl, refl)
last_placed k l w (v ∷ ws) = last_placed k (placed (InLog k) l w) v ws

group_placed : (view : List ℕ) (k logger next n : ℕ) (l : Look) (items : List Item) (from : List Block) (m : Look) → 1 ≤ n → n ≤ length items → slice_get view k ≡ Some logger → m ≡ placed_all (InLog k) l (log_writes next (take n items) from)
    → IsPlaced view (place.Log logger) m
group_placed view k logger next n l [] from m some le at is = absurd (omega arith)
group_placed view k logger next zero l (i ∷ items) from m some le at is = absurd (omega arith)
group_placed view k logger next (suc n) l (i ∷ items) from m some le at is =
    let last = last_placed k l (log_write next i.lbn (take i.count from)) (log_writes (next + 1) (take n items) (drop i.count from)) in
    (last.0, last.1, ap (λ (j : Look). j.listed) is ∙ last.2, subst (λ (q : ℕ). slice_get view q ≡ Some logger) (sym last.3) at)

-- ---- The look of a refusal

module _ {D : Type 0} (old new : Manager D) where
  untouched_look : writing.IsUntouched old new → look_of_manager new ≡ look_of_manager old
  untouched_look was = ap look_of_manager was.rest ∙ (λ t. record { home_up = old.home_up; ups = old.ups.items; next = old.next; listed = listed_in (was.index t); down = down_of old.down })

  unplaced_look : writing.IsUnplaced old new → look_of_manager new ≡ look_of_manager old
  unplaced_look was = ap look_of_manager was.rest ∙ (λ t. record { home_up = old.home_up; ups = old.ups.items; next = old.next; listed = listed_in (was.index t); down = down_of old.down })

  pub kept_look : (a : Result Place WriteRefusal) → was_tried a ≡ false → IsAsBefore a old new → look_of_manager new ≡ look_of_manager old
  kept_look (Ok p) untried was = absurd (let e : true ≡ false = untried in cc)
  kept_look (Err Full) untried was = unplaced_look was
  kept_look (Err (DiskFault p)) untried was = absurd (let e : true ≡ false = untried in cc)
  kept_look (Err (Down p)) untried was = untouched_look was
  kept_look (Err VersionsSpent) untried was = untouched_look was
  kept_look (Err NoMemory) untried was = untouched_look was

-- ---- The entry of some first ones

front_long : (n : ℕ) (items : List Item) (from : List Block) → n ≤ length items → n ≤ length (writes_to_home items from)
front_long n items from le = let e = home_long items from in omega (arith, le, e)

log_entry : (view : List ℕ) (logger next n : ℕ) (items : List Item) (from : List Block) (note : Noted) → 1 ≤ n → n ≤ length items → note.entry.operation ≡ Wrote (log_writes next (take n items) from)
    → IsPlaced view (place.Log logger) note.look → note.after_drain ≡ false → AreWrittenAs view (writes_to_home items from) n (outcome.Wrote (place.Log logger) false) note
log_entry view logger next zero items from note some le is at drain = absurd (omega arith)
log_entry view logger next (suc zero) [] from note some le is at drain = absurd (omega arith)
log_entry view logger next (suc zero) (i ∷ items) from note some le is at drain = one (home_write i.lbn (take i.count from)) (writes_to_home items (drop i.count from)) refl refl
    (record { write = log_write next i.lbn (take i.count from); operation = is; same = refl; logged = refl; placed = at; drain = drain })
log_entry view logger next (suc (suc n)) items from note some le is at drain = several (place.Log logger) (omega arith) (front_long (suc (suc n)) items from le) refl
    (record {
      writes = log_writes next (take (suc (suc n)) items) from;
      operation = is;
      same = logged_bare next (take (suc (suc n)) items) from ∙ front_writes (suc (suc n)) items from;
      logged = logged_versions next (take (suc (suc n)) items) from;
      logger = refl;
      placed = at;
      drain = drain;
    })

home_entry : (view : List ℕ) (n : ℕ) (items : List Item) (from : List Block) (note : Noted) → n ≡ 1 → n ≤ length items → note.entry.operation ≡ Wrote (writes_to_home (take n items) from)
    → note.after_drain ≡ false → AreWrittenAs view (writes_to_home items from) n (outcome.Wrote place.Home false) note
home_entry view n [] from note alone le is drain = absurd (omega arith)
home_entry view n (i ∷ items) from note alone le is drain = one (home_write i.lbn (take i.count from)) (writes_to_home items (drop i.count from)) refl alone
    (record {
      write = home_write i.lbn (take i.count from);
      operation = is ∙ ap (λ (k : ℕ). Wrote (writes_to_home (take k (i ∷ items)) from)) alone;
      same = refl;
      logged = refl;
      placed = tt;
      drain = drain;
    })

refused_entry : (view : List ℕ) (items : List Item) (from : List Block) (e : WriteRefusal) (note : Noted) → 1 ≤ length items → IsRefusedWrite (writes_to_home items from) e note
    → AreWrittenAs view (writes_to_home items from) 1 (outcome.NoWrite e) note
refused_entry view [] from e note some is = absurd (omega arith)
refused_entry view (i ∷ items) from e note some is = one (home_write i.lbn (take i.count from)) (writes_to_home items (drop i.count from)) refl refl is

-- ---- The entry

module _ {D : Type 0} (tells : Bool) (state : D → State) (old new : Manager D) (items : List Item) (from : List Block) (pass n : ℕ) where
  abbrev P : placing.Place
  P = ruled_run old new items from

  abbrev l : Look
  l = look_of_manager old

  abbrev passed : List ℕ
  passed = passed_in new.rooms.items

  abbrev ws : Result Place WriteRefusal → List Write
  ws a = run_writes old.next (take n items) from a

  abbrev pub group_note : Result Place WriteRefusal → Noted
  group_note a = note_of pass (run_written (ws a) a) (look_of_manager new) passed false

  group_step : (a : Result Place WriteRefusal) → AreWrites passed l (ws a) (placed_all P l (ws a)) → OnOk a (look_of_manager new ≡ placed_all P l (ws a)) → IsAsBefore a old new
      → IsStep (group_note a) pass (run_written (ws a) a) l (look_of_manager new)
  group_step (Ok p) rule look was = inl (refl, subst (AreWrites passed l (ws (Ok p))) (sym look) rule)
  group_step (Err Full) rule look was = (refl, ruled.same (kept_look old new (Err Full) refl was))
  group_step (Err (DiskFault p)) rule look was = refl
  group_step (Err (Down p)) rule look was = (refl, ruled.same (kept_look old new (Err (Down p)) refl was))
  group_step (Err VersionsSpent) rule look was = (refl, ruled.same (kept_look old new (Err VersionsSpent) refl was))
  group_step (Err NoMemory) rule look was = (refl, ruled.same (kept_look old new (Err NoMemory) refl was))

  pub is_group_note : (a : Result Place WriteRefusal) → AreWrites passed l (ws a) (placed_all P l (ws a)) → OnOk a (look_of_manager new ≡ placed_all P l (ws a)) → IsAsBefore a old new → (k : Look) → k ≡ l
      → IsNote k (run_written (ws a) a) passed (look_of_manager new) (group_note a)
  is_group_note a rule look was k is = subst (λ (j : Look). IsNote j (run_written (ws a) a) passed (look_of_manager new) (group_note a)) (sym is)
      (record { operation_is = refl; look_is = refl; passed_is = refl; drain = refl; follows = λ _. group_step a rule look was })

  group_flight : (p : Part) → ((v : ℕ) → p ≡ part.Home v → n ≡ 1) → IsFlight (writes_to_home items from) (ws (Err (DiskFault p)))
  group_flight (part.Home volume) alone = record { count = n; same = home_bare (take n items) from ∙ front_writes n items from; logged = inl (let e = alone volume refl in omega (arith, e)) }
  group_flight (part.Segment volume index) alone = record { count = n; same = logged_bare old.next (take n items) from ∙ front_writes n items from; logged = inr (logged_versions old.next (take n items) from) }

  group_flight_at : (p : Part) → IsFlightAt p (ws (Err (DiskFault p)))
  group_flight_at (part.Home volume) = home_versions (take n items) from
  group_flight_at (part.Segment volume index) = logged_versions old.next (take n items) from

  pub group_entry : (view : List ℕ) (a : Result Place WriteRefusal) → 1 ≤ length items → is_full a ≡ false → AreTried n items a → IsPlaceOf view a P → OnOk a (look_of_manager new ≡ placed_all P l (ws a)) → IsAsBefore a old new
      → (a ≡ Err VersionsSpent → old.next ≡ 2 ^ 63) → AreWrittenAs view (writes_to_home items from) (answered_of n a) (written_outcome false a) (group_note a)
  group_entry view (Ok place.Home) some not_full are at look was spent = home_entry view n items from (group_note (Ok place.Home)) (are.home (inl refl)) are.within refl refl
  group_entry view (Ok (place.Log logger)) some not_full are at look was spent =
      log_entry view logger old.next n items from (group_note (Ok (place.Log logger))) (are.some refl) are.within refl
      (group_placed view at.0 logger old.next n l items from (look_of_manager new) (are.some refl) are.within at.1 (look ∙ ap (λ (q : placing.Place). placed_all q l (log_writes old.next (take n items) from)) at.2)) refl
  group_entry view (Err Full) some not_full are at look was spent = absurd (let no : true ≡ false = not_full in cc)
  group_entry view (Err (DiskFault p)) some not_full are at look was spent = refused_entry view items from (DiskFault p) (group_note (Err (DiskFault p))) some
      (ws (Err (DiskFault p)), refl, group_flight p (λ v is. are.home (inr (v, ap (λ (q : Part). Err (DiskFault q)) is))), group_flight_at p)
  group_entry view (Err (Down p)) some not_full are at look was spent = refused_entry view items from (Down p) (group_note (Err (Down p))) some refl
  group_entry view (Err VersionsSpent) some not_full are at look was spent = refused_entry view items from VersionsSpent (group_note (Err VersionsSpent)) some
      (refl, ap (λ (k : Look). k.next) (kept_look old new (Err VersionsSpent) refl was) ∙ spent refl)
  group_entry view (Err NoMemory) some not_full are at look was spent = refused_entry view items from NoMemory (group_note (Err NoMemory)) some refl

  pub group_same : (a : Result Place WriteRefusal) → IsAsBefore a old new → (k : Look) → k ≡ l → run_written (ws a) a ≡ Kept → look_of_manager new ≡ k
  group_same (Ok p) was k is kept = absurd (let no : Wrote (ws (Ok p)) ≡ Kept = kept in cc)
  group_same (Err Full) was k is kept = kept_look old new (Err Full) refl was ∙ sym is
  group_same (Err (DiskFault p)) was k is kept = absurd (let no : Broke (ws (Err (DiskFault p))) ≡ Kept = kept in cc)
  group_same (Err (Down p)) was k is kept = kept_look old new (Err (Down p)) refl was ∙ sym is
  group_same (Err VersionsSpent) was k is kept = kept_look old new (Err VersionsSpent) refl was ∙ sym is
  group_same (Err NoMemory) was k is kept = kept_look old new (Err NoMemory) refl was ∙ sym is

  pub group_counted : (a : Result Place WriteRefusal) → IsAsBefore a old new → (k : Look) → k ≡ l → (t : Tally) → CountsEntry k (group_note a) t t
  group_counted (Ok p) was k is t = entry_quiet k (group_note (Ok p)) t refl
  group_counted (Err Full) was k is t = entry_same k (group_note (Err Full)) t (λ _. ap (λ (j : Look). j.listed) (kept_look old new (Err Full) refl was ∙ sym is))
  group_counted (Err (DiskFault p)) was k is t = entry_quiet k (group_note (Err (DiskFault p))) t refl
  group_counted (Err (Down p)) was k is t = entry_same k (group_note (Err (Down p))) t (λ _. ap (λ (j : Look). j.listed) (kept_look old new (Err (Down p)) refl was ∙ sym is))
  group_counted (Err VersionsSpent) was k is t = entry_same k (group_note (Err VersionsSpent)) t (λ _. ap (λ (j : Look). j.listed) (kept_look old new (Err VersionsSpent) refl was ∙ sym is))
  group_counted (Err NoMemory) was k is t = entry_same k (group_note (Err NoMemory)) t (λ _. ap (λ (j : Look). j.listed) (kept_look old new (Err NoMemory) refl was ∙ sym is))
