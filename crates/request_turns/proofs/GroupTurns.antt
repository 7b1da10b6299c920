-- A turn of several writes, from entering to leaving.
use Rattle.std.proofs.Common.{◌≡◌, ◌≤◌, ◌+◌, ◌^◌, ℕ, zero, suc, Bool, true, false, List, [], ◌∷◌, ◌++◌, map, length, take, drop, get_or, None, Some, Result, Ok, Err, inl, refl, sym, ap, subst, ◌∙◌, arith}
use Rattle.std.specs.Prelude.{◌↔◌}
use Rattle.std.specs.List.{AllByRecursion, sum_by, take-map}
use Rattle.std.proofs.lemmas.List.{length-map}
use Rattle.wol_model.specs.declared.trace.Kind.TheVariants as kind
use Rattle.turn_lock.specs.Histories.{own, Begins}
use Rattle.turn_lock.specs.LockIds.{LockId}
use Rattle.turn_lock.specs.Passes.{pass_lock, pass_number, pass_seen, pass_mine, IsSamePass}
use Rattle.wol_disk.specs.Disk.{State, Block}
use Rattle.wol_model.specs.Blocks.{Write}
use Rattle.wol_model.specs.History.{worker}
use Rattle.wol_model.specs.Trace.{payload}
use Rattle.wol_promise.specs.Policy.{Look}
use Rattle.wol_promise.specs.Ruled.{Noted, last_look}
use Rattle.log_segment.specs.declared.item.Item.{Item}
use Rattle.logger.specs.Lanes.{logger_of}
use Rattle.manager.specs.Answers.{IsPlaceOf, home_write}
use Rattle.log_segment.specs.Records.{count_of}
use Rattle.std.proofs.lemmas.List.Sums.{sum_by-cons}
use Rattle.manager.specs.Groups.{IsItemOf, AreItemsOf, first_lbn, first_blocks, writes_to_home, run_writes, run_written, ruled_run, HasRun}
use Rattle.manager.specs.Seen.{look_of_manager}
use Rattle.manager.specs.Stands.{Keeps, Stands, passed_in}
use Rattle.manager.specs.Writing as writing
use Rattle.manager.specs.Writing.{IsAsBefore, was_tried}
use Rattle.manager.specs.declared.base.ManagerBase.{ManagerBase}
use Rattle.manager.specs.declared.manager.Manager.{Manager}
use Rattle.manager.specs.declared.part.Part.{Part}
use Rattle.manager.specs.declared.part.Place.{Place}
use Rattle.manager.specs.declared.part.WriteRefusal.{WriteRefusal}
use Rattle.manager.specs.declared.part.WriteRefusal.TheVariants.{Down, VersionsSpent}
use Rattle.trace_windows.specs.Requests.{asked}
use Rattle.trace_windows.specs.declared.request.Request.{Request}
use Rattle.request_turns.specs.Answered.{HasAnsweredMany}
use Rattle.request_turns.specs.Causes.{IsCauseOfWrite, LackedMemory, OneLacked}
use Rattle.request_turns.specs.Entries.{note_of, full_note, written_outcome, is_full, AreWrittenTogether, IsEntryOf, IsEntryOfFirst, IsWrittenAs, IsRefusedWrite, before_others, front_writes}
use Rattle.request_turns.specs.Entries as entries
use Rattle.request_turns.specs.Groups.{AreWrittenAs, one, several, HasWrittenMany, item_of, answered_of}
use Rattle.request_turns.specs.Requests.{IsWithin}
use Rattle.request_turns.specs.Turns.{ManagerPass, began, notes_seen, HasLeft, IsBroken, WasDown, Stays}
use Rattle.request_turns.specs.Written.{HasWritten}
use Rattle.request_turns.specs.declared.outcome.Outcome.{Outcome}
use Rattle.request_turns.specs.declared.outcome.Outcome.TheVariants as outcome
use Rattle.request_turns.specs.declared.tally.Tally.{Tally}
use Rattle.request_turns.proofs.Gaining.{stays_so}
use Rattle.request_turns.proofs.GroupNotes.{group_note, is_group_note, group_entry, group_same, group_counted, kept_look}
use Rattle.request_turns.proofs.MadeLaws.{refused_more}
use Rattle.request_turns.proofs.Turning.{turned}
use Rattle.request_turns.proofs.WriteNotes.{full_is, spent_behind, write_fault, write_cause}

-- ---- A group whose turn ends with its entry

module _ {D : Type 0} (tells : Bool) (state : D → State) (old new : Manager D) (items : List Item) (from : List Block) (n : ℕ) (a : Result Place WriteRefusal) (next : ℕ) (is_next : next ≡ old.next)
    (run : HasRun tells state items from n a (ruled_run old new items from) old new) (was : IsAsBefore a old new) where
  abbrev left_with : (pass : ℕ) → Noted
  left_with pass = note_of pass (run_written (run_writes next (take n items) from a) a) (look_of_manager new) (passed_in new.rooms.items) false

  pub group_stands : (b : ManagerBase) (notes : List Noted) (pass : ℕ) → pass ≡ worker → last_look b.volume.began.look notes ≡ look_of_manager old → Keeps tells state old b notes → Stands tells state new b (notes ++ left_with pass ∷ [])
  group_stands b notes pass client is keeps =
      subst (λ (k : ℕ). Stands tells state new b (notes ++ note_of pass (run_written (run_writes k (take n items) from a) a) (look_of_manager new) (passed_in new.rooms.items) false ∷ [])) (sym is_next)
      (run.stands b notes (group_note tells state old new items from pass n a) client (is_group_note tells state old new items from pass n a run.rule run.look was (last_look b.volume.began.look notes) is) keeps)

  pub has_written_group : (p q : ManagerPass D) (t : Tally) → 1 ≤ length items
      → is_full a ≡ false → Keeps tells state old (pass_lock p).base (notes_seen p) → map logger_of old.lanes.items ≡ (began p).view → last_look (began p).look (notes_seen p) ≡ look_of_manager old
      → IsPlaceOf (map logger_of old.lanes.items) a (ruled_run old new items from)
      → ((d : Part) → (a ≡ Err (Down d)) ↔ (old.down ≡ Some d)) → ((a ≡ Err VersionsSpent) ↔ ((old.down ≡ None) × (old.next ≡ 2 ^ 63))) → writing.TellsFault state a old new
      → HasLeft tells (left_with (pass_number p)) p q → ((d : Part) → new.down ≡ Some d → WasDown d (notes_seen q)) → (new.down ≡ None → IsBroken (notes_seen q) → ⊥)
      → HasWrittenMany tells items from (answered_of n a) (written_outcome false a) t t p q
  has_written_group p q t some not_full keeps view is at down spent told left broken unbroken = record {
    some = told_some a run.are.some;
    within = told_within a run.are.within;
    note = group_note tells state old new items from (pass_number p) n a;
    left = left_here;
    ruled = refl;
    entry = group_entry tells state old new items from (pass_number p) n (began p).view a some not_full run.are (subst (λ (v : List ℕ). IsPlaceOf v a (ruled_run old new items from)) view at) run.look was (λ e. (spent.0 e).1);
    stays = λ kept. inl (group_same tells state old new items from (pass_number p) n a was (last_look (began p).look (notes_seen p)) is kept);
    cause = write_cause tells state old (pass_lock p).base (notes_seen p) keeps (last_look (began p).look (notes_seen p)) is false a not_full down spent;
    fault = write_fault state old new false (notes_seen q) a told down broken
        (spent_behind tells state old new (group_note tells state old new items from (pass_number p) n a) p q refl left_here a (λ e. kept_look old new a (ap was_tried e) was) told spent unbroken);
    counted = group_counted tells state old new items from (pass_number p) n a was (last_look (began p).look (notes_seen p)) is t;
  }
    where
      left_here : HasLeft tells (group_note tells state old new items from (pass_number p) n a) p q
      left_here = subst (λ (k : ℕ). HasLeft tells (note_of (pass_number p) (run_written (run_writes k (take n items) from a) a) (look_of_manager new) (passed_in new.rooms.items) false) p q) is_next left

      told_some : (r : Result Place WriteRefusal) → (was_tried r ≡ true → 1 ≤ n) → 1 ≤ answered_of n r
      told_some (Ok place) tried = tried refl
      told_some (Err e) tried = omega arith

      told_within : (r : Result Place WriteRefusal) → n ≤ length items → answered_of n r ≤ length items
      told_within (Ok place) le = le
      told_within (Err e) le = some

  -- ---- A group that is refused as full

  module _ (full : is_full a ≡ true) (k : Look) (is_l : k ≡ look_of_manager old) where
    pub full_group_look : look_of_manager new ≡ k
    full_group_look = kept_look old new a (ap was_tried (full_is a full)) was ∙ sym is_l

    pub full_group_keeps : (b : ManagerBase) (notes : List Noted) (pass : ℕ) → pass ≡ worker → Keeps tells state old b notes → Keeps tells state new b (notes ++ full_note pass (look_of_manager new) (passed_in new.rooms.items) ∷ [])
    full_group_keeps b notes pass client keeps =
        (run.stands b notes (full_note pass (look_of_manager new) (passed_in new.rooms.items)) client
        (record {
          operation_is = sym (ap (λ (r : Result Place WriteRefusal). run_written (run_writes old.next (take n items) from r) r) (full_is a full));
          look_is = refl;
          passed_is = refl;
          drain = refl;
          follows = λ is. absurd (let no : false ≡ true = is in cc);
        }) keeps).keeps

-- ---- One write

written_more : (view : List ℕ) (w : Write) (behind : List Write) (o : Outcome) (n : Noted) → IsWrittenAs view w [] o n → IsWrittenAs view w behind o n
written_more view w behind (outcome.Read mark sources) n is = is
written_more view w behind (outcome.Wrote place drained) n is = is
written_more view w behind (outcome.NoRead refusal) n is = is
written_more view w behind (outcome.NoWrite refusal) n is = refused_more (w ∷ []) behind refusal n is
written_more view w behind outcome.NotRun n is = is

pub group_of_one : {D : Type 0} (tells : Bool) (i : Item) (items : List Item) (from : List Block) (o : Outcome) (t u : Tally) (p q : ManagerPass D) → HasWritten tells i.lbn (take i.count from) o t u p q → HasWrittenMany tells (i ∷ items) from 1 o t u p q
group_of_one tells i items from o t u p q w = record {
  some = omega arith;
  within = omega arith;
  note = w.note;
  left = w.left;
  ruled = w.ruled;
  entry = one (home_write i.lbn (take i.count from)) (writes_to_home items (drop i.count from)) refl refl (written_more (began p).view (home_write i.lbn (take i.count from)) (writes_to_home items (drop i.count from)) o w.note w.entry);
  stays = w.stays;
  cause = w.cause;
  fault = w.fault;
  counted = w.counted;
}

-- ---- Requests

front_of_writes : (rs : List Request) → AllByRecursion (λ (r : Request). r.kind ≡ kind.Write) rs → front_writes rs ≡ map (λ (r : Request). payload (asked r)) rs
front_of_writes [] all = refl
front_of_writes (r ∷ rs) all = (λ t. before_others (all.0 t) (payload (asked r)) (front_writes rs)) ∙ (λ t. payload (asked r) ∷ front_of_writes rs all.1 t)

all_front : (n : ℕ) (rs : List Request) → AllByRecursion (λ (r : Request). r.kind ≡ kind.Write) rs → AllByRecursion (λ (r : Request). r.kind ≡ kind.Write) (take n rs)
all_front zero rs all = tt
all_front (suc n) [] all = tt
all_front (suc n) (r ∷ rs) all = (all.0, all_front n rs all.1)

-- the entry of a write of a request's payload is the request's
of_request : (view : List ℕ) (r : Request) (behind : List Request) (o : Outcome) (n : Noted) → r.kind ≡ kind.Write → AllByRecursion (λ (q : Request). q.kind ≡ kind.Write) behind
    → IsWrittenAs view (payload (asked r)) (map (λ (q : Request). payload (asked q)) behind) o n → IsEntryOf view r behind o n
of_request view r behind (outcome.Read mark sources) n writes all is = absurd is
of_request view r behind (outcome.Wrote place drained) n writes all is = (writes, is)
of_request view r behind (outcome.NoRead refusal) n writes all is = absurd is
of_request view r behind (outcome.NoWrite refusal) n writes all is = (writes, subst (λ (ws : List Write). IsRefusedWrite (payload (asked r) ∷ ws) refusal n) (sym (front_of_writes behind all)) is)
of_request view r behind outcome.NotRun n writes all is = absurd is

-- the first of these requests' payloads
of_first : (view : List ℕ) (rs : List Request) (w : Write) (behind : List Write) (o : Outcome) (n : Noted) → AllByRecursion (λ (r : Request). r.kind ≡ kind.Write) rs
    → map (λ (r : Request). payload (asked r)) rs ≡ w ∷ behind → IsWrittenAs view w behind o n → (count : ℕ) → count ≡ 1 → IsEntryOfFirst view rs count o n
of_first view [] w behind o n all are is count count_is = absurd (let no : [] ≡ w ∷ behind = are in cc)
of_first view (r ∷ rs) w behind o n all are is count count_is =
    let first : w ≡ payload (asked r) = cc are in let rest : behind ≡ map (λ (q : Request). payload (asked q)) rs = cc are in
    entries.one r rs refl count_is (of_request view r rs o n all.0 all.1 (subst (λ (ws : List Write). IsWrittenAs view (payload (asked r)) ws o n) rest (subst (λ (v : Write). IsWrittenAs view v behind o n) first is)))

pub of_requests : (view : List ℕ) (rs : List Request) (count : ℕ) (o : Outcome) (n : Noted) → AllByRecursion (λ (r : Request). r.kind ≡ kind.Write) rs
    → AreWrittenAs view (map (λ (r : Request). payload (asked r)) rs) count o n → IsEntryOfFirst view rs count o n
of_requests view rs count o n all (one w behind are count_is is) = of_first view rs w behind o n all are is count count_is
of_requests view rs count o n all (several place two within o_is is) = entries.several place two
    (let e = length-map rs (λ (r : Request). payload (asked r)) in omega (arith, within, e)) o_is
    (record { kinds = all_front count rs all; together = subst (λ (ws : List Write). AreWrittenTogether view ws place n) (take-map (λ (r : Request). payload (asked r)) count rs) is })

-- where the first of some writes lacked memory it is that of the first request
first_lacked : (items : List Item) (from : List Block) (rs : List Request) (o : Outcome) → AllByRecursion (λ (r : Request). r.kind ≡ kind.Write) rs → writes_to_home items from ≡ map (λ (r : Request). payload (asked r)) rs → 1 ≤ length items
    → (w : Write) → LackedMemory (home_write (first_lbn items) (first_blocks items from)) o w → OneLacked rs (o ∷ []) w
first_lacked [] from rs o all are some w lacked = absurd (omega (arith, some))
first_lacked (i ∷ items) from [] o all are some w lacked = absurd (let no : home_write i.lbn (take i.count from) ∷ writes_to_home items (drop i.count from) ≡ [] = are in cc)
first_lacked (i ∷ items) from (r ∷ rs) o all are some w (same, out) = let is : home_write i.lbn (take i.count from) ≡ payload (asked r) = cc are in inl (all.0, (same ∙ is, out))

pub answered_many : {D : Type 0} (tells : Bool) (rs : List Request) (items : List Item) (from : List Block) (count : ℕ) (o : Outcome) (p i q : ManagerPass D) (t u : Tally) → AllByRecursion (λ (r : Request). r.kind ≡ kind.Write) rs
    → writes_to_home items from ≡ map (λ (r : Request). payload (asked r)) rs → length items ≡ length rs
    → IsSamePass p i → Begins (pass_seen p) (pass_seen i) → pass_mine i ≡ pass_mine p → own (pass_number i) (pass_seen i) ≡ pass_mine i → HasWrittenMany tells items from count o t u i q → HasAnsweredMany tells rs count o p q
answered_many tells rs items from count o p i q t u all payloads long same begins mine owns w = record {
  some = w.some;
  within = let le = w.within in omega (arith, le, long);
  before = pass_seen i;
  note = w.note;
  turned = turned tells p i q w.note same begins mine owns w.left w.ruled;
  entry = of_requests (began p).view rs count o w.note all (subst (λ (ws : List Write). AreWrittenAs (began p).view ws count o w.note) payloads
      (subst (λ (l : LockId ManagerBase). AreWrittenAs l.base.volume.began.view (writes_to_home items from) count o w.note) same.0 w.entry));
  stays = λ kept. let s = w.some in let le = w.within in
      stays_so (LackedMemory (home_write (first_lbn items) (first_blocks items from)) o) (OneLacked rs (o ∷ [])) (first_lacked items from rs o all payloads (omega (arith, s, le))) (last_look (began p).look (notes_seen i)) w.note
      (subst (λ (l : LockId ManagerBase). Stays (LackedMemory (home_write (first_lbn items) (first_blocks items from)) o) (last_look l.base.volume.began.look (notes_seen i)) w.note) same.0 (w.stays kept));
  cause = λ r first writes. subst (λ (l : LockId ManagerBase). IsCauseOfWrite (notes_seen i) (last_look l.base.volume.began.look (notes_seen i)) o) same.0 w.cause;
  fault = w.fault;
}

-- the first of some items, as the code has it
pub first_here : (items : List Item) (from : List Block) (d : Item) → 1 ≤ length items → (first_lbn items ≡ (get_or items 0 d).lbn) × (first_blocks items from ≡ take (get_or items 0 d).count from)
first_here [] from d some = absurd (omega arith)
first_here (i ∷ items) from d some = (refl, refl)

-- requests that a manager can be asked are items of its volume
pub items_within : (b : ManagerBase) (rs : List Request) → AllByRecursion (IsWithin b) rs → AreItemsOf b.volume.began.most b.volume.began.home_blocks (map item_of rs)
items_within b [] all = tt
items_within b (r ∷ rs) all = (record { some = all.0.some; few = all.0.few; within = all.0.fits }, items_within b rs all.1)

-- .. is one of them, and has no more blocks than there are
pub first_item : (most size : ℕ) (items : List Item) (d : Item) → 1 ≤ length items → AreItemsOf most size items → IsItemOf most size (get_or items 0 d)
first_item most size [] d some all = absurd (omega arith)
first_item most size (i ∷ items) d some all = all.0

pub first_fits : (items : List Item) (from : List Block) (d : Item) → 1 ≤ length items → count_of items ≤ length from → (get_or items 0 d).count ≤ length from
first_fits [] from d some le = absurd (omega arith)
first_fits (i ∷ items) from d some le = let e : count_of (i ∷ items) ≡ i.count + count_of items = sum_by-cons (λ (j : Item). j.count) i items in omega (arith, e, le)

-- ---- What requests ask for

-- a single one has no more blocks than the volume's most
pub few_blocks : (b : ManagerBase) (rs : List Request) → AllByRecursion (IsWithin b) rs → b.volume.began.most ≤ 128 → 1 ≤ length rs → (2 ≤ length rs → sum_by (λ (r : Request). r.count) rs ≤ 128) → sum_by (λ (r : Request). r.count) rs ≤ 128
few_blocks b [] all most some two = absurd (omega arith)
few_blocks b (r ∷ []) all most some two =
    let e : sum_by (λ (q : Request). q.count) (r ∷ []) ≡ r.count + sum_by (λ (q : Request). q.count) [] = sum_by-cons (λ (q : Request). q.count) r [] in
    let nothing : sum_by (λ (q : Request). q.count) [] ≡ 0 = refl in let few = all.0.few in omega (arith, e, nothing, few, most)
few_blocks b (r ∷ q ∷ rs) all most some two = two (omega arith)

pub ends_below : (b : ManagerBase) (rs : List Request) → AllByRecursion (IsWithin b) rs → b.volume.began.home_blocks ≤ 2 ^ 32 → AllByRecursion (λ (r : Request). r.lbn + r.count ≤ 2 ^ 64) rs
ends_below b [] all small = tt
ends_below b (r ∷ rs) all small = ((let fits = all.0.fits in omega (arith, fits, small)), ends_below b rs all.1 small)

-- the volume that was entered is the one that was asked
module _ {D : Type 0} (p i : ManagerPass D) (rs : List Request) (same : IsSamePass p i) (within : AllByRecursion (IsWithin (pass_lock p).base) rs) where
  pub here : AllByRecursion (IsWithin (pass_lock i).base) rs
  here = subst (λ (l : LockId ManagerBase). AllByRecursion (IsWithin l.base) rs) (sym same.0) within

  pub few_here : (pass_lock i).base.volume.began.most ≤ 128 → 1 ≤ length rs → (2 ≤ length rs → sum_by (λ (r : Request). r.count) rs ≤ 128) → sum_by (λ (r : Request). r.count) rs ≤ 128
  few_here most some two = few_blocks (pass_lock i).base rs here most some two
