-- What a helper's turn tells: that it did something, or that there was nothing to do.
use Rattle.std.proofs.Common.{◌≡◌, ◌<◌, ◌-◌, ◌==◌, ◌&&◌, length, ℕ, Bool, true, false, cond, List, [], ◌∷◌, Option, None, Some, Result, Ok, refl, sym, ap, subst, ◌∙◌, arith}
use Rattle.std.specs.Prelude.{◌↔◌, IfOk, IsSome, IsTrue, find, is_some, slice_index_or}
use Rattle.std.specs.List.{AllByRecursion}
use Rattle.std.specs.Option.{option_map_or}
use Rattle.turn_lock.specs.Histories.{own, Begins}
use Rattle.turn_lock.specs.LockIds.{LockId}
use Rattle.turn_lock.specs.Passes.{pass_number, pass_seen, pass_mine, IsSamePass}
use Rattle.wol_model.specs.Index.{Listed, Indexed, listed_in, is_due, has_due, has_going, left}
use Rattle.wol_promise.specs.Policy.{Look}
use Rattle.wol_promise.specs.Ruled.{Noted, last_look}
use Rattle.wol_promise.proofs.OneMore.{last_more}
use Rattle.manager.specs.Seen.{look_of_manager}
use Rattle.manager.specs.Stands.{notes_of}
use Rattle.manager.specs.declared.base.ManagerBase.{ManagerBase}
use Rattle.manager.specs.declared.manager.Manager.{Manager}
use Rattle.manager.specs.declared.part.StepFault.{StepFault}
use Rattle.reclaimer.proofs.Idle.{fails_then, find_none}
use Rattle.reclaimer.specs.Counts.{LowersGone}
use Rattle.reclaimer.specs.Fetches.{FindsDue, due_entry, going_entry, goes_home, is_still_due}
use Rattle.reclaimer.specs.Records.{FetchedRecord}
use Rattle.reclaimer.specs.Steps.{HasFetchedNext, LooksPut, LooksGone}
use Rattle.reclaimer.specs.declared.answers.Fetched.{Fetched}
use Rattle.reclaimer.specs.declared.answers.Fetched.TheVariants as Found
use Rattle.reclaimer.specs.declared.answers.Gone.{Gone}
use Rattle.reclaimer.specs.declared.answers.Gone.TheVariants as gone
use Rattle.request_turns.specs.Entries.{note_of, step_operation}
use Rattle.request_turns.specs.Helped.{HasNoneDue, HasNoneToGo, HasNoneToPut, HasTakenSome, taken_by, was_due}
use Rattle.request_turns.specs.Turns.{ManagerPass, began, look_seen, HasLeft}
use Rattle.request_turns.proofs.Counting.{turn_adds}
use Rattle.request_turns.proofs.Noting.{notes_at}
use Rattle.request_turns.proofs.Turning.{turned}

-- ---- Records

-- no record within reach is one that is sought, where no entry is
none_within : (ups : List Bool) (sought : Listed → Bool) (es : List Indexed) → AllByRecursion (λ (e : Indexed). (slice_index_or ups e.listed.lane false && sought e.listed) ≡ false) es
    → AllByRecursion (λ (e : Listed). slice_index_or ups e.lane false ≡ true → sought e ≡ false) (listed_in es)
none_within ups sought [] none = tt
none_within ups sought (e ∷ es) none = ((λ awake. fails_then (slice_index_or ups e.listed.lane false) (sought e.listed) awake none.0), none_within ups sought es none.1)

none_due : {D : Type 0} (m : Manager D) → due_entry m ≡ None → HasNoneDue (look_of_manager m)
none_due m none up = none_within m.ups.items (has_due (listed_in m.index.entries)) m.index.entries
    (find_none (λ (e : Indexed). slice_index_or m.ups.items e.listed.lane false && has_due (listed_in m.index.entries) e.listed) m.index.entries
    (sym (ap (λ (t : Bool). cond t (find (λ (e : Indexed). slice_index_or m.ups.items e.listed.lane false && has_due (listed_in m.index.entries) e.listed) m.index.entries) None) up) ∙ none))

none_to_go : {D : Type 0} (m : Manager D) → going_entry m ≡ None → HasNoneToGo (look_of_manager m)
none_to_go m none = none_within m.ups.items (has_going (listed_in m.index.entries)) m.index.entries
    (find_none (λ (e : Indexed). slice_index_or m.ups.items e.listed.lane false && has_going (listed_in m.index.entries) e.listed) m.index.entries none)

-- what is told of a listed record of a version is told of its entry
listed_at : (test : Listed → Bool) (version : ℕ) (es : List Indexed) → option_map_or test (find (λ (e : Listed). e.version == version) (listed_in es)) false
    ≡ option_map_or (λ (e : Indexed). test e.listed) (find (λ (e : Indexed). e.listed.version == version) es) false
listed_at test version [] = refl
listed_at test version (e ∷ es) = at (e.listed.version == version) (listed_at test version es)
  where
    at : (t : Bool) → option_map_or test (find (λ (d : Listed). d.version == version) (listed_in es)) false ≡ option_map_or (λ (d : Indexed). test d.listed) (find (λ (d : Indexed). d.listed.version == version) es) false
        → option_map_or test (cond t (Some e.listed) (find (λ (d : Listed). d.version == version) (listed_in es))) false
        ≡ option_map_or (λ (d : Indexed). test d.listed) (cond t (Some e) (find (λ (d : Indexed). d.listed.version == version) es)) false
    at true rest = refl
    at false rest = rest

none_to_put : {D : Type 0} (m : Manager D) (f : Option FetchedRecord) → ((b : ℕ) → goes_home m f b ≡ false) → HasNoneToPut (look_of_manager m) f
none_to_put m None none = tt
none_to_put m (Some f) none = λ up b.
    ap (λ (t : Bool). was_due f b && t) (listed_at (λ (e : Listed). e.first == f.first && (length e.keep == length f.blocks && is_due (listed_in m.index.entries) e b)) f.version m.index.entries)
    ∙ fails_then m.home_up (is_still_due m.index.entries f.version f.first (length f.blocks) f.due b) up (none b)

-- ---- What was fetched

-- it has a block that goes home
some_fetched : {D : Type 0} (m : Manager D) (a : Result Fetched StepFault) (version count : ℕ) (f : Option FetchedRecord) → a ≡ Ok (Found.Some version count) → FindsDue a m f → IsSome f
some_fetched m a version count None is finds = absurd (let no : 0 < 0 = subst (λ (r : Result Fetched StepFault). FindsDue r m None) is finds in omega (arith, no))
some_fetched m a version count (Some f) is finds = refl

none_fetched : {D : Type 0} (old new : Manager D) (a : Result Fetched StepFault) (f : Option FetchedRecord) → a ≡ Ok Found.Nothing → HasFetchedNext a old new f → IsTrue false ↔ IsSome f
none_fetched old new a f is next =
    let empty : f ≡ None = (subst (λ (r : Result Fetched StepFault). HasFetchedNext r old new f) is next).0 in
    ((λ no. absurd (let e : false ≡ true = no in cc)), (λ some. absurd (let e : false ≡ true = sym (ap is_some empty) ∙ some in cc)))

-- the room has a record where the turn tells that there was one
pub room_told : {D : Type 0} (old new : Manager D) (a : Result Fetched StepFault) (x : Fetched) (found : Bool) (f : Option FetchedRecord) → a ≡ Ok x → (found ≡ false) ↔ (x ≡ Found.Nothing) → FindsDue a new f → HasFetchedNext a old new f → IsTrue found ↔ IsSome f
room_told old new a (Found.Some version count) true f is tells due next = let some = some_fetched new a version count f is due in ((λ _. some), (λ _. refl))
room_told old new a (Found.Some version count) false f is tells due next = absurd (let no : Found.Some version count ≡ Found.Nothing = tells.0 refl in cc)
room_told old new a Found.Nothing true f is tells due next = absurd (let no : true ≡ false = tells.1 refl in cc)
room_told old new a Found.Nothing false f is tells due next = none_fetched old new a f is next

-- ---- The look that a turn leaves

-- it is the one before where nothing was put home
pub same_put : {D : Type 0} (old new : Manager D) (a : Result ℕ StepFault) (count : ℕ) → a ≡ Ok count → count ≡ 0 → LooksPut a old new → look_of_manager new ≡ look_of_manager old
same_put old new a count is none look = (subst (λ (r : Result ℕ StepFault). LooksPut r old new) is look).0 none

-- .. or given up
pub same_gone : {D : Type 0} (old new : Manager D) (a : Result Gone StepFault) → a ≡ Ok gone.Nothing → LooksGone a old new → look_of_manager new ≡ look_of_manager old
same_gone old new a is look = subst (λ (r : Result Gone StepFault). LooksGone r old new) is look

module _ {D : Type 0} (tells : Bool) (old new : Manager D) (i q : ManagerPass D) (failed : Bool) (left : HasLeft tells (note_of (pass_number i) (step_operation failed) (look_of_manager new) [] false) i q) where
  look_left : look_seen q ≡ look_of_manager new
  look_left =
      let n : Noted = note_of (pass_number i) (step_operation failed) (look_of_manager new) [] false in
      ap (λ (ns : List Noted). last_look (began q).look ns) (ap notes_of left.seen ∙ notes_at (pass_seen i) n.entry.pass n refl) ∙ last_more (began q).look (notes_of (pass_seen i)) n

  -- a record that has a due block was fetched, unless there was none
  pub nothing_due : (a : Result Fetched StepFault) (f : Option FetchedRecord) → a ≡ Ok Found.Nothing → HasFetchedNext a old new f → due_entry old ≡ None → HasNoneDue (look_seen q)
  nothing_due a f is next none =
      let same : new ≡ old = (subst (λ (r : Result Fetched StepFault). HasFetchedNext r old new f) is next).1 in
      subst HasNoneDue (sym (look_left ∙ ap look_of_manager same)) (none_due old none)

  -- what was fetched and is due still was put home
  pub nothing_put : (a : Result ℕ StepFault) (count : ℕ) (f : Option FetchedRecord) → a ≡ Ok count → count ≡ 0 → LooksPut a old new → ((b : ℕ) → goes_home old f b ≡ false) → HasNoneToPut (look_seen q) f
  nothing_put a count f is none look all = subst (λ (l : Look). HasNoneToPut l f) (sym (look_left ∙ same_put old new a count is none look)) (none_to_put old f all)

  -- one that had something to give up gave it up
  pub nothing_gone : (a : Result Gone StepFault) → a ≡ Ok gone.Nothing → LooksGone a old new → going_entry old ≡ None → HasNoneToGo (look_seen q)
  nothing_gone a is look none = subst HasNoneToGo (sym (look_left ∙ same_gone old new a is look)) (none_to_go old none)

-- ---- Where something was done

pub some_taken : {D : Type 0} (tells : Bool) (p i q : ManagerPass D) (n : Noted) (l : Look) → IsSamePass p i → Begins (pass_seen p) (pass_seen i) → pass_mine i ≡ pass_mine p → own (pass_number i) (pass_seen i) ≡ pass_mine i
    → HasLeft tells n i q → IsTrue n.ruled → last_look (began i).look (notes_of (pass_seen i)) ≡ l → left n.look.listed < left l.listed → HasTakenSome tells p q
some_taken tells p i q n l same begins mine owns from ruled is less honest =
    let adds = turn_adds tells p q (pass_seen i) n (turned tells p i q n same begins mine owns from ruled) honest taken_by in
    let at : last_look (began p).look (notes_of (pass_seen i)) ≡ l = ap (λ (k : LockId ManagerBase). last_look k.base.volume.began.look (notes_of (pass_seen i))) (sym same.0) ∙ is in
    subst (λ (k : ℕ). 0 < k) (sym (adds ∙ ap (λ (k : Look). left k.listed - left n.look.listed) at)) (omega (arith, less))

pub put_lowers : {D : Type 0} (old new : Manager D) (a : Result ℕ StepFault) (count : ℕ) → a ≡ Ok count → 0 < count → IfOk a (λ k. 0 < k → left (listed_in new.index.entries) < left (listed_in old.index.entries))
    → left (look_of_manager new).listed < left (look_of_manager old).listed
put_lowers old new a count is some lowers = (subst (λ (r : Result ℕ StepFault). IfOk r (λ k. 0 < k → left (listed_in new.index.entries) < left (listed_in old.index.entries))) is lowers) some

pub gone_lowers : {D : Type 0} (old new : Manager D) (a : Result Gone StepFault) (g : Gone) → a ≡ Ok g → (g ≡ gone.Nothing → ⊥) → LowersGone a old new → left (look_of_manager new).listed < left (look_of_manager old).listed
gone_lowers old new a (gone.Version v) is some lowers = subst (λ (r : Result Gone StepFault). LowersGone r old new) is lowers
gone_lowers old new a (gone.Trimmed v) is some lowers = subst (λ (r : Result Gone StepFault). LowersGone r old new) is lowers
gone_lowers old new a gone.Nothing is some lowers = absurd (some refl)
