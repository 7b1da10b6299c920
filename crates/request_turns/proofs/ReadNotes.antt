-- A read's entry.
use Rattle.std.proofs.Common.{◌≡◌, ◌+◌, ℕ, Bool, true, false, List, [], length, None, Some, Result, Ok, Err, OnOk, IfOk, refl, sym, ap, subst, ◌∙◌, inl}
use Rattle.std.specs.Prelude.{IsSome, is_some, count_by, ◌↔◌}
use Rattle.std.specs.List.{range_with_len}
use Rattle.wol_disk.specs.Disk.{State, Block}
use Rattle.wol_model.specs.History.{Kept}
use Rattle.wol_model.specs.Index.{listed_in, is_covered}
use Rattle.wol_promise.specs.Policy.{Look, woken}
use Rattle.wol_promise.specs.Report.{reclaims}
use Rattle.wol_promise.specs.Ruled.{Noted, IsStep, IsKeep}
use Rattle.wol_promise.specs.Ruled as ruled
use Rattle.manager.specs.Answers.{was_read}
use Rattle.manager.specs.Seen.{look_of_manager}
use Rattle.manager.specs.Stands.{Stands, IsNote}
use Rattle.manager.specs.declared.manager.Manager.{Manager}
use Rattle.manager.specs.declared.part.Part.{Part}
use Rattle.manager.specs.declared.part.ReadRefusal.{ReadRefusal}
use Rattle.manager.specs.declared.part.ReadRefusal.TheVariants.{DiskFault, Down}
use Rattle.manager.specs.declared.part.Sources.{Sources}
use Rattle.wol_model.specs.declared.trace.Kind.TheVariants as kind
use Rattle.request_turns.specs.Causes.{IsCauseOfRead}
use Rattle.request_turns.specs.Counts.{CountsEntry, ReclaimsNothing}
use Rattle.request_turns.specs.Entries.{note_of, read_outcome, IsEntryOf, IsReadAs, TellsFault}
use Rattle.request_turns.specs.Blocks.{HasReadBlocks}
use Rattle.request_turns.specs.Written.{HasRead}
use Rattle.turn_lock.specs.Histories.{own, Begins}
use Rattle.turn_lock.specs.LockIds.{LockId}
use Rattle.turn_lock.specs.Passes.{pass_lock, pass_number, pass_seen, pass_mine, IsSamePass}
use Rattle.wol_promise.specs.Ruled.{last_look}
use Rattle.manager.specs.declared.base.ManagerBase.{ManagerBase}
use Rattle.request_turns.specs.Answered.{HasAnswered}
use Rattle.request_turns.specs.Turns.{ManagerPass, began, notes_seen, HasLeft, IsBroken, WasDown}
use Rattle.request_turns.specs.declared.tally.Tally.{Tally}
use Rattle.request_turns.proofs.Counting.{entry_same, counted_turn}
use Rattle.request_turns.proofs.Noting.{was_broken, was_unbroken}
use Rattle.request_turns.proofs.Parts.{no_part}
use Rattle.request_turns.proofs.Turning.{turned}
use Rattle.trace_windows.specs.declared.request.Request.{Request}

module _ {D : Type 0} (old new : Manager D) (first : ℕ) (out : List Block) (answer : Result Sources ReadRefusal) (l : Look) (pass : ℕ) (is_l : l ≡ look_of_manager old) (n : ℕ) (long : length out ≡ n)
    (look : OnOk answer (look_of_manager new ≡ woken (look_of_manager old) first n))
    (down : (p : Part) → (answer ≡ Err (Down p)) ↔ (old.down ≡ Some p)) (unchanged : IsSome old.down → new ≡ old) where
  kept_look : (p : Part) → answer ≡ Err (Down p) → look_of_manager new ≡ l
  kept_look p is = ap look_of_manager (unchanged (ap is_some ((down p).0 is))) ∙ sym is_l

  abbrev pub note : Noted
  note = note_of pass (was_read first out answer) (look_of_manager new) [] false

  step : (a : Result Sources ReadRefusal) → answer ≡ a → OnOk a (look_of_manager new ≡ woken (look_of_manager old) first n) → IsStep note pass (was_read first out a) l (look_of_manager new)
  step (Ok s) is so = (refl, so ∙ (λ i. woken (sym is_l i) first (sym long i)))
  step (Err (DiskFault p)) is so = refl
  step (Err (Down p)) is so = (refl, ruled.same (kept_look p is))

  pub read_note : IsNote l (was_read first out answer) [] (look_of_manager new) note
  read_note = record { operation_is = refl; look_is = refl; passed_is = refl; drain = refl; follows = λ _. step answer refl look }

  pub read_same : (n : Noted) → n ≡ note → n.entry.operation ≡ Kept → n.look ≡ l
  read_same n is kept = by answer refl (subst (λ (k : Noted). k.entry.operation ≡ Kept) is kept)
    where
      by : (a : Result Sources ReadRefusal) → answer ≡ a → was_read first out a ≡ Kept → n.look ≡ l
      by (Ok s) same is_kept = absurd (let no : Rattle.wol_model.specs.History.Read first out ≡ Kept = is_kept in cc)
      by (Err (DiskFault p)) same is_kept = absurd (let no : Rattle.wol_model.specs.History.Broke [] ≡ Kept = is_kept in cc)
      by (Err (Down p)) same is_kept = ap (λ (k : Noted). k.look) is ∙ kept_look p same

  pub read_counted : (t : Tally) → CountsEntry l note t t
  read_counted t = entry_same l note t (by answer refl)
    where
      by : (a : Result Sources ReadRefusal) → answer ≡ a → reclaims false (was_read first out a) ≡ true → (look_of_manager new).listed ≡ l.listed
      by (Ok s) same is = absurd (let no : false ≡ true = is in cc)
      by (Err (DiskFault p)) same is = absurd (let no : false ≡ true = is in cc)
      by (Err (Down p)) same is = ap (λ (k : Look). k.listed) (kept_look p same)

-- the entry of a read with this answer
module _ {D : Type 0} (old new : Manager D) (first : ℕ) (out : List Block) (pass : ℕ) (n : ℕ) (long : length out ≡ n) where
  read_as : (a : Result Sources ReadRefusal) → OnOk a (look_of_manager new ≡ woken (look_of_manager old) first n)
      → IfOk a (λ s. s.logged ≡ count_by (is_covered (listed_in old.index.entries)) (range_with_len first n)) → IfOk a (λ s. s.home + s.logged ≡ n)
      → IsReadAs first out a (note_of pass (was_read first out a) (look_of_manager new) [] false)
  read_as (Ok s) look logged all = record {
    operation = refl;
    logged = logged ∙ (λ i. count_by (is_covered (sym (ap (λ (k : Look). k.listed) look) i)) (range_with_len first (sym long i)));
    all = all ∙ sym long;
  }
  read_as (Err (DiskFault p)) look logged all = refl
  read_as (Err (Down p)) look logged all = refl

-- why it came
module _ {D : Type 0} (old new : Manager D) (out : List Block) where
  read_fault : (seen : List Noted) (a : Result Sources ReadRefusal) → ((p : Part) → a ≡ Err (DiskFault p) → new.down ≡ Some p) → ((p : Part) → a ≡ Err (Down p) → new.down ≡ Some p) → ((d : Part) → new.down ≡ Some d → WasDown d seen)
      → TellsFault seen (read_outcome out a)
  read_fault seen (Ok s) failed down broken = tt
  read_fault seen (Err (DiskFault p)) failed down broken = broken p (failed p refl)
  read_fault seen (Err (Down p)) failed down broken = broken p (down p refl)

  abbrev is_down : Result Sources ReadRefusal → Bool
  is_down (Ok s) = false
  is_down (Err (DiskFault p)) = false
  is_down (Err (Down p)) = true

  was_up : (a : Result Sources ReadRefusal) → is_down a ≡ false → ((p : Part) → (a ≡ Err (Down p)) ↔ (old.down ≡ Some p)) → old.down ≡ None
  was_up a up down = no_part old.down (λ p is. absurd (let no : is_down a ≡ true = ap is_down ((down p).1 is) in cc (up, no)))

  read_cause : (before : List Noted) (a : Result Sources ReadRefusal) → ((p : Part) → (a ≡ Err (Down p)) ↔ (old.down ≡ Some p)) → (IsSome old.down → IsBroken before) → (old.down ≡ None → IsBroken before → ⊥)
      → IsCauseOfRead before a
  read_cause before (Ok s) down broken unbroken = unbroken (was_up (Ok s) refl down)
  read_cause before (Err (DiskFault p)) down broken unbroken = unbroken (was_up (Err (DiskFault p)) refl down)
  read_cause before (Err (Down p)) down broken unbroken = broken (ap is_some ((down p).0 refl))

-- a read within a turn
pub has_read : {D : Type 0} (tells : Bool) (state : D → State) (old new : Manager D) (first : ℕ) (out : List Block) (answer : Result Sources ReadRefusal) (p q : ManagerPass D)
    → (n : ℕ) → length out ≡ n → Stands tells state old (pass_lock p).base (notes_seen p)
    → OnOk answer (look_of_manager new ≡ woken (look_of_manager old) first n)
    → IfOk answer (λ s. s.logged ≡ count_by (is_covered (listed_in old.index.entries)) (range_with_len first n)) → IfOk answer (λ s. s.home + s.logged ≡ n)
    → ((d : Part) → (answer ≡ Err (Down d)) ↔ (old.down ≡ Some d)) → (IsSome old.down → new ≡ old) → ((d : Part) → answer ≡ Err (DiskFault d) → new.down ≡ Some d)
    → HasLeft tells (note_of (pass_number p) (was_read first out answer) (look_of_manager new) [] false) p q → ((d : Part) → new.down ≡ Some d → WasDown d (notes_seen q))
    → HasRead tells first out answer p q
has_read {D} tells state old new first out answer p q n long stands look logged all down unchanged failed left broken = record {
  note = note_of (pass_number p) (was_read first out answer) (look_of_manager new) [] false;
  left = left;
  ruled = refl;
  entry = read_as old new first out (pass_number p) n long answer look logged all;
  stays = read_same old new first out answer (last_look (began p).look (notes_seen p)) (pass_number p) stands.look n long look down unchanged (note_of (pass_number p) (was_read first out answer) (look_of_manager new) [] false) refl;
  cause = read_cause old new out (notes_seen p) answer down (was_broken tells state old (pass_lock p).base (notes_seen p) stands.keeps) (was_unbroken tells state old (pass_lock p).base (notes_seen p) stands.keeps);
  fault = read_fault old new out (notes_seen q) answer failed (λ d is. let was = (down d).0 is in ap (λ (m : Manager D). m.down) (unchanged (ap is_some was)) ∙ was) broken;
  counted = read_counted old new first out answer (last_look (began p).look (notes_seen p)) (pass_number p) stands.look n long look down unchanged;
}

-- ---- A turn, from entering to leaving

module _ {D : Type 0} (tells : Bool) (first : ℕ) (out : List Block) (answer : Result Sources ReadRefusal) (p i q : ManagerPass D)
    (same : IsSamePass p i) (begins : Begins (pass_seen p) (pass_seen i)) (mine : pass_mine i ≡ pass_mine p) (owns : own (pass_number i) (pass_seen i) ≡ pass_mine i) (r : HasRead tells first out answer i q) where
  pub read_blocks_ : HasReadBlocks tells first out answer p q
  read_blocks_ = record {
    before = pass_seen i;
    note = r.note;
    turned = turned tells p i q r.note same begins mine owns r.left r.ruled;
    entry = r.entry;
    stays = λ kept. subst (λ (l : LockId ManagerBase). r.note.look ≡ last_look l.base.volume.began.look (notes_seen i)) same.0 (r.stays kept);
    cause = r.cause;
    fault = r.fault;
  }

  pub read_counted_ : ReclaimsNothing tells p q
  read_counted_ t = counted_turn tells p i q r.note (last_look (began i).look (notes_seen i)) t t same begins mine owns r.left r.ruled refl (r.counted t)

-- the entry of a read of a request's blocks is the request's
entry_of_read : (view : List ℕ) (r : Request) (out : List Block) (n : Noted) → r.kind ≡ kind.Read → length out ≡ r.count → (a : Result Sources ReadRefusal) → IsReadAs r.lbn out a n → IsEntryOf view r [] (read_outcome out a) n
entry_of_read view r out n reads counted (Ok s) is = record {
  kind_is = reads;
  reply = out;
  operation = is.operation;
  count = counted;
  marked = refl;
  logged = is.logged ∙ ap (λ (k : ℕ). count_by (is_covered n.look.listed) (range_with_len r.lbn k)) counted;
  all = is.all ∙ counted;
}
entry_of_read view r out n reads counted (Err refusal) is = (reads, is)

pub read_answered : {D : Type 0} (tells : Bool) (r : Request) (out : List Block) (answer : Result Sources ReadRefusal) (p q : ManagerPass D) → r.kind ≡ kind.Read → length out ≡ r.count
    → HasReadBlocks tells r.lbn out answer p q → HasAnswered tells r (read_outcome out answer) p q
read_answered tells r out answer p q reads counted h = record {
  before = h.before;
  note = h.note;
  turned = h.turned;
  entry = entry_of_read (began p).view r out h.note reads counted answer h.entry;
  stays = h.stays;
  fault = h.fault;
}
