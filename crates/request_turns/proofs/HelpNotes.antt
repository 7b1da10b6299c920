-- The entry of a helper's turn.
use Rattle.std.proofs.Common.{◌≡◌, ℕ, zero, suc, Bool, false, List, [], ◌∷◌, ◌++◌, Option, Some, Result, Ok, Err, refl, sym, ap, subst, ◌∙◌, arith}
use Rattle.std.proofs.lemmas.List.{map-append}
use Rattle.turn_lock.specs.Histories.{Entry, own, Begins}
use Rattle.turn_lock.specs.LockIds.{LockId}
use Rattle.turn_lock.specs.Passes.{pass_lock, pass_number, pass_seen, pass_mine, IsSamePass}
use Rattle.wol_disk.specs.Disk.{State}
use Rattle.wol_model.specs.History.{helper}
use Rattle.wol_promise.specs.Code.{noted_of}
use Rattle.wol_promise.specs.Policy.{Look}
use Rattle.wol_promise.specs.Report.{reclaims}
use Rattle.wol_promise.specs.Ruled.{Noted, IsKeep}
use Rattle.wol_promise.specs.Ruled as ruled
use Rattle.manager.specs.Reclaim.{OnKept, OnFailed, KeepsOn, BreaksOff, TellsStep}
use Rattle.manager.specs.Seen.{look_of_manager}
use Rattle.manager.specs.Stands.{Stands, notes_of}
use Rattle.manager.specs.declared.base.ManagerBase.{ManagerBase}
use Rattle.manager.specs.declared.manager.Manager.{Manager}
use Rattle.manager.specs.declared.part.StepFault.{StepFault}
use Rattle.manager.specs.declared.part.StepFault.TheVariants as fault
use Rattle.reclaimer.specs.Counts.{TakesOff}
use Rattle.reclaimer.specs.Fetches.{HasData}
use Rattle.reclaimer.specs.Records.{FetchedRecord}
use Rattle.reclaimer.specs.Steps.{LooksPut, LooksGone}
use Rattle.reclaimer.specs.declared.answers.Gone.{Gone}
use Rattle.reclaimer.specs.declared.answers.Gone.TheVariants as gone
use Rattle.reclaimer.proofs.Later.{data_is_kept}
use Rattle.request_turns.specs.Counts.{CountsMore, CountsEntry}
use Rattle.request_turns.specs.Entries.{note_of, step_operation, has_failed}
use Rattle.request_turns.specs.Helped.{HasHelped, AreKept}
use Rattle.request_turns.specs.Turns.{ManagerPass, coded, notes_seen, faulty_part, HasLeft}
use Rattle.request_turns.specs.declared.tally.Tally.{Tally}
use Rattle.request_turns.proofs.Counting.{entry_taken, entry_quiet, entry_same, none_more}
use Rattle.request_turns.proofs.Gaining.{gains_turn, kept_one}
use Rattle.request_turns.proofs.Noting.{notes_at}
use Rattle.request_turns.proofs.StepNotes.{step_stands, step_helps}
use Rattle.request_turns.proofs.Turning.{turned}

-- ---- The entry

module _ {D : Type 0} (old new : Manager D) (pass : ℕ) where
  pub same_keep : {T : Type 0} (a : Result T StepFault) → OnKept a (look_of_manager new ≡ look_of_manager old) → OnKept a (IsKeep [] pass (look_of_manager old) (look_of_manager new))
  same_keep (Ok x) same = ruled.same same
  same_keep (Err (fault.DiskFault p)) same = tt
  same_keep (Err (fault.Down p)) same = ruled.same same

  pub put_keep : (a : Result ℕ StepFault) → pass ≡ helper → LooksPut a old new → OnKept a (IsKeep [] pass (look_of_manager old) (look_of_manager new))
  put_keep (Ok zero) is put = ruled.same (put.0 refl)
  put_keep (Ok (suc k)) is put = ruled.helped is (put.1 (omega arith))
  put_keep (Err (fault.DiskFault p)) is put = tt
  put_keep (Err (fault.Down p)) is put = ruled.same put

  pub gone_keep : (a : Result Gone StepFault) → pass ≡ helper → LooksGone a old new → OnKept a (IsKeep [] pass (look_of_manager old) (look_of_manager new))
  gone_keep (Ok (gone.Version v)) is step = ruled.helped is step
  gone_keep (Ok (gone.Trimmed v)) is step = ruled.helped is step
  gone_keep (Ok gone.Nothing) is step = ruled.same step
  gone_keep (Err (fault.DiskFault p)) is step = tt
  gone_keep (Err (fault.Down p)) is step = ruled.same step

pub help_stands : {D T : Type 0} (tells : Bool) (state : D → State) (old new : Manager D) (b : ManagerBase) (notes : List Noted) (pass : ℕ) (answer : Result T StepFault) (failed : Bool) → failed ≡ has_failed answer
    → (Where : ManagerBase → List Noted → Type 0) → Where b notes → OnKept answer (KeepsOn tells state old new Where) → OnFailed answer (BreaksOff tells state old new Where)
    → OnKept answer (IsKeep [] pass (look_of_manager old) (look_of_manager new)) → Stands tells state old b notes → Stands tells state new b (notes ++ note_of pass (step_operation failed) (look_of_manager new) [] false ∷ [])
help_stands tells state old new b notes pass answer failed is Where w keeps breaks keep s = subst (λ (f : Bool). Stands tells state new b (notes ++ note_of pass (step_operation f) (look_of_manager new) [] false ∷ [])) (sym is)
    (step_stands tells state old new b notes pass answer Where w keeps breaks keep s.look s.keeps)

pub has_helped : {D : Type 0} (tells : Bool) (p i q : ManagerPass D) (failed : Bool) (l : Look) → IsSamePass p i → Begins (pass_seen p) (pass_seen i) → pass_mine i ≡ pass_mine p → own (pass_number i) (pass_seen i) ≡ pass_mine i
    → HasLeft tells (note_of (pass_number i) (step_operation failed) l [] false) i q → HasHelped tells p q
has_helped tells p i q failed l same begins mine owns left = record {
  more = _;
  notes = _;
  gains = gains_turn tells p q (pass_seen i) (note_of (pass_number i) (step_operation failed) l [] false) (turned tells p i q (note_of (pass_number i) (step_operation failed) l [] false) same begins mine owns left refl);
  help = (step_helps failed, tt);
}

pub down_at : {D T : Type 0} (state : D → State) (old new : Manager D) (a : Result T StepFault) (f : StepFault) → a ≡ Err f → TellsStep state a old new → new.down ≡ Some (faulty_part f)
down_at {D} {T} state old new a (fault.DiskFault p) is told = let t = subst (λ (r : Result T StepFault). TellsStep state r old new) is told in t.1
down_at {D} {T} state old new a (fault.Down p) is told = let t = subst (λ (r : Result T StepFault). TellsStep state r old new) is told in ap (λ (m : Manager D). m.down) t.1 ∙ t.0

-- ---- What was fetched

notes_begin : (xs ys : List Entry) → (b : Begins xs ys) → notes_of ys ≡ notes_of xs ++ notes_of b.0
notes_begin xs ys b = ap notes_of (sym b.1) ∙ map-append (λ (e : Entry). noted_of e.0 e.1) xs b.0

pub data_in : {D : Type 0} (tells : Bool) (f : Option FetchedRecord) (p i : ManagerPass D) → IsSamePass p i → Begins (pass_seen p) (pass_seen i) → HasData tells f (pass_lock p).base (notes_seen p) → HasData tells f (pass_lock i).base (notes_seen i)
data_in tells f p i same begins data_ = subst (λ (l : LockId ManagerBase). HasData tells f l.base (notes_seen i)) (sym same.0)
    (subst (HasData tells f (pass_lock p).base) (sym (notes_begin (pass_seen p) (pass_seen i) begins)) (data_is_kept tells f (pass_lock p).base (notes_seen p) (notes_of begins.0) data_))

pub data_left : {D : Type 0} (tells : Bool) (f : Option FetchedRecord) (i q : ManagerPass D) (n : Noted) → HasLeft tells n i q → HasData tells f (pass_lock i).base (notes_seen i) → HasData tells f (pass_lock q).base (notes_seen q)
data_left tells f i q n left data_ = subst (λ (l : LockId ManagerBase). HasData tells f l.base (notes_seen q)) (sym left.same.0)
    (subst (HasData tells f (pass_lock i).base) (sym (ap notes_of left.seen ∙ notes_at (pass_seen i) n.entry.pass n refl)) (data_is_kept tells f (pass_lock i).base (notes_seen i) (n ∷ []) data_))

-- ---- What is counted

module _ (T : Type 0) (l m : Look) (pass : ℕ) where
  -- the entry of a step that was done
  pub done_counted : (x : T) (failed : Bool) (b r : ℕ) (t u : Tally) → failed ≡ has_failed {T = T} (Ok x) → TakesOff b r l m → CountsMore b r t u → CountsEntry l (note_of pass (step_operation failed) m [] false) t u
  done_counted x failed b r t u is taken more = entry_taken b r l (note_of pass (step_operation failed) m [] false) t u (ap (λ (f : Bool). reclaims false (step_operation f)) is) taken more

  -- that of one that was refused
  pub refused_counted : (f : StepFault) (failed : Bool) (t : Tally) → failed ≡ has_failed {T = T} (Err f) → TakesOff 0 0 l m → CountsEntry l (note_of pass (step_operation failed) m [] false) t t
  refused_counted (fault.DiskFault p) failed t is taken = entry_quiet l (note_of pass (step_operation failed) m [] false) t (ap (λ (f : Bool). reclaims false (step_operation f)) is)
  refused_counted (fault.Down p) failed t is taken = entry_taken 0 0 l (note_of pass (step_operation failed) m [] false) t t (ap (λ (f : Bool). reclaims false (step_operation f)) is) taken (none_more t)

-- the entry of a step that was done is Kept
pub step_kept : {D T : Type 0} (tells : Bool) (p i q : ManagerPass D) (failed : Bool) (l : Look) (a : Result T StepFault) (x : T) → a ≡ Ok x → failed ≡ has_failed a → pass_mine i ≡ pass_mine p
    → HasLeft tells (note_of (pass_number i) (step_operation failed) l [] false) i q → AreKept p q
step_kept tells p i q failed l a x done is mine left =
    let n = note_of (pass_number i) (step_operation failed) l [] false in
    kept_one p q n (left.mine ∙ ap (λ (es : List Entry). es ++ coded n ∷ []) mine) (ap step_operation (is ∙ ap has_failed done))

-- so it is for one that left the look as it was
pub same_counted : {T : Type 0} (l m : Look) (pass : ℕ) (failed : Bool) (t : Tally) (a : Result T StepFault) → failed ≡ has_failed a → OnKept a (m ≡ l) → CountsEntry l (note_of pass (step_operation failed) m [] false) t t
same_counted l m pass failed t (Ok x) is same = entry_same l (note_of pass (step_operation failed) m [] false) t (λ _. ap (λ (k : Look). k.listed) same)
same_counted l m pass failed t (Err (fault.DiskFault p)) is same = entry_quiet l (note_of pass (step_operation failed) m [] false) t (ap (λ (f : Bool). reclaims false (step_operation f)) is)
same_counted l m pass failed t (Err (fault.Down p)) is same = entry_same l (note_of pass (step_operation failed) m [] false) t (λ _. ap (λ (k : Look). k.listed) same)
