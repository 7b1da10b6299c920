-- A reclaim turn, from entering to leaving.
use Rattle.std.proofs.Common.{◌≡◌, ℕ, Bool, true, false, List, [], ◌∷◌, ◌++◌, length, Option, None, Some, Result, Ok, Err, refl, sym, ap, subst, ◌∙◌, arith}
use Rattle.std.specs.Prelude.{IsTrue, OnOk, IfErr}
use Rattle.std.specs.List.{AllByRecursion}
use Rattle.std.specs.Option.{option_map}
use Rattle.turn_lock.specs.Histories.{own, Begins}
use Rattle.turn_lock.specs.Passes.{pass_number, pass_seen, pass_mine, IsSamePass}
use Rattle.wol_disk.specs.Disk.{State}
use Rattle.wol_model.specs.History.{Kept, worker}
use Rattle.wol_model.specs.Index.{Listed, listed_in, has_due, has_going}
use Rattle.wol_promise.specs.Policy.{Look, IsIdleLook, is_within_reach}
use Rattle.wol_promise.specs.Policy as policy
use Rattle.wol_promise.specs.Report.{reclaims}
use Rattle.wol_promise.specs.Ruled.{Noted, IsKeep, last_look}
use Rattle.wol_promise.specs.Ruled as ruled
use Rattle.manager.specs.Reclaim.{OnKept, OnFailed, KeepsOn, BreaksOff, Always}
use Rattle.manager.specs.Seen.{look_of_manager}
use Rattle.manager.specs.Stands.{Stands}
use Rattle.manager.specs.declared.base.ManagerBase.{ManagerBase}
use Rattle.manager.specs.declared.manager.Manager.{Manager}
use Rattle.manager.specs.declared.part.Part.{Part}
use Rattle.manager.specs.declared.part.StepFault.{StepFault}
use Rattle.manager.specs.declared.part.StepFault.TheVariants as fault
use Rattle.request_turns.specs.Closed.{GoesOn, HasClosed}
use Rattle.request_turns.specs.Counts.{Counts, CountsMore, CountsEntry, HasTaken}
use Rattle.request_turns.specs.Entries.{note_of, step_operation, has_failed, refusal_in}
use Rattle.request_turns.specs.Turns.{ManagerPass, notes_seen, WasDown, faulty_part, HasLeft}
use Rattle.request_turns.specs.declared.tally.Tally.{Tally}
use Rattle.request_turns.proofs.Counting.{entry_taken, entry_quiet, all_taken, more_of}
use Rattle.request_turns.proofs.StepNotes.{step_stands, step_helps}
use Rattle.request_turns.proofs.Turning.{turned}

-- a manager without records leaves an idle look
no_entries : {X : Type 0} (xs : List X) → length xs ≡ 0 → xs ≡ []
no_entries [] is = refl
no_entries (x ∷ xs) is = absurd (omega (arith, is))

pub bare_is_idle : {D : Type 0} (m : Manager D) → length m.index.entries ≡ 0 → IsIdleLook (look_of_manager m)
bare_is_idle m none = let l = look_of_manager m in
    subst (λ (es : List Listed). AllByRecursion (λ (e : Listed). IsTrue (is_within_reach l e) → (has_going l.listed e ≡ false) × (IsTrue l.home_up → has_due l.listed e ≡ false)) es)
    (sym (ap listed_in (no_entries m.index.entries none))) tt

kept_counted : (l m : Look) (pass : ℕ) (failed : Bool) (none done t u : Tally) → failed ≡ false → Counts 0 0 none → HasTaken none done l m → CountsMore done.blocks done.records t u
    → CountsEntry l (note_of pass (step_operation failed) m [] false) t u
kept_counted l m pass failed none done t u is zero h add = let all = all_taken none done l m zero h in
    entry_taken all.blocks all.records l (note_of pass (step_operation failed) m [] false) t u (ap (λ (f : Bool). reclaims false (step_operation f)) is) all.taken (more_of all.blocks all.records done t u all.counts add)

module _ {D T : Type 0} (tells : Bool) (state : D → State) (old new : Manager D) (answer : Result T StepFault) where
  keeps_look : (a : Result T StepFault) (pass : ℕ) → pass ≡ worker → OnKept a (GoesOn (look_of_manager old) (look_of_manager new)) → OnKept a (IsKeep [] pass (look_of_manager old) (look_of_manager new))
  keeps_look (Ok x) pass client goes = ruled.reclaimed client (goes (look_of_manager old) (policy.none (look_of_manager old)))
  keeps_look (Err (fault.DiskFault p)) pass client goes = tt
  keeps_look (Err (fault.Down p)) pass client goes = ruled.reclaimed client (goes (look_of_manager old) (policy.none (look_of_manager old)))

  -- what the manager stands for after it
  pub closed_stands : (b : ManagerBase) (notes : List Noted) (pass : ℕ) (failed : Bool) → failed ≡ has_failed answer → pass ≡ worker → OnKept answer (KeepsOn tells state old new Always) → OnFailed answer (BreaksOff tells state old new Always)
      → OnKept answer (GoesOn (look_of_manager old) (look_of_manager new)) → Stands tells state old b notes → Stands tells state new b (notes ++ note_of pass (step_operation failed) (look_of_manager new) [] false ∷ [])
  closed_stands b notes pass failed is client keeps breaks goes s = subst (λ (f : Bool). Stands tells state new b (notes ++ note_of pass (step_operation f) (look_of_manager new) [] false ∷ [])) (sym is)
      (step_stands tells state old new b notes pass answer Always tt keeps breaks (keeps_look answer pass client goes) s.look s.keeps)

  idle_after : (a : Result T StepFault) → OnOk a (IsIdleLook (look_of_manager new)) → refusal_in a ≡ None → IsIdleLook (look_of_manager new)
  idle_after (Ok x) idle is = idle
  idle_after (Err f) idle is = absurd (let no : Some f ≡ None = is in cc)

  cause_after : (a : Result T StepFault) → IfErr a (λ f. new.down ≡ Some (faulty_part f)) → (f : StepFault) → refusal_in a ≡ Some f → new.down ≡ Some (faulty_part f)
  cause_after (Ok x) down f is = absurd (let no : None ≡ Some f = is in cc)
  cause_after (Err e) down f is = down ∙ ap (option_map faulty_part) is

  kept_after : (a : Result T StepFault) (failed : Bool) → failed ≡ has_failed a → refusal_in a ≡ None → step_operation failed ≡ Kept
  kept_after (Ok x) failed is none = ap step_operation is
  kept_after (Err f) failed is none = absurd (let no : Some f ≡ None = none in cc)

  pub has_closed : (p i q : ManagerPass D) (failed : Bool) (refusal : Option StepFault) → failed ≡ has_failed answer → refusal ≡ refusal_in answer → OnOk answer (IsIdleLook (look_of_manager new)) → IfErr answer (λ f. new.down ≡ Some (faulty_part f))
      → IsSamePass p i → Begins (pass_seen p) (pass_seen i) → pass_mine i ≡ pass_mine p → own (pass_number i) (pass_seen i) ≡ pass_mine i
      → HasLeft tells (note_of (pass_number i) (step_operation failed) (look_of_manager new) [] false) i q → ((d : Part) → new.down ≡ Some d → WasDown d (notes_seen q)) → HasClosed tells refusal p q
  has_closed p i q failed refusal told is idle down same begins mine owns left broken = record {
    before = pass_seen i;
    note = note_of (pass_number i) (step_operation failed) (look_of_manager new) [] false;
    turned = turned tells p i q (note_of (pass_number i) (step_operation failed) (look_of_manager new) [] false) same begins mine owns left refl;
    help = step_helps failed;
    idle = λ none. idle_after answer idle (sym is ∙ none);
    kept = λ none. kept_after answer failed told (sym is ∙ none);
    cause = λ f some. broken (faulty_part f) (cause_after answer down f (sym is ∙ some));
  }

  pub closed_counted : (a : Result T StepFault) (l : Look) (pass : ℕ) (failed : Bool) (none done t u : Tally) → failed ≡ has_failed a → Counts 0 0 none → OnKept a (HasTaken none done l (look_of_manager new))
      → (failed ≡ false → CountsMore done.blocks done.records t u) → (failed ≡ true → u ≡ t) → CountsEntry l (note_of pass (step_operation failed) (look_of_manager new) [] false) t u
  closed_counted (Ok x) l pass failed none done t u is zero h add stays = kept_counted l (look_of_manager new) pass failed none done t u is zero h (add is)
  closed_counted (Err (fault.DiskFault p)) l pass failed none done t u is zero h add stays =
      subst (λ (v : Tally). CountsEntry l (note_of pass (step_operation failed) (look_of_manager new) [] false) t v) (sym (stays is))
      (entry_quiet l (note_of pass (step_operation failed) (look_of_manager new) [] false) t (ap (λ (f : Bool). reclaims false (step_operation f)) is))
  closed_counted (Err (fault.Down p)) l pass failed none done t u is zero h add stays = kept_counted l (look_of_manager new) pass failed none done t u is zero h (add is)
