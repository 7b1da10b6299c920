-- The turn of a drain, from entering to leaving.
use Rattle.std.proofs.Common.{◌≡◌, ℕ, Bool, true, false, List, [], ◌∷◌, ◌++◌, Some, Result, Ok, Err, refl, sym, ap, subst, ◌∙◌}
use Rattle.std.specs.Prelude.{IfOk, IfErr, OnOk}
use Rattle.wol_disk.specs.Disk.{State}
use Rattle.turn_lock.specs.Histories.{Entry, own, Begins}
use Rattle.turn_lock.specs.LockIds.{LockId}
use Rattle.turn_lock.specs.Passes.{pass_lock, pass_number, pass_seen, pass_mine, IsSamePass}
use Rattle.wol_model.specs.History.{Operation, Kept, Broke}
use Rattle.wol_promise.specs.Policy.{Look, drained}
use Rattle.wol_promise.specs.Ruled.{Noted, last_look}
use Rattle.manager.specs.Reclaim.{OnKept, OnFailed, KeepsOn, BreaksOff, Always}
use Rattle.manager.specs.Seen.{look_of_manager}
use Rattle.manager.specs.Stands.{Keeps, Stands, IsNote, nones_at}
use Rattle.manager.specs.declared.base.ManagerBase.{ManagerBase}
use Rattle.manager.specs.declared.manager.Manager.{Manager}
use Rattle.manager.specs.declared.part.Part.{Part}
use Rattle.manager.specs.declared.part.StepFault.{StepFault}
use Rattle.manager.specs.declared.part.StepFault.TheVariants.{DiskFault, Down}
use Rattle.manager.proofs.Frames.{stands_kept, none_passed}
use Rattle.request_turns.specs.Counts.{Counts, HasTaken}
use Rattle.request_turns.specs.Turns.{ManagerPass, coded, notes_seen, HasLeft, WasDown, faulty_part}
use Rattle.request_turns.specs.declared.tally.Tally.{Tally}
use Rattle.request_turns.proofs.Counting.{all_taken}
use Rattle.view_change.specs.Drained.{Drains, HasDrainedAll, TakesAll, drain_note, drain_operation}

-- the entry of a drain is a note of its operation
is_note : (l : Look) (operation : Operation) (look : Look) (pass : ℕ) → IsNote l operation [] look (drain_note pass operation look)
is_note l operation look pass = record { operation_is = refl; look_is = refl; passed_is = refl; drain = refl; follows = λ no. absurd (let f : false ≡ true = no in cc) }

module _ {D : Type 0} (tells : Bool) (state : D → State) (old new : Manager D) where
  kept : (b : ManagerBase) (notes : List Noted) (pass : ℕ) → KeepsOn tells state old new Always → Keeps tells state old b notes → Stands tells state new b (notes ++ drain_note pass Kept (look_of_manager new) ∷ [])
  kept b notes pass keeps k = stands_kept tells state new b notes (drain_note pass Kept (look_of_manager new)) [] (is_note (last_look b.volume.began.look notes) Kept (look_of_manager new) pass)
      (none_passed (nones_at new.lanes.items b.lanes) notes (drain_note pass Kept (look_of_manager new)) refl (keeps b notes tt k).passed) (keeps b notes tt k)

  -- what the manager stands for behind it
  pub drain_stands : (b : ManagerBase) (notes : List Noted) (pass : ℕ) (answer : Result (Unit {0}) StepFault) → OnKept answer (KeepsOn tells state old new Always) → OnFailed answer (BreaksOff tells state old new Always) → Keeps tells state old b notes
      → Stands tells state new b (notes ++ drain_note pass (drain_operation answer) (look_of_manager new) ∷ [])
  drain_stands b notes pass (Ok done) keeps breaks k = kept b notes pass keeps k
  drain_stands b notes pass (Err (DiskFault p)) keeps breaks k = breaks b notes (drain_note pass (Broke []) (look_of_manager new)) tt (is_note (last_look b.volume.began.look notes) (Broke []) (look_of_manager new) pass) k
  drain_stands b notes pass (Err (Down p)) keeps breaks k = kept b notes pass keeps k

  -- the turn, where it was drained, and where a step was refused
  turned : (p i q : ManagerPass D) (answer : Result (ℕ × ℕ) StepFault) → IsSamePass p i → Begins (pass_seen p) (pass_seen i) → pass_mine i ≡ pass_mine p → own (pass_number i) (pass_seen i) ≡ pass_mine i
      → Stands tells state old (pass_lock i).base (notes_seen i) → Stands tells state new (pass_lock i).base (notes_seen i ++ drain_note (pass_number i) (drain_operation answer) (look_of_manager new) ∷ [])
      → Drains tells state (pass_lock i).base (notes_seen i) old new answer → HasLeft tells (drain_note (pass_number i) (drain_operation answer) (look_of_manager new)) i q
      → OnOk answer ((new.index.entries ≡ []) × (look_of_manager new ≡ drained (look_of_manager old))) → IfOk answer (TakesAll (look_of_manager old) (look_of_manager new)) → IfErr answer (λ f. WasDown (faulty_part f) (notes_seen q))
      → HasDrainedAll tells state p q answer
  turned p i q answer same begins mine owns stood stands drains left bare counts cause = record {
    same = (left.same.0 ∙ same.0, left.same.1 ∙ same.1);
    free = left.free;
    before = pass_seen i;
    begins = begins;
    others = ap (λ (k : ℕ). own k (pass_seen i)) (sym same.1) ∙ owns ∙ mine;
    note = drain_note (pass_number i) (drain_operation answer) (look_of_manager new);
    is_note = ap (λ (k : ℕ). drain_note k (drain_operation answer) (look_of_manager new)) same.1;
    seen = left.seen;
    mine = left.mine ∙ ap (λ (es : List Entry). es ++ coded (drain_note (pass_number i) (drain_operation answer) (look_of_manager new)) ∷ []) mine;
    from = old;
    to = new;
    stood = subst (λ (l : LockId ManagerBase). Stands tells state old l.base (notes_seen i)) same.0 stood;
    drains = subst (λ (l : LockId ManagerBase). Drains tells state l.base (notes_seen i) old new answer) same.0 drains;
    stands = subst (λ (l : LockId ManagerBase). Stands tells state new l.base (notes_seen i ++ drain_note (pass_number i) (drain_operation answer) (look_of_manager new) ∷ [])) same.0 stands;
    bare = bare;
    counts = counts;
    cause = cause;
  }

-- what a drain answers instead of nothing
drains_counted : {D T U : Type 0} (tells : Bool) (state : D → State) (b : ManagerBase) (notes : List Noted) (old new : Manager D) (x : T) (y : U) → Drains {T = T} tells state b notes old new (Ok x) → Drains {T = U} tells state b notes old new (Ok y)
drains_counted tells state b notes old new x y d = record { mid = d.mid; moves = d.moves; last = d.last }

drains_refused : {D T U : Type 0} (tells : Bool) (state : D → State) (b : ManagerBase) (notes : List Noted) (old new : Manager D) (f : StepFault) → Drains {T = T} tells state b notes old new (Err f) → Drains {T = U} tells state b notes old new (Err f)
drains_refused tells state b notes old new f d = record { mid = d.mid; moves = d.moves; last = d.last }

module _ {D : Type 0} (tells : Bool) (state : D → State) (old new : Manager D) (p i q : ManagerPass D) (same : IsSamePass p i) (begins : Begins (pass_seen p) (pass_seen i)) (mine : pass_mine i ≡ pass_mine p) (owns : own (pass_number i) (pass_seen i) ≡ pass_mine i)
    (stood : Stands tells state old (pass_lock i).base (notes_seen i)) where
  -- it was drained
  pub turn_done : (answer : Result (Unit {0}) StepFault) (x : Unit {0}) (none done : Tally) → answer ≡ Ok x → Stands tells state new (pass_lock i).base (notes_seen i ++ drain_note (pass_number i) (drain_operation answer) (look_of_manager new) ∷ [])
      → ((b : ManagerBase) (notes : List Noted) → Keeps tells state old b notes → Drains tells state b notes old new answer) → HasLeft tells (drain_note (pass_number i) (drain_operation answer) (look_of_manager new)) i q
      → OnOk answer ((new.index.entries ≡ []) × (look_of_manager new ≡ drained (look_of_manager old))) → Counts 0 0 none → OnOk answer (HasTaken none done (look_of_manager old) (look_of_manager new))
      → HasDrainedAll tells state p q (Ok (done.blocks, done.records))
  turn_done (Ok y) x none done is stands drains left bare zero taken =
      turned tells state old new p i q (Ok (done.blocks, done.records)) same begins mine owns stood stands
      (drains_counted tells state (pass_lock i).base (notes_seen i) old new y (done.blocks, done.records) (drains (pass_lock i).base (notes_seen i) stood.keeps)) left bare
      (all_taken none done (look_of_manager old) (look_of_manager new) zero taken) tt
  turn_done (Err f) x none done is stands drains left bare zero taken = absurd (let no : Err f ≡ Ok x = is in cc)

  -- a step was refused
  refused_turn : (f : StepFault) → Stands tells state new (pass_lock i).base (notes_seen i ++ drain_note (pass_number i) (drain_operation {T = Unit {0}} (Err f)) (look_of_manager new) ∷ [])
      → Drains {T = Unit {0}} tells state (pass_lock i).base (notes_seen i) old new (Err f) → HasLeft tells (drain_note (pass_number i) (drain_operation {T = Unit {0}} (Err f)) (look_of_manager new)) i q → WasDown (faulty_part f) (notes_seen q)
      → HasDrainedAll tells state p q (Err f)
  refused_turn (DiskFault d) stands drains left broken =
      turned tells state old new p i q (Err (DiskFault d)) same begins mine owns stood stands (drains_refused tells state (pass_lock i).base (notes_seen i) old new (DiskFault d) drains) left tt tt broken
  refused_turn (Down d) stands drains left broken =
      turned tells state old new p i q (Err (Down d)) same begins mine owns stood stands (drains_refused tells state (pass_lock i).base (notes_seen i) old new (Down d) drains) left tt tt broken

  pub turn_refused : (answer : Result (Unit {0}) StepFault) (f : StepFault) → answer ≡ Err f → Stands tells state new (pass_lock i).base (notes_seen i ++ drain_note (pass_number i) (drain_operation answer) (look_of_manager new) ∷ [])
      → ((b : ManagerBase) (notes : List Noted) → Keeps tells state old b notes → Drains tells state b notes old new answer) → HasLeft tells (drain_note (pass_number i) (drain_operation answer) (look_of_manager new)) i q
      → IfErr answer (λ e. new.down ≡ Some (faulty_part e)) → ((d : Part) → new.down ≡ Some d → WasDown d (notes_seen q)) → HasDrainedAll tells state p q (Err f)
  turn_refused (Ok y) f is stands drains left down broken = absurd (let no : Ok y ≡ Err f = is in cc)
  turn_refused (Err e) f is stands drains left down broken =
      let same_fault : e ≡ f = cc in
      subst (λ (g : StepFault). HasDrainedAll tells state p q (Err g)) same_fault (refused_turn e stands (drains (pass_lock i).base (notes_seen i) stood.keeps) left (broken (faulty_part e) down))
