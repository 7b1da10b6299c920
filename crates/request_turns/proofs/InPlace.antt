-- A turn in which the manager stays in its place.
use Rattle.std.proofs.Common.{◌≡◌, ℕ, Bool, List, [], ◌∷◌, ◌++◌, false, Option, Some, refl, sym, ap, subst, ◌∙◌}
use Rattle.turn_lock.specs.Histories.{Entry, own, Begins}
use Rattle.turn_lock.specs.LockIds.{LockId}
use Rattle.turn_lock.specs.Passes.{pass_lock, pass_number, pass_seen, pass_mine, first_held, IsFree, IsInTurnWith, IsSamePass}
use Rattle.turn_lock.specs.declared.pass.PassOf.{PassOf}
use Rattle.wol_disk.specs.Disk.{State, Block}
use Rattle.wol_model.specs.History.{Operation}
use Rattle.wol_promise.specs.Code.{code_of}
use Rattle.wol_promise.specs.Ruled.{Noted, last_look}
use Rattle.manager.specs.Seen.{look_of_manager}
use Rattle.manager.specs.Stands.{Keeps, Stands, StandsCoded, notes_of, passed_in}
use Rattle.manager.specs.declared.base.ManagerBase.{ManagerBase}
use Rattle.manager.specs.declared.manager.Manager.{Manager}
use Rattle.manager.specs.declared.part.Part.{Part}
use Rattle.manager.specs.Answers.{home_write}
use Rattle.request_turns.specs.Causes.{IsCauseOfWrite, LackedMemory}
use Rattle.request_turns.specs.Counts.{CountsEntry}
use Rattle.request_turns.specs.Entries.{note_of, full_note, IsWrittenAs}
use Rattle.request_turns.specs.Stepped.{step_note, StandsSteppedInPlace}
use Rattle.request_turns.specs.Turns.{ManagerPass, coded, look_in_place, look_or_nothing, passed_in_place, passed_or_none, next_in_place, next_or_none, notes_seen, WasDown, HasLeft, Stays}
use Rattle.request_turns.specs.Written.{HasWritten}
use Rattle.request_turns.specs.declared.outcome.Outcome.{Outcome}
use Rattle.request_turns.specs.declared.tally.Tally.{Tally}
use Rattle.request_turns.proofs.Noting.{stands_coded, has_left, part_down}

-- one value is in its place
pub same_value : {T B : Type 0} (y z : T) (p : PassOf T B) → IsInTurnWith y p → IsInTurnWith z p → y ≡ z
same_value {T} y z p a b = let e : Some y ≡ Some z = ap (λ (l : List (ℕ × Option T)). first_held l) (sym a.1 ∙ b.1) in cc

-- what was said of two managers is said of those that they are
pub between : {M : Type 0} (R : M → M → Type 0) (a b x z : M) → a ≡ x → b ≡ z → R a b → R x z
between {M} R a b x z e f h = subst (λ (m : M). R m z) e (subst (R a) f h)

-- what a pass knows of the manager in its place
module _ {D : Type 0} (m : Manager D) (p : ManagerPass D) (at : IsInTurnWith m p) where
  pub look_at : look_in_place p ≡ look_of_manager m
  look_at = ap (λ (l : List (ℕ × Option (Manager D))). look_or_nothing (first_held l)) at.1

  pub passed_at : passed_in_place p ≡ passed_in m.rooms.items
  passed_at = ap (λ (l : List (ℕ × Option (Manager D))). passed_or_none (first_held l)) at.1

  pub next_at : next_in_place p ≡ m.next
  next_at = ap (λ (l : List (ℕ × Option (Manager D))). next_or_none (first_held l)) at.1

-- a pass i that is what p was when its turn came
pub record HasEntered {D : Type 0} (p i : ManagerPass D) : Type 0 where
  pub same : IsSamePass p i
  pub begins : Begins (pass_seen p) (pass_seen i)
  pub mine : pass_mine i ≡ pass_mine p
  pub owns : own (pass_number i) (pass_seen i) ≡ pass_mine i

-- a change of the value in its place leaves the pass as it is
module _ {D : Type 0} (i j : ManagerPass D) (same : IsSamePass i j) (seen : pass_seen j ≡ pass_seen i) where
  pub entered_still : (p : ManagerPass D) → IsSamePass p i → Begins (pass_seen p) (pass_seen i) → pass_mine i ≡ pass_mine p → own (pass_number i) (pass_seen i) ≡ pass_mine i
      → pass_mine j ≡ pass_mine i → HasEntered p j
  entered_still p was begins mine owns kept = record {
    same = (same.0 ∙ was.0, same.1 ∙ was.1);
    begins = subst (Begins (pass_seen p)) (sym seen) begins;
    mine = kept ∙ mine;
    owns = ap (λ (k : ℕ). own k (pass_seen j)) same.1 ∙ ap (own (pass_number i)) seen ∙ owns ∙ sym kept;
  }

  pub stands_still : (tells : Bool) (state : D → State) (m : Manager D) → Stands tells state m (pass_lock i).base (notes_seen i) → Stands tells state m (pass_lock j).base (notes_seen j)
  stands_still tells state m s = subst (λ (l : LockId ManagerBase). Stands tells state m l.base (notes_seen j)) (sym same.0)
      (subst (λ (es : List Entry). Stands tells state m (pass_lock i).base (notes_of es)) (sym seen) s)

module _ {D : Type 0} (p : ManagerPass D) (failed : Bool) where
  -- the note of its steps is the one that a pass knows
  note_is : (m : Manager D) → IsInTurnWith m p → step_note (pass_number p) failed (look_of_manager m) ≡ step_note (pass_number p) failed (look_in_place p)
  note_is m at = sym (ap (λ (l : List (ℕ × Option (Manager D))). step_note (pass_number p) failed (look_or_nothing (first_held l))) at.1)

  module _ (tells : Bool) (state : D → State) (n : Noted) (is : n ≡ step_note (pass_number p) failed (look_in_place p)) (v : StandsSteppedInPlace tells state failed p) where
    number : n.entry.pass ≡ pass_number p
    number = ap (λ (k : Noted). k.entry.pass) is

    noted : Stands tells state v.0 (pass_lock p).base (notes_seen p ++ n ∷ [])
    noted = subst (λ (k : Noted). Stands tells state v.0 (pass_lock p).base (notes_seen p ++ k ∷ [])) (note_is v.0 v.1 ∙ sym is) v.2

    pub coded_in_place : (m : Manager D) × IsInTurnWith m p × StandsCoded tells state m (pass_lock p).base (pass_seen p ++ (pass_number p, code_of n) ∷ [])
    coded_in_place = (v.0, v.1, stands_coded tells state v.0 (pass_lock p).base (pass_seen p) (pass_number p) n number noted)

    module _ (q : ManagerPass D) (seen : pass_seen q ≡ pass_seen p ++ (pass_number p, code_of n) ∷ []) where
      pub left_in_place : IsSamePass p q → IsFree q → pass_mine q ≡ pass_mine p ++ (pass_number p, code_of n) ∷ [] → (m : Manager D) → IsInTurnWith m p
          → HasLeft tells (step_note (pass_number p) failed (look_of_manager m)) p q
      left_in_place same free mine m at = subst (λ (k : Noted). HasLeft tells k p q) (is ∙ sym (note_is m at)) (has_left tells state v.0 p q n number noted seen same free mine)

      pub down_in_place : (m : Manager D) (d : Part) → IsInTurnWith m p → m.down ≡ Some d → WasDown d (notes_seen q)
      down_in_place m d at down = part_down tells state v.0 p q n number noted seen d (subst (λ (z : Manager D). z.down ≡ Some d) (same_value m v.0 p at v.1) down)

-- ---- A turn of several changes: the pass i is the pass p behind one of them

module _ {D : Type 0} (p i : ManagerPass D) (same : IsSamePass p i) (seen : pass_seen i ≡ pass_seen p) where
  -- what holds of the lock and of the entries that were seen still does
  pub at_still : (P : LockId ManagerBase → List Entry → Type 0) → P (pass_lock p) (pass_seen p) → P (pass_lock i) (pass_seen i)
  at_still P h = subst (λ (l : LockId ManagerBase). P l (pass_seen i)) (sym same.0) (subst (P (pass_lock p)) (sym seen) h)

  at_first : (P : LockId ManagerBase → List Entry → Type 0) → P (pass_lock i) (pass_seen i) → P (pass_lock p) (pass_seen p)
  at_first P h = subst (λ (l : LockId ManagerBase). P l (pass_seen p)) same.0 (subst (P (pass_lock i)) seen h)

  -- .. so does what a manager stands for, with an entry that is the same
  module _ (tells : Bool) (state : D → State) (m : Manager D) (n k : Noted) (is : n ≡ k) where
    pub stands_at : Stands tells state m (pass_lock p).base (notes_seen p ++ k ∷ []) → Stands tells state m (pass_lock i).base (notes_seen i ++ n ∷ [])
    stands_at s = at_still (λ l es. Stands tells state m l.base (notes_of es ++ n ∷ [])) (subst (λ (j : Noted). Stands tells state m (pass_lock p).base (notes_seen p ++ j ∷ [])) (sym is) s)

    pub keeps_at : Keeps tells state m (pass_lock p).base (notes_seen p ++ k ∷ []) → Keeps tells state m (pass_lock i).base (notes_seen i ++ n ∷ [])
    keeps_at s = at_still (λ l es. Keeps tells state m l.base (notes_of es ++ n ∷ [])) (subst (λ (j : Noted). Keeps tells state m (pass_lock p).base (notes_seen p ++ j ∷ [])) (sym is) s)

  -- the notes that it knows
  module _ (m : Manager D) (at : IsInTurnWith m i) where
    pub note_at : (o : Operation) (passed : List ℕ) (drained : Bool) → note_of (pass_number i) o (look_in_place i) passed drained ≡ note_of (pass_number p) o (look_of_manager m) passed drained
    note_at o passed drained = λ t. note_of (same.1 t) o (look_at m i at t) passed drained

    pub own_note_at : (o : Operation) → note_of (pass_number i) o (look_in_place i) (passed_in_place i) false ≡ note_of (pass_number p) o (look_of_manager m) (passed_in m.rooms.items) false
    own_note_at o = λ t. note_of (same.1 t) o (look_at m i at t) (passed_at m i at t) false

    pub full_note_at : full_note (pass_number i) (look_in_place i) (passed_in_place i) ≡ full_note (pass_number p) (look_of_manager m) (passed_in m.rooms.items)
    full_note_at = λ t. full_note (same.1 t) (look_at m i at t) (passed_at m i at t)

  -- what leaves i leaves p
  module _ (mine : pass_mine i ≡ pass_mine p) (tells : Bool) (q : ManagerPass D) where
    pub left_from : (n k : Noted) → n ≡ k → HasLeft tells n i q → HasLeft tells k p q
    left_from n k is left = subst (λ (j : Noted). HasLeft tells j p q) is (record {
      same = (left.same.0 ∙ same.0, left.same.1 ∙ same.1);
      free = left.free;
      number = left.number ∙ same.1;
      seen = left.seen ∙ ap (λ (es : List Entry). es ++ coded n ∷ []) seen;
      mine = left.mine ∙ ap (λ (es : List Entry). es ++ coded n ∷ []) mine;
      history = left.history;
    })

    pub written_from : (first : ℕ) (blocks : List Block) (o : Outcome) (t u : Tally) → HasWritten tells first blocks o t u i q → HasWritten tells first blocks o t u p q
    written_from first blocks o t u w = record {
      note = w.note;
      left = left_from w.note w.note refl w.left;
      ruled = w.ruled;
      entry = at_first (λ l es. IsWrittenAs l.base.volume.began.view (home_write first blocks) [] o w.note) w.entry;
      stays = λ kept. at_first (λ l es. Stays (LackedMemory (home_write first blocks) o) (last_look l.base.volume.began.look (notes_of es)) w.note) (w.stays kept);
      cause = at_first (λ l es. IsCauseOfWrite (notes_of es) (last_look l.base.volume.began.look (notes_of es)) o) w.cause;
      fault = w.fault;
      counted = at_first (λ l es. CountsEntry (last_look l.base.volume.began.look (notes_of es)) w.note t u) w.counted;
    }
