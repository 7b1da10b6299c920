-- A turn's entry, coded and read back.
use Rattle.std.proofs.Common.{◌≡◌, ℕ, Bool, List, [], ◌∷◌, ◌++◌, true, false, Option, None, Some, refl, sym, ap, subst, ◌∙◌}
use Rattle.std.specs.Prelude.{IsTrue, IsSome, is_some}
use Rattle.std.proofs.lemmas.List.{map-append}
use Rattle.turn_lock.specs.Histories.{Entry}
use Rattle.turn_lock.specs.LockIds.{LockId}
use Rattle.turn_lock.specs.Passes.{pass_lock, pass_number, pass_seen, pass_mine, IsFree, IsSamePass}
use Rattle.wol_disk.specs.Disk.{State}
use Rattle.wol_promise.specs.Code.{code_of, noted_of}
use Rattle.wol_promise.specs.Policy.{Look}
use Rattle.wol_promise.specs.Ruled.{Noted}
use Rattle.wol_promise.specs.Stands.{HasHistory}
use Rattle.wol_promise.proofs.OneMore.{last_more}
use Rattle.wol_promise.proofs.ReadCode.{noted_is_back}
use Rattle.manager.specs.Seen.{down_of}
use Rattle.manager.specs.Stands.{Keeps, Stands, StandsCoded, notes_of}
use Rattle.manager.specs.declared.base.ManagerBase.{ManagerBase}
use Rattle.manager.specs.declared.manager.Manager.{Manager}
use Rattle.manager.specs.declared.part.Part.{Part}
use Rattle.request_turns.specs.Turns.{ManagerPass, began, notes_seen, IsBroken, WasDown, HasLeft}

-- the entries with one more, as notes
pub notes_at : (es : List Entry) (k : ℕ) (n : Noted) → n.entry.pass ≡ k → notes_of (es ++ (k, code_of n) ∷ []) ≡ notes_of es ++ n ∷ []
notes_at es k n is = map-append (λ (e : Entry). noted_of e.0 e.1) es ((k, code_of n) ∷ [])
    ∙ ap (λ (m : Noted). notes_of es ++ m ∷ []) (ap (λ (j : ℕ). noted_of j (code_of n)) (sym is) ∙ noted_is_back n)

pub stands_coded : {D : Type 0} (tells : Bool) (state : D → State) (m : Manager D) (b : ManagerBase) (es : List Entry) (k : ℕ) (n : Noted) → n.entry.pass ≡ k
    → Stands tells state m b (notes_of es ++ n ∷ []) → StandsCoded tells state m b (es ++ (k, code_of n) ∷ [])
stands_coded tells state m b es k n is s = subst (Stands tells state m b) (sym (notes_at es k n is)) s

is_told : (o : Option Part) → is_some (down_of o) ≡ is_some o
is_told None = refl
is_told (Some p) = refl

-- a manager is down exactly where a disk call failed among the entries that it stands for
module _ {D : Type 0} (tells : Bool) (state : D → State) (m : Manager D) (b : ManagerBase) (notes : List Noted) (k : Keeps tells state m b notes) where
  pub was_broken : IsSome m.down → IsBroken notes
  was_broken down = sym k.upholds.is_down ∙ is_told m.down ∙ down

  pub was_down : IsBroken notes → IsSome m.down
  was_down broken = sym (is_told m.down) ∙ k.upholds.is_down ∙ broken

  pub was_unbroken : m.down ≡ None → IsBroken notes → ⊥
  was_unbroken up broken =
      let down : is_some m.down ≡ true = was_down broken in
      let none : is_some m.down ≡ false = ap is_some up in
      absurd (cc (down, none))

module _ {D : Type 0} (tells : Bool) (state : D → State) (m : Manager D) (p q : ManagerPass D) (n : Noted) (is : n.entry.pass ≡ pass_number p)
    (s : Stands tells state m (pass_lock p).base (notes_seen p ++ n ∷ [])) (seen : pass_seen q ≡ pass_seen p ++ (pass_number p, code_of n) ∷ []) where
  now_seen : notes_seen q ≡ notes_seen p ++ n ∷ []
  now_seen = ap notes_of seen ∙ notes_at (pass_seen p) (pass_number p) n is

  pub has_left : IsSamePass p q → IsFree q → pass_mine q ≡ pass_mine p ++ (pass_number p, code_of n) ∷ [] → HasLeft tells n p q
  has_left same free mine = record {
    same = same;
    free = free;
    number = is;
    seen = seen ∙ ap (λ (j : ℕ). pass_seen p ++ (j, code_of n) ∷ []) (sym is);
    mine = mine ∙ ap (λ (j : ℕ). pass_mine p ++ (j, code_of n) ∷ []) (sym is);
    history = subst (λ (l : LockId ManagerBase). HasHistory (IsTrue tells) l.base.volume.began (notes_seen q)) (sym same.0)
        (subst (HasHistory (IsTrue tells) (began p)) (sym now_seen) s.keeps.upholds.history);
  }

  -- behind the entry the part is down that the manager keeps
  pub part_down : (d : Part) → m.down ≡ Some d → WasDown d (notes_seen q)
  part_down d down = record {
    front = notes_seen p;
    note = n;
    later = [];
    notes_are = now_seen;
    broken = was_broken tells state m (pass_lock p).base (notes_seen p ++ n ∷ []) s.keeps (ap is_some down);
    down = ap (λ (l : Look). l.down) (sym (last_more (began p).look (notes_seen p) n) ∙ s.look) ∙ ap down_of down;
  }

  pub is_unbroken : m.down ≡ None → IsBroken (notes_seen q) → ⊥
  is_unbroken up broken = was_unbroken tells state m (pass_lock p).base (notes_seen p ++ n ∷ []) s.keeps up (subst IsBroken now_seen broken)
