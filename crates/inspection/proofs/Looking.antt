-- One turn in which a volume is looked at.
use Rattle.std.proofs.Common.{◌≡◌, ℕ, Bool, false, List, [], ◌∷◌, ◌++◌, Some, Result, Ok, Err, refl, sym, ap, subst, ◌∙◌, arith, rules}
use Rattle.std.specs.Prelude.{IsTrue, OnOk}
use Rattle.std.specs.List.{AllByRecursion}
use Rattle.wol_disk.specs.Disk.{State}
use Rattle.turn_lock.specs.Histories.{Entry, own, Begins}
use Rattle.turn_lock.specs.LockIds.{LockId}
use Rattle.turn_lock.specs.Passes.{pass_lock, pass_number, pass_seen, pass_mine, IsSamePass}
use Rattle.wol_model.specs.History.{Operation, Kept, IsHelp}
use Rattle.wol_model.specs.Index.{listed_in}
use Rattle.wol_promise.specs.Policy.{Look}
use Rattle.wol_promise.specs.Ruled.{Noted}
use Rattle.wol_config.specs.declared.config.Config.{Config}
use Rattle.manager.specs.Seen.{look_of_manager}
use Rattle.manager.specs.Stands.{Stands, IsNote, notes_of}
use Rattle.manager.specs.declared.base.ManagerBase.{ManagerBase}
use Rattle.manager.specs.declared.manager.Manager.{Manager}
use Rattle.manager.specs.declared.part.Part.{Part}
use Rattle.request_turns.specs.Turns.{ManagerPass, coded, notes_seen, HasLeft, WasDown}
use Rattle.request_turns.proofs.Noting.{notes_at}
use Rattle.inspection.specs.Faults.{was_told}
use Rattle.inspection.specs.declared.fault.DumpFault.{DumpFault}
use Rattle.inspection.specs.declared.fault.DumpFault.TheVariants.{DiskFault, Down, NoMemory}
use Rattle.inspection.specs.Looks.{AppendsAsked, BreaksIn, HasAdded, LooksAt, note_told}
use Rattle.inspection.specs.declared.asked.Asked.{Asked}

pub is_note : (l : Look) (operation : Operation) (look : Look) (pass : ℕ) → IsNote l operation [] look (note_told pass operation look)
is_note l operation look pass = record { operation_is = refl; look_is = refl; passed_is = refl; drain = refl; follows = λ no. absurd (let f : false ≡ Rattle.std.proofs.Common.true = no in cc) }

breaks : (answer : Result (Unit {0}) DumpFault) (notes : List Noted) → ((p : Part) → answer ≡ Err (DiskFault p) → WasDown p notes) → ((p : Part) → answer ≡ Err (Down p) → WasDown p notes) → BreaksIn answer notes
breaks (Ok done) notes failed down = tt
breaks (Err (DiskFault p)) notes failed down = failed p refl
breaks (Err (Down p)) notes failed down = down p refl
breaks (Err NoMemory) notes failed down = tt

-- one turn that was entered behind these entries, and left with this one
pub has_added : {D : Type 0} (tells : Bool) (p i q : ManagerPass D) (n : Noted) → IsSamePass p i → Begins (pass_seen p) (pass_seen i) → pass_mine i ≡ pass_mine p → own (pass_number i) (pass_seen i) ≡ pass_mine i
    → HasLeft tells n i q → HasAdded p q (pass_seen i) n
has_added tells p i q n same begins mine owns left = record {
  same = (left.same.0 ∙ same.0, left.same.1 ∙ same.1);
  free = left.free;
  begins = begins;
  others = ap (λ (k : ℕ). own k (pass_seen i)) (sym same.1) ∙ owns ∙ mine;
  number = left.number ∙ same.1;
  seen = left.seen;
  mine = left.mine ∙ ap (λ (es : List Entry). es ++ coded n ∷ []) mine;
}

-- from entering, looking and leaving
pub has_looked : {D : Type 0} (tells : Bool) (state : D → State) (config : Config) (asked : Asked) (number : ℕ) (old new : Manager D) (p i q : ManagerPass D) (answer : Result (Unit {0}) DumpFault) (before after : List ℕ)
    → IsSamePass p i → Begins (pass_seen p) (pass_seen i) → pass_mine i ≡ pass_mine p → own (pass_number i) (pass_seen i) ≡ pass_mine i
    → Stands tells state old (pass_lock i).base (notes_seen i) → new.index ≡ old.index
    → (IsTrue tells → OnOk answer (AppendsAsked config asked number old (pass_lock i).base (notes_seen i) before after))
    → HasLeft tells (note_told (pass_number i) (was_told answer) (look_of_manager new)) i q
    → ((d : Part) → new.down ≡ Some d → WasDown d (notes_seen q)) → ((d : Part) → answer ≡ Err (DiskFault d) → new.down ≡ Some d) → ((d : Part) → answer ≡ Err (Down d) → new.down ≡ Some d)
    → LooksAt tells state config asked number p q answer before after
has_looked {D} tells state config asked number old new p i q answer before after same begins mine owns stands index content left broken failed down = record {
  before = pass_seen i;
  note = note_told (pass_number i) (was_told answer) (look_of_manager new);
  added = has_added tells p i q (note_told (pass_number i) (was_told answer) (look_of_manager new)) same begins mine owns left;
  operation = refl;
  manager = old;
  stands = subst (λ (l : LockId ManagerBase). Stands tells state old l.base (notes_seen i)) same.0 stands;
  listed = ap (λ (x : _). listed_in x.entries) index;
  content = subst (λ (l : LockId ManagerBase). IsTrue tells → OnOk answer (AppendsAsked config asked number old l.base (notes_seen i) before after)) same.0 content;
  broken = breaks answer (notes_seen q) (λ d is. broken d (failed d is)) (λ d is. broken d (down d is));
}

-- ---- Its entry changes no content

told_helps : (answer : Result (Unit {0}) DumpFault) → IsHelp (was_told answer)
told_helps (Ok done) = tt
told_helps (Err (DiskFault p)) = refl
told_helps (Err (Down p)) = tt
told_helps (Err NoMemory) = tt

all_more : {X : Type 0} (P : X → Type 0) (xs : List X) (x : X) → AllByRecursion P xs → P x → AllByRecursion P (xs ++ x ∷ [])
all_more P [] y all h = (h, tt)
all_more P (x ∷ xs) y all h = (all.0, all_more P xs y all.1 h)

pub still_helps : {D : Type 0} (tells : Bool) (state : D → State) (config : Config) (asked : Asked) (number : ℕ) (p q : ManagerPass D) (answer : Result (Unit {0}) DumpFault) (before after : List ℕ)
    → LooksAt tells state config asked number p q answer before after
    → AllByRecursion (λ (n : Noted). IsHelp n.entry.operation) (notes_of (pass_mine p)) → AllByRecursion (λ (n : Noted). IsHelp n.entry.operation) (notes_of (pass_mine q))
still_helps tells state config asked number p q answer before after look all =
    let more : notes_of (pass_mine q) ≡ notes_of (pass_mine p) ++ look.note ∷ [] = ap notes_of look.added.mine ∙ notes_at (pass_mine p) look.note.entry.pass look.note refl in
    subst (λ (ns : List Noted). AllByRecursion (λ (n : Noted). IsHelp n.entry.operation) ns) (sym more)
    (all_more (λ (n : Noted). IsHelp n.entry.operation) (notes_of (pass_mine p)) look.note all (subst IsHelp (sym look.operation) (told_helps answer)))

-- ---- Where no disk is read

-- no call of a disk failed in this one
pub dump_kept : (answer : Result (Unit {0}) DumpFault) → ((p : Part) → answer ≡ Err (DiskFault p) → ⊥) → was_told answer ≡ Kept
dump_kept (Ok done) calm = refl
dump_kept (Err (DiskFault p)) calm = absurd (calm p refl)
dump_kept (Err (Down p)) calm = refl
dump_kept (Err NoMemory) calm = refl
