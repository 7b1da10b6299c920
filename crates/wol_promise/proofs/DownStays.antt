-- Once a call failed each entry that follows the rules leaves the same part down.
use Rattle.std.proofs.Common.{◌≡◌, ◌++◌, ◌∷◌, [], List, None, map, refl, sym, subst, ◌∙◌, append_assoc}
use Rattle.std.specs.Prelude.{IsTrue}
use Rattle.std.specs.List.{AllByRecursion}
use Rattle.wol_model.specs.History.{Entry, Operation, Wrote, Read, Kept, Broke, flight_from, flight_of, IsKept, BreaksOnce}
use Rattle.wol_promise.specs.Policy.{Look}
use Rattle.wol_promise.specs.Ruled.{Noted, entries_of, IsStep, AreRuled, last_look}
use Rattle.wol_promise.proofs.DownAndNext.{keep_same}

-- no entry of these is anything but Kept
abbrev AreKept : List Noted → Type 0
AreKept notes = AllByRecursion IsKept (map (λ (e : Entry). e.operation) (entries_of notes))

step_down : (n : Noted) (o : Operation) (l m : Look) → IsKept o → IsStep n n.entry.pass o l m → m.down ≡ l.down
step_down n Kept l m kept step = (keep_same n.passed n.entry.pass l m step.1).0
step_down n (Wrote ws) l m kept step = absurd kept
step_down n (Read first reply) l m kept step = absurd kept
step_down n (Broke ws) l m kept step = absurd kept

-- entries that are Kept
kept_down : (l : Look) (notes : List Noted) → AreRuled l notes → AllByRecursion (λ (n : Noted). IsTrue n.ruled) notes → AreKept notes → (last_look l notes).down ≡ l.down
kept_down l [] rules all kept = refl
kept_down l (n ∷ notes) rules all kept =
    kept_down n.look notes rules.1 all.1 kept.1 ∙ step_down n n.entry.operation l n.look kept.0 (rules.0 all.0)

kept_behind : (notes later : List Noted) → AreKept (notes ++ later) → AreKept later
kept_behind [] later all = all
kept_behind (n ∷ notes) later all = kept_behind notes later all.1

-- nothing but Kept follows where a call failed
only_kept : (front later : List Noted) → BreaksOnce (map (λ (e : Entry). e.operation) (entries_of (front ++ later))) → (flight_of (entries_of front) ≡ None → ⊥) → AreKept later
only_kept [] later breaks broke = absurd (broke refl)
only_kept (n ∷ front) later breaks broke = at n.entry.operation breaks broke (only_kept front later)
  where
    at : (o : Operation) → BreaksOnce (o ∷ map (λ (e : Entry). e.operation) (entries_of (front ++ later))) → (flight_from o (flight_of (entries_of front)) ≡ None → ⊥)
        → (BreaksOnce (map (λ (e : Entry). e.operation) (entries_of (front ++ later))) → (flight_of (entries_of front) ≡ None → ⊥) → AreKept later) → AreKept later
    at (Broke ws) once some rest = kept_behind front later once
    at (Wrote ws) once some rest = rest once some
    at (Read first reply) once some rest = rest once some
    at Kept once some rest = rest once some

at_end : (l : Look) (front : List Noted) (n : Noted) (later : List Noted) → AreRuled l (front ++ n ∷ later) → AllByRecursion (λ (m : Noted). IsTrue m.ruled) (front ++ n ∷ later) → AreKept later
    → (last_look l (front ++ n ∷ later)).down ≡ n.look.down
at_end l [] n later rules all kept = kept_down n.look later rules.1 all.1 kept
at_end l (m ∷ front) n later rules all kept = at_end m.look front n later rules.1 all.1 kept

-- the part that is down behind an entry, where a call failed in it or before it, is down at the end
pub down_at_end : (l : Look) (front : List Noted) (n : Noted) (later : List Noted) → AreRuled l (front ++ n ∷ later) → AllByRecursion (λ (m : Noted). IsTrue m.ruled) (front ++ n ∷ later)
    → BreaksOnce (map (λ (e : Entry). e.operation) (entries_of (front ++ n ∷ later))) → (flight_of (entries_of (front ++ n ∷ [])) ≡ None → ⊥)
    → (last_look l (front ++ n ∷ later)).down ≡ n.look.down
down_at_end l front n later rules all breaks broke =
    at_end l front n later rules all
    (only_kept (front ++ n ∷ []) later (subst (λ (ns : List Noted). BreaksOnce (map (λ (e : Entry). e.operation) (entries_of ns))) (sym (append_assoc front (n ∷ []) later)) breaks) broke)
