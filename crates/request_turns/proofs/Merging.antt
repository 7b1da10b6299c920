-- Of two entries at the end of a history, the first of which changes no content, one is made.
use Rattle.std.proofs.Common.{◌≡◌, ◌≢◌, ℕ, Bool, List, [], ◌∷◌, ◌++◌, map, Option, None, cond, sym, ap, subst, ◌∙◌, append_assoc, arith}
use Rattle.std.specs.Prelude.{◌==◌, IsTrue}
use Rattle.std.specs.List.{AllByRecursion, list_any}
use Rattle.std.specs.Option.{option_or}
use Rattle.std.proofs.lemmas.List.{map-append, append-nil}
use Rattle.wol_disk.specs.Disk.{State, Block}
use Rattle.wol_model.specs.Blocks.{Write, after}
use Rattle.wol_model.specs.History.{Entry, Operation, Wrote, Read, Kept, Broke, worker, written_by, writes, flight_of, flight_from, AreLegalNext, IsLegalNext, BreaksOnce, IsKept, IsHelp}
use Rattle.wol_model.proofs.Overlay.{after_none}
use Rattle.wol_promise.specs.Manager.{Base}
use Rattle.wol_promise.specs.Policy.{Look}
use Rattle.wol_promise.specs.Ruled.{Noted, HasPassed, IsStep, AreRuled, entries_of, last_look}
use Rattle.wol_promise.specs.Stands.{HasHistory, Upholds}
use Rattle.wol_promise.proofs.Kept.{renoted}
use Rattle.wol_promise.proofs.OneMore.{entries_more, last_more, ruled_more, or_none, writes_then, flight_then}
use Rattle.manager.proofs.Frames.{times_more}
use Rattle.manager.specs.Seen.{parts_of, seen}
use Rattle.manager.specs.Stands.{Stands, nones_at}
use Rattle.manager.specs.declared.base.ManagerBase.{ManagerBase}
use Rattle.manager.specs.declared.manager.Manager.{Manager}

all_drop : {X : Type 0} (P : X → Type 0) (xs : List X) (x y : X) → AllByRecursion P (xs ++ x ∷ y ∷ []) → AllByRecursion P (xs ++ y ∷ [])
all_drop P [] x y all = all.1
all_drop P (z ∷ xs) x y all = (all.0, all_drop P xs x y all.1)

legal_drop : (a : List Block) (es : List Entry) (d e : Entry) → d.operation ≡ Kept → AreLegalNext a (es ++ d ∷ e ∷ []) → AreLegalNext a (es ++ e ∷ [])
legal_drop a [] d e kept legal = (subst (λ (x : List Block). IsLegalNext x e.operation) (ap (λ (o : Operation). after a (written_by o)) kept ∙ after_none a) legal.1.0, tt)
legal_drop a (f ∷ es) d e kept legal = (legal.0, legal_drop (after a (written_by f.operation)) es d e kept legal.1)

breaks_drop : (os : List Operation) (o : Operation) → BreaksOnce (os ++ Kept ∷ o ∷ []) → BreaksOnce (os ++ o ∷ [])
breaks_drop [] o breaks = breaks
breaks_drop (Broke ws ∷ os) o breaks = all_drop IsKept os Kept o breaks
breaks_drop (Wrote ws ∷ os) o breaks = breaks_drop os o breaks
breaks_drop (Read first reply ∷ os) o breaks = breaks_drop os o breaks
breaks_drop (Kept ∷ os) o breaks = breaks_drop os o breaks

ruled_front : (l : Look) (xs ys : List Noted) → AreRuled l (xs ++ ys) → AreRuled l xs
ruled_front l [] ys ruled = tt
ruled_front l (x ∷ xs) ys ruled = (ruled.0, ruled_front x.look xs ys ruled.1)

operations : List Entry → List Operation
operations es = map (λ (e : Entry). e.operation) es

module _ (notes : List Noted) (n1 n2 n : Noted) (kept : n1.entry.operation ≡ Kept) (same : n.entry ≡ n2.entry) where
  two : entries_of ((notes ++ n1 ∷ []) ++ n2 ∷ []) ≡ entries_of notes ++ n1.entry ∷ n2.entry ∷ []
  two = entries_more (notes ++ n1 ∷ []) n2 ∙ ap (λ (es : List Entry). es ++ n2.entry ∷ []) (entries_more notes n1) ∙ append_assoc (entries_of notes) (n1.entry ∷ []) (n2.entry ∷ [])

  one : entries_of notes ++ n2.entry ∷ [] ≡ entries_of (notes ++ n ∷ [])
  one = ap (λ (e : Entry). entries_of notes ++ e ∷ []) (sym same) ∙ sym (entries_more notes n)

  same_writes : writes (entries_of ((notes ++ n1 ∷ []) ++ n2 ∷ [])) ≡ writes (entries_of (notes ++ n ∷ []))
  same_writes = writes_then (notes ++ n1 ∷ []) n2 n2.entry.operation refl_
      ∙ ap (λ (ws : List Write). ws ++ written_by n2.entry.operation) (writes_then notes n1 Kept kept ∙ append-nil (writes (entries_of notes)))
      ∙ ap (λ (e : Entry). writes (entries_of notes) ++ written_by e.operation) (sym same)
      ∙ sym (writes_then notes n n.entry.operation refl_n)
    where
      refl_ : n2.entry.operation ≡ n2.entry.operation
      refl_ = λ i. n2.entry.operation

      refl_n : n.entry.operation ≡ n.entry.operation
      refl_n = λ i. n.entry.operation

  same_flight : flight_of (entries_of ((notes ++ n1 ∷ []) ++ n2 ∷ [])) ≡ flight_of (entries_of (notes ++ n ∷ []))
  same_flight = flight_then (notes ++ n1 ∷ []) n2 n2.entry.operation (λ i. n2.entry.operation)
      ∙ ap (λ (f : Option (List Write)). option_or f (flight_from n2.entry.operation None)) (flight_then notes n1 Kept kept ∙ or_none (flight_of (entries_of notes)))
      ∙ ap (λ (e : Entry). option_or (flight_of (entries_of notes)) (flight_from e.operation None)) (sym same)
      ∙ sym (flight_then notes n n.entry.operation (λ i. n.entry.operation))

  history_one : (told : Type 0) (base : Base) → (IsTrue n.ruled → IsStep n n.entry.pass n.entry.operation (last_look base.look notes) n.look)
      → HasHistory told base ((notes ++ n1 ∷ []) ++ n2 ∷ []) → HasHistory told base (notes ++ n ∷ [])
  unfolding operations
  history_one told base step h = record {
    replies = λ t. subst (AreLegalNext base.array) one (legal_drop base.array (entries_of notes) n1.entry n2.entry kept (subst (AreLegalNext base.array) two (h.replies t)));
    breaks = subst (λ (es : List Entry). BreaksOnce (operations es)) one (subst BreaksOnce (sym (map-append (λ (e : Entry). e.operation) (entries_of notes) (n2.entry ∷ [])))
        (breaks_drop (operations (entries_of notes)) n2.entry.operation
        (subst (λ (o : Operation). BreaksOnce (operations (entries_of notes) ++ o ∷ n2.entry.operation ∷ [])) kept
        (subst BreaksOnce (map-append (λ (e : Entry). e.operation) (entries_of notes) (n1.entry ∷ n2.entry ∷ [])) (subst (λ (es : List Entry). BreaksOnce (operations es)) two h.breaks)))));
    helpers = subst (AllByRecursion (λ (e : Entry). e.pass ≢ worker → IsHelp e.operation)) one
        (all_drop (λ (e : Entry). e.pass ≢ worker → IsHelp e.operation) (entries_of notes) n1.entry n2.entry (subst (AllByRecursion (λ (e : Entry). e.pass ≢ worker → IsHelp e.operation)) two h.helpers));
    ruled = ruled_more base.look notes n (ruled_front base.look notes (n1 ∷ []) (ruled_front base.look (notes ++ n1 ∷ []) (n2 ∷ []) h.ruled)) step;
  }

  passed_one : (nones : ℕ → ℕ) → n.passed ≡ n1.passed → HasPassed nones ((notes ++ n1 ∷ []) ++ n2 ∷ []) → HasPassed nones (notes ++ n ∷ [])
  passed_one nones is has k =
      let a = times_more k (notes ++ n1 ∷ []) n2 in let b = times_more k notes n1 in let d = times_more k notes n in
      let e = ap (λ (ps : List ℕ). cond {A = ℕ} (list_any (λ p. p == k) ps) 1 0) is in
      let h = has k in omega (arith, a, b, d, e, h)

  -- what a manager stands for with both, it stands for with one that has the operation and the look of the second, and the empty pools of the first
  pub merged : {D : Type 0} (tells : Bool) (state : D → State) (m : Manager D) (b : ManagerBase) → n.look ≡ n2.look → n.passed ≡ n1.passed
      → (IsTrue n.ruled → IsStep n n.entry.pass n.entry.operation (last_look b.volume.began.look notes) n.look)
      → Stands tells state m b ((notes ++ n1 ∷ []) ++ n2 ∷ []) → Stands tells state m b (notes ++ n ∷ [])
  merged tells state m b look passed step s = record {
    keeps = record {
      logs = s.keeps.logs;
      held = s.keeps.held;
      upholds = subst (λ (ws : List Write). Upholds (parts_of tells state) b.volume.began (seen m s.keeps.logs) (notes ++ n ∷ []) ws (flight_of (entries_of (notes ++ n ∷ [])))) same_writes
          (subst (λ (fl : Option (List Write)). Upholds (parts_of tells state) b.volume.began (seen m s.keeps.logs) (notes ++ n ∷ []) (writes (entries_of ((notes ++ n1 ∷ []) ++ n2 ∷ []))) fl) same_flight
          (renoted s.keeps.upholds (history_one (IsTrue tells) b.volume.began step s.keeps.upholds.history)));
      in_use = s.keeps.in_use;
      passed = passed_one (nones_at m.lanes.items b.lanes) passed s.keeps.passed;
      taken = s.keeps.taken;
      still = s.keeps.still;
      ready = s.keeps.ready;
      locks = s.keeps.locks;
    };
    look = last_more b.volume.began.look notes n ∙ look ∙ sym (last_more b.volume.began.look (notes ++ n1 ∷ []) n2) ∙ s.look;
  }
