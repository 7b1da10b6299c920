-- One entry more in a history with its notes.
use Rattle.std.proofs.Common.{◌≡◌, ◌≢◌, ◌⊎◌, List, [], ◌∷◌, ◌++◌, map, Option, None, Some, refl, sym, ap, subst, ◌∙◌}
use Rattle.std.specs.List.{AllByRecursion}
use Rattle.std.specs.Prelude.{IsTrue}
use Rattle.std.specs.Option.{option_or}
use Rattle.std.proofs.lemmas.List.{map-append, append-nil}
use Rattle.wol_model.specs.Blocks.{Write, after}
use Rattle.wol_model.specs.History.{Entry, Operation, worker, written_by, writes, flight_of, flight_from, AreLegalNext, IsLegalNext, BreaksOnce, IsKept, IsHelp}
use Rattle.wol_model.proofs.Histories.{one_more_reply, breaks_more, all_more, writes_more, flight_more}
use Rattle.wol_promise.specs.Policy.{Look}
use Rattle.wol_promise.specs.Ruled.{Noted, entries_of, IsStep, AreRuled, last_look}
use Rattle.wol_promise.specs.Manager.{Parts, ManagerSeen, Base, look_of}
use Rattle.wol_promise.specs.Stands.{HasHistory, Upholds, StandsFor}

pub entries_more : (notes : List Noted) (n : Noted) → entries_of (notes ++ n ∷ []) ≡ entries_of notes ++ n.entry ∷ []
entries_more notes n = map-append (λ (k : Noted). k.entry) notes (n ∷ [])

pub last_more : (l : Look) (notes : List Noted) (n : Noted) → last_look l (notes ++ n ∷ []) ≡ n.look
last_more l [] n = refl
last_more l (k ∷ notes) n = last_more k.look notes n

pub ruled_more : (l : Look) (notes : List Noted) (n : Noted) → AreRuled l notes → (IsTrue n.ruled → IsStep n n.entry.pass n.entry.operation (last_look l notes) n.look) → AreRuled l (notes ++ n ∷ [])
ruled_more l [] n ruled step = (step, tt)
ruled_more l (k ∷ notes) n ruled step = (ruled.0, ruled_more k.look notes n ruled.1 step)

pub or_none : {X : Type 0} (o : Option X) → option_or o None ≡ o
or_none None = refl
or_none (Some x) = refl

-- what an entry more may be
pub record MayFollow (told : Type 0) (base : Base) (notes : List Noted) (n : Noted) : Type 0 where
  pub legal : told → IsLegalNext (after base.array (writes (entries_of notes))) n.entry.operation
  pub unbroken : (flight_of (entries_of notes) ≡ None) ⊎ IsKept n.entry.operation
  pub helps : n.entry.pass ≢ worker → IsHelp n.entry.operation
  pub step : IsTrue n.ruled → IsStep n n.entry.pass n.entry.operation (last_look base.look notes) n.look

pub history_more : (told : Type 0) (base : Base) (notes : List Noted) (n : Noted) → HasHistory told base notes → MayFollow told base notes n → HasHistory told base (notes ++ n ∷ [])
history_more told base notes n has may = record {
  replies = λ t. subst (AreLegalNext base.array) (sym (entries_more notes n)) (one_more_reply base.array (entries_of notes) n.entry (has.replies t) (may.legal t));
  breaks = subst (λ (es : List Entry). BreaksOnce (map (λ e. e.operation) es)) (sym (entries_more notes n)) (breaks_more (entries_of notes) n.entry has.breaks may.unbroken);
  helpers = subst (AllByRecursion (λ e. e.pass ≢ worker → IsHelp e.operation)) (sym (entries_more notes n)) (all_more (λ (d : Entry). d.pass ≢ worker → IsHelp d.operation) (entries_of notes) n.entry has.helpers may.helps);
  ruled = ruled_more base.look notes n has.ruled may.step;
}

module _ (notes : List Noted) (n : Noted) (o : Operation) (does : n.entry.operation ≡ o) where
  pub writes_then : writes (entries_of (notes ++ n ∷ [])) ≡ writes (entries_of notes) ++ written_by o
  writes_then = ap writes (entries_more notes n) ∙ writes_more (entries_of notes) (n.entry ∷ [])
      ∙ ap (λ (p : Operation). writes (entries_of notes) ++ (written_by p ++ [])) does ∙ ap (λ (l : List Write). writes (entries_of notes) ++ l) (append-nil (written_by o))

  pub flight_then : flight_of (entries_of (notes ++ n ∷ [])) ≡ option_or (flight_of (entries_of notes)) (flight_from o None)
  flight_then = ap flight_of (entries_more notes n) ∙ flight_more (entries_of notes) (n.entry ∷ []) ∙ ap (λ (p : Operation). option_or (flight_of (entries_of notes)) (flight_from p None)) does

-- what is upheld with these writes, and the look that the entry leaves, is what a manager stands for
pub stands_then : {P : Type 0} (parts : Parts P) (base : Base) (m : ManagerSeen P) (notes : List Noted) (n : Noted) (ws : List Write) (fl : Option (List Write))
    → writes (entries_of (notes ++ n ∷ [])) ≡ ws → flight_of (entries_of (notes ++ n ∷ [])) ≡ fl → Upholds parts base m (notes ++ n ∷ []) ws fl → (fl ≡ None → n.look ≡ look_of m) → StandsFor parts base m (notes ++ n ∷ [])
stands_then parts base m notes n ws fl is_ws is_fl upholds look = record {
  upholds = subst (λ (l : List Write). Upholds parts base m (notes ++ n ∷ []) l (flight_of (entries_of (notes ++ n ∷ [])))) (sym is_ws) (subst (Upholds parts base m (notes ++ n ∷ []) ws) (sym is_fl) upholds);
  look = λ none. last_more base.look notes n ∙ look (sym is_fl ∙ none);
}
