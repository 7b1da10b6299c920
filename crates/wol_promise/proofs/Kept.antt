-- Other entries, other flags, one Kept more, and one read more.
use Rattle.std.proofs.Common.{◌+◌, ◌≡◌, inl, inr, ℕ, Bool, true, false, List, [], ◌∷◌, ◌++◌, length, Option, None, Some, refl, sym, ap, subst, ◌∙◌}
use Rattle.std.specs.Prelude.{IsTrue, is_some, slice_range}
use Rattle.std.proofs.lemmas.List.{append-nil}
use Rattle.wol_disk.specs.Disk.{Block}
use Rattle.wol_model.specs.Blocks.{Write, after}
use Rattle.wol_model.specs.History.{Kept, Read, worker, writes, flight_of, IsLegalNext, IsKept, IsHelp}
use Rattle.wol_promise.specs.Ruled.{Noted, entries_of, IsStep, last_look}
use Rattle.wol_promise.specs.Manager.{Parts, ManagerSeen, Base, look_of}
use Rattle.wol_promise.specs.Stands.{HasHistory, Upholds, StandsFor}
use Rattle.wol_promise.proofs.OneMore.{MayFollow, history_more, writes_then, flight_then, stands_then, or_none}
use Rattle.wol_promise.proofs.Places.{places_with}

-- a manager that is up has no call that failed
pub not_broken : {P : Type 0} (parts : Parts P) (base : Base) (m : ManagerSeen P) (notes : List Noted) (ws : List Write) (fl : Option (List Write)) → Upholds parts base m notes ws fl → m.down ≡ None → fl ≡ None
not_broken parts base m notes ws None u up = refl
not_broken parts base m notes ws (Some l) u up = absurd (let no : true ≡ false = sym u.is_down ∙ ap is_some up in cc)

-- what a manager that is up and stands for its entries upholds
pub calm_of : {P : Type 0} (parts : Parts P) (base : Base) (m : ManagerSeen P) (notes : List Noted) → StandsFor parts base m notes → m.down ≡ None → Upholds parts base m notes (writes (entries_of notes)) None
calm_of parts base m notes s up = subst (Upholds parts base m notes (writes (entries_of notes))) (not_broken parts base m notes (writes (entries_of notes)) (flight_of (entries_of notes)) s.upholds up) s.upholds

-- other entries that have the same writes, in flight or not
pub renoted : {P : Type 0} {parts : Parts P} {base : Base} {m : ManagerSeen P} {old new : List Noted} {ws : List Write} {fl : Option (List Write)}
    → Upholds parts base m old ws fl → HasHistory parts.told base new → Upholds parts base m new ws fl
renoted u history = record {
  began = u.began;
  history = history;
  lie = u.lie;
  versioned = u.versioned;
  known = u.known;
  places = u.places;
  is_down = u.is_down;
  failed = u.failed;
  calm = u.calm;
  sound = u.sound;
  cut = u.cut;
}

-- other flags
pub other_flags : {P : Type 0} (parts : Parts P) (base : Base) (m : ManagerSeen P) (home_up : Bool) (ups : List Bool) (notes : List Noted) (ws : List Write) (fl : Option (List Write))
    → Upholds parts base m notes ws fl → length ups ≡ length m.ups → Upholds parts base (record m { home_up = home_up; ups = ups }) notes ws fl
other_flags parts base m home_up ups notes ws fl u same = record {
  began = u.began;
  history = u.history;
  lie = u.lie;
  versioned = u.versioned;
  known = u.known;
  places = let p = u.places in places_with p same refl refl p.each p.apart;
  is_down = u.is_down;
  failed = u.failed;
  calm = u.calm;
  sound = u.sound;
  cut = u.cut;
}

module _ {P : Type 0} (parts : Parts P) (base : Base) (m : ManagerSeen P) (notes : List Noted) (n : Noted) (step : IsTrue n.ruled → IsStep n n.entry.pass n.entry.operation (last_look base.look notes) n.look) where
  -- what is upheld stays so with one entry more that writes nothing and was allowed
  pub same_but_noted : (ws : List Write) (fl : Option (List Write)) → Upholds parts base m notes ws fl → MayFollow parts.told base notes n → Upholds parts base m (notes ++ n ∷ []) ws fl
  same_but_noted ws fl u may = renoted u (history_more parts.told base notes n u.history may)

  may_keep : n.entry.operation ≡ Kept → MayFollow parts.told base notes n
  may_keep kept = record {
    legal = λ told. subst (IsLegalNext (after base.array (writes (entries_of notes)))) (sym kept) tt;
    unbroken = inr (subst IsKept (sym kept) tt);
    helps = λ other. subst IsHelp (sym kept) tt;
    step = step;
  }

  -- Kept, by any pass, whether or not a call failed
  pub kept_more : n.entry.operation ≡ Kept → Upholds parts base m notes (writes (entries_of notes)) (flight_of (entries_of notes)) → (flight_of (entries_of notes) ≡ None → n.look ≡ look_of m) → StandsFor parts base m (notes ++ n ∷ [])
  kept_more kept u look = stands_then parts base m notes n (writes (entries_of notes)) (flight_of (entries_of notes))
      (writes_then notes n Kept kept ∙ append-nil (writes (entries_of notes)))
      (flight_then notes n Kept kept ∙ or_none (flight_of (entries_of notes)))
      (same_but_noted (writes (entries_of notes)) (flight_of (entries_of notes)) u (may_keep kept)) look

  -- a read by the worker, whose reply is that of the array where content is told
  pub read_more : (first : ℕ) (reply : List Block) → n.entry.operation ≡ Read first reply → n.entry.pass ≡ worker → flight_of (entries_of notes) ≡ None
      → (parts.told → reply ≡ slice_range (after base.array (writes (entries_of notes))) first (first + length reply))
      → Upholds parts base m notes (writes (entries_of notes)) None → n.look ≡ look_of m → StandsFor parts base m (notes ++ n ∷ [])
  read_more first reply read client none legal u look = stands_then parts base m notes n (writes (entries_of notes)) None
      (writes_then notes n (Read first reply) read ∙ append-nil (writes (entries_of notes)))
      (flight_then notes n (Read first reply) read ∙ or_none (flight_of (entries_of notes)) ∙ none)
      (same_but_noted (writes (entries_of notes)) None u (record {
        legal = λ told. subst (IsLegalNext (after base.array (writes (entries_of notes)))) (sym read) (legal told);
        unbroken = inl none;
        helps = λ other. absurd (other client);
        step = step;
      })) (λ _. look)
