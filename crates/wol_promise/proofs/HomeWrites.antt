-- One write home more, and one that failed; blocks that are put home.
use Rattle.std.proofs.Common.{◌≡◌, inl, ◌<◌, ℕ, Bool, true, false, List, [], ◌∷◌, ◌++◌, None, Some, refl, sym, ap, subst, ◌∙◌, arith, append_assoc}
use Rattle.std.specs.Prelude.{IsTrue, is_some}
use Rattle.std.specs.List.{AllByRecursion}
use Rattle.std.proofs.lemmas.Bool.{false≢true}
use Rattle.std.proofs.lemmas.List.{append-nil}
use Rattle.wol_disk.specs.Disk.{Block, IsBlend}
use Rattle.wol_model.specs.Blocks.{Write, after}
use Rattle.wol_model.specs.Extents.{IsValid, IsUncovered}
use Rattle.wol_model.specs.History.{Wrote, Broke, worker, writes, flight_of, IsLegalNext}
use Rattle.wol_model.specs.Holding.{Holds}
use Rattle.wol_model.specs.Log.{extent_of}
use Rattle.wol_model.proofs.Steps.{home_step}
use Rattle.wol_promise.specs.Ruled.{Noted, entries_of, IsStep, last_look}
use Rattle.wol_promise.specs.Manager.{Parts, HomePart, Held, ManagerSeen, Base, look_of, extents_held, is_homed_in, WasWritten}
use Rattle.wol_promise.specs.Stands.{AreKnown, HasPlaces, LiesInVolume, Upholds, StandsFor}
use Rattle.wol_promise.proofs.Lists.{all_map, all_joined}
use Rattle.wol_promise.proofs.OneMore.{history_more, writes_then, flight_then, stands_then, or_none}
use Rattle.wol_promise.proofs.Places.{places_with, calm_with}
use Rattle.wol_promise.proofs.Known.{versions_with_home, acknowledged, flying}
use Rattle.wol_promise.proofs.Broke.{broke_more}
use Rattle.wol_promise.proofs.SoundSegments.{logs_sound}
use Rattle.wol_promise.proofs.Stops.{home_stops}

-- all writes lie in the volume with one more
pub lie_more : (home_blocks : ℕ) (records ws : List Write) (w : Write) → AllByRecursion (LiesInVolume home_blocks) (records ++ (ws ++ [])) → LiesInVolume home_blocks w → AllByRecursion (LiesInVolume home_blocks) (records ++ ((ws ++ w ∷ []) ++ []))
lie_more home_blocks records ws w all lies = subst (AllByRecursion (LiesInVolume home_blocks))
    (append_assoc records (ws ++ []) (w ∷ []) ∙ ap (λ (l : List Write). records ++ l) (ap (λ (l : List Write). l ++ w ∷ []) (append-nil ws) ∙ sym (append-nil (ws ++ w ∷ []))))
    (all_joined (LiesInVolume home_blocks) (records ++ (ws ++ [])) (w ∷ []) all (lies, tt))

pub lie_flying : (home_blocks : ℕ) (records ws fl : List Write) → AllByRecursion (LiesInVolume home_blocks) (records ++ (ws ++ [])) → AllByRecursion (LiesInVolume home_blocks) fl → AllByRecursion (LiesInVolume home_blocks) (records ++ (ws ++ fl))
lie_flying home_blocks records ws fl all lies = subst (AllByRecursion (LiesInVolume home_blocks))
    (append_assoc records (ws ++ []) fl ∙ ap (λ (l : List Write). records ++ (l ++ fl)) (append-nil ws))
    (all_joined (LiesInVolume home_blocks) (records ++ (ws ++ [])) fl all lies)

-- what is known stays so with one write more, or with writes in flight
pub known_more : {P : Type 0} (base : Base) (next : ℕ) (ws : List Write) (w : Write) (held : List (Held P)) → AreKnown base next ws [] held → AreKnown base next (ws ++ w ∷ []) [] held
known_more {P} base next ws w held known = record {
  written = all_map (λ (t : Held P). AllByRecursion (λ q. IsValid (extent_of q).cover → WasWritten (base.records ++ (ws ++ [])) q) t.records) (λ (t : Held P). AllByRecursion (λ q. IsValid (extent_of q).cover → WasWritten (base.records ++ ((ws ++ w ∷ []) ++ [])) q) t.records)
      (λ t all. all_map (λ q. IsValid (extent_of q).cover → WasWritten (base.records ++ (ws ++ [])) q) (λ q. IsValid (extent_of q).cover → WasWritten (base.records ++ ((ws ++ w ∷ []) ++ [])) q) (λ q was v. acknowledged base.records ws w q (was v)) t.records all) held known.written;
  below = known.below;
  within = known.within;
}

pub known_flying : {P : Type 0} (base : Base) (next : ℕ) (ws fl : List Write) (held : List (Held P)) → AreKnown base next ws [] held → AreKnown base next ws fl held
known_flying {P} base next ws fl held known = record {
  written = all_map (λ (t : Held P). AllByRecursion (λ q. IsValid (extent_of q).cover → WasWritten (base.records ++ (ws ++ [])) q) t.records) (λ (t : Held P). AllByRecursion (λ q. IsValid (extent_of q).cover → WasWritten (base.records ++ (ws ++ fl)) q) t.records)
      (λ t all. all_map (λ q. IsValid (extent_of q).cover → WasWritten (base.records ++ (ws ++ [])) q) (λ q. IsValid (extent_of q).cover → WasWritten (base.records ++ (ws ++ fl)) q) (λ q was v. flying base.records ws fl q (was v)) t.records all) held known.written;
  below = known.below;
  within = known.within;
}

-- home's part is another one, of the same place
pub places_with_home : {P : Type 0} (parts : Parts P) (base : Base) (home part : P) (held : List (Held P)) (ups : List Bool) → parts.size part ≡ parts.size home → parts.volume part ≡ parts.volume home → HasPlaces parts base home held ups → HasPlaces parts base part held ups
places_with_home parts base home part held ups size volume p = places_with p refl size volume p.each p.apart

module _ {P : Type 0} (parts : Parts P) (base : Base) (m : ManagerSeen P) (part : P) (size : parts.size part ≡ parts.size m.home) (volume : parts.volume part ≡ parts.volume m.home) where
  module _ (notes : List Noted) (n : Noted) (w : Write) (u : Upholds parts base m notes (writes (entries_of notes)) None) (none : flight_of (entries_of notes) ≡ None) (client : n.entry.pass ≡ worker)
      (to_home : w.version ≡ None) (uncovered : parts.told → IsUncovered (extents_held m.held) w) (lies : LiesInVolume base.home_blocks w) where
    abbrev ws : List Write
    ws = writes (entries_of notes)

    -- a write home
    pub home_more : m.down ≡ None → n.entry.operation ≡ Wrote (w ∷ []) → ((bs : List Block) → parts.may_be part bs → (home : List Block) × parts.may_be m.home home × (bs ≡ after home (w ∷ [])))
        → (IsTrue n.ruled → IsStep n n.entry.pass n.entry.operation (last_look base.look notes) n.look) → n.look ≡ look_of (record m { home = part; home_up = true }) → StandsFor parts base (record m { home = part; home_up = true }) (notes ++ n ∷ [])
    home_more up wrote is_after step look = stands_then parts base (record m { home = part; home_up = true }) notes n (ws ++ w ∷ []) None
        (writes_then notes n (Wrote (w ∷ [])) wrote)
        (flight_then notes n (Wrote (w ∷ [])) wrote ∙ or_none (flight_of (entries_of notes)) ∙ none)
        (record {
          began = u.began;
          history = history_more parts.told base notes n u.history (record {
            legal = λ told. subst (IsLegalNext (after base.array ws)) (sym wrote) (omega arith);
            unbroken = inl none;
            helps = λ other. absurd (other client);
            step = step;
          });
          lie = lie_more base.home_blocks base.records ws w u.lie lies;
          versioned = versions_with_home base m.next ws w to_home u.versioned;
          known = λ told. known_more base m.next ws w m.held (u.known told);
          places = places_with_home parts base m.home part m.held m.ups size volume u.places;
          is_down = ap is_some up;
          failed = λ name is. absurd (let no : None ≡ Some name = sym up ∙ is in cc);
          calm = λ _. let c = u.calm refl in calm_with c c.placed (λ told. let whole = c.whole told in record {
            logs = whole.logs;
            distinct = whole.distinct;
            index = whole.index;
            holds = λ bs is. let from = is_after bs is in subst (λ (h : List Block). Holds base.array (ws ++ w ∷ []) m.next h (extents_held m.held) (is_homed_in m.indexed)) (sym from.2)
                (home_step base.array ws m.next from.0 (extents_held m.held) (is_homed_in m.indexed) w (whole.holds from.0 from.1) (uncovered told));
          });
          sound = λ told some. absurd (false≢true some);
          cut = λ told fl is. absurd (let no : None ≡ Some fl = is in cc);
        })
        (λ _. look)

    -- one that failed: some of its blocks may be written
    pub home_breaks : n.entry.operation ≡ Broke (w ∷ []) → n.after_drain ≡ false → ((x : List Block) → parts.may_be part x → (home : List Block) × parts.may_be m.home home × IsBlend home (after home (w ∷ [])) x) → 0 < parts.faults part
        → StandsFor parts base (record m { home = part; home_up = true; down = Some HomePart }) (notes ++ n ∷ [])
    home_breaks broke unruled blend rose = broke_more parts base m (record m { home = part; home_up = true; down = Some HomePart }) notes n ws (w ∷ []) HomePart u refl none broke (λ other. absurd (other client)) unruled
        (lie_flying base.home_blocks base.records ws (w ∷ []) u.lie (lies, tt)) refl refl
        (λ told. known_flying base m.next ws (w ∷ []) m.held (u.known told))
        (places_with_home parts base m.home part m.held m.ups size volume u.places)
        (part, refl, rose)
        (λ told. let whole = (u.calm refl).whole told in logs_sound (λ s. parts.may_be s.part) base.owner base.home_blocks m.held whole.logs (u.known told).within whole.distinct)
        (λ told. let whole = (u.calm refl).whole told in
        home_stops (parts.may_be part) (λ s. parts.may_be s.part) base.owner base.array ws m.next (is_homed_in m.indexed) m.held w whole.logs (uncovered told) to_home
        (λ x is. let from = blend x is in (from.0, whole.holds from.0 from.1, from.2)))
