-- Entries of one turn become one entry.
use Rattle.std.proofs.Common.{◌≡◌, ◌<◌, ◌+◌, ℕ, true, false, List, [], ◌∷◌, ◌++◌, map, length, take, Option, None, Some, refl, sym, ap, subst, ◌∙◌, arith, append_assoc, length-append}
use Rattle.std.specs.Prelude.{IsSome}
use Rattle.std.specs.List.{AllByRecursion}
use Rattle.std.proofs.lemmas.List.Elements.{filter_map-append}
use Rattle.wol_disk.specs.Disk.{Block}
use Rattle.wol_model.specs.Blocks.{Write, after, AreApart}
use Rattle.wol_model.specs.History.{Entry, Operation, Wrote, Read, Kept, Broke, worker, written_by, writes, AreLegalNext, IsLegalNext, BreaksOnce, IsKept, IsHelp, IsCut, whole, torn}
use Rattle.wol_model.proofs.Overlay.{after_more, after_none}
use Rattle.wol_promise.specs.Ruled.{Noted, entries_of, AreRuled, HasPassed}
use Rattle.wol_promise.specs.Policy.{Look}
use Rattle.wol_promise.specs.Manager.{Parts, ManagerSeen, Base, AllRecords, WasWritten, versions}
use Rattle.wol_model.specs.Extents.{IsValid}
use Rattle.wol_model.specs.Log.{Record, extent_of}
use Rattle.wol_model.specs.Recovered.{recovered}
use Rattle.wol_promise.specs.Stands.{HasHistory, LiesInVolume, Upholds}
use Rattle.wol_promise.proofs.Lists.{all_front}
use Rattle.wol_promise.proofs.OneMore.{entries_more}
use Rattle.manager.proofs.Frames.{times_more}
use Rattle.log_cleaner.proofs.Lists.{take_joined}

-- ---- The front of a history

legal_front : (a : List Block) (es : List Entry) (e : Entry) → AreLegalNext a (es ++ e ∷ []) → AreLegalNext a es
legal_front a [] e all = tt
legal_front a (d ∷ es) e all = (all.0, legal_front (after a (written_by d.operation)) es e all.1)

-- the last operation is legal behind the others
pub legal_last : (a : List Block) (es : List Entry) (e : Entry) → AreLegalNext a (es ++ e ∷ []) → IsLegalNext (after a (writes es)) e.operation
legal_last a [] e all = subst (λ (x : List Block). IsLegalNext x e.operation) (sym (after_none a)) all.0
legal_last a (d ∷ es) e all = subst (λ (x : List Block). IsLegalNext x e.operation) (sym (after_more a (written_by d.operation) (writes es))) (legal_last (after a (written_by d.operation)) es e all.1)

breaks_front : (es : List Entry) (e : Entry) → BreaksOnce (map (λ e. e.operation) (es ++ e ∷ [])) → BreaksOnce (map (λ e. e.operation) es)
breaks_front [] e all = tt
breaks_front (d ∷ es) e all = at d.operation all (breaks_front es e)
  where
    kept_front : (ds : List Entry) → AllByRecursion IsKept (map (λ e. e.operation) (ds ++ e ∷ [])) → AllByRecursion IsKept (map (λ e. e.operation) ds)
    kept_front [] all = tt
    kept_front (x ∷ ds) all = (all.0, kept_front ds all.1)

    at : (o : Operation) → BreaksOnce (o ∷ map (λ e. e.operation) (es ++ e ∷ [])) → (BreaksOnce (map (λ e. e.operation) (es ++ e ∷ [])) → BreaksOnce (map (λ e. e.operation) es)) → BreaksOnce (o ∷ map (λ e. e.operation) es)
    at (Wrote ws) b rest = rest b
    at (Read first reply) b rest = rest b
    at Kept b rest = rest b
    at (Broke ws) b rest = kept_front es b

ruled_front : (l : Look) (notes : List Noted) (n : Noted) → AreRuled l (notes ++ n ∷ []) → AreRuled l notes
ruled_front l [] n all = tt
ruled_front l (m ∷ notes) n all = (all.0, ruled_front m.look notes n all.1)

pub history_front : (told : Type 0) (base : Base) (notes : List Noted) (n : Noted) → HasHistory told base (notes ++ n ∷ []) → HasHistory told base notes
history_front told base notes n h = record {
  replies = λ t. legal_front base.array (entries_of notes) n.entry (subst (AreLegalNext base.array) (entries_more notes n) (h.replies t));
  breaks = breaks_front (entries_of notes) n.entry (subst (λ (es : List Entry). BreaksOnce (map (λ e. e.operation) es)) (entries_more notes n) h.breaks);
  helpers = all_front (λ (e : Entry). (e.pass ≡ worker → ⊥) → IsHelp e.operation) (entries_of notes) (n.entry ∷ []) (subst (AllByRecursion (λ (e : Entry). (e.pass ≡ worker → ⊥) → IsHelp e.operation)) (entries_more notes n) h.helpers);
  ruled = ruled_front base.look notes n h.ruled;
}

pub passed_front : (nones : ℕ → ℕ) (notes : List Noted) (n : Noted) → HasPassed nones (notes ++ n ∷ []) → HasPassed nones notes
passed_front nones notes n all k = let e = times_more k notes n in let h = all k in omega (arith, e, h)

-- ---- Writes in flight, more of them

-- each write goes to a log
abbrev pub AreLogged : List Write → Type 0
AreLogged ws = AllByRecursion (λ (w : Write). IsSome w.version) ws

apart_front : (vs us : List ℕ) → AreApart (vs ++ us) → AreApart vs
apart_front [] us all = tt
apart_front (v ∷ vs) us all = (all_front (λ (w : ℕ). (v ≡ w) → ⊥) vs us all.0, apart_front vs us all.1)

versions_joined : (ws vs : List Write) → versions (ws ++ vs) ≡ versions ws ++ versions vs
versions_joined ws vs = filter_map-append (λ (w : Write). w.version) ws vs

-- what was written last may as well be in flight
pub cut_sooner : (a : List Block) (ws cs flight : List Write) (x : List Block) → IsCut a (ws ++ cs) flight x → AreLogged flight → IsCut a ws (cs ++ flight) x
cut_sooner a ws cs flight x (whole k le is) logged =
    let long = length-append cs flight in
    whole (length cs + k) (omega (arith, long, le)) (is ∙ ap (after a) (append_assoc ws cs (take k flight) ∙ ap (λ (l : List Write). ws ++ l) (sym (take_joined cs flight k))))
cut_sooner a ws cs flight x (torn w is none blend) logged =
    absurd (no w.version none (subst AreLogged is logged).0)
  where
    no : (o : Option ℕ) → o ≡ None → IsSome o → ⊥
    no None e some = let wrong : false ≡ true = some in cc
    no (Some v) e some = let wrong : Some v ≡ None = e in cc

module _ {P : Type 0} (parts : Parts P) (base : Base) (m : ManagerSeen P) (A B : List Noted) (ws cs flight : List Write) where
  pub upholds_sooner : Upholds parts base m A (ws ++ cs) (Some flight) → HasHistory parts.told base B → AreLogged flight → Upholds parts base m B ws (Some (cs ++ flight))
  upholds_sooner u history logged = record {
    began = u.began;
    history = history;
    lie = subst (λ (l : List Write). AllByRecursion (LiesInVolume base.home_blocks) (base.records ++ l)) (append_assoc ws cs flight) u.lie;
    versioned = let v = u.versioned in record {
      apart = apart_front (versions base.records ++ versions ws) (versions cs) (subst AreApart joined v.apart);
      below = all_front (λ (n : ℕ). n < m.next) (versions base.records ++ versions ws) (versions cs) (subst (AllByRecursion (λ (n : ℕ). n < m.next)) joined v.below);
      in_order = λ no. absurd (let wrong : Some (cs ++ flight) ≡ None = no in cc);
      least = v.least;
      most = v.most;
    };
    known = λ told. let k = u.known told in record {
      written = subst (λ (l : List Write). AllRecords (λ (r : Record). IsValid (extent_of r).cover → WasWritten (base.records ++ l) r) m.held) (append_assoc ws cs flight) k.written;
      below = k.below;
      within = k.within;
    };
    places = u.places;
    is_down = u.is_down;
    failed = u.failed;
    calm = λ no. absurd (let wrong : Some (cs ++ flight) ≡ None = no in cc);
    sound = λ told is. u.sound told refl;
    cut = λ told f is home segments h zip.
        let same : cs ++ flight ≡ f = (let e : Some (cs ++ flight) ≡ Some f = is in cc) in
        subst (λ (l : List Write). IsCut base.array ws l (recovered base.owner home segments)) same (cut_sooner base.array ws cs flight (recovered base.owner home segments) (u.cut told flight refl home segments h zip) logged);
  }
    where
      joined : versions base.records ++ versions (ws ++ cs) ≡ (versions base.records ++ versions ws) ++ versions cs
      joined = ap (λ (l : List ℕ). versions base.records ++ l) (versions_joined ws cs) ∙ sym (append_assoc (versions base.records) (versions ws) (versions cs))
