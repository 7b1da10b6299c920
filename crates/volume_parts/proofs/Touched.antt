-- Parts that were read: each is as it was for what a manager upholds.
use Rattle.std.proofs.Common.{◌≡◌, ◌<◌, ◌≤◌, ◌+◌, ℕ, Bool, false, List, [], ◌∷◌, ◌++◌, map, length, None, Some, refl, sym, ap, subst, ◌∙◌}
use Rattle.std.specs.Prelude.{Contains, slice_get}
use Rattle.std.specs.List.{AllByRecursion, AllZip}
use Rattle.std.proofs.lemmas.Bool.{false≢true}
use Rattle.wol_disk.specs.Disk.{Block}
use Rattle.wol_model.specs.Blocks.{Write}
use Rattle.wol_model.specs.Extents.{Extent, IsValid, AreDistinct, covers_of}
use Rattle.wol_model.specs.History.{Broke, writes, flight_of}
use Rattle.wol_model.specs.Holding.{Holds}
use Rattle.wol_model.specs.Index.{Indexed}
use Rattle.wol_model.specs.Log.{Record, IsLog, extent_of, position_of}
use Rattle.wol_promise.specs.Ruled.{Noted, entries_of}
use Rattle.wol_promise.specs.Manager.{Parts, PartName, Held, ManagerSeen, Base, IsPartOf, IsEntryOf, IsFound, IsBacked, IsIndexOf, AreInUse, extents_held, is_homed_in, WasWritten}
use Rattle.wol_promise.specs.Stands.{AreKnown, LiesInHome, IsHeldBy, place_in, AreApartPlaces, HasPlaces, IsPlaced, IsWhole, Upholds, StandsFor}
use Rattle.wol_promise.proofs.Broke.{broke_more}
use Rattle.wol_promise.proofs.LogWrites.{says_owner}
use Rattle.wol_promise.proofs.Places.{places_with}
use Rattle.wol_promise.proofs.SoundSegments.{logs_sound}
use Rattle.wol_promise.proofs.Stops.{still_stops}
use Rattle.volume_parts.proofs.Elements.{zip_all, zip_each, became}

-- ---- held segments

-- a held segment after reads: each image of it is a log of its records
pub record IsTouched {P : Type 0} (parts : Parts P) (owner : ℕ) (s t : Held P) : Type 0 where
  pub lane : t.lane ≡ s.lane
  pub index : t.index ≡ s.index
  pub broken : t.broken ≡ s.broken
  pub records : t.records ≡ s.records
  pub size : parts.size t.part ≡ parts.size s.part
  pub volume : parts.volume t.part ≡ parts.volume s.part
  pub images : (bs : List Block) → parts.may_be t.part bs → IsLog bs owner t.records

module _ {P : Type 0} (parts : Parts P) (owner : ℕ) where
  abbrev AreTouched : List (Held P) → List (Held P) → Type 0
  AreTouched held held' = AllZip (IsTouched parts owner) held held'

  pub same_extents : (held held' : List (Held P)) → AreTouched held held' → extents_held held' ≡ extents_held held
  same_extents [] [] zip = refl
  same_extents [] (t ∷ held') zip = absurd zip
  same_extents (s ∷ held) [] zip = absurd zip
  same_extents (s ∷ held) (t ∷ held') zip = λ i. map extent_of (zip.0.records i) ++ same_extents held held' zip.1 i

  same_places : (held held' : List (Held P)) → AreTouched held held' → map place_in held' ≡ map place_in held
  same_places [] [] zip = refl
  same_places [] (t ∷ held') zip = absurd zip
  same_places (s ∷ held) [] zip = absurd zip
  same_places (s ∷ held) (t ∷ held') zip = λ i. (zip.0.lane i, zip.0.index i) ∷ same_places held held' zip.1 i

  -- what is said of records
  of_records : (Q : List Record → Type 0) (held held' : List (Held P)) → AreTouched held held' → AllByRecursion (λ (s : Held P). Q s.records) held → AllByRecursion (λ (s : Held P). Q s.records) held'
  of_records Q held held' zip all = zip_all (IsTouched parts owner) (λ (s : Held P). Q s.records) (λ (s : Held P). Q s.records) (λ s t is q. subst Q (sym is.records) q) held held' zip all

  entry_of_touched : (s t : Held P) (k : ℕ) (r : Record) (e : Indexed) → IsTouched parts owner s t → IsEntryOf s k r e → IsEntryOf t k r e
  entry_of_touched s t k r e is its = record {
    version = its.version;
    first = its.first;
    keep = its.keep;
    lane = its.lane ∙ sym is.lane;
    index = its.index ∙ sym is.index;
    pos = its.pos ∙ (λ i. position_of (sym is.records i) k);
  }

  same_index : (indexed : List Indexed) (held held' : List (Held P)) → AreTouched held held' → IsIndexOf indexed held → IsIndexOf indexed held'
  same_index indexed held held' zip is = record {
    each = zip_all (IsTouched parts owner) Each Each
        (λ s t touched all k r there valid. let found = all k r (ap (λ (l : List Record). slice_get l k) (sym touched.records) ∙ there) valid in
        record { entry = found.entry; listed = found.listed; is_its = entry_of_touched s t k r found.entry touched found.is_its }) held held' zip is.each;
    only = backed indexed is.only;
  }
    where
      Each : Held P → Type 0
      Each s = (k : ℕ) (r : Record) → slice_get s.records k ≡ Some r → IsValid (extent_of r).cover → IsFound indexed s k r

      backed : (es : List Indexed) → AllByRecursion (IsBacked held) es → AllByRecursion (IsBacked held') es
      backed [] all = tt
      backed (e ∷ es) all =
          let b = all.0 in
          let now = became (IsTouched parts owner) held held' b.segment zip b.is_held in (
            record { segment = now.item; is_held = now.among; k = b.k; record_ = b.record_; is_there = ap (λ (l : List Record). slice_get l b.k) now.from.records ∙ b.is_there; valid = b.valid; is_its = entry_of_touched b.segment now.item b.k b.record_ e now.from b.is_its },
            backed es all.1,
          )

  same_placed : (held held' : List (Held P)) → AreTouched held held' → (es : List Indexed) → AllByRecursion (IsPlaced parts held) es → AllByRecursion (IsPlaced parts held') es
  same_placed held held' zip [] all = tt
  same_placed held held' zip (e ∷ es) all =
      let p = all.0 in
      let now = became (IsTouched parts owner) held held' p.segment zip p.is_held in (
        record { segment = now.item; is_held = now.among; lane = p.lane ∙ sym now.from.lane; index = p.index ∙ sym now.from.index; behind = p.behind; within = subst (λ (n : ℕ). e.pos + length e.listed.keep < n) (sym now.from.size) p.within },
        same_placed held held' zip es all.1,
      )

  pub same_use : (held held' : List (Held P)) → AreTouched held held' → AreInUse held → AreInUse held'
  same_use held held' zip use_ = of_records (λ (rs : List Record). (r : Record) × Contains rs r × IsValid (extent_of r).cover) held held' zip use_

-- ---- the manager

module _ {P : Type 0} (parts : Parts P) (base : Base) (m : ManagerSeen P) (part : P) (held : List (Held P)) (home_up : Bool) (ups : List Bool)
    (flags : length ups ≡ length m.ups) (size : parts.size part ≡ parts.size m.home) (volume : parts.volume part ≡ parts.volume m.home)
    (same : (bs : List Block) → parts.may_be part bs → parts.may_be m.home bs) (zip : AllZip (IsTouched parts base.owner) m.held held) where
  logs : AllByRecursion (λ (s : Held P). (bs : List Block) → parts.may_be s.part bs → IsLog bs base.owner s.records) held
  logs = zip_each (IsTouched parts base.owner) (λ (t : Held P). (bs : List Block) → parts.may_be t.part bs → IsLog bs base.owner t.records) (λ s t is. is.images) m.held held zip

  places_touched : HasPlaces parts base m.home m.held m.ups → HasPlaces parts base part held ups
  places_touched p = places_with p flags size volume
      (zip_all (IsTouched parts base.owner) (IsHeldBy parts base) (IsHeldBy parts base) (λ s t is by. record {
        logger = ap (slice_get base.view) is.lane ∙ by.logger ∙ ap Some (sym is.volume);
        room = subst (λ (n : ℕ). base.most + 2 ≤ n) (sym is.size) by.room;
        owned = λ bs may. says_owner base.owner bs t.records (is.images bs may);
      }) m.held held zip p.each)
      (subst AreApartPlaces (sym (same_places parts base.owner m.held held zip)) p.apart)

  known_touched : (ws : List Write) → AreKnown base m.next ws [] m.held → AreKnown base m.next ws [] held
  known_touched ws k = record {
    written = of_records parts base.owner (AllByRecursion (λ q. IsValid (extent_of q).cover → WasWritten (base.records ++ (ws ++ [])) q)) m.held held zip k.written;
    below = of_records parts base.owner (AllByRecursion (λ q. (IsValid (extent_of q).cover → ⊥) → q.head.version < m.next)) m.held held zip k.below;
    within = of_records parts base.owner (AllByRecursion (LiesInHome base.home_blocks)) m.held held zip k.within;
  }

  holds_touched : (ws : List Write) → IsWhole parts base ws m.next m.home m.held m.indexed → (bs : List Block) → parts.may_be part bs → Holds base.array ws m.next bs (extents_held held) (is_homed_in m.indexed)
  holds_touched ws w bs is = subst (λ (rs : List Extent). Holds base.array ws m.next bs rs (is_homed_in m.indexed)) (sym (same_extents parts base.owner m.held held zip)) (w.holds bs (same bs is))

  distinct_touched : (ws : List Write) → IsWhole parts base ws m.next m.home m.held m.indexed → AreDistinct (covers_of (extents_held held))
  distinct_touched ws w = subst (λ (l : List Extent). AreDistinct (covers_of l)) (sym (same_extents parts base.owner m.held held zip)) w.distinct

  abbrev pub touched_ : ManagerSeen P
  touched_ = record m { home = part; held = held; home_up = home_up; ups = ups }

  -- parts were read, and flags may have changed
  pub touched : (notes : List Noted) (ws : List Write) → m.down ≡ None → Upholds parts base m notes ws None → Upholds parts base touched_ notes ws None
  touched notes ws up u = record {
    began = u.began;
    history = u.history;
    lie = u.lie;
    versioned = u.versioned;
    known = λ told. known_touched ws (u.known told);
    places = places_touched u.places;
    is_down = u.is_down;
    failed = λ name is. absurd (let no : None ≡ Some name = sym up ∙ is in cc);
    calm = λ none. let c = u.calm none in record {
      unbroken = zip_all (IsTouched parts base.owner) (λ (s : Held P). s.broken ≡ false) (λ (s : Held P). s.broken ≡ false) (λ s t is whole. is.broken ∙ whole) m.held held zip c.unbroken;
      untaken = c.untaken;
      sorted = c.sorted;
      below = c.below;
      placed = same_placed parts base.owner m.held held zip m.indexed c.placed;
      whole = λ told. let w = c.whole told in record {
        logs = logs;
        distinct = distinct_touched ws w;
        index = same_index parts base.owner m.indexed m.held held zip w.index;
        holds = holds_touched ws w;
      };
    };
    sound = λ told some. absurd (false≢true some);
    cut = λ told fl is. absurd (let no : None ≡ Some fl = is in cc);
  }

  -- the last of them failed, at the part of this name
  pub read_breaks : (notes : List Noted) (n : Noted) → Upholds parts base m notes (writes (entries_of notes)) None → flight_of (entries_of notes) ≡ None → n.entry.operation ≡ Broke [] → n.after_drain ≡ false
      → (name : PartName) → (p : P) × IsPartOf base.view (record touched_ { down = Some name }) name p × (0 < parts.faults p) → StandsFor parts base (record touched_ { down = Some name }) (notes ++ n ∷ [])
  read_breaks notes n u none broke unruled name failed = broke_more parts base m (record touched_ { down = Some name }) notes n (writes (entries_of notes)) [] name u refl none broke (λ other. refl) unruled u.lie refl refl
      (λ told. known_touched (writes (entries_of notes)) (u.known told)) (places_touched u.places) failed
      (λ told. let ws = writes (entries_of notes) in logs_sound (λ s. parts.may_be s.part) base.owner base.home_blocks held logs (known_touched ws (u.known told)).within (distinct_touched ws ((u.calm refl).whole told)))
      (λ told. let w = (u.calm refl).whole told in
      still_stops (parts.may_be part) (λ s. parts.may_be s.part) base.owner base.array (writes (entries_of notes)) m.next (is_homed_in m.indexed) held [] logs (holds_touched (writes (entries_of notes)) w))
