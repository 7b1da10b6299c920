-- Due blocks of one record that are put home: the manager upholds the same; and where that failed, nothing is in flight.
use Rattle.std.proofs.Common.{◌≡◌, ⊎_elim, ◌<◌, ◌+◌, ℕ, Bool, true, false, not, ◌&&◌, ◌||◌, List, [], ◌∷◌, ◌++◌, map, length, None, Some, refl, sym, ap, subst, ◌∙◌}
use Rattle.std.specs.Prelude.{is_some, slice_get}
use Rattle.std.specs.List.{AllByRecursion}
use Rattle.std.proofs.lemmas.Bool.{false≢true}
use Rattle.std.proofs.lemmas.List.{map-append}
use Rattle.std.proofs.lemmas.List.Folds.{list_any-append}
use Rattle.wol_disk.specs.Disk.{Block, IsBlend}
use Rattle.wol_model.specs.Blocks.{Write, last_written, after}
use Rattle.wol_model.specs.Extents.{Cover, IsValid, remarked, has_newer}
use Rattle.wol_model.specs.History.{Broke, writes, flight_of}
use Rattle.wol_model.specs.Holding.{Holds, IsData}
use Rattle.wol_model.specs.Index.{Listed, Indexed, listed_in, listed_covers, cover_of, is_homed, is_live, is_due, homing, AreRising, IsListed}
use Rattle.wol_model.specs.Log.{Record, extent_of}
use Rattle.wol_model.proofs.Counts.{both, either, true_or, marked_within, marked_set, length_remarked}
use Rattle.wol_model.proofs.Steps.{putting_step, fewer_homed}
use Rattle.wol_promise.specs.Ruled.{Noted, entries_of}
use Rattle.wol_promise.specs.Manager.{Parts, HomePart, Held, ManagerSeen, Base, IsEntryOf, IsFound, IsBacked, IsIndexOf, IsSorted, extents_held, is_homed_in}
use Rattle.wol_promise.specs.Stands.{HasPlaces, IsPlaced, Upholds, StandsFor}
use Rattle.wol_promise.proofs.Lists.{all_map, all_swap, member_mid, member_swap}
use Rattle.wol_promise.proofs.Broke.{broke_more}
use Rattle.wol_promise.proofs.HomeWrites.{places_with_home}
use Rattle.wol_promise.proofs.Places.{places_with}
use Rattle.wol_promise.proofs.SoundSegments.{logs_sound}
use Rattle.wol_promise.proofs.Stops.{putting_stops}

-- ---- One entry of the index has other marks of home

or_left : (a b : Bool) → a ≡ true → (a || b) ≡ true
or_left a b is = λ i. is i || b

-- a record is in order among records with the same covers
pub listed_among : (es fs : List Listed) (d : Listed) → listed_covers es ≡ listed_covers fs → IsListed es d → IsListed fs d
listed_among es fs d same is = record {
  marks = is.marks;
  homed_are_live = λ b homed. subst (λ (cs : List Cover). ((cover_of d).covers b && not (has_newer cs d.version b)) ≡ true) same (is.homed_are_live b homed);
}

homed_or_put : (put : ℕ → Bool) (e : Listed) (b : ℕ) → is_homed (homing put e) b ≡ true → (is_homed e b || put b) ≡ true
homed_or_put put e b is =
    let r = marked_within e.first (remarked e.first e.homed (λ c m. m || put c)) b is in
    sym (marked_set e.first e.homed (λ c m. m || put c) b r.0 (subst (λ (n : ℕ). b < e.first + n) (length_remarked e.first e.homed (λ c m. m || put c)) r.1)) ∙ is

module _ (front : List Indexed) (e : Indexed) (back : List Indexed) (put : ℕ → Bool) where
  abbrev pub with_home : Indexed
  with_home = record e { listed = homing put e.listed }

  abbrev old : List Indexed
  old = front ++ e ∷ back

  abbrev pub put_home : List Indexed
  put_home = front ++ with_home ∷ back

  covers_in : (es : List Indexed) → List Cover
  covers_in es = listed_covers (listed_in es)

  same_covers : listed_covers (listed_in put_home) ≡ listed_covers (listed_in old)
  same_covers = ap listed_covers (map-append (λ (d : Indexed). d.listed) front (with_home ∷ back)) ∙ map-append cover_of (listed_in front) (with_home.listed ∷ listed_in back)
      ∙ sym (ap listed_covers (map-append (λ (d : Indexed). d.listed) front (e ∷ back)) ∙ map-append cover_of (listed_in front) (e.listed ∷ listed_in back))

  same_versions : map (λ (d : Indexed). d.listed.version) put_home ≡ map (λ (d : Indexed). d.listed.version) old
  same_versions = map-append (λ (d : Indexed). d.listed.version) front (with_home ∷ back) ∙ sym (map-append (λ (d : Indexed). d.listed.version) front (e ∷ back))

  e_listed : ((b : ℕ) → put b ≡ true → is_due (listed_in old) e.listed b ≡ true) → IsListed (listed_in old) e.listed → IsListed (listed_in put_home) with_home.listed
  e_listed due is = listed_among (listed_in old) (listed_in put_home) with_home.listed (sym same_covers) (record {
    marks = length_remarked e.listed.first e.listed.homed (λ c m. m || put c) ∙ is.marks;
    homed_are_live = λ b homed. ⊎_elim (λ was. is.homed_are_live b was) (λ now. (both (is_live (listed_in old) e.listed b) (not (is_homed e.listed b)) (due b now)).0) (either (is_homed e.listed b) (put b) (homed_or_put put e.listed b homed));
  })

  pub sorted_then : ((b : ℕ) → put b ≡ true → is_due (listed_in old) e.listed b ≡ true) → IsSorted old → IsSorted put_home
  sorted_then due is = record {
    rising = subst AreRising (sym same_versions) is.rising;
    listed = all_swap (λ (d : Indexed). IsListed (listed_in old) d.listed) (λ (d : Indexed). IsListed (listed_in put_home) d.listed) (λ d in_order. listed_among (listed_in old) (listed_in put_home) d.listed (sym same_covers) in_order) front e with_home back (e_listed due) is.listed;
  }

  entry_then : {P : Type 0} (s : Held P) (k : ℕ) (r : Record) → IsEntryOf s k r e → IsEntryOf s k r with_home
  entry_then s k r is = record { version = is.version; first = is.first; keep = is.keep; lane = is.lane; index = is.index; pos = is.pos }

  found_then : {P : Type 0} (s : Held P) (k : ℕ) (r : Record) → IsFound old s k r → IsFound put_home s k r
  found_then s k r found = ⊎_elim
      (λ there. record { entry = found.entry; listed = there; is_its = found.is_its })
      (λ same. record { entry = with_home; listed = member_mid front with_home back; is_its = entry_then s k r (subst (IsEntryOf s k r) (sym same) found.is_its) })
      (member_swap front e with_home back found.entry found.listed)

  pub index_then : {P : Type 0} (held : List (Held P)) → IsIndexOf old held → IsIndexOf put_home held
  index_then {P} held is = record {
    each = all_map (λ (s : Held P). (k : ℕ) (r : Record) → slice_get s.records k ≡ Some r → IsValid (extent_of r).cover → IsFound old s k r) (λ (s : Held P). (k : ℕ) (r : Record) → slice_get s.records k ≡ Some r → IsValid (extent_of r).cover → IsFound put_home s k r)
        (λ s all k r at valid. found_then s k r (all k r at valid)) held is.each;
    only = all_swap (IsBacked held) (IsBacked held) (λ d b. b) front e with_home back (λ b. record { segment = b.segment; is_held = b.is_held; k = b.k; record_ = b.record_; is_there = b.is_there; valid = b.valid; is_its = entry_then b.segment b.k b.record_ b.is_its }) is.only;
  }

  pub homed_then : (b : ℕ) → is_homed_in put_home b ≡ true → (is_homed_in old b || put b) ≡ true
  homed_then b is = ⊎_elim
      (λ in_front. or_left (is_homed_in old b) (put b) (whole_front in_front))
      (λ rest. ⊎_elim
      (λ here. ⊎_elim (λ was. or_left (is_homed_in old b) (put b) (whole_e was)) (λ now. true_or (is_homed_in old b) (put b) now) (either (is_homed e.listed b) (put b) (homed_or_put put e.listed b here)))
      (λ in_back. or_left (is_homed_in old b) (put b) (whole_back in_back))
      (either (is_homed with_home.listed b) (is_homed_in back b) rest))
      (either (is_homed_in front b) (is_homed with_home.listed b || is_homed_in back b) (sym (list_any-append (λ (d : Indexed). is_homed d.listed b) front (with_home ∷ back)) ∙ is))
    where
      parts_of : is_homed_in old b ≡ (is_homed_in front b || (is_homed e.listed b || is_homed_in back b))
      parts_of = list_any-append (λ (d : Indexed). is_homed d.listed b) front (e ∷ back)

      whole_front : is_homed_in front b ≡ true → is_homed_in old b ≡ true
      whole_front t = parts_of ∙ or_left (is_homed_in front b) (is_homed e.listed b || is_homed_in back b) t

      whole_e : is_homed e.listed b ≡ true → is_homed_in old b ≡ true
      whole_e t = parts_of ∙ true_or (is_homed_in front b) (is_homed e.listed b || is_homed_in back b) (or_left (is_homed e.listed b) (is_homed_in back b) t)

      whole_back : is_homed_in back b ≡ true → is_homed_in old b ≡ true
      whole_back t = parts_of ∙ true_or (is_homed_in front b) (is_homed e.listed b || is_homed_in back b) (true_or (is_homed e.listed b) (is_homed_in back b) t)

-- ---- The step

module _ {P : Type 0} (parts : Parts P) (base : Base) (m : ManagerSeen P) (part : P) (size : parts.size part ≡ parts.size m.home) (volume : parts.volume part ≡ parts.volume m.home) (puts : List Write) where
  -- home's images are those that it had, with the blocks put there
  pub home_put : (notes : List Noted) (ws : List Write) (front : List Indexed) (e : Indexed) (back : List Indexed) (put : ℕ → Bool) → Upholds parts base m notes ws None → m.down ≡ None → m.indexed ≡ front ++ e ∷ back
      → ((b : ℕ) → put b ≡ true → is_due (listed_in m.indexed) e.listed b ≡ true)
      → (parts.told → IsData (extents_held m.held) puts) → (parts.told → (b : ℕ) → put b ≡ true → is_some (last_written puts b) ≡ true)
      → ((x : List Block) → parts.may_be part x → (home : List Block) × parts.may_be m.home home × (x ≡ after home puts))
      → Upholds parts base (record m { home = part; indexed = put_home front e back put }) notes ws None
  home_put notes ws front e back put u up indexed due data_of all_put images = record {
    began = u.began;
    history = u.history;
    lie = u.lie;
    versioned = u.versioned;
    known = u.known;
    places = places_with_home parts base m.home part m.held m.ups size volume u.places;
    is_down = u.is_down;
    failed = λ name is. absurd (let no : None ≡ Some name = sym up ∙ is in cc);
    calm = λ none. let c = u.calm none in record {
      unbroken = c.unbroken;
      untaken = c.untaken;
      sorted = sorted_then front e back put (subst (λ (l : List Indexed). (b : ℕ) → put b ≡ true → is_due (listed_in l) e.listed b ≡ true) indexed due) (subst IsSorted indexed c.sorted);
      below = all_swap (λ (d : Indexed). d.listed.version < m.next) (λ (d : Indexed). d.listed.version < m.next) (λ d lt. lt) front e (with_home front e back put) back (λ lt. lt) (subst (AllByRecursion (λ (d : Indexed). d.listed.version < m.next)) indexed c.below);
      placed = all_swap (IsPlaced parts m.held) (IsPlaced parts m.held) (λ d is. is) front e (with_home front e back put) back (λ is. record { segment = is.segment; is_held = is.is_held; lane = is.lane; index = is.index; behind = is.behind; within = is.within }) (subst (AllByRecursion (IsPlaced parts m.held)) indexed c.placed);
      whole = λ told. let w = c.whole told in record {
        logs = w.logs;
        distinct = w.distinct;
        index = index_then front e back put m.held (subst (λ (l : List Indexed). IsIndexOf l m.held) indexed w.index);
        holds = λ x is. let from = images x is in
            fewer_homed base.array ws m.next x (extents_held m.held) (λ b. is_homed_in m.indexed b || is_some (last_written puts b)) (is_homed_in (put_home front e back put))
            (subst (λ (h : List Block). Holds base.array ws m.next h (extents_held m.held) (λ b. is_homed_in m.indexed b || is_some (last_written puts b))) (sym from.2)
            (putting_step base.array ws m.next from.0 (extents_held m.held) (is_homed_in m.indexed) puts (w.holds from.0 from.1) (data_of told)))
            (λ b homed. ⊎_elim
            (λ was. or_left (is_homed_in m.indexed b) (is_some (last_written puts b)) (subst (λ (l : List Indexed). is_homed_in l b ≡ true) (sym indexed) was))
            (λ now. true_or (is_homed_in m.indexed b) (is_some (last_written puts b)) (all_put told b now))
            (either (is_homed_in (front ++ e ∷ back) b) (put b) (homed_then front e back put b homed)));
      };
    };
    sound = λ told some. absurd (false≢true some);
    cut = λ told fl is. absurd (let no : None ≡ Some fl = is in cc);
  }

  -- putting failed: some of the blocks may be home
  pub put_breaks : (home_up : Bool) (ups : List Bool) (notes : List Noted) (n : Noted) → length ups ≡ length m.ups → Upholds parts base m notes (writes (entries_of notes)) None → flight_of (entries_of notes) ≡ None
      → n.entry.operation ≡ Broke [] → n.after_drain ≡ false → (parts.told → IsData (extents_held m.held) puts)
      → ((x : List Block) → parts.may_be part x → (home : List Block) × parts.may_be m.home home × IsBlend home (after home puts) x) → 0 < parts.faults part
      → StandsFor parts base (record m { home = part; home_up = home_up; ups = ups; down = Some HomePart }) (notes ++ n ∷ [])
  put_breaks home_up ups notes n flags u none broke unruled data_of images rose =
      broke_more parts base m (record m { home = part; home_up = home_up; ups = ups; down = Some HomePart }) notes n (writes (entries_of notes)) [] HomePart u refl none broke (λ other. refl) unruled u.lie refl refl
      u.known (places_with_home parts base m.home part m.held ups size volume places) (part, refl, rose)
      (λ told. let whole = (u.calm refl).whole told in logs_sound (λ s. parts.may_be s.part) base.owner base.home_blocks m.held whole.logs (u.known told).within whole.distinct)
      (λ told. let whole = (u.calm refl).whole told in
      putting_stops (parts.may_be part) (λ s. parts.may_be s.part) base.owner base.array (writes (entries_of notes)) m.next (is_homed_in m.indexed) m.held puts [] whole.logs (data_of told)
      (λ x is. let from = images x is in (from.0, whole.holds from.0 from.1, from.2)))
    where
      places : HasPlaces parts base m.home m.held ups
      places = let p = u.places in places_with p flags refl refl p.each p.apart
