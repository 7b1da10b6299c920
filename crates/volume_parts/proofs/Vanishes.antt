-- Records that give up blocks, and segments that fail or go: what a manager upholds then.
use Rattle.std.proofs.Common.{◌≡◌, ◌⊎◌, inl, ⊎_elim, ◌<◌, ℕ, Bool, true, false, not, ◌&&◌, ◌||◌, List, [], ◌∷◌, ◌++◌, map, length, None, Some, refl, sym, ap, subst, ◌∙◌, append_assoc}
use Rattle.std.specs.Prelude.{slice_get}
use Rattle.std.specs.List.{AllByRecursion, AllZip, list_any}
use Rattle.std.proofs.lemmas.Bool.{false≢true}
use Rattle.std.proofs.lemmas.Grind.{flat_map-append}
use Rattle.std.proofs.lemmas.List.{map-append}
use Rattle.wol_disk.specs.Disk.{Block}
use Rattle.wol_model.specs.Blocks.{Write}
use Rattle.wol_model.specs.Extents.{Extent, IsValid, GivesUp, covers_of, may_go, marked}
use Rattle.wol_model.specs.History.{Broke, writes, flight_of, IsCut}
use Rattle.wol_model.specs.Holding.{Holds}
use Rattle.wol_model.specs.Index.{Indexed, listed_in, is_homed, goes, keeping}
use Rattle.wol_model.specs.Log.{Record, IsLog, IsIdle, extent_of, marks_of}
use Rattle.wol_model.proofs.Marks.{remarked_is}
use Rattle.wol_model.proofs.Steps.{giving_up_step, fewer_homed, empty_step}
use Rattle.wol_promise.specs.Ruled.{Noted, entries_of}
use Rattle.wol_promise.specs.Manager.{Parts, SegmentPart, Held, ManagerSeen, Base, IsEntryOf, IsIndexOf, extents_held, is_homed_in, Recovers, SaysOwnerOrFree, WasWritten}
use Rattle.wol_promise.specs.Stands.{AreKnown, LieInHome, IsHeldBy, HasPlaces, IsPlaced, IsWhole, Upholds, StandsFor}
use Rattle.wol_promise.proofs.Broke.{broke_more}
use Rattle.wol_promise.proofs.Choices.{AreLogs}
use Rattle.wol_promise.proofs.Covers.{goes_is_may_go}
use Rattle.wol_promise.proofs.GiveUps.{drops}
use Rattle.wol_promise.proofs.Lists.{all_map, all_swap, all_parts, all_front, all_back, all_joined, member_mid}
use Rattle.wol_promise.proofs.LogWrites.{places_with_segment, around}
use Rattle.wol_promise.proofs.Places.{places_with, calm_with}
use Rattle.wol_promise.proofs.Retires.{AreEmpty, given_back, retires}
use Rattle.wol_promise.proofs.SegmentBreaks.{IsQuiet, quiet_stops}
use Rattle.wol_promise.proofs.SoundSegments.{IsSoundBetween, one_sound}
use Rattle.wol_promise.proofs.Stops.{still_stops}
use Rattle.wol_promise.proofs.Trims.{trimmed}

-- ---- a record that gives up what goes

-- records that keep nothing are forgotten one by one
forgotten : (a : List Block) (ws : List Write) (next : ℕ) (home : List Block) (front : List Extent) (rs : List Record) (back : List Extent) (homed : ℕ → Bool) → AreEmpty rs
    → Holds a ws next home (front ++ (map extent_of rs ++ back)) homed → Holds a ws next home (front ++ back) homed
forgotten a ws next home front [] back homed none holds = holds
forgotten a ws next home front (r ∷ rs) back homed none holds = forgotten a ws next home front rs back homed none.1 (empty_step a ws next home front (map extent_of rs ++ back) homed (extent_of r) holds none.0)

-- what an index calls homed without one entry it called so with it
fewer_marks : (front : List Indexed) (e : Indexed) (back : List Indexed) (b : ℕ) → list_any (λ (d : Indexed). is_homed d.listed b) (front ++ back) ≡ true → list_any (λ (d : Indexed). is_homed d.listed b) (front ++ e ∷ back) ≡ true
fewer_marks [] e back b is = (λ i. is_homed e.listed b || is i) ∙ or_true (is_homed e.listed b)
  where
    or_true : (t : Bool) → (t || true) ≡ true
    or_true true = refl
    or_true false = refl
fewer_marks (d ∷ front) e back b is = at (is_homed d.listed b) is (fewer_marks front e back b)
  where
    at : (t : Bool) → (t || list_any (λ (d : Indexed). is_homed d.listed b) (front ++ back)) ≡ true
        → (list_any (λ (d : Indexed). is_homed d.listed b) (front ++ back) ≡ true → list_any (λ (d : Indexed). is_homed d.listed b) (front ++ e ∷ back) ≡ true) → (t || list_any (λ (d : Indexed). is_homed d.listed b) (front ++ e ∷ back)) ≡ true
    at true rest so = refl
    at false rest so = so rest

module _ {P : Type 0} (hf : List (Held P)) (old_part : P) (lane index : ℕ) (hb : List (Held P)) (fs : List Record) (r : Record) (gs : List Record) (mask : ℕ) (es : List Indexed) (e : Indexed)
    (its : IsEntryOf (record { part = old_part; lane = lane; index = index; broken = false; records = fs ++ r ∷ gs }) (length fs) r e) (kept : (keeping (listed_in es) e.listed).keep ≡ marks_of r.head.count mask) where
  -- the record as it is trimmed is without the blocks that go
  pub gives_up : GivesUp (λ b. goes (listed_in es) e.listed b) (extent_of r) (extent_of (trimmed r mask))
  gives_up = record {
    version = refl;
    first = refl;
    blocks = refl;
    keeps = λ b.
        (λ i. marked (sym its.first i) (sym kept i) b) ∙ remarked_is e.listed.first e.listed.keep (λ c m. m && not (goes (listed_in es) e.listed c)) b refl
        ∙ (λ i. marked (its.first i) (its.keep i) b && not (goes (listed_in es) e.listed b));
  }

  -- the extents around it
  pub extents_are : (q : Record) (p : P) → extents_held (hf ++ record { part = p; lane = lane; index = index; broken = false; records = fs ++ q ∷ gs } ∷ hb) ≡ (extents_held hf ++ map extent_of fs) ++ extent_of q ∷ (map extent_of gs ++ extents_held hb)
  extents_are q p = around hf (record { part = p; lane = lane; index = index; broken = false; records = fs ++ q ∷ gs }) hb
      ∙ ap (λ (l : List Extent). extents_held hf ++ (l ++ extents_held hb)) (map-append extent_of fs (q ∷ gs))
      ∙ ap (λ (l : List Extent). extents_held hf ++ l) (append_assoc (map extent_of fs) (extent_of q ∷ map extent_of gs) (extents_held hb))
      ∙ sym (append_assoc (extents_held hf) (map extent_of fs) (extent_of q ∷ (map extent_of gs ++ extents_held hb)))

  module _ (a : List Block) (ws : List Write) (next : ℕ) (homed : ℕ → Bool)
      (may : (b : ℕ) → goes (listed_in es) e.listed b ≡ true → may_go (covers_of (extents_held (hf ++ record { part = old_part; lane = lane; index = index; broken = false; records = fs ++ r ∷ gs } ∷ hb))) homed (extent_of r).cover b ≡ true) where
    -- an image of home holds what it held
    pub holds_trimmed : (part : P) (home : List Block) → Holds a ws next home (extents_held (hf ++ record { part = old_part; lane = lane; index = index; broken = false; records = fs ++ r ∷ gs } ∷ hb)) homed
        → Holds a ws next home (extents_held (hf ++ record { part = part; lane = lane; index = index; broken = false; records = fs ++ trimmed r mask ∷ gs } ∷ hb)) homed
    holds_trimmed part home holds = subst (λ (l : List Extent). Holds a ws next home l homed) (sym (extents_are (trimmed r mask) part))
        (giving_up_step a ws next home (extents_held hf ++ map extent_of fs) (map extent_of gs ++ extents_held hb) homed (λ b. goes (listed_in es) e.listed b) (extent_of r) (extent_of (trimmed r mask))
        (subst (λ (l : List Extent). Holds a ws next home l homed) (extents_are r old_part) holds)
        (λ b given. subst (λ (l : List Extent). may_go (covers_of l) homed (extent_of r).cover b ≡ true) (extents_are r old_part) (may b given)) gives_up)

    -- also where no record of the segment keeps a block then, and it is gone
    pub holds_without : AreEmpty (fs ++ trimmed r mask ∷ gs) → (home : List Block) → Holds a ws next home (extents_held (hf ++ record { part = old_part; lane = lane; index = index; broken = false; records = fs ++ r ∷ gs } ∷ hb)) homed
        → Holds a ws next home (extents_held (hf ++ hb)) homed
    holds_without empty home holds = subst (λ (l : List Extent). Holds a ws next home l homed) (sym (flat_map-append (λ (v : Held P). map extent_of v.records) hf hb))
        (forgotten a ws next home (extents_held hf) (fs ++ trimmed r mask ∷ gs) (extents_held hb) homed empty
        (subst (λ (l : List Extent). Holds a ws next home l homed) (around hf (record { part = old_part; lane = lane; index = index; broken = false; records = fs ++ trimmed r mask ∷ gs }) hb) (holds_trimmed old_part home holds)))

-- ---- choices in parts

module _ {P : Type 0} (of_held : Held P → List Block → Type 0) (owner : ℕ) where
  -- the image of one segment of a choice, and the choice with another segment there; the others are logs
  record Split (front : List (Held P)) (u : Held P) (back : List (Held P)) (images : List (List Block)) : Type 1 where
    here : List Block
    of_here : of_held u here
    then_ : (S : Held P → List Block → Type 0) (v : Held P) → ((x : Held P) (bs : List Block) → IsLog bs owner x.records → S x bs) → S v here → AllZip S (front ++ v ∷ back) images

  logs_as : (S : Held P → List Block → Type 0) → ((x : Held P) (bs : List Block) → IsLog bs owner x.records → S x bs) → (held : List (Held P)) (images : List (List Block)) → AreLogs of_held owner held → AllZip of_held held images → AllZip S held images
  logs_as S so [] [] logs zip = tt
  logs_as S so [] (bs ∷ images) logs zip = absurd zip
  logs_as S so (s ∷ held) [] logs zip = absurd zip
  logs_as S so (s ∷ held) (bs ∷ images) logs zip = (so s bs (logs.0 bs zip.0), logs_as S so held images logs.1 zip.1)

  split_at : (front : List (Held P)) (u : Held P) (back : List (Held P)) (images : List (List Block)) → AreLogs of_held owner front → AreLogs of_held owner back → AllZip of_held (front ++ u ∷ back) images → Split front u back images
  split_at [] u back [] fl bl zip = absurd zip
  split_at [] u back (bs ∷ images) fl bl zip = record { here = bs; of_here = zip.0; then_ = λ S v so at. (at, logs_as S so back images bl zip.1) }
  split_at (s ∷ front) u back [] fl bl zip = absurd zip
  split_at (s ∷ front) u back (bs ∷ images) fl bl zip =
      let rest = split_at front u back images fl.1 bl zip.1 in
      record { here = rest.here; of_here = rest.of_here; then_ = λ S v so at. (so s bs (fl.0 bs zip.0), rest.then_ S v so at) }

  -- whichever of the old records, the trimmed ones or none the segment's image has, the array is recovered
  pub three_stops : (of_home : List Block → Type 0) (a : List Block) (ws flight : List Write) (next : ℕ) (homed : ℕ → Bool) (front back : List (Held P)) (u s t : Held P)
      → AreLogs of_held owner front → AreLogs of_held owner back
      → ((bs : List Block) → of_held u bs → IsLog bs owner s.records ⊎ (IsLog bs owner t.records ⊎ (AreEmpty t.records × IsIdle bs)))
      → ((home : List Block) → of_home home → Holds a ws next home (extents_held (front ++ s ∷ back)) homed)
      → ((home : List Block) → of_home home → Holds a ws next home (extents_held (front ++ t ∷ back)) homed)
      → Recovers of_home of_held owner (front ++ u ∷ back) (IsCut a ws flight)
  three_stops of_home a ws flight next homed front back u s t fl bl image holds_s holds_t home segments is choice = ⊎_elim
      (λ log. still_stops of_home Log owner a ws next homed (front ++ s ∷ back) flight (all_logs (front ++ s ∷ back)) holds_s home segments is (cut.then_ Log s (λ x bs l. l) log))
      (λ other. quiet_stops of_home Quiet owner a ws flight next homed (front ++ t ∷ back) (all_quiet (front ++ t ∷ back)) holds_t home segments is (cut.then_ Quiet t (λ x bs l. inl l) other))
      (image cut.here cut.of_here)
    where
      Log : Held P → List Block → Type 0
      Log x bs = IsLog bs owner x.records

      Quiet : Held P → List Block → Type 0
      Quiet x bs = IsLog bs owner x.records ⊎ (AreEmpty x.records × IsIdle bs)

      cut : Split front u back segments
      cut = split_at front u back segments fl bl choice

      all_logs : (held : List (Held P)) → AreLogs Log owner held
      all_logs [] = tt
      all_logs (x ∷ held) = ((λ bs log. log), all_logs held)

      all_quiet : (held : List (Held P)) → AllByRecursion (IsQuiet Quiet owner) held
      all_quiet [] = tt
      all_quiet (x ∷ held) = ((λ bs q. q), all_quiet held)

-- ---- a call of the segment that failed

module _ {P : Type 0} (parts : Parts P) (base : Base) (m : ManagerSeen P) (home_up : Bool) (ups : List Bool) (flags : length ups ≡ length m.ups) (notes : List Noted) (n : Noted)
    (u : Upholds parts base m notes (writes (entries_of notes)) None) (none : flight_of (entries_of notes) ≡ None) (broke : n.entry.operation ≡ Broke []) (unruled : n.after_drain ≡ false)
    (front : List (Held P)) (s : Held P) (back : List (Held P)) (part : P) (held : m.held ≡ front ++ s ∷ back) (size : parts.size part ≡ parts.size s.part) (volume : parts.volume part ≡ parts.volume s.part)
    (logger : ℕ) (named : slice_get base.view s.lane ≡ Some logger) (rose : 0 < parts.faults part) where
  abbrev t : Held P
  t = record s { part = part; broken = true }

  abbrev pub failed_segment : ManagerSeen P
  failed_segment = record m { held = front ++ t ∷ back; home_up = home_up; ups = ups; down = Some (SegmentPart logger s.index) }

  places : HasPlaces parts base m.home (front ++ s ∷ back) ups
  places = let p = subst (λ (l : List (Held P)). HasPlaces parts base m.home l m.ups) held u.places in places_with p flags refl refl p.each p.apart

  abbrev Written : Held P → Type 0
  Written v = AllByRecursion (λ q. IsValid (extent_of q).cover → WasWritten (base.records ++ (writes (entries_of notes) ++ [])) q) v.records

  abbrev Logs : Held P → Type 0
  Logs v = (bs : List Block) → parts.may_be v.part bs → IsLog bs base.owner v.records

  abbrev Below : Held P → Type 0
  Below v = AllByRecursion (λ q. (IsValid (extent_of q).cover → ⊥) → q.head.version < m.next) v.records

  known : parts.told → AreKnown base m.next (writes (entries_of notes)) [] (front ++ t ∷ back)
  known told = let k = subst (AreKnown base m.next (writes (entries_of notes)) []) held (u.known told) in record {
    written = all_swap Written Written (λ v all. all) front s t back (λ all. all) k.written;
    below = all_swap Below Below (λ v all. all) front s t back (λ all. all) k.below;
    within = all_swap (LieInHome base.home_blocks) (LieInHome base.home_blocks) (λ v all. all) front s t back (λ all. all) k.within;
  }

  pub segment_breaks : ((bs : List Block) → parts.may_be part bs → SaysOwnerOrFree base.owner bs)
      → (parts.told → (bs : List Block) → parts.may_be part bs → IsSoundBetween base.owner base.home_blocks front back bs)
      → (parts.told → Recovers (parts.may_be m.home) (λ v. parts.may_be v.part) base.owner (front ++ record s { part = part; broken = true } ∷ back) (IsCut base.array (writes (entries_of notes)) [])) → StandsFor parts base failed_segment (notes ++ n ∷ [])
  segment_breaks owned between cut = broke_more parts base m failed_segment notes n (writes (entries_of notes)) [] (SegmentPart logger s.index) u refl none broke (λ other. refl) unruled u.lie refl refl known
      (places_with_segment parts base m.home front s t back ups refl refl size volume owned places) (part, (t, member_mid front t back, named, refl, refl), rose)
      (λ told. let sides = all_parts Logs front s back (subst (AllByRecursion Logs) held ((u.calm refl).whole told).logs) in let within = all_parts (LieInHome base.home_blocks) front t back (known told).within in
      one_sound (λ v. parts.may_be v.part) base.owner base.home_blocks front back t sides.0 sides.1 within.0 within.1 (between told)) cut

-- ---- the same parts without images: what is said of the index and of records alone stays

module _ {P : Type 0} (parts : Parts P) where
  abbrev blind : Parts P
  blind = record { told = parts.told; may_be = λ p bs. ⊥; size = parts.size; volume = parts.volume; faults = parts.faults }

  as_blind : (l : List (Held P)) (es : List Indexed) → AllByRecursion (IsPlaced parts l) es → AllByRecursion (IsPlaced blind l) es
  as_blind l es all = all_map (IsPlaced parts l) (IsPlaced blind l) (λ d is. record { segment = is.segment; is_held = is.is_held; lane = is.lane; index = is.index; behind = is.behind; within = is.within }) es all

  unseen : (base : Base) (m : ManagerSeen P) (notes : List Noted) (ws : List Write) → Upholds parts base m notes ws None → Upholds blind base m notes ws None
  unseen base m notes ws u = record {
    began = u.began;
    history = u.history;
    lie = u.lie;
    versioned = u.versioned;
    known = u.known;
    places = let p = u.places in places_with p refl refl refl
        (all_map (IsHeldBy parts base) (IsHeldBy blind base) (λ v by. record { logger = by.logger; room = by.room; owned = λ bs no. absurd no }) m.held p.each) p.apart;
    is_down = u.is_down;
    failed = u.failed;
    calm = λ none. let c = u.calm none in calm_with c (as_blind m.held m.indexed c.placed) (λ told. let w = c.whole told in record {
      logs = all_map (λ (v : Held P). (bs : List Block) → parts.may_be v.part bs → IsLog bs base.owner v.records) (λ (v : Held P). (bs : List Block) → blind.may_be v.part bs → IsLog bs base.owner v.records) (λ v log bs no. absurd no) m.held w.logs;
      distinct = w.distinct;
      index = w.index;
      holds = λ image no. absurd no;
    });
    sound = λ told some. absurd (false≢true some);
    cut = λ told fl is. absurd (let no : None ≡ Some fl = is in cc);
  }

-- ---- a segment that is given back with its last record

module _ {P : Type 0} (parts : Parts P) (base : Base) (m : ManagerSeen P) (notes : List Noted) (ws : List Write) (u : Upholds parts base m notes ws None) (up : m.down ≡ None)
    (hf : List (Held P)) (old_part : P) (lane index : ℕ) (hb : List (Held P)) (fs : List Record) (r : Record) (gs : List Record) (mask : ℕ) (front : List Indexed) (e : Indexed) (back : List Indexed)
    (held : m.held ≡ hf ++ record { part = old_part; lane = lane; index = index; broken = false; records = fs ++ r ∷ gs } ∷ hb) (indexed : m.indexed ≡ front ++ e ∷ back)
    (its : IsEntryOf (record { part = old_part; lane = lane; index = index; broken = false; records = fs ++ r ∷ gs }) (length fs) r e)
    (kept : (keeping (listed_in (front ++ e ∷ back)) e.listed).keep ≡ marks_of r.head.count mask)
    (empty : parts.told → AreEmpty (fs ++ trimmed r mask ∷ gs)) (gone : IsValid (extent_of (trimmed r mask)).cover → ⊥)
    (elsewhere : AllByRecursion (IsPlaced parts (hf ++ hb)) (front ++ back)) where
  abbrev s : Held P
  s = record { part = old_part; lane = lane; index = index; broken = false; records = fs ++ r ∷ gs }

  without : Upholds (blind parts) base (record m { held = hf ++ hb; indexed = front ++ back }) notes ws None
  without = retires (blind parts) base (record m { held = hf ++ record { part = old_part; lane = lane; index = index; broken = false; records = fs ++ trimmed r mask ∷ gs } ∷ hb; indexed = front ++ back }) notes ws hf
      (record { part = old_part; lane = lane; index = index; broken = false; records = fs ++ trimmed r mask ∷ gs }) hb
      (drops (blind parts) base m notes ws (unseen parts base m notes ws u) up hf old_part old_part lane index hb fs r gs mask front e back held indexed refl refl (λ bs no. absurd no) its kept gone) up refl empty
      (as_blind parts (hf ++ hb) (front ++ back) elsewhere)

  less : (Q : Held P → Type 0) → AllByRecursion Q m.held → AllByRecursion Q (hf ++ hb)
  less Q all = let l = subst (AllByRecursion Q) held all in all_joined Q hf hb (all_front Q hf (s ∷ hb) l) (all_back Q hf (s ∷ hb) l).1

  pub vanishes : Upholds parts base (record m { held = hf ++ hb; indexed = front ++ back }) notes ws None
  vanishes = given_back parts base m notes ws hf s hb u up held (front ++ back) (calm_with (without.calm refl) elsewhere (λ told. let w = (without.calm refl).whole told in let old = (u.calm refl).whole told in record {
    logs = less (λ (v : Held P). (bs : List Block) → parts.may_be v.part bs → IsLog bs base.owner v.records) old.logs;
    distinct = w.distinct;
    index = w.index;
    holds = λ home is. fewer_homed base.array ws m.next home (extents_held (hf ++ hb)) (is_homed_in m.indexed) (is_homed_in (front ++ back))
        (holds_without hf old_part lane index hb fs r gs mask (front ++ e ∷ back) e its kept base.array ws m.next (is_homed_in m.indexed) (may old) (empty told) home
        (subst (λ (l : List (Held P)). Holds base.array ws m.next home (extents_held l) (is_homed_in m.indexed)) held (old.holds home is)))
        (λ b homed. subst (λ (l : List Indexed). is_homed_in l b ≡ true) (sym indexed) (fewer_marks front e back b homed));
  }))
    where
      may : IsWhole parts base ws m.next m.home m.held m.indexed → (b : ℕ) → goes (listed_in (front ++ e ∷ back)) e.listed b ≡ true → may_go (covers_of (extents_held (hf ++ s ∷ hb))) (is_homed_in m.indexed) (extent_of r).cover b ≡ true
      may w b given = subst (λ (l : List Indexed). may_go (covers_of (extents_held (hf ++ s ∷ hb))) (is_homed_in l) (extent_of r).cover b ≡ true) (sym indexed)
          (goes_is_may_go (hf ++ s ∷ hb) (front ++ e ∷ back) s (length fs) r e b (subst (λ (l : List Indexed). IsIndexOf l (hf ++ s ∷ hb)) indexed (subst (IsIndexOf m.indexed) held w.index)) its (member_mid front e back) given)
