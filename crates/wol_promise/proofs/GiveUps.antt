-- One record gives up the blocks that go: the manager upholds the same, whether or not the record keeps others.
use Rattle.std.proofs.Common.{◌≡◌, ⊎_elim, ◌<◌, ◌+◌, ℕ, Bool, true, false, not, ◌&&◌, ◌||◌, List, [], ◌∷◌, ◌++◌, map, length, None, Some, refl, sym, ap, subst, ◌∙◌, append_assoc, ltb}
use Rattle.std.specs.Prelude.{Contains}
use Rattle.std.specs.List.{AllByRecursion, list_any}
use Rattle.std.proofs.lemmas.Bool.{false≢true}
use Rattle.std.proofs.lemmas.List.{map-append}
use Rattle.wol_disk.specs.Disk.{Block}
use Rattle.wol_model.specs.Blocks.{Write}
use Rattle.wol_model.specs.Extents.{Extent, IsValid, GivesUp, covers_of, AreDistinct, has_newer, may_go, marked}
use Rattle.wol_model.specs.Holding.{Holds}
use Rattle.wol_model.specs.Index.{Listed, Indexed, listed_in, listed_covers, cover_of, is_homed, is_live, goes, keeping, AreRising, IsListed}
use Rattle.wol_model.specs.Log.{Record, IsLog, extent_of, marks_of}
use Rattle.wol_model.proofs.Counts.{both, not_true, not_false, length_remarked}
use Rattle.wol_model.proofs.Marks.{remarked_is}
use Rattle.wol_model.proofs.Steps.{giving_up_step, fewer_homed, distinct_swap}
use Rattle.wol_promise.specs.Ruled.{Noted}
use Rattle.wol_promise.specs.Manager.{Parts, Held, ManagerSeen, Base, IsEntryOf, IsIndexOf, IsSorted, extents_held, is_homed_in, WasWritten}
use Rattle.wol_promise.specs.Stands.{AreKnown, LiesInHome, LieInHome, HasPlaces, IsPlaced, IsCalm, Upholds}
use Rattle.wol_promise.proofs.Covers.{any_member, any_found, goes_is_may_go}
use Rattle.wol_promise.proofs.Known.{all_below}
use Rattle.wol_promise.proofs.Lists.{all_map, all_swap, all_front, all_back, all_joined, all_mid, member_mid, member_swap, member_insert}
use Rattle.wol_promise.proofs.LogWrites.{places_with_segment, placed_with_segment, says_owner, around}
use Rattle.wol_promise.proofs.Trims.{trimmed, index_trimmed, index_dropped}

-- ---- Fewer covers and marks in the index

-- an entry of before with the same version, at least these blocks and at least these marks of home
pub record From (old : List Indexed) (d : Indexed) : Type 0 where
  pub before : Indexed
  pub among : Contains old before
  pub version : before.listed.version ≡ d.listed.version
  pub covers : (b : ℕ) → (cover_of d.listed).covers b ≡ true → (cover_of before.listed).covers b ≡ true
  pub homed : (b : ℕ) → is_homed d.listed b ≡ true → is_homed before.listed b ≡ true

pub newer_in : (es : List Indexed) (v b : ℕ) → has_newer (listed_covers (listed_in es)) v b ≡ list_any (λ (d : Indexed). (cover_of d.listed).covers b && ltb v d.listed.version) es
newer_in [] v b = refl
newer_in (e ∷ es) v b = λ i. ((cover_of e.listed).covers b && ltb v e.listed.version) || newer_in es v b i

module _ (old new : List Indexed) (from : (d : Indexed) → Contains new d → From old d) where
  newer_before : (v b : ℕ) → has_newer (listed_covers (listed_in new)) v b ≡ true → has_newer (listed_covers (listed_in old)) v b ≡ true
  newer_before v b is =
      let found = any_found (λ (d : Indexed). (cover_of d.listed).covers b && ltb v d.listed.version) new (sym (newer_in new v b) ∙ is) in
      let was = from found.item found.among in
      let parts = both ((cover_of found.item.listed).covers b) (ltb v found.item.listed.version) found.passes in
      newer_in old v b ∙ any_member (λ (d : Indexed). (cover_of d.listed).covers b && ltb v d.listed.version) old was.before was.among (λ i. was.covers b parts.0 i && (ap (ltb v) was.version ∙ parts.1) i)

  live_still : (d : Listed) (b : ℕ) → is_live (listed_in old) d b ≡ true → is_live (listed_in new) d b ≡ true
  live_still d b is = let parts = both ((cover_of d).covers b) (not (has_newer (listed_covers (listed_in old)) d.version b)) is in
      λ i. parts.0 i && not_false (has_newer (listed_covers (listed_in new)) d.version b) (at (has_newer (listed_covers (listed_in new)) d.version b) refl (not_true (has_newer (listed_covers (listed_in old)) d.version b) parts.1)) i
    where
      at : (t : Bool) → has_newer (listed_covers (listed_in new)) d.version b ≡ t → has_newer (listed_covers (listed_in old)) d.version b ≡ false → has_newer (listed_covers (listed_in new)) d.version b ≡ false
      at true newer none = absurd (let no : true ≡ false = sym (newer_before d.version b newer) ∙ none in cc)
      at false newer none = newer

  pub listed_still : (d : Indexed) → IsListed (listed_in old) d.listed → IsListed (listed_in new) d.listed
  listed_still d is = record { marks = is.marks; homed_are_live = λ b homed. live_still d.listed b (is.homed_are_live b homed) }

  pub homed_before : (b : ℕ) → is_homed_in new b ≡ true → is_homed_in old b ≡ true
  homed_before b is = let found = any_found (λ (d : Indexed). is_homed d.listed b) new is in let was = from found.item found.among in any_member (λ (d : Indexed). is_homed d.listed b) old was.before was.among (was.homed b found.passes)

rising_drop : (front : List Indexed) (e : Indexed) (back : List Indexed) → AreRising (map (λ (d : Indexed). d.listed.version) (front ++ e ∷ back)) → AreRising (map (λ (d : Indexed). d.listed.version) (front ++ back))
rising_drop [] e back rising = rising.1
rising_drop (d ∷ front) e back rising = (at front rising.0, rising_drop front e back rising.1)
  where
    at : (l : List Indexed) → AllByRecursion (λ w. d.listed.version < w) (map (λ (x : Indexed). x.listed.version) (l ++ e ∷ back)) → AllByRecursion (λ w. d.listed.version < w) (map (λ (x : Indexed). x.listed.version) (l ++ back))
    at [] all = all.1
    at (x ∷ l) all = (all.0, at l all.1)

module _ (front : List Indexed) (e : Indexed) (back : List Indexed) where
  abbrev old : List Indexed
  old = front ++ e ∷ back

  abbrev e' : Indexed
  e' = record e { listed = keeping (listed_in old) e.listed }

  keeps_then : (b : ℕ) → (cover_of e'.listed).covers b ≡ ((cover_of e.listed).covers b && not (goes (listed_in old) e.listed b))
  keeps_then b = remarked_is e.listed.first e.listed.keep (λ c m. m && not (goes (listed_in old) e.listed c)) b refl

  homed_then : (b : ℕ) → is_homed e'.listed b ≡ (is_homed e.listed b && not (goes (listed_in old) e.listed b))
  homed_then b = remarked_is e.listed.first e.listed.homed (λ c m. m && not (goes (listed_in old) e.listed c)) b refl

  from_trimmed : (d : Indexed) → Contains (front ++ e' ∷ back) d → From old d
  from_trimmed d has = ⊎_elim
      (λ there. record { before = d; among = there; version = refl; covers = λ b is. is; homed = λ b is. is })
      (λ same. subst (From old) same (record {
        before = e;
        among = member_mid front e back;
        version = refl;
        covers = λ b is. (both ((cover_of e.listed).covers b) (not (goes (listed_in old) e.listed b)) (sym (keeps_then b) ∙ is)).0;
        homed = λ b is. (both (is_homed e.listed b) (not (goes (listed_in old) e.listed b)) (sym (homed_then b) ∙ is)).0;
      }))
      (member_swap front e' e back d has)

  from_dropped : (d : Indexed) → Contains (front ++ back) d → From old d
  from_dropped d has = record { before = d; among = member_insert front e back d has; version = refl; covers = λ b is. is; homed = λ b is. is }

  e_listed : IsListed (listed_in old) e.listed → IsListed (listed_in (front ++ e' ∷ back)) e'.listed
  e_listed is = record {
    marks = length_remarked e.listed.first e.listed.homed (λ c m. m && not (goes (listed_in old) e.listed c)) ∙ is.marks ∙ sym (length_remarked e.listed.first e.listed.keep (λ c m. m && not (goes (listed_in old) e.listed c)));
    homed_are_live = λ b homed.
        let parts = both (is_homed e.listed b) (not (goes (listed_in old) e.listed b)) (sym (homed_then b) ∙ homed) in
        let live = both ((cover_of e.listed).covers b) (not (has_newer (listed_covers (listed_in old)) e.listed.version b)) (is.homed_are_live b parts.0) in
        let still = both ((cover_of e.listed).covers b) (not (has_newer (listed_covers (listed_in (front ++ e' ∷ back))) e.listed.version b)) (live_still old (front ++ e' ∷ back) from_trimmed e.listed b (λ i. live.0 i && live.1 i)) in
        λ i. (keeps_then b ∙ (λ j. live.0 j && parts.1 j)) i && still.1 i;
  }

  sorted_trimmed : IsSorted old → IsSorted (front ++ e' ∷ back)
  sorted_trimmed is = record {
    rising = subst AreRising (map-append (λ (d : Indexed). d.listed.version) front (e ∷ back) ∙ sym (map-append (λ (d : Indexed). d.listed.version) front (e' ∷ back))) is.rising;
    listed = all_swap (λ (d : Indexed). IsListed (listed_in old) d.listed) (λ (d : Indexed). IsListed (listed_in (front ++ e' ∷ back)) d.listed) (listed_still old (front ++ e' ∷ back) from_trimmed) front e e' back e_listed is.listed;
  }

  sorted_dropped : IsSorted old → IsSorted (front ++ back)
  sorted_dropped is = record {
    rising = rising_drop front e back is.rising;
    listed = all_map (λ (d : Indexed). IsListed (listed_in old) d.listed) (λ (d : Indexed). IsListed (listed_in (front ++ back)) d.listed) (listed_still old (front ++ back) from_dropped) (front ++ back)
        (all_joined (λ (d : Indexed). IsListed (listed_in old) d.listed) front back (all_front (λ (d : Indexed). IsListed (listed_in old) d.listed) front (e ∷ back) is.listed) (all_back (λ (d : Indexed). IsListed (listed_in old) d.listed) front (e ∷ back) is.listed).1);
  }

  less : (Q : Indexed → Type 0) → AllByRecursion Q old → AllByRecursion Q (front ++ back)
  less Q all = all_joined Q front back (all_front Q front (e ∷ back) all) (all_back Q front (e ∷ back) all).1

-- ---- The step

module _ {P : Type 0} (parts : Parts P) (base : Base) (m : ManagerSeen P) (notes : List Noted) (ws : List Write) (u : Upholds parts base m notes ws None) (up : m.down ≡ None)
    (hf : List (Held P)) (old_part part : P) (lane index : ℕ) (hb : List (Held P)) (fs : List Record) (r : Record) (gs : List Record) (mask : ℕ) (front : List Indexed) (e : Indexed) (back : List Indexed)
    (held : m.held ≡ hf ++ record { part = old_part; lane = lane; index = index; broken = false; records = fs ++ r ∷ gs } ∷ hb) (indexed : m.indexed ≡ front ++ e ∷ back)
    (size : parts.size part ≡ parts.size old_part) (volume : parts.volume part ≡ parts.volume old_part)
    (logs : (bs : List Block) → parts.may_be part bs → IsLog bs base.owner (fs ++ trimmed r mask ∷ gs))
    (its : IsEntryOf (record { part = old_part; lane = lane; index = index; broken = false; records = fs ++ r ∷ gs }) (length fs) r e)
    (kept : (keeping (listed_in (front ++ e ∷ back)) e.listed).keep ≡ marks_of r.head.count mask) where
  abbrev s : Held P
  s = record { part = old_part; lane = lane; index = index; broken = false; records = fs ++ r ∷ gs }

  abbrev k : Record
  k = trimmed r mask

  abbrev t : Held P
  t = record { part = part; lane = lane; index = index; broken = false; records = fs ++ k ∷ gs }

  given : ℕ → Bool
  given b = goes (listed_in (front ++ e ∷ back)) e.listed b

  gives : GivesUp given (extent_of r) (extent_of k)
  unfolding given
  gives = record {
    version = refl;
    first = refl;
    blocks = refl;
    keeps = λ b.
        (λ i. marked (sym its.first i) (sym kept i) b) ∙ keeps_then front e back b
        ∙ (λ i. marked (its.first i) (its.keep i) b && not (goes (listed_in (front ++ e ∷ back)) e.listed b));
  }

  valid_before : IsValid (extent_of k).cover → IsValid (extent_of r).cover
  valid_before v = (v.0, (both ((extent_of r).cover.covers v.0) (not (given v.0)) (sym (gives.keeps v.0) ∙ v.1)).0)

  calm : IsCalm parts base ws m.next m.home (hf ++ s ∷ hb) (front ++ e ∷ back) m.taken
  calm = subst (λ (l : List (Held P)). IsCalm parts base ws m.next m.home l (front ++ e ∷ back) m.taken) held (subst (λ (l : List Indexed). IsCalm parts base ws m.next m.home m.held l m.taken) indexed (u.calm refl))

  places : HasPlaces parts base m.home (hf ++ s ∷ hb) m.ups
  places = subst (λ (l : List (Held P)). HasPlaces parts base m.home l m.ups) held u.places

  known : parts.told → AreKnown base m.next ws [] (hf ++ s ∷ hb)
  known told = subst (AreKnown base m.next ws []) held (u.known told)

  Was : Record → Type 0
  Was q = IsValid (extent_of q).cover → WasWritten (base.records ++ (ws ++ [])) q

  Low : Record → Type 0
  Low q = (IsValid (extent_of q).cover → ⊥) → q.head.version < m.next

  known_then : parts.told → AreKnown base m.next ws [] (hf ++ t ∷ hb)
  unfolding Was Low
  known_then told = record {
    written = all_swap (λ (v : Held P). AllByRecursion Was v.records) (λ (v : Held P). AllByRecursion Was v.records) (λ v all. all) hf s t hb
        (λ all. all_swap Was Was (λ q was. was) fs r k gs (λ was v. let w = was (valid_before v) in (w.0, w.1, record { version = w.2.version; first = w.2.first; blocks = w.2.blocks })) all) (known told).written;
    below = all_swap (λ (v : Held P). AllByRecursion Low v.records) (λ (v : Held P). AllByRecursion Low v.records) (λ v all. all) hf s t hb
        (λ all. all_swap Low Low (λ q low. low) fs r k gs (λ low none. r_low) all) (known told).below;
    within = all_swap (LieInHome base.home_blocks) (LieInHome base.home_blocks) (λ v all. all) hf s t hb (λ all. all_swap (LiesInHome base.home_blocks) (LiesInHome base.home_blocks) (λ q lies. lies) fs r k gs (λ lies. lies) all) (known told).within;
  }
    where
      r_low : r.head.version < m.next
      r_low = all_mid (λ (q : Record). q.head.version < m.next) fs r gs (all_mid (λ (v : Held P). AllByRecursion (λ (q : Record). q.head.version < m.next) v.records) hf s hb (all_below base m.next ws (hf ++ s ∷ hb) u.versioned (known told)))

  extents_are : (q : Record) (p : P) → extents_held (hf ++ record { part = p; lane = lane; index = index; broken = false; records = fs ++ q ∷ gs } ∷ hb) ≡ (extents_held hf ++ map extent_of fs) ++ extent_of q ∷ (map extent_of gs ++ extents_held hb)
  extents_are q p = around hf (record { part = p; lane = lane; index = index; broken = false; records = fs ++ q ∷ gs }) hb
      ∙ ap (λ (l : List Extent). extents_held hf ++ (l ++ extents_held hb)) (map-append extent_of fs (q ∷ gs))
      ∙ ap (λ (l : List Extent). extents_held hf ++ l) (append_assoc (map extent_of fs) (extent_of q ∷ map extent_of gs) (extents_held hb))
      ∙ sym (append_assoc (extents_held hf) (map extent_of fs) (extent_of q ∷ (map extent_of gs ++ extents_held hb)))

  module _ (new : List Indexed) (from : (d : Indexed) → Contains new d → From (front ++ e ∷ back) d) (sorted : IsSorted new) (below : AllByRecursion (λ (d : Indexed). d.listed.version < m.next) new) (placed : AllByRecursion (IsPlaced parts (hf ++ s ∷ hb)) new)
      (index_is : parts.told → IsIndexOf new (hf ++ t ∷ hb)) where
    gives_up : Upholds parts base (record m { held = hf ++ t ∷ hb; indexed = new }) notes ws None
    unfolding given
    gives_up = record {
      began = u.began;
      history = u.history;
      lie = u.lie;
      versioned = u.versioned;
      known = known_then;
      places = places_with_segment parts base m.home hf s t hb m.ups refl refl size volume (λ bs is. says_owner base.owner bs (fs ++ k ∷ gs) (logs bs is)) places;
      is_down = u.is_down;
      failed = λ name is. absurd (let no : None ≡ Some name = sym up ∙ is in cc);
      calm = λ none. record {
        unbroken = all_swap (λ (v : Held P). v.broken ≡ false) (λ (v : Held P). v.broken ≡ false) (λ v is. is) hf s t hb (λ is. refl) calm.unbroken;
        untaken = calm.untaken;
        sorted = sorted;
        below = below;
        placed = all_map (IsPlaced parts (hf ++ s ∷ hb)) (IsPlaced parts (hf ++ t ∷ hb)) (λ d is. placed_with_segment parts hf s t hb refl refl size d is) new placed;
        whole = λ told. let w = calm.whole told in record {
          logs = all_swap (λ (v : Held P). (bs : List Block) → parts.may_be v.part bs → IsLog bs base.owner v.records) (λ (v : Held P). (bs : List Block) → parts.may_be v.part bs → IsLog bs base.owner v.records) (λ v log. log) hf s t hb (λ log. logs) w.logs;
          distinct = subst (λ (l : List Extent). AreDistinct (covers_of l)) (sym (extents_are k part)) (distinct_swap (extents_held hf ++ map extent_of fs) (map extent_of gs ++ extents_held hb) (extent_of r) (extent_of k) refl valid_before
              (subst (λ (l : List Extent). AreDistinct (covers_of l)) (extents_are r old_part) w.distinct));
          index = index_is told;
          holds = λ home is.
              subst (λ (l : List Extent). Holds base.array ws m.next home l (is_homed_in new)) (sym (extents_are k part))
              (fewer_homed base.array ws m.next home ((extents_held hf ++ map extent_of fs) ++ extent_of k ∷ (map extent_of gs ++ extents_held hb)) (is_homed_in (front ++ e ∷ back)) (is_homed_in new)
              (giving_up_step base.array ws m.next home (extents_held hf ++ map extent_of fs) (map extent_of gs ++ extents_held hb) (is_homed_in (front ++ e ∷ back)) given (extent_of r) (extent_of k)
              (subst (λ (l : List Extent). Holds base.array ws m.next home l (is_homed_in (front ++ e ∷ back))) (extents_are r old_part) (w.holds home is))
              (λ b goes_. subst (λ (l : List Extent). may_go (covers_of l) (is_homed_in (front ++ e ∷ back)) (extent_of r).cover b ≡ true) (extents_are r old_part) (may w.index b goes_))
              gives)
              (homed_before (front ++ e ∷ back) new from));
        };
      };
      sound = λ told some. absurd (false≢true some);
      cut = λ told fl is. absurd (let no : None ≡ Some fl = is in cc);
    }
      where
        may : IsIndexOf (front ++ e ∷ back) (hf ++ s ∷ hb) → (b : ℕ) → given b ≡ true → may_go (covers_of (extents_held (hf ++ s ∷ hb))) (is_homed_in (front ++ e ∷ back)) (extent_of r).cover b ≡ true
        may is b goes_ = goes_is_may_go (hf ++ s ∷ hb) (front ++ e ∷ back) s (length fs) r e b is its (member_mid front e back) goes_

  -- the record keeps other blocks
  pub trims : IsValid (extent_of k).cover → Upholds parts base (record m { held = hf ++ t ∷ hb; indexed = front ++ record e { listed = keeping (listed_in (front ++ e ∷ back)) e.listed } ∷ back }) notes ws None
  trims valid = gives_up (front ++ e' front e back ∷ back) (from_trimmed front e back) (sorted_trimmed front e back calm.sorted)
      (all_swap (λ (d : Indexed). d.listed.version < m.next) (λ (d : Indexed). d.listed.version < m.next) (λ d lt. lt) front e (e' front e back) back (λ lt. lt) calm.below)
      (all_swap (IsPlaced parts (hf ++ s ∷ hb)) (IsPlaced parts (hf ++ s ∷ hb)) (λ d is. is) front e (e' front e back) back
      (λ is. record { segment = is.segment; is_held = is.is_held; lane = is.lane; index = is.index; behind = is.behind; within = subst (λ (n : ℕ). e.pos + n < parts.size is.segment.part) (sym (length_remarked e.listed.first e.listed.keep (λ c x. x && not (goes (listed_in (front ++ e ∷ back)) e.listed c)))) is.within }) calm.placed)
      (λ told. index_trimmed hf old_part part lane index hb fs r gs mask front e back its kept valid places.apart calm.sorted.rising (calm.whole told).index)

  -- the record keeps none and leaves the index
  pub drops : (IsValid (extent_of k).cover → ⊥) → Upholds parts base (record m { held = hf ++ t ∷ hb; indexed = front ++ back }) notes ws None
  drops gone = gives_up (front ++ back) (from_dropped front e back) (sorted_dropped front e back calm.sorted)
      (less front e back (λ (d : Indexed). d.listed.version < m.next) calm.below) (less front e back (IsPlaced parts (hf ++ s ∷ hb)) calm.placed)
      (λ told. index_dropped hf old_part part lane index hb fs r gs mask front e back its gone places.apart calm.sorted.rising (calm.whole told).index)
