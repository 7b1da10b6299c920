-- Several records that are written to one segment together: what a manager upholds with them.
use Rattle.std.proofs.Common.{◌≡◌, false, List, ◌∷◌, ◌++◌, None, Some, refl, sym, subst, ◌∙◌, ◌<◌, ◌≤◌, ℕ, zero, suc, ◌+◌, Bool, not, ◌&&◌, [], map, length, take, ap, arith, append_assoc, inl, ◌^◌, true, ◌||◌, length-append}
use Rattle.std.specs.List.{AllByRecursion, flat_map}
use Rattle.std.specs.Prelude.{Contains, slice_get, IsTrue, is_some}
use Rattle.std.proofs.Math.Bool.{or-false}
use Rattle.std.proofs.lemmas.Bool.{false≢true}
use Rattle.std.proofs.lemmas.List.{map-append, append-nil}
use Rattle.std.proofs.lemmas.List.Folds.{list_any-append}
use Rattle.std.proofs.lemmas.List.FromFn.{length-map-range_with_len}
use Rattle.std.proofs.lemmas.Grind.{flat_map-append}
use Rattle.wol_model.specs.Blocks.{Write, after}
use Rattle.wol_model.specs.Log.{Record, IsLog, extent_of, has_bit, marks_of, written, end_of}
use Rattle.wol_promise.specs.Ruled.{Noted, entries_of, IsStep, last_look}
use Rattle.wol_promise.specs.Manager.{Parts, Held, ManagerSeen, Base, Recovers, extents_held, SegmentPart, look_of, is_homed_in, WasWritten, AllRecords, SaysOwnerOrFree, IsIndexOf, IsSorted}
use Rattle.wol_promise.specs.Stands.{IsHeldBy, HasPlaces, IsPlaced, IsCalm, Upholds, AreKnown, HasVersions, LiesInHome, LieInHome, LiesInVolume, StandsFor}
use Rattle.wol_promise.proofs.Lists.{all_map, all_swap, all_back, all_front, all_joined, all_push, all_parts, all_mid, member_mid, member_of}
use Rattle.wol_promise.proofs.LogWrites.{places_with_segment, placed_with_segment, says_owner, around, low_extents}
use Rattle.wol_promise.proofs.Places.{places_with}
use Rattle.wol_disk.specs.Disk.{Block}
use Rattle.wol_model.specs.Extents.{Extent, KeepsAll, write_of, covers_of, AreDistinct, with_extents, IsValid}
use Rattle.wol_model.specs.History.{IsCut, whole, Wrote, Broke, worker, writes, flight_of, IsLegalNext}
use Rattle.wol_model.specs.Holding.{Holds}
use Rattle.wol_model.specs.Recovered.{extents_in, recovered}
use Rattle.wol_model.proofs.Steps.{logging_step, distinct_more}
use Rattle.wol_promise.proofs.Choices.{AreLogs}
use Rattle.wol_promise.proofs.Stops.{Split, split_choice, choice_around}
use mathlib.Core.Path.{fun_ext}
use Rattle.wol_model.specs.Index.{Indexed, is_homed}
use Rattle.wol_model.proofs.Images.{kept}
use Rattle.wol_model.proofs.Marks.{remarked_is, none_marked}
use Rattle.wol_promise.proofs.OneMore.{history_more, writes_then, flight_then, stands_then, or_none}
use Rattle.wol_promise.proofs.Known.{versions_with_log, acknowledged, is_new, all_below}
use Rattle.wol_promise.proofs.Index.{cleared, grown, entry_of, indexed_with, index_grows, sorted_grows}
use Rattle.wol_promise.proofs.Broke.{broke_more}
use Rattle.wol_promise.proofs.HomeWrites.{lie_more, lie_flying, known_flying}
use Rattle.wol_promise.proofs.SoundSegments.{sound_log, one_sound}

module _ {P : Type 0} (parts : Parts P) (base : Base) (m : ManagerSeen P) (notes : List Noted) (ws : List Write) (front back : List (Held P)) (s : Held P)
    (u : Upholds parts base m notes ws None) (up : m.down ≡ None) (held : m.held ≡ front ++ s ∷ back) (untold : parts.told → ⊥) where
  -- one segment's records may be any
  pub other_records : (rs : List Record) → Upholds parts base (record m { held = front ++ record s { records = rs } ∷ back }) notes ws None
  other_records rs = record {
    began = u.began;
    history = u.history;
    lie = u.lie;
    versioned = u.versioned;
    known = λ told. absurd (untold told);
    places = places_with_segment parts base m.home front s (record s { records = rs }) back m.ups refl refl refl refl (all_at_mid places.each).owned places;
    is_down = u.is_down;
    failed = λ name is. absurd (let no : None ≡ Some name = sym up ∙ is in cc);
    calm = λ none. let c = subst (λ (l : List (Held P)). IsCalm parts base ws m.next m.home l m.indexed m.taken) held (u.calm none) in record {
      unbroken = all_swap (λ (t : Held P). t.broken ≡ false) (λ (t : Held P). t.broken ≡ false) (λ t is. is) front s (record s { records = rs }) back (λ is. is) c.unbroken;
      untaken = c.untaken;
      sorted = c.sorted;
      below = c.below;
      placed = all_map (IsPlaced parts (front ++ s ∷ back)) (IsPlaced parts (front ++ record s { records = rs } ∷ back)) (placed_with_segment parts front s (record s { records = rs }) back refl refl refl) m.indexed c.placed;
      whole = λ told. absurd (untold told);
    };
    sound = λ told some. absurd (untold told);
    cut = λ told fl is. absurd (untold told);
  }
    where
      places : HasPlaces parts base m.home (front ++ s ∷ back) m.ups
      places = subst (λ (l : List (Held P)). HasPlaces parts base m.home l m.ups) held u.places

      all_at_mid : AllByRecursion (IsHeldBy parts base) (front ++ s ∷ back) → IsHeldBy parts base s
      all_at_mid all = (all_back (IsHeldBy parts base) front (s ∷ back) all).0

-- extents of versions in a row from this one on, each of which keeps all its blocks
abbrev pub InARow : (next : ℕ) → List Extent → Type 0
InARow next [] = Unit {0}
InARow next (r ∷ rs) = KeepsAll r × (r.cover.version ≡ next) × InARow (next + 1) rs

-- the writes that they came from
abbrev pub sources : List Extent → List Write
sources rs = map (λ r. write_of r) rs

-- the blocks that are homed still
abbrev pub homed_still : (ℕ → Bool) → List Extent → ℕ → Bool
homed_still homed [] = homed
homed_still homed (r ∷ rs) = homed_still (λ b. homed b && not (r.cover.covers b)) rs

pub row_front : (next k : ℕ) (rs : List Extent) → InARow next rs → InARow next (take k rs)
row_front next zero rs row = tt
row_front next (suc k) [] row = tt
row_front next (suc k) (r ∷ rs) row = (row.0, row.1, row_front (next + 1) k rs row.2)

pub sources_front : (k : ℕ) (rs : List Extent) → sources (take k rs) ≡ take k (sources rs)
sources_front zero rs = refl
sources_front (suc k) [] = refl
sources_front (suc k) (r ∷ rs) = λ i. write_of r ∷ sources_front k rs i

pub count_of_sources : (rs : List Extent) → length (sources rs) ≡ length rs
count_of_sources [] = refl
count_of_sources (r ∷ rs) = ap suc (count_of_sources rs)

-- with them the array is that after their writes
pub group_holds : (a : List Block) (ws : List Write) (next : ℕ) (home : List Block) (front back : List Extent) (homed : ℕ → Bool) (rs : List Extent)
    → Holds a ws next home (front ++ back) homed → InARow next rs → Holds a (ws ++ sources rs) (next + length rs) home (front ++ (rs ++ back)) (homed_still homed rs)
group_holds a ws next home front back homed [] holds row =
    subst (λ (vs : List Write). Holds a vs (next + 0) home (front ++ back) homed) (sym (nil ws)) (subst (λ (n : ℕ). Holds a ws n home (front ++ back) homed) (let e : next ≡ next + 0 = omega arith in e) holds)
  where
    nil : {X : Type 0} (l : List X) → l ++ [] ≡ l
    nil [] = refl
    nil (x ∷ l) = λ i. x ∷ nil l i
group_holds a ws next home front back homed (r ∷ rs) holds row =
    let one = logging_step a ws next home front back homed r holds row.0 row.1 in
    let more = group_holds a (ws ++ write_of r ∷ []) (next + 1) home (front ++ r ∷ []) back (λ b. homed b && not (r.cover.covers b)) rs
    (subst (λ (l : List Extent). Holds a (ws ++ write_of r ∷ []) (next + 1) home l (λ b. homed b && not (r.cover.covers b))) (sym (append_assoc front (r ∷ []) back)) one) row.2 in
    let written = subst (λ (vs : List Write). Holds a vs (next + 1 + length rs) home ((front ++ r ∷ []) ++ (rs ++ back)) (homed_still homed (r ∷ rs))) (append_assoc ws (write_of r ∷ []) (sources rs)) more in
    let placed = subst (λ (l : List Extent). Holds a (ws ++ sources (r ∷ rs)) (next + 1 + length rs) home l (homed_still homed (r ∷ rs))) (append_assoc front (r ∷ []) (rs ++ back)) written in
    subst (λ (n : ℕ). Holds a (ws ++ sources (r ∷ rs)) n home (front ++ (r ∷ (rs ++ back))) (homed_still homed (r ∷ rs))) (let e : next + 1 + length rs ≡ next + suc (length rs) = omega arith in e) placed

-- and no two have one version
pub group_distinct : (next : ℕ) (front back rs : List Extent) → AreDistinct (covers_of (front ++ back)) → AllByRecursion (λ (x : Extent). x.cover.version < next) (front ++ back) → InARow next rs
    → AreDistinct (covers_of (front ++ (rs ++ back)))
group_distinct next front back [] distinct low row = distinct
group_distinct next front back (r ∷ rs) distinct low row =
    subst (λ (l : List Extent). AreDistinct (covers_of l)) (append_assoc front (r ∷ []) (rs ++ back))
    (group_distinct (next + 1) (front ++ r ∷ []) back rs
    (subst (λ (l : List Extent). AreDistinct (covers_of l)) (sym (append_assoc front (r ∷ []) back)) (distinct_more front back r distinct (all_map Low Lower (λ x lt. omega (arith, row.1)) (front ++ back) low)))
    (subst (AllByRecursion (λ (x : Extent). x.cover.version < next + 1)) (sym (append_assoc front (r ∷ []) back))
    (all_joined (λ (x : Extent). x.cover.version < next + 1) front (r ∷ back) (all_map Low Next (λ x lt. omega arith) front (all_front Low front back low))
    (omega (arith, row.1), all_map Low Next (λ x lt. omega arith) back (all_back Low front back low)))) row.2)
  where
    Low : Extent → Type 0
    Low x = x.cover.version < next

    Lower : Extent → Type 0
    Lower x = x.cover.version < r.cover.version

    Next : Extent → Type 0
    Next x = x.cover.version < next + 1

module _ {P : Type 0} (of_home : List Block → Type 0) (of_held : Held P → List Block → Type 0) (owner : ℕ) (a : List Block) (ws : List Write) (next : ℕ) (homed : ℕ → Bool)
    (front back : List (Held P)) (s : Held P) (front_logs : AreLogs of_held owner front) (back_logs : AreLogs of_held owner back) where
  -- records are appended to one segment: wherever that is stopped, some first ones of them are there
  pub group_stops : (rs news : List Extent) → InARow next news → ((home : List Block) → of_home home → Holds a ws next home (extents_held front ++ (rs ++ extents_held back)) homed)
      → ((bs : List Block) → of_held s bs → (k : ℕ) × (k ≤ length news) × (extents_in owner bs ≡ rs ++ take k news)) → Recovers of_home of_held owner (front ++ s ∷ back) (IsCut a ws (sources news))
  unfolding recovered with_extents
  group_stops rs news row holds image home segments is choice =
      whole first.0 (let c = count_of_sources news in let le = first.1 in omega arith)
      (ap (with_extents home) (choice_around of_held owner front back s front_logs back_logs segments split (rs ++ take first.0 news) first.2 ∙ joined (take first.0 news))
      ∙ stood.stands ∙ ap (λ (vs : List Write). after a (ws ++ vs)) (sources_front first.0 news))
    where
      split : Split of_held front s back segments
      split = split_choice of_held front s back segments choice

      first : (k : ℕ) × (k ≤ length news) × (extents_in owner split.here ≡ rs ++ take k news)
      first = image split.here split.of_here

      joined : (l : List Extent) → extents_held front ++ ((rs ++ l) ++ extents_held back) ≡ (extents_held front ++ rs) ++ (l ++ extents_held back)
      joined l = ap (λ (t : List Extent). extents_held front ++ t) (append_assoc rs l (extents_held back)) ∙ sym (append_assoc (extents_held front) rs (l ++ extents_held back))

      stood : Holds a (ws ++ sources (take first.0 news)) (next + length (take first.0 news)) home ((extents_held front ++ rs) ++ (take first.0 news ++ extents_held back)) (homed_still homed (take first.0 news))
      stood = group_holds a ws next home (extents_held front ++ rs) (extents_held back) homed (take first.0 news)
          (subst (λ (l : List Extent). Holds a ws next home l homed) (sym (append_assoc (extents_held front) rs (extents_held back))) (holds home is)) (row_front next first.0 news row)

-- ---- New records

-- a record that is written under this version: it keeps all its blocks and has one, and lies in home
pub record IsNew (home_blocks next : ℕ) (r : Record) : Type 0 where
  pub keeps : KeepsAll (extent_of r)
  pub version : r.head.version ≡ next
  pub lies : LiesInVolume home_blocks (write_of (extent_of r))
  pub valid : IsValid (extent_of r).cover
  pub counted : length r.blocks ≡ r.head.count

-- records of versions in a row
abbrev pub AreNew : (home_blocks next : ℕ) → List Record → Type 0
AreNew home_blocks next [] = Unit {0}
AreNew home_blocks next (r ∷ rs) = IsNew home_blocks next r × AreNew home_blocks (next + 1) rs

-- they have room behind this position
abbrev pub FitBehind : (size end : ℕ) → List Record → Type 0
FitBehind size end [] = Unit {0}
FitBehind size end (r ∷ rs) = (end + r.head.count < size) × FitBehind size (end + 1 + r.head.count) rs

-- the writes that they come from
abbrev pub written_as : List Record → List Write
written_as rs = map (λ r. write_of (extent_of r)) rs

-- the segment with them, and the index
abbrev pub grown_by : {P : Type 0} → Held P → P → List Record → Held P
grown_by s part [] = s
grown_by s part (r ∷ rs) = grown_by (grown s part r) part rs

abbrev pub indexed_by : {P : Type 0} → List Indexed → Held P → P → List Record → List Indexed
indexed_by es s part [] = es
indexed_by es s part (r ∷ rs) = indexed_by (indexed_with es s r) (grown s part r) part rs

pub grown_is : {P : Type 0} (s : Held P) (part : P) (r : Record) (rs : List Record) → grown_by s part (r ∷ rs) ≡ record s { part = part; records = s.records ++ r ∷ rs }
grown_is s part r [] = refl
grown_is s part r (q ∷ rs) = grown_is (grown s part r) part q rs ∙ (λ i. record s { part = part; records = append_assoc s.records (r ∷ []) (q ∷ rs) i })

pub grown_all_is : {P : Type 0} (s : Held P) (part : P) (rs : List Record) → 1 ≤ length rs → grown_by s part rs ≡ record s { part = part; records = s.records ++ rs }
grown_all_is s part [] some = absurd (omega arith)
grown_all_is s part (r ∷ rs) some = grown_is s part r rs

pub written_long : (rs : List Record) → length (written_as rs) ≡ length rs
written_long [] = refl
written_long (r ∷ rs) = ap suc (written_long rs)

-- one of them keeps a block
pub some_valid : (home_blocks next : ℕ) (rs : List Record) → 1 ≤ length rs → AreNew home_blocks next rs → (q : Record) × Contains rs q × IsValid (extent_of q).cover
some_valid home_blocks next [] some new = absurd (omega arith)
some_valid home_blocks next (r ∷ rs) some new = (r, member_of (r ∷ rs) r 0 refl, new.0.valid)

pub extents_of_new : (rs : List Record) → sources (map extent_of rs) ≡ written_as rs
extents_of_new [] = refl
extents_of_new (r ∷ rs) = λ i. write_of (extent_of r) ∷ extents_of_new rs i

pub in_a_row : (home_blocks next : ℕ) (rs : List Record) → AreNew home_blocks next rs → InARow next (map extent_of rs)
in_a_row home_blocks next [] new = tt
in_a_row home_blocks next (r ∷ rs) new = (new.0.keeps, new.0.version, in_a_row home_blocks (next + 1) rs new.1)

pub all_lie : (home_blocks next : ℕ) (rs : List Record) → AreNew home_blocks next rs → AllByRecursion (LiesInVolume home_blocks) (written_as rs)
all_lie home_blocks next [] new = tt
all_lie home_blocks next (r ∷ rs) new = (new.0.lies, all_lie home_blocks (next + 1) rs new.1)

-- some first ones are in a row too
pub front_row : (home_blocks next k : ℕ) (rs : List Record) → AreNew home_blocks next rs → InARow next (map extent_of (take k rs))
front_row home_blocks next zero rs new = tt
front_row home_blocks next (suc k) [] new = tt
front_row home_blocks next (suc k) (r ∷ rs) new = (new.0.keeps, new.0.version, front_row home_blocks (next + 1) k rs new.1)

pub map_front : (k : ℕ) (rs : List Record) → map extent_of (take k rs) ≡ take k (map extent_of rs)
map_front zero rs = refl
map_front (suc k) [] = refl
map_front (suc k) (r ∷ rs) = λ i. extent_of r ∷ map_front k rs i

pub map_long : (rs : List Record) → length (map extent_of rs) ≡ length rs
map_long [] = refl
map_long (r ∷ rs) = ap suc (map_long rs)

pub all_lie_in_home : (home_blocks next k : ℕ) (rs : List Record) → AreNew home_blocks next rs → AllByRecursion (LiesInHome home_blocks) (take k rs)
all_lie_in_home home_blocks next zero rs new = tt
all_lie_in_home home_blocks next (suc k) [] new = tt
all_lie_in_home home_blocks next (suc k) (r ∷ rs) new = (new.0.lies, all_lie_in_home home_blocks (next + 1) k rs new.1)

pub end_more : (rs : List Record) (r : Record) → length r.blocks ≡ r.head.count → end_of (rs ++ r ∷ []) ≡ end_of rs + 1 + r.head.count
end_more rs r counted =
    let l : length (flat_map written (rs ++ r ∷ [])) ≡ length (flat_map written rs) + length (flat_map written (r ∷ [])) = ap length (flat_map-append written rs (r ∷ [])) ∙ length-append (flat_map written rs) (flat_map written (r ∷ [])) in
    let one : length (flat_map written (r ∷ [])) ≡ suc (length r.blocks) = ap length (append-nil (written r)) in
    omega (arith, l, one, counted)

-- ---- What is homed

cleared_homed : (covers : ℕ → Bool) (es : List Indexed) (b : ℕ) → is_homed_in (map (cleared covers) es) b ≡ (is_homed_in es b && not (covers b))
cleared_homed covers [] b = refl
cleared_homed covers (e ∷ es) b = (λ i. remarked_is e.listed.first e.listed.homed (λ c m. m && not (covers c)) b refl i || cleared_homed covers es b i) ∙ either (is_homed e.listed b) (is_homed_in es b) (not (covers b))
  where
    either : (x y z : Bool) → ((x && z) || (y && z)) ≡ ((x || y) && z)
    either true y true = refl
    either true true false = refl
    either true false false = refl
    either false y z = refl

homed_with : {P : Type 0} (es : List Indexed) (s : Held P) (r : Record) → is_homed_in (indexed_with es s r) ≡ (λ b. is_homed_in es b && not ((extent_of r).cover.covers b))
homed_with es s r = fun_ext (λ b. list_any-append (λ (e : Indexed). is_homed e.listed b) (map (cleared (extent_of r).cover.covers) es) (entry_of s r ∷ [])
    ∙ ap (λ (t : Bool). is_homed_in (map (cleared (extent_of r).cover.covers) es) b || (t || false)) (none_marked r.head.first r.head.count b)
    ∙ or-false (is_homed_in (map (cleared (extent_of r).cover.covers) es) b) ∙ cleared_homed (extent_of r).cover.covers es b)

all_cleared : (covers : ℕ → Bool) (Q R : Indexed → Type 0) → ((e : Indexed) → Q e → R (cleared covers e)) → (es : List Indexed) → AllByRecursion Q es → AllByRecursion R (map (cleared covers) es)
all_cleared covers Q R f [] all = tt
all_cleared covers Q R f (e ∷ es) all = (f e all.0, all_cleared covers Q R f es all.1)

-- ---- One record more, whatever the segment's images are

-- what a manager upholds of its records while nothing broke, but for the images of its segments
pub record Core {P : Type 0} (parts : Parts P) (base : Base) (home : P) (ws : List Write) (next : ℕ) (held : List (Held P)) (indexed : List Indexed) : Type 0 where
  pub lie : AllByRecursion (LiesInVolume base.home_blocks) (base.records ++ (ws ++ []))
  pub versioned : HasVersions base next ws None
  pub known : parts.told → AreKnown base next ws [] held
  pub sorted : IsSorted indexed
  pub below : AllByRecursion (λ e. e.listed.version < next) indexed
  pub placed : AllByRecursion (IsPlaced parts held) indexed
  pub distinct : parts.told → AreDistinct (covers_of (extents_held held))
  pub index : parts.told → IsIndexOf indexed held
  pub holds : parts.told → (image : List Block) → parts.may_be home image → Holds base.array ws next image (extents_held held) (is_homed_in indexed)

module _ {P : Type 0} (parts : Parts P) (base : Base) (home : P) (front back : List (Held P)) (part : P) where
  module _ (ws : List Write) (next : ℕ) (indexed : List Indexed) (s : Held P) (r : Record) (size : parts.size part ≡ parts.size s.part) (new : IsNew base.home_blocks next r) (room : next < 2 ^ 63)
      (fits : end_of s.records + r.head.count < parts.size part) (c : Core parts base home ws next (front ++ s ∷ back) indexed) where
    abbrev w : Write
    w = write_of (extent_of r)

    low : parts.told → AllRecords (λ q. q.head.version < next) (front ++ s ∷ back)
    low told = all_below base next ws (front ++ s ∷ back) c.versioned (c.known told)

    new_extents : extents_held (front ++ grown s part r ∷ back) ≡ (extents_held front ++ map extent_of s.records) ++ extent_of r ∷ extents_held back
    new_extents = around front (grown s part r) back ∙ ap (λ (l : List Extent). extents_held front ++ (l ++ extents_held back)) (map-append extent_of s.records (r ∷ []))
        ∙ ap (λ (l : List Extent). extents_held front ++ l) (append_assoc (map extent_of s.records) (extent_of r ∷ []) (extents_held back)) ∙ sym (append_assoc (extents_held front) (map extent_of s.records) (extent_of r ∷ extents_held back))

    old_extents : extents_held (front ++ s ∷ back) ≡ (extents_held front ++ map extent_of s.records) ++ extents_held back
    old_extents = around front s back ∙ sym (append_assoc (extents_held front) (map extent_of s.records) (extents_held back))

    counted : length (marks_of r.head.count r.head.mask) ≡ r.head.count
    counted = length-map-range_with_len (has_bit r.head.mask) 0 r.head.count

    known' : parts.told → AreKnown base (next + 1) (ws ++ w ∷ []) [] (front ++ grown s part r ∷ back)
    known' told = record {
      written = all_swap Was Will (λ t all. all_map Old New more t.records all) front s (grown s part r) back
          (λ all. all_push New s.records r (all_map Old New more s.records all) (λ v. is_new base.records ws r)) (c.known told).written;
      below = all_swap (λ (t : Held P). AllByRecursion Low t.records) (λ (t : Held P). AllByRecursion Lower t.records) (λ t all. all_map Low Lower lower t.records all) front s (grown s part r) back
          (λ all. all_push Lower s.records r (all_map Low Lower lower s.records all) (λ not_valid. absurd (not_valid new.valid))) (c.known told).below;
      within = all_swap (LieInHome base.home_blocks) (LieInHome base.home_blocks) (λ v all. all) front s (grown s part r) back (λ all. all_push (LiesInHome base.home_blocks) s.records r all new.lies) (c.known told).within;
    }
      where
        Old : Record → Type 0
        Old q = IsValid (extent_of q).cover → WasWritten (base.records ++ (ws ++ [])) q

        New : Record → Type 0
        New q = IsValid (extent_of q).cover → WasWritten (base.records ++ ((ws ++ w ∷ []) ++ [])) q

        Low : Record → Type 0
        Low q = (IsValid (extent_of q).cover → ⊥) → q.head.version < next

        Lower : Record → Type 0
        Lower q = (IsValid (extent_of q).cover → ⊥) → q.head.version < next + 1

        Was : Held P → Type 0
        Was t = AllByRecursion Old t.records

        Will : Held P → Type 0
        Will t = AllByRecursion New t.records

        more : (q : Record) → Old q → New q
        more q was v = acknowledged base.records ws w q (was v)

        lower : (q : Record) → Low q → Lower q
        lower q was not_valid = let lt = was not_valid in omega arith

    core_step : Core parts base home (ws ++ w ∷ []) (next + 1) (front ++ grown s part r ∷ back) (indexed_with indexed s r)
    core_step = record {
      lie = lie_more base.home_blocks base.records ws w c.lie new.lies;
      versioned = versions_with_log base next ws w (ap Some new.version) room c.versioned;
      known = known';
      sorted = sorted_grows front s back part r indexed counted (subst (λ (v : ℕ). AllByRecursion (λ (e : Indexed). e.listed.version < v) indexed) (sym new.version) c.below) c.sorted;
      below = all_push (λ (e : Indexed). e.listed.version < next + 1) (map (cleared (extent_of r).cover.covers) indexed) (entry_of s r)
          (all_cleared (extent_of r).cover.covers (λ (e : Indexed). e.listed.version < next) (λ (e : Indexed). e.listed.version < next + 1) (λ e lt. omega arith) indexed c.below) (omega (arith, new.version));
      placed = all_push (IsPlaced parts (front ++ grown s part r ∷ back)) (map (cleared (extent_of r).cover.covers) indexed) (entry_of s r)
          (all_cleared (extent_of r).cover.covers (IsPlaced parts (front ++ s ∷ back)) (IsPlaced parts (front ++ grown s part r ∷ back))
          (λ e is. let there = placed_with_segment parts front s (grown s part r) back refl refl size e is in record { segment = there.segment; is_held = there.is_held; lane = there.lane; index = there.index; behind = there.behind; within = there.within }) indexed c.placed)
          (record { segment = grown s part r; is_held = member_mid front (grown s part r) back; lane = refl; index = refl; behind = omega arith; within = subst (λ (k : ℕ). end_of s.records + k < parts.size part) (sym counted) fits });
      distinct = λ told. subst (λ (l : List Extent). AreDistinct (covers_of l)) (sym new_extents)
          (distinct_more (extents_held front ++ map extent_of s.records) (extents_held back) (extent_of r) (subst (λ (l : List Extent). AreDistinct (covers_of l)) old_extents (c.distinct told))
          (subst (AllByRecursion (λ (x : Extent). x.cover.version < r.head.version)) old_extents (subst (λ (v : ℕ). AllByRecursion (λ (x : Extent). x.cover.version < v) (extents_held (front ++ s ∷ back))) (sym new.version) (low_extents next (front ++ s ∷ back) (low told)))));
      index = λ told. index_grows front s back part r indexed new.valid (c.index told);
      holds = λ told image is. subst (Holds base.array (ws ++ w ∷ []) (next + 1) image (extents_held (front ++ grown s part r ∷ back))) (sym (homed_with indexed s r))
          (subst (λ (rs : List Extent). Holds base.array (ws ++ w ∷ []) (next + 1) image rs (λ b. is_homed_in indexed b && not ((extent_of r).cover.covers b))) (sym new_extents)
          (logging_step base.array ws next image (extents_held front ++ map extent_of s.records) (extents_held back) (is_homed_in indexed) (extent_of r)
          (subst (λ (rs : List Extent). Holds base.array ws next image rs (is_homed_in indexed)) old_extents (c.holds told image is)) new.keeps new.version));
    }

  -- several
  pub core_grows : (ws : List Write) (next : ℕ) (indexed : List Indexed) (s : Held P) (rs : List Record) → parts.size part ≡ parts.size s.part → AreNew base.home_blocks next rs → next + length rs ≤ 2 ^ 63
      → FitBehind (parts.size part) (end_of s.records) rs → Core parts base home ws next (front ++ s ∷ back) indexed
      → Core parts base home (ws ++ written_as rs) (next + length rs) (front ++ grown_by s part rs ∷ back) (indexed_by indexed s part rs)
  core_grows ws next indexed s [] size new room fits c =
      subst (λ (vs : List Write). Core parts base home vs (next + 0) (front ++ s ∷ back) indexed) (sym (append-nil ws)) (subst (λ (n : ℕ). Core parts base home ws n (front ++ s ∷ back) indexed) (let e : next ≡ next + 0 = omega arith in e) c)
  core_grows ws next indexed s (r ∷ rs) size new room fits c =
      let one = core_step ws next indexed s r size new.0 (omega arith) fits.0 c in
      let more = core_grows (ws ++ write_of (extent_of r) ∷ []) (next + 1) (indexed_with indexed s r) (grown s part r) rs refl new.1 (omega arith)
      (subst (λ (e : ℕ). FitBehind (parts.size part) e rs) (sym (end_more s.records r new.0.counted)) fits.1) one in
      subst (λ (n : ℕ). Core parts base home (ws ++ written_as (r ∷ rs)) n (front ++ grown_by s part (r ∷ rs) ∷ back) (indexed_by indexed s part (r ∷ rs))) (let e : next + 1 + length rs ≡ next + suc (length rs) = omega arith in e)
      (subst (λ (vs : List Write). Core parts base home vs (next + 1 + length rs) (front ++ grown_by s part (r ∷ rs) ∷ back) (indexed_by indexed s part (r ∷ rs))) (append_assoc ws (write_of (extent_of r) ∷ []) (written_as rs)) more)

-- ---- One entry for all of them

module _ {P : Type 0} (parts : Parts P) (base : Base) (m : ManagerSeen P) (home_up : Bool) (ups : List Bool) (flags : length ups ≡ length m.ups) (notes : List Noted) (n : Noted)
    (front : List (Held P)) (s : Held P) (back : List (Held P)) (part : P) (rs : List Record) (some : 1 ≤ length rs)
    (u : Upholds parts base m notes (writes (entries_of notes)) None) (none : flight_of (entries_of notes) ≡ None) (held : m.held ≡ front ++ s ∷ back)
    (size : parts.size part ≡ parts.size s.part) (volume : parts.volume part ≡ parts.volume s.part) (new : AreNew base.home_blocks m.next rs) (client : n.entry.pass ≡ worker) where
  abbrev ws : List Write
  ws = writes (entries_of notes)

  calm : IsCalm parts base ws m.next m.home (front ++ s ∷ back) m.indexed m.taken
  calm = subst (λ (l : List (Held P)). IsCalm parts base ws m.next m.home l m.indexed m.taken) held (u.calm refl)

  places : HasPlaces parts base m.home (front ++ s ∷ back) ups
  places = let p = subst (λ (l : List (Held P)). HasPlaces parts base m.home l m.ups) held u.places in places_with p flags refl refl p.each p.apart

  known : parts.told → AreKnown base m.next ws [] (front ++ s ∷ back)
  known told = subst (AreKnown base m.next ws []) held (u.known told)

  core : Core parts base m.home ws m.next (front ++ s ∷ back) m.indexed
  core = record {
    lie = u.lie;
    versioned = u.versioned;
    known = known;
    sorted = calm.sorted;
    below = calm.below;
    placed = calm.placed;
    distinct = λ told. (calm.whole told).distinct;
    index = λ told. (calm.whole told).index;
    holds = λ told. (calm.whole told).holds;
  }

  -- all were written
  module _ (logs : (bs : List Block) → parts.may_be part bs → IsLog bs base.owner (s.records ++ rs)) (room : m.next + length rs ≤ 2 ^ 63) (up : m.down ≡ None)
      (wrote : n.entry.operation ≡ Wrote (written_as rs)) (fits : FitBehind (parts.size part) (end_of s.records) rs) where
    abbrev grown_all : Held P
    grown_all = record s { part = part; records = s.records ++ rs }

    abbrev pub group_seen : ManagerSeen P
    group_seen = record { home = m.home; held = front ++ grown_all ∷ back; taken = m.taken; indexed = indexed_by m.indexed s part rs; next = m.next + length rs; home_up = home_up; ups = ups; down = m.down }

    core' : Core parts base m.home (ws ++ written_as rs) (m.next + length rs) (front ++ grown_all ∷ back) (indexed_by m.indexed s part rs)
    core' = subst (λ (t : Held P). Core parts base m.home (ws ++ written_as rs) (m.next + length rs) (front ++ t ∷ back) (indexed_by m.indexed s part rs)) (grown_all_is s part rs some)
        (core_grows parts base m.home front back part ws m.next m.indexed s rs size new room fits core)

    abbrev Logs : Held P → Type 0
    Logs t = (bs : List Block) → parts.may_be t.part bs → IsLog bs base.owner t.records

    pub group_more : (IsTrue n.ruled → IsStep n n.entry.pass n.entry.operation (last_look base.look notes) n.look) → n.look ≡ look_of group_seen → StandsFor parts base group_seen (notes ++ n ∷ [])
    group_more step look = stands_then parts base group_seen notes n (ws ++ written_as rs) None
        (writes_then notes n (Wrote (written_as rs)) wrote)
        (flight_then notes n (Wrote (written_as rs)) wrote ∙ or_none (flight_of (entries_of notes)) ∙ none)
        (record {
          began = u.began;
          history = history_more parts.told base notes n u.history (record {
            legal = λ told. subst (IsLegalNext (after base.array ws)) (sym wrote) (let l = written_long rs in omega arith);
            unbroken = inl none;
            helps = λ other. absurd (other client);
            step = step;
          });
          lie = core'.lie;
          versioned = core'.versioned;
          known = core'.known;
          places = places_with_segment parts base m.home front s grown_all back ups refl refl size volume (λ bs is. says_owner base.owner bs (s.records ++ rs) (logs bs is)) places;
          is_down = ap is_some up;
          failed = λ name is. absurd (let no : None ≡ Some name = sym up ∙ is in cc);
          calm = λ _. record {
            unbroken = all_swap (λ (t : Held P). t.broken ≡ false) (λ (t : Held P). t.broken ≡ false) (λ t is. is) front s grown_all back (λ is. is) calm.unbroken;
            untaken = calm.untaken;
            sorted = core'.sorted;
            below = core'.below;
            placed = core'.placed;
            whole = λ told. record {
              logs = all_swap Logs Logs (λ t log. log) front s grown_all back (λ log. logs) (calm.whole told).logs;
              distinct = core'.distinct told;
              index = core'.index told;
              holds = core'.holds told;
            };
          };
          sound = λ told some. absurd (false≢true some);
          cut = λ told fl is. absurd (let no : None ≡ Some fl = is in cc);
        })
        (λ _. look)

  -- a call failed: some first ones are there; the segment is broken
  module _ (images : (bs : List Block) → parts.may_be part bs → (k : ℕ) × (k ≤ length rs) × IsLog bs base.owner (s.records ++ take k rs)) (logger : ℕ) (named : slice_get base.view s.lane ≡ Some logger)
      (broke : n.entry.operation ≡ Broke (written_as rs)) (unruled : n.after_drain ≡ false) (rose : 0 < parts.faults part) where
    abbrev t : Held P
    t = record s { part = part; broken = true }

    abbrev pub group_failed : ManagerSeen P
    group_failed = record m { held = front ++ t ∷ back; home_up = home_up; ups = ups; down = Some (SegmentPart logger s.index) }

    abbrev flight : List Write
    flight = written_as rs

    known_t : parts.told → AreKnown base m.next ws flight (front ++ t ∷ back)
    known_t told = let k = known_flying base m.next ws flight (front ++ s ∷ back) (known told) in record {
      written = all_swap (λ (v : Held P). AllByRecursion (λ q. IsValid (extent_of q).cover → WasWritten (base.records ++ (ws ++ flight)) q) v.records) (λ (v : Held P). AllByRecursion (λ q. IsValid (extent_of q).cover → WasWritten (base.records ++ (ws ++ flight)) q) v.records) (λ v all. all) front s t back (λ all. all) k.written;
      below = all_swap (λ (v : Held P). AllByRecursion (λ q. (IsValid (extent_of q).cover → ⊥) → q.head.version < m.next) v.records) (λ (v : Held P). AllByRecursion (λ q. (IsValid (extent_of q).cover → ⊥) → q.head.version < m.next) v.records) (λ v all. all) front s t back (λ all. all) k.below;
      within = all_swap (LieInHome base.home_blocks) (LieInHome base.home_blocks) (λ v all. all) front s t back (λ all. all) k.within;
    }

    says : (bs : List Block) → parts.may_be part bs → SaysOwnerOrFree base.owner bs
    says bs is = let first = images bs is in says_owner base.owner bs (s.records ++ take first.0 rs) first.2

    abbrev Logged : Held P → Type 0
    Logged v = (bs : List Block) → parts.may_be v.part bs → IsLog bs base.owner v.records

    extents_before : extents_held (front ++ s ∷ back) ≡ (extents_held front ++ map extent_of s.records) ++ extents_held back
    extents_before = around front s back ∙ sym (append_assoc (extents_held front) (map extent_of s.records) (extents_held back))

    -- with some first ones no two have one version
    apart : parts.told → (k : ℕ) → AreDistinct (covers_of (extents_held front ++ (map extent_of (s.records ++ take k rs) ++ extents_held back)))
    apart told k = subst (λ (l : List Extent). AreDistinct (covers_of l)) (sym joined)
        (group_distinct m.next (extents_held front ++ map extent_of s.records) (extents_held back) (map extent_of (take k rs))
        (subst (λ (l : List Extent). AreDistinct (covers_of l)) extents_before (calm.whole told).distinct)
        (subst (AllByRecursion (λ (x : Extent). x.cover.version < m.next)) extents_before (low_extents m.next (front ++ s ∷ back) (all_below base m.next ws (front ++ s ∷ back) u.versioned (known told))))
        (front_row base.home_blocks m.next k rs new))
      where
        joined : extents_held front ++ (map extent_of (s.records ++ take k rs) ++ extents_held back) ≡ (extents_held front ++ map extent_of s.records) ++ (map extent_of (take k rs) ++ extents_held back)
        joined = ap (λ (l : List Extent). extents_held front ++ (l ++ extents_held back)) (map-append extent_of s.records (take k rs))
            ∙ ap (λ (l : List Extent). extents_held front ++ l) (append_assoc (map extent_of s.records) (map extent_of (take k rs)) (extents_held back))
            ∙ sym (append_assoc (extents_held front) (map extent_of s.records) (map extent_of (take k rs) ++ extents_held back))

    pub group_breaks : StandsFor parts base group_failed (notes ++ n ∷ [])
    group_breaks = broke_more parts base m group_failed notes n ws flight (SegmentPart logger s.index) u refl none broke (λ other. absurd (other client)) unruled
        (lie_flying base.home_blocks base.records ws flight u.lie (all_lie base.home_blocks m.next rs new)) refl refl known_t
        (places_with_segment parts base m.home front s t back ups refl refl size volume says places)
        (part, (t, member_mid front t back, named, refl, refl), rose)
        (λ told. let sides = all_parts Logged front s back (calm.whole told).logs in
        let within = all_parts (LieInHome base.home_blocks) front s back (known told).within in let own = all_mid (LieInHome base.home_blocks) front s back (known told).within in
        one_sound (λ v. parts.may_be v.part) base.owner base.home_blocks front back t sides.0 sides.1 within.0 within.1 (λ bs is. let first = images bs is in
        sound_log base.owner base.home_blocks front back bs (s.records ++ take first.0 rs) first.2
        (all_joined (LiesInHome base.home_blocks) s.records (take first.0 rs) own (all_lie_in_home base.home_blocks m.next first.0 rs new)) (apart told first.0)))
        (λ told. let whole = calm.whole told in let sides = all_parts Logged front s back whole.logs in
        subst (λ (vs : List Write). Recovers (parts.may_be m.home) (λ v. parts.may_be v.part) base.owner (front ++ t ∷ back) (IsCut base.array ws vs)) (extents_of_new rs)
        (group_stops (parts.may_be m.home) (λ v. parts.may_be v.part) base.owner base.array ws m.next (is_homed_in m.indexed) front back t sides.0 sides.1 (map extent_of s.records) (map extent_of rs) (in_a_row base.home_blocks m.next rs new)
        (λ home is. subst (λ (l : List Extent). Holds base.array ws m.next home l (is_homed_in m.indexed)) (around front s back) (whole.holds home is))
        (λ bs is. let first = images bs is in (first.0, (let e = map_long rs in let le = first.1 in omega arith), kept base.owner bs (s.records ++ take first.0 rs) first.2 ∙ map-append extent_of s.records (take first.0 rs) ∙ ap (λ (l : List Extent). map extent_of s.records ++ l) (map_front first.0 rs)))))
