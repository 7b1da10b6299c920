-- A segment is given up with all its records, whose kept blocks may all go by one and the same list: the manager upholds the same.
use Rattle.std.proofs.Common.{◌≡◌, ⊎_elim, ◌<◌, ◌≤◌, ◌+◌, ℕ, zero, suc, Bool, true, false, cond, not, ◌&&◌, List, [], ◌∷◌, ◌++◌, map, None, Some, refl, sym, subst, ◌∙◌, append_assoc, arith, ltb}
use Rattle.std.specs.Prelude.{Contains, filter, slice_get}
use Rattle.std.specs.List.{AllByRecursion}
use Rattle.std.proofs.lemmas.Bool.{false≢true, ltb-true}
use Rattle.std.proofs.lemmas.Grind.{flat_map-append}
use Rattle.wol_disk.specs.Disk.{Block}
use Rattle.wol_model.specs.Blocks.{Write}
use Rattle.wol_model.specs.Extents.{Extent, GivesUp, IsValid, covers_of, AreDistinct, has_newer, marked, may_go}
use Rattle.wol_model.specs.Holding.{Holds}
use Rattle.wol_model.specs.Index.{Indexed, AreRising, IsListed, cover_of, goes, listed_covers, listed_in}
use Rattle.wol_model.specs.Log.{Record, IsLog, extent_of}
use Rattle.wol_model.proofs.Counts.{both}
use Rattle.wol_model.proofs.Steps.{empty_step, fewer_homed}
use Rattle.wol_promise.specs.Ruled.{Noted}
use Rattle.wol_promise.specs.Manager.{Parts, Held, ManagerSeen, Base, IsBacked, IsEntryOf, IsFound, IsIndexOf, IsSorted, extents_held, is_homed_in}
use Rattle.wol_promise.specs.Stands.{IsPlaced, IsCalm, Upholds}
use Rattle.wol_promise.proofs.Covers.{any_found, goes_is_may_go}
use Rattle.wol_promise.proofs.GiveUps.{From, homed_before, listed_still, newer_in}
use Rattle.wol_promise.proofs.Lists.{all_front, all_back, all_joined, all_member, all_mid, member_front, member_behind}
use Rattle.wol_promise.proofs.LogWrites.{around}
use Rattle.wol_promise.proofs.Retires.{given_back, member_without}
use Rattle.wol_promise.proofs.SoundSegments.{apart_without}
use Rattle.wol_promise.proofs.TrimGroups.{LeftOf, as_they_were, one_more, group_holds}

-- ---- Records that give up all that they keep

-- the same extent, which keeps nothing
abbrev emptied : Extent → Extent
emptied e = record e { cover = record { version = e.cover.version; covers = λ b. false } }

gives_all : (e : Extent) → GivesUp (λ b. e.cover.covers b) e (emptied e)
gives_all e = record { version = refl; first = refl; blocks = refl; keeps = λ b. none (e.cover.covers b) }
  where
    none : (t : Bool) → false ≡ (t && not t)
    none true = refl
    none false = refl

-- all that the extent keeps may go by these
abbrev pub GoesAll : (homed : ℕ → Bool) → List Extent → Extent → Type 0
GoesAll homed at_first e = (b : ℕ) → e.cover.covers b ≡ true → may_go (covers_of at_first) homed e.cover b ≡ true

abbrev emptied_all : List Record → List Extent
emptied_all rs = map (λ (r : Record). emptied (extent_of r)) rs

-- each of them gives up all that it keeps
left_emptied : (homed : ℕ → Bool) (at_first front : List Extent) (rs : List Record) (back : List Extent) → AllByRecursion (λ r. GoesAll homed at_first (extent_of r)) rs
    → LeftOf homed at_first (front ++ (map extent_of rs ++ back)) → LeftOf homed at_first (front ++ (emptied_all rs ++ back))
left_emptied homed at_first front [] back go left = left
left_emptied homed at_first front (r ∷ rs) back go left =
    let e = extent_of r in
    subst (LeftOf homed at_first) (append_assoc front (emptied e ∷ []) (emptied_all rs ++ back))
    (left_emptied homed at_first (front ++ emptied e ∷ []) rs back go.1
    (subst (LeftOf homed at_first) (sym (append_assoc front (emptied e ∷ []) (map extent_of rs ++ back)))
    (one_more front (map extent_of rs ++ back) e (emptied e) (λ b. e.cover.covers b) left go.0 (gives_all e))))

-- records that keep nothing are forgotten one by one
forgotten_emptied : (a : List Block) (ws : List Write) (next : ℕ) (home : List Block) (front : List Extent) (rs : List Record) (back : List Extent) (homed : ℕ → Bool)
    → Holds a ws next home (front ++ (emptied_all rs ++ back)) homed → Holds a ws next home (front ++ back) homed
forgotten_emptied a ws next home front [] back homed holds = holds
forgotten_emptied a ws next home front (r ∷ rs) back homed holds =
    forgotten_emptied a ws next home front rs back homed (empty_step a ws next home front (emptied_all rs ++ back) homed (emptied (extent_of r)) holds (λ b. refl))

-- records are forgotten together where each may give up all that it keeps
pub forgotten_whole : (a : List Block) (ws : List Write) (next : ℕ) (home : List Block) (front : List Extent) (rs : List Record) (back : List Extent) (homed : ℕ → Bool)
    → AllByRecursion (λ r. GoesAll homed (front ++ (map extent_of rs ++ back)) (extent_of r)) rs
    → Holds a ws next home (front ++ (map extent_of rs ++ back)) homed → Holds a ws next home (front ++ back) homed
forgotten_whole a ws next home front rs back homed go holds =
    let at_first = front ++ (map extent_of rs ++ back) in
    forgotten_emptied a ws next home front rs back homed
    (group_holds homed at_first a ws next home (front ++ (emptied_all rs ++ back)) (left_emptied homed at_first front rs back go as_they_were) holds)

-- ---- Lists that are filtered

pub member_filter : {X : Type 0} (p : X → Bool) (xs : List X) (x : X) → Contains xs x → p x ≡ true → Contains (filter p xs) x
member_filter p [] x has passes = has
member_filter p (y ∷ ys) x has passes = ⊎_elim
    (λ (same : y ≡ x). let t : p y ≡ true = (λ i. p (same i)) ∙ passes in subst (λ (b : Bool). Contains (cond b (y ∷ filter p ys) (filter p ys)) x) (sym t) (0, omega arith, same))
    (λ there. at (p y) (member_filter p ys x there passes))
    (member_front y ys x has)
  where
    at : (b : Bool) → Contains (filter p ys) x → Contains (cond b (y ∷ filter p ys) (filter p ys)) x
    at true rest = member_behind y (filter p ys) x rest
    at false rest = rest

pub member_unfilter : {X : Type 0} (p : X → Bool) (xs : List X) (x : X) → Contains (filter p xs) x → Contains xs x
member_unfilter p [] x has = has
member_unfilter p (y ∷ ys) x has = at (p y) (member_unfilter p ys x) has
  where
    at : (b : Bool) → (Contains (filter p ys) x → Contains ys x) → Contains (cond b (y ∷ filter p ys) (filter p ys)) x → Contains (y ∷ ys) x
    at true rest has = ⊎_elim (λ (same : y ≡ x). (0, omega arith, same)) (λ there. member_behind y ys x (rest there)) (member_front y (filter p ys) x has)
    at false rest has = member_behind y ys x (rest has)

-- each that is left passes, and has what each had
pub all_filtered : {X : Type 0} (P : X → Type 0) (p : X → Bool) (xs : List X) → AllByRecursion P xs → AllByRecursion (λ x. (p x ≡ true) × P x) (filter p xs)
all_filtered P p [] all = tt
all_filtered P p (x ∷ xs) all = at (p x) refl (all_filtered P p xs all.1)
  where
    at : (b : Bool) → p x ≡ b → AllByRecursion (λ y. (p y ≡ true) × P y) (filter p xs) → AllByRecursion (λ y. (p y ≡ true) × P y) (cond b (x ∷ filter p xs) (filter p xs))
    at true is rest = ((is, all.0), rest)
    at false is rest = rest

pub all_among : {X : Type 0} (P Q : X → Type 0) (xs : List X) → ((x : X) → Contains xs x → P x → Q x) → AllByRecursion P xs → AllByRecursion Q xs
all_among P Q [] f all = tt
all_among P Q (x ∷ xs) f all = (f x (0, omega arith, refl) all.0, all_among P Q xs (λ y has. f y (member_behind x xs y has)) all.1)

less_before : (test : Indexed → Bool) (P : ℕ → Type 0) (es : List Indexed) → AllByRecursion P (map (λ (d : Indexed). d.listed.version) es) → AllByRecursion P (map (λ (d : Indexed). d.listed.version) (filter test es))
less_before test P [] all = tt
less_before test P (e ∷ es) all = at (test e) (less_before test P es all.1)
  where
    at : (b : Bool) → AllByRecursion P (map (λ (d : Indexed). d.listed.version) (filter test es)) → AllByRecursion P (map (λ (d : Indexed). d.listed.version) (cond b (e ∷ filter test es) (filter test es)))
    at true rest = (all.0, rest)
    at false rest = rest

rising_filter : (test : Indexed → Bool) (es : List Indexed) → AreRising (map (λ (d : Indexed). d.listed.version) es) → AreRising (map (λ (d : Indexed). d.listed.version) (filter test es))
rising_filter test [] rising = tt
rising_filter test (e ∷ es) rising = at (test e) (rising_filter test es rising.1)
  where
    at : (b : Bool) → AreRising (map (λ (d : Indexed). d.listed.version) (filter test es)) → AreRising (map (λ (d : Indexed). d.listed.version) (cond b (e ∷ filter test es) (filter test es)))
    at true rest = (less_before test (λ w. e.listed.version < w) es rising.0, rest)
    at false rest = rest

all_places : {X : Type 0} (P : X → Type 0) (xs : List X) → ((k : ℕ) (x : X) → slice_get xs k ≡ Some x → P x) → AllByRecursion P xs
all_places P [] f = tt
all_places P (x ∷ xs) f = (f 0 x refl, all_places P xs (λ k y is. f (suc k) y is))

-- ---- The newest record of a block

-- an entry that passes keeps the block, and is newer
pub record Above (test : Indexed → Bool) (es : List Indexed) (version b : ℕ) : Type 0 where
  pub entry : Indexed
  pub among : Contains es entry
  pub passes : test entry ≡ true
  pub keeps : (cover_of entry.listed).covers b ≡ true
  pub newer : version < entry.listed.version

pub record NewerOne (es : List Indexed) (version b : ℕ) : Type 0 where
  pub entry : Indexed
  pub among : Contains es entry
  pub keeps : (cover_of entry.listed).covers b ≡ true
  pub newer : version < entry.listed.version

pub one_newer : (es : List Indexed) (version b : ℕ) → has_newer (listed_covers (listed_in es)) version b ≡ true → NewerOne es version b
one_newer es version b is =
    let f = any_found (λ (d : Indexed). (cover_of d.listed).covers b && ltb version d.listed.version) es (sym (newer_in es version b) ∙ is) in
    let parts = both ((cover_of f.item.listed).covers b) (ltb version f.item.listed.version) f.passes in
    record { entry = f.item; among = f.among; keeps = parts.0; newer = ltb-true version f.item.listed.version parts.1 }

-- each block that an entry keeps which doesn't pass, a newer entry keeps
abbrev pub AreCovered : (test : Indexed → Bool) → (b : ℕ) → List Indexed → Type 0
AreCovered test b es = AllByRecursion (λ d. test d ≡ false → (cover_of d.listed).covers b ≡ true → has_newer (listed_covers (listed_in es)) d.listed.version b ≡ true) es

-- so where a newer entry keeps the block, one that passes does
pub above_of : (test : Indexed → Bool) (es : List Indexed) (b bound : ℕ) → AllByRecursion (λ d. d.listed.version < bound) es → AreCovered test b es
    → (fuel version : ℕ) → bound ≤ version + fuel → has_newer (listed_covers (listed_in es)) version b ≡ true → Above test es version b
above_of test es b bound below covered zero version enough newer =
    let f = one_newer es version b newer in let low = all_member (λ (d : Indexed). d.listed.version < bound) es f.entry below f.among in let more = f.newer in
    absurd (omega (arith, enough, low, more))
above_of test es b bound below covered (suc n) version enough newer =
    let f = one_newer es version b newer in let more = f.newer in
    at f (test f.entry) refl (λ is. above_of test es b bound below covered n f.entry.listed.version (omega (arith, enough, more))
    (all_member (λ (d : Indexed). test d ≡ false → (cover_of d.listed).covers b ≡ true → has_newer (listed_covers (listed_in es)) d.listed.version b ≡ true) es f.entry covered f.among is f.keeps))
  where
    at : (f : NewerOne es version b) (t : Bool) → test f.entry ≡ t → (test f.entry ≡ false → Above test es f.entry.listed.version b) → Above test es version b
    at f true is rest = record { entry = f.entry; among = f.among; passes = is; keeps = f.keeps; newer = f.newer }
    at f false is rest = let a = rest is in record { entry = a.entry; among = a.among; passes = a.passes; keeps = a.keeps; newer = (let more = f.newer in let most = a.newer in omega (arith, more, most)) }

-- ---- The step

module _ {P : Type 0} (parts : Parts P) (base : Base) (m : ManagerSeen P) (notes : List Noted) (ws : List Write) (front : List (Held P)) (t : Held P) (back : List (Held P))
    (u : Upholds parts base m notes ws None) (up : m.down ≡ None) (held : m.held ≡ front ++ t ∷ back)
    -- the entries that stay: those of other segments
    (test : Indexed → Bool) (elsewhere : AllByRecursion (IsPlaced parts (front ++ back)) (filter test m.indexed))
    (stays : (v : Held P) (k : ℕ) (q : Record) (d : Indexed) → Contains (front ++ back) v → IsEntryOf v k q d → test d ≡ true)
    (leaves : (k : ℕ) (q : Record) (d : Indexed) → IsEntryOf t k q d → test d ≡ false)
    -- all that an entry of the segment keeps may go
    (go : AllByRecursion (λ d. test d ≡ false → (b : ℕ) → (cover_of d.listed).covers b ≡ true → goes (listed_in m.indexed) d.listed b ≡ true) m.indexed) where
  abbrev left : List Indexed
  left = filter test m.indexed

  from : (d : Indexed) → Contains left d → From m.indexed d
  from d has = record { before = d; among = member_unfilter test m.indexed d has; version = refl; covers = λ b is. is; homed = λ b is. is }

  calm : IsCalm parts base ws m.next m.home (front ++ t ∷ back) m.indexed m.taken
  calm = subst (λ (l : List (Held P)). IsCalm parts base ws m.next m.home l m.indexed m.taken) held (u.calm refl)

  less : (Q : Held P → Type 0) → AllByRecursion Q (front ++ t ∷ back) → AllByRecursion Q (front ++ back)
  less Q all = all_joined Q front back (all_front Q front (t ∷ back) all) (all_back Q front (t ∷ back) all).1

  sorted : IsSorted left
  sorted = record {
    rising = rising_filter test m.indexed calm.sorted.rising;
    listed = all_among (λ (d : Indexed). (test d ≡ true) × IsListed (listed_in m.indexed) d.listed) (λ (d : Indexed). IsListed (listed_in left) d.listed) left (λ d has is. listed_still m.indexed left from d is.1)
        (all_filtered (λ (d : Indexed). IsListed (listed_in m.indexed) d.listed) test m.indexed calm.sorted.listed);
  }

  backed : (d : Indexed) → test d ≡ true → IsBacked (front ++ t ∷ back) d → IsBacked (front ++ back) d
  backed d is b = ⊎_elim
      (λ there. record { segment = b.segment; is_held = there; k = b.k; record_ = b.record_; is_there = b.is_there; valid = b.valid; is_its = b.is_its })
      (λ same. absurd (false≢true (sym (leaves b.k b.record_ d (subst (λ (s : Held P). IsEntryOf s b.k b.record_ d) (sym same) b.is_its)) ∙ is)))
      (member_without front t back b.segment b.is_held)

  abbrev Lists : List Indexed → Held P → Type 0
  Lists es v = (k : ℕ) (q : Record) → slice_get v.records k ≡ Some q → IsValid (extent_of q).cover → IsFound es v k q

  -- the entries that stay are those of the other segments
  index_left : IsIndexOf m.indexed (front ++ t ∷ back) → IsIndexOf left (front ++ back)
  index_left is = record {
    each = all_among (Lists m.indexed) (Lists left) (front ++ back) (λ v has all k q at valid. let f = all k q at valid in record { entry = f.entry; listed = member_filter test m.indexed f.entry f.listed (stays v k q f.entry has f.is_its); is_its = f.is_its })
        (less (Lists m.indexed) is.each);
    only = all_among (λ (d : Indexed). (test d ≡ true) × IsBacked (front ++ t ∷ back) d) (IsBacked (front ++ back)) left (λ d has at. backed d at.0 at.1) (all_filtered (IsBacked (front ++ t ∷ back)) test m.indexed is.only);
  }

  -- all that the records of the segment keep may go
  records_go : IsIndexOf m.indexed (front ++ t ∷ back) → AllByRecursion (λ r. GoesAll (is_homed_in m.indexed) (extents_held front ++ (map extent_of t.records ++ extents_held back)) (extent_of r)) t.records
  records_go is = all_places (λ r. GoesAll (is_homed_in m.indexed) (extents_held front ++ (map extent_of t.records ++ extents_held back)) (extent_of r)) t.records (λ k r at b keeps.
      let f = all_mid (Lists m.indexed) front t back is.each k r at (b, keeps) in
      let kept : (cover_of f.entry.listed).covers b ≡ true = (λ i. marked (f.is_its.first i) (f.is_its.keep i) b) ∙ keeps in
      let given = all_member (λ (d : Indexed). test d ≡ false → (c : ℕ) → (cover_of d.listed).covers c ≡ true → goes (listed_in m.indexed) d.listed c ≡ true) m.indexed f.entry go f.listed (leaves k r f.entry f.is_its) b kept in
      subst (λ (l : List Extent). may_go (covers_of l) (is_homed_in m.indexed) (extent_of r).cover b ≡ true) (around front t back)
      (goes_is_may_go (front ++ t ∷ back) m.indexed t k r f.entry b is f.is_its f.listed given))

  -- the segment is gone with its records, and its entries with them
  pub retires_whole : Upholds parts base (record m { held = front ++ back; indexed = left }) notes ws None
  retires_whole = given_back parts base m notes ws front t back u up held left (record {
    unbroken = less (λ (v : Held P). v.broken ≡ false) calm.unbroken;
    untaken = calm.untaken;
    sorted = sorted;
    below = all_among (λ (d : Indexed). (test d ≡ true) × (d.listed.version < m.next)) (λ (d : Indexed). d.listed.version < m.next) left (λ d has is. is.1)
        (all_filtered (λ (d : Indexed). d.listed.version < m.next) test m.indexed calm.below);
    placed = elsewhere;
    whole = λ told. let w = calm.whole told in record {
      logs = less (λ (v : Held P). (bs : List Block) → parts.may_be v.part bs → IsLog bs base.owner v.records) w.logs;
      distinct = subst (λ (l : List Extent). AreDistinct (covers_of l)) (sym (flat_map-append (λ (v : Held P). map extent_of v.records) front back))
          (apart_without (extents_held front) t.records (extents_held back) (subst (λ (l : List Extent). AreDistinct (covers_of l)) (around front t back) w.distinct));
      index = index_left w.index;
      holds = λ home is. subst (λ (l : List Extent). Holds base.array ws m.next home l (is_homed_in left)) (sym (flat_map-append (λ (v : Held P). map extent_of v.records) front back))
          (fewer_homed base.array ws m.next home (extents_held front ++ extents_held back) (is_homed_in m.indexed) (is_homed_in left)
          (forgotten_whole base.array ws m.next home (extents_held front) t.records (extents_held back) (is_homed_in m.indexed) (records_go w.index)
          (subst (λ (l : List Extent). Holds base.array ws m.next home l (is_homed_in m.indexed)) (around front t back) (w.holds home is)))
          (homed_before m.indexed left from));
    };
  })
