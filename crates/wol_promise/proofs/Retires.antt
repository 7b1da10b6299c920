-- A segment without a valid record is given back: the manager upholds the same.
use Rattle.std.proofs.Common.{◌≡◌, ◌⊎◌, inl, inr, ⊎_elim, ◌<◌, ℕ, Bool, true, false, List, [], ◌∷◌, ◌++◌, map, None, Some, refl, sym, subst, ◌∙◌, arith}
use Rattle.std.specs.Prelude.{Contains, slice_get}
use Rattle.std.specs.List.{AllByRecursion}
use Rattle.std.proofs.lemmas.Bool.{false≢true}
use Rattle.std.proofs.lemmas.Grind.{flat_map-append}
use Rattle.wol_disk.specs.Disk.{Block}
use Rattle.wol_model.specs.Blocks.{Write}
use Rattle.wol_model.specs.Extents.{Extent, IsValid, CoversNothing, covers_of, AreDistinct}
use Rattle.wol_model.specs.Holding.{Holds}
use Rattle.wol_model.specs.Index.{Indexed}
use Rattle.wol_model.specs.Log.{Record, IsLog, extent_of}
use Rattle.wol_model.proofs.Steps.{empty_step}
use Rattle.wol_promise.specs.Ruled.{Noted}
use Rattle.wol_promise.specs.Manager.{Parts, Held, ManagerSeen, Base, IsFound, IsBacked, extents_held, is_homed_in, WasWritten}
use Rattle.wol_promise.specs.Stands.{AreKnown, LieInHome, IsHeldBy, place_in, ApartFrom, AreApartPlaces, IsPlaced, IsCalm, Upholds}
use Rattle.wol_promise.proofs.Lists.{all_map, all_front, all_back, all_joined, member_front, member_behind, all_member, member_of}
use Rattle.wol_promise.proofs.LogWrites.{around}
use Rattle.wol_promise.proofs.Places.{places_with}
use Rattle.wol_promise.proofs.SoundSegments.{apart_without}

-- no record of these keeps a block
abbrev pub AreEmpty : List Record → Type 0
AreEmpty rs = AllByRecursion (λ r. CoversNothing (extent_of r)) rs

not_valid : (r : Record) → CoversNothing (extent_of r) → IsValid (extent_of r).cover → ⊥
not_valid r none valid = let no : false ≡ true = sym (none valid.0) ∙ valid.1 in cc

-- records that keep nothing are forgotten one by one
forgotten : (a : List Block) (ws : List Write) (next : ℕ) (home : List Block) (front : List Extent) (rs : List Record) (back : List Extent) (homed : ℕ → Bool) → AreEmpty rs
    → Holds a ws next home (front ++ (map extent_of rs ++ back)) homed → Holds a ws next home (front ++ back) homed
forgotten a ws next home front [] back homed none holds = holds
forgotten a ws next home front (r ∷ rs) back homed none holds = forgotten a ws next home front rs back homed none.1 (empty_step a ws next home front (map extent_of rs ++ back) homed (extent_of r) holds none.0)

pub places_without : {P : Type 0} (front : List (Held P)) (t : Held P) (back : List (Held P)) → AreApartPlaces (map place_in (front ++ t ∷ back)) → AreApartPlaces (map place_in (front ++ back))
places_without [] t back apart = apart.1
places_without {P} (u ∷ front) t back apart = (at front apart.0, places_without front t back apart.1)
  where
    at : (l : List (Held P)) → ApartFrom (place_in u) (map place_in (l ++ t ∷ back)) → ApartFrom (place_in u) (map place_in (l ++ back))
    at [] all = all.1
    at (v ∷ l) all = (all.0, at l all.1)

pub member_without : {X : Type 0} (front : List X) (s : X) (back : List X) (x : X) → Contains (front ++ s ∷ back) x → Contains (front ++ back) x ⊎ (s ≡ x)
member_without [] s back x has = ⊎_elim (λ same. inr same) (λ there. inl there) (member_front s back x has)
member_without (y ∷ front) s back x has = ⊎_elim
    (λ same. inl (0, omega arith, same))
    (λ rest. ⊎_elim (λ there. inl (member_behind y (front ++ back) x there)) (λ same. inr same) (member_without front s back x rest))
    (member_front y (front ++ s ∷ back) x has)

-- A manager whose segment was given back upholds the same with whichever entries it is calm.
pub given_back : {P : Type 0} (parts : Parts P) (base : Base) (m : ManagerSeen P) (notes : List Noted) (ws : List Write) (front : List (Held P)) (t : Held P) (back : List (Held P))
    → Upholds parts base m notes ws None → m.down ≡ None → m.held ≡ front ++ t ∷ back
    → (left : List Indexed) → IsCalm parts base ws m.next m.home (front ++ back) left m.taken
    → Upholds parts base (record m { held = front ++ back; indexed = left }) notes ws None
given_back {P} parts base m notes ws front t back u up held left calm = record {
  began = u.began;
  history = u.history;
  lie = u.lie;
  versioned = u.versioned;
  known = λ told. let k = subst (AreKnown base m.next ws []) held (u.known told) in record {
    written = less (λ (v : Held P). AllByRecursion (λ q. IsValid (extent_of q).cover → WasWritten (base.records ++ (ws ++ [])) q) v.records) k.written;
    below = less (λ (v : Held P). AllByRecursion (λ q. (IsValid (extent_of q).cover → ⊥) → q.head.version < m.next) v.records) k.below;
    within = less (LieInHome base.home_blocks) k.within;
  };
  places = let p = u.places in places_with p refl refl refl (less (IsHeldBy parts base) (subst (AllByRecursion (IsHeldBy parts base)) held p.each))
      (places_without front t back (subst (λ (l : List (Held P)). AreApartPlaces (map place_in l)) held p.apart));
  is_down = u.is_down;
  failed = λ name is. absurd (let no : None ≡ Some name = sym up ∙ is in cc);
  calm = λ none. calm;
  sound = λ told some. absurd (false≢true some);
  cut = λ told fl is. absurd (let no : None ≡ Some fl = is in cc);
}
  where
    less : (Q : Held P → Type 0) → AllByRecursion Q (front ++ t ∷ back) → AllByRecursion Q (front ++ back)
    less Q all = all_joined Q front back (all_front Q front (t ∷ back) all) (all_back Q front (t ∷ back) all).1

module _ {P : Type 0} (parts : Parts P) (base : Base) (m : ManagerSeen P) (notes : List Noted) (ws : List Write) (front : List (Held P)) (t : Held P) (back : List (Held P))
    (u : Upholds parts base m notes ws None) (up : m.down ≡ None) (held : m.held ≡ front ++ t ∷ back) (empty : parts.told → AreEmpty t.records)
    -- no entry of the index lies there: so where content is told, and the code knows it always
    (elsewhere : AllByRecursion (IsPlaced parts (front ++ back)) m.indexed) where
  calm : IsCalm parts base ws m.next m.home (front ++ t ∷ back) m.indexed m.taken
  calm = subst (λ (l : List (Held P)). IsCalm parts base ws m.next m.home l m.indexed m.taken) held (u.calm refl)

  less : (Q : Held P → Type 0) → AllByRecursion Q (front ++ t ∷ back) → AllByRecursion Q (front ++ back)
  less Q all = all_joined Q front back (all_front Q front (t ∷ back) all) (all_back Q front (t ∷ back) all).1

  backed : parts.told → (e : Indexed) → IsBacked (front ++ t ∷ back) e → IsBacked (front ++ back) e
  backed told e b = ⊎_elim
      (λ there. record { segment = b.segment; is_held = there; k = b.k; record_ = b.record_; is_there = b.is_there; valid = b.valid; is_its = b.is_its })
      (λ same. absurd (not_valid b.record_ (all_member (λ (r : Record). CoversNothing (extent_of r)) t.records b.record_ (empty told) (subst (λ (s : Held P). Contains s.records b.record_) (sym same) (member_of b.segment.records b.record_ b.k b.is_there))) b.valid))
      (member_without front t back b.segment b.is_held)

  pub retires : Upholds parts base (record m { held = front ++ back }) notes ws None
  retires = given_back parts base m notes ws front t back u up held m.indexed (record {
    unbroken = less (λ (v : Held P). v.broken ≡ false) calm.unbroken;
    untaken = calm.untaken;
    sorted = calm.sorted;
    below = calm.below;
    placed = elsewhere;
    whole = λ told. let w = calm.whole told in record {
      logs = less (λ (v : Held P). (bs : List Block) → parts.may_be v.part bs → IsLog bs base.owner v.records) w.logs;
      distinct = subst (λ (l : List Extent). AreDistinct (covers_of l)) (sym (flat_map-append (λ (v : Held P). map extent_of v.records) front back))
          (apart_without (extents_held front) t.records (extents_held back) (subst (λ (l : List Extent). AreDistinct (covers_of l)) (around front t back) w.distinct));
      index = record {
        each = less (λ (v : Held P). (k : ℕ) (q : Record) → slice_get v.records k ≡ Some q → IsValid (extent_of q).cover → IsFound m.indexed v k q) w.index.each;
        only = all_map (IsBacked (front ++ t ∷ back)) (IsBacked (front ++ back)) (backed told) m.indexed w.index.only;
      };
      holds = λ home is. subst (λ (l : List Extent). Holds base.array ws m.next home l (is_homed_in m.indexed)) (sym (flat_map-append (λ (v : Held P). map extent_of v.records) front back))
          (forgotten base.array ws m.next home (extents_held front) t.records (extents_held back) (is_homed_in m.indexed) (empty told)
          (subst (λ (l : List Extent). Holds base.array ws m.next home l (is_homed_in m.indexed)) (around front t back) (w.holds home is)));
    };
  })
