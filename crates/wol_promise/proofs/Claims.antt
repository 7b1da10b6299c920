-- A segment that was claimed, before its first record, and one that is given back: the manager upholds the same.
use Rattle.std.proofs.Common.{◌≡◌, ◌≢◌, ◌<◌, ℕ, false, List, [], ◌∷◌, ◌++◌, map, None, Some, refl, sym, ap, subst, ◌∙◌}
use Rattle.std.specs.Prelude.{Contains, slice_get}
use Rattle.std.specs.List.{AllByRecursion}
use Rattle.std.proofs.lemmas.Bool.{false≢true}
use Rattle.std.proofs.lemmas.Grind.{flat_map-append}
use Rattle.wol_disk.specs.Disk.{Block}
use Rattle.wol_model.specs.Blocks.{Write}
use Rattle.wol_model.specs.Extents.{Extent, IsValid, covers_of, AreDistinct}
use Rattle.wol_model.specs.Holding.{Holds}
use Rattle.wol_model.specs.Log.{Record, IsLog, extent_of}
use Rattle.wol_promise.specs.Ruled.{Noted}
use Rattle.wol_promise.specs.Manager.{Parts, Held, ManagerSeen, Base, IsFound, IsBacked, extents_held, is_homed_in, WasWritten}
use Rattle.wol_promise.specs.Stands.{LieInHome, IsHeldBy, place_in, ApartFrom, AreApartPlaces, IsPlaced, Upholds}
use Rattle.wol_promise.proofs.Lists.{all_map, all_insert, member_insert}
use Rattle.wol_promise.proofs.Places.{places_with}

abbrev pub empty_segment : {P : Type 0} → P → (lane index : ℕ) → Held P
empty_segment part lane index = record { part = part; lane = lane; index = index; broken = false; records = [] }

pub places_insert : {P : Type 0} (front : List (Held P)) (t : Held P) (back : List (Held P)) → AllByRecursion (λ (v : Held P). place_in v ≢ place_in t) (front ++ back) → AreApartPlaces (map place_in (front ++ back)) → AreApartPlaces (map place_in (front ++ t ∷ back))
places_insert {P} [] t back other apart = (from back other, apart)
  where
    from : (l : List (Held P)) → AllByRecursion (λ v. place_in v ≢ place_in t) l → ApartFrom (place_in t) (map place_in l)
    from [] all = tt
    from (v ∷ l) all = ((λ e. all.0 (sym e)), from l all.1)
places_insert {P} (v ∷ front) t back other apart = (at front apart.0, places_insert front t back other.1 apart.1)
  where
    at : (l : List (Held P)) → ApartFrom (place_in v) (map place_in (l ++ back)) → ApartFrom (place_in v) (map place_in (l ++ t ∷ back))
    at [] all = (other.0, all)
    at (z ∷ l) all = (all.0, at l all.1)

module _ {P : Type 0} (parts : Parts P) (base : Base) (m : ManagerSeen P) (notes : List Noted) (ws : List Write) (front back : List (Held P)) (part : P) (lane index : ℕ)
    (u : Upholds parts base m notes ws None) (up : m.down ≡ None) (held : m.held ≡ front ++ back) (by : IsHeldBy parts base (empty_segment part lane index))
    (new_place : AllByRecursion (λ (v : Held P). place_in v ≢ (lane, index)) (front ++ back))
    (logs : (bs : List Block) → parts.may_be part bs → IsLog bs base.owner []) where
  abbrev t : Held P
  t = empty_segment part lane index

  abbrev pub with_empty : ManagerSeen P
  with_empty = record m { held = front ++ t ∷ back }

  same_extents : extents_held (front ++ t ∷ back) ≡ extents_held m.held
  same_extents = flat_map-append (λ (v : Held P). map extent_of v.records) front (t ∷ back) ∙ sym (flat_map-append (λ (v : Held P). map extent_of v.records) front back) ∙ ap extents_held (sym held)

  insert : (Q : Held P → Type 0) → Q t → AllByRecursion Q m.held → AllByRecursion Q (front ++ t ∷ back)
  insert Q here all = all_insert Q front t back here (subst (AllByRecursion Q) held all)

  member : (v : Held P) → Contains m.held v → Contains (front ++ t ∷ back) v
  member v has = member_insert front t back v (subst (λ (l : List (Held P)). Contains l v) held has)

  nowhere : (k : ℕ) (q : Record) → slice_get {X = Record} [] k ≡ Some q → ⊥
  nowhere k q is = cc

  pub empty_more : Upholds parts base with_empty notes ws None
  empty_more = record {
    began = u.began;
    history = u.history;
    lie = u.lie;
    versioned = u.versioned;
    known = λ told. let k = u.known told in record {
      written = insert (λ (v : Held P). AllByRecursion (λ q. IsValid (extent_of q).cover → WasWritten (base.records ++ (ws ++ [])) q) v.records) tt k.written;
      below = insert (λ (v : Held P). AllByRecursion (λ q. (IsValid (extent_of q).cover → ⊥) → q.head.version < m.next) v.records) tt k.below;
      within = insert (LieInHome base.home_blocks) tt k.within;
    };
    places = let p = u.places in places_with p refl refl refl (insert (IsHeldBy parts base) by p.each)
        (places_insert front t back new_place (subst (λ (l : List (Held P)). AreApartPlaces (map place_in l)) held p.apart));
    is_down = u.is_down;
    failed = λ name is. absurd (let no : None ≡ Some name = sym up ∙ is in cc);
    calm = λ none. let c = u.calm none in record {
      unbroken = insert (λ (v : Held P). v.broken ≡ false) refl c.unbroken;
      untaken = c.untaken;
      sorted = c.sorted;
      below = c.below;
      placed = all_map (IsPlaced parts m.held) (IsPlaced parts (front ++ t ∷ back)) (λ e is. record { segment = is.segment; is_held = member is.segment is.is_held; lane = is.lane; index = is.index; behind = is.behind; within = is.within }) m.indexed c.placed;
      whole = λ told. let w = c.whole told in record {
        logs = insert (λ (v : Held P). (bs : List Block) → parts.may_be v.part bs → IsLog bs base.owner v.records) logs w.logs;
        distinct = subst (λ (l : List Extent). AreDistinct (covers_of l)) (sym same_extents) w.distinct;
        index = record {
          each = insert (λ (v : Held P). (k : ℕ) (q : Record) → slice_get v.records k ≡ Some q → IsValid (extent_of q).cover → IsFound m.indexed v k q) (λ k q is valid. absurd (nowhere k q is)) w.index.each;
          only = all_map (IsBacked m.held) (IsBacked (front ++ t ∷ back)) (λ e is. record { segment = is.segment; is_held = member is.segment is.is_held; k = is.k; record_ = is.record_; is_there = is.is_there; valid = is.valid; is_its = is.is_its }) m.indexed w.index.only;
        };
        holds = λ home is. subst (λ (rs : List Extent). Holds base.array ws m.next home rs (is_homed_in m.indexed)) (sym same_extents) (w.holds home is);
      };
    };
    sound = λ told some. absurd (false≢true some);
    cut = λ told fl is. absurd (let no : None ≡ Some fl = is in cc);
  }
