-- One held segment is another at its place, and what segments say of owners and versions.
use Rattle.std.proofs.Common.{◌≡◌, inl, ⊎_elim, ◌<◌, ◌≤◌, ◌+◌, ℕ, Bool, List, [], ◌∷◌, ◌++◌, map, length, Some, refl, sym, ap, subst, ◌∙◌}
use Rattle.std.specs.Prelude.{slice_get}
use Rattle.std.specs.List.{AllByRecursion}
use Rattle.std.proofs.lemmas.Grind.{flat_map-append}
use Rattle.wol_disk.specs.Disk.{Block}
use Rattle.wol_model.specs.Extents.{Extent}
use Rattle.wol_model.specs.Index.{Indexed}
use Rattle.wol_model.specs.Log.{Record, IsLog, extent_of}
use Rattle.wol_promise.specs.Manager.{Parts, Held, Base, extents_held, AllRecords, SaysOwnerOrFree}
use Rattle.wol_promise.specs.Stands.{IsHeldBy, place_in, AreApartPlaces, HasPlaces, IsPlaced}
use Rattle.wol_promise.proofs.Lists.{all_swap, member_mid, member_swap}
use Rattle.wol_promise.proofs.Places.{places_with}

-- ---- One segment of the held ones is another, at the same place

same_places : {P : Type 0} (front : List (Held P)) (s t : Held P) (back : List (Held P)) → place_in t ≡ place_in s → map place_in (front ++ t ∷ back) ≡ map place_in (front ++ s ∷ back)
same_places [] s t back same = λ i. same i ∷ map place_in back
same_places (u ∷ front) s t back same = λ i. place_in u ∷ same_places front s t back same i

pub places_with_segment : {P : Type 0} (parts : Parts P) (base : Base) (home : P) (front : List (Held P)) (s t : Held P) (back : List (Held P)) (ups : List Bool)
    → t.lane ≡ s.lane → t.index ≡ s.index → parts.size t.part ≡ parts.size s.part → parts.volume t.part ≡ parts.volume s.part → ((bs : List Block) → parts.may_be t.part bs → SaysOwnerOrFree base.owner bs)
    → HasPlaces parts base home (front ++ s ∷ back) ups → HasPlaces parts base home (front ++ t ∷ back) ups
places_with_segment parts base home front s t back ups lane index size volume owned p = places_with p refl refl refl
    (all_swap (IsHeldBy parts base) (IsHeldBy parts base) (λ u by. by) front s t back (λ by. record {
      logger = ap (slice_get base.view) lane ∙ by.logger ∙ ap Some (sym volume);
      room = subst (λ (n : ℕ). base.most + 2 ≤ n) (sym size) by.room;
      owned = owned;
    }) p.each)
    (subst AreApartPlaces (sym (same_places front s t back (λ i. (lane i, index i)))) p.apart)

pub placed_with_segment : {P : Type 0} (parts : Parts P) (front : List (Held P)) (s t : Held P) (back : List (Held P)) → t.lane ≡ s.lane → t.index ≡ s.index → parts.size t.part ≡ parts.size s.part
    → (e : Indexed) → IsPlaced parts (front ++ s ∷ back) e → IsPlaced parts (front ++ t ∷ back) e
placed_with_segment {P} parts front s t back lane index size e is = ⊎_elim
    (λ there. record { segment = is.segment; is_held = there; lane = is.lane; index = is.index; behind = is.behind; within = is.within })
    (λ same. moved same)
    (member_swap front s t back is.segment is.is_held)
  where
    moved : s ≡ is.segment → IsPlaced parts (front ++ t ∷ back) e
    moved same = record {
      segment = t;
      is_held = member_mid front t back;
      lane = is.lane ∙ ap (λ (u : Held P). u.lane) (sym same) ∙ sym lane;
      index = is.index ∙ ap (λ (u : Held P). u.index) (sym same) ∙ sym index;
      behind = is.behind;
      within = subst (λ (n : ℕ). e.pos + length e.listed.keep < n) (ap (λ (u : Held P). parts.size u.part) (sym same) ∙ sym size) is.within;
    }

pub says_owner : (owner : ℕ) (bs : List Block) (rs : List Record) → IsLog bs owner rs → SaysOwnerOrFree owner bs
says_owner owner bs rs log = subst (SaysOwnerOrFree owner) (sym log.joined) (inl refl)

-- the extents around one segment
pub around : {P : Type 0} (front : List (Held P)) (t : Held P) (back : List (Held P)) → extents_held (front ++ t ∷ back) ≡ extents_held front ++ (map extent_of t.records ++ extents_held back)
around {P} front t back = flat_map-append (λ (u : Held P). map extent_of u.records) front (t ∷ back)

pub low_extents : {P : Type 0} (v : ℕ) (held : List (Held P)) → AllRecords (λ r. r.head.version < v) held → AllByRecursion (λ (x : Extent). x.cover.version < v) (extents_held held)
low_extents v [] all = tt
low_extents {P} v (s ∷ held) all = each (low_extents v held all.1) s.records all.0
  where
    each : AllByRecursion (λ (x : Extent). x.cover.version < v) (extents_held held) → (rs : List Record) → AllByRecursion (λ r. r.head.version < v) rs → AllByRecursion (λ (x : Extent). x.cover.version < v) (map extent_of rs ++ extents_held held)
    each rest [] low = rest
    each rest (r ∷ rs) low = (low.0, each rest rs low.1)
