-- Lists of held segments that differ in their records or parts alone.
use Rattle.std.proofs.Common.{◌≡◌, ◌+◌, ℕ, zero, suc, sym, subst, arith, List, [], ◌∷◌, ◌++◌, map, refl, Bool}
use Rattle.std.specs.Prelude.{Contains, IsTrue}
use Rattle.std.specs.List.{AllByRecursion, AllZip}
use Rattle.wol_disk.specs.Disk.{Block, State, LeavesOnly}
use Rattle.wol_model.specs.Log.{Record, IsLog, extent_of}
use Rattle.spin_model.specs.declared.spun.Spun.{Spun}
use Rattle.wol_promise.specs.Manager.{Held, extents_held}
use Rattle.wol_promise.specs.Stands.{place_in}
use Rattle.wol_promise.proofs.Lists.{all_map, member_behind, member_of}
use Rattle.logger.specs.Lanes.{held_in}
use Rattle.logger.specs.declared.lane.HeldSegment.{HeldSegment}
use Rattle.logger.specs.declared.lane.Lane.{Lane}
use Rattle.volume_parts.specs.Held.{Logs, AllHold, AllLanesHold, held_with, all_held}
use Rattle.spin_model.specs.Spun.{state_of}
use Rattle.log_segment.specs.Segment.{Holds, owner_of}
use Rattle.volume_parts.specs.Reads.{SegmentRead, LaneRead}
use Rattle.volume_parts.proofs.Lanes.{held_as}

zip_append : {X Y : Type 0} (R : X → Y → Type 0) (xs us : List X) (ys vs : List Y) → AllZip R xs ys → AllZip R us vs → AllZip R (xs ++ us) (ys ++ vs)
zip_append R [] us [] vs p q = q
zip_append R [] us (y ∷ ys) vs p q = absurd p
zip_append R (x ∷ xs) us [] vs p q = absurd p
zip_append R (x ∷ xs) us (y ∷ ys) vs p q = (p.0, zip_append R xs us ys vs p.1 q)

-- ---- Lanes before and after reads: each held segment with its records

module _ {D : Type 0} (state : D → State) (Owned : HeldSegment D → Type 0) (Kept : HeldSegment D → List Record → Type 0) (R : Held (Spun D) → Held (Spun D) → Type 0)
    (so : (k : ℕ) (h i : HeldSegment D) (rs : List Record) → SegmentRead state h i → Owned h → Kept h rs → R (held_as k h rs) (held_as k i rs)) where
  read_hold : (k : ℕ) (hs is : List (HeldSegment D)) (logs : List (List Record)) → AllZip (SegmentRead state) hs is → AllByRecursion Owned hs → AllHold Kept hs logs → AllZip R (held_with k hs logs) (held_with k is logs)
  read_hold k [] [] logs zip owned all = tt
  read_hold k [] (i ∷ is) logs zip owned all = absurd zip
  read_hold k (h ∷ hs) [] logs zip owned all = absurd zip
  read_hold k (h ∷ hs) (i ∷ is) [] zip owned all = tt
  read_hold k (h ∷ hs) (i ∷ is) (rs ∷ logs) zip owned all = (so k h i rs zip.0 owned.0 all.0, read_hold k hs is logs zip.1 owned.1 all.1)

  pub read_lanes : (k : ℕ) (ls ms : List (Lane D)) (logs : Logs) → AllZip (LaneRead state) ls ms → AllByRecursion (λ (l : Lane D). AllByRecursion Owned (held_in l)) ls → AllLanesHold Kept ls logs → AllZip R (all_held k ls logs) (all_held k ms logs)
  read_lanes k [] [] logs zip owned all = tt
  read_lanes k [] (m ∷ ms) logs zip owned all = absurd zip
  read_lanes k (l ∷ ls) [] logs zip owned all = absurd zip
  read_lanes k (l ∷ ls) (m ∷ ms) [] zip owned all = tt
  read_lanes k (l ∷ ls) (m ∷ ms) (rs ∷ logs) zip owned all = zip_append R (held_with k (held_in l) rs) (all_held (k + 1) ls logs) (held_with k (held_in m) rs) (all_held (k + 1) ms logs)
      (read_hold k (held_in l) (held_in m) rs zip.0.held owned.0 all.0) (read_lanes (k + 1) ls ms logs zip.1 owned.1 all.1)

-- ---- Two lists of held segments that differ in their records alone

abbrev pub IsSameHeld : {D : Type 0} → Held (Spun D) → Held (Spun D) → Type 0
IsSameHeld v w = (w.part ≡ v.part) × (place_in w ≡ place_in v)

module _ {D : Type 0} (R S : HeldSegment D → List Record → Type 0) where
  same_with : (k : ℕ) (hs : List (HeldSegment D)) (ls ms : List (List Record)) → AllHold R hs ls → AllHold S hs ms → AllZip IsSameHeld (held_with k hs ls) (held_with k hs ms)
  same_with k [] [] [] a c = tt
  same_with k [] [] (m ∷ ms) a c = absurd c
  same_with k [] (l ∷ ls) ms a c = absurd a
  same_with k (h ∷ hs) [] ms a c = absurd a
  same_with k (h ∷ hs) (l ∷ ls) [] a c = absurd c
  same_with k (h ∷ hs) (l ∷ ls) (m ∷ ms) a c = ((refl, refl), same_with k hs ls ms a.1 c.1)

  pub same_held : (j : ℕ) (lanes : List (Lane D)) (ls ms : Logs) → AllLanesHold R lanes ls → AllLanesHold S lanes ms → AllZip IsSameHeld (all_held j lanes ls) (all_held j lanes ms)
  same_held j [] [] [] a c = tt
  same_held j [] [] (m ∷ ms) a c = absurd c
  same_held j [] (l ∷ ls) ms a c = absurd a
  same_held j (x ∷ lanes) [] ms a c = absurd a
  same_held j (x ∷ lanes) (l ∷ ls) [] a c = absurd c
  same_held j (x ∷ lanes) (l ∷ ls) (m ∷ ms) a c = zip_append IsSameHeld (held_with j (held_in x) l) (all_held (j + 1) lanes ls) (held_with j (held_in x) m) (all_held (j + 1) lanes ms) (same_with j (held_in x) l m a.0 c.0) (same_held (j + 1) lanes ls ms a.1 c.1)

module _ {D : Type 0} where
  -- a segment of one has one of the other
  pub same_member : (xs ys : List (Held (Spun D))) (v : Held (Spun D)) → AllZip IsSameHeld xs ys → Contains xs v → (w : Held (Spun D)) × Contains ys w × IsSameHeld v w
  same_member [] ys v zip (k, lt, is) = absurd (omega arith)
  same_member (x ∷ xs) [] v zip has = absurd zip
  same_member (x ∷ xs) (y ∷ ys) v zip (zero, lt, is) = (y, member_of (y ∷ ys) y 0 refl, subst (λ (u : Held (Spun D)). IsSameHeld u y) is zip.0)
  same_member (x ∷ xs) (y ∷ ys) v zip (suc k, lt, is) = let rest = same_member xs ys v zip.1 (k, omega arith, is) in (rest.0, member_behind y ys rest.0 rest.1, rest.2)

  pub zip_back : (xs ys : List (Held (Spun D))) → AllZip IsSameHeld xs ys → AllZip IsSameHeld ys xs
  zip_back [] [] zip = tt
  zip_back [] (y ∷ ys) zip = absurd zip
  zip_back (x ∷ xs) [] zip = absurd zip
  zip_back (x ∷ xs) (y ∷ ys) zip = ((sym zip.0.0, sym zip.0.1), zip_back xs ys zip.1)

  -- an image of one is an image of the other
  pub rezip : (P Q : Held (Spun D) → List Block → Type 0) → ((v w : Held (Spun D)) (bs : List Block) → IsSameHeld v w → P v bs → Q w bs) → (xs ys : List (Held (Spun D))) (images : List (List Block)) → AllZip IsSameHeld xs ys → AllZip P xs images → AllZip Q ys images
  rezip P Q so [] [] [] zip all = tt
  rezip P Q so [] [] (bs ∷ images) zip all = absurd all
  rezip P Q so [] (y ∷ ys) images zip all = absurd zip
  rezip P Q so (x ∷ xs) [] images zip all = absurd zip
  rezip P Q so (x ∷ xs) (y ∷ ys) [] zip all = absurd all
  rezip P Q so (x ∷ xs) (y ∷ ys) (bs ∷ images) zip all = (so x y bs zip.0 all.0, rezip P Q so xs ys images zip.1 all.1)

  pub each_member : (xs : List (Held (Spun D))) → AllByRecursion (Contains xs) xs
  each_member [] = tt
  each_member (x ∷ xs) = (member_of (x ∷ xs) x 0 refl, all_map (Contains xs) (Contains (x ∷ xs)) (λ y has. member_behind x xs y has) xs (each_member xs))

-- at the same place, with the same records, and with no image since but logs of these
pub record IsMoved {D : Type 0} (state : D → State) (owner : ℕ) (s t : Held (Spun D)) : Type 0 where
  pub place : place_in t ≡ place_in s
  pub records : t.records ≡ s.records
  pub leaves : LeavesOnly (state_of state s.part) (state_of state t.part) (λ c. IsLog c owner t.records)

module _ {D : Type 0} (state : D → State) (tells : Bool) (owner : ℕ) (P : Type 0) (told : IsTrue tells) (now : P) where
  abbrev Owned : HeldSegment D → Type 0
  Owned h = owner_of h.segment ≡ owner

  abbrev Kept : HeldSegment D → List Record → Type 0
  Kept h rs = IsTrue tells → P → Holds state h.segment rs

  pub moved_lanes : (k : ℕ) (ls ms : List (Lane D)) (logs : Logs) → AllZip (LaneRead state) ls ms → AllByRecursion (λ (l : Lane D). AllByRecursion Owned (held_in l)) ls → AllLanesHold Kept ls logs
      → AllZip (IsMoved state owner) (all_held k ls logs) (all_held k ms logs)
  moved_lanes = read_lanes state Owned Kept (IsMoved state owner) (λ k h i rs r owned all. record {
    place = λ j. (k, r.index j);
    records = refl;
    leaves = subst (λ (o : ℕ). LeavesOnly (state_of state h.segment.part) (state_of state i.segment.part) (λ c. IsLog c o rs)) owned (r.any_moment rs (all told now));
  })

pub moved_extents : {D : Type 0} (state : D → State) (owner : ℕ) (held held' : List (Held (Spun D))) → AllZip (IsMoved state owner) held held' → extents_held held' ≡ extents_held held
moved_extents state owner [] [] zip = refl
moved_extents state owner [] (t ∷ held') zip = absurd zip
moved_extents state owner (s ∷ held) [] zip = absurd zip
moved_extents state owner (s ∷ held) (t ∷ held') zip = λ i. map extent_of (zip.0.records i) ++ moved_extents state owner held held' zip.1 i
