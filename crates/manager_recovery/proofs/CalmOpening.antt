-- No count of faults rose in an opening that was done.
use Rattle.std.proofs.Common.{◌≡◌, ⊎_elim, ◌<◌, ℕ, zero, suc, Bool, true, false, cond, eqb, List, [], ◌∷◌, map, Some, refl, sym, ap, ◌∙◌, arith}
use Rattle.std.specs.Prelude.{Contains, slice_get, option_map}
use Rattle.std.specs.List.{AllZip}
use Rattle.std.proofs.lemmas.Bool.{eqb-true}
use Rattle.std.proofs.lemmas.Option.{none-some, same_Some, slice_get-map}
use Rattle.wol_disk.specs.Disk.{State}
use Rattle.spin_model.specs.Spun.{state_of}
use Rattle.spin_model.specs.declared.spun.Spun.{Spun}
use Rattle.log_scan.specs.declared.Scan.{Scan}
use Rattle.log_segment.specs.Segment.{part_of, disk_of}
use Rattle.logger.specs.Lanes.{held_in, logger_of}
use Rattle.logger.specs.declared.lane.HeldSegment.{HeldSegment}
use Rattle.logger.specs.declared.lane.Lane.{Lane}
use Rattle.logger.specs.declared.shared.Shared.{Shared}
use Rattle.manager.proofs.ReadThrough.{zip_at, zip_back}
use Rattle.manager.proofs.ReadyLanes.{get_of}
use Rattle.manager_recovery.specs.Opening.{IsBefore, AreInOrder, place_of}
use Rattle.manager_recovery.specs.Left.{IsSameOwned}
use Rattle.manager_recovery.specs.Scanned.{IsSettledPart, HoldsItsOwn, AreHeld, AreAdopted, has_some, held_on, thinned}
use Rattle.manager_recovery.specs.declared.opening.Opening.{Opening}
use Rattle.manager_recovery.specs.declared.opening.OwnedPart.{OwnedPart}
use Rattle.manager_recovery.proofs.Lists.{all_get}

module _ {D : Type 0} where
  behind : (o b : OwnedPart D) (os : List (OwnedPart D)) (j : ℕ) → AreInOrder (map place_of (o ∷ os)) → slice_get os j ≡ Some b → o.logger ≡ b.logger → o.index ≡ b.index → ⊥
  behind o b os j order is logger index =
      let before : IsBefore (place_of o) (place_of b) = all_get (IsBefore (place_of o)) (map place_of os) j (place_of b) (slice_get-map place_of os j ∙ ap (option_map place_of) is) order.0 in
      ⊎_elim (λ (less : o.logger < b.logger). omega (arith, less, logger)) (λ (less : (o.logger ≡ b.logger) × (o.index < b.index)). let l = less.1 in omega (arith, l, index)) before

  -- no two owned segments lie at one place
  one_place : (os : List (OwnedPart D)) (i j : ℕ) (a b : OwnedPart D) → AreInOrder (map place_of os) → slice_get os i ≡ Some a → slice_get os j ≡ Some b → a.logger ≡ b.logger → a.index ≡ b.index → a ≡ b
  one_place [] i j a b order is_a is_b logger index = absurd (none-some a is_a)
  one_place (o ∷ os) zero zero a b order is_a is_b logger index = sym (same_Some o a is_a) ∙ same_Some o b is_b
  one_place (o ∷ os) zero (suc j) a b order is_a is_b logger index =
      let same = same_Some o a is_a in absurd (behind o b os j order is_b (ap (λ (x : OwnedPart D). x.logger) same ∙ logger) (ap (λ (x : OwnedPart D). x.index) same ∙ index))
  one_place (o ∷ os) (suc i) zero a b order is_a is_b logger index =
      let same = same_Some o b is_b in absurd (behind o a os i order is_a (ap (λ (x : OwnedPart D). x.logger) same ∙ sym logger) (ap (λ (x : OwnedPart D). x.index) same ∙ sym index))
  one_place (o ∷ os) (suc i) (suc j) a b order is_a is_b logger index = one_place os i j a b order.1 is_a is_b logger index

  -- the part that a held segment is
  record IsOwnedPart (os : List (OwnedPart D)) (logger : ℕ) (h : HeldSegment D) : Type 0 where
    pub part : OwnedPart D
    pub k : ℕ
    pub there : slice_get os k ≡ Some part
    pub on : part.logger ≡ logger
    pub index : h.index ≡ part.index
    pub same : part_of h.segment ≡ part.part

  further : (o : OwnedPart D) (os : List (OwnedPart D)) (logger : ℕ) (h : HeldSegment D) → IsOwnedPart os logger h → IsOwnedPart (o ∷ os) logger h
  further o os logger h p = record { part = p.part; k = suc p.k; there = p.there; on = p.on; index = p.index; same = p.same }

  part_on : (state : D → State) (logger : ℕ) (os : List (OwnedPart D)) (ss : List Scan) (hs : List (HeldSegment D)) → AreAdopted state os ss hs → (i : ℕ) (h : HeldSegment D) → slice_get (held_on logger os hs) i ≡ Some h → IsOwnedPart os logger h
  part_on state logger [] ss hs adopted i h is = absurd (none-some h is)
  part_on state logger (o ∷ os) [] hs adopted i h is = absurd adopted
  part_on state logger (o ∷ os) (s ∷ ss) [] adopted i h is = absurd adopted
  part_on state logger (o ∷ os) (s ∷ ss) (g ∷ hs) adopted i h is = at (λ j there. part_on state logger os ss hs adopted.1 j h there) (eqb o.logger logger) refl i is
    where
      at : ((j : ℕ) → slice_get (held_on logger os hs) j ≡ Some h → IsOwnedPart os logger h) → (t : Bool) → eqb o.logger logger ≡ t → (i : ℕ) → slice_get (cond t (g ∷ held_on logger os hs) (held_on logger os hs)) i ≡ Some h → IsOwnedPart (o ∷ os) logger h
      at rest true here zero is =
          let same = same_Some g h is in record {
            part = o;
            k = 0;
            there = refl;
            on = eqb-true o.logger logger here;
            index = ap (λ (x : HeldSegment D). x.index) (sym same) ∙ adopted.0.index;
            same = ap (λ (x : HeldSegment D). part_of x.segment) (sym same) ∙ adopted.0.part;
          }
      at rest true here (suc i) is = further o os logger h (rest i is)
      at rest false other i is = further o os logger h (rest i is)

  from_thinned : (os : List (OwnedPart D)) (ss : List Scan) (k : ℕ) (q : OwnedPart D) → slice_get (thinned os ss) k ≡ Some q → (j : ℕ) × (slice_get os j ≡ Some q)
  from_thinned [] ss k q is = absurd (none-some q is)
  from_thinned (o ∷ os) [] k q is = absurd (none-some q is)
  from_thinned (o ∷ os) (s ∷ ss) k q is = at (λ j there. from_thinned os ss j q there) (has_some s) k is
    where
      at : ((j : ℕ) → slice_get (thinned os ss) j ≡ Some q → (i : ℕ) × (slice_get os i ≡ Some q)) → (t : Bool) (k : ℕ) → slice_get (cond t (o ∷ thinned os ss) (thinned os ss)) k ≡ Some q → (j : ℕ) × (slice_get (o ∷ os) j ≡ Some q)
      at rest true zero is = (0, is)
      at rest true (suc k) is = let r = rest k is in (suc r.0, r.1)
      at rest false k is = let r = rest k is in (suc r.0, r.1)

-- each segment that a lane holds has the count that it had when the opening began
pub held_calm : {D : Type 0} (state : D → State) (shared : Shared D) (o : Opening D) (os read : List (OwnedPart D)) (all scans : List Scan) (old new : List (Lane D)) → AreInOrder (map place_of o.owned.items)
    → os ≡ thinned read all → AllZip (IsSameOwned state) o.owned.items read → AllZip (IsSettledPart state) o.owned.items read → AreHeld state shared os scans old new
    → (p : OwnedPart D) (l : Lane D) (h : HeldSegment D) → Contains o.owned.items p → Contains new l → Contains (held_in l) h → logger_of l ≡ p.logger → h.index ≡ p.index
    → (disk_of state h.segment).faults ≡ (state_of state p.part).faults
held_calm {D} state shared o os read all scans old new order left same settled_ held p l h has_p has_l has_h logger index =
    let at_l = get_of new l has_l in
    let own = zip_back (HoldsItsOwn state shared os held.segments) old new at_l.0 l held.each at_l.1 in
    let at_h = get_of (held_in l) h has_h in
    let one = part_on state (logger_of l) os scans held.segments held.adopted at_h.0 h (ap (λ (hs : List (HeldSegment D)). slice_get hs at_h.0) (sym own.2.held) ∙ at_h.1) in
    let j = from_thinned read all one.k one.part (ap (λ (qs : List (OwnedPart D)). slice_get qs one.k) (sym left) ∙ one.there) in
    let was = zip_back (IsSameOwned state) o.owned.items read j.0 one.part same j.1 in
    let calm = (zip_at (IsSettledPart state) o.owned.items read j.0 was.0 one.part settled_ was.1 j.1).calm in
    let at_p = get_of o.owned.items p has_p in
    let is_p : was.0 ≡ p = one_place o.owned.items j.0 at_p.0 was.0 p order was.1 at_p.1
    (sym (ap (λ (x : OwnedPart D). x.logger) was.2.0) ∙ (one.on ∙ logger)) (sym (ap (λ (x : OwnedPart D). x.index) was.2.0) ∙ (sym one.index ∙ index)) in
    ap (λ (q : Spun D). (state_of state q).faults) one.same ∙ (calm ∙ ap (λ (x : OwnedPart D). (state_of state x.part).faults) is_p)
