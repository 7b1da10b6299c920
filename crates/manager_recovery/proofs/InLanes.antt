-- The lanes hold the segments that were handed on, each lane those of its logger in order.
use Rattle.std.proofs.Common.{◌≡◌, inl, inr, ℕ, zero, suc, Bool, true, false, cond, eqb, eq-eqb, List, [], ◌∷◌, map, Some, refl, sym, subst}
use Rattle.std.specs.Prelude.{slice_get, filter, ◌==◌}
use Rattle.std.specs.List.{AllByRecursion, AllZip}
use Rattle.std.proofs.lemmas.Option.{same_Some, none-some, get_or_from_slice_get}
use Rattle.wol_disk.specs.Disk.{State, IsAmong}
use Rattle.log_scan.specs.declared.Scan.{Scan}
use Rattle.logger.specs.Lanes.{logger_of, held_in}
use Rattle.logger.specs.declared.lane.HeldSegment.{HeldSegment}
use Rattle.logger.specs.declared.lane.Lane.{Lane}
use Rattle.logger.specs.declared.shared.Shared.{Shared}
use Rattle.manager_recovery.specs.Opened.{IsInLane, IsHeldAs, HoldsInOrder}
use Rattle.manager_recovery.specs.Scanned.{AreAdopted, HoldsItsOwn, held_on, lane_of}
use Rattle.manager_recovery.specs.declared.opening.Opening.{Opening}
use Rattle.manager_recovery.specs.declared.opening.OwnedPart.{OwnedPart}
use Rattle.manager_recovery.specs.declared.volume.Recovered.{Recovered}
use Rattle.manager_recovery.proofs.ByLogger.{on, all_among, among_map, filter_among, contains_among}
use Rattle.manager_recovery.proofs.Lists.{all_get, within}
use Rattle.manager_recovery.proofs.OpenedKeeps.{IsGathered, IsLaneNow}
use Rattle.manager_recovery.proofs.Segs.{Seg, IsSeg, segs_of, logger_of_seg, lane_named}

module _ {D : Type 0} (state : D → State) where
  -- those on one logger, and what is held of them
  held_as : (v : ℕ) (os : List (OwnedPart D)) (ss : List Scan) (hs : List (HeldSegment D)) → AreAdopted state os ss hs → AllZip IsHeldAs (filter (λ (o : OwnedPart D). o.logger == v) os) (held_on v os hs)
  held_as v [] ss hs adopted = tt
  held_as v (o ∷ os) [] hs adopted = absurd adopted
  held_as v (o ∷ os) (s ∷ ss) [] adopted = absurd adopted
  held_as v (o ∷ os) (s ∷ ss) (h ∷ hs) adopted = at (eqb o.logger v) (held_as v os ss hs adopted.1)
    where
      at : (t : Bool) → AllZip IsHeldAs (filter (λ (q : OwnedPart D). q.logger == v) os) (held_on v os hs)
          → AllZip IsHeldAs (cond t (o ∷ filter (λ (q : OwnedPart D). q.logger == v) os) (filter (λ (q : OwnedPart D). q.logger == v) os)) (cond t (h ∷ held_on v os hs) (held_on v os hs))
      at true rest = (record { index = adopted.0.index; part = adopted.0.part }, rest)
      at false rest = rest

  -- each lane holds its own in order
  pub all_in_order : (shared : Shared D) (os : List (OwnedPart D)) (ss : List Scan) (hs : List (HeldSegment D)) → AreAdopted state os ss hs → (olds news : List (Lane D)) → AllZip (HoldsItsOwn state shared os hs) olds news → AllByRecursion (HoldsInOrder os) news
  all_in_order shared os ss hs adopted [] [] zip = tt
  all_in_order shared os ss hs adopted [] (n ∷ news) zip = absurd zip
  all_in_order shared os ss hs adopted (x ∷ olds) [] zip = absurd zip
  all_in_order shared os ss hs adopted (x ∷ olds) (n ∷ news) zip = (
    subst (AllZip IsHeldAs (filter (λ (o : OwnedPart D). o.logger == logger_of n) os)) (sym zip.0.held) (held_as (logger_of n) os ss hs adopted),
    all_in_order shared os ss hs adopted olds news zip.1,
  )

lane_at : {D : Type 0} (lanes : List (Lane D)) (k v : ℕ) → slice_get (map logger_of lanes) k ≡ Some v → (l : Lane D) × (slice_get lanes k ≡ Some l) × (logger_of l ≡ v)
lane_at [] k v is = absurd (none-some v is)
lane_at (l ∷ lanes) zero v is = (l, refl, same_Some (logger_of l) v is)
lane_at (l ∷ lanes) (suc k) v is = lane_at lanes k v is

module _ {D : Type 0} (state : D → State) (shared : Shared D) (n : Opening D) (r : Recovered) (lanes : List (Lane D)) (gs : List (Seg D)) (c : IsGathered state shared n r lanes gs) where
  one_in_lane : (g : Seg D) → IsAmong gs g → IsInLane lanes g.part
  one_in_lane g among =
      let seg = all_among (IsSeg state n.lanes.items n.want.id n.want.home n.view) gs g c.all among in
      let k = lane_of n.view g.part.logger in
      let w = lane_at lanes k g.part.logger (subst (λ (v : List ℕ). slice_get v k ≡ Some g.part.logger) (sym c.loggers) (lane_named n.view g.part.logger seg.named)) in
      let now = all_get (IsLaneNow state shared n.want.id n.most gs) lanes k w.0 w.1 c.each in
      let here : IsAmong (held_in w.0) g.held = subst (λ (hs : List (HeldSegment D)). IsAmong hs g.held) (sym now.held)
      (among_map (λ (x : Seg D). x.held) (on logger_of_seg (logger_of w.0) gs) g (filter_among (λ (x : Seg D). eqb (logger_of_seg x) (logger_of w.0)) gs g among (eq-eqb g.part.logger (logger_of w.0) (sym w.2)))) in
      record {
        lane = w.0;
        segment = g.held;
        among = (k, within lanes k w.0 w.1, get_or_from_slice_get lanes k w.0 w.0 w.1);
        logger = w.2;
        is_held = contains_among (held_in w.0) g.held here;
        index = seg.adopted.index;
        part = seg.adopted.part;
      }

  parts_of : (P : OwnedPart D → Type 0) (os : List (OwnedPart D)) (ss : List Scan) (hs : List (HeldSegment D)) → AreAdopted state os ss hs → ((g : Seg D) → IsAmong (segs_of os ss hs) g → P g.part) → AllByRecursion P os
  parts_of P [] ss hs adopted f = tt
  parts_of P (o ∷ os) [] hs adopted f = absurd adopted
  parts_of P (o ∷ os) (s ∷ ss) [] adopted f = absurd adopted
  parts_of P (o ∷ os) (s ∷ ss) (h ∷ hs) adopted f = (f (record { part = o; scan = s; held = h }) (inl refl), parts_of P os ss hs adopted.1 (λ g among. f g (inr among)))

  pub all_in_lanes : (os : List (OwnedPart D)) (ss : List Scan) (hs : List (HeldSegment D)) → AreAdopted state os ss hs → gs ≡ segs_of os ss hs → AllByRecursion (IsInLane lanes) os
  all_in_lanes os ss hs adopted same = parts_of (IsInLane lanes) os ss hs adopted (λ g among. one_in_lane g (subst (λ (l : List (Seg D)). IsAmong l g) (sym same) among))
