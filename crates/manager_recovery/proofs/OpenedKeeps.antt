-- A manager that is made of a volume that was read back stands for its beginning and no entries.
use Rattle.std.proofs.Common.{◌≡◌, ◌+◌, ◌<◌, ◌≤◌, ◌^◌, ℕ, zero, suc, true, eqb, List, [], ◌∷◌, length, map, None, Some, refl, sym, ap, subst, ◌∙◌, arith}
use Rattle.std.proofs.lemmas.List.{length-map, length-replicate}
use Rattle.std.specs.Prelude.{slice_get, replicate, IsPermutation}
use Rattle.std.specs.List.{AllByRecursion, flat_map}
use Rattle.std.proofs.lemmas.Bool.{eqb-true}
use Rattle.std.proofs.lemmas.Option.{same_Some, none-some}
use Rattle.std.specs.declared.alloc.Global.{Global}
use Rattle.std.specs.declared.vec.Vec.{Vec}
use Rattle.wol_disk.specs.Disk.{State, IsAmong}
use Rattle.wol_model.specs.Heads.{IsViewList}
use Rattle.wol_model.specs.Index.{Indexed, AreRising}
use Rattle.log_segment.specs.Segment.{IsWhole, valid_of}
use Rattle.logger.specs.Lanes.{IsLane, HoldsAll, IsAt, logger_of, lane_owner, held_in, taken_in, pool_blocks}
use Rattle.logger.specs.declared.lane.HeldSegment.{HeldSegment}
use Rattle.logger.specs.declared.lane.Lane.{Lane}
use Rattle.logger.specs.declared.shared.Shared.{Shared}
use Rattle.manager.specs.Stands.{IsReady, IsReadyLane, IsHome, IsInVolume, IsPlacedIn, entries_at, opened}
use Rattle.manager.specs.declared.manager.Manager.{Manager}
use Rattle.manager.proofs.Lanes.{all_at}
use Rattle.manager_recovery.specs.Opening.{CanOpen, AreInOrder, place_of}
use Rattle.manager_recovery.specs.declared.opening.Opening.{Opening}
use Rattle.manager_recovery.specs.declared.volume.Recovered.{Recovered}
use Rattle.manager_recovery.proofs.ByLogger.{on, all_among, all_from, among_get, among_filter, map_among}
use Rattle.manager_recovery.proofs.OpenedIndex.{in_volume, placed_in, counted_at}
use Rattle.manager_recovery.proofs.Places.{lane_with}
use Rattle.manager_recovery.proofs.Segs as segs
use Rattle.manager_recovery.proofs.Segs.{Seg, IsSeg, logger_of_seg, lane_named, shown, shown_at, logs_of, shown_is, lanes_hold, each_shown, is_shown, places_apart, records_of_all, extents_of_all}

-- ---- What was gathered

-- a lane of the volume with the segments on its logger
pub record IsLaneNow {D : Type 0} (state : D → State) (shared : Shared D) (id most : ℕ) (gs : List (Seg D)) (l : Lane D) : Type 0 where
  pub lane : IsLane state l
  pub at : IsAt shared l
  pub owner : lane_owner l ≡ id
  pub untaken : taken_in l ≡ None
  pub long : most + 2 ≤ pool_blocks l
  pub held : held_in l ≡ map (λ (g : Seg D). g.held) (on logger_of_seg (logger_of l) gs)
  pub all : HoldsAll l

pub record IsGathered {D : Type 0} (state : D → State) (shared : Shared D) (n : Opening D) (r : Recovered) (lanes : List (Lane D)) (gs : List (Seg D)) : Type 0 where
  pub can : CanOpen state shared n
  pub view_ok : IsViewList n.view
  pub loggers_before : map logger_of n.lanes.items ≡ n.view
  pub loggers : map logger_of lanes ≡ n.view
  pub each : AllByRecursion (IsLaneNow state shared n.want.id n.most gs) lanes
  pub all : AllByRecursion (IsSeg state n.lanes.items n.want.id n.want.home n.view) gs
  pub order : AreInOrder (map (λ (g : Seg D). place_of g.part) gs)
  pub same : IsPermutation (flat_map (segs.entries_at state n.view) gs) r.index.entries
  pub rising : AreRising (map (λ (e : Indexed). e.listed.version) r.index.entries)
  pub next : (1 ≤ r.next) × (r.next ≤ 2 ^ 63)
  pub below : AllByRecursion (λ (e : Indexed). e.listed.version < r.next) r.index.entries

get_map : {X Y : Type 0} (f : X → Y) (xs : List X) (k : ℕ) (x : X) → slice_get xs k ≡ Some x → slice_get (map f xs) k ≡ Some (f x)
get_map f [] k x is = absurd (none-some x is)
get_map f (y ∷ xs) zero x is = ap (λ q. Some (f q)) (same_Some y x is)
get_map f (y ∷ xs) (suc k) x is = get_map f xs k x is

pub all_replicate : {X : Type 0} (P : X → Type 0) (n : ℕ) (x : X) → P x → AllByRecursion P (replicate n x)
all_replicate P zero x is = tt
all_replicate P (suc n) x is = (is, all_replicate P n x is)

module _ {D : Type 0} (state : D → State) (shared : Shared D) (n : Opening D) (r : Recovered) (lanes : Vec (Lane D) Global) (gs : List (Seg D)) (c : IsGathered state shared n r lanes.items gs) where
  abbrev pub made : Manager D
  made = opened n.want.id n.home n.spindle lanes r.index r.next n.most

  lane_for : (k v : ℕ) → slice_get n.view k ≡ Some v → (l : Lane D) × (slice_get lanes.items k ≡ Some l) × (held_in l ≡ map (λ (g : Seg D). g.held) (on logger_of_seg v gs))
  lane_for k v is =
      let w = lane_with lanes.items k v (ap (λ (q : List ℕ). slice_get q k) c.loggers ∙ is) in
      let now = all_at (IsLaneNow state shared n.want.id n.most gs) lanes.items k w.0 w.1 c.each in
      (w.0, w.1, now.held ∙ ap (λ (x : ℕ). map (λ (g : Seg D). g.held) (on logger_of_seg x gs)) w.2)

  logger_there : (k : ℕ) (l : Lane D) → slice_get lanes.items k ≡ Some l → slice_get n.view k ≡ Some (logger_of l)
  logger_there k l is = ap (λ (q : List ℕ). slice_get q k) (sym c.loggers) ∙ get_map logger_of lanes.items k l is

  at_lane : (P : HeldSegment D → Type 0) (k : ℕ) (l : Lane D) → slice_get lanes.items k ≡ Some l → ((g : Seg D) → IsAmong gs g → slice_get n.view k ≡ Some g.part.logger → P g.held) → AllByRecursion P (held_in l)
  at_lane P k l is so =
      let now = all_at (IsLaneNow state shared n.want.id n.most gs) lanes.items k l is c.each in
      subst (AllByRecursion P) (sym now.held) (all_from P (map (λ (g : Seg D). g.held) (on logger_of_seg (logger_of l) gs)) (λ h has.
      let w = map_among (λ (g : Seg D). g.held) (on logger_of_seg (logger_of l) gs) h has in
      let f = among_filter (λ (g : Seg D). eqb (logger_of_seg g) (logger_of l)) gs w.0 w.1 in
      subst P (sym w.2) (so w.0 f.0 (logger_there k l is ∙ ap Some (sym (eqb-true w.0.part.logger (logger_of l) f.1))))))

  all_lanes : (Q : Lane D → Type 0) → ((k : ℕ) (l : Lane D) → slice_get lanes.items k ≡ Some l → Q l) → AllByRecursion Q lanes.items
  all_lanes Q so = all_from Q lanes.items (λ l has. let w = among_get lanes.items l has in so w.0 l w.1)

  is_seg : (g : Seg D) → IsAmong gs g → IsSeg state n.lanes.items n.want.id n.want.home n.view g
  is_seg g has = all_among (IsSeg state n.lanes.items n.want.id n.want.home n.view) gs g c.all has

  few : length lanes.items ≤ 16
  few = let a = ap length c.loggers in let b = length-map lanes.items logger_of in let f = c.view_ok.few in omega (arith, a, b, f)

  pub is_ready : IsReady state made
  is_ready = let can = c.can in let size = can.home_size in let want = can.want.home in record {
    ready = record {
      home_volume = can.home_volume;
      home_small = (omega (arith, size, want.0), omega (arith, size, want.1));
      spindle_volume = can.spindle_volume;
      spindle_free = can.spindle_free;
      settled = can.settled;
      accesses = can.accesses;
      each = all_lanes (IsReadyLane state n.want.id n.most) (λ k l is. let now = all_at (IsLaneNow state shared n.want.id n.most gs) lanes.items k l is c.each in record { lane = now.lane; owner = now.owner; untaken = now.untaken; long = now.long; all = now.all });
      flags = length-replicate (length lanes.items) true;
      rooms_ = length-replicate (length lanes.items) _;
      few = few;
      most_ = can.most;
    };
    next = c.next;
    below = c.below;
    ranges = subst (λ (s : ℕ). AllByRecursion (IsInVolume s) r.index.entries) (sym size) (all_from (IsInVolume n.want.home) r.index.entries (in_volume state n.lanes.items n.want.id n.want.home n.view gs c.all c.order c.view_ok.distinct r.index.entries c.same c.rising));
    up = λ up. record {
      whole = all_lanes (λ (l : Lane D). AllByRecursion (λ (h : HeldSegment D). IsWhole h.segment) (held_in l)) (λ k l is. at_lane (λ (h : HeldSegment D). IsWhole h.segment) k l is (λ g has there. (is_seg g has).adopted.whole));
      placed = all_from (IsPlacedIn lanes.items) r.index.entries (placed_in state n.lanes.items n.want.id n.want.home n.view gs c.all c.order c.view_ok.distinct r.index.entries c.same c.rising lanes.items lane_for);
      counted = λ k l is. at_lane (λ (h : HeldSegment D). valid_of h.segment ≡ entries_at k h.index r.index.entries) k l is (λ g has there. counted_at state n.lanes.items n.want.id n.want.home n.view gs c.all c.order c.view_ok.distinct r.index.entries c.same c.rising k g has there);
    };
  }

  pub is_home : IsHome shared made
  is_home = record {
    spindle_in = c.can.at.spindle_in;
    spindle_is = c.can.at.spindle_is;
    lanes_ = all_lanes (IsAt shared) (λ k l is. (all_at (IsLaneNow state shared n.want.id n.most gs) lanes.items k l is c.each).at);
  }
