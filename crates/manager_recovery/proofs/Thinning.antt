-- A volume that is opened while segments that hold nothing go to their pools.
use Rattle.std.proofs.Common.{◌≡◌, ◌≢◌, inl, ⊎_elim, ◌+◌, ◌-◌, ◌<◌, ◌≤◌, ℕ, suc, Bool, true, false, cond, eqb, List, [], ◌∷◌, ◌++◌, length, take, drop, map, remove, Option, None, Some, refl, sym, ap, subst, ◌∙◌, arith}
use Rattle.std.specs.Prelude.{slice_get, slice_set, filter, position, IfSome, slice_index_or, vec_capacity}
use Rattle.std.specs.List.{AllByRecursion, AllZip}
use Rattle.std.proofs.lemmas.List.{append_assoc, append-nil, length-take-le}
use Rattle.std.proofs.Math.Seq.{take-length}
use Rattle.std.proofs.lemmas.Option.{same_Some}
use Rattle.wol_disk.specs.Disk.{State, IsDisk}
use Rattle.wol_disk.proofs.Moments.{started}
use Rattle.wol_model.specs.Blocks.{AreApart}
use Rattle.wol_model.specs.Heads.{IsViewList}
use Rattle.turn_lock.specs.LockIds.{LockId}
use Rattle.turn_lock.specs.Passes.{pass_lock, pass_number, pass_mine, IsFree}
use Rattle.spin_model.specs.Operations.{has_token}
use Rattle.spin_model.specs.Spun.{state_of}
use Rattle.spin_model.specs.declared.spindle.SpindleBase.{SpindleBase}
use Rattle.spin_model.specs.declared.spun.Spun.{Spun}
use Rattle.seg_pool.specs.Operations.{holds}
use Rattle.seg_pool.specs.declared.base.PoolBase.{PoolBase}
use Rattle.log_segment.specs.declared.free.FreeSegment.{FreeSegment}
use Rattle.log_scan.specs.declared.Scan.{Scan}
use Rattle.logger.specs.Lanes.{IsLane, AreAccesses, IsAt, IsHeld, IsTaken, IsSameLane, logger_of, held_in, taken_in, pool_of, segments_in, indexes_in}
use Rattle.logger.specs.declared.lane.Lane.{Lane}
use Rattle.logger.specs.declared.shared.Shared.{Shared}
use Rattle.manager.proofs.Lanes.{all_at, all_set, map_set}
use Rattle.manager_recovery.specs.Opening.{CanOpen, HoldsOwned, IsOpeningLane, IsOwned, IsHeldIn, IsBefore, AreInOrder, SaysOwner, place_of}
use Rattle.manager_recovery.specs.Left.{HasGiven, IsUsedLane, Fate, Kept, Freed, kept_of, IsFateOf, AreFates}
use Rattle.manager_recovery.specs.Refused.{IsNamesAnswer, first_missing}
use Rattle.manager_recovery.specs.Scanned.{HasGivenNone, IsScanned, IsThinning, has_some, thinned}
use Rattle.manager_recovery.specs.declared.opening.Opening.{Opening}
use Rattle.manager_recovery.specs.declared.opening.OwnedPart.{OwnedPart}
use Rattle.manager_recovery.proofs.Gifts.{gift, none_given, given_more, lanes_same, all_given_front}
use Rattle.manager_recovery.proofs.Lists.{zip_self}
use Rattle.manager_recovery.proofs.OwnedHeld.{all_less as all_held_less}
use Rattle.manager_recovery.proofs.Places.{loggers_are, place_is, lane_is, read_at}
use Rattle.manager_recovery.proofs.ScanLoop.{open_with, same_at, used_then}
use Rattle.manager_recovery.proofs.Fronts.{front_at, back_at, around, none_behind, get_middle, set_middle, remove_middle, zip_join, zip_long, zip_at, zip_other}

-- ---- A lane whose passes were used

module _ {D : Type 0} (state : D → State) (shared : Shared D) (id most : ℕ) (old new : Lane D) (was : IsOpeningLane state shared id most old) (same : IsSameLane old new)
    (rest : new ≡ record old { pool = new.pool; spindle = new.spindle }) where
  used_is : IsFree (pool_of new) → IsFree new.spindle → has_token (pass_mine new.spindle) ≡ false → AreAccesses (pass_mine new.spindle) → IsLane state new
  used_is pool_free spindle_free settled accesses = let l = was.lane in
      let bare : held_in new ≡ [] = ap (λ (q : Lane D). held_in q) rest ∙ was.bare in
      let untaken : taken_in new ≡ None = ap (λ (q : Lane D). taken_in q) rest ∙ was.untaken in
      let holders : length (pass_lock new.pool).base.holders ≡ length (pass_lock old.pool).base.holders = ap (λ (i : LockId PoolBase). length i.base.holders) same.pool.0 in
      let room = l.room in let segments = same.segments in record {
        pool_free = pool_free;
        spindle_free = spindle_free;
        pool_volume = ap (λ (i : LockId PoolBase). i.base.volume) same.pool.0 ∙ l.pool_volume ∙ sym same.logger;
        spindle_volume = ap (λ (i : LockId SpindleBase). i.base.volume) same.spindle.0 ∙ l.spindle_volume ∙ sym same.logger;
        settled = settled;
        accesses = accesses;
        each = subst (AllByRecursion (IsHeld state new.logger new.owner (segments_in new) new.pool)) (sym bare) tt;
        unclaimed = let P : Option (ℕ × FreeSegment D) → Type 0 = λ t. IfSome t (IsTaken state new.logger (segments_in new) new.pool) in subst P (sym untaken) tt;
        apart = subst AreApart (sym (ap (λ (q : Lane D). indexes_in q) rest)) l.apart;
        room = omega (arith, room, holders, segments);
        handing = (ap (λ (q : Lane D). q.parts.items) rest ∙ l.handing.0, subst (λ (q : Lane D). segments_in q ≤ vec_capacity q.parts) (sym rest) l.handing.1);
      }

  used_at : IsAt shared new
  used_at = same_at state shared old new same was.at

  pub used_lane : IsFree (pool_of new) → IsFree new.spindle → has_token (pass_mine new.spindle) ≡ false → AreAccesses (pass_mine new.spindle) → IsUsedLane state shared id most old new
  used_lane pool_free spindle_free settled accesses = record {
    lane = record {
      lane = used_is pool_free spindle_free settled accesses;
      at = used_at;
      owner = same.owner ∙ was.owner;
      bare = ap (λ (q : Lane D). held_in q) rest ∙ was.bare;
      untaken = ap (λ (q : Lane D). taken_in q) rest ∙ was.untaken;
      long = subst (λ (b : ℕ). most + 2 ≤ b) (ap (λ (i : LockId PoolBase). i.base.blocks) (sym same.pool.0)) was.long;
    };
    same = same;
  }

-- ---- A segment less

-- two places of which one is before the other
abbrev pub AreOther : (p q : ℕ × ℕ) → Type 0
AreOther p q = p.0 ≡ q.0 → p.1 ≢ q.1

before_other : (p q : ℕ × ℕ) → IsBefore p q → AreOther p q × AreOther q p
before_other p q is = ⊎_elim
    (λ less. ((λ same one. omega (arith, less, same)), (λ same one. omega (arith, less, same))))
    (λ less. ((λ same one. let l = less.1 in omega (arith, l, one)), (λ same one. let l = less.1 in omega (arith, l, one)))) is

module _ {D : Type 0} where
  before_each : (p : ℕ × ℕ) (front : List (OwnedPart D)) (r : OwnedPart D) (back : List (OwnedPart D)) → AllByRecursion (IsBefore p) (map place_of (front ++ r ∷ back)) → AllByRecursion (IsBefore p) (map place_of (front ++ back)) × IsBefore p (place_of r)
  before_each p [] r back all = (all.1, all.0)
  before_each p (x ∷ front) r back all = let w = before_each p front r back all.1 in ((all.0, w.0), w.1)

  pub order_without : (front : List (OwnedPart D)) (r : OwnedPart D) (back : List (OwnedPart D)) → AreInOrder (map place_of (front ++ r ∷ back)) → AreInOrder (map place_of (front ++ back))
  order_without [] r back order = order.1
  order_without (x ∷ front) r back order = ((before_each (place_of x) front r back order.0).0, order_without front r back order.1)

  other_behind : (p : ℕ × ℕ) (os : List (OwnedPart D)) → AllByRecursion (IsBefore p) (map place_of os) → AllByRecursion (λ (x : OwnedPart D). AreOther (place_of x) p) os
  other_behind p [] all = tt
  other_behind p (x ∷ os) all = ((before_other p (place_of x) all.0).1, other_behind p os all.1)

  pub others : (front : List (OwnedPart D)) (r : OwnedPart D) (back : List (OwnedPart D)) → AreInOrder (map place_of (front ++ r ∷ back)) → AllByRecursion (λ (x : OwnedPart D). AreOther (place_of x) (place_of r)) (front ++ back)
  others [] r back order = other_behind (place_of r) back order.0
  others (x ∷ front) r back order = ((before_other (place_of x) (place_of r) (before_each (place_of x) front r back order.0).1).0, others front r back order.1)

  pub others_front : (front : List (OwnedPart D)) (r : OwnedPart D) (back : List (OwnedPart D)) → AreInOrder (map place_of (front ++ r ∷ back)) → AllByRecursion (λ (x : OwnedPart D). AreOther (place_of r) (place_of x)) front
  others_front [] r back order = tt
  others_front (x ∷ front) r back order = ((before_other (place_of x) (place_of r) (before_each (place_of x) front r back order.0).1).1, others_front front r back order.1)

  all_less : (P : OwnedPart D → Type 0) (front : List (OwnedPart D)) (r : OwnedPart D) (back : List (OwnedPart D)) → AllByRecursion P (front ++ r ∷ back) → AllByRecursion P (front ++ back)
  all_less P [] r back all = all.1
  all_less P (x ∷ front) r back all = (all.0, all_less P front r back all.1)

  all_both : (P Q R : OwnedPart D → Type 0) → ((x : OwnedPart D) → P x → Q x → R x) → (os : List (OwnedPart D)) → AllByRecursion P os → AllByRecursion Q os → AllByRecursion R os
  all_both P Q R so [] a b = tt
  all_both P Q R so (x ∷ os) a b = (so x a.0 b.0, all_both P Q R so os a.1 b.1)

module _ {D : Type 0} (state : D → State) (shared : Shared D) (o : Opening D) (can : CanOpen state shared o) (k : ℕ) (old new : Lane D) (lane : slice_get o.lanes.items k ≡ Some old) (used : IsUsedLane state shared o.want.id o.most old new)
    (r : OwnedPart D) (on : logger_of old ≡ r.logger)
    (kept : (i : ℕ) → i ≢ r.index → holds (pass_lock (pool_of old)).base (pass_number (pool_of old)) (pass_mine (pool_of old)) i ≡ true → holds (pass_lock (pool_of new)).base (pass_number (pool_of new)) (pass_mine (pool_of new)) i ≡ true) where
  owned_set : (x : OwnedPart D) → IsOwned state o.lanes.items x → AreOther (place_of x) (place_of r) → IsOwned state (slice_set o.lanes.items k new) x
  owned_set x is other = record {
    size = is.size;
    last = is.last;
    held = all_set (λ (l : Lane D). logger_of l ≡ x.logger → IsHeldIn state x l) o.lanes.items k new is.held (λ here.
        let same = used.same in
        let to : logger_of old ≡ x.logger = sym same.logger ∙ here in
        let h = all_at (λ (l : Lane D). logger_of l ≡ x.logger → IsHeldIn state x l) o.lanes.items k old lane is.held to in record {
          volume = h.volume ∙ sym same.logger;
          blocks = h.blocks ∙ ap (λ (i : LockId PoolBase). i.base.blocks) (sym same.pool.0);
          below = subst (λ (n : ℕ). x.index < n) (sym same.segments) h.below;
          holding = kept x.index (other (sym to ∙ on)) h.holding;
        });
  }

  pub can_again : (n : Opening D) → n ≡ record o { lanes = n.lanes; owned = n.owned } → n.lanes.items ≡ slice_set o.lanes.items k new → (front back : List (OwnedPart D)) → o.owned.items ≡ front ++ r ∷ back → n.owned.items ≡ front ++ back
      → AreApart (map logger_of o.lanes.items) → pass_mine (pool_of new) ≡ pass_mine (pool_of old) ++ gift (pass_number (pool_of old)) r.index ∷ [] → CanOpen state shared n
  can_again n same lanes front back was is apart gave =
      let order : AreInOrder (map place_of (front ++ r ∷ back)) = subst (λ (l : List (OwnedPart D)). AreInOrder (map place_of l)) was can.in_order in
      let each : AllByRecursion (IsOwned state (slice_set o.lanes.items k new)) (front ++ back) = all_both (IsOwned state o.lanes.items) (λ (x : OwnedPart D). AreOther (place_of x) (place_of r)) (IsOwned state (slice_set o.lanes.items k new)) owned_set (front ++ back)
      (all_less (IsOwned state o.lanes.items) front r back (subst (AllByRecursion (IsOwned state o.lanes.items)) was can.owned)) (others front r back order) in
      subst (CanOpen state shared) (sym same) (open_with state shared o can n.lanes n.owned
      (subst (AllByRecursion (IsAt shared)) (sym lanes) (all_set (IsAt shared) o.lanes.items k new can.at.lanes_ used.lane.at))
      (subst (AllByRecursion (IsOpeningLane state shared o.want.id o.most)) (sym lanes) (all_set (IsOpeningLane state shared o.want.id o.most) o.lanes.items k new can.lanes used.lane))
      (ap (map logger_of) lanes ∙ map_set logger_of o.lanes.items k old new lane used.same.logger)
      (subst (λ (l : List (OwnedPart D)). AreInOrder (map place_of l)) (sym is) (order_without front r back order))
      (subst (λ (ls : List (Lane D)). AllByRecursion (IsOwned state ls) n.owned.items) (sym lanes) (subst (AllByRecursion (IsOwned state (slice_set o.lanes.items k new))) (sym is) each))
      (subst (λ (ls : List (Lane D)). AllByRecursion (HoldsOwned n.owned.items) ls) (sym lanes)
      (subst (λ (l : List (OwnedPart D)). AllByRecursion (HoldsOwned l) (slice_set o.lanes.items k new)) (sym is)
      (all_held_less front r back old new on used.same gave o.lanes.items k lane apart (subst (λ (l : List (OwnedPart D)). AllByRecursion (HoldsOwned l) o.lanes.items) was can.all))))
      (subst (AllByRecursion (SaysOwner state o.want.id)) (sym is) (all_less (SaysOwner state o.want.id) front r back (subst (AllByRecursion (SaysOwner state o.want.id)) was can.heads))))

-- ---- The loop over the segments, from the last one on

-- the segments from place k on were looked at
pub record IsRetiredTo {D : Type 0} (state : D → State) (shared : Shared D) (o n : Opening D) (was is : List Scan) (k : ℕ) : Type 0 where
  pub same : n ≡ record o { lanes = n.lanes; owned = n.owned }
  pub can : CanOpen state shared n
  pub lanes : AllZip (IsUsedLane state shared o.want.id o.most) o.lanes.items n.lanes.items
  pub within : k ≤ length o.owned.items
  pub owned : n.owned.items ≡ take k o.owned.items ++ thinned (drop k o.owned.items) (drop k was)
  pub scans : is ≡ take k was ++ filter has_some (drop k was)
  pub fates : List (Fate D)
  pub kept : kept_of fates ≡ thinned (drop k o.owned.items) (drop k was)
  pub each : AreFates state o.want.id (drop k o.owned.items) fates
  pub pools : AllZip (HasGiven (drop k o.owned.items) fates) o.lanes.items n.lanes.items

pub zip_same : {X : Type 0} (R : X → X → Type 0) (P : X → Type 0) → ((x : X) → P x → R x x) → (xs : List X) → AllByRecursion P xs → AllZip R xs xs
zip_same R P so [] all = tt
zip_same R P so (x ∷ xs) all = (so x all.0, zip_same R P so xs all.1)

pub used_itself : {D : Type 0} (state : D → State) (shared : Shared D) (id most : ℕ) (l : Lane D) → IsOpeningLane state shared id most l → IsUsedLane state shared id most l l
used_itself state shared id most l is = record { lane = is; same = record { logger = refl; owner = refl; segments = refl; pool = (refl, refl); spindle = (refl, refl) } }

module _ {D : Type 0} (state : D → State) (shared : Shared D) (sound : (p : Spun D) → IsDisk (state_of state p)) (o : Opening D) (was : List Scan) (home : ℕ)
    (scanned : AllZip (IsScanned state o.want.id home) o.owned.items was) where
  pub begun : (k : ℕ) → k ≡ length o.owned.items → CanOpen state shared o → IsRetiredTo state shared o o was was k
  begun k whole can =
      let os = o.owned.items in let n = zip_long (IsScanned state o.want.id home) os was scanned in
      let nothing : drop k os ≡ [] = ap (λ (j : ℕ). drop j os) whole ∙ none_behind os in
      let none : drop k was ≡ [] = ap (λ (j : ℕ). drop j was) (whole ∙ sym n) ∙ none_behind was in
      let all_scans : take k was ≡ was = ap (λ (j : ℕ). take j was) (whole ∙ sym n) ∙ take-length was in
      let all_parts : take k os ≡ os = ap (λ (j : ℕ). take j os) whole ∙ take-length os in record {
        same = refl;
        can = can;
        lanes = zip_same (IsUsedLane state shared o.want.id o.most) (IsOpeningLane state shared o.want.id o.most) (used_itself state shared o.want.id o.most) o.lanes.items can.lanes;
        within = omega (arith, whole);
        owned = sym (append-nil os) ∙ (λ i. sym all_parts i ++ thinned (sym nothing i) (drop k was));
        scans = sym (append-nil was) ∙ (λ i. sym all_scans i ++ filter has_some (sym none i));
        fates = [];
        kept = λ i. thinned (sym nothing i) (drop k was);
        each = subst (λ (l : List (OwnedPart D)). AreFates state o.want.id l []) (sym nothing) tt;
        pools = subst (λ (l : List (OwnedPart D)). AllZip (HasGiven l []) o.lanes.items o.lanes.items) (sym nothing) (zip_self (HasGiven [] []) none_given o.lanes.items);
      }

  -- a segment that stays as it is
  stays_as : (p : OwnedPart D) → IsFateOf state o.want.id p (Kept p)
  stays_as p = record { same = (refl, refl, refl); any_moment = λ vs is. started (sound p.part) (λ c image. inl image) }

  -- the segment at the next place
  pub record IsNext (n : Opening D) (is : List Scan) (k : ℕ) : Type 0 where
    pub part : OwnedPart D
    pub scan : Scan
    pub was_part : slice_get o.owned.items k ≡ Some part
    pub was_scan : slice_get was k ≡ Some scan
    pub scanned_ : IsScanned state o.want.id home part scan
    pub here : n.owned.items ≡ take k o.owned.items ++ part ∷ thinned (drop (suc k) o.owned.items) (drop (suc k) was)
    pub scans_here : is ≡ take k was ++ scan ∷ filter has_some (drop (suc k) was)
    pub part_at : slice_get n.owned.items k ≡ Some part
    pub scan_at : slice_get is k ≡ Some scan
    pub long : length (take k o.owned.items) ≡ k
    pub scans_long : length (take k was) ≡ k

  pub next : (n : Opening D) (is : List Scan) (k : ℕ) → IsRetiredTo state shared o n was is (suc k) → IsNext n is k
  next n is k inv =
      let os = o.owned.items in let long = zip_long (IsScanned state o.want.id home) os was scanned in let lt = inv.within in
      let w = zip_at (IsScanned state o.want.id home) os was k scanned (omega (arith, lt)) in
      let T = thinned (drop (suc k) os) (drop (suc k) was) in let S = filter has_some (drop (suc k) was) in
      let front : length (take k os) ≡ k = length-take-le k os (omega (arith, lt)) in
      let scans_front : length (take k was) ≡ k = length-take-le k was (omega (arith, lt, long)) in
      let here : n.owned.items ≡ take k os ++ w.0 ∷ T = inv.owned ∙ ap (λ (l : List (OwnedPart D)). l ++ T) (front_at os k w.0 w.2) ∙ append_assoc (take k os) (w.0 ∷ []) T in
      let scans_here : is ≡ take k was ++ w.1 ∷ S = inv.scans ∙ ap (λ (l : List Scan). l ++ S) (front_at was k w.1 w.3) ∙ append_assoc (take k was) (w.1 ∷ []) S in record {
        part = w.0;
        scan = w.1;
        was_part = w.2;
        was_scan = w.3;
        scanned_ = w.4;
        here = here;
        scans_here = scans_here;
        part_at = ap (λ (l : List (OwnedPart D)). slice_get l k) here ∙ get_middle (take k os) T k w.0 front;
        scan_at = ap (λ (l : List Scan). slice_get l k) scans_here ∙ get_middle (take k was) S k w.1 scans_front;
        long = front;
        scans_long = scans_front;
      }

  -- the loop's counter was lowered
  pub lowered : (n : Opening D) (is : List Scan) (k : ℕ) → 0 < k → IsRetiredTo state shared o n was is k → IsRetiredTo state shared o n was is (suc (k - 1))
  lowered n is k more inv = let e : k ≡ suc (k - 1) = omega (arith, more) in subst (IsRetiredTo state shared o n was is) e inv

  thinned_next : (k : ℕ) (p : OwnedPart D) (s : Scan) (t : Bool) → slice_get o.owned.items k ≡ Some p → slice_get was k ≡ Some s → has_some s ≡ t
      → thinned (drop k o.owned.items) (drop k was) ≡ cond t (p ∷ thinned (drop (suc k) o.owned.items) (drop (suc k) was)) (thinned (drop (suc k) o.owned.items) (drop (suc k) was))
  thinned_next k p s t at scan is =
      (λ i. thinned (back_at o.owned.items k p at i) (back_at was k s scan i)) ∙ (λ i. cond (is i) (p ∷ thinned (drop (suc k) o.owned.items) (drop (suc k) was)) (thinned (drop (suc k) o.owned.items) (drop (suc k) was)))

  filter_next : (k : ℕ) (s : Scan) (t : Bool) → slice_get was k ≡ Some s → has_some s ≡ t → filter has_some (drop k was) ≡ cond t (s ∷ filter has_some (drop (suc k) was)) (filter has_some (drop (suc k) was))
  filter_next k s t scan is = (λ i. filter has_some (back_at was k s scan i)) ∙ (λ i. cond (is i) (s ∷ filter has_some (drop (suc k) was)) (filter has_some (drop (suc k) was)))

  module _ (n : Opening D) (is : List Scan) (k : ℕ) (inv : IsRetiredTo state shared o n was is (suc k)) (at : IsNext n is k) where
    -- it has a record that keeps a block
    pub stays : has_some at.scan ≡ true → IsRetiredTo state shared o n was is k
    stays some = let le = inv.within in let more = thinned_next k at.part at.scan true at.was_part at.was_scan some in record {
      same = inv.same;
      can = inv.can;
      lanes = inv.lanes;
      within = omega (arith, le);
      owned = at.here ∙ ap (λ (l : List (OwnedPart D)). take k o.owned.items ++ l) (sym more);
      scans = at.scans_here ∙ ap (λ (l : List Scan). take k was ++ l) (sym (filter_next k at.scan true at.was_scan some));
      fates = Kept at.part ∷ inv.fates;
      kept = ap (λ (l : List (OwnedPart D)). at.part ∷ l) inv.kept ∙ sym more;
      each = subst (λ (l : List (OwnedPart D)). AreFates state o.want.id l (Kept at.part ∷ inv.fates)) (sym (back_at o.owned.items k at.part at.was_part)) (stays_as at.part, inv.each);
      pools = subst (λ (l : List (OwnedPart D)). AllZip (HasGiven l (Kept at.part ∷ inv.fates)) o.lanes.items n.lanes.items) (sym (back_at o.owned.items k at.part at.was_part)) inv.pools;
    }

    -- it is freed
    pub goes : has_some at.scan ≡ false → (m : Opening D) (js : List Scan) → m ≡ record o { lanes = m.lanes; owned = m.owned } → CanOpen state shared m → AllZip (IsUsedLane state shared o.want.id o.most) o.lanes.items m.lanes.items
        → m.owned.items ≡ remove n.owned.items k → js ≡ remove is k → (f : FreeSegment D) → IsFateOf state o.want.id at.part (Freed f)
        → AllZip (HasGiven (at.part ∷ drop (suc k) o.owned.items) (Freed f ∷ inv.fates)) o.lanes.items m.lanes.items → IsRetiredTo state shared o m was js k
    goes none m js same can lanes owned scans f fate pools = let le = inv.within in let more = thinned_next k at.part at.scan false at.was_part at.was_scan none in
        let T = thinned (drop (suc k) o.owned.items) (drop (suc k) was) in record {
          same = same;
          can = can;
          lanes = lanes;
          within = omega (arith, le);
          owned = owned ∙ ap (λ (l : List (OwnedPart D)). remove l k) at.here ∙ remove_middle (take k o.owned.items) T k at.part at.long ∙ ap (λ (l : List (OwnedPart D)). take k o.owned.items ++ l) (sym more);
          scans = scans ∙ ap (λ (l : List Scan). remove l k) at.scans_here ∙ remove_middle (take k was) (filter has_some (drop (suc k) was)) k at.scan at.scans_long ∙ ap (λ (l : List Scan). take k was ++ l) (sym (filter_next k at.scan false at.was_scan none));
          fates = Freed f ∷ inv.fates;
          kept = inv.kept ∙ sym more;
          each = subst (λ (l : List (OwnedPart D)). AreFates state o.want.id l (Freed f ∷ inv.fates)) (sym (back_at o.owned.items k at.part at.was_part)) (fate, inv.each);
          pools = subst (λ (l : List (OwnedPart D)). AllZip (HasGiven l (Freed f ∷ inv.fates)) o.lanes.items m.lanes.items) (sym (back_at o.owned.items k at.part at.was_part)) pools;
        }

  kept_all : (os : List (OwnedPart D)) (fates : List (Fate D)) → kept_of (map Kept os ++ fates) ≡ os ++ kept_of fates
  kept_all [] fates = refl
  kept_all (p ∷ os) fates = ap (λ (l : List (OwnedPart D)). p ∷ l) (kept_all os fates)

  fates_all : (os : List (OwnedPart D)) → AreFates state o.want.id os (map Kept os)
  fates_all [] = tt
  fates_all (p ∷ os) = (stays_as p, fates_all os)

  module _ (n : Opening D) (is : List Scan) (k : ℕ) (inv : IsRetiredTo state shared o n was is (suc k)) (at : IsNext n is k) (p : OwnedPart D) (fate : IsFateOf state o.want.id at.part (Kept p)) where
    -- it could not be freed
    abbrev pub fates_then : List (Fate D)
    fates_then = map Kept (take k o.owned.items) ++ Kept p ∷ inv.fates

    pub owned_then : (items : List (OwnedPart D)) → items ≡ slice_set n.owned.items k p → items ≡ kept_of fates_then
    owned_then items set =
        let T = thinned (drop (suc k) o.owned.items) (drop (suc k) was) in
        set ∙ ap (λ (l : List (OwnedPart D)). slice_set l k p) at.here ∙ set_middle (take k o.owned.items) T k at.part p at.long
        ∙ ap (λ (l : List (OwnedPart D)). take k o.owned.items ++ p ∷ l) (sym inv.kept) ∙ sym (kept_all (take k o.owned.items) (Kept p ∷ inv.fates))

    pub each_then : AreFates state o.want.id o.owned.items fates_then
    each_then = subst (λ (l : List (OwnedPart D)). AreFates state o.want.id l fates_then) (sym (around o.owned.items k at.part at.was_part))
        (zip_join (IsFateOf state o.want.id) (take k o.owned.items) (at.part ∷ drop (suc k) o.owned.items) (map Kept (take k o.owned.items)) (Kept p ∷ inv.fates) (fates_all (take k o.owned.items)) (fate, inv.each))

  -- ---- The lane of the segment

  module _ (n : Opening D) (is : List Scan) (k : ℕ) (inv : IsRetiredTo state shared o n was is (suc k)) (at : IsNext n is k) where
    pub part_place : IsNamesAnswer o None → (place : ℕ) × (position (λ (id : ℕ). eqb id at.part.logger) n.view ≡ Some place)
    part_place named = let w = place_is state shared o named k at.part at.was_part in (w.0, ap (λ (q : Opening D). position (λ (id : ℕ). eqb id at.part.logger) q.view) inv.same ∙ w.1)

    pub part_lane : IsNamesAnswer o None → (place : ℕ) → position (λ (id : ℕ). eqb id at.part.logger) n.view ≡ Some place → (l : Lane D) × (slice_get n.lanes.items place ≡ Some l) × (logger_of l ≡ at.part.logger)
    part_lane named place found = lane_is state shared n inv.can (subst (λ (q : Opening D). first_missing q.view q.present.items ≡ None) (sym inv.same) named.1) at.part.logger place found

    pub lane_read : IsNamesAnswer o None → (place : ℕ) → position (λ (id : ℕ). eqb id at.part.logger) n.view ≡ Some place → (l : Lane D) → l ≡ slice_index_or n.lanes.items place l → (slice_get n.lanes.items place ≡ Some l) × (logger_of l ≡ at.part.logger)
    lane_read named place found l read = let w = part_lane named place found in let same = read_at n.lanes.items place l w.0 w.1 read in (w.1 ∙ ap Some (sym same), ap logger_of same ∙ w.2)

    module _ (place : ℕ) (l : Lane D) (lane : slice_get n.lanes.items place ≡ Some l) where
      pub is_ready : IsOpeningLane state shared n.want.id n.most l
      is_ready = all_at (IsOpeningLane state shared n.want.id n.most) n.lanes.items place l lane inv.can.lanes

      pub is_held : logger_of l ≡ at.part.logger → (p : OwnedPart D) → slice_get n.owned.items k ≡ Some p → IsHeldIn state p l
      is_held on p there =
          let same : at.part ≡ p = same_Some at.part p (sym at.part_at ∙ there) in
          all_at (λ (q : Lane D). logger_of q ≡ p.logger → IsHeldIn state p q) n.lanes.items place l lane (all_at (IsOwned state n.lanes.items) n.owned.items k p there inv.can.owned).held (on ∙ ap (λ (q : OwnedPart D). q.logger) same)

      module _ (m : Lane D) (same : IsSameLane l m) (rest : m ≡ record l { pool = m.pool; spindle = m.spindle }) (pool_free : IsFree (pool_of m)) (spindle_free : IsFree m.spindle) (settled : has_token (pass_mine m.spindle) ≡ false) (accesses : AreAccesses (pass_mine m.spindle))
          (t : Opening D) (t_same : t ≡ record n { lanes = t.lanes; owned = t.owned }) (t_lanes : t.lanes.items ≡ slice_set n.lanes.items place m) where
        used : IsUsedLane state shared n.want.id n.most l m
        used = used_lane state shared n.want.id n.most l m is_ready same rest pool_free spindle_free settled accesses

        used_first : IsUsedLane state shared o.want.id o.most l m
        used_first = subst (λ (q : Opening D). IsUsedLane state shared q.want.id q.most l m) inv.same used

        then_same : t ≡ record o { lanes = t.lanes; owned = t.owned }
        then_same = t_same ∙ ap (λ (q : Opening D). record q { lanes = t.lanes; owned = t.owned }) inv.same

        then_lanes : AllZip (IsUsedLane state shared o.want.id o.most) o.lanes.items t.lanes.items
        then_lanes = subst (AllZip (IsUsedLane state shared o.want.id o.most) o.lanes.items) (sym t_lanes)
            (zip_other (IsUsedLane state shared o.want.id o.most) o.lanes.items n.lanes.items place l m lane (λ x u. used_then state shared o.want.id o.most x l m u used_first) inv.lanes)

        pub freed : has_some at.scan ≡ false → logger_of l ≡ at.part.logger
            → ((i : ℕ) → i ≢ at.part.index → holds (pass_lock (pool_of l)).base (pass_number (pool_of l)) (pass_mine (pool_of l)) i ≡ true → holds (pass_lock (pool_of m)).base (pass_number (pool_of m)) (pass_mine (pool_of m)) i ≡ true)
            → t.owned.items ≡ remove n.owned.items k → (js : List Scan) → js ≡ remove is k → (f : FreeSegment D) → IsFateOf state o.want.id at.part (Freed f)
            → AreApart (map logger_of n.lanes.items) → pass_mine (pool_of m) ≡ pass_mine (pool_of l) ++ gift (pass_number (pool_of l)) at.part.index ∷ [] → IsRetiredTo state shared o t was js k
        freed none on kept owned js scans f fate apart gave =
            let T = thinned (drop (suc k) o.owned.items) (drop (suc k) was) in
            let left : t.owned.items ≡ take k o.owned.items ++ T = owned ∙ ap (λ (q : List (OwnedPart D)). remove q k) at.here ∙ remove_middle (take k o.owned.items) T k at.part at.long in
            goes n is k inv at none t js then_same (can_again state shared n inv.can place l m lane used at.part on kept t t_same t_lanes (take k o.owned.items) T at.here left apart gave) then_lanes owned scans f fate
            (subst (AllZip (HasGiven (at.part ∷ drop (suc k) o.owned.items) (Freed f ∷ inv.fates)) o.lanes.items) (sym t_lanes)
            (given_more at.part (drop (suc k) o.owned.items) f inv.fates o.lanes.items n.lanes.items place l m (lanes_same state shared o.want.id o.most o.lanes.items n.lanes.items inv.lanes) apart lane on gave inv.pools))

        pub failed : (p : OwnedPart D) → IsFateOf state o.want.id at.part (Kept p) → t.owned.items ≡ slice_set n.owned.items k p → HasGivenNone l m → IsThinning state shared o t
        failed p fate owned none = record {
          same = then_same;
          lanes = then_lanes;
          fates = fates_then n is k inv at p fate;
          owned = owned_then n is k inv at p fate t.owned.items owned;
          each = each_then n is k inv at p fate;
          pools = subst (AllZip (HasGiven o.owned.items (fates_then n is k inv at p fate)) o.lanes.items) (sym t_lanes)
              (zip_other (HasGiven o.owned.items (fates_then n is k inv at p fate)) o.lanes.items n.lanes.items place l m lane (λ x has. none ∙ has)
              (subst (λ (l : List (OwnedPart D)). AllZip (HasGiven l (fates_then n is k inv at p fate)) o.lanes.items n.lanes.items) (sym (around o.owned.items k at.part at.was_part))
              (all_given_front (take k o.owned.items) (drop (suc k) o.owned.items) p at.part inv.fates o.lanes.items n.lanes.items inv.pools)));
        }

  -- no two lanes are on one logger
  pub lanes_apart : IsNamesAnswer o None → (n : Opening D) (is : List Scan) (k : ℕ) → IsRetiredTo state shared o n was is k → IsViewList n.view → AreApart (map logger_of n.lanes.items)
  lanes_apart named n is k inv valid = subst AreApart (sym (loggers_are state shared n inv.can (subst (λ (q : Opening D). first_missing q.view q.present.items ≡ None) (sym inv.same) named.1))) valid.distinct

  -- all of them were looked at
  pub whole : (n : Opening D) (is : List Scan) → IsRetiredTo state shared o n was is 0 → IsThinning state shared o n
  whole n is inv = record { same = inv.same; lanes = inv.lanes; fates = inv.fates; owned = inv.owned ∙ sym inv.kept; each = inv.each; pools = inv.pools }
