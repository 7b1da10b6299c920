-- All owned segments are read back, one after another.
use Rattle.std.proofs.Common.{◌≡◌, ◌+◌, ◌-◌, ◌<◌, ◌≤◌, ◌^◌, ℕ, zero, suc, Bool, true, false, not, cond, eqb, List, [], ◌∷◌, length, map, Option, None, Some, refl, sym, ap, subst, ◌∙◌, arith}
use Rattle.std.specs.Prelude.{Result, Ok, Err, IfOk, OnOk, slice_get, slice_set, slice_index_or, position, option_map, vec_len}
use Rattle.std.specs.List.{AllByRecursion, AllZip, filter}
use Rattle.std.specs.declared.alloc.Global.{Global}
use Rattle.std.specs.declared.vec.Vec.{Vec}
use Rattle.std.proofs.lemmas.Bool.{eqb-true}
use Rattle.std.proofs.lemmas.List.Quantifiers.{position-Some}
use Rattle.std.proofs.lemmas.Option.{same_Some, none-some, get_or_from_slice_get}
use Rattle.wol_disk.specs.Disk.{Block, State, Values, IsDisk, reads, settled}
use Rattle.wol_disk.proofs.Images.{reads_only}
use Rattle.wol_disk.proofs.Moments.{started, then_leaves}
use Rattle.wol_disk.proofs.Calls.{now_leaves}
use Rattle.wol_model.specs.Heads.{owned_block}
use Rattle.turn_lock.specs.Passes.{lock_id, pass_mine}
use Rattle.spin_model.specs.Spun.{state_of, disk_of}
use Rattle.logger.specs.Lanes.{IsLane, IsAt, IsSameLane, logger_of, held_in, taken_in, pool_of, pool_blocks}
use Rattle.logger.specs.declared.lane.Lane.{Lane}
use Rattle.logger.specs.declared.shared.Shared.{Shared}
use Rattle.manager_recovery.specs.Opening.{CanOpen, HoldsOwned, IsOpeningLane, IsOwned, IsHeldIn, SaysOwner, AreInOrder, place_of}
use Rattle.manager_recovery.specs.Left.{IsSameOwned, IsUsedLane}
use Rattle.manager_recovery.specs.Refused.{first_missing}
use Rattle.manager_recovery.specs.Scanned.{HasGivenNone, IsSeenAgain, IsSettledPart}
use Rattle.manager_recovery.specs.declared.opening.Opening.{Opening}
use Rattle.manager_recovery.specs.declared.opening.OwnedPart.{OwnedPart}
use Rattle.manager_recovery.proofs.OwnedHeld.{HoldsAt, at_still}
use Rattle.manager_recovery.proofs.Lists.{all_map, all_get, all_set, zip_change, zip_self, map_set}

-- ---- Lanes

module _ {D : Type 0} (state : D → State) where
  same_lane : (l : Lane D) → IsSameLane l l
  same_lane l = record { logger = refl; owner = refl; segments = refl; pool = (refl, refl); spindle = (refl, refl) }

  pub then_same : (a b c : Lane D) → IsSameLane a b → IsSameLane b c → IsSameLane a c
  then_same a b c ab bc = record {
    logger = bc.logger ∙ ab.logger;
    owner = bc.owner ∙ ab.owner;
    segments = bc.segments ∙ ab.segments;
    pool = (bc.pool.0 ∙ ab.pool.0, bc.pool.1 ∙ ab.pool.1);
    spindle = (bc.spindle.0 ∙ ab.spindle.0, bc.spindle.1 ∙ ab.spindle.1);
  }

  pub same_at : (shared : Shared D) (old new : Lane D) → IsSameLane old new → IsAt shared old → IsAt shared new
  same_at shared old new same at = record {
    pool_in = subst (λ (n : ℕ). n < vec_len shared.pools) (sym same.logger) at.pool_in;
    spindle_in = subst (λ (n : ℕ). n < vec_len shared.spindles) (sym same.logger) at.spindle_in;
    pool = λ d. same.pool.0 ∙ at.pool d ∙ (λ i. lock_id (slice_index_or shared.pools.items (sym same.logger i) d));
    spindle = λ d. same.spindle.0 ∙ at.spindle d ∙ (λ i. lock_id (slice_index_or shared.spindles.items (sym same.logger i) d));
  }

  -- a lane of the opening stays one where its spindle was used
  pub opening_lane : (shared : Shared D) (id most : ℕ) (old new : Lane D) → IsLane state new → IsSameLane old new → new ≡ record old { spindle = new.spindle } → IsOpeningLane state shared id most old → IsOpeningLane state shared id most new
  opening_lane shared id most old new lane same rest was = record {
    lane = lane;
    at = same_at shared old new same was.at;
    owner = same.owner ∙ was.owner;
    bare = ap (λ (l : Lane D). held_in l) rest ∙ was.bare;
    untaken = ap (λ (l : Lane D). taken_in l) rest ∙ was.untaken;
    long = subst (λ (n : ℕ). most + 2 ≤ n) (sym (ap (λ (l : Lane D). pool_blocks l) rest)) was.long;
  }

  pub used_self : (shared : Shared D) (id most : ℕ) (l : Lane D) → IsOpeningLane state shared id most l → IsUsedLane state shared id most l l
  used_self shared id most l is = record { lane = is; same = same_lane l }

  pub used_then : (shared : Shared D) (id most : ℕ) (a b c : Lane D) → IsUsedLane state shared id most a b → IsUsedLane state shared id most b c → IsUsedLane state shared id most a c
  used_then shared id most a b c ab bc = record { lane = bc.lane; same = then_same a b c ab.same bc.same }

  still_held : (o : OwnedPart D) (old new : Lane D) → IsSameLane old new → new ≡ record old { spindle = new.spindle } → (logger_of old ≡ o.logger → IsHeldIn state o old) → logger_of new ≡ o.logger → IsHeldIn state o new
  still_held o old new same rest was is = subst (λ (l : Lane D). IsHeldIn state o l) (sym rest) (let h = was (sym same.logger ∙ is) in record { volume = h.volume; blocks = h.blocks; below = h.below; holding = h.holding })

-- ---- Parts

module _ {D : Type 0} (state : D → State) (sound : (d : D) → IsDisk (state d)) where
  pub seen_self : (o : OwnedPart D) → IsSeenAgain state o o
  seen_self o = record { same = (refl, refl, refl); any_moment = started (sound (disk_of o.part)) (λ c is. is) }

  pub seen_then : (a b c : OwnedPart D) → IsSeenAgain state a b → IsSeenAgain state b c → IsSeenAgain state a c
  seen_then a b c ab bc = record {
    same = (bc.same.0 ∙ (λ i. record (ab.same.0 i) { part = c.part }), bc.same.1 ∙ ab.same.1, bc.same.2 ∙ ab.same.2);
    any_moment = then_leaves ab.any_moment bc.any_moment (λ d is. now_leaves ab.any_moment (sound (disk_of b.part)) d is);
  }

-- a part that was settled reads as before
settled_says : (id : ℕ) (old new : Option (List (Values Block))) → new ≡ option_map settled old → ((vs : List (Values Block)) → old ≡ Some vs → (rest : List Block) × (reads vs ≡ owned_block id ∷ rest))
    → (ws : List (Values Block)) → new ≡ Some ws → (rest : List Block) × (reads ws ≡ owned_block id ∷ rest)
settled_says id None new e says ws is = absurd (none-some ws (sym e ∙ is))
settled_says id (Some vs) new e says ws is =
    let same : settled vs ≡ ws = same_Some (settled vs) ws (sym e ∙ is) in
    let w = says vs refl in
    (w.0, ap reads (sym same) ∙ reads_only (reads vs) ∙ w.1)

-- ---- The whole opening

-- the condition stands with other lanes and parts of which it is so
pub open_with : {D : Type 0} (state : D → State) (shared : Shared D) (o : Opening D) → CanOpen state shared o → (lanes : Vec (Lane D) Global) (owned : Vec (OwnedPart D) Global) → AllByRecursion (IsAt shared) lanes.items
    → AllByRecursion (IsOpeningLane state shared o.want.id o.most) lanes.items → map logger_of lanes.items ≡ map logger_of o.lanes.items → AreInOrder (map place_of owned.items) → AllByRecursion (IsOwned state lanes.items) owned.items
    → AllByRecursion (HoldsOwned owned.items) lanes.items → AllByRecursion (SaysOwner state o.want.id) owned.items → CanOpen state shared (record o { lanes = lanes; owned = owned })
open_with state shared o can lanes owned at opening loggers order parts all heads = record {
  want = can.want;
  home_volume = can.home_volume;
  home_size = can.home_size;
  spindle_volume = can.spindle_volume;
  spindle_free = can.spindle_free;
  settled = can.settled;
  accesses = can.accesses;
  at = record { spindle_in = can.at.spindle_in; spindle_is = can.at.spindle_is; lanes_ = at };
  lanes = opening;
  loggers = loggers ∙ can.loggers;
  most = can.most;
  in_order = order;
  owned = parts;
  all = all;
  heads = heads;
}

-- the part of an owned segment was read, and is as it was
module _ {D : Type 0} (state : D → State) (p q : OwnedPart D) (part : IsSameOwned state p q) where
  moved : OwnedPart D
  moved = record p { part = q.part }

  held_moved : (l : Lane D) → IsHeldIn state p l → IsHeldIn state moved l
  unfolding moved
  held_moved l h = record { volume = part.1 ∙ h.volume; blocks = part.2 ∙ h.blocks; below = h.below; holding = h.holding }

  pub owned_moved : (lanes : List (Lane D)) → IsOwned state lanes p → IsOwned state lanes q
  unfolding moved
  owned_moved lanes own = subst (IsOwned state lanes) (sym part.0) (record {
    size = subst (λ (n : ℕ). (4 ≤ n) × (n ≤ 65536)) (sym part.2) own.size;
    last = subst (λ (n : ℕ). p.first_block + n ≤ 2 ^ 64 - 1) (sym part.2) own.last;
    held = all_map (λ (l : Lane D). logger_of l ≡ p.logger → IsHeldIn state p l) (λ (l : Lane D). logger_of l ≡ p.logger → IsHeldIn state moved l) (λ l f is. held_moved l (f is)) lanes own.held;
  })

module _ {D : Type 0} (state : D → State) (shared : Shared D) (o : Opening D) (can : CanOpen state shared o) (lanes : Vec (Lane D) Global) (owned : Vec (OwnedPart D) Global)
    (place k : ℕ) (old new : Lane D) (p q : OwnedPart D) (there : slice_get o.lanes.items place ≡ Some old) (lanes_set : lanes.items ≡ slice_set o.lanes.items place new)
    (here : slice_get o.owned.items k ≡ Some p) (owned_set : owned.items ≡ slice_set o.owned.items k q)
    (lane : IsLane state new) (same : IsSameLane old new) (rest : new ≡ record old { spindle = new.spindle }) (part : IsSameOwned state p q) where
  lane_now : IsOpeningLane state shared o.want.id o.most new
  lane_now = opening_lane state shared o.want.id o.most old new lane same rest (all_get (IsOpeningLane state shared o.want.id o.most) o.lanes.items place old there can.lanes)

  owned_lanes : (x : OwnedPart D) → IsOwned state o.lanes.items x → IsOwned state (slice_set o.lanes.items place new) x
  owned_lanes x own = record {
    size = own.size;
    last = own.last;
    held = all_set (λ (l : Lane D). logger_of l ≡ x.logger → IsHeldIn state x l) o.lanes.items place new own.held
        (still_held state x old new same rest (all_get (λ (l : Lane D). logger_of l ≡ x.logger → IsHeldIn state x l) o.lanes.items place old there own.held));
  }

  places_same : map place_of owned.items ≡ map place_of o.owned.items
  places_same = ap (map place_of) owned_set ∙ map_set place_of o.owned.items k q p here (λ i. place_of (part.0 i))

  -- the condition stands where the spindle of the lane at one place was used, and the part at one place was read back
  pub open_after : IsSettledPart state p q → CanOpen state shared (record o { lanes = lanes; owned = owned })
  open_after settled_ = open_with state shared o can lanes owned
      (subst (AllByRecursion (IsAt shared)) (sym lanes_set) (all_set (IsAt shared) o.lanes.items place new can.at.lanes_ lane_now.at))
      (subst (AllByRecursion (IsOpeningLane state shared o.want.id o.most)) (sym lanes_set) (all_set (IsOpeningLane state shared o.want.id o.most) o.lanes.items place new can.lanes lane_now))
      (ap (map logger_of) lanes_set ∙ map_set logger_of o.lanes.items place new old there same.logger)
      (subst AreInOrder (sym places_same) can.in_order)
      (subst (λ (ls : List (Lane D)). AllByRecursion (IsOwned state ls) owned.items) (sym lanes_set)
      (subst (AllByRecursion (IsOwned state (slice_set o.lanes.items place new))) (sym owned_set)
      (all_set (IsOwned state (slice_set o.lanes.items place new)) o.owned.items k q (all_map (IsOwned state o.lanes.items) (IsOwned state (slice_set o.lanes.items place new)) owned_lanes o.owned.items can.owned)
      (owned_moved state p q part (slice_set o.lanes.items place new) (owned_lanes p (all_get (IsOwned state o.lanes.items) o.owned.items k p here can.owned))))))
      (subst (λ (ps : List (ℕ × ℕ)). AllByRecursion (HoldsAt ps) lanes.items) (sym places_same)
      (subst (AllByRecursion (HoldsAt (map place_of o.owned.items))) (sym lanes_set)
      (all_set (HoldsAt (map place_of o.owned.items)) o.lanes.items place new can.all
      (at_still (map place_of o.owned.items) old new same (ap (λ (l : Lane D). pass_mine (pool_of l)) rest) (all_get (HoldsAt (map place_of o.owned.items)) o.lanes.items place old there can.all)))))
      (subst (AllByRecursion (SaysOwner state o.want.id)) (sym owned_set)
      (all_set (SaysOwner state o.want.id) o.owned.items k q can.heads
      (settled_says o.want.id (state_of state p.part).values (state_of state q.part).values settled_.settled_ (all_get (SaysOwner state o.want.id) o.owned.items k p here can.heads))))

  pub lanes_used : AllZip (IsUsedLane state shared o.want.id o.most) o.lanes.items lanes.items
  lanes_used = subst (AllZip (IsUsedLane state shared o.want.id o.most) o.lanes.items) (sym lanes_set)
      (zip_change (IsUsedLane state shared o.want.id o.most) o.lanes.items o.lanes.items place old new there (λ x is. used_then state shared o.want.id o.most x old new is (record { lane = lane_now; same = same }))
      (zip_used o.lanes.items can.lanes))
    where
      zip_used : (ls : List (Lane D)) → AllByRecursion (IsOpeningLane state shared o.want.id o.most) ls → AllZip (IsUsedLane state shared o.want.id o.most) ls ls
      zip_used [] all = tt
      zip_used (l ∷ ls) all = (used_self state shared o.want.id o.most l all.0, zip_used ls all.1)

-- its pass did nothing at the pool
pub pools_unused : {D : Type 0} (ls : List (Lane D)) (place : ℕ) (old new : Lane D) → slice_get ls place ≡ Some old → new ≡ record old { spindle = new.spindle } → AllZip HasGivenNone ls (slice_set ls place new)
pools_unused {D} ls place old new there rest =
    zip_change HasGivenNone ls ls place old new there (λ x is. ap (λ (l : Lane D). pass_mine (pool_of l)) rest ∙ is) (zip_self HasGivenNone (λ l. refl) ls)

-- ---- The lane of a segment

none_missing : (view : List ℕ) (present : List Bool) → first_missing view present ≡ None → filter (λ id. slice_index_or present id false) view ≡ view
none_missing [] present none = refl
none_missing (id ∷ view) present none = at (none_missing view present) (slice_index_or present id false) none
  where
    at : (first_missing view present ≡ None → filter (λ id. slice_index_or present id false) view ≡ view) → (b : Bool) → cond (not b) (Some id) (first_missing view present) ≡ None → cond b (id ∷ filter (λ id. slice_index_or present id false) view) (filter (λ id. slice_index_or present id false) view) ≡ id ∷ view
    at rest true e = λ i. id ∷ rest e i
    at rest false e = absurd (none-some id (sym e))

lane_there : {D : Type 0} (lanes : List (Lane D)) (view : List ℕ) (place : ℕ) → map logger_of lanes ≡ view → place < length view → (l : Lane D) × (slice_get lanes place ≡ Some l) × (slice_get view place ≡ Some (logger_of l))
lane_there [] view place is lt = absurd (let e : length view ≡ 0 = ap length (sym is) in omega (arith, e))
lane_there (l ∷ lanes) view zero is lt = (l, refl, (λ i. slice_get (sym is i) 0))
lane_there (l ∷ lanes) [] (suc place) is lt = absurd (omega arith)
lane_there (l ∷ lanes) (v ∷ view) (suc place) is lt =
    let e : logger_of l ∷ map logger_of lanes ≡ v ∷ view = is in
    let more : map logger_of lanes ≡ view = cc in
    lane_there lanes view place more (omega arith)

-- the lane at the place of a logger that the view names is on that logger
pub lane_of_logger : {D : Type 0} (lanes : List (Lane D)) (view : List ℕ) (present : List Bool) (logger place : ℕ) (res : Option ℕ) → map logger_of lanes ≡ filter (λ id. slice_index_or present id false) view
    → first_missing view present ≡ None → res ≡ position (λ id. eqb id logger) view → res ≡ Some place → (l : Lane D) × (slice_get lanes place ≡ Some l) × (logger_of l ≡ logger)
lane_of_logger lanes view present logger place res is none found at =
    let p = position-Some (λ id. eqb id logger) view place 0 (sym found ∙ at) in
    let w = lane_there lanes view place (is ∙ none_missing view present none) p.0 in
    (w.0, w.1, eqb-true (logger_of w.0) logger ((λ i. eqb (sym (get_or_from_slice_get view place (logger_of w.0) 0 w.2) i) logger) ∙ p.1))

-- what holds of an answer joined
pub join_ok : {S E : Type 0} (r : Result S E) (P : S → Type 0) (Q C T I : Type 0) → (Q → C) → IfOk r P → OnOk r Q → (T → OnOk r I) → IfOk r (λ s. C × P s × Q × (T → I))
join_ok (Ok s) P Q C T I f p q i = (f q, p, q, i)
join_ok (Err e) P Q C T I f p q i = tt
