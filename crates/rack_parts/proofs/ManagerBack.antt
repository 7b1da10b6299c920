-- A manager comes back to the rest of its rack.
use Rattle.rack_parts.proofs.Basics.{◌≡◌, ◌⊎◌, inl, inr, ⊎_elim, ℕ, Bool, false, List, [], ◌∷◌, ◌++◌, map, sym, ap, ◌∙◌, subst, append_assoc, ◌≢◌, ◌<◌, ◌↔◌, length, Option, Some}
use Rattle.rack_parts.proofs.Basics.{None, refl, arith, Contains, All, AllPairs, IsSome, IfSome, slice_get, slice_index_or, option_and_then, cases_eq, append-nil, map_push}
use Rattle.rack_parts.proofs.Basics.{get_or-map, length-map, Contains-append_left, Contains-append_right, Contains-append_cases, Contains-push, Contains-push_cases, All-contains}
use Rattle.rack_parts.proofs.Basics.{All-weaker, All-from_recursion, none-some, same_Some, get_or_from_slice_get, Vec, Global}
use Rattle.rack_parts.proofs.Terms.{ManagerBase, away_with, image_here, segment_here, pool_pass, spindle_pass, held_here, indexes_here, IsImageOut, IsPassAt, IsPart, IsImageRest}
use Rattle.rack_parts.proofs.Terms.{IsHolding, IsHeldHere, AreLocks, OnlyAccess, IsRestBut, State, AreApart, Shape, Config, lock_id, pass_lock, pass_mine, TurnLock, PassOf}
use Rattle.rack_parts.proofs.Terms.{has_token, Spun, Spindle, SpindleBase, holds, PoolBase, Pool, part_of, FreeSegment, IsLane, IsHeld, logger_of, AreAccesses, pool_of, spindle_of}
use Rattle.rack_parts.proofs.Terms.{held_in, taken_in, indexes_in, HeldSegment, Lane, Shared, Keeps, IsReadyLane, IsNamed, AreNamed, IsLaneShared, Manager, ManagerParts, shapes_of}
use Rattle.rack_parts.proofs.Terms.{IsOpenBase, HasPlace, IsBarePlace, HasBack, KeepsPlace, CanPutLanes, IsHomeAway, PutsManager, held_parts, with_home, KeepsButHome, home_here}
use Rattle.rack_parts.proofs.Terms.{ImageRest, Rest, Rooms}
use Rattle.std.specs.Option.{option_to_list}
use Rattle.std.proofs.lemmas.List.Elements.{recursion_from_All}
use Rattle.wol_promise.specs.Ruled.{Noted}
use Rattle.logger.specs.Lanes.{segments_in}
use Rattle.manager.specs.declared.base.LaneBase.{LaneBase}
use Rattle.rack_parts.proofs.Members.{first_in, later_in, none_in, in_map, of_map, is_member, map_map, element_at, no_value, a_value, is_there, no_members, all_member, of_recursion, in_cases}

-- a base stays one while the images that were out are out
pub base_stays : {D : Type 0} (config : Config) (shared : Shared D) (old new : List (Option (ImageRest D))) (b : ManagerBase) → ((k : ℕ) → IsImageOut old k → IsImageOut new k) → IsOpenBase config shared old b → IsOpenBase config shared new b
base_stays config shared old new b still is = record {
  out = still b.volume.began.owner is.out;
  home_blocks = is.home_blocks;
  at = is.at;
  loggers = is.loggers;
  loggers_out = recursion_from_All (IsImageOut new) b.volume.began.view (All-weaker (IsImageOut old) (IsImageOut new) still b.volume.began.view (All-from_recursion (IsImageOut old) b.volume.began.view is.loggers_out));
  others = is.others;
  apart = is.apart;
  most = is.most;
  own_spindle = is.own_spindle;
  own_lanes = is.own_lanes;
  untaken = is.untaken;
}

-- ---- What is away with managers, as the last one comes back

abbrev pub lanes_with : ManagerBase → List (ℕ × ℕ)
lanes_with b = map (λ k. (b.volume.began.owner, k)) b.volume.began.view

pub lanes_push : (bs : List ManagerBase) (b : ManagerBase) → (away_with (bs ++ b ∷ [])).lanes ≡ (away_with bs).lanes ++ lanes_with b
lanes_push [] b = append-nil (lanes_with b)
lanes_push (c ∷ bs) b = ap (λ (l : List (ℕ × ℕ)). lanes_with c ++ l) (lanes_push bs b) ∙ sym (append_assoc (lanes_with c) (away_with bs).lanes (lanes_with b))

pub homes_push : (bs : List ManagerBase) (b : ManagerBase) → (away_with (bs ++ b ∷ [])).homes ≡ (away_with bs).homes ++ b.volume.began.owner ∷ []
homes_push bs b = map_push (λ (c : ManagerBase). c.volume.began.owner) bs b

pub lane_with : (b : ManagerBase) (k : ℕ) → Contains b.volume.began.view k → Contains (lanes_with b) (b.volume.began.owner, k)
lane_with b k has = in_map (λ (j : ℕ). (b.volume.began.owner, j)) b.volume.began.view k has

pub with_lane : (b : ManagerBase) (v k : ℕ) → Contains (lanes_with b) (v, k) → (v ≡ b.volume.began.owner) × Contains b.volume.began.view k
with_lane b v k has =
    let x = of_map (λ (j : ℕ). (b.volume.began.owner, j)) b.volume.began.view (v, k) has in
    (sym (ap (λ (p : ℕ × ℕ). p.0) x.2), subst (λ (j : ℕ). Contains b.volume.began.view j) (ap (λ (p : ℕ × ℕ). p.1) x.2) x.1)

-- a lane among these is one of them, whose owner it names
pub lane_of_owner : (bs : List ManagerBase) (v k : ℕ) → Contains (away_with bs).lanes (v, k) → Contains (away_with bs).homes v
lane_of_owner [] v k has = absurd (none_in (v, k) has)
lane_of_owner (b ∷ bs) v k has = ⊎_elim
    (λ here. first_in b.volume.began.owner v (away_with bs).homes (sym (with_lane b v k here).0))
    (λ more. later_in b.volume.began.owner v (away_with bs).homes (lane_of_owner bs v k more))
    (Contains-append_cases (lanes_with b) (away_with bs).lanes (v, k) has)

-- the same is away before and after, but what the last one had
pub lane_stays : (bs : List ManagerBase) (b : ManagerBase) (v k : ℕ) → Contains (away_with bs).lanes (v, k) → Contains (away_with (bs ++ b ∷ [])).lanes (v, k)
lane_stays bs b v k has = subst (λ (l : List (ℕ × ℕ)). Contains l (v, k)) (sym (lanes_push bs b)) (Contains-append_left (away_with bs).lanes (lanes_with b) (v, k) has)

pub lane_came : (bs : List ManagerBase) (b : ManagerBase) (k : ℕ) → Contains b.volume.began.view k → Contains (away_with (bs ++ b ∷ [])).lanes (b.volume.began.owner, k)
lane_came bs b k has = subst (λ (l : List (ℕ × ℕ)). Contains l (b.volume.began.owner, k)) (sym (lanes_push bs b)) (Contains-append_right (away_with bs).lanes (lanes_with b) (b.volume.began.owner, k) (lane_with b k has))

pub lane_cases : (bs : List ManagerBase) (b : ManagerBase) (v k : ℕ) → Contains (away_with (bs ++ b ∷ [])).lanes (v, k) → Contains (away_with bs).lanes (v, k) ⊎ ((v ≡ b.volume.began.owner) × Contains b.volume.began.view k)
lane_cases bs b v k has = ⊎_elim
    (λ front. inl front)
    (λ last. inr (with_lane b v k last))
    (Contains-append_cases (away_with bs).lanes (lanes_with b) (v, k) (subst (λ (l : List (ℕ × ℕ)). Contains l (v, k)) (lanes_push bs b) has))

pub home_stays : (bs : List ManagerBase) (b : ManagerBase) (v : ℕ) → Contains (away_with bs).homes v → Contains (away_with (bs ++ b ∷ [])).homes v
home_stays bs b v has = subst (λ (l : List ℕ). Contains l v) (sym (homes_push bs b)) (Contains-append_left (away_with bs).homes (b.volume.began.owner ∷ []) v has)

pub home_came : (bs : List ManagerBase) (b : ManagerBase) → Contains (away_with (bs ++ b ∷ [])).homes b.volume.began.owner
home_came bs b = subst (λ (l : List ℕ). Contains l b.volume.began.owner) (sym (homes_push bs b)) (Contains-push (away_with bs).homes b.volume.began.owner)

pub home_cases : (bs : List ManagerBase) (b : ManagerBase) (v : ℕ) → Contains (away_with (bs ++ b ∷ [])).homes v → Contains (away_with bs).homes v ⊎ (b.volume.began.owner ≡ v)
home_cases bs b v has = Contains-push_cases (away_with bs).homes b.volume.began.owner v (subst (λ (l : List ℕ). Contains l v) (homes_push bs b) has)

-- whether a place is one of a manager's
pub is_lane_of : (b : ManagerBase) (v k : ℕ) → ((v ≡ b.volume.began.owner) × Contains b.volume.began.view k) ⊎ ((v ≡ b.volume.began.owner → Contains b.volume.began.view k → ⊥))
is_lane_of b v k = ⊎_elim
    (λ e. ⊎_elim (λ has. inl (e, has)) (λ never. inr (λ same has. never has)) (is_member b.volume.began.view k))
    (λ differs. inr (λ same has. differs same))
    (cases_eq v b.volume.began.owner)

-- ---- A manager comes back to the rest of its rack

-- the base of a lane among these
named_lane : {D : Type 0} (ls : List (Lane D)) (bs : List LaneBase) (l : Lane D) → AreNamed ls bs → Contains ls l → (b : LaneBase) × Contains bs b × IsNamed l b
named_lane [] bs l named has = absurd (none_in l has)
named_lane (x ∷ ls) [] l named has = absurd named
named_lane {D} (x ∷ ls) (y ∷ bs) l named has = ⊎_elim
    (λ e. (y, first_in y y bs refl, subst (λ (z : Lane D). IsNamed z y) e named.0))
    (λ more. let rest = named_lane ls bs l named.1 more in (rest.0, later_in y rest.0 bs rest.1, rest.2))
    (in_cases x l ls has)

-- an image that changed at most in its home
module _ {D : Type 0} where
  pub kept_all : (o : Option (ImageRest D)) → KeepsButHome o o
  kept_all None = refl
  kept_all (Some r) = refl

  kept_home : (home : Option (Spun D)) (o : Option (ImageRest D)) → KeepsButHome o (with_home home o)
  kept_home home None = refl
  kept_home home (Some r) = refl

  kept_some : (o : Option (ImageRest D)) (n : ImageRest D) → KeepsButHome o (Some n) → (r : ImageRest D) × (o ≡ Some r) × (n ≡ record r { home = n.home })
  kept_some None n kept = absurd (none-some n (sym kept))
  kept_some (Some r) n kept = (r, refl, kept)

  kept_none : (o : Option (ImageRest D)) → KeepsButHome o None → o ≡ None
  kept_none None kept = refl
  kept_none (Some r) kept = absurd kept

  kept_out : (r : ImageRest D) (n : Option (ImageRest D)) → KeepsButHome (Some r) n → IsSome n
  kept_out r None kept = absurd kept
  kept_out r (Some n) kept = refl

module _ {D : Type 0} (state : D → State) (tells : Bool) (config : Config) (shared : Shared D) (bases : List ManagerBase) (b : ManagerBase) (id : ℕ) (owner_is : b.volume.began.owner ≡ id) (old : Rest D)
    (open_base : IsOpenBase config shared old.images.items b) (locks : AreLocks config shared) (parts : IsRestBut state config shared (away_with (bases ++ b ∷ [])) old) (accesses : OnlyAccess old)
    (not_again : Contains (away_with bases).homes b.volume.began.owner → ⊥) (m : Manager D) (notes : List Noted) (keeps : Keeps tells state m b notes) (rooms : Rooms D) where
  abbrev volumes : ℕ
  volumes = length (shapes_of config)

  -- the rest once room for passes went
  abbrev mid : Rest D
  mid = record old { rooms = rooms }

  view_is : map logger_of m.lanes.items ≡ b.volume.began.view
  view_is = keeps.locks.view

  pub ready_lane : (l : Lane D) → Contains m.lanes.items l → IsReadyLane state m.id m.most l
  ready_lane l has = of_recursion (IsReadyLane state m.id m.most) m.lanes.items l keeps.ready.ready.each has

  -- the logger of a lane is in the view, its locks are the shared ones
  in_view : (l : Lane D) → Contains m.lanes.items l → Contains b.volume.began.view (logger_of l)
  in_view l has = subst (λ (xs : List ℕ). Contains xs (logger_of l)) view_is (in_map logger_of m.lanes.items l has)

  away_lane : (l : Lane D) → Contains m.lanes.items l → Contains (away_with (bases ++ b ∷ [])).lanes (id, logger_of l)
  away_lane l has = subst (λ (v : ℕ). Contains (away_with (bases ++ b ∷ [])).lanes (v, logger_of l)) owner_is (lane_came bases b (logger_of l) (in_view l has))

  away_home : Contains (away_with (bases ++ b ∷ [])).homes id
  away_home = subst (λ (v : ℕ). Contains (away_with (bases ++ b ∷ [])).homes v) owner_is (home_came bases b)

  lane_base : (l : Lane D) → Contains m.lanes.items l → (lb : LaneBase) × Contains b.lanes lb × IsNamed l lb
  lane_base l has = named_lane m.lanes.items b.lanes l keeps.locks.each has

  lane_shared : (l : Lane D) (has : Contains m.lanes.items l) → IsLaneShared shared (lane_base l has).0
  lane_shared l has = of_recursion (IsLaneShared shared) b.lanes (lane_base l has).0 open_base.at.lanes (lane_base l has).1

  logger_below : (l : Lane D) → Contains m.lanes.items l → logger_of l < length shared.pools.items
  logger_below l has =
      let e = (lane_base l has).2.logger in
      let n = (lane_shared l has).pool_in in
      omega (arith, e, n, shared.pools.ok.0)

  id_below : id < length old.passes.items
  id_below =
      let n = open_base.at.spindle_in in
      omega (arith, n, owner_is, shared.spindles.ok.0, locks.spindle_count, parts.count)

  place : (k : ℕ) → k < volumes → HasPlace mid id k
  place k below = record { row = id_below; volumes = volumes; rows = parts.rows; within = below }

  no_pool : (k : ℕ) → k < length shared.pools.items → Contains (away_with (bases ++ b ∷ [])).lanes (id, k) → pool_pass old id k ≡ None
  no_pool k below away = no_value (pool_pass old id k) (λ is. (parts.pools.here id k id_below below).0 is away)

  nothing_held : (k : ℕ) → pool_pass old id k ≡ None → held_here old id k ≡ []
  nothing_held k none = no_members (held_here old id k) (λ h has.
      let held = parts.returned.held id k h.0 (in_map (λ (x : ℕ × Spun D). x.0) (held_here old id k) h has) in
      none-some held.0 (sym none ∙ held.1))

  -- home is away
  pub home_away : IsHomeAway mid id
  home_away =
      let image = a_value (image_here old.images.items id) (subst (λ (v : ℕ). IsImageOut old.images.items v) owner_is open_base.out) in
      let below : id < length shared.spindles.items = omega (arith, id_below, locks.spindle_count, parts.count) in
      record {
        place = place id (omega (arith, id_below, parts.count));
        image = image.0;
        out = image.1;
        home = no_value image.0.home (λ is. (parts.homes id image.0 image.1).0 is away_home);
        spindle = no_value (spindle_pass old id id) (λ is. (parts.spindles.here id id id_below below).0 is (inr (refl, away_home)));
      }

  -- each lane is whole, and its place is bare
  pub lanes_away : CanPutLanes state mid id m.lanes.items
  lanes_away = record {
    whole = all_member (λ l. IsLane state l × (taken_in l ≡ None)) m.lanes.items (λ l has. ((ready_lane l has).lane, (ready_lane l has).untaken));
    bare = all_member (λ l. IsBarePlace mid id (logger_of l)) m.lanes.items (λ l has. bare_place l has);
    apart = apart;
  }
    where
      bare_place : (l : Lane D) → Contains m.lanes.items l → IsBarePlace mid id (logger_of l)
      bare_place l has =
          let below = logger_below l has in
          let spindles_below : logger_of l < length shared.spindles.items = omega (arith, below, locks.pool_count, locks.spindle_count) in
          let never = no_pool (logger_of l) below (away_lane l has) in
          record {
            place = place (logger_of l) (omega (arith, below, locks.pool_count));
            pool = never;
            spindle = no_value (spindle_pass old id (logger_of l)) (λ is. (parts.spindles.here id (logger_of l) id_below spindles_below).0 is (inl (away_lane l has)));
            held = nothing_held (logger_of l) never;
          }

      apart : AllPairs (λ l k. logger_of l ≢ logger_of k) m.lanes.items
      apart i j d before_ within same =
          let n : length (map logger_of m.lanes.items) ≡ length m.lanes.items = length-map m.lanes.items logger_of in
          let pairs : AllPairs (λ x y. x ≢ y) (map logger_of m.lanes.items) = subst (λ (xs : List ℕ). AllPairs (λ x y. x ≢ y) xs) (sym view_is) open_base.apart in
          pairs i j 0 before_ (omega (arith, within, n))
          (get_or-map logger_of m.lanes.items i d 0 (omega (arith, before_, within)) ∙ same ∙ sym (get_or-map logger_of m.lanes.items j d 0 within))

  -- none of them is on its own log
  pub lanes_of_others : All (λ l. id ≢ logger_of l) m.lanes.items
  lanes_of_others = all_member (λ l. id ≢ logger_of l) m.lanes.items
      (λ l has. λ same. open_base.others (subst (λ (k : ℕ). Contains b.volume.began.view k) (sym (owner_is ∙ same)) (in_view l has)))

  module _ (mp : ManagerParts D) (home_is : mp.home ≡ m.home) (spindle_is : mp.spindle ≡ m.spindle) (lanes_is : mp.lanes ≡ m.lanes) (new : Rest D) (put : PutsManager mid new id mp) where
    lanes_same : mp.lanes.items ≡ m.lanes.items
    lanes_same = ap (λ (v : Vec (Lane D) Global). v.items) lanes_is

    -- what each lane had is here
    pub lane_back : (l : Lane D) → Contains m.lanes.items l → HasBack new id l
    lane_back l has = All-contains (HasBack new id) mp.lanes.items l put.back (subst (λ (xs : List (Lane D)). Contains xs l) (sym lanes_same) has)

    -- a logger of the view has a lane
    lane_at : (k : ℕ) → Contains b.volume.began.view k → (l : Lane D) × Contains m.lanes.items l × (logger_of l ≡ k)
    lane_at k has = of_map logger_of m.lanes.items k (subst (λ (xs : List ℕ). Contains xs k) (sym view_is) has)

    -- other places are as they were
    pub other_place : (w k : ℕ) → (w ≡ b.volume.began.owner → Contains b.volume.began.view k → ⊥) → (w ≡ id → k ≢ id) → KeepsPlace old new w k
    other_place w k never not_own =
        let kept = put.others w k (λ same. (
          not_own same,
          all_member (λ l. k ≢ logger_of l) mp.lanes.items (λ l has. λ at. never (same ∙ sym owner_is)
              (subst (λ (j : ℕ). Contains b.volume.began.view j) (sym at) (in_view l (subst (λ (xs : List (Lane D)). Contains xs l) lanes_same has)))),
        )) in
        record { pool = kept.pool; spindle = kept.spindle; held = kept.held }

    -- the pool and the list of each place that no lane has
    pub pool_same : (w k : ℕ) → (w ≡ b.volume.began.owner → Contains b.volume.began.view k → ⊥) → (pool_pass new w k ≡ pool_pass old w k) × (held_here new w k ≡ held_here old w k)
    pool_same w k never = ⊎_elim
        (λ (e : w ≡ id). ⊎_elim (λ (f : k ≡ id). rw (e, f) (put.own_pool, put.own_held)) (λ f. let kept = other_place w k never (λ same. f) in (kept.pool, kept.held)) (cases_eq k id))
        (λ e. let kept = other_place w k never (λ same. absurd (e same)) in (kept.pool, kept.held))
        (cases_eq w id)

    -- each image is as it was, but for the home
    pub images_kept : (k : ℕ) → KeepsButHome (image_here old.images.items k) (image_here new.images.items k)
    images_kept k = ⊎_elim
        (λ (e : k ≡ id). rw (e, put.image) (kept_home (Some mp.home) (image_here old.images.items id)))
        (λ differs. rw (put.images k differs) (kept_all (image_here old.images.items k)))
        (cases_eq k id)

    pub homes_kept : (k : ℕ) → k ≢ id → home_here new k ≡ home_here old k
    homes_kept k differs = ap (λ (o : Option (ImageRest D)). option_and_then (λ r. r.home) o) (put.images k differs)

    pub home_came_back : home_here new id ≡ Some m.home
    home_came_back =
        let image = a_value (image_here old.images.items id) (subst (λ (v : ℕ). IsImageOut old.images.items v) owner_is open_base.out) in
        ap (λ (o : Option (ImageRest D)). option_and_then (λ r. r.home) o) (put.image ∙ ap (with_home (Some mp.home)) image.1) ∙ ap (λ (h : Spun D). Some h) home_is

    -- an image that is out, with what it was
    pub was_image : (k : ℕ) (n : ImageRest D) → image_here new.images.items k ≡ Some n → (r : ImageRest D) × (image_here old.images.items k ≡ Some r) × (n ≡ record r { home = n.home })
    was_image k n is = kept_some (image_here old.images.items k) n (rw is at (images_kept k))

    none_was : (k : ℕ) → image_here new.images.items k ≡ None → image_here old.images.items k ≡ None
    none_was k is = kept_none (image_here old.images.items k) (rw is at (images_kept k))

    no_lane_again : (k : ℕ) → Contains (away_with bases).lanes (b.volume.began.owner, k) → ⊥
    no_lane_again k has = not_again (lane_of_owner bases b.volume.began.owner k has)

    -- the lock of a pool, by the pass that the lane has
    pool_at : (v k : ℕ) (f : TurnLock (Pool (FreeSegment D)) PoolBase) (l : Lane D) → v ≡ b.volume.began.owner → Contains m.lanes.items l → logger_of l ≡ k → slice_get shared.pools.items k ≡ Some f → IsPassAt f v (pool_of l)
    pool_at v k f l same has at is =
        let lb = lane_base l has in
        let sh = lane_shared l has in
        let at_base : lb.0.logger ≡ k = sym lb.2.logger ∙ at in
        record {
          own = lb.2.pool ∙ sh.pool f ∙ ap (λ (x : TurnLock (Pool (FreeSegment D)) PoolBase). lock_id x) (ap (λ (j : ℕ). slice_index_or shared.pools.items j f) at_base ∙ get_or_from_slice_get shared.pools.items k f f is);
          free = (ready_lane l has).lane.pool_free;
          number_is = lb.2.pool_number ∙ (of_recursion (λ (q : LaneBase). (q.pool_number ≡ b.volume.began.owner) × (q.spindle_number ≡ b.volume.began.owner)) b.lanes lb.0 open_base.own_lanes lb.1).0 ∙ sym same;
        }

    spindle_at : (v k : ℕ) (f : TurnLock Spindle SpindleBase) (l : Lane D) → v ≡ b.volume.began.owner → Contains m.lanes.items l → logger_of l ≡ k → slice_get shared.spindles.items k ≡ Some f → IsPassAt f v (spindle_of l)
    spindle_at v k f l same has at is =
        let lb = lane_base l has in
        let sh = lane_shared l has in
        let at_base : lb.0.logger ≡ k = sym lb.2.logger ∙ at in
        record {
          own = lb.2.spindle ∙ sh.spindle f ∙ ap (λ (x : TurnLock Spindle SpindleBase). lock_id x) (ap (λ (j : ℕ). slice_index_or shared.spindles.items j f) at_base ∙ get_or_from_slice_get shared.spindles.items k f f is);
          free = (ready_lane l has).lane.spindle_free;
          number_is = lb.2.spindle_number ∙ (of_recursion (λ (q : LaneBase). (q.pool_number ≡ b.volume.began.owner) × (q.spindle_number ≡ b.volume.began.owner)) b.lanes lb.0 open_base.own_lanes lb.1).1 ∙ sym same;
        }

    own_spindle_at : (v k : ℕ) (f : TurnLock Spindle SpindleBase) → v ≡ id → k ≡ id → slice_get shared.spindles.items k ≡ Some f → IsPassAt f v m.spindle
    own_spindle_at v k f same at is = record {
      own = keeps.locks.pass ∙ open_base.at.spindle f
          ∙ ap (λ (x : TurnLock Spindle SpindleBase). lock_id x) (ap (λ (j : ℕ). slice_index_or shared.spindles.items j f) (owner_is ∙ sym at) ∙ get_or_from_slice_get shared.spindles.items k f f is);
      free = keeps.ready.ready.spindle_free;
      number_is = keeps.locks.number ∙ open_base.own_spindle ∙ owner_is ∙ sym same;
    }

    -- what is at a place: a lane's, or what was there
    record IsLaneAt (v k : ℕ) : Type 0 where
      lane : Lane D
      same : v ≡ b.volume.began.owner
      has : Contains m.lanes.items lane
      at : logger_of lane ≡ k
      pool : pool_pass new v k ≡ Some (pool_of lane)
      spindle : spindle_pass new v k ≡ Some (spindle_of lane)
      held : held_here new v k ≡ held_parts lane

    record IsAsBefore (v k : ℕ) : Type 0 where
      never : v ≡ b.volume.began.owner → Contains b.volume.began.view k → ⊥
      pool : pool_pass new v k ≡ pool_pass old v k
      held : held_here new v k ≡ held_here old v k

    lane_is_at : (v k : ℕ) (l : Lane D) → v ≡ b.volume.began.owner → Contains m.lanes.items l → logger_of l ≡ k → IsLaneAt v k
    lane_is_at v k l same has at =
        let back = lane_back l has in
        record { lane = l; same = same; has = has; at = at; pool = rw (same, owner_is, ← at) back.pool; spindle = rw (same, owner_is, ← at) back.spindle; held = rw (same, owner_is, ← at) back.held }

    at_place : (v k : ℕ) → IsLaneAt v k ⊎ IsAsBefore v k
    at_place v k = ⊎_elim
        (λ x. let l = lane_at k x.1 in inl (lane_is_at v k l.0 x.0 l.1 l.2))
        (λ never. let kept = pool_same v k never in inr (record { never = never; pool = kept.0; held = kept.1 }))
        (is_lane_of b v k)

    -- ---- The passes of pools

    pools_here : (v k : ℕ) → v < length new.passes.items → k < length shared.pools.items → IsSome (pool_pass new v k) ↔ (Contains (away_with bases).lanes (v, k) → ⊥)
    pools_here v k row below =
        let was = parts.pools.here v k (omega (arith, row, put.rows.count)) below in
        ⊎_elim
        (λ l. (λ some away. no_lane_again k (rw l.same at away), λ never. is_there (pool_pass new v k) (pool_of l.lane) l.pool))
        (λ s. (
          λ some away. was.0 (rw s.pool at some) (lane_stays bases b v k away),
          λ none. rw s.pool (was.1 (λ away. ⊎_elim none (λ last. s.never last.0 last.1) (lane_cases bases b v k away))),
        ))
        (at_place v k)

    pools_each : (v k : ℕ) (f : TurnLock (Pool (FreeSegment D)) PoolBase) (p : PassOf (Pool (FreeSegment D)) PoolBase) → slice_get shared.pools.items k ≡ Some f → pool_pass new v k ≡ Some p → IsPassAt f v p
    pools_each v k f p is here = ⊎_elim
        (λ l. subst (IsPassAt f v) (same_Some (pool_of l.lane) p (sym l.pool ∙ here)) (pool_at v k f l.lane l.same l.has l.at is))
        (λ s. parts.pools.each v k f p is (sym s.pool ∙ here))
        (at_place v k)

    -- ---- The passes of spindles

    -- what is at a place of spindles: a pass that came back, with a lane or with home, or what was there
    record IsSpindleBack (v k : ℕ) : Type 0 where
      pass : PassOf Spindle SpindleBase
      here : spindle_pass new v k ≡ Some pass
      same : v ≡ b.volume.began.owner
      each : (f : TurnLock Spindle SpindleBase) → slice_get shared.spindles.items k ≡ Some f → IsPassAt f v pass
      settled : has_token (pass_mine pass) ≡ false
      accessed : AreAccesses (pass_mine pass)

    record IsSpindleSame (v k : ℕ) : Type 0 where
      never : v ≡ b.volume.began.owner → Contains b.volume.began.view k → ⊥
      not_own : v ≡ id → k ≢ id
      spindle : spindle_pass new v k ≡ spindle_pass old v k

    at_spindle : (v k : ℕ) → IsSpindleBack v k ⊎ IsSpindleSame v k
    at_spindle v k = ⊎_elim of_lane (λ s. ⊎_elim (λ e. ⊎_elim (own e) (λ f. other s (λ same. f)) (cases_eq k id)) (λ e. other s (λ same. absurd (e same))) (cases_eq v id)) (at_place v k)
      where
        of_lane : IsLaneAt v k → IsSpindleBack v k ⊎ IsSpindleSame v k
        of_lane l =
            let ready = (ready_lane l.lane l.has).lane in
            inl (record { pass = spindle_of l.lane; here = l.spindle; same = l.same; each = λ f is. spindle_at v k f l.lane l.same l.has l.at is; settled = ready.settled; accessed = ready.accesses })

        own : v ≡ id → k ≡ id → IsSpindleBack v k ⊎ IsSpindleSame v k
        own e f = inl (record {
          pass = m.spindle;
          here = rw (e, f) (put.spindle ∙ ap (λ (q : PassOf Spindle SpindleBase). Some q) spindle_is);
          same = e ∙ sym owner_is;
          each = λ x is. own_spindle_at v k x e f is;
          settled = keeps.ready.ready.settled;
          accessed = keeps.ready.ready.accesses;
        })

        other : IsAsBefore v k → (v ≡ id → k ≢ id) → IsSpindleBack v k ⊎ IsSpindleSame v k
        other s not_own = inr (record { never = s.never; not_own = not_own; spindle = (other_place v k s.never not_own).spindle })

    spindles_here : (v k : ℕ) → v < length new.passes.items → k < length shared.spindles.items
        → IsSome (spindle_pass new v k) ↔ ((Contains (away_with bases).lanes (v, k) ⊎ ((v ≡ k) × Contains (away_with bases).homes v)) → ⊥)
    spindles_here v k row below =
        let was = parts.spindles.here v k (omega (arith, row, put.rows.count)) below in
        ⊎_elim
        (λ s. (λ some away. ⊎_elim (λ lane. no_lane_again k (rw s.same at lane)) (λ home. not_again (rw s.same at home.1)) away, λ none. is_there (spindle_pass new v k) s.pass s.here))
        (λ s. (
          λ some away. was.0 (rw s.spindle at some) (⊎_elim (λ lane. inl (lane_stays bases b v k lane)) (λ home. inr (home.0, home_stays bases b v home.1)) away),
          λ none. rw s.spindle (was.1 (λ away. ⊎_elim
              (λ lane. ⊎_elim (λ front. none (inl front)) (λ last. s.never last.0 last.1) (lane_cases bases b v k lane))
              (λ home. ⊎_elim (λ front. none (inr (home.0, front))) (λ last. s.not_own (sym last ∙ owner_is) (sym home.0 ∙ sym last ∙ owner_is)) (home_cases bases b v home.1))
              away)),
        ))
        (at_spindle v k)

    spindles_each : (v k : ℕ) (f : TurnLock Spindle SpindleBase) (p : PassOf Spindle SpindleBase) → slice_get shared.spindles.items k ≡ Some f → spindle_pass new v k ≡ Some p → IsPassAt f v p
    spindles_each v k f p is here = ⊎_elim
        (λ s. subst (IsPassAt f v) (same_Some s.pass p (sym s.here ∙ here)) (s.each f is))
        (λ s. parts.spindles.each v k f p is (sym s.spindle ∙ here))
        (at_spindle v k)

    spindles_settled : (v k : ℕ) (p : PassOf Spindle SpindleBase) → spindle_pass new v k ≡ Some p → has_token (pass_mine p) ≡ false
    spindles_settled v k p here = ⊎_elim (λ s. rw (same_Some s.pass p (sym s.here ∙ here)) at s.settled) (λ s. parts.spindles.settled v k p (sym s.spindle ∙ here)) (at_spindle v k)

    -- spindles were only accessed
    pub spindles_accessed : OnlyAccess new
    spindles_accessed v k p here = ⊎_elim (λ s. rw (same_Some s.pass p (sym s.here ∙ here)) at s.accessed) (λ s. accesses v k p (sym s.spindle ∙ here)) (at_spindle v k)

    -- ---- The segments

    -- the indexes of a lane that came back are those of its held segments
    indexes_back : (v k : ℕ) (l : IsLaneAt v k) → indexes_here new v k ≡ map (λ (h : HeldSegment D). h.index) (held_in l.lane)
    indexes_back v k l = ap (map (λ (h : ℕ × Spun D). h.0)) l.held ∙ map_map (λ (h : HeldSegment D). (h.index, part_of h.segment)) (λ (h : ℕ × Spun D). h.0) (held_in l.lane)

    -- a lane's own indexes are those too
    pub all_indexes : (l : Lane D) → Contains m.lanes.items l → indexes_in l ≡ map (λ (h : HeldSegment D). h.index) (held_in l)
    all_indexes l has =
        ap (λ (t : Option (ℕ × FreeSegment D)). map (λ (h : HeldSegment D). h.index) (held_in l) ++ map (λ (x : ℕ × FreeSegment D). x.0) (option_to_list t)) (ready_lane l has).untaken
        ∙ append-nil (map (λ (h : HeldSegment D). h.index) (held_in l))

    -- a lane holds each of its segments as its pass says
    each_held : (l : Lane D) (h : HeldSegment D) → Contains m.lanes.items l → Contains (held_in l) h → IsHeld state l.logger l.owner (segments_in l) l.pool h
    each_held l h lane has = of_recursion (IsHeld state l.logger l.owner (segments_in l) l.pool) (held_in l) h (ready_lane l lane).lane.each has

    held_at : (v k i : ℕ) → Contains (indexes_here new v k) i → IsHolding new v k i
    held_at v k i has = ⊎_elim
        (λ l.
        let h = of_map (λ (h : HeldSegment D). h.index) (held_in l.lane) i (subst (λ (xs : List ℕ). Contains xs i) (indexes_back v k l) has) in
        (pool_of l.lane, l.pool, rw h.2 at (each_held l.lane h.0 l.has h.1).holding))
        (λ s. let was = parts.returned.held v k i (rw s.held at has) in (was.0, s.pool ∙ was.1, was.2))
        (at_place v k)

    held_once : (v k : ℕ) → AreApart (indexes_here new v k)
    held_once v k = ⊎_elim
        (λ l. subst AreApart (all_indexes l.lane l.has ∙ sym (indexes_back v k l)) (ready_lane l.lane l.has).lane.apart)
        (λ s. rw s.held (parts.returned.once v k))
        (at_place v k)

    -- the segments of a lane have the size of its logger's
    lane_sized : (k : ℕ) (z : Shape) (l : Lane D) → Contains m.lanes.items l → logger_of l ≡ k → slice_get (shapes_of config) k ≡ Some z → (pass_lock (pool_of l)).base.blocks ≡ z.segment_blocks
    lane_sized k z l has at is =
        let below : k < length shared.pools.items = subst (λ (j : ℕ). j < length shared.pools.items) at (logger_below l has) in
        let f = element_at shared.pools.items k below in
        ap (λ (x : Rattle.turn_lock.specs.LockIds.LockId PoolBase). x.base.blocks) (pool_at b.volume.began.owner k f.0 l refl has at f.1).own ∙ (locks.pools k z f.0 is f.1).blocks

    held_sized : (v k : ℕ) (z : Shape) → slice_get (shapes_of config) k ≡ Some z → All (λ (h : ℕ × Spun D). IsPart state k z.segment_blocks h.1) (held_here new v k)
    held_sized v k z is = ⊎_elim
        (λ l. rw l.held (all_member (λ (h : ℕ × Spun D). IsPart state k z.segment_blocks h.1) (held_parts l.lane) (λ x has.
        let w = of_map (λ (h : HeldSegment D). (h.index, part_of h.segment)) (held_in l.lane) x has in
        let each = each_held l.lane w.0 l.has w.1 in
        subst (λ (q : ℕ × Spun D). IsPart state k z.segment_blocks q.1) w.2 (record { of_volume = each.volume ∙ l.at; sized = each.shape.size ∙ each.blocks ∙ lane_sized k z l.lane l.has l.at is }))))
        (λ s. rw s.held (parts.returned.parts v k z is))
        (at_place v k)

    held_out : (v k : ℕ) → image_here new.images.items k ≡ None → held_here new v k ≡ []
    held_out v k none = ⊎_elim
        (λ l.
        let out : IsImageOut old.images.items k = of_recursion (IsImageOut old.images.items) b.volume.began.view k open_base.loggers_out (rw l.at at (in_view l.lane l.has)) in
        let image = a_value (image_here old.images.items k) out in
        absurd (none-some image.0 (sym (none_was k none) ∙ image.1)))
        (λ s. s.held ∙ parts.returned.out v k (none_was k none))
        (at_place v k)

    -- the segments that no lane had are where they were
    held_here_same : (k i : ℕ) → (IsHeldHere new k i → IsHeldHere old k i) × (IsHeldHere old k i → IsHeldHere new k i)
    held_here_same k i = (to_old, to_new)
      where
        to_old : IsHeldHere new k i → IsHeldHere old k i
        to_old h = ⊎_elim
            (λ (l : IsLaneAt h.0 k).
            let holding = rw (same_Some h.1.0 (pool_of l.lane) (sym h.1.1 ∙ l.pool)) at h.1.2 in
            absurd (h.2 (subst (λ (xs : List ℕ). Contains xs i) (all_indexes l.lane l.has ∙ sym (indexes_back h.0 k l)) ((ready_lane l.lane l.has).all i holding))))
            (λ s. (h.0, (h.1.0, sym s.pool ∙ h.1.1, h.1.2), λ has. h.2 (rw s.held has)))
            (at_place h.0 k)

        to_new : IsHeldHere old k i → IsHeldHere new k i
        to_new h = ⊎_elim
            (λ (l : IsLaneAt h.0 k). absurd (none-some h.1.0 (sym (rw l.at at (no_pool (logger_of l.lane) (logger_below l.lane l.has) (away_lane l.lane l.has))) ∙ rw (l.same ∙ owner_is) at h.1.1)))
            (λ s. (h.0, (h.1.0, s.pool ∙ h.1.1, h.1.2), λ has. h.2 (rw s.held at has)))
            (at_place h.0 k)

    -- ---- The images

    home_now : (k : ℕ) (n : ImageRest D) → image_here new.images.items k ≡ Some n → k ≡ id → n.home ≡ Some m.home
    home_now k n here same = ap (λ (o : Option (ImageRest D)). option_and_then (λ x. x.home) o) (sym here) ∙ rw same home_came_back

    image_rest : (k : ℕ) (z : Shape) (n : ImageRest D) → slice_get (shapes_of config) k ≡ Some z → image_here new.images.items k ≡ Some n → IsImageRest state k z n
    image_rest k z n is here =
        let was = was_image k n here in
        let rest = parts.images.1 k z was.0 is was.1 in
        subst (IsImageRest state k z) (sym was.2) (record { label = rest.label; home = home k z n is here was.0 was.1 rest; count = rest.count; segments = rest.segments; row = rest.row; room = rest.room })
      where
        home : (k : ℕ) (z : Shape) (n : ImageRest D) → slice_get (shapes_of config) k ≡ Some z → image_here new.images.items k ≡ Some n → (r : ImageRest D) → image_here old.images.items k ≡ Some r → IsImageRest state k z r → IfSome n.home (IsPart state k z.home)
        home k z n is here r was rest = ⊎_elim
            (λ same. rw (home_now k n here same) (record {
              of_volume = keeps.ready.ready.home_volume ∙ keeps.locks.owner ∙ owner_is ∙ sym same;
              sized = keeps.upholds.places.home_size ∙ open_base.home_blocks z (rw (same ∙ sym owner_is) at is);
            }))
            (λ differs. rw (same_Some r n (sym was ∙ sym (put.images k differs) ∙ here)) at rest.home)
            (cases_eq k id)

    homes_here : (k : ℕ) (n : ImageRest D) → image_here new.images.items k ≡ Some n → IsSome n.home ↔ (Contains (away_with bases).homes k → ⊥)
    homes_here k n here = ⊎_elim
        (λ (same : k ≡ id). (λ some away. not_again (rw (same ∙ sym owner_is) at away), λ none. is_there n.home m.home (home_now k n here same)))
        (λ differs.
        let was = parts.homes k n (sym (put.images k differs) ∙ here) in (
          λ some away. was.0 some (home_stays bases b k away),
          λ none. was.1 (λ away. ⊎_elim none (λ last. differs (sym last ∙ owner_is)) (home_cases bases b k away)),
        ))
        (cases_eq k id)

    -- ---- The whole

    pub parts_back : IsRestBut state config shared (away_with bases) new
    parts_back = record {
      images = (put.count ∙ parts.images.0, image_rest);
      homes = homes_here;
      count = put.rows.count ∙ parts.count;
      rows = put.rows.rows volumes parts.rows;
      pools = record { here = pools_here; each = pools_each };
      spindles = record { here = spindles_here; each = spindles_each; settled = spindles_settled };
      returned = record { held = held_at; once = held_once; parts = held_sized; out = held_out };
      placed = record {
        known = λ k i l n is here within. let was = was_image k n here in parts.placed.known k i l was.0 is was.1 (subst (λ (x : ImageRest D). i < length x.segments.items) was.2 within);
        known_passes = parts.placed.known_passes;
        here = λ k i n here within.
            let was = was_image k n here in
            let old_one = parts.placed.here k i was.0 was.1 (subst (λ (x : ImageRest D). i < length x.segments.items) was.2 within) in
            subst (λ (x : ImageRest D). IsSome (segment_here x i) ↔ (IsHeldHere new k i × (Contains {X = ℕ × ℕ} [] (k, i) → ⊥))) (sym was.2)
            (λ some. let x = old_one.0 some in ((held_here_same k i).1 x.0, x.1), λ x. old_one.1 ((held_here_same k i).0 x.0, x.1));
        others = λ k i l is none. parts.placed.others k i l is (none_was k none);
      };
    }

    pub open_still : (c : ManagerBase) → IsOpenBase config shared old.images.items c → IsOpenBase config shared new.images.items c
    open_still c o = base_stays config shared old.images.items new.images.items c out_still o
      where
        out_still : (k : ℕ) → IsImageOut old.images.items k → IsImageOut new.images.items k
        out_still k is = let image = a_value (image_here old.images.items k) is in kept_out image.0 (image_here new.images.items k) (rw image.1 at (images_kept k))

    -- the lists that no lane of the manager has are as they were
    pub lists_kept : (v k : ℕ) → (Contains (away_with (b ∷ [])).lanes (v, k) → ⊥) → held_here new v k ≡ held_here old v k
    lists_kept v k away = ⊎_elim
        (λ l. absurd (away (rw l.same (Contains-append_left (lanes_with b) [] (b.volume.began.owner, k) (lane_with b k (rw l.at at (in_view l.lane l.has)))))))
        (λ s. s.held)
        (at_place v k)

    -- a segment that came back was here with a lane's list, or the manager held it
    pub held_from : (v k i : ℕ) (p : Spun D) → Contains (held_here new v k) (i, p)
        → Contains (held_here old v k) (i, p) ⊎ ((l : Lane D) × Contains m.lanes.items l × (h : HeldSegment D) × Contains (held_in l) h × (h.index ≡ i) × (part_of h.segment ≡ p) × (logger_of l ≡ k))
    held_from v k i p has = ⊎_elim
        (λ l.
        let x = of_map (λ (h : HeldSegment D). (h.index, part_of h.segment)) (held_in l.lane) (i, p) (rw l.held at has) in
        inr (l.lane, l.has, x.0, x.1, ap (λ (y : ℕ × Spun D). y.0) x.2, ap (λ (y : ℕ × Spun D). y.1) x.2, l.at))
        (λ s. inl (rw s.held at has))
        (at_place v k)

    -- and what it held is here
    pub held_back : (l : Lane D) (h : HeldSegment D) → Contains m.lanes.items l → Contains (held_in l) h → Contains (held_here new id (logger_of l)) (h.index, part_of h.segment)
    held_back l h lane held = subst (λ (xs : List (ℕ × Spun D)). Contains xs (h.index, part_of h.segment)) (sym (lane_back l lane).held) (in_map (λ (g : HeldSegment D). (g.index, part_of g.segment)) (held_in l) h held)
