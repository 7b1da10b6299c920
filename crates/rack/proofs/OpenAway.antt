-- The rest once the opening of one volume is away, where its manager has it.
use Rattle.rack.proofs.Basics.{◌≡◌, ◌≢◌, ◌⊎◌, inl, inr, ⊎_elim, ℕ, ◌+◌, ◌<◌, ◌≤◌, List, ◌∷◌, ◌++◌, length, map, Option, Some, IfSome, sym, ap, ◌∙◌, subst, arith, Bool, get_or, ◌↔◌}
use Rattle.rack.proofs.Basics.{slice_get, IsSome, is_some, All, Contains, vec_len, AllPairs, cases_eq, recursion_from_All, filter_passes, none-some, same_Some, AllByRecursion, AllZip}
use Rattle.rack.proofs.Basics.{slice_index_or, [], None, option_and_then, All-contains}
use Rattle.rack.proofs.Terms.{State, Shape, BayState, IsValid, Config, Spun, AreApart, ManagerBase, Station, place_of, CanOpen, Opening, shapes_of, image_here, segment_here, pool_pass}
use Rattle.rack.proofs.Terms.{spindle_pass, held_here, away_with, IsRestBut, IsImageRest, IsPart, IsHeldHere, IsImageOut, OnlyAccess, base_of_station, IsOpenBase, TakesOpening, IsOwnedPlace}
use Rattle.rack.proofs.Terms.{loggers_out, IsOpeningRack, Said, ImageRest, Rack, Rest, lock_id, pass_number, shape_of, IsAt, IsSameLane, logger_of, pool_of, spindle_of, Lane, AreNamed}
use Rattle.rack.proofs.Terms.{IsLaneShared, takes_in, Manager, Opens, CountsTakes, IsDisk, TellsContent, IsImageOf, now_leaves, Image, Told, at_name, VolumeConf, state_of, part_of, IsHeld}
use Rattle.rack.proofs.Terms.{held_in, HeldSegment, Kept, IsFateOf, HasGiven, kept_of, freed_on, IsInLane, OwnedPart, head_place, shape_in, KeepsButHome, home_here, IsForeign, HadBefore}
use Rattle.rack.proofs.Terms.{HadSegmentBefore, IsGone, BeganWith, HasBegun, IsStopped, CanPutLanes, PutsManager, IsSegmentHere}
use Rattle.manager.specs.declared.base.LaneBase.{LaneBase}
use Rattle.rack_parts.proofs.ManagerBack.{lane_stays, lane_came, lane_cases, home_stays, home_came, home_cases}
use Rattle.manager.proofs.Touched.{zip_all}
use Rattle.rack_parts.proofs.Members.{segment_in_image, a_value, none_in, of_recursion}
use Rattle.rack.proofs.Openable.{parts, all_out, all_inside, can_open, image_id, no_home, can_take, IsTakenLane, lanes_taken, owned_in_image, had_at, foreign_kept, nowhere}
use Rattle.rack.proofs.Places.{some_at}
use Rattle.rack.proofs.Without.{here_still, here_gone, no_indexes, none_returned}
use Rattle.manager.specs.Stands.{IsNamed}
use Rattle.manager.specs.declared.manager.ManagerParts.{ManagerParts}
use Rattle.rack.proofs.Fates.{FateAt, stayed, went, fate_at, partner_of, held_before, kept_had, same_by, freed_gone, zip_map}
use Rattle.rack.proofs.SameOut.{same_out}
use Rattle.rack.proofs.Cases.{by_option, none_or}
use Rattle.rack_parts.proofs.LanesTaken.{pairs_apart}
use Rattle.rack.proofs.Without as without
use Rattle.rack_parts.proofs.ManagerBack as back

-- ---- The rest once the opening of one volume is away, where its manager has it

module _ {D : Type 0} (state : D → State) (config : Config) (valid : IsValid config) (b : BayState) (said : List (Option Said)) (id : ℕ) (r : Rack D) (own : Said)
    (ready : IsOpeningRack state config b said id r) (lt : id < length (shapes_of config)) (at : slice_get said id ≡ Some (Some own)) (view : List ℕ)
    (new : Rest D) (o : Opening D) (takes : TakesOpening state config r.rest new said id view o)
    (m : ManagerBase) (owner : m.volume.began.owner ≡ id) (view_is : m.volume.began.view ≡ view) (all : loggers_out r.rest view ≡ view)
    (inside : (k i : ℕ) → Contains (map place_of o.owned.items) (k, i) → Contains view k) where
  abbrev bases : List ManagerBase
  bases = map (λ (s : Station D). base_of_station s) r.stations.items

  old : IsRestBut state config r.shared (away_with bases) r.rest
  old = parts state config valid b said id r own ready lt at

  lane_now : (v k : ℕ) → v ≡ id → Contains (loggers_out r.rest view) k → Contains (away_with (bases ++ m ∷ [])).lanes (v, k)
  lane_now v k same there = subst (λ (n : ℕ). Contains (away_with (bases ++ m ∷ [])).lanes (n, k)) (owner ∙ sym same) (lane_came bases m k (subst (λ (l : List ℕ). Contains l k) (all ∙ sym view_is) there))

  lane_was : (v k : ℕ) → (v ≡ id → Contains (loggers_out r.rest view) k → ⊥) → Contains (away_with (bases ++ m ∷ [])).lanes (v, k) → Contains (away_with bases).lanes (v, k)
  lane_was v k never c =
      ⊎_elim (λ was. was) (λ is. absurd (never (is.0 ∙ owner) (subst (λ (l : List ℕ). Contains l k) (view_is ∙ sym all) is.1))) (lane_cases bases m v k c)

  home_now : Contains (away_with (bases ++ m ∷ [])).homes id
  home_now = subst (λ (n : ℕ). Contains (away_with (bases ++ m ∷ [])).homes n) owner (home_came bases m)

  home_was : (k : ℕ) → k ≢ id → Contains (away_with (bases ++ m ∷ [])).homes k → Contains (away_with bases).homes k
  home_was k other c = ⊎_elim (λ was. was) (λ is. absurd (other (sym is ∙ owner))) (home_cases bases m k c)

  -- ---- Images

  pub images : (length new.images.items ≡ length (shapes_of config)) × ((k : ℕ) (s : Shape) (y : ImageRest D) → slice_get (shapes_of config) k ≡ Some s → image_here new.images.items k ≡ Some y → IsImageRest state k s y)
  images = (
    without.count_without state config said id view r.rest new o takes ∙ old.images.0,
    λ k s y shape now.
        let w = without.was_here state config said id view r.rest new o takes k y now in
        let rest = old.images.1 k s w.image shape w.here in
        record {
          label = subst (λ (p : Spun D). IsPart state k 2 p) (sym w.is.label) rest.label;
          home = ⊎_elim
              (λ (e : k ≡ id). subst (λ (h : Option (Spun D)). IfSome h (IsPart state k s.home)) (sym (w.is.own e)) tt)
              (λ (other : k ≡ id → ⊥). subst (λ (h : Option (Spun D)). IfSome h (IsPart state k s.home)) (sym (w.is.others other)) rest.home)
              (cases_eq k id);
          count = w.is.count ∙ rest.count;
          segments = λ i p here. rest.segments i p (without.segment_was state config said id view r.rest new o takes k i y p w now here);
          row = subst (λ x. (x.items ≡ []) × (s.segments ≤ Rattle.std.proofs.Common.vec_capacity x)) (sym w.is.row) rest.row;
          room = subst (λ x. (x.items ≡ []) × (2 + s.segments ≤ Rattle.std.proofs.Common.vec_capacity x)) (sym w.is.room) rest.room;
        },
  )

  -- ---- Homes and passes

  homes : (k : ℕ) (y : ImageRest D) → image_here new.images.items k ≡ Some y → IsSome y.home ↔ (Contains (away_with (bases ++ m ∷ [])).homes k → ⊥)
  homes k y now =
      let w = without.was_here state config said id view r.rest new o takes k y now in
      ⊎_elim
      (λ (e : k ≡ id). here_gone y.home (w.is.own e) (subst (λ (n : ℕ). Contains (away_with (bases ++ m ∷ [])).homes n) (sym e) home_now))
      (λ (other : k ≡ id → ⊥). here_still y.home w.image.home (w.is.others other) (old.homes k w.image w.here) (home_stays bases m k) (home_was k other))
      (cases_eq k id)

  row_was : (v : ℕ) → v < length new.passes.items → v < length r.rest.passes.items
  row_was v row = let n = without.rows_without state config said id view r.rest new o takes in omega (arith, row, n)

  pools_here : (v k : ℕ) → v < length new.passes.items → k < length r.shared.pools.items → IsSome (pool_pass new v k) ↔ (Contains (away_with (bases ++ m ∷ [])).lanes (v, k) → ⊥)
  pools_here v k row within =
      ⊎_elim
      (λ is. here_gone (pool_pass new v k) (ap (λ (n : ℕ). pool_pass new n k) is.0 ∙ without.pool_gone state config said id view r.rest new o takes k is.1) (lane_now v k is.0 is.1))
      (λ (never : v ≡ id → Contains (loggers_out r.rest view) k → ⊥).
      here_still (pool_pass new v k) (pool_pass r.rest v k) (without.pool_kept state config said id view r.rest new o takes v k never) (old.pools.here v k (row_was v row) within) (lane_stays bases m v k) (lane_was v k never))
      (without.of_lane state config said id view r.rest new o takes v k)

  spindles_here : (v k : ℕ) → v < length new.passes.items → k < length r.shared.spindles.items
      → IsSome (spindle_pass new v k) ↔ ((Contains (away_with (bases ++ m ∷ [])).lanes (v, k) ⊎ ((v ≡ k) × Contains (away_with (bases ++ m ∷ [])).homes v)) → ⊥)
  spindles_here v k row within = without.spindle_place state config said id view r.rest new o takes v k
      (λ e f. here_gone (spindle_pass new v k) ((λ j. spindle_pass new (e j) (f j)) ∙ without.own_spindle_gone state config said id view r.rest new o takes) (inr (e ∙ sym f, subst (λ (n : ℕ). Contains (away_with (bases ++ m ∷ [])).homes n) (sym e) home_now)))
      (λ e f has. here_gone (spindle_pass new v k) (ap (λ (n : ℕ). spindle_pass new n k) e ∙ without.spindle_gone state config said id view r.rest new o takes k f has) (inl (lane_now v k e has)))
      (λ other never. here_still (spindle_pass new v k) (spindle_pass r.rest v k) (without.spindle_kept state config said id view r.rest new o takes v k other never) (old.spindles.here v k (row_was v row) within)
      (⊎_elim (λ l. inl (lane_stays bases m v k l)) (λ h. inr (h.0, home_stays bases m v h.1)))
      (⊎_elim (λ l. inl (lane_was v k never l)) (λ h. inr (h.0, home_was v (λ e. other e (sym h.0 ∙ e)) h.1))))

  -- ---- Segments

  pub held_none : (v k : ℕ) → held_here new v k ≡ []
  held_none = without.none_held state config said id view r.rest new o takes ready.unheld

  segments_here : (k i : ℕ) (y : ImageRest D) → image_here new.images.items k ≡ Some y → i < length y.segments.items → IsSome (segment_here y i) ↔ (IsHeldHere new k i × (Contains {X = ℕ × ℕ} [] (k, i) → ⊥))
  segments_here k i y now within =
      let w = without.was_here state config said id view r.rest new o takes k y now in
      let before = old.placed.here k i w.image w.here (let n = w.is.count in omega (arith, within, n)) in (
        λ there.
            let p = a_value (segment_here y i) there in
            let was : segment_here w.image i ≡ Some p.0 = without.segment_was state config said id view r.rest new o takes k i y p.0 w now p.1 in
            let held = (before.0 (ap is_some was)).0 in
            let holding = held.1 in
            let place = ready.since held.0 k i holding.0 holding.1 holding.2 in
            let never : held.0 ≡ id → Contains (loggers_out r.rest view) k → ⊥ = λ same has.
            let taken = takes.owned.all k i (subst (λ (n : ℕ). IsOwnedPlace said n k i) same place) in
            none-some p.0 (sym (without.segment_gone state config said id view r.rest new o takes k i taken) ∙ segment_in_image new k y now i ∙ p.1) in
            ((held.0, (holding.0, without.pool_kept state config said id view r.rest new o takes held.0 k never ∙ holding.1, holding.2), no_indexes new held_none held.0 k i), none_in (k, i)),
        λ both.
            let held = both.0 in
            let holding = held.1 in
            let was = without.pool_was state config said id view r.rest new o takes held.0 k holding.0 holding.1 in
            let place = ready.since held.0 k i holding.0 was.0 holding.2 in
            let none_here = no_indexes r.rest ready.unheld held.0 k i in
            let there = before.1 ((held.0, (holding.0, was.0, holding.2), none_here), none_in (k, i)) in
            let never : Contains (map place_of o.owned.items) (k, i) → ⊥ = λ c. was.1 (without.owner_of state config said id view r.rest new o takes held.0 k i place c) (subst (λ (l : List ℕ). Contains l k) (sym all) (inside k i c)) in
            ap is_some (sym (segment_in_image new k y now i) ∙ without.segment_kept state config said id view r.rest new o takes k i never ∙ segment_in_image r.rest k w.image w.here i) ∙ there,
      )

  -- the rest, where one manager more is away
  pub open_away : IsRestBut state config r.shared (away_with (bases ++ m ∷ [])) new
  open_away = record {
    images = images;
    homes = homes;
    count = without.rows_without state config said id view r.rest new o takes ∙ old.count;
    rows = without.rows_stay state config said id view r.rest new o takes (length (shapes_of config)) old.rows;
    pools = record { here = pools_here; each = λ v k l p lock here. old.pools.each v k l p lock (without.pool_was state config said id view r.rest new o takes v k p here).0 };
    spindles = record {
      here = spindles_here;
      each = λ v k l p lock here. old.spindles.each v k l p lock (without.spindle_was state config said id view r.rest new o takes v k p here);
      settled = λ v k p here. old.spindles.settled v k p (without.spindle_was state config said id view r.rest new o takes v k p here);
    };
    returned = none_returned state config new held_none;
    placed = record {
      known = λ k i l y lock now within. let w = without.was_here state config said id view r.rest new o takes k y now in old.placed.known k i l w.image lock w.here (let n = w.is.count in omega (arith, within, n));
      known_passes = old.placed.known_passes;
      here = segments_here;
      others = λ k i l lock none. old.placed.others k i l lock (without.none_was state config said id view r.rest new o takes k none);
    };
  }

-- ---- What the manager of a volume that was opened begins with, among the locks of its rack

zip_named : {D : Type 0} (ls : List (Lane D)) (bs : List LaneBase) → AreNamed ls bs → AllZip IsNamed ls bs
zip_named [] [] named = tt
zip_named [] (b ∷ bs) named = absurd named
zip_named (l ∷ ls) [] named = absurd named
zip_named (l ∷ ls) (b ∷ bs) named = (named.0, zip_named ls bs named.1)

-- ---- The manager of a volume that was opened: what it has of the rest is away, and all else is there

module _ {D : Type 0} (tells : Bool) (state : D → State) (config : Config) (valid : IsValid config) (b : BayState) (said : List (Option Said)) (id : ℕ) (r : Rack D) (own : Said)
    (ready : IsOpeningRack state config b said id r) (lt : id < length (shapes_of config)) (at : slice_get said id ≡ Some (Some own)) (view : List ℕ) (view_said : own.view ≡ view)
    (new : Rest D) (o : Opening D) (takes : TakesOpening state config r.rest new said id view o) (m : Manager D) (opens : Opens tells state r.shared o m) where
  abbrev bases_before : List ManagerBase
  bases_before = map (λ (s : Station D). base_of_station s) r.stations.items

  can : CanOpen state r.shared o
  can = can_open state config valid b said id r own ready lt at view new o takes

  parts_before : IsRestBut state config r.shared (away_with bases_before) r.rest
  parts_before = parts state config valid b said id r own ready lt at

  -- its names
  pub owner_new : opens.base.volume.began.owner ≡ id
  owner_new = opens.begins.owner ∙ takes.id

  pub view_new : opens.base.volume.began.view ≡ view
  view_new = opens.begins.view ∙ takes.view_is

  pub others_new : Contains view id → ⊥
  others_new = (can_take state config valid b said id r own ready lt at view view_said).others

  pub all_new : loggers_out r.rest view ≡ view
  all_new = all_out state config r.shared said id view r.rest new o takes can opens.named

  pub inside_new : (k i : ℕ) → Contains (map place_of o.owned.items) (k, i) → Contains view k
  inside_new = all_inside state config r.shared said id view r.rest new o takes can opens.named

  outs : All (IsImageOut new.images.items) view
  outs = subst (All (IsImageOut new.images.items)) all_new
      (λ k d below. without.out_without state config said id view r.rest new o takes (get_or (loggers_out r.rest view) k d) ∙ filter_passes (λ j. is_some (image_here r.rest.images.items j)) view k d below)

  own_number : pass_number o.spindle ≡ id
  own_number =
      let q = some_at r.shared.spindles.items id (let c = ready.closable.locks.spindle_count in omega (arith, lt, c)) in
      (parts_before.spindles.each id id q.0 o.spindle q.1 takes.spindle_was).number_is

  abbrev HasNumbers : Lane D → Type 0
  HasNumbers l = (pass_number (pool_of l) ≡ id) × (pass_number (spindle_of l) ≡ id)

  -- its base is one over the images that are out
  pub base_new : IsOpenBase config r.shared new.images.items opens.base
  base_new =
      let locks = opens.stands.keeps.locks in
      let begins = opens.begins in
      let named = zip_named m.lanes.items opens.base.lanes locks.each in
      let taken = recursion_from_All (IsTakenLane state config valid b said id r own ready lt at view new o takes) o.lanes.items (lanes_taken state config valid b said id r own ready lt at view new o takes) in
      record {
        out = subst (IsImageOut new.images.items) (sym owner_new) (without.out_without state config said id view r.rest new o takes id ∙ ap is_some (image_id state config valid b said id r own ready lt at).1);
        home_blocks = λ s is. begins.home_blocks ∙ ap (λ (t : Shape). t.home) (same_Some (shape_of o.want) s (sym takes.shape ∙ sym (ap (λ (k : ℕ). slice_get (shapes_of config) k) owner_new) ∙ is));
        at = record {
          spindle_in = subst (λ (k : ℕ). k < vec_len r.shared.spindles) locks.owner opens.at.spindle_in;
          spindle = λ d. sym locks.pass ∙ opens.at.spindle_is d ∙ ap (λ (k : ℕ). lock_id (slice_index_or r.shared.spindles.items k d)) locks.owner;
          lanes = zip_all IsNamed (IsAt r.shared) (IsLaneShared r.shared) lane_shared m.lanes.items opens.base.lanes named opens.at.lanes_;
        };
        loggers = zip_map IsNamed logger_of (λ (x : LaneBase). x.logger) (λ l x is. sym is.logger) m.lanes.items opens.base.lanes named ∙ locks.view;
        loggers_out = subst (AllByRecursion (IsImageOut new.images.items)) (sym view_new) (recursion_from_All (IsImageOut new.images.items) view outs);
        others = λ c. others_new (subst (λ (k : ℕ). Contains view k) owner_new (subst (λ (l : List ℕ). Contains l opens.base.volume.began.owner) view_new c));
        apart = subst (AllPairs (λ j k. j ≢ k)) (sym view_new) takes.distinct;
        most = begins.most ∙ takes.most;
        own_spindle = sym locks.number ∙ opens.spindle.1 ∙ own_number ∙ sym owner_new;
        own_lanes = subst (λ (k : ℕ). AllByRecursion (λ (x : LaneBase). (x.pool_number ≡ k) × (x.spindle_number ≡ k)) opens.base.lanes) (sym owner_new)
            (zip_all IsNamed HasNumbers (λ (x : LaneBase). (x.pool_number ≡ id) × (x.spindle_number ≡ id)) (λ l x is number. (sym is.pool_number ∙ number.0, sym is.spindle_number ∙ number.1)) m.lanes.items opens.base.lanes named
            (zip_all IsSameLane (IsTakenLane state config valid b said id r own ready lt at view new o takes) HasNumbers (λ l n same is. (same.pool.1 ∙ is.number, same.spindle.1 ∙ is.spindle_number)) o.lanes.items m.lanes.items opens.lanes taken));
        untaken = zip_all CountsTakes (IsTakenLane state config valid b said id r own ready lt at view new o takes) (λ (x : LaneBase). x.takes ≡ 0) (λ l x counts is. counts ∙ ap takes_in is.unused) o.lanes.items opens.base.lanes opens.takes taken;
      }
    where
      -- the locks of a lane are those of the shared ones
      lane_shared : (l : Lane D) (x : LaneBase) → IsNamed l x → IsAt r.shared l → IsLaneShared r.shared x
      lane_shared l x one place = record {
        pool_in = subst (λ (k : ℕ). k < vec_len r.shared.pools) one.logger place.pool_in;
        spindle_in = subst (λ (k : ℕ). k < vec_len r.shared.spindles) one.logger place.spindle_in;
        pool = λ d. sym one.pool ∙ place.pool d ∙ ap (λ (k : ℕ). lock_id (slice_index_or r.shared.pools.items k d)) one.logger;
        spindle = λ d. sym one.spindle ∙ place.spindle d ∙ ap (λ (k : ℕ). lock_id (slice_index_or r.shared.spindles.items k d)) one.logger;
      }

  -- what it has is away
  pub rest_new : IsRestBut state config r.shared (away_with (bases_before ++ opens.base ∷ [])) new
  rest_new = open_away state config valid b said id r own ready lt at view new o takes opens.base owner_new view_new all_new inside_new

  pub accesses_new : OnlyAccess new
  accesses_new v k p here = ready.closable.accesses v k p (without.spindle_was state config said id view r.rest new o takes v k p here)

  -- and the volume had no manager
  pub unmanaged : Contains (away_with bases_before).homes opens.base.volume.began.owner → ⊥
  unmanaged has = no_home state config valid b said id r own ready lt at (subst (λ (n : ℕ). Contains (away_with bases_before).homes n) owner_new has)

  -- ---- The manager found no memory for its lock and came back: nothing of the rack is away that wasn't before

  module _ (mp : ManagerParts D) (home_is : mp.home ≡ m.home) (spindle_is : mp.spindle ≡ m.spindle) (lanes_is : mp.lanes ≡ m.lanes) where
    -- what has to be for it to come back
    pub lanes_home : CanPutLanes state new id mp.lanes.items
    lanes_home = subst (λ x. CanPutLanes state new id x.items) (sym lanes_is)
        (back.lanes_away state tells config r.shared bases_before opens.base id owner_new new base_new ready.closable.locks rest_new accesses_new unmanaged m [] opens.stands.keeps new.rooms)

    pub lanes_others : All (λ (l : Lane D). id ≢ logger_of l) mp.lanes.items
    lanes_others = subst (λ x. All (λ (l : Lane D). id ≢ logger_of l) x.items) (sym lanes_is)
        (back.lanes_of_others state tells config r.shared bases_before opens.base id owner_new new base_new ready.closable.locks rest_new accesses_new unmanaged m [] opens.stands.keeps new.rooms)

    module _ (last : Rest D) (put : PutsManager new last id mp) where
      -- ---- Images

      -- an image that is here, as it was before the opening was new
      pub record IsBack (k : ℕ) (y : ImageRest D) : Type 0 where
        pub image : ImageRest D
        pub here : image_here r.rest.images.items k ≡ Some image
        pub label : y.label ≡ image.label
        pub home : k ≢ id → y.home ≡ image.home
        pub own_home : k ≡ id → y.home ≡ Some m.home
        pub segments : (i : ℕ) (p : Spun D) → segment_here y i ≡ Some p → segment_here image i ≡ Some p
        pub others : (i : ℕ) (p : Spun D) → (Contains (map place_of o.owned.items) (k, i) → ⊥) → segment_here image i ≡ Some p → segment_here y i ≡ Some p

      parts_home : IsRestBut state config r.shared (away_with bases_before) last
      parts_home = back.parts_back state tells config r.shared bases_before opens.base id owner_new new base_new ready.closable.locks rest_new accesses_new unmanaged m [] opens.stands.keeps new.rooms mp home_is spindle_is lanes_is last put

      was : (k : ℕ) (y : ImageRest D) → image_here last.images.items k ≡ Some y → IsBack k y
      was k y here =
          let t = back.was_image state tells config r.shared bases_before opens.base id owner_new new base_new ready.closable.locks rest_new accesses_new unmanaged m [] opens.stands.keeps new.rooms mp home_is spindle_is lanes_is last put k y here in
          let w = without.was_here state config said id view r.rest new o takes k t.0 t.1 in
          let row = ap (λ (x : ImageRest D). x.segments) t.2 in
          record {
            image = w.image;
            here = w.here;
            label = ap (λ (x : ImageRest D). x.label) t.2 ∙ w.is.label;
            home = λ other. ap (λ (x : ImageRest D). x.home) (same_Some y t.0 (sym here ∙ put.images k other ∙ t.1)) ∙ w.is.others other;
            own_home = λ e. ap (λ (x : Option (ImageRest D)). option_and_then (λ z. z.home) x) (sym here) ∙ ap (λ (j : ℕ). home_here last j) e ∙ home_came;
            segments = λ i p seg. without.segment_was state config said id view r.rest new o takes k i t.0 p w t.1 (sym (ap (λ x. get_or x.items i None) row) ∙ seg);
            others = λ i p never seg. ap (λ x. get_or x.items i None) row ∙ sym (segment_in_image new k t.0 t.1 i) ∙ without.segment_kept state config said id view r.rest new o takes k i never ∙ segment_in_image r.rest k w.image w.here i ∙ seg;
          }
        where
          home_came : home_here last id ≡ Some m.home
          home_came = back.home_came_back state tells config r.shared bases_before opens.base id owner_new new base_new ready.closable.locks rest_new accesses_new unmanaged m [] opens.stands.keeps new.rooms mp home_is spindle_is lanes_is last put

      -- the same images are out
      none_now : (k : ℕ) → image_here last.images.items k ≡ None → image_here r.rest.images.items k ≡ None
      none_now k none = none_or (image_here r.rest.images.items k) (λ x e. let t = without.image_without state config said id view r.rest new o takes k x e in still (image_here new.images.items k) t.0 t.1 (back.images_kept state tells config r.shared bases_before opens.base id owner_new new base_new ready.closable.locks rest_new accesses_new unmanaged m [] opens.stands.keeps new.rooms mp home_is spindle_is lanes_is last put k))
        where
          still : (a : Option (ImageRest D)) (z : ImageRest D) → a ≡ Some z → KeepsButHome a (image_here last.images.items k) → ⊥
          still None z e is = none-some z e
          still (Some a) z e is = subst (λ (n : Option (ImageRest D)). KeepsButHome (Some a) n) none is

      out_now : (k : ℕ) → is_some (image_here last.images.items k) ≡ is_some (image_here r.rest.images.items k)
      out_now k = by_option (image_here last.images.items k) (λ e. ap is_some e ∙ sym (ap is_some (none_now k e))) (λ y e. ap is_some e ∙ sym (ap is_some (was k y e).here))

      pub out_same : map (λ (i : Option (ImageRest D)). is_some i) last.images.items ≡ map (λ (i : Option (ImageRest D)). is_some i) r.rest.images.items
      out_same = same_out last.images.items r.rest.images.items (parts_home.images.0 ∙ sym ready.closable.rest.parts.images.0) out_now

      -- ---- Segments of the manager

      -- a segment that a lane holds is one of those that the volume owned, and was kept
      pub record IsOfOpening (l : Lane D) (h : HeldSegment D) : Type 0 where
        pub part : OwnedPart D
        pub among : Contains o.owned.items part
        pub on : part.logger ≡ logger_of l
        pub index : part.index ≡ h.index
        pub kept : OwnedPart D
        pub fate : IsFateOf state o.want.id part (Kept kept)
        pub same : part_of h.segment ≡ kept.part

      -- what came back to lists is what its lanes held
      in_lane : (v k i : ℕ) (p : Spun D) → Contains (held_here last v k) (i, p) → (l : Lane D) × Contains m.lanes.items l × (h : HeldSegment D) × Contains (held_in l) h × (h.index ≡ i) × (part_of h.segment ≡ p) × (logger_of l ≡ k)
      in_lane v k i p has =
          ⊎_elim
          (λ before. absurd (none_in (i, p) (subst (λ (l : List (ℕ × Spun D)). Contains l (i, p)) (without.none_held state config said id view r.rest new o takes ready.unheld v k) before)))
          (λ x. x)
          (back.held_from state tells config r.shared bases_before opens.base id owner_new new base_new ready.closable.locks rest_new accesses_new unmanaged m [] opens.stands.keeps new.rooms mp home_is spindle_is lanes_is last put v k i p has)

      loggers_apart : AllPairs (λ (j k : ℕ). j ≢ k) (map logger_of m.lanes.items)
      loggers_apart = subst (λ (l : List ℕ). AllPairs (λ (j k : ℕ). j ≢ k) l) (sym opens.stands.keeps.locks.view) base_new.apart

      pub of_opening : (l : Lane D) (h : HeldSegment D) → Contains m.lanes.items l → Contains (held_in l) h → IsOfOpening l h
      of_opening l h in_lanes in_held =
          let ready_l = back.ready_lane state tells config r.shared bases_before opens.base id owner_new new base_new ready.closable.locks rest_new accesses_new unmanaged m [] opens.stands.keeps new.rooms l in_lanes in
          let each : IsHeld state l.logger l.owner (Rattle.logger.specs.Lanes.segments_in l) l.pool h = of_recursion (IsHeld state l.logger l.owner (Rattle.logger.specs.Lanes.segments_in l) l.pool) (held_in l) h ready_l.lane.each in_held in
          let s = partner_of IsSameLane (HasGiven o.owned.items opens.fates) o.lanes.items m.lanes.items l opens.lanes opens.pools in_lanes in
          let held = held_before o.owned.items opens.fates s.0 l s.2.pool s.3 h.index each.holding in
          let lane = All-contains (λ (x : Lane D). Rattle.rack_parts.specs.Parts.IsNewLane state r.rest id (Rattle.rack_parts.specs.Parts.segments_of config (logger_of x)) x) o.lanes.items s.0 takes.lanes.each s.1 in
          let place = ready.since id (logger_of s.0) h.index (pool_of s.0) lane.pool held.0 in
          by_fate (logger_of s.0) s.2.logger held.1 (fate_at state o.want.id o.owned.items opens.fates takes.owned.in_order opens.parts.each (logger_of s.0) h.index (takes.owned.all (logger_of s.0) h.index place))
        where
          apart_here : AllPairs (λ (j k : ℕ). j ≢ k) (map (λ (x : HeldSegment D). x.index) (held_in l))
          apart_here =
              let ready_l = back.ready_lane state tells config r.shared bases_before opens.base id owner_new new base_new ready.closable.locks rest_new accesses_new unmanaged m [] opens.stands.keeps new.rooms l in_lanes in
              pairs_apart (map (λ (x : HeldSegment D). x.index) (held_in l)) (subst Rattle.wol_model.specs.Blocks.AreApart
              (back.all_indexes state tells config r.shared bases_before opens.base id owner_new new base_new ready.closable.locks rest_new accesses_new unmanaged m [] opens.stands.keeps new.rooms mp home_is spindle_is lanes_is last put l in_lanes) ready_l.lane.apart)

          by_fate : (k : ℕ) → logger_of l ≡ k → (Contains (freed_on k o.owned.items opens.fates) h.index → ⊥) → FateAt state o.want.id o.owned.items opens.fates k h.index → IsOfOpening l h
          by_fate k lane_is never (went part f among is fate freed none) = absurd (never freed)
          by_fate k lane_is never (stayed part p among is in_kept at_new fate not_freed) =
              let on : part.logger ≡ logger_of l = ap (λ (y : ℕ × ℕ). y.0) is ∙ sym lane_is in
              let index : part.index ≡ h.index = ap (λ (y : ℕ × ℕ). y.1) is in
              let x = of_recursion (IsInLane m.lanes.items) (kept_of opens.fates) p opens.held in_kept in
              let lane : x.lane ≡ l = same_by logger_of m.lanes.items x.lane l loggers_apart x.among in_lanes (x.logger ∙ ap (λ (y : OwnedPart D). y.logger) fate.same.0 ∙ on) in
              let held : Contains (held_in l) x.segment = subst (λ (y : Lane D). Contains (held_in y) x.segment) lane x.is_held in
              let seg : x.segment ≡ h = same_by (λ (y : HeldSegment D). y.index) (held_in l) x.segment h apart_here held in_held (x.index ∙ ap (λ (y : OwnedPart D). y.index) fate.same.0 ∙ index) in
              record { part = part; among = among; on = on; index = index; kept = p; fate = fate; same = ap (λ (y : HeldSegment D). part_of y.segment) (sym seg) ∙ x.part }

      -- ---- The images of these segments

      module _ (sound : (d : D) → IsDisk (state d)) where
        -- it is no log of a volume with a station
        foreign_held : (l : Lane D) (h : HeldSegment D) → IsOfOpening l h → IsForeign state bases_before (part_of h.segment)
        foreign_held l h is = subst (IsForeign state bases_before) (sym is.same) (foreign_kept state config valid b said id r own ready lt at view new o takes sound is.part is.kept (owned_in_image state config valid b said id r own ready lt at view new o takes is.part is.among) is.fate)

        foreign_back : (v k i : ℕ) (p : Spun D) → Contains (held_here last v k) (i, p) → IsForeign state bases_before p
        foreign_back v k i p has = let x = in_lane v k i p has in subst (IsForeign state bases_before) x.5 (foreign_held x.0 x.2 (of_opening x.0 x.2 x.1 x.3))

        -- the rack may be closed, with the same images out
        pub unlocked_stopped : IsStopped state config b r (record r { rest = last })
        unlocked_stopped =
            let old = ready.closable in
            record {
              closable = without.closable_stays state config b r last out_same r.faults old parts_home (put.rooms ∙ takes.home.rooms ∙ takes.owned.rooms ∙ takes.lanes.passes.rooms)
                  (record { places = λ k i image p here seg. let w = was k image here in old.foreign.places k i w.image p w.here (w.segments i p seg); held = foreign_back })
                  (back.spindles_accessed state tells config r.shared bases_before opens.base id owner_new new base_new ready.closable.locks rest_new accesses_new unmanaged m [] opens.stands.keeps new.rooms mp home_is spindle_is lanes_is last put);
              fresh = ready.fresh;
              same_out = out_same;
            }

        -- ---- What it began with

        module _ (told : (d : D) → TellsContent (state d)) (t : Told) (begun : HasBegun state config t said id r) where
          -- home has no image that it hadn't
          home_had : (k : ℕ) (v : VolumeConf) (before : Image) (y : ImageRest D) → slice_get config.volumes.items k ≡ Some v → at_name v.name t.images ≡ Some before → image_here last.images.items k ≡ Some y → (p : Spun D) → y.home ≡ Some p → HadBefore state before 2 (2 + v.home) p
          home_had k v before y at_k there here p home =
              let w = was k y here in
              let left_before = (begun.began.left k v before w.image at_k there w.here).home in
              ⊎_elim
              (λ (e : k ≡ id).
              let is : m.home ≡ p = same_Some m.home p (sym (w.own_home e) ∙ home) in
              let before_home = left_before o.home (takes.home_was w.image (ap (λ (j : ℕ). image_here r.rest.images.items j) (sym e) ∙ w.here)) in
              subst (HadBefore state before 2 (2 + v.home)) is (λ c im. before_home c (now_leaves opens.parts.home.any_moment (sound m.home.inner) c im)))
              (λ (other : k ≡ id → ⊥). left_before p (sym (w.home other) ∙ home))
              (cases_eq k id)

          -- the segments of lanes that came back
          pub list_had : (w k i : ℕ) (v : VolumeConf) (before : Image) (p : Spun D) → slice_get config.volumes.items k ≡ Some v → at_name v.name t.images ≡ Some before → Contains (held_here last w k) (i, p)
              → HadSegmentBefore state before (head_place (shape_in config v) i) (head_place (shape_in config v) (i + 1)) p
          list_had w k i v before p at_k there has =
              let x = in_lane w k i p has in
              let is = of_opening x.0 x.2 x.1 x.3 in
              subst (HadSegmentBefore state before (head_place (shape_in config v) i) (head_place (shape_in config v) (i + 1))) (sym is.same ∙ x.5)
              (kept_had state sound o.want.id before (head_place (shape_in config v) i) (head_place (shape_in config v) (i + 1)) is.part is.kept told is.fate (had_at state config valid b said id r own ready lt at view new o takes t begun.cut k i v before is.part (owned_in_image state config valid b said id r own ready lt at view new o takes is.part is.among) (is.on ∙ x.6) (is.index ∙ x.4) at_k there))

          gone_now : (k i : ℕ) (v : VolumeConf) (before : Image) (y : ImageRest D) → slice_get config.volumes.items k ≡ Some v → at_name v.name t.images ≡ Some before → image_here last.images.items k ≡ Some y → i < v.segments
              → ((p : Spun D) → IsSegmentHere last k i p → ⊥) → IsGone (length (shapes_of config)) (shape_in config v) before r.stations.items i
          gone_now k i v before y at_k there here within none = ⊎_elim
              (λ has. by_fate (fate_at state o.want.id o.owned.items opens.fates takes.owned.in_order opens.parts.each k i has))
              (λ (never : Contains (map place_of o.owned.items) (k, i) → ⊥).
              let w = was k y here in
              begun.began.gone k i v before w.image at_k there w.here within
              (nowhere state config valid b said id r own ready lt at k i (λ p is. none p (inl (y, here, w.others i p never (sym (segment_in_image r.rest k w.image w.here i) ∙ is))))))
              (without.is_pair (map place_of o.owned.items) k i)
            where
              by_fate : FateAt state o.want.id o.owned.items opens.fates k i → IsGone (length (shapes_of config)) (shape_in config v) before r.stations.items i
              by_fate (stayed part p among is in_kept at_new fate not_freed) =
                  let x = of_recursion (IsInLane m.lanes.items) (kept_of opens.fates) p opens.held in_kept in
                  let on : logger_of x.lane ≡ k = x.logger ∙ ap (λ (z : ℕ × ℕ). z.0) at_new in
                  let index : x.segment.index ≡ i = x.index ∙ ap (λ (z : ℕ × ℕ). z.1) at_new in
                  let in_list = back.held_back state tells config r.shared bases_before opens.base id owner_new new base_new ready.closable.locks rest_new accesses_new unmanaged m [] opens.stands.keeps new.rooms mp home_is spindle_is lanes_is last put x.lane x.segment x.among x.is_held in
                  let here_k : Contains (held_here last id k) (x.segment.index, part_of x.segment.segment) = subst (λ (j : ℕ). Contains (held_here last id j) (x.segment.index, part_of x.segment.segment)) on in_list in
                  absurd (none (part_of x.segment.segment) (inr (id, subst (λ (n : ℕ). Contains (held_here last id k) (n, part_of x.segment.segment)) index here_k)))
              by_fate (went part f among is fate freed none) =
                  freed_gone state sound o.want.id (length (shapes_of config)) (shape_in config v) before r.stations.items i part f told fate
                  (had_at state config valid b said id r own ready lt at view new o takes t begun.cut k i v before part (owned_in_image state config valid b said id r own ready lt at view new o takes part among) (ap (λ (z : ℕ × ℕ). z.0) is) (ap (λ (z : ℕ × ℕ). z.1) is) at_k there)

          pub unlocked_began : BeganWith state config t (record r { rest = last })
          unlocked_began = record {
            stations = without.stations_began state config r last out_same t begun.began;
            placed = without.stations_placed state config r last out_same t begun.began;
            left = λ k v before y at_k there here.
                let w = was k y here in
                let old = begun.began.left k v before w.image at_k there w.here in
                record { label = λ c im. old.label c (subst (λ (p : Spun D). IsImageOf (state_of state p).values c) w.label im); home = home_had k v before y at_k there here; segments = λ i p seg. old.segments i p (w.segments i p seg) };
            held = list_had;
            gone = gone_now;
            pools = λ k v l y at_k lock here. (let w = was k y here in begun.began.pools k v l w.image at_k lock w.here);
          }
