-- The opening of one volume came back: its rest stands as before, and the rack, where the volume was refused.
use Rattle.rack.proofs.Basics.{◌≡◌, ◌≢◌, ◌⊎◌, ⊎_elim, ℕ, ◌<◌, Bool, List, length, map, Option, None, Some, sym, ap, ◌∙◌, subst, ◌+◌, true, false, arith, vec_capacity, ◌≤◌, slice_get}
use Rattle.rack.proofs.Basics.{is_some, All, Contains, ◌↔◌, IsSome, IfSome, cases_eq, All-contains, MatchOption-at_some, MatchOption-at_none, none-some, same_Some, [], set, inl, inr, refl}
use Rattle.rack.proofs.Basics.{IsTrue, AllZip, option_map_or, Global, Vec, cases_lt, length-map, length-set, get_or-set_same, get_or-set_other, length_all_zip, slice_get-get_or}
use Rattle.rack.proofs.Basics.{get_or_from_slice_get, slice_get_within, cond, not, ◌∷◌, find, AllPairs, get_or-map, All-contains_itself, All-filter}
use Rattle.rack.proofs.Terms.{State, BayState, IsValid, Config, PassOf, Spun, Spindle, SpindleBase, PoolBase, Pool, FreeSegment, logger_of, pool_of, spindle_of, HeldSegment, Lane}
use Rattle.rack.proofs.Terms.{IsHandedBack, IsFateOf, Kept, kept_of, freed_on, place_of, Opening, OwnedPart, shapes_of, IsOpeningRack, TakesOpening, PutsOpening, HasBack, IsSameBut}
use Rattle.rack.proofs.Terms.{segment_in, loggers_out, IsOwnedPlace, image_here, segment_here, pool_pass, spindle_pass, held_here, IsRow, away_with, IsPassAt, IsRestBut, IsImageRest, IsPart}
use Rattle.rack.proofs.Terms.{IsHolding, IsHeldHere, OnlyAccess, Said, ImageRest, Rack, Rest, Shape, pass_lock, pass_number, pass_mine, IsSamePass, TurnLock, has_token, holds, ManagerBase}
use Rattle.rack.proofs.Terms.{Station, base_of_station, AreAccesses, IsDisk, TellsContent, IsImageOf, Rose, SaysOwnerOrFree, Image, Told, at_name, Free, Owned, state_of, Home, Segment}
use Rattle.rack.proofs.Terms.{IsSameOwned, Refuses, HandsBackAll, OpenRefusal, LabelDiffers, LoggerMissing, OutsideView, Damaged, Twins, DiskFault, NoMemory, shape_in, IsForeign, said_at}
use Rattle.rack.proofs.Terms.{view_at, fault_at, AreOwnersHere, AreTried, IsStopped, AreStillCut, HasBegun, AreRefusedBelow, HasFaultOf, HaveFaults, NamesVolumes, IsClosable, IsImageOut}
use Rattle.rack.proofs.Terms.{IsSegmentHere, VolumeFault, now_leaves, VolumeConf, head_place, HadBefore, HadSegmentBefore, IsLeftHere, IsGone, RefusesVolume, images_taken, Part, is_named}
use Rattle.rack.proofs.Terms.{Refused, Values, IsLane, taken_in, HasGiven, IsUsedLane, IsNewLane, IsBarePlace, CanPutLanes, IsOwedPlace, CanPutOwned, segments_of}
use Rattle.rack.proofs.Fates.{FateAt, stayed, went, fate_at, kept_owned, held_before, held_still, none_freed, freed_owned, kept_had, freed_gone, partner_of, order_apart, kept_in_order, zip_map}
use Rattle.rack_parts.proofs.Members.{all_member, segment_in_image, a_value, none_in, no_value, of_map, here_within, first_in, later_in, in_map}
use Rattle.rack.proofs.Openable.{IsInImage, parts, no_home, no_lane, owned_in_image, can_open, all_out, all_inside, said_id, image_id, ids_below, can_take, place_away, had_at, says_kept, foreign_kept, nowhere}
use Rattle.rack.proofs.SameOut.{same_out, none_too, out_too, opening_too, refuses_too}
use Rattle.rack.proofs.Without.{here_still, here_now, IsImageNow, image_home, home_none, home_segments, same_passes, no_indexes, none_returned}
use Rattle.rack.proofs.Cases.{by_option}
use Rattle.rack.proofs.OpeningOf.{opening_of}
use Rattle.std.proofs.lemmas.List.Kept.{AllPairs-filter}
use Rattle.rack_parts.specs.Parts.{KeepsPlace}
use Rattle.rack.proofs.Without as without
use Rattle.rack_parts.specs.declared.volume_fault.VolumeFault.TheVariants as volume_fault

-- a pass that was used stands where it stood
pass_stays : {T B : Type 0} (l : TurnLock T B) (v : ℕ) (p q : PassOf T B) → IsPassAt l v p → IsSamePass p q → Rattle.turn_lock.specs.Passes.IsFree q → IsPassAt l v q
pass_stays l v p q is same free = record { own = same.0 ∙ is.own; free = free; number_is = same.1 ∙ is.number_is }

-- ---- The volumes that a refusal names are among those of the configuration

-- what was found in a list is one of it
found_in : {X : Type 0} (test : X → Bool) (xs : List X) (x : X) → find test xs ≡ Some x → Contains xs x
found_in test [] x is = absurd (none-some x is)
found_in {X} test (y ∷ xs) x is = go (found_in test xs x) (test y) is
  where
    go : (find test xs ≡ Some x → Contains xs x) → (t : Bool) → cond t (Some y) (find test xs) ≡ Some x → Contains (y ∷ xs) x
    go rest true is = first_in y x xs (same_Some y x is)
    go rest false is = later_in y x xs (rest is)

module _ {D : Type 0} (state : D → State) (tells : Bool) (config : Config) (valid : IsValid config) (b : BayState) (said : List (Option Said)) (id : ℕ) (r : Rack D) (own : Said)
    (ready : IsOpeningRack state config b said id r) (lt : id < length (shapes_of config)) (at : slice_get said id ≡ Some (Some own)) (view : List ℕ)
    (away : Rest D) (o : Opening D) (takes : TakesOpening state config r.rest away said id view o) (n : Opening D) where
  logger_within : (part : OwnedPart D) → Contains o.owned.items part → part.logger < length (shapes_of config)
  logger_within part has =
      let was = owned_in_image state config valid b said id r own ready lt at view away o takes part has in
      slice_get_within (shapes_of config) part.logger was.shape was.shape_is

  log_within : (volume : ℕ) → Contains (map (λ (q : OwnedPart D). q.logger) o.owned.items) volume → volume < length (shapes_of config)
  log_within volume has =
      let from = of_map (λ (q : OwnedPart D). q.logger) o.owned.items volume has in
      subst (λ (v : ℕ). v < length (shapes_of config)) from.2 (logger_within from.0 from.1)

  pub names_volumes : (refusal : OpenRefusal) → Refuses tells state o n refusal → (refusal ≡ NoMemory → ⊥) → NamesVolumes (length (shapes_of config)) (volume_fault.Refused refusal)
  names_volumes LabelDiffers why never = tt
  names_volumes (LoggerMissing missing) why never = tt
  names_volumes (OutsideView logger segment) why never =
      let part = why.2 in
      subst (λ (v : ℕ). v < length (shapes_of config)) (sym part.2) (logger_within part.0 (found_in (λ (q : OwnedPart D). not (is_named o.view q.logger)) o.owned.items part.0 part.1))
  names_volumes (Damaged volume block) why never = log_within volume why.2
  names_volumes (Twins first_volume first second_volume second) why never = (log_within first_volume why.2, log_within second_volume why.3)
  names_volumes (DiskFault (Home volume)) why never = tt
  names_volumes (DiskFault (Segment volume index)) why never =
      let rose = why.1 in
      let within = slice_get_within o.owned.items rose.k rose.before rose.was_there in
      subst (λ (v : ℕ). v < length (shapes_of config)) (sym rose.named.0) (logger_within rose.before (rose.k, within, get_or_from_slice_get o.owned.items rose.k rose.before rose.before rose.was_there))
  names_volumes NoMemory why never = absurd (never refl)

-- ---- A rack whose volume was refused

-- a count that rose isn't zero
above_zero : (a b : ℕ) → Rose a b → 0 < b
above_zero a b rose = ⊎_elim (λ more. omega (arith, more)) (λ full. omega (arith, full)) rose

-- ---- What opening a volume hands back may come back to the rest that it was taken out of

module _ {D : Type 0} (state : D → State) (tells : Bool) (config : Config) (valid : IsValid config) (b : BayState) (said : List (Option Said)) (id : ℕ) (r : Rack D) (own : Said)
    (ready : IsOpeningRack state config b said id r) (lt : id < length (shapes_of config)) (at : slice_get said id ≡ Some (Some own)) (view : List ℕ) (own_view : own.view ≡ view)
    (away : Rest D) (o : Opening D) (takes : TakesOpening state config r.rest away said id view o) (n : Opening D) (back : IsHandedBack tells state r.shared o n) where
  abbrev pub loggers : List ℕ
  loggers = loggers_out r.rest view

  pub not_own : Contains view id → ⊥
  not_own = (can_take state config valid b said id r own ready lt at view own_view).others

  pub in_view : (k : ℕ) → Contains loggers k → Contains view k
  in_view k has = All-contains (Contains view) loggers k (All-filter (λ j. is_some (image_here r.rest.images.items j)) (Contains view) view (All-contains_itself view)) has

  -- ---- Lanes

  -- a lane that was taken out, and as it is handed back
  pub record IsBackLane (l m : Lane D) : Type 0 where
    pub before : Contains o.lanes.items l
    pub after : Contains n.lanes.items m
    pub taken : IsNewLane state r.rest id (segments_of config (logger_of l)) l
    pub used : IsUsedLane state r.shared o.want.id o.most l m
    pub given : HasGiven o.owned.items back.fates l m

  new_lane : (l : Lane D) → Contains o.lanes.items l → IsNewLane state r.rest id (segments_of config (logger_of l)) l
  new_lane l has = All-contains (λ (x : Lane D). IsNewLane state r.rest id (segments_of config (logger_of x)) x) o.lanes.items l takes.lanes.each has

  pub lane_to : (m : Lane D) → Contains n.lanes.items m → (l : Lane D) × IsBackLane l m
  lane_to m has =
      let p = partner_of (IsUsedLane state r.shared o.want.id o.most) (HasGiven o.owned.items back.fates) o.lanes.items n.lanes.items m back.lanes back.pools has in
      (p.0, record { before = p.1; after = has; taken = new_lane p.0 p.1; used = p.2; given = p.3 })

  same_loggers : map logger_of n.lanes.items ≡ loggers
  same_loggers = zip_map (IsUsedLane state r.shared o.want.id o.most) logger_of logger_of (λ l m is. is.same.logger) o.lanes.items n.lanes.items back.lanes ∙ takes.lanes.loggers_are

  pub logger_seen : (m : Lane D) → Contains n.lanes.items m → Contains loggers (logger_of m)
  logger_seen m has = subst (λ (l : List ℕ). Contains l (logger_of m)) same_loggers (in_map logger_of n.lanes.items m has)

  -- the lane of a logger
  pub lane_at : (k : ℕ) → Contains loggers k → (l m : Lane D) × IsBackLane l m × (logger_of l ≡ k) × (logger_of m ≡ k)
  lane_at k has =
      let from = of_map logger_of n.lanes.items k (subst (λ (l : List ℕ). Contains l k) (sym same_loggers) has) in
      let before = lane_to from.0 from.1 in
      (before.0, from.0, before.1, sym before.1.used.same.logger ∙ from.2, from.2)

  bare : (m : Lane D) → Contains n.lanes.items m → IsBarePlace away id (logger_of m)
  bare m has =
      let seen = logger_seen m has in
      let below = (lane_to m has).1.used.lane.at.pool_in in
      let long = r.shared.pools.ok.0 in
      let count = ready.closable.locks.pool_count in
      record {
        place = place_away state config valid b said id r own ready lt at view away o takes (logger_of m) (omega (arith, below, long, count));
        pool = without.pool_gone state config said id view r.rest away o takes (logger_of m) seen;
        spindle = without.spindle_gone state config said id view r.rest away o takes (logger_of m) (λ e. not_own (subst (λ (k : ℕ). Contains view k) e (in_view (logger_of m) seen))) seen;
        held = without.held_gone state config said id view r.rest away o takes (logger_of m) seen;
      }

  pub lanes_return : CanPutLanes state away id n.lanes.items
  lanes_return = record {
    whole = all_member (λ (m : Lane D). IsLane state m × (taken_in m ≡ None)) n.lanes.items (λ m has. let l = lane_to m has in (l.1.used.lane.lane, l.1.used.lane.untaken));
    bare = all_member (λ (m : Lane D). IsBarePlace away id (logger_of m)) n.lanes.items bare;
    apart = apart;
  }
    where
      apart : AllPairs (λ (l k : Lane D). logger_of l ≢ logger_of k) n.lanes.items
      apart i j d before_ within same =
          let long : length (map logger_of n.lanes.items) ≡ length n.lanes.items = length-map n.lanes.items logger_of in
          let pairs : AllPairs (λ (x y : ℕ). x ≢ y) (map logger_of n.lanes.items) = subst (λ (xs : List ℕ). AllPairs (λ (x y : ℕ). x ≢ y) xs) (sym same_loggers) (AllPairs-filter (λ (x y : ℕ). x ≢ y) (λ k. is_some (image_here r.rest.images.items k)) view takes.distinct) in
          pairs i j 0 before_ (omega (arith, within, long))
          (get_or-map logger_of n.lanes.items i d 0 (omega (arith, before_, within)) ∙ same ∙ sym (get_or-map logger_of n.lanes.items j d 0 within))

  pub lanes_of_others : All (λ (m : Lane D). id ≢ logger_of m) n.lanes.items
  lanes_of_others = all_member (λ (m : Lane D). id ≢ logger_of m) n.lanes.items (λ m has same. not_own (subst (λ (k : ℕ). Contains view k) (sym same) (in_view (logger_of m) (logger_seen m has))))

  -- ---- Owned segments

  pub owned_at : (k i : ℕ) → Contains (map place_of o.owned.items) (k, i) → (p : OwnedPart D) × IsInImage state config valid b said id r own ready lt at view away o takes p × (p.logger ≡ k) × (p.index ≡ i)
  owned_at k i has =
      let from = of_map place_of o.owned.items (k, i) has in (
        from.0,
        owned_in_image state config valid b said id r own ready lt at view away o takes from.0 from.1,
        ap (λ (p : ℕ × ℕ). p.0) from.2,
        ap (λ (p : ℕ × ℕ). p.1) from.2,
      )

  owed : (p : OwnedPart D) → Contains (map place_of o.owned.items) (place_of p) → IsOwedPlace away p
  owed p has =
      let at_p = owned_at p.logger p.index has in
      let here : image_here r.rest.images.items p.logger ≡ Some at_p.1.image = ap (λ (k : ℕ). image_here r.rest.images.items k) (sym at_p.2) ∙ at_p.1.out in
      let there : segment_here at_p.1.image p.index ≡ Some at_p.0.part = ap (λ (i : ℕ). segment_here at_p.1.image i) (sym at_p.3) ∙ at_p.1.there in
      let now = without.image_without state config said id view r.rest away o takes p.logger at_p.1.image here in
      record {
        image = now.0;
        out = now.1;
        within = let l = here_within at_p.1.image.segments.items p.index at_p.0.part there in let c = now.2.count in omega (arith, l, c);
        empty = sym (segment_in_image away p.logger now.0 now.1 p.index) ∙ without.segment_gone state config said id view r.rest away o takes p.logger p.index has;
      }

  pub owned_return : CanPutOwned away n.owned.items
  owned_return = subst (CanPutOwned away) (sym back.owned) (record {
    places = all_member (IsOwedPlace away) (kept_of back.fates) (λ p has. owed p (kept_owned state o.want.id o.owned.items back.fates back.parts.each p has));
    apart = order_apart (kept_of back.fates) (kept_in_order state o.want.id o.owned.items back.fates back.parts.each takes.owned.in_order);
  })

  -- ---- It came back

  module _ (last : Rest D) (puts : PutsOpening away last id n) where
    abbrev bases : List ManagerBase
    bases = map (λ (s : Station D). base_of_station s) r.stations.items

    -- ---- Passes

    last_kept : (w k : ℕ) → KeepsPlace puts.with_lanes last w k
    last_kept = same_passes puts.with_lanes last puts.owned.passes

    not_of : (k : ℕ) → (Contains loggers k → ⊥) → All (λ (m : Lane D). k ≢ logger_of m) n.lanes.items
    not_of k never = all_member (λ (m : Lane D). k ≢ logger_of m) n.lanes.items
        (λ m has same. never (subst (λ (j : ℕ). Contains loggers j) (sym same) (logger_seen m has)))

    pub pool_other : (w k : ℕ) → (w ≡ id → Contains loggers k → ⊥) → pool_pass last w k ≡ pool_pass r.rest w k
    pool_other w k never =
        (last_kept w k).pool ∙ (puts.lanes.others w k (λ same. not_of k (never same))).pool ∙ puts.home.pools w k ∙ without.pool_kept state config said id view r.rest away o takes w k never

    pub spindle_other : (w k : ℕ) → (w ≡ id → k ≢ id) → (w ≡ id → Contains loggers k → ⊥) → spindle_pass last w k ≡ spindle_pass r.rest w k
    spindle_other w k other never =
        (last_kept w k).spindle ∙ (puts.lanes.others w k (λ same. not_of k (never same))).spindle ∙ puts.home.spindles w k other ∙ without.spindle_kept state config said id view r.rest away o takes w k other never

    own_no_logger : Contains loggers id → ⊥
    own_no_logger has = not_own (in_view id has)

    pub spindle_own : spindle_pass last id id ≡ Some n.spindle
    spindle_own = (last_kept id id).spindle ∙ (puts.lanes.others id id (λ same. not_of id own_no_logger)).spindle ∙ puts.home.spindle_here

    has_back : (l m : Lane D) → IsBackLane l m → HasBack puts.with_lanes id m
    has_back l m is = All-contains (HasBack puts.with_lanes id) n.lanes.items m puts.lanes.back is.after

    pub pool_lane : (l m : Lane D) (k : ℕ) → IsBackLane l m → logger_of m ≡ k → pool_pass last id k ≡ Some (pool_of m)
    pool_lane l m k is same = ap (λ (j : ℕ). pool_pass last id j) (sym same) ∙ (last_kept id (logger_of m)).pool ∙ (has_back l m is).pool

    pub spindle_lane : (l m : Lane D) (k : ℕ) → IsBackLane l m → logger_of m ≡ k → spindle_pass last id k ≡ Some (spindle_of m)
    spindle_lane l m k is same = ap (λ (j : ℕ). spindle_pass last id j) (sym same) ∙ (last_kept id (logger_of m)).spindle ∙ (has_back l m is).spindle

    pool_of_lane : (l m : Lane D) (k : ℕ) → IsBackLane l m → logger_of l ≡ k → pool_pass r.rest id k ≡ Some (pool_of l)
    pool_of_lane l m k is same = ap (λ (j : ℕ). pool_pass r.rest id j) (sym same) ∙ is.taken.pool

    -- a pass of a pool that is here: it was here, or it is that of a lane which came back
    pub pool_back : {P : Type 0} (w k : ℕ) (p : PassOf (Pool (FreeSegment D)) PoolBase) → pool_pass last w k ≡ Some p → (pool_pass r.rest w k ≡ Some p → (w ≡ id → Contains loggers k → ⊥) → P)
        → ((l m : Lane D) → IsBackLane l m → w ≡ id → logger_of l ≡ k → logger_of m ≡ k → pool_pass r.rest w k ≡ Some (pool_of l) → pool_of m ≡ p → P) → P
    pool_back w k p here still of_lane = ⊎_elim
        (λ is.
        let lane = lane_at k is.1 in
        let now : pool_pass last w k ≡ Some (pool_of lane.1) = ap (λ (v : ℕ). pool_pass last v k) is.0 ∙ pool_lane lane.0 lane.1 k lane.2 lane.4 in
        of_lane lane.0 lane.1 lane.2 is.0 lane.3 lane.4 (ap (λ (v : ℕ). pool_pass r.rest v k) is.0 ∙ pool_of_lane lane.0 lane.1 k lane.2 lane.3) (same_Some (pool_of lane.1) p (sym now ∙ here)))
        (λ (never : w ≡ id → Contains loggers k → ⊥). still (sym (pool_other w k never) ∙ here) never)
        (without.of_lane state config said id view r.rest away o takes w k)

    -- the same of a spindle
    pub spindle_back : {P : Type 0} (w k : ℕ) (p : PassOf Spindle SpindleBase) → spindle_pass last w k ≡ Some p → (spindle_pass r.rest w k ≡ Some p → P) → (w ≡ id → k ≡ id → n.spindle ≡ p → P)
        → ((l m : Lane D) → IsBackLane l m → w ≡ id → logger_of l ≡ k → logger_of m ≡ k → spindle_of m ≡ p → P) → P
    spindle_back w k p here still own of_lane = without.spindle_place state config said id view r.rest away o takes w k
        (λ e f. own e f (same_Some n.spindle p (sym ((λ j. spindle_pass last (e j) (f j)) ∙ spindle_own) ∙ here)))
        (λ e f has.
        let lane = lane_at k has in
        let now : spindle_pass last w k ≡ Some (spindle_of lane.1) = ap (λ (v : ℕ). spindle_pass last v k) e ∙ spindle_lane lane.0 lane.1 k lane.2 lane.4 in
        of_lane lane.0 lane.1 lane.2 e lane.3 lane.4 (same_Some (spindle_of lane.1) p (sym now ∙ here)))
        (λ other never. still (sym (spindle_other w k other never) ∙ here))

    pub held_none : (w k : ℕ) → held_here last w k ≡ []
    held_none w k = ⊎_elim
        (λ is.
        let lane = lane_at k is.1 in
        let bare = lane.2.used.lane.bare in
        ap (λ (v : ℕ). held_here last v k) is.0 ∙ ap (λ (j : ℕ). held_here last id j) (sym lane.4) ∙ (last_kept id (logger_of lane.1)).held ∙ (has_back lane.0 lane.1 lane.2).held
        ∙ ap (map (λ (h : HeldSegment D). (h.index, Rattle.log_segment.specs.Segment.part_of h.segment))) bare)
        (λ (never : w ≡ id → Contains loggers k → ⊥).
        (last_kept w k).held ∙ (puts.lanes.others w k (λ same. not_of k (never same))).held ∙ puts.home.held w k ∙ without.held_kept state config said id view r.rest away o takes w k never ∙ ready.unheld w k)
        (without.of_lane state config said id view r.rest away o takes w k)

    -- ---- Images

    lanes_images : (k : ℕ) → image_here puts.with_lanes.images.items k ≡ image_here puts.with_home_.images.items k
    lanes_images k = ap (λ x. image_here x.items k) puts.lanes.images

    pub image_back : (k : ℕ) (x : ImageRest D) → image_here r.rest.images.items k ≡ Some x → (y : ImageRest D) × (image_here last.images.items k ≡ Some y) × IsImageNow (Some n.home) id k x y
    image_back k x here =
        let gone = without.image_without state config said id view r.rest away o takes k x here in
        let home = image_home away puts.with_home_ id (Some n.home) (Some n.spindle) puts.home k gone.0 gone.1 in
        let kept = MatchOption-at_some (image_here last.images.items k ≡ None) (λ (z : ImageRest D). (y : ImageRest D) × (image_here last.images.items k ≡ Some y) × IsSameBut z y) home.0 (lanes_images k ∙ home.1) (puts.owned.images k) in (
          kept.0,
          kept.1,
          record {
            label = kept.2.label ∙ home.2.label ∙ gone.2.label;
            count = kept.2.count ∙ home.2.count ∙ gone.2.count;
            row = kept.2.row ∙ home.2.row ∙ gone.2.row;
            room = kept.2.room ∙ home.2.room ∙ gone.2.room;
            own = λ e. kept.2.home ∙ home.2.own e;
            others = λ other. kept.2.home ∙ home.2.others other ∙ gone.2.others other;
          },
        )

    pub none_back : (k : ℕ) → image_here r.rest.images.items k ≡ None → image_here last.images.items k ≡ None
    none_back k none = MatchOption-at_none (image_here last.images.items k ≡ None) (λ (z : ImageRest D). (y : ImageRest D) × (image_here last.images.items k ≡ Some y) × IsSameBut z y)
        (lanes_images k ∙ home_none away puts.with_home_ id (Some n.home) (Some n.spindle) puts.home k (without.none_without state config said id view r.rest away o takes k none)) (puts.owned.images k)

    -- an image that is out was out
    pub image_was : (k : ℕ) (y : ImageRest D) → image_here last.images.items k ≡ Some y → (x : ImageRest D) × (image_here r.rest.images.items k ≡ Some x) × IsImageNow (Some n.home) id k x y
    image_was k y now = by_option (image_here r.rest.images.items k)
        (λ e. absurd (none-some y (sym (none_back k e) ∙ now)))
        (λ x e. let is = image_back k x e in (x, e, subst (λ (z : ImageRest D). IsImageNow (Some n.home) id k x z) (same_Some is.0 y (sym is.1 ∙ now)) is.2))

    pub count_back : length last.images.items ≡ length r.rest.images.items
    count_back = puts.owned.count ∙ ap (λ x. length x.items) puts.lanes.images ∙ puts.home.count ∙ without.count_without state config said id view r.rest away o takes

    pub out_back : map (λ (i : Option (ImageRest D)). is_some i) last.images.items ≡ map (λ (i : Option (ImageRest D)). is_some i) r.rest.images.items
    out_back = same_out last.images.items r.rest.images.items count_back
        (λ k. by_option (image_here r.rest.images.items k) (λ e. ap is_some (none_back k e) ∙ sym (ap is_some e)) (λ x e. ap is_some (image_back k x e).1 ∙ sym (ap is_some e)))

    pub none_was : (k : ℕ) → image_here last.images.items k ≡ None → image_here r.rest.images.items k ≡ None
    none_was = none_too last.images.items r.rest.images.items out_back

    pub rooms_back : last.rooms ≡ r.rest.rooms
    rooms_back = puts.owned.rooms ∙ puts.lanes.rooms ∙ puts.home.rooms ∙ takes.home.rooms ∙ takes.owned.rooms ∙ takes.lanes.passes.rooms

    pub rows_back : length last.passes.items ≡ length r.rest.passes.items
    rows_back = ap (λ x. length x.items) puts.owned.passes ∙ puts.lanes.rows.count ∙ puts.home.rows.count ∙ without.rows_without state config said id view r.rest away o takes

    pub each_row : All (λ p. IsRow (length (shapes_of config)) p) last.passes.items
    each_row = subst (λ x. All (λ p. IsRow (length (shapes_of config)) p) x.items) (sym puts.owned.passes)
        (puts.lanes.rows.rows (length (shapes_of config)) (puts.home.rows.rows (length (shapes_of config))
        (without.rows_stay state config said id view r.rest away o takes (length (shapes_of config)) (parts state config valid b said id r own ready lt at).rows)))

    -- ---- Segments

    lane_segments : (k i : ℕ) → segment_in puts.with_lanes k i ≡ segment_in away k i
    lane_segments k i = ap (λ x. segment_in (record puts.with_home_ { images = x }) k i) puts.lanes.images ∙ home_segments away puts.with_home_ id (Some n.home) (Some n.spindle) puts.home k i

    not_put : (k i : ℕ) → ((p : OwnedPart D) → Contains (kept_of back.fates) p → place_of p ≡ (k, i) → ⊥) → segment_in last k i ≡ segment_in away k i
    not_put k i never = puts.owned.others k i (all_member (λ (p : OwnedPart D). place_of p ≢ (k, i)) n.owned.items (λ p has. never p (subst (λ (l : List (OwnedPart D)). Contains l p) back.owned has))) ∙ lane_segments k i

    pub segment_other : (k i : ℕ) → (Contains (map place_of o.owned.items) (k, i) → ⊥) → segment_in last k i ≡ segment_in r.rest k i
    segment_other k i never =
        not_put k i (λ p has same. never (subst (λ (q : ℕ × ℕ). Contains (map place_of o.owned.items) q) same (kept_owned state o.want.id o.owned.items back.fates back.parts.each p has)))
        ∙ without.segment_kept state config said id view r.rest away o takes k i never

    pub segment_kept : (p : OwnedPart D) (k i : ℕ) → Contains (kept_of back.fates) p → place_of p ≡ (k, i) → segment_in last k i ≡ Some p.part
    segment_kept p k i has same =
        ap (λ (q : ℕ × ℕ). segment_in last q.0 q.1) (sym same)
        ∙ All-contains (λ (q : OwnedPart D). segment_in last q.logger q.index ≡ Some q.part) n.owned.items p puts.owned.back (subst (λ (l : List (OwnedPart D)). Contains l p) (sym back.owned) has)

    pub segment_went : (k i : ℕ) → Contains (map place_of o.owned.items) (k, i) → ((p : OwnedPart D) → Contains (kept_of back.fates) p → place_of p ≡ (k, i) → ⊥) → segment_in last k i ≡ None
    segment_went k i has never = not_put k i never ∙ without.segment_gone state config said id view r.rest away o takes k i has

    -- the fate of an owned segment, by its place
    pub fate_here : (k i : ℕ) → Contains (map place_of o.owned.items) (k, i) → FateAt state o.want.id o.owned.items back.fates k i
    fate_here k i has = fate_at state o.want.id o.owned.items back.fates takes.owned.in_order back.parts.each k i has

    abbrev pub WasIn : OwnedPart D → Type 0
    WasIn p = IsInImage state config valid b said id r own ready lt at view away o takes p

    -- a segment that is here: it was here and isn't the volume's, or it was handed back
    pub segment_back : {P : Type 0} (k i : ℕ) (y : ImageRest D) (p : Spun D) → image_here last.images.items k ≡ Some y → segment_here y i ≡ Some p → (segment_in r.rest k i ≡ Some p → (Contains (map place_of o.owned.items) (k, i) → ⊥) → P)
        → ((part new : OwnedPart D) → WasIn part → part.logger ≡ k → part.index ≡ i → Contains (map place_of o.owned.items) (k, i) → IsFateOf state o.want.id part (Kept new) → new.part ≡ p → (Contains (freed_on k o.owned.items back.fates) i → ⊥) → P) → P
    segment_back {P} k i y p now here still handed_on = ⊎_elim
        (λ has. owned has (fate_here k i has))
        (λ (never : Contains (map place_of o.owned.items) (k, i) → ⊥). still (sym (segment_other k i never) ∙ there) never)
        (without.is_pair (map place_of o.owned.items) k i)
      where
        there : segment_in last k i ≡ Some p
        there = segment_in_image last k y now i ∙ here

        owned : Contains (map place_of o.owned.items) (k, i) → FateAt state o.want.id o.owned.items back.fates k i → P
        owned has (stayed part new in_os is in_kept at_new fate never) =
            handed_on part new (owned_in_image state config valid b said id r own ready lt at view away o takes part in_os) (ap (λ (q : ℕ × ℕ). q.0) is) (ap (λ (q : ℕ × ℕ). q.1) is) has fate (same_Some new.part p (sym (segment_kept new k i in_kept at_new) ∙ there)) never
        owned has (went part f in_os is fate freed none) = absurd (none-some p (sym (segment_went k i has none) ∙ there))

    -- ---- Once the opening of one volume came back, the rest stands as where that volume has no manager

    module _ (named : (k i : ℕ) → Contains (freed_on k o.owned.items back.fates) i → Contains (loggers_out r.rest view) k) where
      old : IsRestBut state config r.shared (away_with bases) r.rest
      old = parts state config valid b said id r own ready lt at

      -- ---- Images

      images : (length last.images.items ≡ length (shapes_of config)) × ((k : ℕ) (s : Shape) (y : ImageRest D) → slice_get (shapes_of config) k ≡ Some s → image_here last.images.items k ≡ Some y → IsImageRest state k s y)
      images = (
        count_back ∙ old.images.0,
        λ k s y shape now.
            let w = image_was k y now in
            let rest = old.images.1 k s w.0 shape w.1 in
            record {
              label = subst (λ (p : Spun D). IsPart state k 2 p) (sym w.2.label) rest.label;
              home = ⊎_elim
                  (λ (e : k ≡ id).
                  let same : shape_of_own ≡ s = same_Some shape_of_own s (sym takes.shape ∙ ap (λ (j : ℕ). slice_get (shapes_of config) j) (sym e) ∙ shape) in
                  subst (λ (h : Option (Spun D)). IfSome h (IsPart state k s.home)) (sym (w.2.own e)) (home_part k s (subst (λ (h : Option (Spun D)). IfSome h (IsPart state k s.home)) (takes.home_was w.0 (ap (λ (j : ℕ). image_here r.rest.images.items j) (sym e) ∙ w.1)) rest.home)))
                  (λ (other : k ≡ id → ⊥). subst (λ (h : Option (Spun D)). IfSome h (IsPart state k s.home)) (sym (w.2.others other)) rest.home)
                  (cases_eq k id);
              count = w.2.count ∙ rest.count;
              segments = λ i p here. segment_back k i y p now here
                  (λ before never. rest.segments i p (sym (segment_in_image r.rest k w.0 w.1 i) ∙ before))
                  (λ part new was e f has fate same never.
                  let sizes : was.shape ≡ s = same_Some was.shape s (sym was.shape_is ∙ ap (λ (j : ℕ). slice_get (shapes_of config) j) e ∙ shape) in
                  subst (λ (q : Spun D). IsPart state k s.segment_blocks q) same (record { of_volume = fate.same.1 ∙ was.part.of_volume ∙ e; sized = fate.same.2 ∙ was.part.sized ∙ ap (λ (z : Shape). z.segment_blocks) sizes }));
              row = subst (λ x. (x.items ≡ []) × (s.segments ≤ vec_capacity x)) (sym w.2.row) rest.row;
              room = subst (λ x. (x.items ≡ []) × (2 + s.segments ≤ vec_capacity x)) (sym w.2.room) rest.room;
            },
      )
        where
          shape_of_own : Shape
          shape_of_own = Rattle.log_layout.specs.Values.shape_of o.want

          home_part : (k : ℕ) (s : Shape) → IsPart state k s.home o.home → IsPart state k s.home n.home
          home_part k s is = record { of_volume = back.parts.home.volume ∙ is.of_volume; sized = back.parts.home.size ∙ is.sized }

      homes : (k : ℕ) (y : ImageRest D) → image_here last.images.items k ≡ Some y → IsSome y.home ↔ (Contains (away_with bases).homes k → ⊥)
      homes k y now =
          let w = image_was k y now in
          ⊎_elim
          (λ (e : k ≡ id). here_now y.home n.home (w.2.own e) (λ c. no_home state config valid b said id r own ready lt at (subst (λ (j : ℕ). Contains (away_with bases).homes j) e c)))
          (λ (other : k ≡ id → ⊥). here_still y.home w.0.home (w.2.others other) (old.homes k w.0 w.1) (λ c. c) (λ c. c))
          (cases_eq k id)

      -- ---- Passes

      row_was : (v : ℕ) → v < length last.passes.items → v < length r.rest.passes.items
      row_was v row = let c = rows_back in omega (arith, row, c)

      pools_here : (v k : ℕ) → v < length last.passes.items → k < length r.shared.pools.items → IsSome (pool_pass last v k) ↔ (Contains (away_with bases).lanes (v, k) → ⊥)
      pools_here v k row within = ⊎_elim
          (λ is.
          let lane = lane_at k is.1 in
          here_now (pool_pass last v k) (pool_of lane.1) (ap (λ (w : ℕ). pool_pass last w k) is.0 ∙ pool_lane lane.0 lane.1 k lane.2 lane.4)
          (λ c. no_lane state config valid b said id r own ready lt at k (subst (λ (w : ℕ). Contains (away_with bases).lanes (w, k)) is.0 c)))
          (λ (never : v ≡ id → Contains loggers k → ⊥). here_still (pool_pass last v k) (pool_pass r.rest v k) (pool_other v k never) (old.pools.here v k (row_was v row) within) (λ c. c) (λ c. c))
          (without.of_lane state config said id view r.rest away o takes v k)

      pools_each : (v k : ℕ) (l : TurnLock (Pool (FreeSegment D)) PoolBase) (p : PassOf (Pool (FreeSegment D)) PoolBase) → slice_get r.shared.pools.items k ≡ Some l → pool_pass last v k ≡ Some p → IsPassAt l v p
      pools_each v k l p lock here = pool_back v k p here
          (λ before never. old.pools.each v k l p lock before)
          (λ x m is e f g before same. subst (λ (q : PassOf (Pool (FreeSegment D)) PoolBase). IsPassAt l v q) same
          (pass_stays l v (pool_of x) (pool_of m) (old.pools.each v k l (pool_of x) lock before) is.used.same.pool is.used.lane.lane.pool_free))

      spindle_was_lane : (x m : Lane D) (k : ℕ) → IsBackLane x m → logger_of x ≡ k → spindle_pass r.rest id k ≡ Some (spindle_of x)
      spindle_was_lane x m k is same = ap (λ (j : ℕ). spindle_pass r.rest id j) (sym same) ∙ is.taken.spindle

      spindles_here : (v k : ℕ) → v < length last.passes.items → k < length r.shared.spindles.items
          → IsSome (spindle_pass last v k) ↔ ((Contains (away_with bases).lanes (v, k) ⊎ ((v ≡ k) × Contains (away_with bases).homes v)) → ⊥)
      spindles_here v k row within = without.spindle_place state config said id view r.rest away o takes v k
          (λ e f. here_now (spindle_pass last v k) n.spindle ((λ j. spindle_pass last (e j) (f j)) ∙ spindle_own) (none_away e))
          (λ e f has.
          let lane = lane_at k has in
          here_now (spindle_pass last v k) (spindle_of lane.1) (ap (λ (w : ℕ). spindle_pass last w k) e ∙ spindle_lane lane.0 lane.1 k lane.2 lane.4) (none_away e))
          (λ other never. here_still (spindle_pass last v k) (spindle_pass r.rest v k) (spindle_other v k other never) (old.spindles.here v k (row_was v row) within) (λ c. c) (λ c. c))
        where
          none_away : v ≡ id → (Contains (away_with bases).lanes (v, k) ⊎ ((v ≡ k) × Contains (away_with bases).homes v)) → ⊥
          none_away e c = ⊎_elim
              (λ l. no_lane state config valid b said id r own ready lt at k (subst (λ (w : ℕ). Contains (away_with bases).lanes (w, k)) e l))
              (λ h. no_home state config valid b said id r own ready lt at (subst (λ (w : ℕ). Contains (away_with bases).homes w) e h.1))
              c

      spindles_each : (v k : ℕ) (l : TurnLock Spindle SpindleBase) (p : PassOf Spindle SpindleBase) → slice_get r.shared.spindles.items k ≡ Some l → spindle_pass last v k ≡ Some p → IsPassAt l v p
      spindles_each v k l p lock here = spindle_back v k p here
          (λ before. old.spindles.each v k l p lock before)
          (λ e f same.
          let was : IsPassAt l v o.spindle = old.spindles.each v k l o.spindle lock ((λ j. spindle_pass r.rest (e j) (f j)) ∙ takes.spindle_was) in
          subst (λ (q : PassOf Spindle SpindleBase). IsPassAt l v q) same (pass_stays l v o.spindle n.spindle was back.spindle back.spindle_free))
          (λ x m is e f g same.
          let was : IsPassAt l v (spindle_of x) = old.spindles.each v k l (spindle_of x) lock (ap (λ (w : ℕ). spindle_pass r.rest w k) e ∙ spindle_was_lane x m k is f) in
          subst (λ (q : PassOf Spindle SpindleBase). IsPassAt l v q) same (pass_stays l v (spindle_of x) (spindle_of m) was is.used.same.spindle is.used.lane.lane.spindle_free))

      settled : (v k : ℕ) (p : PassOf Spindle SpindleBase) → spindle_pass last v k ≡ Some p → has_token (pass_mine p) ≡ false
      settled v k p here = spindle_back v k p here
          (λ before. old.spindles.settled v k p before)
          (λ e f same. ap (λ (q : PassOf Spindle SpindleBase). has_token (pass_mine q)) (sym same) ∙ back.settled)
          (λ x m is e f g same. ap (λ (q : PassOf Spindle SpindleBase). has_token (pass_mine q)) (sym same) ∙ is.used.lane.lane.settled)

      pub only_accesses : OnlyAccess last
      only_accesses v k p here = spindle_back v k p here
          (λ before. ready.closable.accesses v k p before)
          (λ e f same. subst (λ (q : PassOf Spindle SpindleBase). AreAccesses (pass_mine q)) same back.accesses)
          (λ x m is e f g same. subst (λ (q : PassOf Spindle SpindleBase). AreAccesses (pass_mine q)) same is.used.lane.lane.accesses)

      -- ---- Who holds what

      abbrev Holds : PassOf (Pool (FreeSegment D)) PoolBase → ℕ → Type 0
      Holds p i = holds (pass_lock p).base (pass_number p) (pass_mine p) i ≡ true

      -- a pass that holds a segment held it before, and it wasn't freed on its logger
      pub record Held (v k i : ℕ) (p : PassOf (Pool (FreeSegment D)) PoolBase) : Type 0 where
        pub before : PassOf (Pool (FreeSegment D)) PoolBase
        pub here : pool_pass r.rest v k ≡ Some before
        pub held : Holds before i
        pub not_freed : v ≡ id → Contains (freed_on k o.owned.items back.fates) i → ⊥

      pub held_was : (v k i : ℕ) (p : PassOf (Pool (FreeSegment D)) PoolBase) → pool_pass last v k ≡ Some p → Holds p i → Held v k i p
      held_was v k i p here holding = pool_back v k p here
          (λ before never. record { before = p; here = before; held = holding; not_freed = λ same freed. never same (named k i freed) })
          (λ x m is e f g before same.
          let was = held_before o.owned.items back.fates x m is.used.same.pool is.given i (subst (λ (q : PassOf (Pool (FreeSegment D)) PoolBase). Holds q i) (sym same) holding) in
          record { before = pool_of x; here = before; held = was.0; not_freed = λ same freed. was.1 (subst (λ (j : ℕ). Contains (freed_on j o.owned.items back.fates) i) (sym f) freed) })

      -- and it holds it still where it wasn't freed there
      still_holding : (v k i : ℕ) (p : PassOf (Pool (FreeSegment D)) PoolBase) → pool_pass r.rest v k ≡ Some p → Holds p i → (v ≡ id → Contains (freed_on k o.owned.items back.fates) i → ⊥) → IsHolding last v k i
      still_holding v k i p here holding never = ⊎_elim
          (λ is.
          let lane = lane_at k is.1 in
          let was : pool_pass r.rest v k ≡ Some (pool_of lane.0) = ap (λ (w : ℕ). pool_pass r.rest w k) is.0 ∙ ap (λ (j : ℕ). pool_pass r.rest id j) (sym lane.3) ∙ lane.2.taken.pool in
          let same : p ≡ pool_of lane.0 = same_Some p (pool_of lane.0) (sym here ∙ was) in (
            pool_of lane.1,
            ap (λ (w : ℕ). pool_pass last w k) is.0 ∙ pool_lane lane.0 lane.1 k lane.2 lane.4,
            held_still o.owned.items back.fates lane.0 lane.1 lane.2.used.same.pool lane.2.given i (subst (λ (q : PassOf (Pool (FreeSegment D)) PoolBase). Holds q i) same holding)
                (λ freed. never is.0 (subst (λ (j : ℕ). Contains (freed_on j o.owned.items back.fates) i) lane.3 freed)),
          ))
          (λ (other : v ≡ id → Contains (loggers_out r.rest view) k → ⊥).
          (p, pool_other v k other ∙ here, holding))
          (without.of_lane state config said id view r.rest away o takes v k)

      segments_here : (k i : ℕ) (y : ImageRest D) → image_here last.images.items k ≡ Some y → i < length y.segments.items → IsSome (segment_here y i) ↔ (IsHeldHere last k i × (Contains {X = ℕ × ℕ} [] (k, i) → ⊥))
      segments_here k i y now within =
          let w = image_was k y now in
          let before = old.placed.here k i w.0 w.1 (let c = w.2.count in omega (arith, within, c)) in (
            λ there.
                let p = a_value (segment_here y i) there in (
                  segment_back k i y p.0 now p.1
                      (λ was never. held_on w.0 before.0 (ap is_some (sym (segment_in_image r.rest k w.0 w.1 i) ∙ was)) (λ v place same freed. never (takes.owned.all k i (subst (λ (u : ℕ). IsOwnedPlace said u k i) same place))))
                      (λ part new was e f has fate same never.
                      let image : was.image ≡ w.0 = same_Some was.image w.0 (sym was.out ∙ ap (λ (j : ℕ). image_here r.rest.images.items j) e ∙ w.1) in
                      held_on w.0 before.0 (ap is_some ((λ j. segment_here (sym image j) (sym f j)) ∙ was.there)) (λ v place is freed. never freed)),
                  none_in (k, i),
                ),
            λ both. from w.0 w.1 before.1 both.0,
          )
        where
          held_on : (x : ImageRest D) → (IsSome (segment_here x i) → IsHeldHere r.rest k i × (Contains {X = ℕ × ℕ} [] (k, i) → ⊥)) → IsSome (segment_here x i) → ((v : ℕ) → IsOwnedPlace said v k i → v ≡ id → Contains (freed_on k o.owned.items back.fates) i → ⊥) → IsHeldHere last k i
          held_on x held there never =
              let was = (held there).0 in
              let holding = was.1 in
              (was.0, still_holding was.0 k i holding.0 holding.1 holding.2 (never was.0 (ready.since was.0 k i holding.0 holding.1 holding.2)), no_indexes last held_none was.0 k i)

          from : (x : ImageRest D) → image_here r.rest.images.items k ≡ Some x → (IsHeldHere r.rest k i × (Contains {X = ℕ × ℕ} [] (k, i) → ⊥) → IsSome (segment_here x i)) → IsHeldHere last k i → IsSome (segment_here y i)
          from x here held now_held =
              let holding = now_held.1 in
              let was = held_was now_held.0 k i holding.0 holding.1 holding.2 in
              let place = ready.since now_held.0 k i was.before was.here was.held in
              let there = held ((now_held.0, (was.before, was.here, was.held), no_indexes r.rest ready.unheld now_held.0 k i), none_in (k, i)) in
              ⊎_elim
              (λ has. of_fate has (without.owner_of state config said id view r.rest away o takes now_held.0 k i place has) was.not_freed (fate_here k i has))
              (λ (never : Contains (map place_of o.owned.items) (k, i) → ⊥).
              ap is_some (sym (segment_in_image last k y now i) ∙ segment_other k i never ∙ segment_in_image r.rest k x here i) ∙ there)
              (without.is_pair (map place_of o.owned.items) k i)
            where
              of_fate : {v : ℕ} → Contains (map place_of o.owned.items) (k, i) → v ≡ id → (v ≡ id → Contains (freed_on k o.owned.items back.fates) i → ⊥) → FateAt state o.want.id o.owned.items back.fates k i → IsSome (segment_here y i)
              of_fate has same never (stayed part new in_os is in_kept at_new fate not_freed) =
                  ap is_some (sym (segment_in_image last k y now i) ∙ segment_kept new k i in_kept at_new)
              of_fate has same never (went part f in_os is fate freed none) = absurd (never same freed)

      -- the rest stands as before
      pub rest_again : IsRestBut state config r.shared (away_with bases) last
      rest_again = record {
        images = images;
        homes = homes;
        count = rows_back ∙ old.count;
        rows = each_row;
        pools = record { here = pools_here; each = pools_each };
        spindles = record { here = spindles_here; each = spindles_each; settled = settled };
        returned = none_returned state config last held_none;
        placed = record {
          known = λ k i l y lock now within.
              let w = image_was k y now in
              old.placed.known k i l w.0 lock w.1 (let c = w.2.count in omega (arith, within, c));
          known_passes = old.placed.known_passes;
          here = segments_here;
          others = λ k i l lock none. old.placed.others k i l lock (none_was k none);
        };
      }

    -- ---- A rack whose volume was refused stands as it did before the volume was tried

    module _ (sound : (d : D) → IsDisk (state d)) (refusal : OpenRefusal) (refuses : Refuses tells state o n refusal) (all : HandsBackAll state o n refusal) where
      -- ---- What was freed lies on a logger of the view

      none_gone : AllZip (IsSameOwned state) o.owned.items n.owned.items → (k i : ℕ) → Contains (freed_on k o.owned.items back.fates) i → ⊥
      none_gone same k i freed = none_freed state o.want.id o.owned.items n.owned.items back.fates k i back.parts.each back.owned (length_all_zip (IsSameOwned state) o.owned.items n.owned.items same) freed

      pub freed_named : (k i : ℕ) → Contains (freed_on k o.owned.items back.fates) i → Contains (loggers_out r.rest view) k
      freed_named k i freed = by refusal refuses all
        where
          by : (why : OpenRefusal) → Refuses tells state o n why → HandsBackAll state o n why → Contains (loggers_out r.rest view) k
          by LabelDiffers refuses all = absurd (none_gone all k i freed)
          by (LoggerMissing missing) refuses all = absurd (none_gone all k i freed)
          by (OutsideView logger segment) refuses all = absurd (none_gone all k i freed)
          by (Damaged volume block) refuses all = absurd (none_gone all k i freed)
          by (Twins first_volume first second_volume second) refuses all = absurd (none_gone all k i freed)
          by (DiskFault (Home volume)) refuses all = absurd (none_gone all k i freed)
          by (DiskFault (Segment volume index)) refuses all =
              let can = can_open state config valid b said id r own ready lt at view away o takes in
              subst (λ (l : List ℕ). Contains l k) (sym (all_out state config r.shared said id view r.rest away o takes can refuses.0))
              (all_inside state config r.shared said id view r.rest away o takes can refuses.0 k i (freed_owned state o.want.id o.owned.items back.fates k i freed))
          by NoMemory refuses all = absurd (none_gone all k i freed)

      -- ---- What the segments say

      -- a volume that was tried has no station
      pub no_station : Contains (map (λ (s : Station D). s.id) r.stations.items) id → ⊥
      no_station has = let lt = ids_below state config b said id r ready id has in omega (arith, lt)

      pub place_at : (k i w : ℕ) (own_k : Said) → said_at said k ≡ Some own_k → slice_get own_k.heads.items i ≡ Some (Owned w) → IsOwnedPlace said w k i
      place_at k i w own_k is head = (own_k, slice_get-get_or said k None (here_within said k own_k is) ∙ ap Some is, head)

      foreign_place : (k i : ℕ) (y : ImageRest D) (p : Spun D) → image_here last.images.items k ≡ Some y → segment_here y i ≡ Some p → IsForeign state bases p
      foreign_place k i y p now here = segment_back k i y p now here
          (λ was never. let w = image_was k y now in ready.closable.foreign.places k i w.0 p w.1 (sym (segment_in_image r.rest k w.0 w.1 i) ∙ was))
          (λ part new was e f has fate same never. subst (IsForeign state bases) same (foreign_kept state config valid b said id r own ready lt at view away o takes sound part new was fate))

      -- ---- The rack

      out_was : (k : ℕ) → IsImageOut last.images.items k → IsImageOut r.rest.images.items k
      out_was = out_too last.images.items r.rest.images.items out_back

      out_now : (k : ℕ) → IsImageOut r.rest.images.items k → IsImageOut last.images.items k
      out_now = out_too r.rest.images.items last.images.items (sym out_back)

      module _ (faults : Vec (Option VolumeFault) Global) where
        abbrev pub next : Rack D
        next = record r { rest = last; faults = faults }

        pub closable_again : IsClosable state config b next
        closable_again = without.closable_stays state config b r last out_back faults ready.closable
            (rest_again freed_named) rooms_back
            (record {
              places = foreign_place;
              held = λ v k i p has. absurd (none_in (i, p) (subst (λ (l : List (ℕ × Spun D)). Contains l (i, p)) (held_none v k) has));
            })
            (only_accesses freed_named)

        pub stopped_again : IsStopped state config b r next
        stopped_again = record { closable = closable_again; fresh = ready.fresh; same_out = out_back }

        -- ---- It goes on being opened

        module _ (faults_are : faults.items ≡ set r.faults.items id (Some (volume_fault.Refused refusal))) (names : NamesVolumes (length (shapes_of config)) (volume_fault.Refused refusal)) where
          fault_within : id < length r.faults.items
          fault_within = let c = ready.tried.count in omega (arith, c, lt)

          pub fault_own : fault_at faults.items id ≡ Some (volume_fault.Refused refusal)
          fault_own = ap (λ (l : List (Option VolumeFault)). fault_at l id) faults_are ∙ get_or-set_same r.faults.items id (Some (volume_fault.Refused refusal)) None fault_within

          pub fault_other : (k : ℕ) → k ≢ id → fault_at faults.items k ≡ fault_at r.faults.items k
          fault_other k other = ap (λ (l : List (Option VolumeFault)). fault_at l k) faults_are ∙ get_or-set_other r.faults.items id k (Some (volume_fault.Refused refusal)) None other

          long : length faults.items ≡ length r.faults.items
          long = ap (λ (l : List (Option VolumeFault)). length l) faults_are ∙ length-set r.faults.items id (Some (volume_fault.Refused refusal))

          tried : AreTried config (id + 1) next
          tried = record {
            count = long ∙ ready.tried.count;
            known = λ k f is.
                let found : fault_at faults.items k ≡ Some f = get_or_from_slice_get faults.items k (Some f) None is in
                ⊎_elim
                (λ (e : k ≡ id). subst (NamesVolumes (length (shapes_of config))) (same_Some (volume_fault.Refused refusal) f (sym fault_own ∙ sym (ap (fault_at faults.items) e) ∙ found)) names)
                (λ (other : k ≡ id → ⊥).
                let within : k < length r.faults.items = let w = slice_get_within faults.items k (Some f) is in let l = long in omega (arith, w, l) in
                ready.tried.known k f (slice_get-get_or r.faults.items k None within ∙ ap Some (sym (fault_other k other) ∙ found)))
                (cases_eq k id);
            below = λ j d within. let one = ready.tried.below j d within in omega (arith, one);
            tried = λ k less. ⊎_elim
                (λ (e : k ≡ id). (
                  λ none. absurd (none-some (volume_fault.Refused refusal) (sym none ∙ ap (fault_at faults.items) e ∙ fault_own)),
                  λ c. absurd (no_station (subst (λ (j : ℕ). Contains (map (λ (s : Station D). s.id) r.stations.items) j) e c)),
                ))
                (λ (other : k ≡ id → ⊥).
                let old = ready.tried.tried k (⊎_elim (λ (before : k < id). before) (λ (past : id ≤ k). absurd (other (omega (arith, past, less)))) (cases_lt k id)) in
                (λ none. old.0 (sym (fault_other k other) ∙ none), λ c. fault_other k other ∙ old.1 c))
                (cases_eq k id);
            further = λ k le within.
                let other : k ≢ id = λ e. omega (arith, le, e) in
                let old = ready.tried.further k (omega (arith, le)) within in
                (λ none. out_now k (old.0 (sym (fault_other k other) ∙ none)), λ out. fault_other k other ∙ old.1 (out_was k out));
          }

          owners : AreOwnersHere state said next
          owners = record {
            closed = λ k i w own_k y p is head now here has. segment_back k i y p now here
                (λ was never. let z = image_was k y now in ready.owners.closed k i w own_k z.0 p is head z.1 (sym (segment_in_image r.rest k z.0 z.1 i) ∙ was) has)
                (λ part new was e f in_owned fate same never. no_station (subst (λ (j : ℕ). Contains (map (λ (s : Station D). s.id) r.stations.items) j) (without.owner_of state config said id view r.rest away o takes w k i (place_at k i w own_k is head) in_owned) has));
            says = λ k i w own_k y p is head now here told c im. segment_back k i y p now here
                (λ was never. let z = image_was k y now in ready.owners.says k i w own_k z.0 p is head z.1 (sym (segment_in_image r.rest k z.0 z.1 i) ∙ was) told c im)
                (λ part new was e f in_owned fate same never.
                subst (λ (j : ℕ). SaysOwnerOrFree j c) (sym (without.owner_of state config said id view r.rest away o takes w k i (place_at k i w own_k is head) in_owned))
                (says_kept state config valid b said id r own ready lt at view away o takes sound told part new was fate c (subst (λ (q : Spun D). IsImageOf (state_of state q).values c) (sym same) im)));
            free = λ k i own_k y is head now. no_value (segment_here y i) (λ there.
                let p = a_value (segment_here y i) there in
                segment_back k i y p.0 now p.1
                (λ was never. let z = image_was k y now in none-some p.0 (sym (ready.owners.free k i own_k z.0 is head z.1) ∙ sym (segment_in_image r.rest k z.0 z.1 i) ∙ was))
                (λ part new was e f in_owned fate same never.
                let saying : was.saying ≡ own_k = same_Some was.saying own_k (sym was.said_is ∙ ap (said_at said) e ∙ is) in
                let heads : Some (Owned id) ≡ Some Free = sym was.head ∙ (λ j. slice_get (saying j).heads.items (f j)) ∙ head in
                cc heads));
          }

          view_is : view ≡ view_at said id
          view_is = sym own_view ∙ ap (λ (x : Option Said). option_map_or (λ (y : Said). y.view) x []) (sym (said_id state config valid b said id r own ready lt at))

          -- a lane that came back is of the view that the volume's image says
          in_view_of : (v k : ℕ) (m : Lane D) → Contains n.lanes.items m → v ≡ id → logger_of m ≡ k → Contains (view_at said v) k
          in_view_of v k m has e g = subst (λ (xs : List ℕ). Contains xs k) (view_is ∙ ap (view_at said) (sym e)) (subst (λ (j : ℕ). Contains view j) g (in_view (logger_of m) (logger_seen m has)))

          pub opening_again : IsOpeningRack state config b said (id + 1) next
          opening_again = record {
            being = record {
              closable = closable_again;
              fresh = ready.fresh;
              says = λ k s shape out. ready.says k s shape (out_was k out);
              silent = λ k none. ready.silent k (none_was k none);
              pools = ready.pools;
              said_count = ready.said_count;
              unheld = held_none;
              since = λ v k i p here holding. let w = held_was freed_named v k i p here holding in ready.since v k i w.before w.here w.held;
              owners = owners;
              users = record {
                opened = ready.users.opened;
                unused = λ v k p other never here. spindle_back v k p here
                    (λ before. ready.users.unused v k p other never before)
                    (λ e f same. absurd (other (e ∙ sym f)))
                    -- its lanes came back from the view that its image says
                    (λ l m is e f g same. absurd (never (in_view_of v k m is.after e g)));
                unused_pools = λ v k p never here. pool_back v k p here
                    (λ before other. ready.users.unused_pools v k p never before)
                    (λ l m is e f g before same. absurd (never (in_view_of v k m is.after e g)));
              };
            };
            station_room = let h = ready.station_room in omega (arith, h);
            manager_room = let h = ready.manager_room in let e = ap (λ x. Rattle.std.proofs.Common.vec_capacity x.managers) rooms_back in omega (arith, h, e);
            tried = tried;
            untouched = record {
              passes = λ v k p le here. pool_back v k p here (λ before never. ready.untouched.passes v k p (omega (arith, le)) before) (λ l m is e f g before same. absurd (omega (arith, le, e)));
              here = λ v k i own_k y le is head now.
                  let z = image_was k y now in
                  let before = ready.untouched.here v k i own_k z.0 (omega (arith, le)) is head z.1 in
                  let never : Contains (map place_of o.owned.items) (k, i) → ⊥ = λ has. let e = without.owner_of state config said id view r.rest away o takes v k i (place_at k i v own_k is head) has in omega (arith, le, e) in
                  (before.0, sym (segment_in_image last k y now i) ∙ segment_other k i never ∙ segment_in_image r.rest k z.0 z.1 i ∙ before.1, before.2);
            };
          }

      -- ---- What a rack began with once the opening of one volume was refused and came back, and why its volumes are refused

      module _ (faults : Vec (Option VolumeFault) Global) (told : (d : D) → TellsContent (state d)) (t : Told) (begun : HasBegun state config t said id r) where
        left : (k : ℕ) (v : VolumeConf) (before : Image) (y : ImageRest D) → slice_get config.volumes.items k ≡ Some v → at_name v.name t.images ≡ Some before → image_here last.images.items k ≡ Some y → IsLeftHere state (shape_in config v) before y
        left k v before y conf there now =
            let w = image_was k y now in
            let old = begun.began.left k v before w.0 conf there w.1 in
            record {
              label = λ c im. old.label c (subst (λ (p : Spun D). IsImageOf (state_of state p).values c) w.2.label im);
              home = λ p here. ⊎_elim
                  (λ (e : k ≡ id).
                  let is : n.home ≡ p = same_Some n.home p (sym (w.2.own e) ∙ here) in
                  let was : w.0.home ≡ Some o.home = takes.home_was w.0 (ap (λ (j : ℕ). image_here r.rest.images.items j) (sym e) ∙ w.1) in
                  subst (λ (q : Spun D). HadBefore state before 2 (2 + v.home) q) is (λ c im. old.home o.home was c (now_leaves back.parts.home.any_moment (sound n.home.inner) c im)))
                  (λ (other : k ≡ id → ⊥). old.home p (sym (w.2.others other) ∙ here))
                  (cases_eq k id);
              segments = λ i p here. segment_back k i y p now here
                  (λ was never. old.segments i p (sym (segment_in_image r.rest k w.0 w.1 i) ∙ was))
                  (λ part new was e f has fate same never.
                  subst (λ (q : Spun D). HadSegmentBefore state before (head_place (shape_in config v) i) (head_place (shape_in config v) (i + 1)) q) same
                  (kept_had state sound o.want.id before (head_place (shape_in config v) i) (head_place (shape_in config v) (i + 1)) part new told fate (had_at state config valid b said id r own ready lt at view away o takes t begun.cut k i v before part was e f conf there)));
            }

        gone : (k i : ℕ) (v : VolumeConf) (before : Image) (y : ImageRest D) → slice_get config.volumes.items k ≡ Some v → at_name v.name t.images ≡ Some before → image_here last.images.items k ≡ Some y → i < v.segments
            → ((p : Spun D) → IsSegmentHere last k i p → ⊥) → IsGone (length (shapes_of config)) (shape_in config v) before r.stations.items i
        gone k i v before y conf there now within none = ⊎_elim
            (λ has. by_fate has (fate_here k i has))
            (λ (never : Contains (map place_of o.owned.items) (k, i) → ⊥).
            let w = image_was k y now in
            begun.began.gone k i v before w.0 conf there w.1 within (nowhere state config valid b said id r own ready lt at k i (λ p is. none p (inl (y, now, sym (segment_in_image last k y now i) ∙ segment_other k i never ∙ is)))))
            (without.is_pair (map place_of o.owned.items) k i)
          where
            by_fate : Contains (map place_of o.owned.items) (k, i) → FateAt state o.want.id o.owned.items back.fates k i → IsGone (length (shapes_of config)) (shape_in config v) before r.stations.items i
            by_fate has (stayed part new in_os is in_kept at_new fate never) =
                absurd (none new.part (inl (y, now, sym (segment_in_image last k y now i) ∙ segment_kept new k i in_kept at_new)))
            by_fate has (went part f in_os is fate freed never) =
                let was = owned_in_image state config valid b said id r own ready lt at view away o takes part in_os in
                freed_gone state sound o.want.id (length (shapes_of config)) (shape_in config v) before r.stations.items i part f told fate
                (had_at state config valid b said id r own ready lt at view away o takes t begun.cut k i v before part was (ap (λ (q : ℕ × ℕ). q.0) is) (ap (λ (q : ℕ × ℕ). q.1) is) conf there)

        cut : AreStillCut state config t (id + 1) said last
        cut = record {
          says = begun.cut.says;
          homes = λ k v i y p le conf there now here.
              let w = image_was k y now in
              begun.cut.homes k v i w.0 p (omega (arith, le)) conf there w.1 (sym (w.2.others (λ e. omega (arith, le, e))) ∙ here);
          segments = λ owner k j v i own_k y p le conf there is head now here.
              let w = image_was k y now in
              let never : Contains (map place_of o.owned.items) (k, j) → ⊥ = λ has. let e = without.owner_of state config said id view r.rest away o takes owner k j (place_at k j owner own_k is head) has in omega (arith, le, e) in
              begun.cut.segments owner k j v i own_k w.0 p (omega (arith, le)) conf there is head w.1
              (sym (segment_in_image r.rest k w.0 w.1 j) ∙ sym (segment_other k j never) ∙ segment_in_image last k y now j ∙ here);
        }

        pub begun_again : HasBegun state config t said (id + 1) (next faults)
        begun_again = record {
          began = record {
            stations = without.stations_began state config r last out_back t begun.began;
            placed = without.stations_placed state config r last out_back t begun.began;
            left = left;
            held = λ w k i v before p conf there has. absurd (none_in (i, p) (subst (λ (l : List (ℕ × Spun D)). Contains l (i, p)) (held_none w k) has));
            gone = gone;
            pools = λ k v l y conf lock now.
                let w = image_was k y now in
                begun.began.pools k v l w.0 conf lock w.1;
          };
          cut = cut;
        }

      -- each fault has its cause
      pub refused_again : (faults : Vec (Option VolumeFault) Global) → faults.items ≡ set r.faults.items id (Some (volume_fault.Refused refusal)) → NamesVolumes (length (shapes_of config)) (volume_fault.Refused refusal)
          → (entry now : BayState) → (IsTrue tells → (t : Told) → entry.told ≡ Some t → HasBegun state config t said id r) → AreRefusedBelow tells state config entry now id r
          → AreRefusedBelow tells state config entry now (id + 1) (next faults)
      refused_again faults faults_are names entry now begun refused k v f or conf is = ⊎_elim
          (λ (e : k ≡ id).
          let same : volume_fault.Refused refusal ≡ f = same_Some (volume_fault.Refused refusal) f (sym (fault_own faults faults_are names) ∙ ap (fault_at faults.items) (sym e) ∙ is) in
          subst (λ (g : VolumeFault). RefusesVolume tells state config last.images.items entry now k v g) same (inr (record {
            is_out = ap (λ (j : ℕ). is_some (image_here last.images.items j)) e ∙ ap is_some (image_back id own_image.0 own_image.1).1;
            before = o;
            after = n;
            of = λ t telling told.
                let opening = opening_of state config valid b said id r own ready lt at view own_view away o takes t (begun telling t told).cut in
                subst (λ (j : ℕ). Rattle.rack.specs.Owners.IsOpeningOf state config last.images.items (images_taken config last.images.items t) j o) (sym e)
                (opening_too r.rest.images.items last.images.items (sym out_back) state config t id o opening);
            refuses = refuses;
          })))
          (λ (other : k ≡ id → ⊥).
          refuses_too r.rest.images.items last.images.items (sym out_back) tells state config entry now k v f
          (refused k v f (⊎_elim (λ (less : k < id + 1). ⊎_elim (λ (before : k < id). inl before) (λ (past : id ≤ k). absurd (other (omega (arith, past, less)))) (cases_lt k id)) (λ none. inr (none_was k none)) or)
          conf (sym (fault_other faults faults_are names k other) ∙ is)))
          (cases_eq k id)
        where
          own_image : (image : ImageRest D) × (image_here r.rest.images.items id ≡ Some image)
          own_image = image_id state config valid b said id r own ready lt at

      -- ---- A volume that was refused for a fault of a disk has a part with a fault here

      -- the refused volume
      own_fault : (p : Part) → refusal ≡ DiskFault p → HasFaultOf state said id p last
      own_fault p is = by p (subst (Refuses tells state o n) is refuses)
        where
          by : (p : Part) → Refuses tells state o n (DiskFault p) → HasFaultOf state said id p last
          by (Home volume) why =
              let own_image = image_id state config valid b said id r own ready lt at in
              let y = image_back id own_image.0 own_image.1 in
              record { part = n.home; here = inl (y.0, y.1, y.2.own refl, ap (λ (v : ℕ). Home v) (why.1 ∙ takes.id)); fault = above_zero _ _ why.2 }
          by (Segment volume index) why =
              let rose = why.1 in
              let kept : Contains (kept_of back.fates) rose.after = subst (λ (l : List (OwnedPart D)). Contains l rose.after) back.owned rose.is_there in
              let has = kept_owned state o.want.id o.owned.items back.fates back.parts.each rose.after kept in
              let was = owned_at rose.after.logger rose.after.index has in
              let place : IsOwnedPlace said id was.0.logger was.0.index = place_at was.0.logger was.0.index id was.1.saying was.1.said_is was.1.head in
              record {
                part = rose.after.part;
                here = inr (
                  rose.after.logger,
                  rose.after.index,
                  subst (λ (q : ℕ × ℕ). IsOwnedPlace said id q.0 q.1) (λ i. (was.2 i, was.3 i)) place,
                  segment_kept rose.after rose.after.logger rose.after.index kept refl,
                  λ i. Segment (rose.named.2 i) (rose.named.3 i),
                );
                fault = above_zero _ _ rose.rose;
              }

      -- another one
      other_fault : (k : ℕ) (p : Part) → k ≢ id → HasFaultOf state said k p r.rest → HasFaultOf state said k p last
      other_fault k p other had = record {
        part = had.part;
        here = ⊎_elim
            (λ home. let y = image_back k home.0 home.1 in inl (y.0, y.1, y.2.others other ∙ home.2, home.3))
            (λ segment.
            let never : Contains (map place_of o.owned.items) (segment.0, segment.1) → ⊥ = λ has. other (without.owner_of state config said id view r.rest away o takes k segment.0 segment.1 segment.2 has) in
            inr (segment.0, segment.1, segment.2, segment_other segment.0 segment.1 never ∙ segment.3, segment.4))
            had.here;
        fault = had.fault;
      }

      pub faults_again : (faults : Vec (Option VolumeFault) Global) → faults.items ≡ set r.faults.items id (Some (volume_fault.Refused refusal)) → NamesVolumes (length (shapes_of config)) (volume_fault.Refused refusal)
          → HaveFaults state said id r → HaveFaults state said (id + 1) (next faults)
      faults_again faults faults_are names have k p less out is = ⊎_elim
          (λ (e : k ≡ id).
          let same : volume_fault.Refused refusal ≡ volume_fault.Refused (DiskFault p) = same_Some (volume_fault.Refused refusal) (volume_fault.Refused (DiskFault p)) (sym (fault_own faults faults_are names) ∙ ap (fault_at faults.items) (sym e) ∙ is) in
          let why : refusal ≡ DiskFault p = cc same in
          subst (λ (j : ℕ). HasFaultOf state said j p last) (sym e) (own_fault p why))
          (λ (other : k ≡ id → ⊥).
          let before : k < id = ⊎_elim (λ (less : k < id). less) (λ (past : id ≤ k). absurd (other (omega (arith, past, less)))) (cases_lt k id) in
          other_fault k p other (have k p before (out_too last.images.items r.rest.images.items out_back k out) (sym (fault_other faults faults_are names k other) ∙ is)))
          (cases_eq k id)
