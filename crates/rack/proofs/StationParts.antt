-- A rack whose stations and pools are closed: its images are whole, the same ones are out, and the parts of a station are among them.
use Rattle.rack.proofs.ClosingBasics.{◌≡◌, ◌<◌, ◌≤◌, ℕ, suc, Bool, List, [], ◌∷◌, ◌++◌, length, get_or, Option, Some, None, is_some, option_map, refl, sym, ap, ◌∙◌, subst, arith, All, slice_get}
use Rattle.rack.proofs.ClosingBasics.{option_and_then, length-map, slice_get-get_or, ⊎_elim, map, AllByRecursion, Contains, IsTrue, cases_lt, get_or_past, All-contains}
use Rattle.rack.proofs.ClosingBasics.{slice_get_within, get_or_from_slice_get, slice_get-map}
use Rattle.rack.proofs.ClosingTerms.{State, Name, BayState, IsOut, Config, VolumeConf, lock_id, TurnLock, PoolBase, Pool, FreeSegment, part_sizes, shape_in, image_here, held_here, list_of}
use Rattle.rack.proofs.ClosingTerms.{IsImageOut, IsRow, IsRest, out_names, IsClosable, KeepsButHome, ClosesStations, RefillsAll, KeepsSpindles, KeepsOtherRows, LeavesNoneOut, without_all, ImageRest, Rack}
use Rattle.rack.proofs.ClosingTerms.{Rest, Block, IsImageOf, Shape, Record, Held, SaysOwnerOrFree, IsHeldBy, volume_of, state_of, Spun, part_of, IsHeld, logger_of, held_in, HeldSegment, Lane}
use Rattle.rack.proofs.ClosingTerms.{all_held, parts_of, IsReadyLane, Station, shapes_of, CanCloseStations, HasBack, AreComplete, Closing, IsClosing, home_here, IsOpenBase, base_of_station, IsStation}
use Rattle.rack.proofs.ClosingTerms.{segment_here, AreImageRests, IsDisk, TellsContent}
use Rattle.manager.proofs.Touched.{zip_get}
use Rattle.rack_parts.specs.Closing.{IsRefilledAll}
use Rattle.wol_model.specs.Index.{AreRising}
use Rattle.turn_lock.specs.Histories.{Entry}
use Rattle.wol_config.specs.Configs.{IsValid}
use Rattle.manager.specs.declared.manager.Manager.{Manager}
use Rattle.rack_parts.proofs.Members.{a_value, element_at, here_within, in_map, of_recursion}
use Rattle.rack_parts.proofs.Rising.{rising_at}
use Rattle.rack_parts.specs.declared.rack.VolumePasses.{VolumePasses}
use Rattle.rack.proofs.Closable.{stations_may, blocks_at, image_was, images_rest, images_whole}
use Rattle.rack.proofs.HeldSegments.{of_held}

-- what is at the place of an element that a list has
pub place_of : {X : Type 0} (xs : List X) (x : X) (has : Contains xs x) → slice_get xs has.0 ≡ Some x
place_of {X} xs x has = slice_get-get_or xs has.0 x has.1 ∙ ap (λ (y : X). Some y) has.2

-- stations of one number stand at one place
pub one_place : {D : Type 0} (ss : List (Station D)) → AreRising (map (λ (s : Station D). s.id) ss) → (s t : Station D) (x : Contains ss s) (y : Contains ss t) → s.id ≡ t.id → x.0 ≡ y.0
one_place {D} ss rising s t x y same =
    ⊎_elim
    (λ (less : x.0 < y.0). let rise = rising_at (map (λ (w : Station D). w.id) ss) rising x.0 y.0 s.id t.id less (id_at s x) (id_at t y) in absurd (omega (arith, rise, same)))
    (λ (le : y.0 ≤ x.0).
    ⊎_elim
    (λ (less : y.0 < x.0). let rise = rising_at (map (λ (w : Station D). w.id) ss) rising y.0 x.0 t.id s.id less (id_at t y) (id_at s x) in absurd (omega (arith, rise, same)))
    (λ (also : x.0 ≤ y.0). let e : x.0 ≡ y.0 = omega (arith, le, also) in e)
    (cases_lt y.0 x.0))
    (cases_lt x.0 y.0)
  where
    id_at : (u : Station D) (z : Contains ss u) → slice_get (map (λ (w : Station D). w.id) ss) z.0 ≡ Some u.id
    id_at u z = slice_get-map (λ (w : Station D). w.id) ss z.0 ∙ ap (option_map (λ (w : Station D). w.id)) (place_of ss u z)

-- the same names are out where the same images are
out_same : {D : Type 0} (config : Config) (vs : List VolumeConf) (xs ys : List (Option (ImageRest D))) → length xs ≡ length ys → ((k : ℕ) → is_some (image_here xs k) ≡ is_some (image_here ys k)) → out_names config vs xs ≡ out_names config vs ys
out_same config [] xs ys count same = refl
out_same config (v ∷ vs) [] [] count same = refl
out_same config (v ∷ vs) [] (y ∷ ys) count same = absurd (omega (arith, count))
out_same config (v ∷ vs) (x ∷ xs) [] count same = absurd (omega (arith, count))
out_same config (v ∷ vs) (None ∷ xs) (None ∷ ys) count same = out_same config vs xs ys (omega (arith, count)) (λ k. same (suc k))
out_same config (v ∷ vs) (Some x ∷ xs) (Some y ∷ ys) count same = ap (λ l. (v.name, part_sizes (shape_in config v)) ∷ l) (out_same config vs xs ys (omega (arith, count)) (λ k. same (suc k)))
out_same config (v ∷ vs) (None ∷ xs) (Some y ∷ ys) count same = let first = same 0 in absurd (cc first)
out_same config (v ∷ vs) (Some x ∷ xs) (None ∷ ys) count same = let first = same 0 in absurd (cc first)

-- all lists of lanes are empty
pub lists_ended : {D : Type 0} (volumes : ℕ) (cur new : Rest D) → length cur.passes.items ≡ volumes → All (λ p. IsRow volumes p) cur.passes.items → KeepsOtherRows cur new → ((v k : ℕ) → k < volumes → held_here cur v k ≡ [])
    → All (λ (p : VolumePasses D). All (λ list. list.items ≡ []) p.held.items) new.passes.items
lists_ended {D} volumes cur new count rows kept empty v d within k e below =
    let old : v < length cur.passes.items = omega (arith, within, kept.count) in
    let same : (get_or new.passes.items v d).held ≡ (get_or cur.passes.items v d).held = ap (λ (p : VolumePasses D). p.held) (kept.each v d old) in
    let below_old : k < length (get_or cur.passes.items v d).held.items = subst (λ h. k < length h.items) same below in
    let row = rows v d old in
    let list : held_here cur v k ≡ (get_or (get_or cur.passes.items v d).held.items k e).items =
    ap (λ (o : Option (VolumePasses D)). list_of (option_and_then (λ p. slice_get p.held.items k) o)) (slice_get-get_or cur.passes.items v d old) ∙ ap list_of (slice_get-get_or (get_or cur.passes.items v d).held.items k e below_old) in
    ap (λ h. (get_or h.items k e).items) same ∙ sym list ∙ empty v k (omega (arith, below_old, row.held))

module _ {D : Type 0} where
  butted : (o n : Option (ImageRest D)) → KeepsButHome o n → is_some n ≡ is_some o
  butted None n none = ap is_some none
  butted (Some r) None never = absurd never
  butted (Some r) (Some n) same = refl

  refilled : (state : D → State) (blocks : ℕ) (old : Rest D) (k : ℕ) (o n : Option (ImageRest D)) → RefillsAll state blocks old k o n → is_some n ≡ is_some o
  refilled state blocks old k None n none = ap is_some none
  refilled state blocks old k (Some r) n x = ap is_some x.1

-- A rack is closed: `first` is what is here of it once its stations are closed, and `second` once its pools are too.
pub record IsEnding {D : Type 0} (state : D → State) (tells : Bool) (config : Config) (b : BayState) (r : Rack D) (first second : Rest D) : Type 0 where
  pub valid : IsValid config
  pub tell_all : IsTrue tells → (d : D) → TellsContent (state d)
  pub sound : (d : D) → IsDisk (state d)
  pub can : IsClosable state config b r
  pub is : IsRest state config r.shared [] first
  pub closed : ClosesStations tells state r.stations.items r.rest first
  pub filled : (k : ℕ) (f : TurnLock (Pool (FreeSegment D)) PoolBase) → slice_get r.shared.pools.items k ≡ Some f → RefillsAll state (lock_id f).base.blocks first k (image_here first.images.items k) (image_here second.images.items k)
  pub kept : KeepsSpindles first second

pub ending_of : {D : Type 0} {state : D → State} {tells : Bool} {config : Config} {b : BayState} {r : Rack D} {first second : Rest D} → IsValid config → (IsTrue tells → (d : D) → TellsContent (state d)) → ((d : D) → IsDisk (state d))
    → IsClosable state config b r → (CanCloseStations state config r.shared r.stations.items r.rest → IsRest state config r.shared [] first) → ClosesStations tells state r.stations.items r.rest first
    → ((k : ℕ) (f : TurnLock (Pool (FreeSegment D)) PoolBase) → slice_get r.shared.pools.items k ≡ Some f → RefillsAll state (lock_id f).base.blocks first k (image_here first.images.items k) (image_here second.images.items k))
    → KeepsSpindles first second → IsEnding state tells config b r first second
ending_of valid tell_all sound can rests closed filled kept = record { valid = valid; tell_all = tell_all; sound = sound; can = can; is = rests (stations_may can); closed = closed; filled = filled; kept = kept }

module _ {D : Type 0} {state : D → State} {tells : Bool} {config : Config} {b : BayState} {r : Rack D} {first second : Rest D} (ending : IsEnding state tells config b r first second) where
  open ending use {valid, can, is, closed, filled, kept}

  pub few_volumes : length (shapes_of config) ≤ 64
  few_volumes = let n = length-map config.volumes.items (shape_in config) in omega (arith, n, valid.count.1)

  -- ---- The images

  second_out : (k : ℕ) → is_some (image_here second.images.items k) ≡ is_some (image_here first.images.items k)
  second_out k =
      ⊎_elim
      (λ (less : k < length first.images.items).
      let f = element_at r.shared.pools.items k (omega (arith, less, is.parts.images.0, can.locks.pool_count)) in
      refilled state (lock_id f.0).base.blocks first k (image_here first.images.items k) (image_here second.images.items k) (filled k f.0 f.1))
      (λ (past : length first.images.items ≤ k).
      ap is_some (get_or_past second.images.items k None (omega (arith, past, kept.image_count))) ∙ sym (ap is_some (get_or_past first.images.items k None past)))
      (cases_lt k (length first.images.items))

  -- the same images are out
  pub same_out : (k : ℕ) → is_some (image_here second.images.items k) ≡ is_some (image_here r.rest.images.items k)
  same_out k = second_out k ∙ butted (image_here r.rest.images.items k) (image_here first.images.items k) (closed.images k)

  names_are : out_names config config.volumes.items second.images.items ≡ out_names config config.volumes.items r.rest.images.items
  names_are = out_same config config.volumes.items second.images.items r.rest.images.items (kept.image_count ∙ is.parts.images.0 ∙ sym can.rest.parts.images.0) same_out

  pub none_out : (old new : Option (List (Name × List ℕ))) → LeavesNoneOut config second.images.items old new → LeavesNoneOut config r.rest.images.items old new
  none_out old new left = record {
    gone = left.gone ∙ ap (λ (l : List (Name × List ℕ)). option_map (without_all l) old) names_are;
    again = λ before away are. left.again before away (are ∙ ap (λ (l : List (Name × List ℕ)). option_map (λ os. os ++ l) before) (sym names_are));
  }

  pub few : length second.images.items ≤ length config.volumes.items
  few = let n = length-map config.volumes.items (shape_in config) in omega (arith, n, kept.image_count, is.parts.images.0)

  pub out_there : (k : ℕ) (v : VolumeConf) → slice_get config.volumes.items k ≡ Some v → IsImageOut second.images.items k → IsOut v.name (part_sizes (shape_in config v)) b
  out_there k v at out = (can.out k v at).0 (sym (same_out k) ∙ out)

  -- an image that was out at closing is there at the end
  pub image_end : (k : ℕ) → IsImageOut r.rest.images.items k → (q : ImageRest D) × (image_here second.images.items k ≡ Some q)
  image_end k out = a_value (image_here second.images.items k) (same_out k ∙ out)

  pub shape_of_image : (k : ℕ) (q : ImageRest D) → image_here second.images.items k ≡ Some q → (z : Shape) × (slice_get (shapes_of config) k ≡ Some z)
  shape_of_image k q here =
      let within = here_within second.images.items k q here in
      element_at (shapes_of config) k (omega (arith, within, kept.image_count, is.parts.images.0))

  pub was_there : (k : ℕ) (n : ImageRest D) → image_here second.images.items k ≡ Some n → (m : ImageRest D) × (image_here first.images.items k ≡ Some m) × IsRefilledAll state (blocks_at can.locks is second kept.image_count filled k) first k m n
  was_there = image_was can.locks is second kept.image_count filled

  pub whole_end : AreComplete second.images.items
  whole_end = images_whole can.locks is second kept.image_count filled

  pub rests_end : AreImageRests state config second.images.items
  rests_end = images_rest can.locks is second kept.image_count filled

  -- each of its segments is there, and no more
  pub segment_end : (k i : ℕ) (z : Shape) (q : ImageRest D) → slice_get (shapes_of config) k ≡ Some z → image_here second.images.items k ≡ Some q → i < z.segments → (p : Spun D) × (segment_here q i ≡ Some p)
  segment_end k i z q at here within = let rest = rests_end.1 k z q at here in a_value (segment_here q i) ((whole_end k q here).segments i (omega (arith, within, rest.count)))

  pub index_within : (k i : ℕ) (z : Shape) (q : ImageRest D) (p : Spun D) → slice_get (shapes_of config) k ≡ Some z → image_here second.images.items k ≡ Some q → segment_here q i ≡ Some p → i < z.segments
  index_within k i z q p at here there = let rest = rests_end.1 k z q at here in let within = here_within q.segments.items i p there in omega (arith, within, rest.count)

  -- ---- The stations

  -- a station is one of those of the rack
  pub among : (j : ℕ) (t : Station D) → slice_get r.stations.items j ≡ Some t → Contains r.stations.items t
  among j t at = (j, slice_get_within r.stations.items j t at, get_or_from_slice_get r.stations.items j t t at)

  pub is_base : (t : Station D) → Contains r.stations.items t → IsOpenBase config r.shared r.rest.images.items (base_of_station t)
  is_base t has = All-contains (λ u. IsOpenBase config r.shared r.rest.images.items (base_of_station u)) r.stations.items t can.bases has

  pub is_station : (t : Station D) → Contains r.stations.items t → IsStation t
  is_station t has = All-contains (λ u. IsStation u) r.stations.items t can.stations has

  -- how a station's lock was closed
  pub closing_of : (s : Station D) (has : Contains r.stations.items s) → (c : Closing D) × (slice_get closed.closings has.0 ≡ Some c) × IsClosing tells state first s c
  closing_of s has = zip_get (IsClosing tells state first) r.stations.items closed.closings has.0 s closed.each (place_of r.stations.items s has)

  abbrev pub manager_of : (s : Station D) → Contains r.stations.items s → Manager D
  manager_of s has = (closing_of s has).0.manager

  abbrev pub entries_of_station : (s : Station D) → Contains r.stations.items s → List Entry
  entries_of_station s has = (closing_of s has).0.entries

  pub id_of : (s : Station D) (has : Contains r.stations.items s) → (base_of_station s).volume.began.owner ≡ s.id
  id_of s has = (is_station s has).id

  module _ (s : Station D) (has : Contains r.stations.items s) where
    abbrev c : Closing D
    c = (closing_of s has).0

    abbrev owner : ℕ
    owner = (base_of_station s).volume.began.owner

    pub is_closing : IsClosing tells state first s c
    is_closing = (closing_of s has).2

    -- home
    pub home_there : (q : ImageRest D) × (image_here second.images.items owner ≡ Some q) × (q.home ≡ Some c.manager.home)
    home_there =
        let q = image_end owner (is_base s has).out in
        let was = was_there owner q.0 q.1 in
        let here : home_here first owner ≡ Some c.manager.home = ap (λ k. home_here first k) (id_of s has) ∙ is_closing.home in
        (q.0, q.1, was.2.same.home ∙ sym (ap (λ (o : Option (ImageRest D)). option_and_then (λ m. m.home) o) was.1) ∙ here)

    pub in_view : (l : Lane D) → Contains c.manager.lanes.items l → Contains (base_of_station s).volume.began.view (logger_of l)
    in_view l in_lanes = subst (λ xs. Contains xs (logger_of l)) is_closing.stands.keeps.locks.view (in_map logger_of c.manager.lanes.items l in_lanes)

    -- a segment of a lane
    pub lane_there : (l : Lane D) (h : HeldSegment D) → Contains c.manager.lanes.items l → Contains (held_in l) h
        → (volume_of (part_of h.segment) ≡ logger_of l) × (q : ImageRest D) × (image_here second.images.items (logger_of l) ≡ Some q) × (segment_here q h.index ≡ Some (part_of h.segment))
    lane_there l h in_lanes in_held =
        let lane = of_recursion (IsReadyLane state c.manager.id c.manager.most) c.manager.lanes.items l is_closing.stands.keeps.ready.ready.each in_lanes in
        let held = of_recursion (IsHeld state (logger_of l) (Rattle.logger.specs.Lanes.lane_owner l) (Rattle.logger.specs.Lanes.segments_in l) l.pool) (held_in l) h lane.lane.each in_held in
        let q = image_end (logger_of l) (of_recursion (IsImageOut r.rest.images.items) (base_of_station s).volume.began.view (logger_of l) (is_base s has).loggers_out (in_view l in_lanes)) in
        let back = All-contains (HasBack first s.id) c.manager.lanes.items l is_closing.back in_lanes in
        let in_list : Contains (held_here first s.id (logger_of l)) (h.index, part_of h.segment)
        = subst (λ xs. Contains xs (h.index, part_of h.segment)) (sym back.held) (in_map (λ (g : HeldSegment D). (g.index, part_of g.segment)) (held_in l) h in_held) in
        (held.volume, q.0, q.1, (was_there (logger_of l) q.0 q.1).2.back s.id h.index (part_of h.segment) in_list)

    -- what holds of each segment that the manager is seen to hold holds of each of each lane
    pub of_seen : (P : Held (Spun D) → Type 0) (Q : Type 0) → AllByRecursion P (all_held 0 c.manager.lanes.items is_closing.stands.keeps.logs) → (l : Lane D) (h : HeldSegment D) → Contains c.manager.lanes.items l → Contains (held_in l) h
        → ((i : ℕ) (rs : List Record) (broken : Bool) → P (record { part = part_of h.segment; lane = i; index = h.index; broken = broken; records = rs }) → Q) → Q
    of_seen P Q all l h in_lanes in_held = of_held P Q 0 c.manager.lanes.items is_closing.stands.keeps.logs (λ g rs. IsTrue tells → c.manager.down ≡ None → Rattle.log_segment.specs.Segment.Holds state g.segment rs) is_closing.stands.keeps.held all l h in_lanes in_held

    -- it says that it is the volume's, or free
    pub says_owner : IsTrue tells → (l : Lane D) (h : HeldSegment D) → Contains c.manager.lanes.items l → Contains (held_in l) h → (bs : List Block) → IsImageOf (state_of state (part_of h.segment)).values bs → SaysOwnerOrFree owner bs
    says_owner told l h in_lanes in_held bs is_image =
        of_seen (IsHeldBy (parts_of tells state) (base_of_station s).volume.began) (SaysOwnerOrFree owner bs) is_closing.stands.keeps.upholds.places.each l h in_lanes in_held (λ i rs broken x. x.owned bs (told, is_image))
