-- What closing a rack does step by step. `state` is that of a part's disk.
use Rattle.std.specs.Prelude.{false, ◌≡◌, ◌≢◌, ◌<◌, ◌≤◌, ◌+◌, ◌++◌, ◌⊎◌, ℕ, Bool, List, [], ◌∷◌, length, map, reverse, vec_capacity, Option, None, Some, IsSome, IfSome, option_map, option_and_then, slice_get, slice_index_or, All, Contains}
use Rattle.std.specs.List.{AllByRecursion, AllZip}
use Rattle.std.specs.Option.{option_map_or}
use Rattle.wol_disk.specs.Disk.{Block, Values, State, Rose}
use Rattle.wol_model.specs.Blocks.{AreApart}
use Rattle.wol_model.specs.Heads.{Shape}
use Rattle.wol_model.specs.Journal.{Needed, Done}
use Rattle.wol_bay.specs.Bay.{Name, Told, BayState, at_name, came_back, without}
use Rattle.wol_bay.specs.Parts.{blocks_of, faulty_places}
use Rattle.wol_config.specs.declared.config.Config.{Config}
use Rattle.wol_config.specs.declared.config.VolumeConf.{VolumeConf}
use Rattle.turn_lock.specs.Histories.{Entry, own}
use Rattle.turn_lock.specs.Passes.{lock_id, lock_passes, pass_number, pass_mine, IsPartOf, AreWhole, IsPassAt}
use Rattle.turn_lock.specs.declared.lock.TurnLock.{TurnLock}
use Rattle.turn_lock.specs.declared.pass.PassOf.{PassOf}
use Rattle.spin_model.specs.Operations.{has_token, use_of}
use Rattle.spin_model.specs.Spindles.{SpindleView, StandsFor}
use Rattle.spin_model.specs.declared.spun.Spun.{Spun}
use Rattle.spin_model.specs.declared.spindle.Spindle.{Spindle}
use Rattle.spin_model.specs.declared.spindle.SpindleBase.{SpindleBase}
use Rattle.seg_pool.specs.Holders.{holder, ArePoolUses}
use Rattle.seg_pool.specs.Operations.{uses_of}
use Rattle.seg_pool.specs.declared.base.Holder.TheVariants.{Elsewhere, HeldBy}
use Rattle.seg_pool.specs.declared.base.PoolBase.{PoolBase}
use Rattle.seg_pool.specs.declared.pool.Pool.{Pool}
use Rattle.log_segment.specs.declared.free.FreeSegment.{FreeSegment}
use Rattle.logger.specs.Lanes.{AreAccesses}
use Rattle.logger.specs.declared.shared.Shared.{Shared}
use Rattle.manager.specs.Stands.{StandsCoded}
use Rattle.manager.specs.declared.manager.Manager.{Manager}
use Rattle.manager.specs.declared.station.Station.{Station}
use Rattle.volume_images.specs.Volumes.{shapes_of}
use Rattle.rack_parts.specs.Rests.{image_here, segment_here, pool_pass, spindle_pass, held_here, indexes_here, away_with, IsImageOut, IsPoolLock, IsRow, IsImageRest, IsPart, IsHeldHere, IsHolding, AreLocks, OnlyAccess, IsRest, IsSpindleAway, out_names}
use Rattle.wol_model.specs.Index.{AreRising}
use Rattle.rack_parts.specs.Racks.{base_of_station, IsOpenBase, IsStation}
use Rattle.rack_parts.specs.Parts.{IsSameBut, IsTogether, IsBlankPart, HasBack, KeepsPlace, KeepsRows, KeepsImage, segment_in}
use Rattle.rack_parts.specs.declared.rack.ImageRest.{ImageRest}
use Rattle.rack_parts.specs.declared.rack.Rest.{Rest}
use Rattle.rack_parts.specs.declared.rack.VolumePasses.{VolumePasses}

-- the entries of a pass that is here
abbrev pub entries_made : {T B : Type 0} → Option (PassOf T B) → List Entry
entries_made {T} {B} p = option_map_or (λ (q : PassOf T B). pass_mine q) p []

-- ---- Stations

module _ {D : Type 0} where
  -- the home that is here of the image of volume k
  abbrev pub home_here : Rest D → (k : ℕ) → Option (Spun D)
  home_here r k = option_and_then (λ i. i.home) (image_here r.images.items k)

-- a station's lock was closed: what its manager was, and all entries
pub record Closing (D : Type 0) : Type 0 where
  pub manager : Manager D
  pub entries : List Entry

-- it stood for all entries of its passes, and its parts and passes are here
pub record IsClosing {D : Type 0} (tells : Bool) (state : D → State) (r : Rest D) (s : Station D)
    (c : Closing D) : Type 0 where
  pub stands : StandsCoded tells state c.manager (base_of_station s) c.entries
  pub whole : AreWhole c.entries (s.worker ∷ s.helper ∷ s.keeper ∷ [])
  pub home : home_here r s.id ≡ Some c.manager.home
  pub spindle : spindle_pass r s.id s.id ≡ Some c.manager.spindle
  pub back : All (HasBack r s.id) c.manager.lanes.items

-- at most a home came to an image that is out
abbrev pub KeepsButHome : {D : Type 0} → (old new : Option (ImageRest D)) → Type 0
KeepsButHome None new = new ≡ None
KeepsButHome (Some r) None = ⊥
KeepsButHome (Some r) (Some n) = n ≡ record r { home = n.home }

-- one station was closed, and nothing else came back
pub record ClosesStation {D : Type 0} (tells : Bool) (state : D → State) (s : Station D)
    (old new : Rest D) : Type 0 where
  pub closing : Closing D
  pub closed : IsClosing tells state new s closing
  pub images : (k : ℕ)
      → KeepsButHome (image_here old.images.items k) (image_here new.images.items k)
  pub homes : (k : ℕ) → k ≢ s.id → home_here new k ≡ home_here old k
  pub places : (w k : ℕ) → w ≢ s.id → KeepsPlace old new w k
  pub held : (v k : ℕ) → (Contains (away_with (base_of_station s ∷ [])).lanes (v, k) → ⊥)
      → held_here new v k ≡ held_here old v k
  pub pools : (v k : ℕ) → (Contains (away_with (base_of_station s ∷ [])).lanes (v, k) → ⊥)
      → pool_pass new v k ≡ pool_pass old v k
  pub spindles : (v k : ℕ) → (IsSpindleAway (away_with (base_of_station s ∷ [])) v k → ⊥)
      → spindle_pass new v k ≡ spindle_pass old v k

-- each station was closed, and nothing else came back
pub record ClosesStations {D : Type 0} (tells : Bool) (state : D → State)
    (stations : List (Station D)) (old new : Rest D) : Type 0 where
  pub closings : List (Closing D)
  pub each : AllZip (IsClosing tells state new) stations closings
  pub images : (k : ℕ)
      → KeepsButHome (image_here old.images.items k) (image_here new.images.items k)
  pub homes : (k : ℕ) → (Contains (map (λ (s : Station D). s.id) stations) k → ⊥)
      → home_here new k ≡ home_here old k
  pub held : (v k : ℕ) → (Contains (away_with
      (map (λ (s : Station D). base_of_station s) stations)).lanes (v, k) → ⊥)
      → held_here new v k ≡ held_here old v k
  pub pools : (v k : ℕ) → (Contains (away_with
      (map (λ (s : Station D). base_of_station s) stations)).lanes (v, k) → ⊥)
      → pool_pass new v k ≡ pool_pass old v k
  pub spindles : (v k : ℕ) → (IsSpindleAway
      (away_with (map (λ (s : Station D). base_of_station s) stations)) v k → ⊥)
      → spindle_pass new v k ≡ spindle_pass old v k

-- stations whose managers have what is away
pub record CanCloseStations {D : Type 0} (state : D → State) (config : Config) (shared : Shared D)
    (stations : List (Station D)) (r : Rest D) : Type 0 where
  pub each : All (λ s. IsStation s) stations
  pub rising : AreRising (map (λ (s : Station D). s.id) stations)
  pub bases : All (λ s. IsOpenBase config shared r.images.items (base_of_station s)) stations
  pub locks : AreLocks config shared
  pub rest : IsRest state config shared (map (λ (s : Station D). base_of_station s) stations) r
  pub accesses : OnlyAccess r

-- ---- Pools

-- the pool of volume k, whose lock is this, has all its passes, and each of its segments is in one
-- place
pub record CanClosePool {D : Type 0} (state : D → State) (volumes k : ℕ) (s : Shape)
    (l : TurnLock (Pool (FreeSegment D)) PoolBase) (r : Rest D) : Type 0 where
  pub lock : IsPoolLock volumes k s l
  pub count : length r.passes.items ≡ volumes
  pub rows : All (λ p. IsRow volumes p) r.passes.items
  pub below : k < volumes
  pub image_count : length r.images.items ≡ volumes
  pub passes : (v : ℕ) → v < volumes
      → (p : PassOf (Pool (FreeSegment D)) PoolBase) × (pool_pass r v k ≡ Some p) × IsPassAt l v p
  pub image : (i : ImageRest D) → image_here r.images.items k ≡ Some i → IsImageRest state k s i
  pub known : (i : ℕ) (n : ImageRest D) → image_here r.images.items k ≡ Some n
      → i < length n.segments.items → holder (lock_id l).base.holders i ≢ Elsewhere
  pub known_passes : (i n : ℕ) → holder (lock_id l).base.holders i ≡ HeldBy n → n < volumes
  pub here : (i : ℕ) (n : ImageRest D) → image_here r.images.items k ≡ Some n
      → i < length n.segments.items → (IsSome (segment_here n i) → IsHeldHere r k i)
      × (IsHeldHere r k i → IsSome (segment_here n i))
  pub others : (i : ℕ) → image_here r.images.items k ≡ None
      → holder (lock_id l).base.holders i ≡ Elsewhere
  pub held : (v i : ℕ) → Contains (indexes_here r v k) i → IsHolding r v k i
  pub once : (v : ℕ) → AreApart (indexes_here r v k)
  pub parts : (v : ℕ)
      → All (λ (h : ℕ × Spun D). IsPart state k s.segment_blocks h.1) (held_here r v k)
  pub out : (v : ℕ) → image_here r.images.items k ≡ None → held_here r v k ≡ []

-- it was closed with these entries, each use of which could be made where it stands, and the entries
-- of a volume are the ones that its pass made
pub record IsClosedPool {D : Type 0} (l : TurnLock (Pool (FreeSegment D)) PoolBase) (r : Rest D)
    (k : ℕ) (entries : List Entry) : Type 0 where
  pub legal : ArePoolUses (lock_id l).base.holders (uses_of entries)
  pub made : (n : ℕ) → own n entries ≡ entries_made (pool_pass r n k)

-- all of the image of volume k is here: what was, what came back with lanes, and blank segments
-- from the pool
pub record IsRefilledAll {D : Type 0} (state : D → State) (blocks : ℕ) (old : Rest D) (k : ℕ)
    (r n : ImageRest D) : Type 0 where
  pub same : IsSameBut r n
  pub all : (i : ℕ) → i < length n.segments.items → IsSome (segment_here n i)
  pub kept : (i : ℕ) (p : Spun D) → segment_here r i ≡ Some p → segment_here n i ≡ Some p
  pub back : (v i : ℕ) (p : Spun D) → Contains (held_here old v k) (i, p)
      → segment_here n i ≡ Some p
  pub only : (i : ℕ) (p : Spun D) → segment_here n i ≡ Some p
      → (segment_here r i ≡ Some p)
      ⊎ (((v : ℕ) × Contains (held_here old v k) (i, p)) ⊎ IsBlankPart state k blocks p)

abbrev pub RefillsAll : {D : Type 0} → (D → State) → (blocks : ℕ) → (old : Rest D) → (k : ℕ)
    → (before after : Option (ImageRest D)) → Type 0
RefillsAll state blocks old k None after = after ≡ None
RefillsAll {D} state blocks old k (Some r) after =
    (n : ImageRest D) × (after ≡ Some n) × IsRefilledAll state blocks old k r n

-- the segments of volume k that came back with lanes may go to their places, where its image is
-- out, and there are none where it isn't
pub record CanPutAllHeld {D : Type 0} (r : Rest D) (k : ℕ) : Type 0 where
  pub volumes : ℕ
  pub rows : All (λ p. IsRow volumes p) r.passes.items
  pub within : (k < volumes) × (k < length r.images.items)
  pub indexes : (v i : ℕ) (n : ImageRest D) → image_here r.images.items k ≡ Some n
      → Contains (indexes_here r v k) i → (i < length n.segments.items) × (segment_here n i ≡ None)
  pub once : (v : ℕ) → AreApart (indexes_here r v k)
  pub apart : (v w i : ℕ) → v ≢ w → Contains (indexes_here r v k) i
      → Contains (indexes_here r w k) i → ⊥
  pub out : (v : ℕ) → image_here r.images.items k ≡ None → held_here r v k ≡ []

-- they are there
pub record PutsAllHeld {D : Type 0} (old new : Rest D) (k : ℕ) : Type 0 where
  pub rooms : new.rooms ≡ old.rooms
  pub rows : KeepsRows old new
  pub count : length new.images.items ≡ length old.images.items
  pub image : KeepsImage (image_here old.images.items k) (image_here new.images.items k)
  pub images : (j : ℕ) → j ≢ k → image_here new.images.items j ≡ image_here old.images.items j
  pub back : (v i : ℕ) (p : Spun D) → Contains (held_here old v k) (i, p)
      → segment_in new k i ≡ Some p
  pub others : (i : ℕ) → ((v : ℕ) → Contains (indexes_here old v k) i → ⊥)
      → segment_in new k i ≡ segment_in old k i
  pub held : (v : ℕ) → held_here new v k ≡ []
  pub held_others : (v j : ℕ) → j ≢ k → held_here new v j ≡ held_here old v j
  pub pools : (v j : ℕ) → pool_pass new v j ≡ pool_pass old v j
  pub spindles : (v j : ℕ) → spindle_pass new v j ≡ spindle_pass old v j

-- what there is of the log of volume k is as it was
pub record KeepsLogger {D : Type 0} (old new : Rest D) (k : ℕ) : Type 0 where
  pub image : image_here new.images.items k ≡ image_here old.images.items k
  pub pools : (v : ℕ) → pool_pass new v k ≡ pool_pass old v k
  pub held : (v : ℕ) → held_here new v k ≡ held_here old v k

-- the rows are as many, and the passes of spindles as they were
pub record KeepsSpindles {D : Type 0} (old new : Rest D) : Type 0 where
  pub count : length new.passes.items ≡ length old.passes.items
  pub image_count : length new.images.items ≡ length old.images.items
  pub rows : (n : ℕ) → All (λ p. IsRow n p) old.passes.items → All (λ p. IsRow n p) new.passes.items
  pub spindles : (v k : ℕ) → spindle_pass new v k ≡ spindle_pass old v k

-- the rows of passes are as many, and all but the passes of spindles is as it was
pub record KeepsOtherRows {D : Type 0} (old new : Rest D) : Type 0 where
  pub count : length new.passes.items ≡ length old.passes.items
  pub each : (v : ℕ) (d : VolumePasses D) → v < length old.passes.items
      → slice_index_or new.passes.items v d
      ≡ record (slice_index_or old.passes.items v d)
      { spindles = (slice_index_or new.passes.items v d).spindles }

-- the first pools have all their passes, and there is room to close them
pub record CanClosePools {D : Type 0} (state : D → State) (config : Config)
    (locks : List (TurnLock (Pool (FreeSegment D)) PoolBase)) (r : Rest D) : Type 0 where
  pub few : length locks ≤ length (shapes_of config)
  pub each : (k : ℕ) (s : Shape) (l : TurnLock (Pool (FreeSegment D)) PoolBase)
      → slice_get (shapes_of config) k ≡ Some s → slice_get locks k ≡ Some l
      → CanClosePool state (length (shapes_of config)) k s l r
  pub room_count : length r.rooms.pools.items ≡ length locks
  pub rooms : All (λ row. (row.items ≡ []) × (length (shapes_of config) ≤ vec_capacity row))
      r.rooms.pools.items

-- ---- Passes that are gathered

module _ {D : Type 0} where
  -- the pass of a volume's row at the pool of volume k
  abbrev pub pool_in : VolumePasses D → (k : ℕ) → Option (PassOf (Pool (FreeSegment D)) PoolBase)
  pool_in p k = slice_index_or p.pools.items k None

  -- this pass went from the row
  pub record IsPoolTaken (k : ℕ) (old new : VolumePasses D)
      (p : PassOf (Pool (FreeSegment D)) PoolBase) : Type 0 where
    pub there : pool_in old k ≡ Some p
    pub others : (j : ℕ) → j ≢ k → pool_in new j ≡ pool_in old j
    pub count : length new.pools.items ≡ length old.pools.items
    pub spindles : new.spindles ≡ old.spindles
    pub held : new.held ≡ old.held

  -- one went from each row, in order
  pub record ArePoolsTaken (k : ℕ) (old new : List (VolumePasses D))
      (ps : List (PassOf (Pool (FreeSegment D)) PoolBase)) : Type 0 where
    pub count : length new ≡ length old
    pub taken : length ps ≡ length old
    pub each : (v : ℕ) (d : VolumePasses D) (e : PassOf (Pool (FreeSegment D)) PoolBase)
        → v < length old
        → IsPoolTaken k (slice_index_or old v d) (slice_index_or new v d) (slice_index_or ps v e)

  -- the pass of a volume's row at the spindle of volume k
  abbrev pub spindle_in : VolumePasses D → (k : ℕ) → Option (PassOf Spindle SpindleBase)
  spindle_in p k = slice_index_or p.spindles.items k None

  -- this pass went from the row
  pub record IsSpindleTaken (k : ℕ) (old new : VolumePasses D) (p : PassOf Spindle SpindleBase) :
      Type 0 where
    pub there : spindle_in old k ≡ Some p
    pub others : (j : ℕ) → j ≢ k → spindle_in new j ≡ spindle_in old j
    pub rest : new ≡ record old { spindles = new.spindles }

  -- one went from each row, in order
  pub record AreSpindlesTaken (k : ℕ) (old new : List (VolumePasses D))
      (ps : List (PassOf Spindle SpindleBase)) : Type 0 where
    pub count : length new ≡ length old
    pub taken : length ps ≡ length old
    pub each : (v : ℕ) (d : VolumePasses D) (e : PassOf Spindle SpindleBase) → v < length old
        → IsSpindleTaken k (slice_index_or old v d) (slice_index_or new v d) (slice_index_or ps v e)

-- ---- Spindles

-- of another pass the entry is one of an access
abbrev pub IsAccessBut : (keeper : ℕ) → Entry → Type 0
IsAccessBut keeper e = e.0 ≢ keeper → (use_of e.1 ≡ Needed) ⊎ (use_of e.1 ≡ Done)

-- the spindle stands for all entries of its lock, among which are those of its keeper
pub record StandsForAll (l : TurnLock Spindle SpindleBase) (keeper : PassOf Spindle SpindleBase)
    (s : SpindleView) : Type 0 where
  pub entries : List Entry
  pub stands : StandsFor s (lock_id l).base entries
  pub keeper_part : IsPartOf entries keeper
  -- each entry of another pass is one of an access
  pub accesses : AllByRecursion (IsAccessBut (pass_number keeper)) entries
  -- and none has an access open at the end
  pub ended : (n : ℕ) → n ≢ pass_number keeper → has_token (own n entries) ≡ false

-- so does that of volume k, and the entries of a volume are the ones that its pass made
pub record StandsClosed {D : Type 0} (r : Rest D) (k : ℕ) (l : TurnLock Spindle SpindleBase)
    (keeper : PassOf Spindle SpindleBase) (s : SpindleView) : Type 0 where
  pub whole : StandsForAll l keeper s
  pub open whole use *
  pub made : (n : ℕ) → n ≢ pass_number keeper → own n entries ≡ entries_made (spindle_pass r n k)

-- the passes of the lock of spindle k: one in each row, and the keeper's
pub record HasSpindlePasses {D : Type 0} (r : Rest D) (k : ℕ) (l : TurnLock Spindle SpindleBase)
    (keeper : PassOf Spindle SpindleBase) : Type 0 where
  pub count : lock_passes l ≡ length r.passes.items + 1
  pub each : (v : ℕ) → v < length r.passes.items
      → (p : PassOf Spindle SpindleBase) × (spindle_pass r v k ≡ Some p) × IsPassAt l v p
  pub keeper_ : IsPassAt l (length r.passes.items) keeper
  pub accesses : (v : ℕ) (p : PassOf Spindle SpindleBase) → spindle_pass r v k ≡ Some p
      → AreAccesses (pass_mine p)
  pub settled : (v : ℕ) (p : PassOf Spindle SpindleBase) → spindle_pass r v k ≡ Some p
      → has_token (pass_mine p) ≡ false

-- the first spindles have all their passes, and there is room to close them
pub record CanCloseSpindles {D : Type 0} (locks : List (TurnLock Spindle SpindleBase))
    (keepers : List (PassOf Spindle SpindleBase)) (r : Rest D) : Type 0 where
  pub keeper_count : length keepers ≡ length locks
  pub passes : (k : ℕ) (l : TurnLock Spindle SpindleBase) (p : PassOf Spindle SpindleBase)
      → slice_get locks k ≡ Some l → slice_get keepers k ≡ Some p → HasSpindlePasses r k l p
  pub room_count : length r.rooms.spindles.items ≡ length locks
  pub rooms : All (λ row. (row.items ≡ []) × (length r.passes.items + 1 ≤ vec_capacity row))
      r.rooms.spindles.items
  pub closed : length r.rooms.closed.items + length locks ≤ vec_capacity r.rooms.closed

-- the closed spindles, the last first
pub record AreClosed {D : Type 0} (r : Rest D) (locks : List (TurnLock Spindle SpindleBase))
    (keepers : List (PassOf Spindle SpindleBase)) (closed : List SpindleView) : Type 0 where
  pub count : length closed ≡ length locks
  pub each : (k : ℕ) (l : TurnLock Spindle SpindleBase) (p : PassOf Spindle SpindleBase)
      (s : SpindleView) → slice_get locks k ≡ Some l → slice_get keepers k ≡ Some p
      → slice_get (reverse closed) k ≡ Some s → StandsClosed r k l p s

-- ---- Images that go back

module _ {D : Type 0} where
  -- all parts of the image are here
  pub record IsComplete (r : ImageRest D) : Type 0 where
    pub home : IsSome r.home
    pub segments : (i : ℕ) → i < length r.segments.items → IsSome (segment_here r i)

  abbrev pub AreComplete : List (Option (ImageRest D)) → Type 0
  AreComplete images = (k : ℕ) (r : ImageRest D) → image_here images k ≡ Some r → IsComplete r

-- the image of this name came back with its parts, where it was out
abbrev pub IsImageBack : {D : Type 0} → (D → State) → Name → Option (ImageRest D)
    → (old new : BayState) → Type 0
IsImageBack state name None old new = (new.told ≡ old.told) × (new.faults ≡ old.faults)
IsImageBack {D} state name (Some r) old new =
    (disks : List D) × IsTogether r disks
    × (new.told ≡ option_map (came_back name (blocks_of state disks) (faulty_places state disks))
    old.told)
    × (faulty_places state disks ≢ [] → Rose old.faults new.faults) × (old.faults ≤ new.faults)

-- the entries without those of these names
abbrev pub without_all : {A B : Type 0} → (gone : List (Name × B)) → List (Name × A)
    → List (Name × A)
without_all [] es = es
without_all (n ∷ ns) es = without n.0 (without_all ns es)

-- The names that went out for these images aren't out any more, and all others are as they were;
-- where nothing was told nothing is.
pub record LeavesNoneOut {D : Type 0} (config : Config) (images : List (Option (ImageRest D)))
    (old new : Option (List (Name × List ℕ))) : Type 0 where
  pub gone : new ≡ option_map (without_all (out_names config config.volumes.items images)) old
  -- where none of the configuration was out before them, those are out that were out then
  pub again : (before : Option (List (Name × List ℕ)))
      → IfSome before
      (λ os. All (λ (v : VolumeConf). at_name v.name os ≡ None) config.volumes.items)
      → old ≡ option_map (λ os. os ++ out_names config config.volumes.items images) before
      → new ≡ before

-- an image is in the bay with the blocks of its parts, and those with a fault are among these
pub record IsStoredAs {D : Type 0} (state : D → State) (name : Name) (r : ImageRest D)
    (more : List (Name × ℕ)) (new : Told) : Type 0 where
  pub disks : List D
  pub together : IsTogether r disks
  pub stored : (vs : List (Values Block)) → blocks_of state disks ≡ Some vs
      → at_name name new.images ≡ Some (record { blocks = vs; rest = [] })
  pub faulty : (place : ℕ) → Contains (faulty_places state disks) place
      → Contains more (name, place)

-- From this volume on each image that was out is back, and all else is as it was.
pub record GivesBack {D : Type 0} (state : D → State) (config : Config)
    (images : List (Option (ImageRest D))) (from : ℕ) (old new : Told) : Type 0 where
  pub more : List (Name × ℕ)
  pub faulty : new.faulty ≡ old.faulty ++ more
  pub back : (k : ℕ) (v : VolumeConf) (r : ImageRest D) → from ≤ k
      → slice_get config.volumes.items k ≡ Some v → image_here images k ≡ Some r
      → IsStoredAs state v.name r more new
  pub others : (name : Name) → ((k : ℕ) (v : VolumeConf) → from ≤ k
      → slice_get config.volumes.items k ≡ Some v → IsImageOut images k → name ≢ v.name)
      → at_name name new.images ≡ at_name name old.images

-- a part of one of these had a fault
pub record HasFaultHere {D : Type 0} (state : D → State) (images : List (Option (ImageRest D)))
    (from : ℕ) : Type 0 where
  pub volume : ℕ
  pub behind : from ≤ volume
  pub image : ImageRest D
  pub here : image_here images volume ≡ Some image
  pub disks : List D
  pub together : IsTogether image disks
  pub fault : faulty_places state disks ≢ []
