-- A segment is given up with all its records: whichever images it had since, the same is recovered, also where the call failed or was stopped.
use Rattle.std.proofs.Common.{◌≡◌, ◌⊎◌, inl, inr, ⊎_elim, ℕ, Bool, true, false, List, [], ◌∷◌, ◌++◌, map, None, Some, refl, sym, ap, subst, ◌∙◌, arith}
use Rattle.std.specs.Prelude.{⊤, IsTrue, Contains, filter, slice_get, slice_set, remove}
use Rattle.std.specs.Option.{option_map}
use Rattle.std.proofs.Math.ListN.{length-set}
use Rattle.std.proofs.lemmas.Grind.{flat_map-append}
use Rattle.std.proofs.lemmas.Option.{slice_get-map}
use Rattle.wol_disk.specs.Disk.{State, Block, IsDisk, IsImageOf, LeavesOnly}
use Rattle.wol_disk.proofs.Calls.{now_leaves}
use Rattle.wol_disk.proofs.Moments.{widened}
use Rattle.wol_model.specs.Extents.{Extent, AreDistinct, covers_of}
use Rattle.wol_model.specs.History.{Broke, writes, IsCut}
use Rattle.wol_model.specs.Holding.{Holds as HoldsArray}
use Rattle.wol_model.specs.Index.{Indexed}
use Rattle.wol_model.specs.Log.{Record, IsLog, IsIdle, extent_of}
use Rattle.wol_model.proofs.Steps.{fewer_homed}
use Rattle.spin_model.specs.Spun.{state_of}
use Rattle.spin_model.specs.declared.spun.Spun.{Spun}
use Rattle.log_segment.specs.Kept.{IsKeptOrIdle}
use Rattle.log_segment.specs.Segment.{Holds, disk_of, owner_of, part_of}
use Rattle.logger.specs.Lanes.{IsLane, IsHeld, held_in, taken_in, logger_of, lane_owner, segments_in, pool_of}
use Rattle.logger.specs.Trims.{NotFreed}
use Rattle.logger.specs.declared.lane.HeldSegment.{HeldSegment}
use Rattle.logger.specs.declared.lane.Lane.{Lane}
use Rattle.wol_promise.specs.Manager.{Held, Recovers, SegmentPart, SaysOwnerOrFree, extents_held, is_homed_in}
use Rattle.wol_promise.specs.Ruled.{Noted, entries_of}
use Rattle.wol_promise.specs.Stands.{LieInHome, Upholds, StandsFor, IsWhole}
use Rattle.wol_promise.proofs.Choices.{AreLogs}
use Rattle.wol_promise.proofs.GiveUps.{From, homed_before}
use Rattle.wol_promise.proofs.Lists.{all_parts, all_mid, all_joined}
use Rattle.wol_promise.proofs.LogWrites.{says_owner, around}
use Rattle.wol_promise.proofs.SoundSegments.{IsSoundBetween, sound_log, sound_idle}
use Rattle.wol_promise.proofs.Stops.{still_stops}
use Rattle.wol_promise.proofs.Wholes.{member_unfilter}
use Rattle.manager.specs.Reading.{IsReadThrough}
use Rattle.manager.specs.Reclaim.{AllGoIn, lies_elsewhere}
use Rattle.manager.specs.Seen.{Logs, parts_of, seen, all_held}
use Rattle.manager.specs.Stands.{Keeps, IsReady, IsReadyLane}
use Rattle.manager.specs.Stops.{ImageSince, HeldSince}
use Rattle.manager.specs.declared.base.ManagerBase.{ManagerBase}
use Rattle.manager.specs.declared.manager.Manager.{Manager}
use Rattle.manager.proofs.DropStops.{says_free}
use Rattle.volume_parts.proofs.Elements.{all_at, get_set}
use Rattle.volume_parts.proofs.Lanes.{held_as, InLanes, in_lanes}
use Rattle.manager.proofs.Putting.{Pieces, segment_failed}
use Rattle.manager.proofs.ReadContent.{unbroken, upholds_up}
use Rattle.manager.proofs.SinceReads.{StopsHere, home_since, logs_around, image_since, stops_with}
use Rattle.manager.proofs.ReadKeeps.{held_read, upholds_read}
use Rattle.manager.proofs.Retiring.{upheld}
use Rattle.volume_parts.proofs.Vanishes.{three_stops, segment_breaks}
use Rattle.manager.proofs.WentHome.{risen}
use Rattle.manager.specs.declared.part.Part.TheVariants as part

-- ---- the segment's images

module _ {D : Type 0} (tells : Bool) (state : D → State) (m : Manager D) (b : ManagerBase) (notes : List Noted) (logs : Logs)
    (u : Upholds (parts_of tells state) b.volume.began (seen m logs) notes (writes (entries_of notes)) None) (up : m.down ≡ None)
    (k : ℕ) (o : HeldSegment D) (none : AllGoIn k o.index m.index.entries)
    (hf : List (Held (Spun D))) (records : List Record) (hb : List (Held (Spun D))) (held : all_held 0 m.lanes.items logs ≡ hf ++ held_as k o records ∷ hb) (here : IsTrue tells → m.down ≡ None → Holds state o.segment records)
    (owner_is : owner_of o.segment ≡ b.volume.began.owner) where
  -- what its image may be: a log of its records, or idle
  abbrev pub Left : List Block → Type 0
  Left c = IsLog c b.volume.began.owner records ⊎ IsIdle c

  abbrev s : Held (Spun D)
  s = held_as k o records

  -- the segment without a record
  abbrev t : Held (Spun D)
  t = record { part = part_of o.segment; lane = k; index = o.index; broken = o.segment.broken; records = [] }

  abbrev left : List Indexed
  left = filter (lies_elsewhere k o.index) m.index.entries

  less : Upholds (parts_of tells state) b.volume.began (record (seen m logs) { held = hf ++ hb; indexed = filter (lies_elsewhere k o.index) m.index.entries }) notes (writes (entries_of notes)) None
  less = upheld tells state m b notes logs u up k o none hf records hb held

  module _ (told : IsTrue tells) where
    -- so it is at each moment of a call that says so of any records
    pub leaves_left : (n : HeldSegment D) → ((rs : List Record) → Holds state o.segment rs → LeavesOnly (disk_of state o.segment) (disk_of state n.segment) (IsKeptOrIdle (owner_of o.segment) rs))
        → LeavesOnly (disk_of state o.segment) (disk_of state n.segment) Left
    leaves_left n any = widened (any records (here told up)) (λ c is. ⊎_elim (λ log. inl (subst (λ (v : ℕ). IsLog c v records) owner_is log)) (λ idle. inr idle) is)

    -- ---- what is recovered

    w : IsWhole (parts_of tells state) b.volume.began (writes (entries_of notes)) m.next m.home (hf ++ held_as k o records ∷ hb) m.index.entries
    w = subst (λ (l : List (Held (Spun D))). IsWhole (parts_of tells state) b.volume.began (writes (entries_of notes)) m.next m.home l m.index.entries) held ((u.calm refl).whole told)

    from : (d : Indexed) → Contains (filter (lies_elsewhere k o.index) m.index.entries) d → From m.index.entries d
    from d has = record { before = d; among = member_unfilter (lies_elsewhere k o.index) m.index.entries d has; version = refl; covers = λ x is. is; homed = λ x is. is }

    abbrev Stands : List (Held (Spun D)) → List Block → Type 0
    Stands l home = HoldsArray b.volume.began.array (writes (entries_of notes)) m.next home (extents_held l) (is_homed_in (filter (lies_elsewhere k o.index) m.index.entries))

    holds_before : (home : List Block) → IsImageOf (state_of state m.home).values home → Stands (hf ++ held_as k o records ∷ hb) home
    holds_before home is = fewer_homed b.volume.began.array (writes (entries_of notes)) m.next home (extents_held (hf ++ s ∷ hb)) (is_homed_in m.index.entries) (is_homed_in left)
        (w.holds home (told, is)) (homed_before m.index.entries left from)

    holds_less : (home : List Block) → IsImageOf (state_of state m.home).values home → Stands (hf ++ hb) home
    holds_less home is = ((less.calm refl).whole told).holds home (told, is)

    holds_bare : (home : List Block) → IsImageOf (state_of state m.home).values home → Stands (hf ++ t ∷ hb) home
    holds_bare home is = subst (λ (l : List Extent). HoldsArray b.volume.began.array (writes (entries_of notes)) m.next home l (is_homed_in left))
        (flat_map-append (λ (v : Held (Spun D)). map extent_of v.records) hf hb ∙ sym (around hf t hb)) (holds_less home is)

    -- whichever of its images the segment has, and the others logs of what they hold
    pub left_stops : (of_home : List Block → Type 0) (of_held : Held (Spun D) → List Block → Type 0) (v : Held (Spun D)) → ((home : List Block) → of_home home → IsImageOf (state_of state m.home).values home)
        → AreLogs of_held b.volume.began.owner hf → AreLogs of_held b.volume.began.owner hb → ((c : List Block) → of_held v c → Left c)
        → Recovers of_home of_held b.volume.began.owner (hf ++ v ∷ hb) (IsCut b.volume.began.array (writes (entries_of notes)) [])
    left_stops of_home of_held v home_image front back image = three_stops of_held b.volume.began.owner of_home b.volume.began.array (writes (entries_of notes)) [] m.next (is_homed_in left) hf hb v s t front back
        (λ c is. ⊎_elim (λ log. inl log) (λ idle. inr (inr (tt, idle))) (image c is))
        (λ home is. holds_before home (home_image home is)) (λ home is. holds_bare home (home_image home is))

    -- the segment is no part of the volume any more
    pub less_stops : (of_home : List Block → Type 0) (of_held : Held (Spun D) → List Block → Type 0) → ((home : List Block) → of_home home → IsImageOf (state_of state m.home).values home)
        → AreLogs of_held b.volume.began.owner hf → AreLogs of_held b.volume.began.owner hb
        → Recovers of_home of_held b.volume.began.owner (hf ++ hb) (IsCut b.volume.began.array (writes (entries_of notes)) [])
    less_stops of_home of_held home_image front back = still_stops of_home of_held b.volume.began.owner b.volume.began.array (writes (entries_of notes)) m.next (is_homed_in left) (hf ++ hb) []
        (all_joined (λ (v : Held (Spun D)). (c : List Block) → of_held v c → IsLog c b.volume.began.owner v.records) hf hb front back) (λ home is. holds_less home (home_image home is))

    -- whichever of them it is, the segment is sound
    pub left_between : (c : List Block) → Left c → IsSoundBetween b.volume.began.owner b.volume.began.home_blocks hf hb c
    left_between c is =
        let own = all_mid (LieInHome b.volume.began.home_blocks) hf s hb (subst (Rattle.std.specs.List.AllByRecursion (LieInHome b.volume.began.home_blocks)) held (u.known told).within) in
        let apart = subst (λ (l : List Extent). AreDistinct (covers_of l)) (around hf s hb) w.distinct in
        ⊎_elim (λ log. sound_log b.volume.began.owner b.volume.began.home_blocks hf hb c records log own apart)
        (λ idle. sound_idle b.volume.began.owner b.volume.began.home_blocks hf hb c records idle apart) is

    -- the other segments are logs now
    pub sides : AreLogs (λ (v : Held (Spun D)). (parts_of tells state).may_be v.part) b.volume.began.owner hf × AreLogs (λ (v : Held (Spun D)). (parts_of tells state).may_be v.part) b.volume.began.owner hb
    sides = all_parts (λ (v : Held (Spun D)). (c : List Block) → (parts_of tells state).may_be v.part c → IsLog c b.volume.began.owner v.records) hf s hb w.logs

-- ---- a call of the segment failed

module _ {D : Type 0} (tells : Bool) (state : D → State) (sound : (d : D) → IsDisk (state d)) (m : Manager D) (b : ManagerBase) (notes : List Noted) (kp : Keeps tells state m b notes) (up : m.down ≡ None)
    (k : ℕ) (old new : Lane D) (lane : slice_get m.lanes.items k ≡ Some old) (is_lane : IsLane state new) (untaken : taken_in new ≡ None) (i : ℕ) (o n : HeldSegment D) (there : slice_get (held_in old) i ≡ Some o)
    (none : AllGoIn k o.index m.index.entries) (held : held_in new ≡ slice_set (held_in old) i n) (not_freed : NotFreed state o n) (nt : Noted) (broke : nt.entry.operation ≡ Broke []) (unruled : nt.after_drain ≡ false) where
  abbrev R : HeldSegment D → List Record → Type 0
  R h rs = IsTrue tells → m.down ≡ None → Holds state h.segment rs

  split : InLanes R k 0 m.lanes.items kp.logs k i old o
  split = in_lanes R k 0 m.lanes.items kp.logs k i old o (omega arith) lane there kp.held

  wl : IsReadyLane state m.id m.most old
  wl = all_at (IsReadyLane state m.id m.most) m.lanes.items k old lane kp.ready.ready.each

  wh : IsHeld state (logger_of old) (lane_owner old) (segments_in old) (pool_of old) o
  wh = all_at (IsHeld state (logger_of old) (lane_owner old) (segments_in old) (pool_of old)) (held_in old) i o there wl.lane.each

  nh : IsHeld state (logger_of new) (lane_owner new) (segments_in new) (pool_of new) n
  nh = all_at (IsHeld state (logger_of new) (lane_owner new) (segments_in new) (pool_of new)) (held_in new) i n (ap (λ (hs : List (HeldSegment D)). slice_get hs i) held ∙ get_set (held_in old) i o n there) is_lane.each

  owner_is : owner_of o.segment ≡ b.volume.began.owner
  owner_is = wh.owned ∙ wl.owner ∙ kp.locks.owner

  size : (disk_of state n.segment).size ≡ (disk_of state o.segment).size
  size = nh.shape.size ∙ not_freed.same.blocks ∙ sym wh.shape.size

  logger_is : slice_get b.volume.began.view k ≡ Some (logger_of old)
  logger_is = ap (λ (l : List ℕ). slice_get l k) (sym kp.locks.view) ∙ slice_get-map logger_of m.lanes.items k ∙ ap (option_map logger_of) lane

  abbrev LeftNow : List Block → Type 0
  LeftNow c = IsLog c b.volume.began.owner split.records ⊎ IsIdle c

  image_now : (told : IsTrue tells) (c : List Block) → IsImageOf (disk_of state n.segment).values c → LeftNow c
  image_now told c is = now_leaves (leaves_left tells state m b notes kp.logs (upholds_up tells state m b notes kp up) up k o none split.front split.records split.back split.is split.here owner_is told n not_freed.any_moment) (sound n.segment.part.inner) c is

  says : (c : List Block) → LeftNow c → SaysOwnerOrFree b.volume.began.owner c
  says c is = ⊎_elim (says_owner b.volume.began.owner c _) (λ idle. says_free b.volume.began.owner c idle) is

  abbrev was : Held (Spun D)
  was = held_as k o split.records

  abbrev now : Held (Spun D)
  now = record was { part = part_of n.segment; broken = true }

  fell : StandsFor (parts_of tells state) b.volume.began (record (seen m kp.logs) { held = split.front ++ now ∷ split.back; ups = slice_set m.ups.items k true; down = Some (SegmentPart (logger_of old) o.index) }) (notes ++ nt ∷ [])
  fell = segment_breaks (parts_of tells state) b.volume.began (seen m kp.logs) m.home_up (slice_set m.ups.items k true) (length-set m.ups.items k true) notes nt (upholds_up tells state m b notes kp up) (unbroken tells state m b notes kp up)
      broke unruled split.front was split.back (part_of n.segment) split.is size not_freed.same.volume (logger_of old) logger_is (risen (disk_of state o.segment).faults (disk_of state n.segment).faults not_freed.cause)
      (λ c is. says c (image_now is.0 c is.1))
      (λ told c is. left_between tells state m b notes kp.logs (upholds_up tells state m b notes kp up) up k o none split.front split.records split.back split.is split.here owner_is told c (image_now told c is.1))
      (λ told. let both_sides = sides tells state m b notes kp.logs (upholds_up tells state m b notes kp up) up k o none split.front split.records split.back split.is split.here owner_is told in
      left_stops tells state m b notes kp.logs (upholds_up tells state m b notes kp up) up k o none split.front split.records split.back split.is split.here owner_is told
      ((parts_of tells state).may_be m.home) (λ v. (parts_of tells state).may_be v.part) now (λ home is. is.1) both_sides.0 both_sides.1 (λ c is. image_now told c is.1))

  pub failed_pieces : Pieces tells state m b (notes ++ nt ∷ []) (slice_set m.lanes.items k new) m.index.entries m.next (slice_set m.ups.items k true) (Some (part.Segment (logger_of old) o.index))
  failed_pieces = segment_failed tells state m b notes (notes ++ nt ∷ []) kp k old new untaken i o n R split held not_freed.index not_freed.broken (slice_set m.ups.items k true) (part.Segment (logger_of old) o.index) fell.upholds

-- ---- at any moment since an earlier one, after which there were reads alone

module _ {D : Type 0} (tells : Bool) (state : D → State) (sound : (d : D) → IsDisk (state d)) (told : IsTrue tells) (was m : Manager D) (read : IsReadThrough state was m) (ready : IsReady state m) (was_up : was.down ≡ None) (up : m.down ≡ None)
    (b : ManagerBase) (notes : List Noted) (kw : Keeps tells state was b notes)
    (k : ℕ) (old new : Lane D) (lane : slice_get m.lanes.items k ≡ Some old) (i : ℕ) (o : HeldSegment D) (there : slice_get (held_in old) i ≡ Some o) (none : AllGoIn k o.index m.index.entries) where
  abbrev RThen : HeldSegment D → List Record → Type 0
  RThen h rs = IsTrue tells → m.down ≡ None → Holds state h.segment rs

  u_then : Upholds (parts_of tells state) b.volume.began (seen m kw.logs) notes (writes (entries_of notes)) None
  u_then = upholds_read tells state was m b notes read ready was_up kw

  wl_then : IsReadyLane state m.id m.most old
  wl_then = all_at (IsReadyLane state m.id m.most) m.lanes.items k old lane ready.ready.each

  owner_then : owner_of o.segment ≡ b.volume.began.owner
  owner_then = (all_at (IsHeld state (logger_of old) (lane_owner old) (segments_in old) (pool_of old)) (held_in old) i o there wl_then.lane.each).owned ∙ wl_then.owner ∙ read.same.id ∙ kw.locks.owner

  split_then : InLanes RThen k 0 m.lanes.items kw.logs k i old o
  split_then = in_lanes RThen k 0 m.lanes.items kw.logs k i old o (omega arith) lane there (held_read tells state was m b notes read ready was_up kw)

  -- ---- the segment stays in the lane

  module _ (n : HeldSegment D) (held : held_in new ≡ slice_set (held_in old) i n) (not_freed : NotFreed state o n) where
    abbrev LeftThen : List Block → Type 0
    LeftThen c = IsLog c b.volume.began.owner split_then.records ⊎ IsIdle c

    leaves : LeavesOnly (disk_of state o.segment) (disk_of state n.segment) LeftThen
    leaves = leaves_left tells state m b notes kw.logs u_then up k o none split_then.front split_then.records split_then.back split_then.is split_then.here owner_then told n not_freed.any_moment

    image_left : (c : List Block) → HeldSince state (all_held 0 was.lanes.items kw.logs) None (held_as k n split_then.records) c → LeftThen c
    image_left = image_since tells state sound told was m read ready was_up b notes kw split_then.front k o n split_then.records split_then.back split_then.is not_freed.index LeftThen (λ c log. inl log) leaves

    pub in_place_stops : StopsHere tells state sound told was m read ready was_up b notes kw (slice_set m.lanes.items k new)
    in_place_stops =
        let around = logs_around tells state sound told was m read ready was_up b notes kw split_then.front (held_as k o split_then.records) split_then.back split_then.is in
        stops_with tells state sound told was m read ready was_up b notes kw (slice_set m.lanes.items k new) (split_then.lists split_then.records) (split_then.then_all (λ h rs. ⊤) (λ h rs holds. tt) new n split_then.records held tt) (split_then.front ++ held_as k n split_then.records ∷ split_then.back) (split_then.then_is new n split_then.records held)
        (left_stops tells state m b notes kw.logs u_then up k o none split_then.front split_then.records split_then.back split_then.is split_then.here owner_then told
        (ImageSince state was.home m.home) (HeldSince state (all_held 0 was.lanes.items kw.logs) None) (held_as k n split_then.records) (home_since state was m read) around.0 around.1 image_left)

  -- ---- the segment went to the pool

  module _ (held : held_in new ≡ remove (held_in old) i) where
    pub gone_stops : StopsHere tells state sound told was m read ready was_up b notes kw (slice_set m.lanes.items k new)
    gone_stops =
        let around = logs_around tells state sound told was m read ready was_up b notes kw split_then.front (held_as k o split_then.records) split_then.back split_then.is in
        stops_with tells state sound told was m read ready was_up b notes kw (slice_set m.lanes.items k new) split_then.rest (split_then.rest_all (λ h rs. ⊤) (λ h rs holds. tt) new held) (split_then.front ++ split_then.back) (split_then.rest_is new held)
        (less_stops tells state m b notes kw.logs u_then up k o none split_then.front split_then.records split_then.back split_then.is split_then.here owner_then told
        (ImageSince state was.home m.home) (HeldSince state (all_held 0 was.lanes.items kw.logs) None) (home_since state was m read) around.0 around.1)
