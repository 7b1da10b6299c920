-- A group of writes to a held segment: what the manager keeps up with its entry, and where it failed.
use Rattle.std.proofs.Common.{◌≡◌, ◌≤◌, ◌+◌, ◌-◌, ◌^◌, ℕ, zero, suc, Bool, true, false, sym, subst, ◌∙◌, arith, List, [], ◌∷◌, ◌++◌, length, take, None, Some, refl, ap, replicate}
use Rattle.std.specs.Prelude.{slice_get, slice_set, IsTrue}
use Rattle.std.specs.List.{flat_map}
use Rattle.std.proofs.lemmas.List.{append-nil, length-replicate}
use Rattle.std.proofs.lemmas.List.Elements.{Contains-append_right}
use Rattle.std.proofs.Math.ListN.{length-set}
use Rattle.turn_lock.specs.LockIds.{LockId}
use Rattle.seg_pool.specs.declared.base.PoolBase.{PoolBase}
use Rattle.wol_disk.specs.Disk.{State, Block, IsDisk, LeavesOnly, Rose}
use Rattle.wol_disk.proofs.Calls.{now_leaves}
use Rattle.wol_model.specs.History.{Wrote, Broke, worker}
use Rattle.wol_model.specs.Index.{listed_in}
use Rattle.wol_model.specs.Log.{Record, IsLog, HasFirstOf, written, end_of}
use Rattle.spin_model.specs.declared.spun.Spun.{Spun}
use Rattle.log_segment.specs.Segment.{IsWhole, IsBroken, Holds, part_of, disk_of, owner_of, place_of, room_of, segment_volume}
use Rattle.log_segment.specs.Records.{group_of, count_of}
use Rattle.log_segment.specs.declared.item.Item.{Item}
use Rattle.block_cells.specs.declared.record.Rec.{Rec}
use Rattle.spin_model.specs.Spun.{state_of}
use Rattle.wol_promise.specs.Manager.{Held, ManagerSeen, SegmentPart, AreInUse}
use Rattle.wol_promise.specs.Policy.{Look}
use Rattle.wol_promise.specs.Ruled.{Noted, IsStep, last_look}
use Rattle.wol_promise.specs.Stands.{Upholds, StandsFor}
use Rattle.wol_promise.proofs.Lists.{all_swap}
use Rattle.logger.specs.Lanes.{IsLane, IsHeld, IsSameLane, held_in, taken_in, lane_owner, logger_of, segments_in, pool_of}
use Rattle.logger.specs.declared.lane.HeldSegment.{HeldSegment}
use Rattle.logger.specs.declared.lane.Lane.{Lane}
use Rattle.manager.specs.Seen.{parts_of, seen, all_held, all_taken, down_of}
use Rattle.manager.specs.Stands.{Keeps}
use Rattle.manager.specs.declared.base.ManagerBase.{ManagerBase}
use Rattle.manager.specs.declared.manager.Manager.{Manager}
use Rattle.volume_parts.proofs.Elements.{all_at, get_set}
use Rattle.volume_parts.proofs.Lanes.{held_as, InLanes, in_lanes, image_is_log}
use Rattle.volume_parts.proofs.Groups.{other_records, indexed_by, some_valid, group_more, group_breaks}
use Rattle.manager.proofs.Putting.{parts, base, ws, is_up, old_lane, owner, logger, HasValid, Pieces, pieces_more, segment_failed}
use Rattle.manager.proofs.ReadContent.{unbroken, upholds_up}
use Rattle.manager.proofs.WentHome.{risen}
use Rattle.manager.specs.Listing.{recs_at, entered_all}
use Rattle.manager.specs.Groups.{AreItemsOf, log_writes}
use Rattle.volume_parts.proofs.Records.{group_new, group_some, group_fits, group_written, group_long, group_nonempty, group_indexed}
use Rattle.manager.specs.declared.part.Part.TheVariants as part

-- ---- Records that end at a place

-- some records behind which the next one stands at this place
abbrev made_up : (place : ℕ) → List Record
made_up zero = []
made_up (suc zero) = []
made_up (suc (suc n)) = record { head = record { form = 2; owner = 0; version = 0; first = 0; count = 0; mask = 0 }; blocks = replicate n [] } ∷ []

made_up_ends : (place : ℕ) → 1 ≤ place → place ≡ end_of (made_up place)
made_up_ends zero le = absurd (omega arith)
made_up_ends (suc zero) le = refl
made_up_ends (suc (suc n)) le = let l : length (flat_map written (made_up (suc (suc n)))) ≡ 1 + n = ap suc (ap length (append-nil (replicate n [])) ∙ length-replicate n []) ∙ (let e : suc n ≡ 1 + n = omega arith in e) in omega (arith, l)

module _ {D : Type 0} (tells : Bool) (state : D → State) (m : Manager D) (b : ManagerBase) (notes : List Noted) (kp : Keeps tells state m b notes) (up : m.down ≡ None)
    (k : ℕ) (old new : Lane D) (lane : slice_get m.lanes.items k ≡ Some old) (is_lane : IsLane state new) (same : IsSameLane old new)
    (i : ℕ) (o n : HeldSegment D) (at : slice_get (held_in old) i ≡ Some o) (held : held_in new ≡ slice_set (held_in old) i n) (index : n.index ≡ o.index) where
  abbrev pub R : HeldSegment D → List Record → Type 0
  R h rs = IsTrue tells → m.down ≡ None → Holds state h.segment rs

  pub split : InLanes R k 0 m.lanes.items kp.logs k i old o
  split = in_lanes R k 0 m.lanes.items kp.logs k i old o (omega arith) lane at kp.held

  pub was_held : IsHeld state (logger_of old) (lane_owner old) (segments_in old) (pool_of old) o
  was_held = all_at (IsHeld state (logger_of old) (lane_owner old) (segments_in old) (pool_of old)) (held_in old) i o at (old_lane tells state m b notes kp k old lane).lane.each

  pub now_held : IsHeld state (logger_of new) (lane_owner new) (segments_in new) (pool_of new) n
  now_held = all_at (IsHeld state (logger_of new) (lane_owner new) (segments_in new) (pool_of new)) (held_in new) i n (ap (λ (hs : List (HeldSegment D)). slice_get hs i) held ∙ get_set (held_in old) i o n at) is_lane.each

  -- it lies where the old one lay
  size : (disk_of state n.segment).size ≡ (disk_of state o.segment).size
  size = now_held.shape.size ∙ now_held.blocks ∙ ap (λ (q : LockId PoolBase). q.base.blocks) same.pool.0 ∙ sym was_held.blocks ∙ sym was_held.shape.size

  volume : segment_volume n.segment ≡ segment_volume o.segment
  volume = now_held.volume ∙ same.logger ∙ sym was_held.volume

  owned : owner_of n.segment ≡ b.volume.began.owner
  owned = now_held.owned ∙ same.owner ∙ owner tells state m b notes kp k old lane

  -- the records of the old one, or others that end where it ends
  record Ending : Type 0 where
    records : List Record
    ends : place_of o.segment ≡ end_of records
    holds : IsTrue tells → Holds state o.segment records
    upheld_with : Upholds (parts tells state m b notes kp) (base tells state m b notes kp) (record (seen m kp.logs) { held = split.front ++ held_as k o records ∷ split.back }) notes (ws tells state m b notes kp) None

  ending : Ending
  ending = by tells refl
    where
      by : (t : Bool) → tells ≡ t → Ending
      by true told = record {
        records = split.records;
        ends = (split.here told up).place;
        holds = λ t. split.here t up;
        upheld_with = subst (λ (l : List (Held (Spun D))). Upholds (parts tells state m b notes kp) (base tells state m b notes kp) (record (seen m kp.logs) { held = l }) notes (ws tells state m b notes kp) None) split.is (upholds_up tells state m b notes kp up);
      }
      by false untold = record {
        records = made_up (place_of o.segment);
        ends = made_up_ends (place_of o.segment) was_held.shape.place.0;
        holds = λ told. absurd (let no : false ≡ true = sym untold ∙ told in cc);
        upheld_with = other_records (parts tells state m b notes kp) (base tells state m b notes kp) (seen m kp.logs) notes (ws tells state m b notes kp) split.front split.back (held_as k o split.records) (upholds_up tells state m b notes kp up)
            (is_up tells state m b notes kp up) split.is (λ told. let no : false ≡ true = sym untold ∙ told in cc) (made_up (place_of o.segment));
      }

  module _ (items : List Item) (some : 1 ≤ length items) (from : List Block) (are : AreItemsOf m.most (state_of state m.home).size items) (enough : count_of items ≤ length from) (nt : Noted) (client : nt.entry.pass ≡ worker) (untaken_now : taken_in new ≡ None) where
    abbrev rs : List Record
    rs = group_of (lane_owner old) m.next items from

    abbrev ups : List Bool
    ups = slice_set m.ups.items k true

    -- it has them
    module _ (space : count_of items + (length items - 1) ≤ room_of o.segment) (next_room : m.next + length items ≤ 2 ^ 63) (ok : (qs : List Record) → Holds state o.segment qs → Holds state n.segment (qs ++ rs)) (whole : IsWhole n.segment) (was_whole : IsWhole o.segment)
        (recs : List Rec) (recs_is : recs ≡ recs_at m.next items k o.index (place_of o.segment)) (wrote : nt.entry.operation ≡ Wrote (log_writes m.next items from))
        (step : IsTrue nt.ruled → IsStep nt nt.entry.pass nt.entry.operation (last_look b.volume.began.look notes) nt.look)
        (look : nt.look ≡ (let l : Look = record { home_up = m.home_up; ups = ups; next = m.next + length items; listed = listed_in (entered_all m.index.entries recs); down = down_of m.down } in l)) where
      abbrev s : Held (Spun D)
      s = held_as k o ending.records

      abbrev all_records : List Record
      all_records = ending.records ++ rs

      abbrev now : Held (Spun D)
      now = record s { part = part_of n.segment; records = all_records }

      held_is : all_held 0 (slice_set m.lanes.items k new) (split.lists all_records) ≡ split.front ++ now ∷ split.back
      held_is = split.then_is new n all_records held ∙ (λ t. split.front ++ record { part = part_of n.segment; lane = k; index = index t; broken = (whole ∙ sym was_whole) t; records = all_records } ∷ split.back)

      indexed_is : entered_all m.index.entries recs ≡ indexed_by m.index.entries s (part_of n.segment) rs
      indexed_is = ap (entered_all m.index.entries) (recs_is ∙ ap (recs_at m.next items k o.index) ending.ends) ∙ group_indexed (lane_owner old) m.next items from m.index.entries s (part_of n.segment) enough

      next_is : m.next + length rs ≡ m.next + length items
      next_is = ap (λ (c : ℕ). m.next + c) (group_long (lane_owner old) m.next items from)

      abbrev grown_one : ManagerSeen (Spun D)
      grown_one = record { home = m.home; held = split.front ++ now ∷ split.back; taken = all_taken 0 m.lanes.items; indexed = indexed_by m.index.entries s (part_of n.segment) rs; next = m.next + length rs; home_up = m.home_up; ups = ups; down = down_of m.down }

      stood : StandsFor (parts_of tells state) b.volume.began grown_one (notes ++ nt ∷ [])
      stood = group_more (parts_of tells state) b.volume.began (record (seen m kp.logs) { held = split.front ++ s ∷ split.back }) m.home_up ups (length-set m.ups.items k true) notes nt split.front s split.back (part_of n.segment) rs (group_nonempty (lane_owner old) m.next items from some)
          ending.upheld_with (unbroken tells state m b notes kp up) refl size volume (group_new (lane_owner old) m.next m.most (state_of state m.home).size b.volume.began.home_blocks items from are kp.upholds.places.home_size enough) client
          (λ bs is. subst (λ (v : ℕ). IsLog bs v all_records) owned (image_is_log state n.segment all_records bs (ok ending.records (ending.holds is.0)) is.1))
          (let e = group_long (lane_owner old) m.next items from in omega arith) (is_up tells state m b notes kp up) (wrote ∙ ap Wrote (sym (group_written (lane_owner old) m.next items from)))
          (group_fits (disk_of state n.segment).size (end_of ending.records) (lane_owner old) m.next items from (let e = ending.ends in let w = was_held.shape.size in let z = size in let p = was_held.shape.place.0 in let c = group_some m.most (state_of state m.home).size items some are in omega (arith, space, e, w, z, p, c, some)))
          step (look ∙ (λ t. record { home_up = m.home_up; ups = ups; next = sym next_is t; listed = listed_in (indexed_is t); down = down_of m.down }))

      pub group_put : Pieces tells state m b (notes ++ nt ∷ []) (slice_set m.lanes.items k new) (entered_all m.index.entries recs) (m.next + length items) ups m.down
      group_put = pieces_more tells state m b notes (notes ++ nt ∷ []) kp k new untaken_now (split.lists all_records) (split.front ++ now ∷ split.back) _ _ indexed_is _ _ next_is ups
          (split.then_all R (λ h qs holds. holds) new n all_records held (λ told _. ok ending.records (ending.holds told))) held_is stood.upholds
          (λ told is. all_swap HasValid HasValid (λ v used. used) split.front (held_as k o split.records) now split.back (λ _. let v = some_valid b.volume.began.home_blocks m.next rs (group_nonempty (lane_owner old) m.next items from some) (group_new (lane_owner old) m.next m.most (state_of state m.home).size b.volume.began.home_blocks items from are kp.upholds.places.home_size enough) in (v.0, Contains-append_right ending.records rs v.0 v.1, v.2))
          (subst AreInUse split.is (kp.in_use told up)))

    -- a call of its disk failed
    module _ (sound : (d : D) → IsDisk (state d)) (any_moment : (qs : List Record) → Holds state o.segment qs → LeavesOnly (disk_of state o.segment) (disk_of state n.segment) (λ c. HasFirstOf c (owner_of o.segment) qs rs))
        (broken : IsBroken n.segment) (cause : Rose (disk_of state o.segment).faults (disk_of state n.segment).faults) (broke : nt.entry.operation ≡ Broke (log_writes m.next items from)) (unruled : nt.after_drain ≡ false) where
      abbrev was : Held (Spun D)
      was = held_as k o split.records

      abbrev then_ : Held (Spun D)
      then_ = record was { part = part_of n.segment; broken = true }

      abbrev failed_one : ManagerSeen (Spun D)
      failed_one = record (seen m kp.logs) { held = split.front ++ then_ ∷ split.back; down = Some (SegmentPart (logger_of old) o.index) }

      owner_was : owner_of o.segment ≡ b.volume.began.owner
      owner_was = was_held.owned ∙ owner tells state m b notes kp k old lane

      fell : StandsFor (parts_of tells state) b.volume.began failed_one (notes ++ nt ∷ [])
      fell = group_breaks (parts_of tells state) b.volume.began (seen m kp.logs) m.home_up m.ups.items refl notes nt split.front was split.back (part_of n.segment) rs (group_nonempty (lane_owner old) m.next items from some)
          (upholds_up tells state m b notes kp up) (unbroken tells state m b notes kp up) split.is size volume (group_new (lane_owner old) m.next m.most (state_of state m.home).size b.volume.began.home_blocks items from are kp.upholds.places.home_size enough) client
          (λ bs is. let first = now_leaves (any_moment split.records (split.here is.0 up)) (sound n.segment.part.inner) bs is.1 in (first.count, first.within, subst (λ (v : ℕ). IsLog bs v (split.records ++ take first.count rs)) owner_was first.log))
          (logger_of old) (logger tells state m b notes kp k old lane) (broke ∙ ap Broke (sym (group_written (lane_owner old) m.next items from))) unruled (risen (disk_of state o.segment).faults (disk_of state n.segment).faults cause)

      pub group_put_failed : Pieces tells state m b (notes ++ nt ∷ []) (slice_set m.lanes.items k new) m.index.entries m.next m.ups.items (Some (part.Segment (logger_of old) o.index))
      group_put_failed = segment_failed tells state m b notes (notes ++ nt ∷ []) kp k old new untaken_now i o n R split held index broken m.ups.items (part.Segment (logger_of old) o.index) fell.upholds
