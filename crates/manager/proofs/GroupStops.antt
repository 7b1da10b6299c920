-- A group of writes to a log that is stopped at any moment of it.
use Rattle.std.proofs.Common.{◌≡◌, ◌≢◌, ◌⊎◌, inl, inr, ⊎_elim, ◌≤◌, ℕ, Bool, sym, subst, ◌∙◌, arith, List, [], ◌∷◌, ◌++◌, length, map, take, Option, None, Some, refl, ap}
use Rattle.std.specs.Prelude.{⊤, Contains, slice_get, slice_set, IsTrue}
use Rattle.std.specs.List.{AllByRecursion}
use Rattle.std.proofs.lemmas.Option.{same_Some}
use Rattle.std.proofs.lemmas.Grind.{flat_map-append}
use Rattle.std.proofs.lemmas.List.{map-append}
use Rattle.wol_disk.specs.Disk.{State, Block, IsDisk, LeavesOnly}
use Rattle.wol_model.specs.Blocks.{Write}
use Rattle.wol_model.specs.Extents.{Extent}
use Rattle.wol_model.specs.History.{writes, IsCut}
use Rattle.wol_model.specs.Holding.{Holds}
use Rattle.wol_model.specs.Log.{Record, IsLog, IsIdle, HasFirstOf, extent_of}
use Rattle.wol_model.proofs.Images.{kept, idle_none}
use Rattle.spin_model.specs.declared.spun.Spun.{Spun}
use Rattle.spin_model.specs.Spun.{state_of}
use Rattle.log_segment.specs.Records.{group_of, count_of}
use Rattle.log_segment.specs.Segment.{part_of, disk_of, free_disk, free_part, owner_of}
use Rattle.log_segment.specs.declared.free.FreeSegment.{FreeSegment}
use Rattle.log_segment.specs.declared.item.Item.{Item}
use Rattle.wol_promise.specs.Manager.{Held, Recovers, extents_held, is_homed_in}
use Rattle.wol_promise.specs.Ruled.{Noted, entries_of}
use Rattle.wol_promise.specs.Stands.{place_in, StopsSafely}
use Rattle.wol_promise.proofs.Choices.{AreLogs}
use Rattle.wol_promise.proofs.Lists.{all_parts, all_front, all_back, all_member, member_mid}
use Rattle.wol_promise.proofs.LogWrites.{around}
use Rattle.logger.specs.Lanes.{IsLane, IsSameLane, held_in, taken_in, lane_owner}
use Rattle.logger.specs.declared.lane.HeldSegment.{HeldSegment}
use Rattle.logger.specs.declared.lane.Lane.{Lane}
use Rattle.manager.specs.Seen.{Logs, AllLanesHold, all_held}
use Rattle.manager.specs.Stands.{Keeps}
use Rattle.manager.specs.Stops.{ImageSince, HeldSince, was_held, was_free, Stops}
use Rattle.manager.specs.declared.base.ManagerBase.{ManagerBase}
use Rattle.manager.specs.declared.manager.Manager.{Manager}
use Rattle.volume_parts.proofs.Lanes.{InLanes, AtEnd, held_as, same_place}
use Rattle.manager.proofs.Moments.{still_logs, home_holds, stops_so}
use Rattle.manager.proofs.Putting.{owner}
use Rattle.manager.specs.Groups.{AreItemsOf, log_writes}
use Rattle.volume_parts.proofs.Groups.{group_stops, AreNew, extents_of_new, in_a_row, map_front, map_long}
use Rattle.volume_parts.proofs.Records.{group_new, group_written}
use Rattle.log_segment.specs.Segment as segment
use Rattle.manager.proofs.GroupHeld as group_held
use Rattle.manager.proofs.GroupNew as group_new_one

module _ {D : Type 0} (tells : Bool) (state : D → State) (sound : (d : D) → IsDisk (state d)) (told : IsTrue tells) (m : Manager D) (b : ManagerBase) (notes : List Noted) (kp : Keeps tells state m b notes) (up : m.down ≡ None)
    (k : ℕ) (old new : Lane D) (lane : slice_get m.lanes.items k ≡ Some old) (m' : Manager D) (lanes : m'.lanes.items ≡ slice_set m.lanes.items k new) (home : m'.home ≡ m.home) (is_lane : IsLane state new) (same : IsSameLane old new)
    (items : List Item) (from : List Block) (are : AreItemsOf m.most (state_of state m.home).size items) (enough : count_of items ≤ length from) where
  abbrev news : List Record
  news = group_of (lane_owner old) m.next items from

  abbrev flight : List Write
  flight = log_writes m.next items from

  are_new : AreNew b.volume.began.home_blocks m.next news
  are_new = group_new (lane_owner old) m.next m.most (state_of state m.home).size b.volume.began.home_blocks items from are kp.upholds.places.home_size enough

  abbrev At : (claimed : Option (Spun D)) → Spun D → List (Lane D) → Type 0
  At claimed now lanes' = (before after : Logs) → AllLanesHold (λ h rs. ⊤) m.lanes.items before → AllLanesHold (λ h rs. ⊤) lanes' after
      → StopsSafely (ImageSince state m.home now) (HeldSince state (all_held 0 m.lanes.items before) claimed) b.volume.began (entries_of notes) (all_held 0 lanes' after) flight

  -- what recovers with the records that the manager would have stops so
  stops_then : (claimed : Option (Spun D)) (logs : Logs) (S : HeldSegment D → List Record → Type 0) → AllLanesHold S (slice_set m.lanes.items k new) logs
      → Recovers (ImageSince state m.home m.home) (HeldSince state (all_held 0 m.lanes.items kp.logs) claimed) b.volume.began.owner (all_held 0 (slice_set m.lanes.items k new) logs) (IsCut b.volume.began.array (writes (entries_of notes)) flight)
      → Stops state m m' claimed b notes flight
  stops_then claimed logs S shape recovers = subst (At claimed m'.home) (sym lanes) (subst (λ (p : Spun D). At claimed p (slice_set m.lanes.items k new)) (sym home)
      (stops_so tells state sound told m b notes kp up claimed (ImageSince state m.home m.home) (slice_set m.lanes.items k new) logs flight S shape recovers))

  -- an image of one segment, by its place: it has the old records, and some first ones of the new ones
  module _ (claimed : Option (Spun D)) (front back : List (Held (Spun D))) (t : Held (Spun D)) (rs : List Record) (logs : Logs) (S : HeldSegment D → List Record → Type 0) (shape : AllLanesHold S (slice_set m.lanes.items k new) logs)
      (is : all_held 0 (slice_set m.lanes.items k new) logs ≡ front ++ t ∷ back)
      (front_logs : AreLogs (HeldSince state (all_held 0 m.lanes.items kp.logs) claimed) b.volume.began.owner front) (back_logs : AreLogs (HeldSince state (all_held 0 m.lanes.items kp.logs) claimed) b.volume.began.owner back)
      (extents : extents_held (all_held 0 m.lanes.items kp.logs) ≡ extents_held front ++ (map extent_of rs ++ extents_held back))
      (image : (bs : List Block) → HeldSince state (all_held 0 m.lanes.items kp.logs) claimed t bs → (IsIdle bs × (rs ≡ [])) ⊎ ((c : ℕ) × (c ≤ length news) × IsLog bs b.volume.began.owner (rs ++ take c news))) where
    nil : (l : List Extent) → l ++ [] ≡ l
    nil [] = refl
    nil (x ∷ l) = λ i. x ∷ nil l i

    in_flight_stops : Stops state m m' claimed b notes flight
    in_flight_stops = stops_then claimed logs S shape
        (subst (λ (l : List (Held (Spun D))). Recovers (ImageSince state m.home m.home) (HeldSince state (all_held 0 m.lanes.items kp.logs) claimed) b.volume.began.owner l (IsCut b.volume.began.array (writes (entries_of notes)) flight)) (sym is)
        (subst (λ (vs : List Write). Recovers (ImageSince state m.home m.home) (HeldSince state (all_held 0 m.lanes.items kp.logs) claimed) b.volume.began.owner (front ++ t ∷ back) (IsCut b.volume.began.array (writes (entries_of notes)) vs))
        (extents_of_new news ∙ group_written (lane_owner old) m.next items from)
        (group_stops (ImageSince state m.home m.home) (HeldSince state (all_held 0 m.lanes.items kp.logs) claimed) b.volume.began.owner b.volume.began.array (writes (entries_of notes)) m.next (is_homed_in m.index.entries)
        front back t front_logs back_logs (map extent_of rs) (map extent_of news) (in_a_row b.volume.began.home_blocks m.next news are_new)
        (λ h since. subst (λ (l : List Extent). Holds b.volume.began.array (writes (entries_of notes)) m.next h l (is_homed_in m.index.entries)) extents (home_holds tells state sound told m b notes kp up claimed h since))
        (λ bs since. ⊎_elim (λ idle. (0, omega arith, idle_none b.volume.began.owner bs idle.0 ∙ sym (ap (map extent_of) idle.1) ∙ sym (nil (map extent_of rs))))
        (λ first. (first.0, (let e = map_long news in let le = first.1 in omega arith), kept b.volume.began.owner bs (rs ++ take first.0 news) first.2 ∙ map-append extent_of rs (take first.0 news) ∙ ap (λ (l : List Extent). map extent_of rs ++ l) (map_front first.0 news)))
        (image bs since)))))

  -- to a held segment
  module _ (i : ℕ) (o n : HeldSegment D) (at : slice_get (held_in old) i ≡ Some o) (held : held_in new ≡ slice_set (held_in old) i n) (index : n.index ≡ o.index)
      (any_moment : (rs : List Record) → segment.Holds state o.segment rs → LeavesOnly (disk_of state o.segment) (disk_of state n.segment) (λ c. HasFirstOf c (owner_of o.segment) rs news)) where
    abbrev split : InLanes (group_held.R tells state m b notes kp up k old new lane is_lane same i o n at held index) k 0 m.lanes.items kp.logs k i old o
    split = group_held.split tells state m b notes kp up k old new lane is_lane same i o n at held index

    abbrev was : Held (Spun D)
    was = held_as k o split.records

    logs_around : AreLogs (HeldSince state (all_held 0 m.lanes.items kp.logs) None) b.volume.began.owner split.front × AreLogs (HeldSince state (all_held 0 m.lanes.items kp.logs) None) b.volume.began.owner split.back
    logs_around = all_parts (λ (v : Held (Spun D)). (bs : List Block) → HeldSince state (all_held 0 m.lanes.items kp.logs) None v bs → IsLog bs b.volume.began.owner v.records) split.front was split.back
        (subst (AreLogs (HeldSince state (all_held 0 m.lanes.items kp.logs) None) b.volume.began.owner) split.is (still_logs tells state sound told m b notes kp up None))

    is_held : Contains (all_held 0 m.lanes.items kp.logs) was
    is_held = subst (λ (l : List (Held (Spun D))). Contains l was) (sym split.is) (member_mid split.front was split.back)

    image_of : (bs : List Block) → HeldSince state (all_held 0 m.lanes.items kp.logs) None (held_as k n split.records) bs → (IsIdle bs × (split.records ≡ [])) ⊎ ((c : ℕ) × (c ≤ length news) × IsLog bs b.volume.began.owner (split.records ++ take c news))
    image_of bs (was_held v has place image) = inr (first
        (subst (λ (p : Spun D). ImageSince state p (part_of n.segment) bs) (ap (λ (w : Held (Spun D)). w.part) (same_place (all_held 0 m.lanes.items kp.logs) v was kp.upholds.places.apart has is_held (place ∙ (λ j. (k, index j))))) image))
      where
        owner_was : owner_of o.segment ≡ b.volume.began.owner
        owner_was = (group_held.was_held tells state m b notes kp up k old new lane is_lane same i o n at held index).owned ∙ owner tells state m b notes kp k old lane

        first : ImageSince state (part_of o.segment) (part_of n.segment) bs → (c : ℕ) × (c ≤ length news) × IsLog bs b.volume.began.owner (split.records ++ take c news)
        first since = let f = (any_moment split.records (split.here told up)).each bs since in (f.count, f.within, subst (λ (v : ℕ). IsLog bs v (split.records ++ take f.count news)) owner_was f.log)
    image_of bs (was_free p is other image) = absurd (other was is_held (λ j. (k, sym index j)))

    pub group_held_stops : Stops state m m' None b notes flight
    group_held_stops = in_flight_stops None split.front split.back (held_as k n split.records) split.records (split.lists split.records) (λ h rs. ⊤)
        (split.then_all (λ h rs. ⊤) (λ h rs holds. tt) new n split.records held tt) (split.then_is new n split.records held) logs_around.0 logs_around.1
        (ap extents_held split.is ∙ around split.front was split.back) image_of

  -- to a claimed segment
  module _ (untaken_now : taken_in new ≡ None) (f : FreeSegment D) (n : HeldSegment D) (held : held_in new ≡ held_in old ++ n ∷ [])
      (any_moment : LeavesOnly (free_disk state f) (disk_of state n.segment) (λ c. IsIdle c ⊎ HasFirstOf c (lane_owner old) [] news)) where
    abbrev ends : AtEnd (group_new_one.R tells state m b notes kp up k old new lane is_lane same untaken_now n held) k 0 m.lanes.items kp.logs k old
    ends = group_new_one.ends tells state m b notes kp up k old new lane is_lane same untaken_now n held

    logs_beside : AreLogs (HeldSince state (all_held 0 m.lanes.items kp.logs) (Some (free_part f))) b.volume.began.owner (ends.front ++ ends.back)
    logs_beside = subst (AreLogs (HeldSince state (all_held 0 m.lanes.items kp.logs) (Some (free_part f))) b.volume.began.owner) ends.is (still_logs tells state sound told m b notes kp up (Some (free_part f)))

    new_place : AllByRecursion (λ (v : Held (Spun D)). place_in v ≢ (k, n.index)) (all_held 0 m.lanes.items kp.logs)
    new_place = subst (AllByRecursion (λ (v : Held (Spun D)). place_in v ≢ (k, n.index))) (sym ends.is) (group_new_one.new_one tells state m b notes kp up k old new lane is_lane same untaken_now n held)

    image_then : (bs : List Block) → HeldSince state (all_held 0 m.lanes.items kp.logs) (Some (free_part f)) (held_as k n []) bs → (IsIdle bs × (◌≡◌ {A = List Record} [] [])) ⊎ ((c : ℕ) × (c ≤ length news) × IsLog bs b.volume.began.owner (take c news))
    image_then bs (was_held v has place image) = absurd (all_member (λ (v : Held (Spun D)). place_in v ≢ (k, n.index)) (all_held 0 m.lanes.items kp.logs) v new_place has place)
    image_then bs (was_free p is other image) = ⊎_elim (λ idle. inl (idle, refl))
        (λ first. inr (first.count, first.within, subst (λ (v : ℕ). IsLog bs v (take first.count news)) (owner tells state m b notes kp k old lane) first.log))
        (any_moment.each bs (subst (λ (q : Spun D). ImageSince state q (part_of n.segment) bs) (sym (same_Some (free_part f) p is)) image))

    pub group_claim_stops : Stops state m m' (Some (free_part f)) b notes flight
    group_claim_stops = in_flight_stops (Some (free_part f)) ends.front ends.back (held_as k n []) [] (ends.lists []) (λ h rs. ⊤)
        (ends.then_all (λ h rs. ⊤) (λ h rs holds. tt) new n [] held tt) (ends.then_is new n [] held)
        (all_front (λ (v : Held (Spun D)). (bs : List Block) → HeldSince state (all_held 0 m.lanes.items kp.logs) (Some (free_part f)) v bs → IsLog bs b.volume.began.owner v.records) ends.front ends.back logs_beside)
        (all_back (λ (v : Held (Spun D)). (bs : List Block) → HeldSince state (all_held 0 m.lanes.items kp.logs) (Some (free_part f)) v bs → IsLog bs b.volume.began.owner v.records) ends.front ends.back logs_beside)
        (ap extents_held ends.is ∙ flat_map-append (λ (v : Held (Spun D)). map extent_of v.records) ends.front ends.back) image_then
