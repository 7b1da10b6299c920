-- Reads go on: what each of them leaves of a manager, they leave together; and the accesses that they begin.
use Rattle.std.proofs.Common.{◌≡◌, ℕ, Option, Some, refl, sym, subst, ◌∙◌}
use Rattle.std.specs.Prelude.{slice_get, slice_set}
use Rattle.std.specs.List.{AllZip}
use Rattle.wol_disk.specs.Disk.{State, IsDisk}
use Rattle.spin_model.specs.Spun.{state_of}
use Rattle.log_segment.specs.Segment.{disk_of}
use Rattle.logger.specs.Lanes.{held_in}
use Rattle.logger.specs.declared.lane.Lane.{Lane}
use Rattle.manager.specs.Causes.{PartRose}
use Rattle.manager.specs.Reading.{SegmentRead, LaneRead, IsReadThrough}
use Rattle.manager.specs.declared.manager.Manager.{Manager}
use Rattle.manager.specs.declared.part.Part.{Part}
use Rattle.manager.specs.declared.part.Part.TheVariants.{Home, Segment}
use Rattle.volume_parts.proofs.Elements.{zip_then, zip_back}
use Rattle.volume_parts.proofs.PartReads.{rose_then, home_self, home_then, lane_then, lanes_self, lanes_set}
pub use Rattle.volume_parts.proofs.Elements.{zip_self, zip_then, zip_set, zip_at, zip_back, zip_length}
pub use Rattle.volume_parts.proofs.PartReads.{never_some}

-- ---- parts

module _ {D : Type 0} (state : D → State) (sound : (d : D) → IsDisk (state d)) where
  pub through_self : (m : Manager D) → IsReadThrough state m m
  through_self m = record {
    same = record { id = refl; most = refl };
    home = (home_self state sound) m.home;
    spindle = (refl, refl);
    lanes = (lanes_self state sound) m.lanes.items;
    index = refl;
    next = refl;
    rooms = refl;
    down = refl;
  }

  -- one lane was read
  pub through_lane : (m n : Manager D) (k : ℕ) (l l' : Lane D) → slice_get m.lanes.items k ≡ Some l → n ≡ record m { lanes = n.lanes; ups = n.ups } → n.lanes.items ≡ slice_set m.lanes.items k l' → LaneRead state l l' → IsReadThrough state m n
  through_lane m n k l l' there rest lanes read =
      let now : IsReadThrough state m (record m { lanes = n.lanes; ups = n.ups }) = record {
        same = record { id = refl; most = refl };
        home = home_self state sound m.home;
        spindle = (refl, refl);
        lanes = subst (AllZip (LaneRead state) m.lanes.items) (sym lanes) (lanes_set state sound m.lanes.items k l l' there read);
        index = refl;
        next = refl;
        rooms = refl;
        down = refl;
      } in
      subst (IsReadThrough state m) (sym rest) now

  -- whether or not it told a part at fault after
  pub through_but_down : (k l : Manager D) → IsReadThrough state k l → IsReadThrough state k (record l { down = k.down })
  through_but_down k l a = subst (IsReadThrough state k) (λ i. record l { down = a.down i }) a

  pub through_then : (k l m : Manager D) → IsReadThrough state k l → IsReadThrough state l m → IsReadThrough state k m
  through_then k l m a b = record {
    same = record { id = b.same.id ∙ a.same.id; most = b.same.most ∙ a.same.most };
    home = (home_then state sound) k.home l.home m.home a.home b.home;
    spindle = (b.spindle.0 ∙ a.spindle.0, b.spindle.1 ∙ a.spindle.1);
    lanes = zip_then (LaneRead state) (lane_then state sound) k.lanes.items l.lanes.items m.lanes.items a.lanes b.lanes;
    index = b.index ∙ a.index;
    next = b.next ∙ a.next;
    rooms = b.rooms ∙ a.rooms;
    down = b.down ∙ a.down;
  }

  -- what rose in the last of them rose in all
  pub rose_through : (k l m : Manager D) → IsReadThrough state k l → (p : Part) → PartRose state l m p → PartRose state k m p
  rose_through k l m a (Home volume) r = (r.0 ∙ a.same.id, rose_then (state_of state k.home).faults (state_of state l.home).faults (state_of state m.home).faults a.home.faults r.1)
  rose_through k l m a (Segment volume index) r =
      let lane = zip_back (LaneRead state) k.lanes.items l.lanes.items r.lane.place r.lane.before a.lanes r.lane.was in
      let segment = zip_back (SegmentRead state) (held_in lane.0) (held_in r.lane.before) r.place r.old_segment lane.2.held r.was_there in
      record {
        lane = record { place = r.lane.place; before = lane.0; after = r.lane.after; was = lane.1; is = r.lane.is; named = r.lane.named ∙ lane.2.same.logger };
        place = r.place;
        old_segment = segment.0;
        new_segment = r.new_segment;
        was_there = segment.1;
        is_there = r.is_there;
        named = r.named ∙ segment.2.index;
        rose = rose_then (disk_of state segment.0.segment).faults (disk_of state r.old_segment.segment).faults (disk_of state r.new_segment.segment).faults segment.2.faults r.rose;
      }

-- what rose did so whatever the manager tells of it
pub rose_down : {D : Type 0} (state : D → State) (old new : Manager D) (down : Option Part) (p : Part) → PartRose state old new p → PartRose state old (record new { down = down }) p
rose_down state old new down (Home volume) r = r
rose_down state old new down (Segment volume index) r = r
