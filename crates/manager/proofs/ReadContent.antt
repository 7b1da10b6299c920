-- What a run's source gives is what the volume's array has there.
use Rattle.std.proofs.Common.{◌≡◌, ◌<◌, ◌≤◌, ◌+◌, ◌-◌, ℕ, Bool, List, length, take, drop, Option, None, Some, refl, sym, ap, subst, ◌∙◌, arith}
use Rattle.std.specs.Prelude.{IsTrue, Contains, slice_get, slice_range}
use Rattle.std.proofs.lemmas.List.{length-map}
use Rattle.std.proofs.lemmas.List.FromFn.{length-map-range_with_len}
use Rattle.wol_disk.specs.Disk.{State, Block, Values, IsImageOf, reads}
use Rattle.wol_disk.proofs.Images.{image_reads}
use Rattle.wol_model.specs.Blocks.{after}
use Rattle.wol_model.specs.Extents.{newest}
use Rattle.wol_model.specs.History.{writes, flight_of}
use Rattle.wol_model.specs.Log.{Record, IsNamed, has_bit, position_of}
use Rattle.wol_promise.specs.Manager.{Held, IsBacked, extents_held}
use Rattle.wol_promise.specs.Ruled.{Noted, entries_of}
use Rattle.wol_promise.specs.Stands.{IsWhole, Upholds}
use Rattle.wol_promise.proofs.Kept.{not_broken}
use Rattle.wol_promise.proofs.Lists.{all_member, member_of}
use Rattle.spin_model.specs.Spun.{state_of}
use Rattle.spin_model.specs.declared.spun.Spun.{Spun}
use Rattle.log_segment.specs.Segment.{Holds, owner_of}
use Rattle.logger.specs.Lanes.{held_in}
use Rattle.logger.specs.declared.lane.HeldSegment.{HeldSegment}
use Rattle.logger.specs.declared.lane.Lane.{Lane}
use Rattle.block_cells.specs.declared.record.Rec.{Rec}
use Rattle.redirect_map.specs.Index.{cover_at}
use Rattle.manager.specs.Reading.{IsSource}
use Rattle.manager.specs.Seen.{all_held, parts_of, seen, down_of}
use Rattle.manager.specs.Stands.{Keeps}
use Rattle.manager.specs.declared.base.ManagerBase.{ManagerBase}
use Rattle.manager.specs.declared.manager.Manager.{Manager}
use Rattle.volume_parts.proofs.Contents.{newest_is, bare_block, record_block, bare_run, row_run, bare_source, entry_for, in_record, same_version}
use Rattle.garbage_list.proofs.Nexts.{Answered}
use Rattle.volume_parts.proofs.Lanes.{held_as, Standing, standing, same_place}

-- a record as it stands in this segment
pub record StandsIn {D : Type 0} (state : D → State) (r : Rec) (h : HeldSegment D) : Type 0 where
  pub records : List Record
  pub holds : Holds state h.segment records
  pub place : ℕ
  pub record_ : Record
  pub there : slice_get records place ≡ Some record_
  pub position : r.pos ≡ position_of records place

-- ---- a manager that is up

module _ {D : Type 0} (tells : Bool) (state : D → State) (m : Manager D) (b : ManagerBase) (notes : List Noted) (keeps : Keeps tells state m b notes) (up : m.down ≡ None) where
  pub unbroken : flight_of (entries_of notes) ≡ None
  unbroken = not_broken (parts_of tells state) b.volume.began (seen m keeps.logs) notes (writes (entries_of notes)) (flight_of (entries_of notes)) keeps.upholds (ap down_of up)

  -- it upholds its history with nothing in flight
  pub upholds_up : Upholds (parts_of tells state) b.volume.began (seen m keeps.logs) notes (writes (entries_of notes)) None
  upholds_up = subst (Upholds (parts_of tells state) b.volume.began (seen m keeps.logs) notes (writes (entries_of notes))) unbroken keeps.upholds

  module _ (told : IsTrue tells) (vs : List (Values Block)) (values : (state_of state m.home).values ≡ Some vs) (first n : ℕ) where
    whole : IsWhole (parts_of tells state) b.volume.began (writes (entries_of notes)) m.next m.home (all_held 0 m.lanes.items keeps.logs) m.index.entries
    whole = (upholds_up.calm refl).whole told

    image : IsTrue tells × IsImageOf (state_of state m.home).values (reads vs)
    image = (told, subst (λ (o : Option (List (Values Block))). IsImageOf o (reads vs)) (sym values) (image_reads vs))

    abbrev held : List (Held (Spun D))
    held = all_held 0 m.lanes.items keeps.logs

    count : n ≡ first + n - first
    count = omega arith

    -- home's blocks, where no record covers them
    pub home_content : IsSource m.index.entries first n None → take n (drop first (reads vs)) ≡ slice_range (after b.volume.began.array (writes (entries_of notes))) first (first + n)
    home_content source =
        sym (bare_run (reads vs) (extents_held (all_held 0 m.lanes.items keeps.logs)) first n
        (λ blk le lt. bare_block (all_held 0 m.lanes.items keeps.logs) m.index.entries whole.index whole.distinct blk (bare_source m.index.entries first n source blk le lt)))
        ∙ ap (λ (a : List Block). take n (drop first a)) (whole.holds (reads vs) image).stands
        ∙ ap (λ (k : ℕ). take k (drop first (after b.volume.began.array (writes (entries_of notes))))) count

    -- the record that the index names, with its blocks
    pub record Source (r : Rec) (h : HeldSegment D) : Type 0 where
      pub stands : StandsIn state r h
      pub within : first - r.lbn + n ≤ length stands.record_.blocks
      pub content : take n (drop (first - r.lbn) stands.record_.blocks) ≡ slice_range (after b.volume.began.array (writes (entries_of notes))) first (first + n)

    pub log_content : (long : first + n ≤ length vs) (some : 1 ≤ n) (r : Rec) → IsSource m.index.entries first n (Some r) → (l : Lane D) (i : ℕ) (h : HeldSegment D) → slice_get m.lanes.items r.lane ≡ Some l → slice_get (held_in l) i ≡ Some h → h.index ≡ r.segment → Source r h
    log_content long some r source l i h is_lane is_held index = record {
      stands = record {
        records = found.records;
        holds = found.has told up;
        place = backed.k;
        record_ = backed.record_;
        there = ap (λ (s : Held (Spun D)). slice_get s.records backed.k) (sym same) ∙ backed.is_there;
        position = entry.record_.pos ∙ backed.is_its.pos ∙ ap (λ (s : Held (Spun D)). position_of s.records backed.k) same;
      };
      within = omega (arith, counted, begins.0, ends.1);
      content =
          let at : backed.record_.head.first ≡ r.lbn = sym backed.is_its.first ∙ sym entry.record_.first in
          ap (λ (k : ℕ). take n (drop (first - k) backed.record_.blocks)) (sym at)
          ∙ sym (row_run (reads vs) (extents_held held) first n backed.record_.head.first backed.record_.blocks (omega (arith, long, same_length)) (omega (arith, at, begins.0)) (omega (arith, at, counted, ends.1))
          (λ blk le lt. record_block held m.index.entries whole.index whole.distinct blk entry.entry (newest_at blk le lt) backed))
          ∙ ap (λ (a : List Block). take n (drop first a)) (whole.holds (reads vs) image).stands
          ∙ ap (λ (k : ℕ). take k (drop first (after b.volume.began.array (writes (entries_of notes))))) count;
    }
      where
        same_length : length (reads vs) ≡ length vs
        same_length = length-map vs (λ (v : Values Block). v.now)

        entry : Answered (newest cover_at m.index.entries first) r
        entry = entry_for m.index.entries first n r source first (omega arith) (omega arith)

        among : Contains m.index.entries entry.entry
        among = (newest_is cover_at m.index.entries first entry.entry entry.is).among

        backed : IsBacked held entry.entry
        backed = all_member (IsBacked held) m.index.entries entry.entry whole.index.only among

        found : Standing (λ h rs. IsTrue tells → m.down ≡ None → Holds state h.segment rs) held r.lane h
        found = standing (λ h rs. IsTrue tells → m.down ≡ None → Holds state h.segment rs) 0 r.lane r.lane m.lanes.items keeps.logs l i h (omega arith) keeps.held is_lane is_held

        same : backed.segment ≡ held_as r.lane h found.records
        same = same_place held backed.segment (held_as r.lane h found.records) upholds_up.places.apart backed.is_held found.among
            (λ j. ((sym backed.is_its.lane ∙ sym entry.record_.lane) j, (sym backed.is_its.index ∙ sym entry.record_.segment ∙ sym index) j))

        named : IsNamed (owner_of h.segment) backed.record_
        named = all_member (IsNamed (owner_of h.segment)) found.records backed.record_ (found.has told up).disk.log.named
            (member_of found.records backed.record_ backed.k (ap (λ (s : Held (Spun D)). slice_get s.records backed.k) (sym same) ∙ backed.is_there))

        counted : length backed.record_.blocks ≡ r.count
        counted = named.counted ∙ sym (length-map-range_with_len (has_bit backed.record_.head.mask) 0 backed.record_.head.count) ∙ ap length (sym backed.is_its.keep) ∙ sym entry.record_.count

        begins : (r.lbn ≤ first) × (first < r.lbn + r.count)
        begins = in_record m.index.entries first n r source first (omega arith) (omega arith)

        ends : (r.lbn ≤ first + n - 1) × (first + n - 1 < r.lbn + r.count)
        ends = in_record m.index.entries first n r source (first + n - 1) (omega arith) (omega arith)

        newest_at : (blk : ℕ) → first ≤ blk → blk < first + n → newest cover_at m.index.entries blk ≡ Some entry.entry
        newest_at blk le lt =
            let a = entry_for m.index.entries first n r source blk le lt in
            a.is ∙ ap Some (same_version m.index.entries a.entry entry.entry (upholds_up.calm refl).sorted.rising
            (newest_is cover_at m.index.entries blk a.entry a.is).among among (sym a.record_.version ∙ entry.record_.version))
