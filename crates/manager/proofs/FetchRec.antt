-- The record of a version is read where it stands.
use Rattle.std.proofs.Common.{◌≡◌, ◌<◌, ◌≤◌, ◌+◌, ℕ, Bool, List, [], ◌∷◌, ◌++◌, length, take, Option, None, Some, Result, Ok, Err, OnOk, is_ok, refl, sym, ap, subst, ◌∙◌, arith, get_or}
use Rattle.std.specs.Prelude.{IsTrue, Contains, slice_get}
use Rattle.std.specs.List.{AllByRecursion}
use Rattle.std.proofs.lemmas.Option.{same_Some, slice_get_read, slice_get_within}
use Rattle.std.proofs.lemmas.List.{append-nil}
use Rattle.std.proofs.lemmas.List.FromFn.{length-map-range_with_len}
use Rattle.wol_disk.specs.Disk.{State, Block}
use Rattle.wol_model.specs.Blocks.{Write}
use Rattle.wol_model.specs.Extents.{IsValid}
use Rattle.wol_model.specs.History.{writes}
use Rattle.wol_model.specs.Index.{Indexed}
use Rattle.wol_model.specs.Log.{Record, IsNamed, has_bit, position_of, extent_of}
use Rattle.wol_promise.specs.Manager.{Held, IsBacked, WasWritten}
use Rattle.wol_promise.specs.Ruled.{Noted, entries_of}
use Rattle.wol_promise.specs.Stands.{IsWhole, IsDataOf}
use Rattle.wol_promise.proofs.Lists.{all_member, member_of}
use Rattle.spin_model.specs.declared.spun.Spun.{Spun}
use Rattle.log_segment.specs.Segment.{Holds, blocks_of, owner_of}
use Rattle.logger.specs.Lanes.{AreWhole, IsReadable, ReadFrom, held_in}
use Rattle.logger.specs.declared.lane.HeldSegment.{HeldSegment}
use Rattle.logger.specs.declared.lane.Lane.{Lane}
use Rattle.logger.specs.declared.lane.Spot.{Spot}
use Rattle.block_cells.specs.declared.record.Rec.{Rec}
use Rattle.redirect_map.specs.Index.{entry_at, IsAnswer, IsIndex, IsRecordOf}
use Rattle.manager.specs.Reclaim.{AreOf, HasFetched}
use Rattle.manager.specs.Seen.{all_held, parts_of}
use Rattle.manager.specs.Stands.{Keeps, IsReady, IsPlacedIn}
use Rattle.manager.specs.declared.base.ManagerBase.{ManagerBase}
use Rattle.manager.specs.declared.manager.Manager.{Manager}
use Rattle.manager.specs.declared.part.Part.{Part}
use Rattle.volume_parts.proofs.Entries.{Found, found_of, entry_of_version, among}
use Rattle.volume_parts.proofs.Elements.{all_at, get_of}
use Rattle.volume_parts.proofs.Lanes.{Standing, held_as, standing, same_place}
use Rattle.manager.proofs.ReadContent.{StandsIn, upholds_up}
use Rattle.volume_parts.proofs.PartReads.{never_some, on_ok_like}
use Rattle.log_segment.specs.Segment as log

-- the segment that the index names for a record
pub record RecordSpot {D : Type 0} (m : Manager D) (r : Rec) (lane : Lane D) : Type 0 where
  pub lane_is : slice_get m.lanes.items r.lane ≡ Some lane
  pub place : ℕ
  pub segment : HeldSegment D
  pub there : slice_get (held_in lane) place ≡ Some segment
  pub index : segment.index ≡ r.segment
  pub whole : AreWhole (held_in lane)
  pub segment_whole : log.IsWhole segment.segment
  pub fits : r.pos + 1 + 0 + r.count ≤ blocks_of segment.segment

-- so it is for an entry of the index
pub spot_for : {D : Type 0} (state : D → State) (m : Manager D) → IsReady state m → m.down ≡ None → (e : Indexed) (r : Rec) → IsRecordOf e r → Contains m.index.entries e → (l : Lane D) × RecordSpot m r l
spot_for {D} state m ready up e r rec has = (
  placed.lane,
  record {
    lane_is = ap (slice_get m.lanes.items) rec.lane ∙ placed.lane_is;
    place = there.0;
    segment = placed.segment;
    there = there.1;
    index = placed.index ∙ sym rec.segment;
    whole = whole;
    segment_whole = all_at (λ (h : HeldSegment D). log.IsWhole h.segment) (held_in placed.lane) there.0 placed.segment there.1 whole;
    fits = (let w = placed.within in let p = rec.pos in let c = rec.count in omega arith);
  },
)
  where
    placed : IsPlacedIn m.lanes.items e
    placed = all_member (IsPlacedIn m.lanes.items) m.index.entries e (ready.up up).placed has

    there : (k : ℕ) × (slice_get (held_in placed.lane) k ≡ Some placed.segment)
    there = get_of (held_in placed.lane) placed.segment placed.held

    whole : AreWhole (held_in placed.lane)
    whole = all_at (λ (l : Lane D). AreWhole (held_in l)) m.lanes.items e.listed.lane placed.lane placed.lane_is (ready.up up).whole

module _ {D : Type 0} (state : D → State) (m : Manager D) (ready : IsReady state m) (up : m.down ≡ None) (version : ℕ) (r : Rec) (index : IsIndex m.index.entries) (found : Found m.index.entries version r) where
  entry_among : Contains m.index.entries found.entry
  entry_among = among (entry_of_version m.index.entries version found.entry index.rising found.is)

  pub spot_of : (l : Lane D) × RecordSpot m r l
  spot_of = spot_for state m ready up found.entry r found.record_ entry_among

  -- in the lane at its place, which the code reaches
  pub spot_at : (l : Lane D) → slice_get m.lanes.items r.lane ≡ Some l → RecordSpot m r l
  spot_at l is = subst (RecordSpot m r) (same_Some spot_of.0 l (sym spot_of.1.lane_is ∙ is)) spot_of.1

  pub spot_in : (l : Lane D) → l ≡ get_or m.lanes.items r.lane l → RecordSpot m r l
  spot_in l is = spot_at l (slice_get_read m.lanes.items (length m.lanes.items) r.lane l refl (slice_get_within m.lanes.items r.lane spot_of.0 spot_of.1.lane_is) is)

  -- ---- what it has

  module _ (tells : Bool) (b : ManagerBase) (notes : List Noted) (keeps : Keeps tells state m b notes) (told : IsTrue tells) where
    abbrev ws : List Write
    ws = writes (entries_of notes)

    abbrev held : List (Held (Spun D))
    held = all_held 0 m.lanes.items keeps.logs

    -- the record as it stands in this segment
    pub record Stored (h : HeldSegment D) : Type 0 where
      pub stands : StandsIn state r h
      pub count : r.count ≡ length stands.record_.blocks
      pub data_ : IsDataOf b.volume.began ws version found.entry.listed.first stands.record_.blocks

    pub stored_at : (l : Lane D) (i : ℕ) (h : HeldSegment D) → slice_get m.lanes.items r.lane ≡ Some l → slice_get (held_in l) i ≡ Some h → h.index ≡ r.segment → Stored h
    stored_at l i h is_lane is_held named_ = record {
      stands = record {
        records = standing_.records;
        holds = standing_.has told up;
        place = backed.k;
        record_ = backed.record_;
        there = there;
        position = found.record_.pos ∙ backed.is_its.pos ∙ ap (λ (s : Held (Spun D)). position_of s.records backed.k) same;
      };
      count = found.record_.count ∙ ap length backed.is_its.keep ∙ length-map-range_with_len (has_bit backed.record_.head.mask) 0 backed.record_.head.count ∙ sym named.counted;
      data_ = record {
        write = was.0;
        known = subst (λ (all : List Write). Contains (b.volume.began.records ++ all) was.0) (append-nil ws) was.1;
        named = was.2.version ∙ ap Some (sym backed.is_its.version ∙ (entry_of_version m.index.entries version found.entry index.rising found.is).version_is);
        range = was.2.first ∙ sym backed.is_its.first;
        data_ = was.2.blocks;
      };
    }
      where
        whole : IsWhole (parts_of tells state) b.volume.began ws m.next m.home held m.index.entries
        whole = ((upholds_up tells state m b notes keeps up).calm refl).whole told

        backed : IsBacked held found.entry
        backed = all_member (IsBacked held) m.index.entries found.entry whole.index.only entry_among

        standing_ : Standing (λ g rs. IsTrue tells → m.down ≡ None → Holds state g.segment rs) held r.lane h
        standing_ = standing (λ g rs. IsTrue tells → m.down ≡ None → Holds state g.segment rs) 0 r.lane r.lane m.lanes.items keeps.logs l i h (omega arith) keeps.held is_lane is_held

        same : backed.segment ≡ held_as r.lane h standing_.records
        same = same_place held backed.segment (held_as r.lane h standing_.records) (upholds_up tells state m b notes keeps up).places.apart backed.is_held standing_.among
            (λ j. ((sym backed.is_its.lane ∙ sym found.record_.lane) j, (sym backed.is_its.index ∙ sym found.record_.segment ∙ sym named_) j))

        there : slice_get standing_.records backed.k ≡ Some backed.record_
        there = ap (λ (s : Held (Spun D)). slice_get s.records backed.k) (sym same) ∙ backed.is_there

        named : IsNamed (owner_of h.segment) backed.record_
        named = all_member (IsNamed (owner_of h.segment)) standing_.records backed.record_ (standing_.has told up).disk.log.named (member_of standing_.records backed.record_ backed.k there)

        was : WasWritten (b.volume.began.records ++ (ws ++ [])) backed.record_
        was = all_member (λ (q : Record). IsValid (extent_of q).cover → WasWritten (b.volume.began.records ++ (ws ++ [])) q) backed.segment.records backed.record_
            (all_member (λ (s : Held (Spun D)). AllByRecursion (λ (q : Record). IsValid (extent_of q).cover → WasWritten (b.volume.began.records ++ (ws ++ [])) q) s.records) held backed.segment
            ((upholds_up tells state m b notes keeps up).known told).written backed.is_held)
            (member_of backed.segment.records backed.record_ backed.k backed.is_there) backed.valid

-- ---- the entry of the version

pub version_of : (es : List Indexed) (version : ℕ) (r : Rec) → IsIndex es → IsAnswer (entry_at es version) (Some r) → r.version ≡ version
version_of es version r index is = let f = found_of es version r is in f.record_.version ∙ (entry_of_version es version f.entry index.rising f.is).version_is

pub same_record : (es : List Indexed) (version : ℕ) (r : Rec) → IsIndex es → IsAnswer (entry_at es version) (Some r) → IsAnswer (entry_at es r.version) (Some r)
same_record es version r index is = subst (λ (v : ℕ). IsAnswer (entry_at es v) (Some r)) (sym (version_of es version r index is)) is

pub same_entry : (o : Option Indexed) (d e : Indexed) → o ≡ Some d → o ≡ Some e → d ≡ e
same_entry o d e is is' = same_Some d e (sym is ∙ is')

-- a record was fetched, whatever the manager tells as down
pub fetched_down : {D : Type 0} (old new : Manager D) (lane : ℕ) (down : Option Part) → HasFetched lane old new → HasFetched lane old (record new { down = down })
fetched_down {D} old new lane down f = record {
  rest = ap (λ (m : Manager D). record m { down = down }) f.rest;
  lanes = f.lanes;
}

-- all blocks of a record
all_blocks : (n : ℕ) (xs : List Block) → n ≡ length xs → take n xs ≡ xs
all_blocks n xs is = ap (λ (k : ℕ). take k xs) is ∙ whole xs
  where
    whole : (ys : List Block) → take (length ys) ys ≡ ys
    whole [] = refl
    whole (y ∷ ys) = λ i. y ∷ whole ys i

on_ok_late : {T E A : Type 0} (P : Type 0) (r : Result T E) → (A → OnOk r P) → OnOk r (A → P)
on_ok_late P (Ok x) so = so
on_ok_late P (Err e) so = tt

-- one spot can be read where another, the same, can
pub readable_at : {D : Type 0} {l : Lane D} {spot there : Spot} {skip count : ℕ} → spot ≡ there → IsReadable l there skip count → IsReadable l spot skip count
readable_at {l = l} {skip = skip} {count = count} is = subst (λ (s : Spot). IsReadable l s skip count) (sym is)

-- a read at one spot is one at another, the same
pub read_at : {D T E : Type 0} {state : D → State} {l l' : Lane D} {spot there : Spot} {skip : ℕ} {before after_ : List Block} {res : Result T E} → spot ≡ there
    → ReadFrom state l l' spot skip before after_ res → ReadFrom state l l' there skip before after_ res
read_at {state = state} {l = l} {l' = l'} {skip = skip} {before = before} {after_ = after_} {res = res} is = subst (λ (s : Spot). ReadFrom state l l' s skip before after_ res) is

-- what is read is the data of the version
pub data_blocks : {D T E U F : Type 0} (state : D → State) (m : Manager D) (ready : IsReady state m) (up : m.down ≡ None) (version : ℕ) (r : Rec) (index : IsIndex m.index.entries) (found : Found m.index.entries version r)
    (tells : Bool) (b : ManagerBase) (notes : List Noted) → Keeps tells state m b notes → (before after_ : List Block) → length before ≡ r.count → (l l' : Lane D) (res : Result T E) (s : Result U F) → is_ok s ≡ is_ok res → RecordSpot m r l
    → ReadFrom state l l' (record { segment = r.segment; pos = r.pos }) 0 before after_ res → OnOk s (AreOf tells m.index.entries version after_ b notes)
data_blocks state m ready up version r index found tells b notes keeps before after_ count l l' res s like spot moved = on_ok_late _ s (λ told.
    let st = stored_at state m ready up version r index found tells b notes keeps told l moved.place moved.old_segment spot.lane_is moved.there moved.named in
    on_ok_like res s like
    (λ same e is. let d = st.data_ in record {
      write = d.write;
      known = d.known;
      named = d.named;
      range = d.range ∙ ap (λ (x : Indexed). x.listed.first) (same_Some found.entry e (sym found.is ∙ is));
      data_ = d.data_ ∙ sym (same ∙ all_blocks (length before) st.stands.record_.blocks (count ∙ st.count));
    })
    (moved.content st.stands.records st.stands.place st.stands.record_ st.stands.holds st.stands.there st.stands.position (let c = st.count in omega arith)))

-- the lane of a record that the index answers is there
pub lane_within : {D : Type 0} (state : D → State) (m : Manager D) → IsReady state m → ((p : Part) → m.down ≡ Some p → ⊥) → (version : ℕ) (r : Rec) → IsIndex m.index.entries → IsAnswer (entry_at m.index.entries version) (Some r) → r.lane < length m.lanes.items
lane_within state m ready never version r index is =
    let s = spot_of state m ready (never_some m.down never) version r index (found_of m.index.entries version r is) in
    slice_get_within m.lanes.items r.lane s.0 s.1.lane_is
