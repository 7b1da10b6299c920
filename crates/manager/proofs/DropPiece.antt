-- A record of a held segment that gives up blocks, among all segments: as the disk tells it, or as it may be where nothing is told.
use Rattle.std.proofs.Common.{◌≡◌, ◌<◌, ◌≤◌, ◌+◌, ◌^◌, ℕ, zero, suc, Bool, true, false, List, [], ◌∷◌, ◌++◌, length, take, None, Some, refl, sym, ap, subst, ◌∙◌, arith, replicate}
use Rattle.std.specs.Prelude.{IsTrue, slice_get, slice_set}
use Rattle.std.specs.List.{flat_map}
use Rattle.std.proofs.lemmas.Option.{same_Some, none-some}
use Rattle.std.proofs.lemmas.List.{append-nil, length-replicate}
use Rattle.wol_disk.specs.Disk.{State}
use Rattle.wol_model.specs.Blocks.{Write}
use Rattle.wol_model.specs.Heads.{RecordHead}
use Rattle.wol_model.specs.History.{writes}
use Rattle.wol_model.specs.Index.{Indexed}
use Rattle.wol_model.specs.Log.{Record, IsNamed, marks_of, position_of, end_of, written}
use Rattle.wol_promise.specs.Manager.{Held, IsBacked, IsEntryOf}
use Rattle.wol_promise.specs.Ruled.{Noted, entries_of}
use Rattle.wol_promise.specs.Stands.{Upholds}
use Rattle.wol_promise.proofs.Lists.{all_member, member_of, member_mid}
use Rattle.spin_model.specs.declared.spun.Spun.{Spun}
use Rattle.log_segment.specs.Segment.{IsWhole, Holds, part_of, owner_of}
use Rattle.log_segment.specs.Records.{IsSameHead}
use Rattle.block_cells.specs.declared.record.Rec.{Rec}
use Rattle.block_cells.proofs.Marks.{length-marks_of}
use Rattle.redirect_map.specs.Index.{IsRecordOf}
use Rattle.logger.specs.Lanes.{IsHeld, AreWhole, IsHeadAt, held_in, lane_owner, logger_of, segments_in, pool_of}
use Rattle.logger.specs.declared.lane.HeldSegment.{HeldSegment}
use Rattle.logger.specs.declared.lane.Lane.{Lane}
use Rattle.manager.specs.Seen.{Logs, parts_of, seen, all_held, down_of}
use Rattle.manager.specs.Stands.{IsReady, IsReadyLane, IsPlacedIn}
use Rattle.manager.specs.declared.base.ManagerBase.{ManagerBase}
use Rattle.manager.specs.declared.manager.Manager.{Manager}
use Rattle.volume_parts.proofs.Groups.{other_records}
use Rattle.volume_parts.proofs.Entries.{At, among, same_mask}
use Rattle.volume_parts.proofs.Elements.{all_at}
use Rattle.volume_parts.proofs.Lanes.{held_as, same_place}

-- ---- records in front of a place

-- an element of a list by its place
record AtPlace {X : Type 0} (xs : List X) (j : ℕ) (x : X) : Type 0 where
  front : List X
  back : List X
  is : xs ≡ front ++ x ∷ back
  size : length front ≡ j

at_place : {X : Type 0} (xs : List X) (j : ℕ) (x : X) → slice_get xs j ≡ Some x → AtPlace xs j x
at_place [] j x is = absurd (none-some x is)
at_place (y ∷ ys) zero x is = record { front = []; back = ys; is = λ i. same_Some y x is i ∷ ys; size = refl }
at_place (y ∷ ys) (suc j) x is = let r = at_place ys j x is in record { front = y ∷ r.front; back = r.back; is = λ i. y ∷ r.is i; size = ap suc r.size }

take_front : {X : Type 0} (xs ys : List X) → take (length xs) (xs ++ ys) ≡ xs
take_front [] ys = refl
take_front (x ∷ xs) ys = λ i. x ∷ take_front xs ys i

pub get_mid : {X : Type 0} (xs : List X) (x : X) (ys : List X) → slice_get (xs ++ x ∷ ys) (length xs) ≡ Some x
get_mid [] x ys = refl
get_mid (y ∷ xs) x ys = get_mid xs x ys

pub set_mid : {X : Type 0} (xs : List X) (x y : X) (ys : List X) → slice_set (xs ++ x ∷ ys) (length xs) y ≡ xs ++ y ∷ ys
set_mid [] x y ys = refl
set_mid (z ∷ xs) x y ys = λ i. z ∷ set_mid xs x y ys i

-- some records behind which the next one stands at this place
made_up : (place : ℕ) → List Record
made_up zero = []
made_up (suc zero) = []
made_up (suc (suc n)) = record { head = record { form = 2; owner = 0; version = 0; first = 0; count = 0; mask = 0 }; blocks = replicate n [] } ∷ []

made_up_ends : (place : ℕ) → 1 ≤ place → place ≡ end_of (made_up place)
unfolding made_up
made_up_ends zero le = absurd (omega arith)
made_up_ends (suc zero) le = refl
made_up_ends (suc (suc n)) le =
    let l : length (flat_map written (made_up (suc (suc n)))) ≡ 1 + n = ap suc (ap length (append-nil (replicate n [])) ∙ length-replicate n []) ∙ (let e : suc n ≡ 1 + n = omega arith in e) in omega (arith, l)

-- ---- the record

module _ {D : Type 0} (tells : Bool) (state : D → State) (m : Manager D) (b : ManagerBase) (notes : List Noted) (logs : Logs) (ready : IsReady state m)
    (u : Upholds (parts_of tells state) b.volume.began (seen m logs) notes (writes (entries_of notes)) None) (up : m.down ≡ None)
    (k : ℕ) (old : Lane D) (lane : slice_get m.lanes.items k ≡ Some old) (i : ℕ) (o : HeldSegment D) (there : slice_get (held_in old) i ≡ Some o) (version : ℕ) (e : Indexed) (at : At m.index.entries version e)
    (lane_is : e.listed.lane ≡ k) (index_is : e.index ≡ o.index) (r : Rec) (rec : IsRecordOf e r)
    (hf : List (Held (Spun D))) (records : List Record) (hb : List (Held (Spun D))) (held : all_held 0 m.lanes.items logs ≡ hf ++ held_as k o records ∷ hb) (here : IsTrue tells → m.down ≡ None → Holds state o.segment records) where
  -- its head as the manager names it
  abbrev pub head : RecordHead
  head = record { form = 2; owner = m.id; version = version; first = r.lbn; count = r.count; mask = r.keep }

  abbrev pub ws : List Write
  ws = writes (entries_of notes)

  pub was_lane : IsReadyLane state m.id m.most old
  was_lane = all_at (IsReadyLane state m.id m.most) m.lanes.items k old lane ready.ready.each

  pub was_held : IsHeld state (logger_of old) (lane_owner old) (segments_in old) (pool_of old) o
  was_held = all_at (IsHeld state (logger_of old) (lane_owner old) (segments_in old) (pool_of old)) (held_in old) i o there was_lane.lane.each

  pub whole : IsWhole o.segment
  whole = all_at (λ (h : HeldSegment D). IsWhole h.segment) (held_in old) i o there (all_at (λ (l : Lane D). AreWhole (held_in l)) m.lanes.items k old lane (ready.up up).whole)

  -- the segment with these records
  abbrev pub with_records : List Record → Held (Spun D)
  with_records rs = record { part = part_of o.segment; lane = k; index = o.index; broken = false; records = rs }

  -- the record with those in front of it and behind it
  pub record Piece : Type 0 where
    pub fs : List Record
    pub it : Record
    pub gs : List Record
    pub its : IsEntryOf (with_records (fs ++ it ∷ gs)) (length fs) it e
    pub records_are : IsTrue tells → records ≡ fs ++ it ∷ gs
    pub count_is : it.head.count ≡ r.count
    pub upheld : Upholds (parts_of tells state) b.volume.began (record (seen m logs) { held = hf ++ with_records (fs ++ it ∷ gs) ∷ hb }) notes (writes (entries_of notes)) None
    pub holds : IsTrue tells → Holds state o.segment (fs ++ it ∷ gs)
    pub head_at : IsTrue tells → IsHeadAt (fs ++ it ∷ gs) (length fs) it r.pos head

  unbroken_is : (rs : List Record) → held_as k o rs ≡ with_records rs
  unbroken_is rs = λ j. record { part = part_of o.segment; lane = k; index = o.index; broken = whole j; records = rs }

  abbrev U : List Record → Type 0
  U rs = Upholds (parts_of tells state) b.volume.began (record (seen m logs) { held = hf ++ with_records rs ∷ hb }) notes (writes (entries_of notes)) None

  upheld_now : U records
  upheld_now = subst (λ (l : List (Held (Spun D))). Upholds (parts_of tells state) b.volume.began (record (seen m logs) { held = l }) notes (writes (entries_of notes)) None)
      (held ∙ (λ j. hf ++ unbroken_is records j ∷ hb)) u

  placed : IsPlacedIn m.lanes.items e
  placed = all_member (IsPlacedIn m.lanes.items) m.index.entries e (ready.up up).placed (among at)

  -- as the disk tells it
  told_piece : IsTrue tells → Piece
  told_piece told = record {
    fs = split.front;
    it = backed.record_;
    gs = split.back;
    its = subst (λ (rs : List Record). IsEntryOf (with_records rs) (length split.front) backed.record_ e) split.is (subst (λ (j : ℕ). IsEntryOf (with_records records) j backed.record_ e) (sym split.size) its_now);
    records_are = λ t. split.is;
    count_is = count_same;
    upheld = subst U split.is upheld_now;
    holds = λ t. subst (Holds state o.segment) split.is (here t up);
    head_at = λ t. record { there = get_mid split.front backed.record_ split.back; position = rec.pos ∙ its_now.pos ∙ ap (λ (n : ℕ). position_of records n) (sym split.size) ∙ ap (λ (l : List Record). position_of l (length split.front)) split.is; same_head = same_head };
  }
    where
      backed : IsBacked (hf ++ with_records records ∷ hb) e
      backed = all_member (IsBacked (hf ++ with_records records ∷ hb)) m.index.entries e ((upheld_now.calm refl).whole told).index.only (among at)

      same : backed.segment ≡ with_records records
      same = same_place (hf ++ with_records records ∷ hb) backed.segment (with_records records) upheld_now.places.apart backed.is_held (member_mid hf (with_records records) hb)
          (λ j. ((sym backed.is_its.lane ∙ lane_is) j, (sym backed.is_its.index ∙ index_is) j))

      its_now : IsEntryOf (with_records records) backed.k backed.record_ e
      its_now = subst (λ (s : Held (Spun D)). IsEntryOf s backed.k backed.record_ e) same backed.is_its

      split : AtPlace records backed.k backed.record_
      split = at_place records backed.k backed.record_ (subst (λ (s : Held (Spun D)). slice_get s.records backed.k ≡ Some backed.record_) same backed.is_there)

      named : IsNamed (owner_of o.segment) backed.record_
      named = all_member (IsNamed (owner_of o.segment)) records backed.record_ (here told up).disk.log.named
          (member_of records backed.record_ backed.k (subst (λ (s : Held (Spun D)). slice_get s.records backed.k ≡ Some backed.record_) same backed.is_there))

      count_same : backed.record_.head.count ≡ r.count
      count_same = sym (length-marks_of backed.record_.head.count backed.record_.head.mask) ∙ ap length (sym its_now.keep) ∙ sym rec.count

      mask_same : r.keep ≡ backed.record_.head.mask
      mask_same = same_mask r.count r.keep backed.record_.head.mask rec.within (subst (λ (n : ℕ). backed.record_.head.mask < 2 ^ n) count_same named.in_range.kept)
          (rec.keep ∙ its_now.keep ∙ ap (λ (n : ℕ). marks_of n backed.record_.head.mask) count_same)

      same_head : IsSameHead head backed.record_.head
      same_head = λ j. record {
        form = backed.record_.head.form;
        owner = (sym was_lane.owner ∙ sym was_held.owned ∙ sym named.owned) j;
        version = (sym at.version_is ∙ its_now.version) j;
        first = (rec.first ∙ its_now.first) j;
        count = sym count_same j;
        mask = mask_same j;
      }

  -- as it may be where nothing is told
  untold_piece : (IsTrue tells → ⊥) → Piece
  untold_piece untold = record {
    fs = made_up e.pos;
    it = its_record;
    gs = [];
    its = record {
      version = refl;
      first = refl;
      keep = sym rec.keep;
      lane = lane_is;
      index = index_is;
      pos = made_up_ends e.pos placed.behind ∙ ap (λ (l : List Record). 1 + length (flat_map written l)) (sym (take_front (made_up e.pos) (its_record ∷ [])));
    };
    records_are = λ told. absurd (untold told);
    count_is = refl;
    upheld = other_records (parts_of tells state) b.volume.began (record (seen m logs) { held = hf ++ with_records records ∷ hb }) notes (writes (entries_of notes)) hf hb (with_records records) upheld_now (ap down_of up) refl untold (made_up e.pos ++ its_record ∷ []);
    holds = λ told. absurd (untold told);
    head_at = λ told. absurd (untold told);
  }
    where
      its_record : Record
      its_record = record { head = record { form = 2; owner = m.id; version = e.listed.version; first = e.listed.first; count = r.count; mask = r.keep }; blocks = [] }

  pub piece : Piece
  piece = by tells refl
    where
      by : (t : Bool) → tells ≡ t → Piece
      by true told = told_piece told
      by false not = untold_piece (λ told. let no : false ≡ true = sym not ∙ told in cc)
