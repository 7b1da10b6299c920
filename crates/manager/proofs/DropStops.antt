-- Blocks that go are given up: whichever images the segment had since, the same is recovered, also where the call failed or was stopped.
use Rattle.std.proofs.Common.{◌≡◌, ◌⊎◌, inl, inr, ⊎_elim, ◌<◌, ◌≤◌, ◌^◌, ℕ, Bool, true, false, List, [], ◌∷◌, ◌++◌, length, None, Some, refl, sym, ap, subst, ◌∙◌, arith, bit_and}
use Rattle.std.specs.Prelude.{⊤, IsTrue, slice_get, slice_set, remove}
use Rattle.std.specs.Int.{bit_not, w128}
use Rattle.std.specs.Option.{option_map}
use Rattle.std.proofs.Math.ListN.{length-set}
use Rattle.std.proofs.lemmas.Option.{slice_get-map}
use Rattle.wol_disk.specs.Disk.{State, Block, IsDisk, IsImageOf, LeavesOnly, Rose}
use Rattle.wol_disk.proofs.Calls.{now_leaves}
use Rattle.wol_disk.proofs.Moments.{widened}
use Rattle.wol_model.specs.Extents.{Extent, AreDistinct, covers_of, may_go}
use Rattle.wol_model.specs.History.{Broke, writes, IsCut}
use Rattle.wol_model.specs.Holding.{Holds as HoldsArray}
use Rattle.wol_model.specs.Index.{Indexed, listed_in, goes, keeping}
use Rattle.wol_model.specs.Log.{Record, IsLog, IsIdle, extent_of, marks_of}
use Rattle.spin_model.specs.Spun.{state_of}
use Rattle.spin_model.specs.declared.spun.Spun.{Spun}
use Rattle.log_segment.specs.Kept.{IsKeptOrTrimmed}
use Rattle.log_segment.specs.Records.{count_valid}
use Rattle.log_segment.specs.Segment.{IsBroken, IsSame, Holds, part_of, disk_of, owner_of}
use Rattle.block_cells.specs.Masks.{IsMask}
use Rattle.block_cells.specs.declared.record.Rec.{Rec}
use Rattle.redirect_map.specs.Index.{IsRecordOf}
use Rattle.logger.specs.Lanes.{IsLane, IsKeptTrimmedOrIdle, IsBareAfter, IsHeadAt, IsHeld, held_in, taken_in, logger_of, lane_owner, segments_in, pool_of}
use Rattle.logger.specs.declared.lane.HeldSegment.{HeldSegment}
use Rattle.logger.specs.declared.lane.Lane.{Lane}
use Rattle.wol_promise.specs.Manager.{Held, Recovers, SegmentPart, SaysOwnerOrFree, extents_held, is_homed_in}
use Rattle.wol_promise.specs.Ruled.{Noted, entries_of}
use Rattle.wol_promise.specs.Stands.{LieInHome, Upholds, StandsFor, IsWhole}
use Rattle.wol_promise.proofs.Choices.{AreLogs}
use Rattle.wol_promise.proofs.Covers.{goes_is_may_go}
use Rattle.wol_promise.proofs.Lists.{all_parts, all_mid, all_joined}
use Rattle.wol_promise.proofs.LogWrites.{says_owner, around}
use Rattle.wol_promise.proofs.Retires.{AreEmpty}
use Rattle.wol_promise.proofs.SoundSegments.{IsSoundBetween, sound_log, sound_idle, sound_trimmed}
use Rattle.wol_promise.proofs.Stops.{still_stops}
use Rattle.wol_promise.proofs.Trims.{trimmed}
use Rattle.manager.specs.Reading.{IsReadThrough}
use Rattle.manager.specs.Seen.{Logs, parts_of, seen, all_held}
use Rattle.manager.specs.Stands.{Keeps, IsReady}
use Rattle.manager.specs.Stops.{ImageSince, HeldSince}
use Rattle.manager.specs.declared.base.ManagerBase.{ManagerBase}
use Rattle.manager.specs.declared.manager.Manager.{Manager}
use Rattle.manager.proofs.DropKeeps.{none_valid, named_trimmed}
use Rattle.manager.proofs.DropPiece.{Piece, piece, was_held as its_held, was_lane as its_lane, set_mid}
use Rattle.volume_parts.proofs.Entries.{At, among, kept_marks, keep_within}
use Rattle.volume_parts.proofs.Elements.{all_at, get_set}
use Rattle.volume_parts.proofs.Lanes.{held_as, InLanes, in_lanes}
use Rattle.manager.proofs.Putting.{Pieces, segment_failed}
use Rattle.manager.proofs.ReadContent.{unbroken, upholds_up}
use Rattle.manager.proofs.SinceReads.{StopsHere, home_since, logs_around, image_since, stops_with}
use Rattle.manager.proofs.ReadKeeps.{held_read, upholds_read}
use Rattle.volume_parts.proofs.Vanishes.{gives_up, holds_trimmed, holds_without, three_stops, segment_breaks}
use Rattle.manager.proofs.WentHome.{risen}
use Rattle.manager.specs.declared.part.Part.TheVariants as part

-- ---- the segment's images

module _ {D : Type 0} (tells : Bool) (state : D → State) (m : Manager D) (b : ManagerBase) (notes : List Noted) (logs : Logs) (ready : IsReady state m)
    (u : Upholds (parts_of tells state) b.volume.began (seen m logs) notes (writes (entries_of notes)) None) (up : m.down ≡ None)
    (k : ℕ) (old : Lane D) (lane : slice_get m.lanes.items k ≡ Some old) (i : ℕ) (o : HeldSegment D) (there : slice_get (held_in old) i ≡ Some o) (version : ℕ) (e : Indexed) (at : At m.index.entries version e)
    (lane_is : e.listed.lane ≡ k) (index_is : e.index ≡ o.index) (r : Rec) (rec : IsRecordOf e r)
    (hf : List (Held (Spun D))) (records : List Record) (hb : List (Held (Spun D))) (held : all_held 0 m.lanes.items logs ≡ hf ++ held_as k o records ∷ hb) (here : IsTrue tells → m.down ≡ None → Holds state o.segment records)
    (few : length e.listed.keep ≤ 128) (given : ℕ) (fits : given < 2 ^ 128) (bits : IsMask e.listed.first (goes (listed_in m.index.entries) e.listed) given) (owned : m.id ≡ b.volume.began.owner) where
  abbrev keep : ℕ
  keep = bit_and r.keep (bit_not w128 given)

  pub p : Piece tells state m b notes logs ready u up k old lane i o there version e at lane_is index_is r rec hf records hb held here
  p = piece tells state m b notes logs ready u up k old lane i o there version e at lane_is index_is r rec hf records hb held here

  abbrev pub before_ : List Record
  before_ = p.fs ++ p.it ∷ p.gs

  abbrev pub after_ : List Record
  after_ = p.fs ++ trimmed p.it (bit_and r.keep (bit_not w128 given)) ∷ p.gs

  -- what its image may be: a log with the record as it was or as it is trimmed, or idle where no record of it keeps a block then
  abbrev pub Left : List Block → Type 0
  Left c = IsLog c b.volume.began.owner (p.fs ++ p.it ∷ p.gs) ⊎ (IsLog c b.volume.began.owner (p.fs ++ trimmed p.it (bit_and r.keep (bit_not w128 given)) ∷ p.gs) ⊎ (AreEmpty (p.fs ++ trimmed p.it (bit_and r.keep (bit_not w128 given)) ∷ p.gs) × IsIdle c))

  abbrev s : Held (Spun D)
  s = record { part = part_of o.segment; lane = k; index = o.index; broken = false; records = p.fs ++ p.it ∷ p.gs }

  abbrev t : Held (Spun D)
  t = record { part = part_of o.segment; lane = k; index = o.index; broken = false; records = p.fs ++ trimmed p.it (bit_and r.keep (bit_not w128 given)) ∷ p.gs }

  owner_is : owner_of o.segment ≡ b.volume.began.owner
  owner_is = (its_held tells state m b notes logs ready u up k old lane i o there version e at lane_is index_is r rec hf records hb held here).owned
      ∙ (its_lane tells state m b notes logs ready u up k old lane i o there version e at lane_is index_is r rec hf records hb held here).owner ∙ owned

  as_owned : (rs : List Record) (c : List Block) → IsLog c (owner_of o.segment) rs → IsLog c b.volume.began.owner rs
  as_owned rs c log = subst (λ (v : ℕ). IsLog c v rs) owner_is log

  kept_ : (keeping (listed_in m.index.entries) e.listed).keep ≡ marks_of p.it.head.count (bit_and r.keep (bit_not w128 given))
  kept_ = kept_marks m.index.entries e r rec few given fits bits ∙ ap (λ (c : ℕ). marks_of c (bit_and r.keep (bit_not w128 given))) (sym p.count_is)

  module _ (told : IsTrue tells) where
    -- the record trimmed or not, the other records stay
    pub cut_left : (c : List Block) → IsKeptOrTrimmed (owner_of o.segment) (p.fs ++ p.it ∷ p.gs) (length p.fs) (trimmed p.it (bit_and r.keep (bit_not w128 given))) c → Left c
    cut_left c is = ⊎_elim (λ log. inl (as_owned (p.fs ++ p.it ∷ p.gs) c log))
        (λ log. inr (inl (as_owned (p.fs ++ trimmed p.it keep ∷ p.gs) c (subst (IsLog c (owner_of o.segment)) (set_mid p.fs p.it (trimmed p.it keep) p.gs) log)))) is

    pub empty_then : IsBareAfter state o.segment r.pos (record { form = 2; owner = m.id; version = version; first = r.lbn; count = r.count; mask = r.keep }) (bit_and r.keep (bit_not w128 given)) → AreEmpty (p.fs ++ trimmed p.it (bit_and r.keep (bit_not w128 given)) ∷ p.gs)
    empty_then bare = none_valid (owner_of o.segment) (p.fs ++ trimmed p.it keep ∷ p.gs)
        (named_trimmed (owner_of o.segment) keep p.fs p.it p.gs (subst (λ (n : ℕ). keep < 2 ^ n) (sym p.count_is) (keep_within m.index.entries e r rec few given fits bits)) (p.holds told).disk.log.named)
        (ap count_valid (sym (set_mid p.fs p.it (trimmed p.it keep) p.gs)) ∙ bare (p.fs ++ p.it ∷ p.gs) (length p.fs) p.it (p.holds told) (p.head_at told))

    -- or the segment was to be freed
    pub freed_left : IsBareAfter state o.segment r.pos (record { form = 2; owner = m.id; version = version; first = r.lbn; count = r.count; mask = r.keep }) (bit_and r.keep (bit_not w128 given))
        → (c : List Block) → IsKeptTrimmedOrIdle (owner_of o.segment) (p.fs ++ p.it ∷ p.gs) (length p.fs) (trimmed p.it (bit_and r.keep (bit_not w128 given))) c → Left c
    freed_left bare c is = ⊎_elim (cut_left c) (λ idle. inr (inr (empty_then bare, idle))) is

    -- so it is at each moment of a call that says so of any records
    pub cut_leaves : (n : HeldSegment D)
        → ((rs : List Record) (j : ℕ) (q : Record) → Holds state o.segment rs → IsHeadAt rs j q r.pos (record { form = 2; owner = m.id; version = version; first = r.lbn; count = r.count; mask = r.keep })
        → LeavesOnly (disk_of state o.segment) (disk_of state n.segment) (IsKeptOrTrimmed (owner_of o.segment) rs j (trimmed q (bit_and r.keep (bit_not w128 given)))))
        → LeavesOnly (disk_of state o.segment) (disk_of state n.segment) Left
    cut_leaves n any = widened (any (p.fs ++ p.it ∷ p.gs) (length p.fs) p.it (p.holds told) (p.head_at told)) cut_left

    pub freed_leaves : (n : HeldSegment D) → IsBareAfter state o.segment r.pos (record { form = 2; owner = m.id; version = version; first = r.lbn; count = r.count; mask = r.keep }) (bit_and r.keep (bit_not w128 given))
        → ((rs : List Record) (j : ℕ) (q : Record) → Holds state o.segment rs → IsHeadAt rs j q r.pos (record { form = 2; owner = m.id; version = version; first = r.lbn; count = r.count; mask = r.keep })
        → LeavesOnly (disk_of state o.segment) (disk_of state n.segment) (IsKeptTrimmedOrIdle (owner_of o.segment) rs j (trimmed q (bit_and r.keep (bit_not w128 given)))))
        → LeavesOnly (disk_of state o.segment) (disk_of state n.segment) Left
    freed_leaves n bare any = widened (any (p.fs ++ p.it ∷ p.gs) (length p.fs) p.it (p.holds told) (p.head_at told)) (freed_left bare)

    -- ---- what is recovered

    w : IsWhole (parts_of tells state) b.volume.began (writes (entries_of notes)) m.next m.home (hf ++ s ∷ hb) m.index.entries
    w = (p.upheld.calm refl).whole told

    may : (blk : ℕ) → goes (listed_in m.index.entries) e.listed blk ≡ true → may_go (covers_of (extents_held (hf ++ s ∷ hb))) (is_homed_in m.index.entries) (extent_of p.it).cover blk ≡ true
    may blk goes_ = goes_is_may_go (hf ++ s ∷ hb) m.index.entries s (length p.fs) p.it e blk w.index p.its (among at) goes_

    pub holds_before : (home : List Block) → IsImageOf (state_of state m.home).values home → HoldsArray b.volume.began.array (writes (entries_of notes)) m.next home (extents_held (hf ++ s ∷ hb)) (is_homed_in m.index.entries)
    holds_before home is = w.holds home (told, is)

    pub holds_after : (home : List Block) → IsImageOf (state_of state m.home).values home → HoldsArray b.volume.began.array (writes (entries_of notes)) m.next home (extents_held (hf ++ t ∷ hb)) (is_homed_in m.index.entries)
    holds_after home is = holds_trimmed hf (part_of o.segment) k o.index hb p.fs p.it p.gs keep m.index.entries e p.its kept_ b.volume.began.array (writes (entries_of notes)) m.next (is_homed_in m.index.entries) may (part_of o.segment) home (holds_before home is)

    pub holds_less : AreEmpty (p.fs ++ trimmed p.it (bit_and r.keep (bit_not w128 given)) ∷ p.gs)
        → (home : List Block) → IsImageOf (state_of state m.home).values home → HoldsArray b.volume.began.array (writes (entries_of notes)) m.next home (extents_held (hf ++ hb)) (is_homed_in m.index.entries)
    holds_less empty home is = holds_without hf (part_of o.segment) k o.index hb p.fs p.it p.gs keep m.index.entries e p.its kept_ b.volume.began.array (writes (entries_of notes)) m.next (is_homed_in m.index.entries) may empty home (holds_before home is)

    -- whichever of its images the segment has, and the others logs of what they hold
    pub left_stops : (of_home : List Block → Type 0) (of_held : Held (Spun D) → List Block → Type 0) (v : Held (Spun D)) → ((home : List Block) → of_home home → IsImageOf (state_of state m.home).values home)
        → AreLogs of_held b.volume.began.owner hf → AreLogs of_held b.volume.began.owner hb → ((c : List Block) → of_held v c → Left c)
        → Recovers of_home of_held b.volume.began.owner (hf ++ v ∷ hb) (IsCut b.volume.began.array (writes (entries_of notes)) [])
    left_stops of_home of_held v home_image front back image = three_stops of_held b.volume.began.owner of_home b.volume.began.array (writes (entries_of notes)) [] m.next (is_homed_in m.index.entries) hf hb v s t front back image
        (λ home is. holds_before home (home_image home is)) (λ home is. holds_after home (home_image home is))

    -- the segment is no part of the volume any more
    pub less_stops : (of_home : List Block → Type 0) (of_held : Held (Spun D) → List Block → Type 0) → ((home : List Block) → of_home home → IsImageOf (state_of state m.home).values home)
        → AreLogs of_held b.volume.began.owner hf → AreLogs of_held b.volume.began.owner hb → AreEmpty (p.fs ++ trimmed p.it (bit_and r.keep (bit_not w128 given)) ∷ p.gs)
        → Recovers of_home of_held b.volume.began.owner (hf ++ hb) (IsCut b.volume.began.array (writes (entries_of notes)) [])
    less_stops of_home of_held home_image front back empty = still_stops of_home of_held b.volume.began.owner b.volume.began.array (writes (entries_of notes)) m.next (is_homed_in m.index.entries) (hf ++ hb) []
        (all_joined (λ (v : Held (Spun D)). (c : List Block) → of_held v c → IsLog c b.volume.began.owner v.records) hf hb front back) (λ home is. holds_less empty home (home_image home is))

    -- whichever of them it is, the segment is sound
    pub left_between : (c : List Block) → Left c → IsSoundBetween b.volume.began.owner b.volume.began.home_blocks hf hb c
    left_between c is =
        let own = all_mid (LieInHome b.volume.began.home_blocks) hf s hb (p.upheld.known told).within in
        let apart = subst (λ (l : List Extent). AreDistinct (covers_of l)) (around hf s hb) w.distinct in
        ⊎_elim (λ log. sound_log b.volume.began.owner b.volume.began.home_blocks hf hb c (p.fs ++ p.it ∷ p.gs) log own apart) (⊎_elim
        (λ log. sound_trimmed b.volume.began.owner b.volume.began.home_blocks hf hb c p.fs p.it (trimmed p.it keep) p.gs (λ blk. goes (listed_in m.index.entries) e.listed blk)
        (gives_up hf (part_of o.segment) k o.index hb p.fs p.it p.gs keep m.index.entries e p.its kept_) log own apart)
        (λ idle. sound_idle b.volume.began.owner b.volume.began.home_blocks hf hb c (p.fs ++ p.it ∷ p.gs) idle.1 apart)) is

    -- the other segments are logs now
    pub sides : AreLogs (λ (v : Held (Spun D)). (parts_of tells state).may_be v.part) b.volume.began.owner hf × AreLogs (λ (v : Held (Spun D)). (parts_of tells state).may_be v.part) b.volume.began.owner hb
    sides = all_parts (λ (v : Held (Spun D)). (c : List Block) → (parts_of tells state).may_be v.part c → IsLog c b.volume.began.owner v.records) hf s hb w.logs

pub says_free : (owner : ℕ) (c : List Block) → IsIdle c → SaysOwnerOrFree owner c
says_free owner [] idle = absurd idle
says_free owner (x ∷ c) idle = inr idle

-- ---- a call of the segment failed

module _ {D : Type 0} (tells : Bool) (state : D → State) (sound : (d : D) → IsDisk (state d)) (m : Manager D) (b : ManagerBase) (notes : List Noted) (kp : Keeps tells state m b notes) (up : m.down ≡ None)
    (k : ℕ) (old new : Lane D) (lane : slice_get m.lanes.items k ≡ Some old) (is_lane : IsLane state new) (untaken : taken_in new ≡ None) (i : ℕ) (o : HeldSegment D) (there : slice_get (held_in old) i ≡ Some o)
    (version : ℕ) (e : Indexed) (at : At m.index.entries version e) (lane_is : e.listed.lane ≡ k) (index_is : e.index ≡ o.index) (r : Rec) (rec : IsRecordOf e r)
    (few : length e.listed.keep ≤ 128) (given : ℕ) (fits : given < 2 ^ 128) (bits : IsMask e.listed.first (goes (listed_in m.index.entries) e.listed) given) where
  abbrev R : HeldSegment D → List Record → Type 0
  R h rs = IsTrue tells → m.down ≡ None → Holds state h.segment rs

  pub split : InLanes R k 0 m.lanes.items kp.logs k i old o
  split = in_lanes R k 0 m.lanes.items kp.logs k i old o (omega arith) lane there kp.held

  abbrev pub LeftNow : List Block → Type 0
  LeftNow c = Left tells state m b notes kp.logs kp.ready (upholds_up tells state m b notes kp up) up k old lane i o there version e at lane_is index_is r rec split.front split.records split.back split.is split.here few given fits bits kp.locks.owner c

  pub cut_now : (n : HeldSegment D) → ((rs : List Record) (j : ℕ) (q : Record) → Holds state o.segment rs → IsHeadAt rs j q r.pos (record { form = 2; owner = m.id; version = version; first = r.lbn; count = r.count; mask = r.keep })
      → LeavesOnly (disk_of state o.segment) (disk_of state n.segment) (IsKeptOrTrimmed (owner_of o.segment) rs j (trimmed q (bit_and r.keep (bit_not w128 given)))))
      → (told : IsTrue tells) → LeavesOnly (disk_of state o.segment) (disk_of state n.segment) LeftNow
  cut_now n any told = cut_leaves tells state m b notes kp.logs kp.ready (upholds_up tells state m b notes kp up) up k old lane i o there version e at lane_is index_is r rec split.front split.records split.back split.is split.here few given fits bits kp.locks.owner told n any

  pub freed_now : (n : HeldSegment D) → IsBareAfter state o.segment r.pos (record { form = 2; owner = m.id; version = version; first = r.lbn; count = r.count; mask = r.keep }) (bit_and r.keep (bit_not w128 given))
      → ((rs : List Record) (j : ℕ) (q : Record) → Holds state o.segment rs → IsHeadAt rs j q r.pos (record { form = 2; owner = m.id; version = version; first = r.lbn; count = r.count; mask = r.keep })
      → LeavesOnly (disk_of state o.segment) (disk_of state n.segment) (IsKeptTrimmedOrIdle (owner_of o.segment) rs j (trimmed q (bit_and r.keep (bit_not w128 given)))))
      → (told : IsTrue tells) → LeavesOnly (disk_of state o.segment) (disk_of state n.segment) LeftNow
  freed_now n bare any told = freed_leaves tells state m b notes kp.logs kp.ready (upholds_up tells state m b notes kp up) up k old lane i o there version e at lane_is index_is r rec split.front split.records split.back split.is split.here few given fits bits kp.locks.owner told n bare any

  module _ (n : HeldSegment D) (held : held_in new ≡ slice_set (held_in old) i n) (same_index : n.index ≡ o.index) (same : IsSame o.segment n.segment) (broken : IsBroken n.segment) (rose : Rose (disk_of state o.segment).faults (disk_of state n.segment).faults)
      (leaves : (told : IsTrue tells) → LeavesOnly (disk_of state o.segment) (disk_of state n.segment) LeftNow) (nt : Noted) (broke : nt.entry.operation ≡ Broke []) (unruled : nt.after_drain ≡ false) where
    abbrev was : Held (Spun D)
    was = held_as k o split.records

    abbrev now : Held (Spun D)
    now = record was { part = part_of n.segment; broken = true }

    wh : IsHeld state (logger_of old) (lane_owner old) (segments_in old) (pool_of old) o
    wh = its_held tells state m b notes kp.logs kp.ready (upholds_up tells state m b notes kp up) up k old lane i o there version e at lane_is index_is r rec split.front split.records split.back split.is split.here

    nh : IsHeld state (logger_of new) (lane_owner new) (segments_in new) (pool_of new) n
    nh = all_at (IsHeld state (logger_of new) (lane_owner new) (segments_in new) (pool_of new)) (held_in new) i n (ap (λ (hs : List (HeldSegment D)). slice_get hs i) held ∙ get_set (held_in old) i o n there) is_lane.each

    size : (disk_of state n.segment).size ≡ (disk_of state o.segment).size
    size = nh.shape.size ∙ same.blocks ∙ sym wh.shape.size

    logger_is : slice_get b.volume.began.view k ≡ Some (logger_of old)
    logger_is = ap (λ (l : List ℕ). slice_get l k) (sym kp.locks.view) ∙ slice_get-map logger_of m.lanes.items k ∙ ap (option_map logger_of) lane

    left : (told : IsTrue tells) (c : List Block) → IsImageOf (disk_of state n.segment).values c → LeftNow c
    left told c is = now_leaves (leaves told) (sound n.segment.part.inner) c is

    says : (c : List Block) → LeftNow c → SaysOwnerOrFree b.volume.began.owner c
    says c is = ⊎_elim (says_owner b.volume.began.owner c _) (λ rest. ⊎_elim (says_owner b.volume.began.owner c _) (λ idle. says_free b.volume.began.owner c idle.1) rest) is

    fell : StandsFor (parts_of tells state) b.volume.began (record (seen m kp.logs) { held = split.front ++ now ∷ split.back; ups = slice_set m.ups.items k true; down = Some (SegmentPart (logger_of old) o.index) }) (notes ++ nt ∷ [])
    fell = segment_breaks (parts_of tells state) b.volume.began (seen m kp.logs) m.home_up (slice_set m.ups.items k true) (length-set m.ups.items k true) notes nt (upholds_up tells state m b notes kp up) (unbroken tells state m b notes kp up)
        broke unruled split.front was split.back (part_of n.segment) split.is size same.volume (logger_of old) logger_is (risen (disk_of state o.segment).faults (disk_of state n.segment).faults rose)
        (λ c is. says c (left is.0 c is.1))
        (λ told c is. left_between tells state m b notes kp.logs kp.ready (upholds_up tells state m b notes kp up) up k old lane i o there version e at lane_is index_is r rec split.front split.records split.back split.is split.here few given fits bits kp.locks.owner told c
        (left told c is.1))
        (λ told. let both_sides = sides tells state m b notes kp.logs kp.ready (upholds_up tells state m b notes kp up) up k old lane i o there version e at lane_is index_is r rec split.front split.records split.back split.is split.here few given fits bits kp.locks.owner told in
        left_stops tells state m b notes kp.logs kp.ready (upholds_up tells state m b notes kp up) up k old lane i o there version e at lane_is index_is r rec split.front split.records split.back split.is split.here few given fits bits kp.locks.owner told
        ((parts_of tells state).may_be m.home) (λ v. (parts_of tells state).may_be v.part) now (λ home is. is.1) both_sides.0 both_sides.1 (λ c is. left told c is.1))

    pub failed_pieces : Pieces tells state m b (notes ++ nt ∷ []) (slice_set m.lanes.items k new) m.index.entries m.next (slice_set m.ups.items k true) (Some (part.Segment (logger_of old) o.index))
    failed_pieces = segment_failed tells state m b notes (notes ++ nt ∷ []) kp k old new untaken i o n R split held same_index broken (slice_set m.ups.items k true) (part.Segment (logger_of old) o.index) fell.upholds

-- ---- at any moment since an earlier one, after which there were reads alone

module _ {D : Type 0} (tells : Bool) (state : D → State) (sound : (d : D) → IsDisk (state d)) (told : IsTrue tells) (was m : Manager D) (read : IsReadThrough state was m) (ready : IsReady state m) (was_up : was.down ≡ None) (up : m.down ≡ None)
    (b : ManagerBase) (notes : List Noted) (kw : Keeps tells state was b notes)
    (k : ℕ) (old new : Lane D) (lane : slice_get m.lanes.items k ≡ Some old) (i : ℕ) (o : HeldSegment D) (there : slice_get (held_in old) i ≡ Some o)
    (version : ℕ) (e : Indexed) (at : At m.index.entries version e) (lane_is : e.listed.lane ≡ k) (index_is : e.index ≡ o.index) (r : Rec) (rec : IsRecordOf e r)
    (few : length e.listed.keep ≤ 128) (given : ℕ) (fits : given < 2 ^ 128) (bits : IsMask e.listed.first (goes (listed_in m.index.entries) e.listed) given) where
  abbrev RThen : HeldSegment D → List Record → Type 0
  RThen h rs = IsTrue tells → m.down ≡ None → Holds state h.segment rs

  pub u_then : Upholds (parts_of tells state) b.volume.began (seen m kw.logs) notes (writes (entries_of notes)) None
  u_then = upholds_read tells state was m b notes read ready was_up kw

  pub owned_then : m.id ≡ b.volume.began.owner
  owned_then = read.same.id ∙ kw.locks.owner

  -- ---- the segment stays in the lane

  pub split_then : InLanes RThen k 0 m.lanes.items kw.logs k i old o
  split_then = in_lanes RThen k 0 m.lanes.items kw.logs k i old o (omega arith) lane there (held_read tells state was m b notes read ready was_up kw)

  abbrev pub LeftThen : List Block → Type 0
  LeftThen c = Left tells state m b notes kw.logs ready u_then up k old lane i o there version e at lane_is index_is r rec split_then.front split_then.records split_then.back split_then.is split_then.here few given fits bits owned_then c

  pub cut_then : (n : HeldSegment D) → ((rs : List Record) (j : ℕ) (q : Record) → Holds state o.segment rs → IsHeadAt rs j q r.pos (record { form = 2; owner = m.id; version = version; first = r.lbn; count = r.count; mask = r.keep })
      → LeavesOnly (disk_of state o.segment) (disk_of state n.segment) (IsKeptOrTrimmed (owner_of o.segment) rs j (trimmed q (bit_and r.keep (bit_not w128 given)))))
      → LeavesOnly (disk_of state o.segment) (disk_of state n.segment) LeftThen
  cut_then n any = cut_leaves tells state m b notes kw.logs ready u_then up k old lane i o there version e at lane_is index_is r rec split_then.front split_then.records split_then.back split_then.is split_then.here few given fits bits owned_then told n any

  pub freed_then : (n : HeldSegment D) → IsBareAfter state o.segment r.pos (record { form = 2; owner = m.id; version = version; first = r.lbn; count = r.count; mask = r.keep }) (bit_and r.keep (bit_not w128 given))
      → ((rs : List Record) (j : ℕ) (q : Record) → Holds state o.segment rs → IsHeadAt rs j q r.pos (record { form = 2; owner = m.id; version = version; first = r.lbn; count = r.count; mask = r.keep })
      → LeavesOnly (disk_of state o.segment) (disk_of state n.segment) (IsKeptTrimmedOrIdle (owner_of o.segment) rs j (trimmed q (bit_and r.keep (bit_not w128 given)))))
      → LeavesOnly (disk_of state o.segment) (disk_of state n.segment) LeftThen
  freed_then n bare any = freed_leaves tells state m b notes kw.logs ready u_then up k old lane i o there version e at lane_is index_is r rec split_then.front split_then.records split_then.back split_then.is split_then.here few given fits bits owned_then told n bare any

  module _ (n : HeldSegment D) (held : held_in new ≡ slice_set (held_in old) i n) (same_index : n.index ≡ o.index) (leaves : LeavesOnly (disk_of state o.segment) (disk_of state n.segment) LeftThen) where
    image_left : (c : List Block) → HeldSince state (all_held 0 was.lanes.items kw.logs) None (held_as k n split_then.records) c → LeftThen c
    image_left =
        let its = p tells state m b notes kw.logs ready u_then up k old lane i o there version e at lane_is index_is r rec split_then.front split_then.records split_then.back split_then.is split_then.here few given fits bits owned_then in
        image_since tells state sound told was m read ready was_up b notes kw split_then.front k o n split_then.records split_then.back split_then.is same_index LeftThen (λ c log. inl (subst (IsLog c b.volume.began.owner) (its.records_are told) log)) leaves

    pub in_place_stops : StopsHere tells state sound told was m read ready was_up b notes kw (slice_set m.lanes.items k new)
    in_place_stops =
        let around = logs_around tells state sound told was m read ready was_up b notes kw split_then.front (held_as k o split_then.records) split_then.back split_then.is in
        stops_with tells state sound told was m read ready was_up b notes kw (slice_set m.lanes.items k new) (split_then.lists split_then.records) (split_then.then_all (λ h rs. ⊤) (λ h rs holds. tt) new n split_then.records held tt) (split_then.front ++ held_as k n split_then.records ∷ split_then.back) (split_then.then_is new n split_then.records held)
        (left_stops tells state m b notes kw.logs ready u_then up k old lane i o there version e at lane_is index_is r rec split_then.front split_then.records split_then.back split_then.is split_then.here few given fits bits owned_then told
        (ImageSince state was.home m.home) (HeldSince state (all_held 0 was.lanes.items kw.logs) None) (held_as k n split_then.records) (home_since state was m read) around.0 around.1 image_left)

  -- ---- the segment went to the pool

  module _ (held : held_in new ≡ remove (held_in old) i)
      (bare : IsBareAfter state o.segment r.pos (record { form = 2; owner = m.id; version = version; first = r.lbn; count = r.count; mask = r.keep }) (bit_and r.keep (bit_not w128 given))) where
    pub less_stops_so : StopsHere tells state sound told was m read ready was_up b notes kw (slice_set m.lanes.items k new)
    less_stops_so =
        let around = logs_around tells state sound told was m read ready was_up b notes kw split_then.front (held_as k o split_then.records) split_then.back split_then.is in
        stops_with tells state sound told was m read ready was_up b notes kw (slice_set m.lanes.items k new) split_then.rest (split_then.rest_all (λ h rs. ⊤) (λ h rs holds. tt) new held) (split_then.front ++ split_then.back) (split_then.rest_is new held)
        (less_stops tells state m b notes kw.logs ready u_then up k old lane i o there version e at lane_is index_is r rec split_then.front split_then.records split_then.back split_then.is split_then.here few given fits bits owned_then told
        (ImageSince state was.home m.home) (HeldSince state (all_held 0 was.lanes.items kw.logs) None) (home_since state was m read) around.0 around.1
        (empty_then tells state m b notes kw.logs ready u_then up k old lane i o there version e at lane_is index_is r rec split_then.front split_then.records split_then.back split_then.is split_then.here few given fits bits owned_then told bare))
