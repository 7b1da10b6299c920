-- What a manager keeps up, it keeps up after reads.
use Rattle.std.proofs.Common.{◌≡◌, ◌<◌, ◌≤◌, ◌+◌, ◌-◌, ℕ, zero, suc, Bool, List, [], ◌∷◌, ◌++◌, map, length, Option, None, Some, refl, sym, ap, subst, ◌∙◌, arith, cond}
use Rattle.std.specs.Prelude.{IsTrue, slice_get, slice_range, option_map, is_some}
use Rattle.std.specs.List.{AllByRecursion, AllZip}
use Rattle.std.proofs.lemmas.Option.{slice_get-map}
use Rattle.wol_disk.specs.Disk.{State, Block, Values, IsImageOf}
use Rattle.wol_disk.proofs.Images.{only_image}
use Rattle.wol_model.specs.History.{Read, Broke, worker, writes}
use Rattle.wol_model.specs.Blocks.{after}
use Rattle.wol_model.specs.Log.{Record, IsLog}
use Rattle.redirect_map.specs.Index.{Contents}
use Rattle.wol_promise.proofs.Lists.{all_map}
use Rattle.wol_promise.specs.Manager.{ManagerSeen, PartName, IsPartOf, AreInUse}
use Rattle.wol_promise.specs.Ruled.{Noted, entries_of, HasPassed, last_look, times_passed}
use Rattle.wol_promise.specs.Stands.{Upholds, StandsFor}
use Rattle.spin_model.specs.Spun.{state_of}
use Rattle.spin_model.specs.declared.spun.Spun.{Spun}
use Rattle.log_segment.specs.Segment.{Holds, part_of, disk_of, owner_of}
use Rattle.logger.specs.Lanes.{held_in, logger_of, lane_owner, segments_in, pool_of, IsHeld}
use Rattle.logger.specs.declared.lane.HeldSegment.{HeldSegment}
use Rattle.logger.specs.declared.lane.Lane.{Lane}
use Rattle.manager.specs.Causes.{PartRose}
use Rattle.manager.specs.Reading.{SegmentRead, LaneRead, IsReadThrough}
use Rattle.manager.specs.Seen.{Logs, AllHold, AllLanesHold, all_held, all_taken, parts_of, seen, down_of, name_of, look_of_manager}
use Rattle.manager.specs.Stands.{Keeps, Stands, IsNote, IsReady, IsReadyLane, AreNamed, Locks, nones_in, nones_at, HasTakenFew, takes_in, takes_of, AreStill}
use Rattle.manager.specs.declared.base.LaneBase.{LaneBase}
use Rattle.manager.specs.declared.base.ManagerBase.{ManagerBase}
use Rattle.manager.specs.declared.manager.Manager.{Manager}
use Rattle.manager.specs.declared.part.Part.{Part}
use Rattle.manager.specs.declared.part.Part.TheVariants.{Home, Segment}
use Rattle.wol_promise.proofs.Kept.{read_more}
use Rattle.wol_promise.proofs.OneMore.{last_more}
use Rattle.manager.proofs.Frames.{none_passed}
use Rattle.volume_parts.proofs.Held.{read_lanes}
use Rattle.volume_parts.proofs.Lanes.{held_as, standing}
use Rattle.manager.proofs.ReadContent.{unbroken, upholds_up}
use Rattle.volume_parts.proofs.Elements.{zip_length, zip_at}
use Rattle.volume_parts.proofs.PartReads.{above_none}
use Rattle.volume_parts.proofs.Touched.{IsTouched, touched_, touched, read_breaks, same_use}
use Rattle.manager.proofs.ReadyLanes.{down_counts}

-- ---- lanes

module _ {D : Type 0} (state : D → State) where
  -- each segment with its records, before and after
  module _ (R S : HeldSegment D → List Record → Type 0) (so : (h i : HeldSegment D) (rs : List Record) → SegmentRead state h i → R h rs → S i rs) where
    hold_read : (hs is : List (HeldSegment D)) (logs : List (List Record)) → AllZip (SegmentRead state) hs is → AllHold R hs logs → AllHold S is logs
    hold_read [] [] [] zip all = tt
    hold_read [] [] (rs ∷ logs) zip all = absurd all
    hold_read [] (i ∷ is) logs zip all = absurd zip
    hold_read (h ∷ hs) [] logs zip all = absurd zip
    hold_read (h ∷ hs) (i ∷ is) [] zip all = absurd all
    hold_read (h ∷ hs) (i ∷ is) (rs ∷ logs) zip all = (so h i rs zip.0 all.0, hold_read hs is logs zip.1 all.1)

    pub lanes_read : (ls ms : List (Lane D)) (logs : Logs) → AllZip (LaneRead state) ls ms → AllLanesHold R ls logs → AllLanesHold S ms logs
    lanes_read [] [] [] zip all = tt
    lanes_read [] [] (rs ∷ logs) zip all = absurd all
    lanes_read [] (m ∷ ms) logs zip all = absurd zip
    lanes_read (l ∷ ls) [] logs zip all = absurd zip
    lanes_read (l ∷ ls) (m ∷ ms) [] zip all = absurd all
    lanes_read (l ∷ ls) (m ∷ ms) (rs ∷ logs) zip all = (hold_read (held_in l) (held_in m) rs zip.0.held all.0, lanes_read ls ms logs zip.1 all.1)

  pub same_taken : (k : ℕ) (ls ms : List (Lane D)) → AllZip (LaneRead state) ls ms → all_taken k ms ≡ all_taken k ls
  same_taken k [] [] zip = refl
  same_taken k [] (m ∷ ms) zip = absurd zip
  same_taken k (l ∷ ls) [] zip = absurd zip
  same_taken k (l ∷ ls) (m ∷ ms) zip = rw (zip.0.taken, same_taken (k + 1) ls ms zip.1) refl

  pub same_loggers : (ls ms : List (Lane D)) → AllZip (LaneRead state) ls ms → map logger_of ms ≡ map logger_of ls
  same_loggers [] [] zip = refl
  same_loggers [] (m ∷ ms) zip = absurd zip
  same_loggers (l ∷ ls) [] zip = absurd zip
  same_loggers (l ∷ ls) (m ∷ ms) zip = λ i. zip.0.same.logger i ∷ same_loggers ls ms zip.1 i

  pub same_named : (ls ms : List (Lane D)) (bs : List LaneBase) → AllZip (LaneRead state) ls ms → AreNamed ls bs → AreNamed ms bs
  same_named [] [] [] zip named = tt
  same_named [] [] (b ∷ bs) zip named = absurd named
  same_named [] (m ∷ ms) bs zip named = absurd zip
  same_named (l ∷ ls) [] bs zip named = absurd zip
  same_named (l ∷ ls) (m ∷ ms) [] zip named = absurd named
  same_named (l ∷ ls) (m ∷ ms) (b ∷ bs) zip named = let s = zip.0.same in let n = named.0 in (
    record {
      logger = s.logger ∙ n.logger;
      pool = s.pool.0 ∙ n.pool;
      pool_number = s.pool.1 ∙ n.pool_number;
      spindle = s.spindle.0 ∙ n.spindle;
      spindle_number = s.spindle.1 ∙ n.spindle_number;
      nones = subst (λ es. b.nones ≤ nones_in es) (sym zip.0.pool) n.nones;
    },
    same_named ls ms bs zip.1 named.1,
  )

  pub same_nones : (ls ms : List (Lane D)) (bs : List LaneBase) (k : ℕ) → AllZip (LaneRead state) ls ms → nones_at ms bs k ≡ nones_at ls bs k
  same_nones [] [] bs k zip = refl
  same_nones [] (m ∷ ms) bs k zip = absurd zip
  same_nones (l ∷ ls) [] bs k zip = absurd zip
  same_nones (l ∷ ls) (m ∷ ms) [] zero zip = refl
  same_nones (l ∷ ls) (m ∷ ms) [] (suc k) zip = same_nones ls ms [] k zip.1
  same_nones (l ∷ ls) (m ∷ ms) (b ∷ bs) zero zip = ap (λ es. nones_in es - b.nones) zip.0.pool
  same_nones (l ∷ ls) (m ∷ ms) (b ∷ bs) (suc k) zip = same_nones ls ms bs k zip.1

  pub same_takes : (ls ms : List (Lane D)) (bs : List LaneBase) → AllZip (LaneRead state) ls ms → takes_of ms bs ≡ takes_of ls bs
  same_takes [] [] bs zip = refl
  same_takes [] (m ∷ ms) bs zip = absurd zip
  same_takes (l ∷ ls) [] bs zip = absurd zip
  same_takes (l ∷ ls) (m ∷ ms) [] zip = refl
  same_takes (l ∷ ls) (m ∷ ms) (b ∷ bs) zip = λ i. (takes_in (zip.0.pool i) - b.takes) + same_takes ls ms bs zip.1 i

  -- ---- as held ones

  module _ (tells : Bool) (owner : ℕ) (P : Type 0) (told : P) where
    abbrev Owned : HeldSegment D → Type 0
    Owned h = owner_of h.segment ≡ owner

    abbrev Kept : HeldSegment D → List Record → Type 0
    Kept h rs = IsTrue tells → P → Holds state h.segment rs

    images_of : (h : HeldSegment D) (rs : List Record) → Holds state h.segment rs → owner_of h.segment ≡ owner → (bs : List Block) → IsImageOf (disk_of state h.segment).values bs → IsLog bs owner rs
    images_of h rs holds owned bs is =
        let k = holds.disk in
        subst (λ (o : ℕ). IsLog bs o rs) owned (subst (λ (c : List Block). IsLog c (owner_of h.segment) rs) (sym (only_image k.bs bs (subst (λ (o : Option (List (Values Block))). IsImageOf o bs) k.settled is))) k.log)

    pub touched_lanes : (k : ℕ) (ls ms : List (Lane D)) (logs : Logs) → AllZip (LaneRead state) ls ms → AllByRecursion (λ (l : Lane D). AllByRecursion Owned (held_in l)) ls → AllLanesHold Kept ls logs
        → AllZip (IsTouched (parts_of tells state) owner) (all_held k ls logs) (all_held k ms logs)
    touched_lanes = read_lanes state Owned Kept (IsTouched (parts_of tells state) owner) (λ k h i rs r owned all. record {
      lane = refl;
      index = r.index;
      broken = r.broken;
      records = refl;
      size = r.size;
      volume = r.same.volume;
      images = λ bs is_image. images_of i rs (r.keeps rs (all is_image.0 told)) (r.same.owner ∙ owned) bs is_image.1;
    })

-- ---- the manager

module _ {D : Type 0} (tells : Bool) (state : D → State) (old new : Manager D) (b : ManagerBase) (notes : List Noted) (read : IsReadThrough state old new) (ready : IsReady state new) (up : old.down ≡ None) (k : Keeps tells state old b notes) where
  zip : AllZip (IsTouched (parts_of tells state) b.volume.began.owner) (all_held 0 old.lanes.items k.logs) (all_held 0 new.lanes.items k.logs)
  zip = touched_lanes state tells b.volume.began.owner (old.down ≡ None) up 0 old.lanes.items new.lanes.items k.logs read.lanes
      (all_map (IsReadyLane state old.id old.most) (λ (l : Lane D). AllByRecursion (λ (h : HeldSegment D). owner_of h.segment ≡ b.volume.began.owner) (held_in l))
      (λ l is. all_map (IsHeld state (logger_of l) (lane_owner l) (segments_in l) (pool_of l)) (λ (h : HeldSegment D). owner_of h.segment ≡ b.volume.began.owner) (λ h held. held.owned ∙ is.owner ∙ k.locks.owner) (held_in l) is.lane.each) old.lanes.items k.ready.ready.each) k.held

  flags : length new.ups.items ≡ length old.ups.items
  flags = ready.ready.flags ∙ zip_length (LaneRead state) old.lanes.items new.lanes.items read.lanes ∙ sym k.ready.ready.flags

  same_home : (bs : List Block) → IsTrue tells × IsImageOf (state_of state new.home).values bs → IsTrue tells × IsImageOf (state_of state old.home).values bs
  same_home bs is = (is.0, subst (λ (o : Option (List (Values Block))). IsImageOf o bs) read.home.values is.1)

  -- the old manager with the new parts and flags is the new one, but for what is down
  abbrev reached : (down : Option PartName) → ManagerSeen (Spun D)
  reached down = record (touched_ (parts_of tells state) b.volume.began (seen old k.logs) new.home (all_held 0 new.lanes.items k.logs) new.home_up new.ups.items flags read.home.size read.home.volume same_home zip) { down = down }

  is_seen : (name : Option PartName) (down : Option Part) → name ≡ down_of down → reached name ≡ seen (record new { down = down }) k.logs
  is_seen name down same = λ i. record {
    home = new.home;
    held = all_held 0 new.lanes.items k.logs;
    taken = sym (same_taken state 0 old.lanes.items new.lanes.items read.lanes) i;
    indexed = ap (λ (c : Contents). c.entries) (sym read.index) i;
    next = sym read.next i;
    home_up = new.home_up;
    ups = new.ups.items;
    down = same i;
  }

  same_locks : Locks new.id new.most new.spindle new.lanes.items b
  same_locks = let l = k.locks in record {
    pass = read.spindle.0 ∙ l.pass;
    number = read.spindle.1 ∙ l.number;
    each = same_named state old.lanes.items new.lanes.items b.lanes read.lanes l.each;
    owner = read.same.id ∙ l.owner;
    most_ = read.same.most ∙ l.most_;
    view = same_loggers state old.lanes.items new.lanes.items read.lanes ∙ l.view;
  }

  same_passed : HasPassed (nones_at new.lanes.items b.lanes) notes
  same_passed j = subst (λ (n : ℕ). times_passed j notes ≤ n) (sym (same_nones state old.lanes.items new.lanes.items b.lanes j read.lanes)) (k.passed j)

  taken_read : HasTakenFew new b
  taken_read =
      let few = k.taken in
      let takes = same_takes state old.lanes.items new.lanes.items b.lanes read.lanes in
      let next = read.next in
      let down = ap (λ (o : Option Part). cond {A = ℕ} (is_some o) 1 0) read.down in
      omega (arith, few, takes, next, down)

  still_read : AreStill b.volume.places b.volume.began.next new.index.entries
  still_read = subst (λ (c : Contents). AreStill b.volume.places b.volume.began.next c.entries) (sym read.index) k.still

  pub upholds_read : Upholds (parts_of tells state) b.volume.began (seen new k.logs) notes (writes (entries_of notes)) None
  upholds_read = subst (λ (m : ManagerSeen (Spun D)). Upholds (parts_of tells state) b.volume.began m notes (writes (entries_of notes)) None)
      (is_seen (down_of old.down) new.down (ap down_of (sym read.down)))
      (touched (parts_of tells state) b.volume.began (seen old k.logs) new.home (all_held 0 new.lanes.items k.logs) new.home_up new.ups.items flags read.home.size read.home.volume same_home zip notes (writes (entries_of notes)) (ap down_of up) (upholds_up tells state old b notes k up))

  -- the records of each segment are what they were
  pub held_read : AllLanesHold (λ h rs. IsTrue tells → new.down ≡ None → Holds state h.segment rs) new.lanes.items k.logs
  held_read = lanes_read state (λ h rs. IsTrue tells → old.down ≡ None → Holds state h.segment rs) (λ h rs. IsTrue tells → new.down ≡ None → Holds state h.segment rs)
      (λ h i rs r holds told none. r.keeps rs (holds told up)) old.lanes.items new.lanes.items k.logs read.lanes k.held

  use_read : IsTrue tells → new.down ≡ None → AreInUse (all_held 0 new.lanes.items k.logs)
  use_read told none = same_use (parts_of tells state) b.volume.began.owner (all_held 0 old.lanes.items k.logs) (all_held 0 new.lanes.items k.logs) zip (k.in_use told up)

  -- after reads that were answered
  pub keeps_read : Keeps tells state new b notes
  keeps_read = record {
    logs = k.logs;
    held = held_read;
    upholds = subst (Upholds (parts_of tells state) b.volume.began (seen new k.logs) notes (writes (entries_of notes))) (sym (unbroken tells state old b notes k up)) upholds_read;
    in_use = use_read;
    passed = same_passed;
    taken = taken_read;
    still = still_read;
    ready = ready;
    locks = same_locks;
  }

  -- an answered read more
  pub stands_read : (n : Noted) (first : ℕ) (reply : List Block) → n.entry.pass ≡ worker → IsNote (last_look b.volume.began.look notes) (Read first reply) [] (look_of_manager new) n
      → (IsTrue tells → reply ≡ slice_range (after b.volume.began.array (writes (entries_of notes))) first (first + length reply)) → Stands tells state new b (notes ++ n ∷ [])
  stands_read n first reply client note legal = record {
    keeps = record {
      logs = k.logs;
      held = held_read;
      upholds = (read_more (parts_of tells state) b.volume.began (seen new k.logs) notes n note.follows first reply note.operation_is client (unbroken tells state old b notes k up) legal upholds_read note.look_is).upholds;
      in_use = use_read;
      passed = none_passed (nones_at new.lanes.items b.lanes) notes n note.passed_is same_passed;
      taken = taken_read;
      still = still_read;
      ready = ready;
      locks = same_locks;
    };
    look = last_more b.volume.began.look notes n ∙ note.look_is;
  }

  -- a read that failed at this part
  module _ (p : Part) (rose : PartRose state old new p) where
    abbrev failed : Manager D
    failed = record new { down = Some p }

    -- the part stands among the manager's parts, and had a fault
    is_part : (q : Part) → PartRose state old new q → (s : Spun D) × IsPartOf b.volume.began.view (reached (Some (name_of q))) (name_of q) s × (0 < (state_of state s).faults)
    is_part (Home volume) r = (new.home, refl, above_none (state_of state old.home).faults (state_of state new.home).faults r.1)
    is_part (Segment volume index) r =
        let l = r.lane in let there = standing (λ h rs. IsTrue tells → new.down ≡ None → Holds state h.segment rs) 0 l.place l.place new.lanes.items k.logs l.after r.place r.new_segment (omega arith) held_read l.is r.is_there in (
          part_of r.new_segment.segment,
          (held_as l.place r.new_segment there.records, there.among, named, same.index ∙ sym r.named, refl),
          above_none (disk_of state r.old_segment.segment).faults (disk_of state r.new_segment.segment).faults r.rose,
        )
      where
        named : slice_get b.volume.began.view r.lane.place ≡ Some volume
        named = ap (λ (v : List ℕ). slice_get v r.lane.place) (sym k.locks.view) ∙ slice_get-map logger_of old.lanes.items r.lane.place ∙ ap (option_map logger_of) r.lane.was ∙ ap Some (sym r.lane.named)

        same : SegmentRead state r.old_segment r.new_segment
        same = zip_at (SegmentRead state) (held_in r.lane.before) (held_in r.lane.after) r.place r.old_segment r.new_segment
            (zip_at (LaneRead state) old.lanes.items new.lanes.items r.lane.place r.lane.before r.lane.after read.lanes r.lane.was r.lane.is).held r.was_there r.is_there

    ready_failed : IsReady state failed
    ready_failed = record { ready = ready.ready; next = ready.next; below = ready.below; ranges = ready.ranges; up = λ no. absurd (let wrong : Some p ≡ None = no in cc) }

    pub stands_broken : (n : Noted) → IsNote (last_look b.volume.began.look notes) (Broke []) [] (look_of_manager failed) n → Stands tells state failed b (notes ++ n ∷ [])
    stands_broken n note = record {
      keeps = record {
        logs = k.logs;
        held = lanes_read state (λ h rs. IsTrue tells → old.down ≡ None → Holds state h.segment rs) (λ h rs. IsTrue tells → failed.down ≡ None → Holds state h.segment rs)
            (λ h i rs r holds told no. absurd (let wrong : Some p ≡ None = no in cc)) old.lanes.items new.lanes.items k.logs read.lanes k.held;
        upholds = (subst (λ (m : ManagerSeen (Spun D)). StandsFor (parts_of tells state) b.volume.began m (notes ++ n ∷ [])) (is_seen (Some (name_of p)) (Some p) refl)
            (read_breaks (parts_of tells state) b.volume.began (seen old k.logs) new.home (all_held 0 new.lanes.items k.logs) new.home_up new.ups.items flags read.home.size read.home.volume same_home zip
            notes n (upholds_up tells state old b notes k up) (unbroken tells state old b notes k up) note.operation_is note.drain (name_of p) (is_part p rose))).upholds;
        in_use = λ told no. absurd (let wrong : Some p ≡ None = no in cc);
        passed = none_passed (nones_at new.lanes.items b.lanes) notes n note.passed_is same_passed;
        taken = let few = taken_read in let c = down_counts new.down in omega (arith, few, c);
        still = still_read;
        ready = ready_failed;
        locks = same_locks;
      };
      look = last_more b.volume.began.look notes n ∙ note.look_is;
    }
