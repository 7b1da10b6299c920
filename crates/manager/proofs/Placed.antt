-- A lane that had no room, and a write that was placed: what its answer says.
use Rattle.std.proofs.Common.{◌≡◌, ◌≤◌, ℕ, Bool, sym, subst, ◌∙◌, arith, List, Option, None, Some, refl, ap, inl, inr, ⊎_elim, ◌+◌, true, false, ◌&&◌, [], ◌∷◌, ◌++◌, map, length, Result, Ok, Err}
use Rattle.std.specs.Prelude.{Contains, slice_get, slice_set, IsTrue, ⊤, ◌==◌, OnOk, MatchBool}
use Rattle.std.specs.declared.alloc.Global.{Global}
use Rattle.std.specs.declared.vec.Vec.{Vec}
use Rattle.wol_disk.specs.Disk.{State, IsDisk, Block, Rose}
use Rattle.wol_model.specs.Blocks.{Write}
use Rattle.wol_model.specs.History.{writes, flight_of}
use Rattle.wol_model.specs.Log.{Record}
use Rattle.spin_model.specs.declared.spun.Spun.{Spun}
use Rattle.turn_lock.specs.Passes.{pass_mine, pass_number}
use Rattle.log_segment.specs.Segment.{Holds}
use Rattle.wol_promise.specs.Manager.{ManagerSeen, AreInUse, Held, is_homed_in}
use Rattle.wol_promise.specs.Ruled.{Noted, entries_of, HasPassed}
use Rattle.wol_promise.specs.Stands.{Upholds}
use Rattle.wol_promise.proofs.Lists.{all_map}
use Rattle.logger.specs.Lanes.{IsLane, HoldsAll, IsSameLane, AreWhole, held_in, taken_in, pool_of, logger_of}
use Rattle.logger.specs.declared.lane.HeldSegment.{HeldSegment}
use Rattle.logger.specs.declared.lane.Lane.{Lane}
use Rattle.manager.specs.Offers.{IsTurnedAway, HasTakenWrite, ChangesLane}
use Rattle.manager.specs.Seen.{AllLanesHold, parts_of, seen, all_held, all_taken, down_of, Logs, AllHold, held_with, look_of_manager}
use Rattle.manager.specs.Stands.{Keeps, IsReady, IsUp, IsPlacedIn, Ready, Locks, nones_in, nones_at, takes_in, takes_of, passed_in}
use Rattle.manager.specs.Stops.{Stops, ImageSince, HeldSince, TellsClaim}
use Rattle.manager.specs.declared.base.ManagerBase.{ManagerBase}
use Rattle.manager.specs.declared.manager.Manager.{Manager}
use Rattle.volume_parts.proofs.Lanes.{counted_same, quiet_held, quiet_all, untaken_set, ready_set, placed_set, nones_none, takes_none}
use Rattle.volume_parts.proofs.Elements.{all_at, all_set, zip_back}
use Rattle.manager.proofs.ReadyLanes.{locks_set, nones_at_set, takes_of_set}
use Rattle.wol_promise.proofs.Stops.{still_stops}
use Rattle.manager.proofs.Moments.{still_logs, home_holds, stops_so}
use Rattle.std.specs.List.{AllByRecursion, AllZip, list_any, range_with_len}
use Rattle.std.specs.Option.{option_map}
use Rattle.std.proofs.lemmas.Option.{same_Some, slice_get-map}
use Rattle.turn_lock.specs.declared.pass.PassOf.{PassOf}
use Rattle.spin_model.specs.Spun.{state_of}
use Rattle.spin_model.specs.declared.spindle.Spindle.{Spindle}
use Rattle.spin_model.specs.declared.spindle.SpindleBase.{SpindleBase}
use Rattle.wol_model.specs.Index.{listed_in, is_covered}
use Rattle.wol_model.specs.Placing.{Home as AtHome, Log as InLog, place as place_in_model}
use Rattle.wol_promise.specs.Policy.{place_of}
use Rattle.offload_policy.specs.Placing.{step_of}
use Rattle.offload_policy.specs.declared.Room.{Room}
use Rattle.offload_policy.specs.declared.Room.TheVariants.{Unknown}
use Rattle.offload_policy.specs.declared.Step.{Step}
use Rattle.logger.specs.declared.shared.Shared.{Shared}
use Rattle.manager.specs.Accesses.{HasUsedOnce}
use Rattle.manager.specs.Answers.{home_write, IsPlaceOf}
use Rattle.manager.specs.Causes.{LaneSince, PartRoseOrClaimed, NoneRose}
use Rattle.manager.specs.Writing.{HaveAnswered, NeedsHome, TellsFault, IsHomeAnswer, IsLogAnswer, IsPlacedAnswer, ruled_place, takes_at, was_tried, is_at_home, is_in_log}
use Rattle.manager.specs.declared.part.Part.{Part}
use Rattle.manager.specs.declared.part.Place.{Place}
use Rattle.manager.specs.declared.part.WriteRefusal.{WriteRefusal}
use Rattle.manager.specs.declared.part.WriteRefusal.TheVariants.{Full, DiskFault, Down, VersionsSpent, NoMemory}
use Rattle.manager.proofs.Answered.{loggers_same, held_same, one_takes, passed_more, Asking}
use Rattle.manager.proofs.Calm.{none_asked_before}
use Rattle.volume_parts.proofs.Claims.{claim_before}
use Rattle.volume_parts.proofs.Placing.{led_by, place_is, rooms_are}
use Rattle.wol_model.specs.Placing as placing
use Rattle.manager.specs.declared.part.Part.TheVariants as part
use Rattle.manager.specs.declared.part.Place.TheVariants as place

-- ---- How often a pool was found empty, and how many segments were taken

pub away_more : {D : Type 0} (count : ℕ) (old new : Lane D) → IsTurnedAway count old new → nones_in (pass_mine (pool_of old)) ≤ nones_in (pass_mine (pool_of new))
away_more count old new turned = let e = ap nones_in turned.pool ∙ nones_none (pass_mine (pool_of old)) (pass_number (pool_of old)) in omega (arith, e)

pub away_takes : {D : Type 0} (count : ℕ) (old new : Lane D) → IsTurnedAway count old new → takes_in (pass_mine (pool_of new)) ≡ takes_in (pass_mine (pool_of old))
away_takes count old new turned = ap takes_in turned.pool ∙ takes_none (pass_mine (pool_of old)) (pass_number (pool_of old))

-- ---- What holds of the manager

module _ {D : Type 0} (state : D → State) (m : Manager D) (k : ℕ) (old new : Lane D) (lane : slice_get m.lanes.items k ≡ Some old) (is_lane : IsLane state new) (same : IsSameLane old new) (all : HoldsAll old → HoldsAll new) (untaken : taken_in new ≡ None) (v : Vec (Lane D) Global) (lanes : v.items ≡ slice_set m.lanes.items k new) where
  module _ (quiet : held_in new ≡ held_in old) where
    quiet_up : IsUp m.lanes.items m.index.entries → IsUp (slice_set m.lanes.items k new) m.index.entries
    quiet_up u = record {
      whole = let all = u.whole in all_set (λ (l : Lane D). AreWhole (held_in l)) m.lanes.items k new all (subst AreWhole (sym quiet) (all_at (λ (l : Lane D). AreWhole (held_in l)) m.lanes.items k old lane all));
      placed = all_map (IsPlacedIn m.lanes.items) (IsPlacedIn (slice_set m.lanes.items k new)) (placed_set m.lanes.items k old new lane (λ h has. (h, subst (λ (hs : List (HeldSegment D)). Contains hs h) (sym quiet) has, refl, refl))) m.index.entries u.placed;
      counted = counted_same m.lanes.items k old new m.index.entries lane quiet u.counted;
    }

    pub ready_away : IsReady state m → IsReady state (record m { lanes = v })
    ready_away r = record {
      ready = subst (λ (l : List (Lane D)). Ready state m.id m.most m.home m.spindle l m.ups.items m.rooms.items) (sym lanes) (ready_set state m.id m.most m.lanes.items k old new lane same r.ready is_lane all untaken refl);
      next = r.next;
      below = r.below;
      ranges = r.ranges;
      up = λ is. subst (λ (l : List (Lane D)). IsUp l m.index.entries) (sym lanes) (quiet_up (r.up is));
    }

    abbrev R : Bool → HeldSegment D → List Record → Type 0
    R tells h rs = IsTrue tells → m.down ≡ None → Holds state h.segment rs

    pub keeps_away : (tells : Bool) (b : ManagerBase) (notes : List Noted) → nones_in (pass_mine (pool_of old)) ≤ nones_in (pass_mine (pool_of new)) → takes_in (pass_mine (pool_of new)) ≡ takes_in (pass_mine (pool_of old)) → Keeps tells state m b notes → Keeps tells state (record m { lanes = v }) b notes
    keeps_away tells b notes more takes kp = record {
      logs = kp.logs;
      held = subst (λ (l : List (Lane D)). AllLanesHold (R tells) l kp.logs) (sym lanes) (quiet_all old new quiet (R tells) m.lanes.items kp.logs k lane kp.held);
      upholds = subst (λ (q : ManagerSeen (Spun D)). Upholds (parts_of tells state) b.volume.began q notes (writes (entries_of notes)) (flight_of (entries_of notes))) seen_is kp.upholds;
      in_use = λ told is. subst AreInUse held_is (kp.in_use told is);
      passed = λ j. let had = kp.passed j in let n = nones_at_set m.lanes.items b.lanes k old new lane more j in let e = ap (λ (l : List (Lane D)). nones_at l b.lanes j) lanes in omega arith;
      still = kp.still;
      taken = let few = kp.taken in let s = takes_of_set m.lanes.items b.lanes k 0 old new lane (omega (arith, takes)) in let e = ap (λ (l : List (Lane D)). takes_of l b.lanes) lanes in omega (arith, few, s, e);
      ready = ready_away kp.ready;
      locks = subst (λ (l : List (Lane D)). Locks m.id m.most m.spindle l b) (sym lanes) (locks_set state m.id m.most m.lanes.items k old new lane same kp.locks more);
    }
      where
        held_is : all_held 0 m.lanes.items kp.logs ≡ all_held 0 v.items kp.logs
        held_is = sym (quiet_held old new quiet 0 m.lanes.items kp.logs k lane) ∙ ap (λ (l : List (Lane D)). all_held 0 l kp.logs) (sym lanes)

        seen_is : seen m kp.logs ≡ seen (record m { lanes = v }) kp.logs
        seen_is = λ j. record { home = m.home; held = held_is j; taken = (untaken_set state m.id m.most m.lanes.items k new kp.ready.ready.each untaken ∙ ap (λ (l : List (Lane D)). all_taken 0 l) (sym lanes)) j; indexed = m.index.entries; next = m.next; home_up = m.home_up; ups = m.ups.items; down = down_of m.down }

-- ---- Answers

pub home_tried : (id : ℕ) (r : Result Place WriteRefusal) → IsHomeAnswer id r → was_tried r ≡ true
home_tried id r answer = ⊎_elim (λ e. ap was_tried e) (λ e. ap was_tried e) answer

pub home_placed : (view : List ℕ) (id : ℕ) (r : Result Place WriteRefusal) (q : placing.Place) → IsHomeAnswer id r → q ≡ AtHome → IsPlaceOf view r q
home_placed view id r q answer is = ⊎_elim
    (λ e. subst (λ (x : Result Place WriteRefusal). IsPlaceOf view x q) (sym e) is)
    (λ e. subst (λ (x : Result Place WriteRefusal). IsPlaceOf view x q) (sym e) is) answer

pub log_tried : (view : List ℕ) (lane : ℕ) (r : Result Place WriteRefusal) → IsLogAnswer view lane r → was_tried r ≡ true
log_tried view lane (Ok place.Home) answer = refl
log_tried view lane (Ok (place.Log logger)) answer = refl
log_tried view lane (Err (DiskFault p)) answer = refl
log_tried view lane (Err Full) answer = absurd answer
log_tried view lane (Err (Down p)) answer = absurd answer
log_tried view lane (Err VersionsSpent) answer = absurd answer
log_tried view lane (Err NoMemory) answer = absurd answer

pub log_placed : (view : List ℕ) (lane : ℕ) (r : Result Place WriteRefusal) (q : placing.Place) → IsLogAnswer view lane r → q ≡ InLog lane → IsPlaceOf view r q
log_placed view lane (Ok place.Home) q answer is = absurd answer
log_placed view lane (Ok (place.Log logger)) q answer is = (lane, answer, is)
log_placed view lane (Err (DiskFault (part.Home volume))) q answer is = absurd answer
log_placed view lane (Err (DiskFault (part.Segment logger index))) q answer is = (lane, answer, is)
log_placed view lane (Err Full) q answer is = absurd answer
log_placed view lane (Err (Down p)) q answer is = absurd answer
log_placed view lane (Err VersionsSpent) q answer is = absurd answer
log_placed view lane (Err NoMemory) q answer is = absurd answer

pub home_only : (id : ℕ) (r : Result Place WriteRefusal) → IsHomeAnswer id r → IsPlacedAnswer r
home_only id r answer = ⊎_elim (λ e. subst IsPlacedAnswer (sym e) tt) (λ e. subst IsPlacedAnswer (sym e) tt) answer

pub log_only : (view : List ℕ) (lane : ℕ) (r : Result Place WriteRefusal) → IsLogAnswer view lane r → IsPlacedAnswer r
log_only view lane (Ok p) answer = tt
log_only view lane (Err (DiskFault p)) answer = tt
log_only view lane (Err Full) answer = tt
log_only view lane (Err (Down p)) answer = absurd answer
log_only view lane (Err VersionsSpent) answer = absurd answer
log_only view lane (Err NoMemory) answer = absurd answer

-- ---- Lanes whose held segments are as before

zip_with_held : {D : Type 0} (j : ℕ) (xs ys : List (Lane D)) (logs : Logs) → AllZip (λ (o : Lane D) (n : Lane D). held_in n ≡ held_in o) xs ys → all_held j ys logs ≡ all_held j xs logs
zip_with_held j [] [] logs all = refl
zip_with_held j [] (y ∷ ys) logs all = absurd all
zip_with_held j (x ∷ xs) [] logs all = absurd all
zip_with_held j (x ∷ xs) (y ∷ ys) [] all = refl
zip_with_held j (x ∷ xs) (y ∷ ys) (ls ∷ logs) all = λ i. held_with j (all.0 i) ls ++ zip_with_held (j + 1) xs ys logs all.1 i

zip_shape : {D : Type 0} (R : HeldSegment D → List Record → Type 0) (xs ys : List (Lane D)) (logs : Logs) → AllZip (λ (o : Lane D) (n : Lane D). held_in n ≡ held_in o) xs ys → AllLanesHold R xs logs → AllLanesHold R ys logs
zip_shape R [] [] logs all shape = shape
zip_shape R [] (y ∷ ys) logs all shape = absurd all
zip_shape R (x ∷ xs) [] logs all shape = absurd all
zip_shape R (x ∷ xs) (y ∷ ys) [] all shape = absurd shape
zip_shape {D} R (x ∷ xs) (y ∷ ys) (ls ∷ logs) all shape = (subst (λ (hs : List (HeldSegment D)). AllHold R hs ls) (sym all.0) shape.0, zip_shape R xs ys logs all.1 shape.1)

-- ---- A write that was placed after lanes were asked

module _ {D : Type 0} (tells : Bool) (state : D → State) (shared : Shared D) (first : ℕ) (blocks : List Block) (old now : Manager D) (a : Asking tells state shared (length blocks) old now) where
  pub look_same : look_of_manager now ≡ look_of_manager old
  look_same = ap look_of_manager a.rest

  pub spindle_same : now.spindle ≡ old.spindle
  spindle_same = ap (λ (m : Manager D). m.spindle) a.rest

  pub loggers_as : map logger_of now.lanes.items ≡ map logger_of old.lanes.items
  loggers_as = loggers_same (length blocks) (λ k. false) now.rooms.items old.lanes.items now.lanes.items a.lanes

  segments_as : AllZip (λ (o : Lane D) (n : Lane D). held_in n ≡ held_in o) old.lanes.items now.lanes.items
  segments_as = held_same (length blocks) now.rooms.items old.lanes.items now.lanes.items a.lanes

  -- where the step leads, the rule places the write
  pub place_led : (step : Step) (covered : Bool) (ups : List Bool) (rooms : List Room) → step ≡ step_of now.home_up covered ups rooms → ups ≡ now.ups.items → rooms ≡ now.rooms.items
      → covered ≡ list_any (is_covered (listed_in old.index.entries)) (range_with_len first (length blocks)) → ruled_place old now first blocks ≡ led_by step
  place_led step covered ups rooms is is_ups is_rooms is_covered_ =
      let flags : length old.ups.items ≡ length now.rooms.items = ap (λ (m : Manager D). length m.ups.items) (sym a.rest) ∙ (a.ready.ready.flags ∙ sym a.ready.ready.rooms_) in
      let awake = ap (λ (m : Manager D). m.home_up) a.rest in let flagged = is_ups ∙ ap (λ (m : Manager D). m.ups.items) a.rest in
      ap (place_in_model old.home_up (list_any (is_covered (listed_in old.index.entries)) (range_with_len first (length blocks))) old.ups.items) (rooms_are old.ups.items now.rooms.items flags)
      ∙ (place_is old.home_up (list_any (is_covered (listed_in old.index.entries)) (range_with_len first (length blocks))) old.ups.items now.rooms.items
      ∙ sym (ap led_by is ∙ (λ i. led_by (step_of (awake i) (is_covered_ i) (flagged i) (is_rooms i)))))

  -- a stop since the lanes were asked is one since the beginning
  pub stops_before : (new : Manager D) (claimed : Option (Spun D)) (b : ManagerBase) (notes : List Noted) (flight : List Write) → Stops state now new claimed b notes flight → Stops state old new claimed b notes flight
  stops_before new claimed b notes flight stops before after was is home segments home_is choice =
      stops before after (zip_shape (λ h rs. ⊤) old.lanes.items now.lanes.items before segments_as was) is home segments
      (subst (λ (p : Spun D). ImageSince state p new.home home) (sym (ap (λ (m : Manager D). m.home) a.rest)) home_is)
      (subst (λ (held : List (Held (Spun D))). AllZip (HeldSince state held claimed) (all_held 0 new.lanes.items after) segments) (sym (zip_with_held 0 old.lanes.items now.lanes.items before segments_as)) choice)

  -- nothing was written
  pub stops_unplaced : (sound : (d : D) → IsDisk (state d)) → IsTrue tells → (b : ManagerBase) (notes : List Noted) → old.down ≡ None → Keeps tells state old b notes → Stops state old now None b notes []
  stops_unplaced sound told b notes up k =
      let kp = a.keeps b notes k in let is_up : now.down ≡ None = ap (λ (m : Manager D). m.down) a.rest ∙ up in
      stops_before now None b notes [] (stops_so tells state sound told now b notes kp is_up None (ImageSince state now.home now.home) now.lanes.items kp.logs [] (λ h rs. IsTrue tells → now.down ≡ None → Holds state h.segment rs) kp.held
      (still_stops (ImageSince state now.home now.home) (HeldSince state (all_held 0 now.lanes.items kp.logs) None) b.volume.began.owner b.volume.began.array (writes (entries_of notes)) now.next (is_homed_in now.index.entries) (all_held 0 now.lanes.items kp.logs) []
      (still_logs tells state sound told now b notes kp is_up None) (home_holds tells state sound told now b notes kp is_up None)))

  -- the entry's empty pools, where no lane took the write
  pub passed_unplaced : (b : ManagerBase) (notes : List Noted) (n : Noted) → n.passed ≡ passed_in now.rooms.items → Keeps tells state old b notes → HasPassed (nones_at now.lanes.items b.lanes) (notes ++ n ∷ [])
  passed_unplaced b notes n is k = passed_more (length blocks) (λ k. false) now.rooms.items old.lanes.items now.lanes.items a.lanes b.lanes notes n k.locks.each is k.passed

  -- a lane since the lanes were asked
  abbrev lane_before : (lanes : List (Lane D)) (logger : ℕ) (s : LaneSince now.lanes.items lanes logger) → (l : LaneSince old.lanes.items lanes logger) × (held_in s.before ≡ held_in l.before)
  lane_before lanes logger s =
      let o = zip_back (λ (o : Lane D) (n : Lane D). held_in n ≡ held_in o) old.lanes.items now.lanes.items s.place s.before segments_as s.was in
      let e = sym (slice_get-map logger_of now.lanes.items s.place ∙ ap (option_map logger_of) s.was) ∙ (ap (λ (l : List ℕ). slice_get l s.place) loggers_as ∙ (slice_get-map logger_of old.lanes.items s.place ∙ ap (option_map logger_of) o.1)) in
      (record { place = s.place; before = o.0; after = s.after; was = o.1; is = s.is; named = s.named ∙ same_Some (logger_of s.before) (logger_of o.0) e }, o.2)

  -- a part whose count rose since the lanes were asked
  rose_before : (new : Manager D) (p : Part) → PartRoseOrClaimed state now new p → PartRoseOrClaimed state old new p
  rose_before new (part.Home volume) rose = subst (λ (m : Manager D). (volume ≡ m.id) × Rose (state_of state m.home).faults (state_of state new.home).faults) a.rest rose
  rose_before new (part.Segment logger index) (inl s) = let l = lane_before new.lanes.items logger s.lane in inl (record {
    lane = l.0;
    place = s.place;
    old_segment = s.old_segment;
    new_segment = s.new_segment;
    was_there = ap (λ (hs : List (HeldSegment D)). slice_get hs s.place) (sym l.1) ∙ s.was_there;
    is_there = s.is_there;
    named = s.named;
    rose = s.rose;
  })
  rose_before new (part.Segment logger index) (inr s) = let l = lane_before new.lanes.items logger s.lane in inr (record {
    lane = l.0;
    free = s.free;
    segment = s.segment;
    was_apart = subst (AllByRecursion (λ (h : HeldSegment D). h.index ≡ index → ⊥)) l.1 s.was_apart;
    is_there = s.is_there;
    named = s.named;
    volume = s.volume;
    rose = s.rose;
  })

  pub fault_before : (new : Manager D) (r : Result Place WriteRefusal) → TellsFault state r now new → TellsFault state r old new
  fault_before new (Ok p) is = is ∙ ap (λ (m : Manager D). m.down) a.rest
  fault_before new (Err (DiskFault p)) is = (is.0, rose_before new p is.1)
  fault_before new (Err Full) is = is ∙ ap (λ (m : Manager D). m.down) a.rest
  fault_before new (Err (Down p)) is = is ∙ ap (λ (m : Manager D). m.down) a.rest
  fault_before new (Err VersionsSpent) is = is ∙ ap (λ (m : Manager D). m.down) a.rest
  fault_before new (Err NoMemory) is = is ∙ ap (λ (m : Manager D). m.down) a.rest

  pub claimed_before : (done : Type 0) (new : Manager D) (claimed : Option (Spun D)) → TellsClaim tells state done now.lanes.items new.lanes.items claimed → TellsClaim tells state done old.lanes.items new.lanes.items claimed
  claimed_before done new claimed c = claim_before tells state done old.lanes.items now.lanes.items new.lanes.items claimed segments_as c

  pub calm_before : (new : Manager D) (r : Result Place WriteRefusal) → OnOk r (NoneRose state now new) → OnOk r (NoneRose state old new)
  calm_before new (Ok p) none = none_asked_before state old now new (ap (λ (m : Manager D). m.home) a.rest) segments_as none
  calm_before new (Err e) none = tt

  module _ (new : Manager D) (r : Result Place WriteRefusal) (rooms : new.rooms.items ≡ now.rooms.items) where
    rule_same : ruled_place old new first blocks ≡ ruled_place old now first blocks
    rule_same = ap (λ (rs : List Room). place_of (passed_in rs) (look_of_manager old) (home_write first blocks)) rooms

    -- ---- it went home

    module _ (id : ℕ) (answer : IsHomeAnswer id r) (at_home : ruled_place old now first blocks ≡ AtHome) where
      place_home : ruled_place old new first blocks ≡ AtHome
      place_home = rule_same ∙ at_home

      pub placed_home : IsPlaceOf (map logger_of old.lanes.items) r (ruled_place old new first blocks)
      placed_home = home_placed (map logger_of old.lanes.items) id r (ruled_place old new first blocks) answer place_home

      pub answered_home : new.lanes.items ≡ now.lanes.items → HaveAnswered (length blocks) (takes_at (ruled_place old new first blocks) r) new.rooms.items old.lanes.items new.lanes.items
      answered_home lanes =
          let tried = home_tried id r answer in
          let took : takes_at (ruled_place old new first blocks) r ≡ (λ k. false) = (λ i k. tried i && is_in_log k (place_home i)) in
          subst (λ (t : ℕ → Bool). HaveAnswered (length blocks) t new.rooms.items old.lanes.items new.lanes.items) (sym took)
          (subst (λ (rs : List Room). HaveAnswered (length blocks) (λ k. false) rs old.lanes.items new.lanes.items) (sym rooms)
          (subst (HaveAnswered (length blocks) (λ k. false) now.rooms.items old.lanes.items) (sym lanes) a.lanes))

      pub waking_home : HasUsedOnce now.spindle new.spindle → NeedsHome (ruled_place old new first blocks) r old new
      waking_home used =
          let tried = home_tried id r answer in
          subst (λ (t : Bool). MatchBool t (HasUsedOnce old.spindle new.spindle) (pass_mine new.spindle ≡ pass_mine old.spindle)) (sym (λ i. tried i && is_at_home (place_home i)))
          (subst (λ (p : PassOf Spindle SpindleBase). HasUsedOnce p new.spindle) spindle_same used)

    -- ---- a lane took it

    module _ (lane : ℕ) (unknown : slice_get now.rooms.items lane ≡ Some Unknown) (answer : IsLogAnswer (map logger_of now.lanes.items) lane r) (in_log : ruled_place old now first blocks ≡ InLog lane)
        (change : ChangesLane (HasTakenWrite (length blocks)) lane now.lanes.items new.lanes.items) where
      place_log : ruled_place old new first blocks ≡ InLog lane
      place_log = rule_same ∙ in_log

      pub placed_log : IsPlaceOf (map logger_of old.lanes.items) r (ruled_place old new first blocks)
      placed_log = log_placed (map logger_of old.lanes.items) lane r (ruled_place old new first blocks) (subst (λ (v : List ℕ). IsLogAnswer v lane r) loggers_as answer) place_log

      taken : HaveAnswered (length blocks) (λ k. lane == k) now.rooms.items old.lanes.items new.lanes.items
      taken = one_takes (length blocks) now.rooms.items old.lanes.items now.lanes.items new.lanes.items a.lanes lane unknown change

      pub answered_log : HaveAnswered (length blocks) (takes_at (ruled_place old new first blocks) r) new.rooms.items old.lanes.items new.lanes.items
      answered_log =
          let tried = log_tried (map logger_of now.lanes.items) lane r answer in
          let took : takes_at (ruled_place old new first blocks) r ≡ (λ k. lane == k) = (λ i k. tried i && is_in_log k (place_log i)) in
          subst (λ (t : ℕ → Bool). HaveAnswered (length blocks) t new.rooms.items old.lanes.items new.lanes.items) (sym took)
          (subst (λ (rs : List Room). HaveAnswered (length blocks) (λ k. lane == k) rs old.lanes.items new.lanes.items) (sym rooms) taken)

      pub waking_log : new.spindle ≡ now.spindle → NeedsHome (ruled_place old new first blocks) r old new
      waking_log same =
          let tried = log_tried (map logger_of now.lanes.items) lane r answer in
          subst (λ (t : Bool). MatchBool t (HasUsedOnce old.spindle new.spindle) (pass_mine new.spindle ≡ pass_mine old.spindle)) (sym (λ i. tried i && is_at_home (place_log i)))
          (ap pass_mine (same ∙ spindle_same))

      pub passed_log : (b : ManagerBase) (notes : List Noted) (n : Noted) → n.passed ≡ passed_in new.rooms.items → Keeps tells state old b notes → HasPassed (nones_at new.lanes.items b.lanes) (notes ++ n ∷ [])
      passed_log b notes n is k = passed_more (length blocks) (λ k. lane == k) now.rooms.items old.lanes.items new.lanes.items taken b.lanes notes n k.locks.each (is ∙ ap passed_in rooms) k.passed
