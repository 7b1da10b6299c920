-- Lanes and the segments that they hold: one lane is another, and one segment in it is another, is new or is gone.
use Rattle.std.proofs.Common.{◌≡◌, ◌+◌, ℕ, zero, suc, sym, subst, ◌∙◌, arith, append_assoc, List, [], ◌∷◌, ◌++◌, None, Some, refl, ap, ◌≢◌, ⊎_elim, map, ◌⊎◌, ◌<◌, ◌≤◌, Bool, length, inl, inr, Option}
use Rattle.std.specs.Prelude.{slice_get, slice_set, remove, Contains, IfSome}
use Rattle.std.specs.List.{AllByRecursion}
use Rattle.std.proofs.lemmas.Option.{same_Some, none-some, slice_get-map}
use Rattle.std.proofs.lemmas.List.Elements.{Contains-append_left, Contains-append_right}
use Rattle.std.proofs.lemmas.List.Sums.{sum_by-append}
use Rattle.std.proofs.Math.ListN.{length-set}
use Rattle.std.specs.Option.{option_map}
use Rattle.wol_model.specs.Log.{Record, IsLog}
use Rattle.spin_model.specs.declared.spun.Spun.{Spun}
use Rattle.log_segment.specs.Segment.{part_of, blocks_of, valid_of, Holds, disk_of, owner_of}
use Rattle.wol_promise.specs.Manager.{Held}
use Rattle.logger.specs.Lanes.{held_in, taken_in, IsLane, HoldsAll, IsAt, IsSameLane, logger_of}
use Rattle.logger.specs.declared.lane.HeldSegment.{HeldSegment}
use Rattle.logger.specs.declared.lane.Lane.{Lane}
use Rattle.volume_parts.specs.Held.{Logs, AllHold, AllLanesHold, held_with, all_held, all_taken}
use Rattle.wol_promise.specs.Stands.{place_in, AreApartPlaces}
use Rattle.wol_promise.proofs.Lists.{all_member, member_front, member_map, member_behind, member_of, all_map}
use Rattle.turn_lock.specs.Histories.{Entry}
use Rattle.seg_pool.specs.Holders.{Took, Gave}
use Rattle.seg_pool.specs.Operations.{operation_of}
use Rattle.volume_parts.specs.Lanes.{nones_in, takes_in, IsReadyLane, Ready, IsPlacedIn, At, AreCounted}
use Rattle.wol_disk.specs.Disk.{State, Block, IsImageOf}
use Rattle.turn_lock.specs.LockIds.{LockId}
use Rattle.seg_pool.specs.declared.base.PoolBase.{PoolBase}
use Rattle.turn_lock.specs.declared.pass.PassOf.{PassOf}
use Rattle.spin_model.specs.declared.spindle.Spindle.{Spindle}
use Rattle.spin_model.specs.declared.spindle.SpindleBase.{SpindleBase}
use Rattle.offload_policy.specs.declared.Room.{Room}
use Rattle.wol_model.specs.Index.{Indexed}
use Rattle.logger.specs.declared.shared.Shared.{Shared}
use Rattle.volume_parts.proofs.Elements.{all_at, all_set, get_set, get_other, member_set, same_or_not}
use Rattle.volume_parts.specs.Entries.{entries_at}
use Rattle.wol_disk.proofs.Calls.{settled_only}
use Rattle.log_segment.specs.declared.segment.Segment.{Segment}
use Rattle.volume_parts.specs.Offers.{HasTakenWrite, ChangesLane}

-- ---- Each segment with its records

module _ {D : Type 0} (R S : HeldSegment D → List Record → Type 0) (so : (h : HeldSegment D) (rs : List Record) → R h rs → S h rs) where
  pub hold_map : (hs : List (HeldSegment D)) (ls : List (List Record)) → AllHold R hs ls → AllHold S hs ls
  hold_map [] [] all = tt
  hold_map [] (l ∷ ls) all = absurd all
  hold_map (h ∷ hs) [] all = absurd all
  hold_map (h ∷ hs) (l ∷ ls) all = (so h l all.0, hold_map hs ls all.1)

  pub lanes_map : (lanes : List (Lane D)) (logs : Logs) → AllLanesHold R lanes logs → AllLanesHold S lanes logs
  lanes_map [] [] all = tt
  lanes_map [] (ls ∷ logs) all = absurd all
  lanes_map (l ∷ lanes) [] all = absurd all
  lanes_map (l ∷ lanes) (ls ∷ logs) all = (hold_map (held_in l) ls all.0, lanes_map lanes logs all.1)

-- a held segment of the lane at place k, as the promise sees it
abbrev pub held_as : {D : Type 0} → (k : ℕ) → HeldSegment D → List Record → Held (Spun D)
held_as k h rs = record { part = part_of h.segment; lane = k; index = h.index; broken = h.segment.broken; records = rs }

-- ---- One held segment is another

-- two parts of what stands in the middle of a list
around : {X : Type 0} (before front back after : List X) → before ++ ((front ++ back) ++ after) ≡ (before ++ front) ++ (back ++ after)
around {X} before front back after = ap (λ (l : List X). before ++ l) (append_assoc front back after) ∙ sym (append_assoc before front (back ++ after))

-- an element within it
around_mid : {X : Type 0} (before front : List X) (x : X) (back after : List X) → before ++ ((front ++ x ∷ back) ++ after) ≡ (before ++ front) ++ x ∷ (back ++ after)
around_mid before front x back after = around before front (x ∷ back) after

module _ {D : Type 0} (R : HeldSegment D → List Record → Type 0) where
  -- the segment at place i of those of a lane, with the segments around it; and how it is where another one is put there, and without it
  pub record InLane (k : ℕ) (hs : List (HeldSegment D)) (ls : List (List Record)) (i : ℕ) (h : HeldSegment D) : Type 1 where
    pub front : List (Held (Spun D))
    pub back : List (Held (Spun D))
    pub records : List Record
    pub is : held_with k hs ls ≡ front ++ held_as k h records ∷ back
    pub here : R h records
    pub lists : List Record → List (List Record)
    pub then_is : (n : HeldSegment D) (rs : List Record) → held_with k (slice_set hs i n) (lists rs) ≡ front ++ held_as k n rs ∷ back
    pub then_all : (S : HeldSegment D → List Record → Type 0) → ((s : HeldSegment D) (rs : List Record) → R s rs → S s rs) → (n : HeldSegment D) (rs : List Record) → S n rs → AllHold S (slice_set hs i n) (lists rs)
    pub rest : List (List Record)
    pub rest_is : held_with k (remove hs i) rest ≡ front ++ back
    pub rest_all : (S : HeldSegment D → List Record → Type 0) → ((s : HeldSegment D) (rs : List Record) → R s rs → S s rs) → AllHold S (remove hs i) rest

  pub in_lane : (k : ℕ) (hs : List (HeldSegment D)) (ls : List (List Record)) (i : ℕ) (h : HeldSegment D) → slice_get hs i ≡ Some h → AllHold R hs ls → InLane k hs ls i h
  in_lane k [] ls i h at all = absurd (none-some h at)
  in_lane k (x ∷ hs) [] i h at all = absurd all
  in_lane k (x ∷ hs) (l ∷ ls) zero h at all = record {
    front = [];
    back = held_with k hs ls;
    records = l;
    is = λ j. held_as k (same_Some x h at j) l ∷ held_with k hs ls;
    here = let Q : HeldSegment D → Type 0 = λ t. R t l in subst Q (same_Some x h at) all.0;
    lists = λ m. m ∷ ls;
    then_is = λ n m. refl;
    then_all = λ S so n m here. (here, hold_map R S so hs ls all.1);
    rest = ls;
    rest_is = refl;
    rest_all = λ S so. hold_map R S so hs ls all.1;
  }
  in_lane k (x ∷ hs) (l ∷ ls) (suc i) h at all = let r = in_lane k hs ls i h at all.1 in record {
    front = held_as k x l ∷ r.front;
    back = r.back;
    records = r.records;
    is = λ j. held_as k x l ∷ r.is j;
    here = r.here;
    lists = λ m. l ∷ r.lists m;
    then_is = λ n m j. held_as k x l ∷ r.then_is n m j;
    then_all = λ S so n m here. (so x l all.0, r.then_all S so n m here);
    rest = l ∷ r.rest;
    rest_is = λ j. held_as k x l ∷ r.rest_is j;
    rest_all = λ S so. (so x l all.0, r.rest_all S so);
  }

  -- the segments of the lane at place k with those of the other lanes around them, numbered from j on; and how they are where
  -- another lane is put there
  pub record LaneAmong (place j : ℕ) (lanes : List (Lane D)) (logs : Logs) (k : ℕ) (old : Lane D) : Type 1 where
    pub before : List (Held (Spun D))
    pub after : List (Held (Spun D))
    pub own : List (List Record)
    pub is : all_held j lanes logs ≡ before ++ (held_with place (held_in old) own ++ after)
    pub here : AllHold R (held_in old) own
    pub lists : List (List Record) → Logs
    pub then_is : (new : Lane D) (ls : List (List Record)) → all_held j (slice_set lanes k new) (lists ls) ≡ before ++ (held_with place (held_in new) ls ++ after)
    pub then_all : (S : HeldSegment D → List Record → Type 0) → ((s : HeldSegment D) (rs : List Record) → R s rs → S s rs) → (new : Lane D) (ls : List (List Record)) → AllHold S (held_in new) ls → AllLanesHold S (slice_set lanes k new) (lists ls)

  pub lane_among : (place j : ℕ) (lanes : List (Lane D)) (logs : Logs) (k : ℕ) (old : Lane D) → place ≡ j + k → slice_get lanes k ≡ Some old → AllLanesHold R lanes logs → LaneAmong place j lanes logs k old
  lane_among place j [] logs k old sum lane all = absurd (none-some old lane)
  lane_among place j (x ∷ lanes) [] k old sum lane all = absurd all
  lane_among place j (x ∷ lanes) (ls ∷ logs) zero old sum lane all =
      let rest = all_held (j + 1) lanes logs in let same : j ≡ place = omega arith in let e : x ≡ old = same_Some x old lane in record {
        before = [];
        after = rest;
        own = ls;
        is = λ i. held_with (same i) (held_in (e i)) ls ++ rest;
        here = subst (λ (l : Lane D). AllHold R (held_in l) ls) e all.0;
        lists = λ own. own ∷ logs;
        then_is = λ new own. ap (λ (p : ℕ). held_with p (held_in new) own ++ rest) same;
        then_all = λ S so new own has. (has, lanes_map R S so lanes logs all.1);
      }
  lane_among place j (x ∷ lanes) (ls ∷ logs) (suc k) old sum lane all =
      let r = lane_among place (j + 1) lanes logs k old (omega arith) lane all.1 in let first = held_with j (held_in x) ls in record {
        before = first ++ r.before;
        after = r.after;
        own = r.own;
        is = ap (λ (l : List (Held (Spun D))). first ++ l) r.is ∙ sym (append_assoc first r.before (held_with place (held_in old) r.own ++ r.after));
        here = r.here;
        lists = λ own. ls ∷ r.lists own;
        then_is = λ new own. ap (λ (l : List (Held (Spun D))). first ++ l) (r.then_is new own) ∙ sym (append_assoc first r.before (held_with place (held_in new) own ++ r.after));
        then_all = λ S so new own has. (hold_map R S so (held_in x) ls all.0, r.then_all S so new own has);
      }

  -- the same of all lanes, numbered from j on
  pub record InLanes (place j : ℕ) (lanes : List (Lane D)) (logs : Logs) (k i : ℕ) (old : Lane D) (h : HeldSegment D) : Type 1 where
    pub front : List (Held (Spun D))
    pub back : List (Held (Spun D))
    pub records : List Record
    pub is : all_held j lanes logs ≡ front ++ held_as place h records ∷ back
    pub here : R h records
    pub lists : List Record → Logs
    pub then_is : (new : Lane D) (n : HeldSegment D) (rs : List Record) → held_in new ≡ slice_set (held_in old) i n → all_held j (slice_set lanes k new) (lists rs) ≡ front ++ held_as place n rs ∷ back
    pub then_all : (S : HeldSegment D → List Record → Type 0) → ((s : HeldSegment D) (rs : List Record) → R s rs → S s rs) → (new : Lane D) (n : HeldSegment D) (rs : List Record) → held_in new ≡ slice_set (held_in old) i n → S n rs
        → AllLanesHold S (slice_set lanes k new) (lists rs)
    pub rest : Logs
    pub rest_is : (new : Lane D) → held_in new ≡ remove (held_in old) i → all_held j (slice_set lanes k new) rest ≡ front ++ back
    pub rest_all : (S : HeldSegment D → List Record → Type 0) → ((s : HeldSegment D) (rs : List Record) → R s rs → S s rs) → (new : Lane D) → held_in new ≡ remove (held_in old) i → AllLanesHold S (slice_set lanes k new) rest

  pub in_lanes : (place j : ℕ) (lanes : List (Lane D)) (logs : Logs) (k i : ℕ) (old : Lane D) (h : HeldSegment D) → place ≡ j + k → slice_get lanes k ≡ Some old → slice_get (held_in old) i ≡ Some h → AllLanesHold R lanes logs → InLanes place j lanes logs k i old h
  in_lanes place j lanes logs k i old h sum lane at all =
      let a = lane_among place j lanes logs k old sum lane all in let r = in_lane place (held_in old) a.own i h at a.here in record {
        front = a.before ++ r.front;
        back = r.back ++ a.after;
        records = r.records;
        is = a.is ∙ ap (λ (l : List (Held (Spun D))). a.before ++ (l ++ a.after)) r.is ∙ around_mid a.before r.front (held_as place h r.records) r.back a.after;
        here = r.here;
        lists = λ m. a.lists (r.lists m);
        then_is = λ new n rs is. a.then_is new (r.lists rs) ∙ ap (λ (hs : List (HeldSegment D)). a.before ++ (held_with place hs (r.lists rs) ++ a.after)) is
            ∙ ap (λ (l : List (Held (Spun D))). a.before ++ (l ++ a.after)) (r.then_is n rs) ∙ around_mid a.before r.front (held_as place n rs) r.back a.after;
        then_all = λ S so new n rs is here. a.then_all S so new (r.lists rs) (subst (λ (hs : List (HeldSegment D)). AllHold S hs (r.lists rs)) (sym is) (r.then_all S so n rs here));
        rest = a.lists r.rest;
        rest_is = λ new is. a.then_is new r.rest ∙ ap (λ (hs : List (HeldSegment D)). a.before ++ (held_with place hs r.rest ++ a.after)) is
            ∙ ap (λ (l : List (Held (Spun D))). a.before ++ (l ++ a.after)) r.rest_is ∙ around a.before r.front r.back a.after;
        rest_all = λ S so new is. a.then_all S so new r.rest (subst (λ (hs : List (HeldSegment D)). AllHold S hs r.rest) (sym is) (r.rest_all S so));
      }

-- ---- A segment more at the end of a lane

module _ {D : Type 0} (R : HeldSegment D → List Record → Type 0) where
  end_is : (k : ℕ) (hs : List (HeldSegment D)) (ls : List (List Record)) (h : HeldSegment D) (rs : List Record) → AllHold R hs ls → held_with k (hs ++ h ∷ []) (ls ++ rs ∷ []) ≡ held_with k hs ls ++ held_as k h rs ∷ []
  end_is k [] [] h rs all = refl
  end_is k [] (x ∷ ls) h rs all = absurd all
  end_is k (x ∷ hs) [] h rs all = absurd all
  end_is k (x ∷ hs) (y ∷ ls) h rs all = λ i. held_as k x y ∷ end_is k hs ls h rs all.1 i

  hold_end : (S : HeldSegment D → List Record → Type 0) → ((s : HeldSegment D) (rs : List Record) → R s rs → S s rs) → (hs : List (HeldSegment D)) (ls : List (List Record)) (h : HeldSegment D) (rs : List Record) → AllHold R hs ls → S h rs → AllHold S (hs ++ h ∷ []) (ls ++ rs ∷ [])
  hold_end S so [] [] h rs all here = (here, tt)
  hold_end S so [] (x ∷ ls) h rs all here = absurd all
  hold_end S so (x ∷ hs) [] h rs all here = absurd all
  hold_end S so (x ∷ hs) (y ∷ ls) h rs all here = (so x y all.0, hold_end S so hs ls h rs all.1 here)

  -- the place behind the segments of a lane, with all segments around it; and how it is where one is put there
  pub record AtEnd (place j : ℕ) (lanes : List (Lane D)) (logs : Logs) (k : ℕ) (old : Lane D) : Type 1 where
    pub front : List (Held (Spun D))
    pub back : List (Held (Spun D))
    pub is : all_held j lanes logs ≡ front ++ back
    pub lists : List Record → Logs
    pub then_is : (new : Lane D) (n : HeldSegment D) (rs : List Record) → held_in new ≡ held_in old ++ n ∷ [] → all_held j (slice_set lanes k new) (lists rs) ≡ front ++ held_as place n rs ∷ back
    pub then_all : (S : HeldSegment D → List Record → Type 0) → ((s : HeldSegment D) (rs : List Record) → R s rs → S s rs) → (new : Lane D) (n : HeldSegment D) (rs : List Record) → held_in new ≡ held_in old ++ n ∷ [] → S n rs
        → AllLanesHold S (slice_set lanes k new) (lists rs)

  pub at_end : (place j : ℕ) (lanes : List (Lane D)) (logs : Logs) (k : ℕ) (old : Lane D) → place ≡ j + k → slice_get lanes k ≡ Some old → AllLanesHold R lanes logs → AtEnd place j lanes logs k old
  at_end place j lanes logs k old sum lane all =
      let a = lane_among R place j lanes logs k old sum lane all in let own = held_with place (held_in old) a.own in record {
        front = a.before ++ own;
        back = a.after;
        is = a.is ∙ sym (append_assoc a.before own a.after);
        lists = λ rs. a.lists (a.own ++ rs ∷ []);
        then_is = λ new n rs is. a.then_is new (a.own ++ rs ∷ []) ∙ ap (λ (hs : List (HeldSegment D)). a.before ++ (held_with place hs (a.own ++ rs ∷ []) ++ a.after)) is
            ∙ ap (λ (l : List (Held (Spun D))). a.before ++ (l ++ a.after)) (end_is place (held_in old) a.own n rs a.here) ∙ around_mid a.before own (held_as place n rs) [] a.after;
        then_all = λ S so new n rs is here. a.then_all S so new (a.own ++ rs ∷ []) (subst (λ (hs : List (HeldSegment D)). AllHold S hs (a.own ++ rs ∷ [])) (sym is) (hold_end S so (held_in old) a.own n rs a.here here));
      }

-- ---- A lane whose held segments stay as they are

module _ {D : Type 0} (old new : Lane D) (same : held_in new ≡ held_in old) where
  pub quiet_held : (j : ℕ) (lanes : List (Lane D)) (logs : Logs) (k : ℕ) → slice_get lanes k ≡ Some old → all_held j (slice_set lanes k new) logs ≡ all_held j lanes logs
  quiet_held j [] logs k lane = refl
  quiet_held j (l ∷ lanes) [] zero lane = refl
  quiet_held j (l ∷ lanes) [] (suc k) lane = refl
  quiet_held j (l ∷ lanes) (ls ∷ logs) zero lane = ap (λ (q : List (HeldSegment D)). held_with j q ls ++ all_held (j + 1) lanes logs) (same ∙ ap (λ (o : Lane D). held_in o) (sym (same_Some l old lane)))
  quiet_held j (l ∷ lanes) (ls ∷ logs) (suc k) lane = ap (λ (q : List (Held (Spun D))). held_with j (held_in l) ls ++ q) (quiet_held (j + 1) lanes logs k lane)

  pub quiet_all : (R : HeldSegment D → List Record → Type 0) (lanes : List (Lane D)) (logs : Logs) (k : ℕ) → slice_get lanes k ≡ Some old → AllLanesHold R lanes logs → AllLanesHold R (slice_set lanes k new) logs
  quiet_all R [] logs k lane all = all
  quiet_all R (l ∷ lanes) [] zero lane all = absurd all
  quiet_all R (l ∷ lanes) [] (suc k) lane all = absurd all
  quiet_all R (l ∷ lanes) (ls ∷ logs) zero lane all = (subst (λ (q : List (HeldSegment D)). AllHold R q ls) (sym (same ∙ ap (λ (o : Lane D). held_in o) (sym (same_Some l old lane)))) all.0, all.1)
  quiet_all R (l ∷ lanes) (ls ∷ logs) (suc k) lane all = (all.0, quiet_all R lanes logs k lane all.1)

-- ---- Segments that were taken

pub none_taken : {D : Type 0} (j : ℕ) (lanes : List (Lane D)) → AllByRecursion (λ (l : Lane D). taken_in l ≡ None) lanes → all_taken j lanes ≡ []
none_taken j [] all = refl
none_taken {D} j (l ∷ lanes) all = rw all.0 (none_taken (j + 1) lanes all.1)

-- it stands among the held ones with these records
pub record Standing {D : Type 0} (R : HeldSegment D → List Record → Type 0) (held : List (Held (Spun D))) (lane : ℕ) (h : HeldSegment D) : Type 0 where
  pub records : List Record
  pub has : R h records
  pub among : Contains held (held_as lane h records)

module _ {D : Type 0} (R : HeldSegment D → List Record → Type 0) where
  stands_in : (lane : ℕ) (hs : List (HeldSegment D)) (logs : List (List Record)) (i : ℕ) (h : HeldSegment D) → AllHold R hs logs → slice_get hs i ≡ Some h → Standing R (held_with lane hs logs) lane h
  stands_in lane [] logs i h all is = absurd (none-some h is)
  stands_in lane (g ∷ hs) [] i h all is = absurd all
  stands_in lane (g ∷ hs) (rs ∷ logs) zero h all is =
      let same = same_Some g h is in
      record { records = rs; has = subst (λ (k : HeldSegment D). R k rs) same all.0; among = (0, omega arith, λ j. held_as lane (same j) rs) }
  stands_in lane (g ∷ hs) (rs ∷ logs) (suc i) h all is =
      let rest = stands_in lane hs logs i h all.1 is in
      record { records = rest.records; has = rest.has; among = member_behind (held_as lane g rs) (held_with lane hs logs) (held_as lane h rest.records) rest.among }

  pub standing : (j lane k : ℕ) (lanes : List (Lane D)) (logs : Logs) (l : Lane D) (i : ℕ) (h : HeldSegment D) → lane ≡ j + k → AllLanesHold R lanes logs → slice_get lanes k ≡ Some l → slice_get (held_in l) i ≡ Some h
      → Standing R (all_held j lanes logs) lane h
  standing j lane k [] logs l i h place all is there = absurd (none-some l is)
  standing j lane k (m ∷ lanes) [] l i h place all is there = absurd all
  standing j lane zero (m ∷ lanes) (ls ∷ logs) l i h place all is there =
      let same : m ≡ l = same_Some m l is in
      let here = stands_in lane (held_in m) ls i h all.0 (ap (λ (n : Lane D). slice_get (held_in n) i) same ∙ there) in
      let at : j ≡ lane = omega arith in
      record {
        records = here.records;
        has = here.has;
        among = Contains-append_left (held_with j (held_in m) ls) (all_held (j + 1) lanes logs) (held_as lane h here.records)
            (subst (λ (n : ℕ). Contains (held_with n (held_in m) ls) (held_as lane h here.records)) (sym at) here.among);
      }
  standing j lane (suc k) (m ∷ lanes) (ls ∷ logs) l i h place all is there =
      let rest = standing (j + 1) lane k lanes logs l i h (omega arith) all.1 is there in
      record { records = rest.records; has = rest.has; among = Contains-append_right (held_with j (held_in m) ls) (all_held (j + 1) lanes logs) (held_as lane h rest.records) rest.among }

-- of segments whose places are apart, those of one place are the same
pub same_place : {P : Type 0} (held : List (Held P)) (s t : Held P) → AreApartPlaces (map place_in held) → Contains held s → Contains held t → place_in s ≡ place_in t → s ≡ t
same_place [] s t apart has has' same = absurd (let lt = has.1 in omega arith)
same_place {P} (x ∷ held) s t apart has has' same = ⊎_elim
    (λ here. ⊎_elim (λ here'. sym here ∙ here') (λ there'. absurd (away t there' (ap place_in here ∙ same))) (member_front x held t has'))
    (λ there. ⊎_elim (λ here'. absurd (away s there (ap place_in here' ∙ sym same))) (λ there'. same_place held s t apart.1 there there' same) (member_front x held t has'))
    (member_front x held s has)
  where
    away : (y : Held P) → Contains held y → place_in x ≡ place_in y → ⊥
    away y has_y = all_member (λ (q : ℕ × ℕ). place_in x ≢ q) (map place_in held) (place_in y) apart.0 (member_map place_in held y has_y)

pub nones_more : (es : List Entry) (e : Entry) → nones_in (es ++ e ∷ []) ≡ nones_in es + nones_in (e ∷ [])
nones_more es e = sum_by-append _ es (e ∷ [])

pub nones_none : (es : List Entry) (pass : ℕ) → nones_in (es ++ (pass, operation_of (Took None)) ∷ []) ≡ nones_in es + 1
nones_none es pass = nones_more es (pass, operation_of (Took None))

pub nones_some : (es : List Entry) (pass index : ℕ) → nones_in (es ++ (pass, operation_of (Took (Some index))) ∷ []) ≡ nones_in es
nones_some es pass index = nones_more es (pass, operation_of (Took (Some index))) ∙ (let e : nones_in es + 0 ≡ nones_in es = omega arith in e)

takes_more : (es : List Entry) (e : Entry) → takes_in (es ++ e ∷ []) ≡ takes_in es + takes_in (e ∷ [])
takes_more es e = sum_by-append _ es (e ∷ [])

pub takes_none : (es : List Entry) (pass : ℕ) → takes_in (es ++ (pass, operation_of (Took None)) ∷ []) ≡ takes_in es
takes_none es pass = takes_more es (pass, operation_of (Took None)) ∙ (let e : takes_in es + 0 ≡ takes_in es = omega arith in e)

pub takes_some : (es : List Entry) (pass index : ℕ) → takes_in (es ++ (pass, operation_of (Took (Some index))) ∷ []) ≡ takes_in es + 1
takes_some es pass index = takes_more es (pass, operation_of (Took (Some index)))

pub takes_gave : (es : List Entry) (pass index : ℕ) → takes_in (es ++ (pass, operation_of (Gave index)) ∷ []) ≡ takes_in es
takes_gave es pass index = takes_more es (pass, operation_of (Gave index)) ∙ (let e : takes_in es + 0 ≡ takes_in es = omega arith in e)

module _ {D : Type 0} (state : D → State) (id most : ℕ) (lanes : List (Lane D)) (k : ℕ) (old new : Lane D) (lane : slice_get lanes k ≡ Some old) (same : IsSameLane old new) where
  pub ready_lane : IsReadyLane state id most old → IsLane state new → (HoldsAll old → HoldsAll new) → taken_in new ≡ None → IsReadyLane state id most new
  ready_lane was is all untaken = record {
    lane = is;
    owner = same.owner ∙ was.owner;
    untaken = untaken;
    long = subst (λ (b : ℕ). most + 2 ≤ b) (ap (λ (i : LockId PoolBase). i.base.blocks) (sym same.pool.0)) was.long;
    all = all was.all;
  }

  pub ready_set : {home : Spun D} {spindle : PassOf Spindle SpindleBase} {ups ups' : List Bool} {rooms : List Room} → Ready state id most home spindle lanes ups rooms → IsLane state new → (HoldsAll old → HoldsAll new) → taken_in new ≡ None → length ups' ≡ length ups
      → Ready state id most home spindle (slice_set lanes k new) ups' rooms
  ready_set r is all untaken flags = record {
    home_volume = r.home_volume;
    home_small = r.home_small;
    spindle_volume = r.spindle_volume;
    spindle_free = r.spindle_free;
    settled = r.settled;
    accesses = r.accesses;
    each = all_set (IsReadyLane state id most) lanes k new r.each (ready_lane (all_at (IsReadyLane state id most) lanes k old lane r.each) is all untaken);
    flags = flags ∙ r.flags ∙ sym (length-set lanes k new);
    rooms_ = r.rooms_ ∙ sym (length-set lanes k new);
    few = subst (λ (n : ℕ). n ≤ 16) (sym (length-set lanes k new)) r.few;
    most_ = r.most_;
  }

  pub at_set : {shared : Shared D} {spindle : PassOf Spindle SpindleBase} → At shared id spindle lanes → IsAt shared new → At shared id spindle (slice_set lanes k new)
  at_set {shared} a is = record { spindle_in = a.spindle_in; spindle_is = a.spindle_is; lanes_ = all_set (IsAt shared) lanes k new a.lanes_ is }

module _ {D : Type 0} (lanes : List (Lane D)) (k : ℕ) (old new : Lane D) (lane : slice_get lanes k ≡ Some old)
    (stays : (h : HeldSegment D) → Contains (held_in old) h → (n : HeldSegment D) × Contains (held_in new) n × (n.index ≡ h.index) × (blocks_of n.segment ≡ blocks_of h.segment)) where
  pub placed_set : (e : Indexed) → IsPlacedIn lanes e → IsPlacedIn (slice_set lanes k new) e
  placed_set e p = ⊎_elim (λ here. moved here) (λ other. record { lane = p.lane; segment = p.segment; lane_is = get_other lanes k e.listed.lane new other ∙ p.lane_is; held = p.held; index = p.index; behind = p.behind; within = p.within }) (same_or_not e.listed.lane k)
    where
      moved : e.listed.lane ≡ k → IsPlacedIn (slice_set lanes k new) e
      moved here =
          let is_old : p.lane ≡ old = same_Some p.lane old (sym p.lane_is ∙ ap (slice_get lanes) here ∙ lane) in
          let n = stays p.segment (subst (λ (l : Lane D). Contains (held_in l) p.segment) is_old p.held) in record {
            lane = new;
            segment = n.0;
            lane_is = ap (slice_get (slice_set lanes k new)) here ∙ get_set lanes k old new lane;
            held = n.1;
            index = n.2 ∙ p.index;
            behind = p.behind;
            within = subst (λ (b : ℕ). e.pos + length e.listed.keep < b) (sym n.3) p.within;
          }

-- a segment of a lane in which another one is in the place of one, or at the end
pub stays_set : {D : Type 0} (hs : List (HeldSegment D)) (i : ℕ) (o n : HeldSegment D) → slice_get hs i ≡ Some o → n.index ≡ o.index → blocks_of n.segment ≡ blocks_of o.segment
    → (h : HeldSegment D) → Contains hs h → (t : HeldSegment D) × Contains (slice_set hs i n) t × (t.index ≡ h.index) × (blocks_of t.segment ≡ blocks_of h.segment)
stays_set {D} hs i o n at index blocks h has = ⊎_elim
    (λ there. (h, there, refl, refl))
    (λ same. (n, member_of (slice_set hs i n) n i (get_set hs i o n at), index ∙ ap (λ (t : HeldSegment D). t.index) same, blocks ∙ ap (λ (t : HeldSegment D). blocks_of t.segment) same))
    (member_set hs i o n h at has)

pub stays_push : {D : Type 0} (hs : List (HeldSegment D)) (n h : HeldSegment D) → Contains hs h → (t : HeldSegment D) × Contains (hs ++ n ∷ []) t × (t.index ≡ h.index) × (blocks_of t.segment ≡ blocks_of h.segment)
stays_push hs n h has = (h, Contains-append_left hs (n ∷ []) h has, refl, refl)

-- ---- lanes

module _ {D : Type 0} where
  -- the same segments
  pub counted_same : (lanes : List (Lane D)) (k : ℕ) (old new : Lane D) (es : List Indexed) → slice_get lanes k ≡ Some old → held_in new ≡ held_in old → AreCounted lanes es → AreCounted (slice_set lanes k new) es
  counted_same lanes k old new es lane same counted j l is = at (same_or_not j k)
    where
      Each : List (HeldSegment D) → Type 0
      Each hs = AllByRecursion (λ (h : HeldSegment D). valid_of h.segment ≡ entries_at j h.index es) hs

      at : (j ≡ k) ⊎ (j ≡ k → ⊥) → AllByRecursion (λ (h : HeldSegment D). valid_of h.segment ≡ entries_at j h.index es) (held_in l)
      at (inl here) =
          let l_is : l ≡ new = same_Some l new (sym is ∙ ap (slice_get (slice_set lanes k new)) here ∙ get_set lanes k old new lane) in
          subst (λ (hs : List (HeldSegment D)). AllByRecursion (λ (h : HeldSegment D). valid_of h.segment ≡ entries_at j h.index es) hs) (sym (ap (λ (q : Lane D). held_in q) l_is ∙ same))
          (counted j old (ap (slice_get lanes) here ∙ lane))
      at (inr other) = counted j l (sym (get_other lanes k j new other) ∙ is)

  -- another index with as many entries in each segment
  pub counted_as : (lanes : List (Lane D)) (es ds : List Indexed) → ((k index : ℕ) → entries_at k index ds ≡ entries_at k index es) → AreCounted lanes es → AreCounted lanes ds
  counted_as lanes es ds same counted k l is = each (held_in l) (counted k l is)
    where
      each : (hs : List (HeldSegment D)) → AllByRecursion (λ (h : HeldSegment D). valid_of h.segment ≡ entries_at k h.index es) hs → AllByRecursion (λ (h : HeldSegment D). valid_of h.segment ≡ entries_at k h.index ds) hs
      each [] all = tt
      each (h ∷ hs) all = (all.0 ∙ sym (same k h.index), each hs all.1)

  -- Another lane at one place, and another index: each segment of the other lanes has as many entries as before, and so has each of this one as it says.
  pub counted_set : (lanes : List (Lane D)) (k : ℕ) (old new : Lane D) (es ds : List Indexed) → slice_get lanes k ≡ Some old
      → ((j index : ℕ) → j ≢ k → entries_at j index ds ≡ entries_at j index es) → AllByRecursion (λ (h : HeldSegment D). valid_of h.segment ≡ entries_at k h.index ds) (held_in new)
      → AreCounted lanes es → AreCounted (slice_set lanes k new) ds
  counted_set lanes k old new es ds lane others here counted j l is = at (same_or_not j k)
    where
      each : (hs : List (HeldSegment D)) → j ≢ k → AllByRecursion (λ (h : HeldSegment D). valid_of h.segment ≡ entries_at j h.index es) hs → AllByRecursion (λ (h : HeldSegment D). valid_of h.segment ≡ entries_at j h.index ds) hs
      each [] other all = tt
      each (h ∷ hs) other all = (all.0 ∙ sym (others j h.index other), each hs other all.1)

      at : (j ≡ k) ⊎ (j ≡ k → ⊥) → AllByRecursion (λ (h : HeldSegment D). valid_of h.segment ≡ entries_at j h.index ds) (held_in l)
      at (inl same) =
          let l_is : l ≡ new = same_Some l new (sym is ∙ ap (slice_get (slice_set lanes k new)) same ∙ get_set lanes k old new lane) in
          let P : ℕ → Lane D → Type 0 = λ i q. AllByRecursion (λ (h : HeldSegment D). valid_of h.segment ≡ entries_at i h.index ds) (held_in q) in
          subst (λ (q : Lane D). P j q) (sym l_is) (subst (λ (i : ℕ). P i new) (sym same) here)
      at (inr other) = each (held_in l) other (counted j l (sym (get_other lanes k j new other) ∙ is))

  -- what each segment of a lane counts, where one segment at a place is another and all others have the same index and count
  pub held_set : (Q : HeldSegment D → Type 0) (hs : List (HeldSegment D)) (i : ℕ) (n : HeldSegment D) → ((j : ℕ) (h : HeldSegment D) → j ≢ i → slice_get hs j ≡ Some h → Q h) → Q n → AllByRecursion Q (slice_set hs i n)
  held_set Q [] i n others here = tt
  held_set Q (x ∷ hs) zero n others here = (here, all_from hs (λ j h is. others (suc j) h (λ no. let e : suc j ≡ 0 = no in omega arith) is))
    where
      all_from : (gs : List (HeldSegment D)) → ((j : ℕ) (h : HeldSegment D) → slice_get gs j ≡ Some h → Q h) → AllByRecursion Q gs
      all_from [] each = tt
      all_from (g ∷ gs) each = (each 0 g refl, all_from gs (λ j h is. each (suc j) h is))
  held_set Q (x ∷ hs) (suc i) n others here = (others 0 x (λ no. let e : 0 ≡ suc i = no in omega arith) refl, held_set Q hs i n (λ j h other is. others (suc j) h (λ e. other (let f : suc j ≡ suc i = e in omega arith)) is) here)

-- each image of a segment that holds records is a log of them
pub image_is_log : {D : Type 0} (state : D → State) (seg : Segment D) (rs : List Record) (c : List Block) → Holds state seg rs → IsImageOf (disk_of state seg).values c → IsLog c (owner_of seg) rs
image_is_log state seg rs c holds is = subst (λ (bs : List Block). IsLog bs (owner_of seg) rs) (sym (settled_only (disk_of state seg).values holds.disk.bs c holds.disk.settled is)) holds.disk.log

-- no lane has a taken segment, before and after
pub untaken_set : {D : Type 0} (state : D → State) (id most : ℕ) (lanes : List (Lane D)) (k : ℕ) (new : Lane D) → AllByRecursion (IsReadyLane state id most) lanes → taken_in new ≡ None → all_taken 0 lanes ≡ all_taken 0 (slice_set lanes k new)
untaken_set {D} state id most lanes k new ready is = let all = all_map (IsReadyLane state id most) (λ (l : Lane D). taken_in l ≡ None) (λ l is. is.untaken) lanes ready in
    none_taken 0 lanes all ∙ sym (none_taken 0 (slice_set lanes k new) (all_set (λ (l : Lane D). taken_in l ≡ None) lanes k new all is))

-- the logger of the lane that took the write is that of its place
pub logger_at : {D : Type 0} (count k logger : ℕ) (old new : List (Lane D)) → ChangesLane (HasTakenWrite count) k old new → IfSome (slice_get new k) (λ l. logger ≡ logger_of l) → slice_get (map logger_of old) k ≡ Some logger
logger_at {D} count k logger old new change is =
    let now : slice_get new k ≡ Some change.after = ap (λ (l : List (Lane D)). slice_get l k) change.set ∙ get_set old k change.before change.after change.there in
    let same : logger ≡ logger_of change.after = (let P : Option (Lane D) → Type 0 = λ o. IfSome o (λ l. logger ≡ logger_of l) in subst P now is) in
    slice_get-map logger_of old k ∙ ap (option_map logger_of) change.there ∙ ap Some (sym change.change.same.logger ∙ sym same)
