-- The volumes of a rack that was closed: their entries, the parts that had a fault, and their passes at the pools.
use Rattle.rack.proofs.ClosingBasics.{◌≡◌, ◌≢◌, ◌<◌, ◌≤◌, ℕ, Bool, false, List, [], ◌∷◌, length, Option, Some, None, is_some, refl, sym, ap, ◌∙◌, subst, arith, ◌+◌, zero, suc, get_or, map}
use Rattle.rack.proofs.ClosingBasics.{option_map, option_and_then, cond, Contains, IsTrue, slice_get, slice_get_past, cases_lt, IsSome, count_by, All, AllByRecursion, cons_option, same_Some, slice_get-get_or, slice_get_within}
use Rattle.rack.proofs.ClosingBasics.{length-map, slice_get-map, get_or_from_slice_get, none-some, All-from_recursion, All-contains, Contains-get_or, sum_by-cons, ⊎_elim, ⊤}
use Rattle.rack.proofs.ClosingTerms.{Block, State, IsImageOf, Rose, Told, BayState, faulty_places, Shape, flight_of, writes, Images, image_of, segment_of, Indexed, listed_in, Record, IsLog}
use Rattle.rack.proofs.ClosingTerms.{extent_of, Write, Held, AreInUse, IsFound, HomePart, SegmentPart, IsPartOf, SaysOwnerOrFree, versions, PartName, entries_of, last_look, HasPassed, Look}
use Rattle.rack.proofs.ClosingTerms.{IsHeldBy, Config, VolumeConf, pass_number, pass_mine, TurnLock, PassOf, state_of, disk_of, volume_of, Spun, Spindle, SpindleBase, PoolBase, Pool, part_of}
use Rattle.rack.proofs.ClosingTerms.{FreeSegment, held_in, logger_of, pool_of, HeldSegment, Lane, all_held, down_of, parts_of, seen, notes_of, AreNamed, nones_at, nones_in, takes_in, takes_of}
use Rattle.rack.proofs.ClosingTerms.{Part, Station, shapes_of, AreLeft, shape_in, IsTold, image_here, segment_here, IsImageOut, away_with, pool_pass, spindle_pass, base_of_station, IsStation, KeepToViews}
use Rattle.rack.proofs.ClosingTerms.{IsClosing, GivesBack, IsComplete, HasFaultHere, IsClosedPool, entries_made, ImageRest, Rack, Rest, VolumePasses, IsTogether, HasBack, RecoversTo, IsClosedVolume}
use Rattle.rack.proofs.ClosingTerms.{HasFaultyPart, LiesInView, LeavesNoLog, part_named, place_in, volume_in, AreClosedVolumes, IsValid, Noted, Keeps}
use Rattle.logger.specs.Lanes.{spindle_of}
use Rattle.manager.specs.declared.manager.Manager.{Manager}
use Rattle.rack.specs.Closes.{MadeByManager}
use Rattle.turn_lock.specs.Histories.{Entry, own}
use Rattle.manager.specs.declared.base.LaneBase.{LaneBase}
use Rattle.volume_images.proofs.SettledParts.{fault_found}
use Rattle.rack_parts.proofs.Members.{a_value, all_member, none_in, of_recursion, element_at, first_in, later_in, here_within}
use Rattle.rack.proofs.StationParts.{IsEnding, is_base, is_station, id_of, image_end, shape_of_image, whole_end, closing_of, manager_of, entries_of_station, is_closing, home_there}
use Rattle.rack.proofs.StationParts.{in_view, lane_there, of_seen, says_owner}
use Rattle.rack.proofs.FinalImages.{IsCrash, station_with, left_now, left_out, left_origin, only_held, cut_left, whole_left, distinct_left, listed_left, on_loggers_left, volume_at}
use Rattle.rack.proofs.Cases.{by_option, some_or}
use Rattle.rack.specs.PoolUses.{PassesEmpty, TakesFew, times_empty, times_taken}
use Rattle.rack.proofs.HeldSegments.{each_held}
use Rattle.rack.proofs.NewFaults.{told_each}

-- A volume that lists no record when it is closed, while no call had failed: no log of it is left.

-- a manager that lists nothing has no segment in use
none_in_use : {P : Type 0} (indexed : List Indexed) (held : List (Held P)) → indexed ≡ [] → AreInUse held
    → AllByRecursion (λ (s : Held P). (k : ℕ) (r : Record) → slice_get s.records k ≡ Some r → IsValid (extent_of r).cover → IsFound indexed s k r) held → AllByRecursion (λ (s : Held P). ⊥) held
none_in_use indexed [] none in_use each = tt
none_in_use indexed (s ∷ held) none in_use each =
    let x = in_use.0 in
    let found = each.0 x.1.0 x.0 (slice_get-get_or s.records x.1.0 x.0 x.1.1 ∙ ap (λ (r : Record). Some r) x.1.2) x.2 in
    (none_in found.entry (subst (λ (es : List Indexed). Contains es found.entry) none found.listed), none_in_use indexed held none in_use.1 each.1)

none_listed : (es : List Indexed) → listed_in es ≡ [] → es ≡ []
none_listed [] e = refl
none_listed (x ∷ es) e = absurd (cc e)

still_up : (d : Option Part) → is_some (down_of d) ≡ false → d ≡ None
still_up None e = refl
still_up (Some p) e = absurd (cc e)

-- no segment of an image that was out is a log of it
no_log_left : {D : Type 0} {state : D → State} {tells : Bool} {config : Config} {b : BayState} {r : Rack D} {first second : Rest D} {old new : Told} {images : Images} (crash : IsCrash state tells config b r first second old new images)
    (s : Station D) (has : Contains r.stations.items s) → flight_of (entries_of (notes_of (entries_of_station crash.ending s has))) ≡ None
    → (last_look (base_of_station s).volume.began.look (notes_of (entries_of_station crash.ending s has))).listed ≡ []
    → (k i : ℕ) (z : Shape) (bs : List Block) (rs : List Record) → slice_get (shapes_of config) k ≡ Some z → IsImageOut r.rest.images.items k → image_of images k ≡ Some bs → i < z.segments → IsLog (segment_of z bs i) s.id rs → ⊥
no_log_left {D} crash s has up none k i z bs rs at out image within log =
    let q = left_out crash k z bs at out image in
    only_held crash s has k i (segment_of z bs i) (left_origin crash k i z q.0 bs at q.1 q.2 within)
    (λ l h in_lanes logger in_held index. of_seen crash.ending s has (λ (g : Held (Spun D)). ⊥) ⊥ none_held l h in_lanes in_held (λ i rs broken x. x))
    rs (subst (λ (v : ℕ). IsLog (segment_of z bs i) v rs) (sym (id_of crash.ending s has)) log)
  where
    m : Manager D
    m = manager_of crash.ending s has

    none_held : AllByRecursion (λ (g : Held (Spun D)). ⊥) (all_held 0 m.lanes.items (is_closing crash.ending s has).stands.keeps.logs)
    none_held =
        let ic = is_closing crash.ending s has in
        let kp = ic.stands.keeps in
        let is_up = still_up m.down (kp.upholds.is_down ∙ ap is_some up) in
        let listed : listed_in m.index.entries ≡ [] = sym (ap (λ (look : Look). look.listed) ic.stands.look) ∙ none in
        none_in_use m.index.entries (all_held 0 m.lanes.items kp.logs) (none_listed m.index.entries listed) (kp.in_use crash.told is_up) ((kp.upholds.calm up).whole crash.told).index.each

-- The places of an image's parts that had a fault.

-- a list each of whose items is there
pub all_there : {X : Type 0} (xs : List (Option X)) → ((i : ℕ) → i < length xs → IsSome (get_or xs i None)) → (ys : List X) × (xs ≡ map (λ (y : X). Some y) ys)
all_there [] each = ([], refl)
all_there (None ∷ xs) each = let x = each 0 (omega arith) in absurd (cc x)
all_there (Some x ∷ xs) each = let rest = all_there xs (λ i less. each (suc i) (omega (arith, less))) in (x ∷ rest.0, λ j. Some x ∷ rest.1 j)

item_of : {X : Type 0} (ys : List X) (i : ℕ) (p : X) → get_or (map (λ (y : X). Some y) ys) i None ≡ Some p → slice_get ys i ≡ Some p
item_of [] i p at = at
item_of (y ∷ ys) zero p at = at
item_of (y ∷ ys) (suc i) p at = item_of ys i p at

-- the parts of an image, by their places
abbrev pub part_at : {D : Type 0} → ImageRest D → (place : ℕ) → Option (Spun D)
part_at q place = get_or (Some q.label ∷ q.home ∷ q.segments.items) place None

pub segment_at_place : {D : Type 0} (q : ImageRest D) (i : ℕ) → part_at q (2 + i) ≡ segment_here q i
segment_at_place q i = ap (part_at q) (let e : 2 + i ≡ suc (suc i) = omega arith in e)

-- where one has a fault, its place is among those
pub fault_at : {D : Type 0} (state : D → State) (q : ImageRest D) (disks : List D) → IsTogether q disks → (place : ℕ) (p : Spun D) → part_at q place ≡ Some p → 0 < (state_of state p).faults → Contains (faulty_places state disks) place
fault_at {D} state q disks together place p is fault =
    let parts : List (Spun D) = q.label ∷ together.home ∷ together.segments in
    let at : slice_get parts place ≡ Some p = item_of parts place p (sym (λ i. get_or (Some q.label ∷ together.home_is i ∷ together.segments_are i) place None) ∙ is) in
    let disk : slice_get disks place ≡ Some (disk_of p)
    = ap (λ (ds : List D). slice_get ds place) together.disks_are ∙ slice_get-map (λ (s : Spun D). disk_of s) parts place ∙ ap (option_map (λ (s : Spun D). disk_of s)) at in
    let found = fault_found state 0 disks place (slice_get_within disks place (disk_of p) disk) (λ e. subst (λ (x : D). 0 < (state x).faults) (sym (get_or_from_slice_get disks place (disk_of p) e disk)) fault) in
    let none_before : 0 + place ≡ place = omega arith in
    subst (λ (n : ℕ). Contains (faulty_places state disks) n) none_before found

-- the disks of an image all of whose parts are here
together_of : {D : Type 0} (q : ImageRest D) → IsComplete q → (disks : List D) × IsTogether q disks
together_of {D} q whole =
    let home = a_value q.home whole.home in
    let segments = all_there q.segments.items whole.segments in
    (disk_of q.label ∷ disk_of home.0 ∷ map (λ (p : Spun D). disk_of p) segments.0, record { home = home.0; segments = segments.0; home_is = home.1; segments_are = segments.1; disks_are = refl })

-- A volume that was closed: its entries, and the parts that had a fault.

-- what giving back gives, of the images as they were before
pub told_end : {D : Type 0} (state : D → State) (config : Config) (second third : Rest D) (a b : Option Told) → third.images ≡ second.images → IsTold (GivesBack state config third.images.items 0) a b
    → (R : Told → Told → Type 0) → ((o n : Told) → GivesBack state config second.images.items 0 o n → R o n) → IsTold R a b
told_end state config second third a b same given R each =
    told_each (GivesBack state config second.images.items 0) R a b each (subst (λ w. IsTold (GivesBack state config w.items 0) a b) same given)

module _ {D : Type 0} {state : D → State} {tells : Bool} {config : Config} {b : BayState} {r : Rack D} {first second : Rest D} (ending : IsEnding state tells config b r first second) where
  open ending use {closed}

  -- a part of an image that goes back has a fault
  pub fault_here : (k place : ℕ) (q : ImageRest D) (p : Spun D) → image_here second.images.items k ≡ Some q → part_at q place ≡ Some p → 0 < (state_of state p).faults → HasFaultHere state second.images.items 0
  fault_here k place q p here is fault =
      let disks = together_of q (whole_end ending k q here) in
      record { volume = k; behind = omega arith; image = q; here = here; disks = disks.0; together = disks.1; fault = λ e. none_in place (subst (λ (xs : List ℕ). Contains xs place) e (fault_at state q disks.0 disks.1 place p is fault)) }

  -- and the bay's list has it
  pub fault_listed : (old new : Told) (given : GivesBack state config second.images.items 0 old new) (k place : ℕ) (q : ImageRest D) (p : Spun D) → image_here second.images.items k ≡ Some q → part_at q place ≡ Some p → 0 < (state_of state p).faults
      → (v : VolumeConf) × (slice_get config.volumes.items k ≡ Some v) × Contains given.more (v.name, place)
  fault_listed old new given k place q p here is fault =
      let z = shape_of_image ending k q here in
      let v = volume_at config k z.0 z.1 in
      let back = given.back k v.0 q (omega arith) v.1 here in
      (v.0, v.1, back.faulty place (fault_at state q back.disks back.together place p is fault))

  module _ (s : Station D) (has : Contains r.stations.items s) where
    abbrev view : List ℕ
    view = (base_of_station s).volume.began.view

    abbrev m : Manager D
    m = manager_of ending s has

    abbrev es : List Entry
    es = entries_of_station ending s has

    abbrev ic : IsClosing tells state first s (closing_of ending s has).0
    ic = is_closing ending s has

    -- a segment is that of a logger of the view, and each image of it says the owner or free
    abbrev LiesHere : PartName → Spun D → Type 0
    LiesHere HomePart p = ⊤
    LiesHere (SegmentPart logger index) p = Contains view logger × (IsTrue tells → (bs : List Block) → IsImageOf (state_of state p).values bs → SaysOwnerOrFree s.id bs)

    -- the part of this name, which had a fault, in its image
    record IsFaulty (name : PartName) : Type 0 where
      image : ImageRest D
      here : image_here second.images.items (volume_in (part_named s.id name)) ≡ Some image
      part : Spun D
      part_is : part_at image (place_in (part_named s.id name)) ≡ Some part
      fault : 0 < (state_of state part).faults
      lies : LiesHere name part

    abbrev in_lane : Held (Spun D) → Type 0
    in_lane h = (l : Lane D) × (g : HeldSegment D) × Contains m.lanes.items l × Contains (held_in l) g × (part_of g.segment ≡ h.part) × (g.index ≡ h.index)

    named : (name : PartName) (p : Spun D) → IsPartOf view (seen m ic.stands.keeps.logs) name p → 0 < (state_of state p).faults → IsFaulty name
    named HomePart p home fault =
        let q = home_there ending s has in
        record { image = q.0; here = ap (image_here second.images.items) (sym (id_of ending s has)) ∙ q.1; part = p; part_is = q.2 ∙ ap (λ (x : Spun D). Some x) home; fault = fault; lies = tt }
    named (SegmentPart logger index) p held fault =
        let all = each_held in_lane 0 m.lanes.items ic.stands.keeps.logs (λ i l g rs broken in_lanes in_held. (l, g, in_lanes, in_held, refl, refl)) in
        let x = of_recursion in_lane (all_held 0 m.lanes.items ic.stands.keeps.logs) held.0 all held.1 in
        let t = lane_there ending s has x.0 x.1 x.2 x.3 in
        let part : part_of x.1.segment ≡ p = x.4 ∙ held.4 in
        let by = of_recursion (IsHeldBy (parts_of tells state) (base_of_station s).volume.began) (all_held 0 m.lanes.items ic.stands.keeps.logs) held.0 ic.stands.keeps.upholds.places.each held.1 in
        let lies : logger ≡ logger_of x.0 = same_Some logger (volume_of held.0.part) (sym held.2 ∙ by.logger) ∙ ap (λ (q : Spun D). volume_of q) (sym x.4) ∙ t.0 in
        record {
          image = t.1;
          here = ap (image_here second.images.items) lies ∙ t.2;
          part = p;
          part_is = segment_at_place t.1 index ∙ ap (segment_here t.1) (sym held.3 ∙ sym x.5) ∙ t.3 ∙ ap (λ (q : Spun D). Some q) part;
          fault = fault;
          lies = (
            subst (λ (k : ℕ). Contains view k) (sym lies) (in_view ending s has x.0 x.2),
            λ told bs im. subst (λ (v : ℕ). SaysOwnerOrFree v bs) (id_of ending s has)
                (says_owner ending s has told x.0 x.1 x.2 x.3 bs (subst (λ (q : Spun D). IsImageOf (state_of state q).values bs) (sym part) im)),
          );
        }

    -- where a call failed, the part that is down
    broken : (flight_of (entries_of (notes_of es)) ≡ None → ⊥) → (name : PartName) × (down_of m.down ≡ Some name) × IsFaulty name
    broken broke =
        let u = ic.stands.keeps.upholds in
        let flight = some_or (flight_of (entries_of (notes_of es))) broke in
        let name = a_value (down_of m.down) (u.is_down ∙ ap is_some flight.1) in
        let p = u.failed name.0 name.1 in
        (name.0, name.1, named name.0 p.0 p.1 p.2)

    -- it came back with a fault
    faulty_part : (old new : Told) → GivesBack state config second.images.items 0 old new → (name : PartName) → IsFaulty name → HasFaultyPart tells config s.id view name old new
    faulty_part old new given name f =
        let v = fault_listed old new given (volume_in (part_named s.id name)) (place_in (part_named s.id name)) f.image f.part f.here f.part_is f.fault in
        record { more = given.more; more_is = given.faulty; conf = v.0; conf_is = v.1; among = v.2; lies = of name f v.0 v.1 }
      where
        of : (name : PartName) → IsFaulty name → (v : VolumeConf) → slice_get config.volumes.items (volume_in (part_named s.id name)) ≡ Some v → LiesInView tells config s.id view v name new
        of HomePart f v at = tt
        of (SegmentPart logger index) f v at = (
          f.lies.0,
          λ told images left.
              let z_at = slice_get-map (shape_in config) config.volumes.items logger ∙ ap (option_map (shape_in config)) at in
              let x = left_now (record { ending = ending; told = told; given = given; left = left }) logger (shape_in config v) f.image z_at f.here in
              (x.0, x.1, f.lies.1 told (segment_of (shape_in config v) x.0 index) (x.2.segments index f.part (sym (segment_at_place f.image index) ∙ f.part_is))),
        )

    recovers : IsTrue tells → (old new : Told) → GivesBack state config second.images.items 0 old new → RecoversTo config r.rest.images.items s es new
    recovers told old new given = record {
      cut = λ images left. cut_left (crash images left) s has;
      whole = λ images left up. whole_left (crash images left) s has up;
      listed = λ images left up. listed_left (crash images left) s has up;
      on_loggers = λ images left up. on_loggers_left (crash images left) s has up;
      distinct = λ images left. distinct_left (crash images left) s has;
    }
      where
        crash : (images : Images) → AreLeft config new images → IsCrash state tells config b r first second old new images
        crash images left = record { ending = ending; told = told; given = given; left = left }

    -- what is said of a volume, by the entries that its lock was closed with
    closed_volume : (x y : BayState) → IsTold (GivesBack state config second.images.items 0) x.told y.told → (HasFaultHere state second.images.items 0 → Rose x.faults y.faults)
        → (v : IsClosedVolume tells config r.rest.images.items x y s) × (v.entries ≡ es)
    closed_volume x y given cause =
        let station = is_station ending s has in (
          record {
            entries = es;
            worker_part = ic.whole.parts 0 s.worker (omega arith);
            helper_part = ic.whole.parts 1 s.worker (omega arith);
            keeper_part = ic.whole.parts 2 s.worker (omega arith);
            no_more = λ n w h k. ic.whole.no_more n
                (All-from_recursion (λ p. pass_number p ≢ n) (s.worker ∷ s.helper ∷ s.keeper ∷ [])
                (λ e. w (sym e ∙ station.worker_.number_is), (λ e. h (sym e ∙ station.helper_.number_is), (λ e. k (sym e ∙ station.keeper_.number_is), tt))));
            opening = ic.stands.keeps.upholds.began;
            history = ic.stands.keeps.upholds.history;
            cause = λ broke. let f = broken broke in cause (fault_here (volume_in (part_named s.id f.0)) (place_in (part_named s.id f.0)) f.2.image f.2.part f.2.here f.2.part_is f.2.fault);
            faulty = λ broke. let f = broken broke in (f.0, ap (λ (l : Look). l.down) ic.stands.look ∙ f.1, each (HasFaultyPart tells config s.id view f.0) (λ o n back. faulty_part o n back f.0 f.2));
            recovers = λ told. each (λ o n. RecoversTo config r.rest.images.items s es n) (recovers told);
            emptied = λ told up none. each (λ o n. LeavesNoLog config r.rest.images.items s.id n)
                (λ o n back. λ images left. no_log_left (record { ending = ending; told = told; given = back; left = left }) s has up none);
          },
          refl,
        )
      where
        each : (R : Told → Told → Type 0) → ((o n : Told) → GivesBack state config second.images.items 0 o n → R o n) → IsTold R x.told y.told
        each R back = told_each (GivesBack state config second.images.items 0) R x.told y.told back given

-- Which disks and pools the volumes of a rack used, once its stations are closed.

-- a row with something at a place is there
row_there : {D X : Type 0} (rows : List (VolumePasses D)) (at : VolumePasses D → Option X) (v : ℕ) (x : X) → option_and_then at (slice_get rows v) ≡ Some x → v < length rows
row_there rows at v x here = ⊎_elim (λ less. less) (λ past. absurd (none-some x (sym (ap (option_and_then at) (slice_get_past rows v past)) ∙ here))) (cases_lt v (length rows))

-- a pass of a spindle that no manager had is as it was, and its number is that of a volume
pub spindle_stays : {D : Type 0} {state : D → State} {tells : Bool} {config : Config} {b : BayState} {r : Rack D} {first second : Rest D} (ending : IsEnding state tells config b r first second) (v k : ℕ) (p : PassOf Spindle SpindleBase)
    → k < length r.shared.spindles.items → spindle_pass r.rest v k ≡ Some p → (v < length (shapes_of config)) × (spindle_pass second v k ≡ Some p)
spindle_stays {D = D} {r = r} ending v k p within here =
    let row = row_there r.rest.passes.items (λ (q : VolumePasses D). get_or q.spindles.items k None) v p here in
    let away = (ending.can.rest.parts.spindles.here v k row within).0 (ap is_some here) in
    (omega (arith, row, ending.can.rest.parts.count), ending.kept.spindles v k ∙ ending.closed.spindles v k away ∙ here)

-- a pass of a pool that no manager had is as it was
pool_stays : {D : Type 0} {state : D → State} {tells : Bool} {config : Config} {b : BayState} {r : Rack D} {first second : Rest D} (ending : IsEnding state tells config b r first second) (v k : ℕ) (p : PassOf (Pool (FreeSegment D)) PoolBase)
    → k < length r.shared.pools.items → pool_pass r.rest v k ≡ Some p → pool_pass first v k ≡ Some p
pool_stays {D = D} {r = r} ending v k p within here =
    let row = row_there r.rest.passes.items (λ (q : VolumePasses D). get_or q.pools.items k None) v p here in
    ending.closed.pools v k ((ending.can.rest.parts.pools.here v k row within).0 (ap is_some here)) ∙ here

-- a lane that is away is in the view of its volume
not_away : {D : Type 0} (views : ℕ → List ℕ) (r : Rack D) → KeepToViews views r → All (λ s. IsStation s) r.stations.items → (v k : ℕ) → (Contains (views v) k → ⊥)
    → Contains (away_with (map (λ (s : Station D). base_of_station s) r.stations.items)).lanes (v, k) → ⊥
not_away {D} views r keep stations v k never has = ⊎_elim
    (λ x.
    let id = (All-contains (λ t. IsStation t) r.stations.items x.0 stations x.1).id in
    let view = All-contains (λ (t : Station D). views t.id ≡ (base_of_station t).volume.began.view) r.stations.items x.0 keep.opened x.1 in
    never (subst (λ (xs : List ℕ). Contains xs k) (sym view ∙ ap views (sym id ∙ sym x.2)) x.3))
    (λ away. away has)
    (station_with r.stations.items v k)

-- what a station's volume has of a spindle's entries its manager's pass had made
pub made_by_manager : {D : Type 0} {state : D → State} {tells : Bool} {config : Config} {b : BayState} {r : Rack D} {first second : Rest D} (ending : IsEnding state tells config b r first second) (s : Station D) (has : Contains r.stations.items s) (k : ℕ) (entries : List Entry)
    → (s.id < length (shapes_of config) → own s.id entries ≡ entries_made (spindle_pass second s.id k)) → MadeByManager s k entries
made_by_manager {D = D} {config = config} {r = r} {first = first} {second = second} ending s has k entries made =
    let closing = is_closing ending s has in
    let lanes = (manager_of ending s has).lanes.items in
    record {
      manager = manager_of ending s has;
      locks = closing.stands.keeps.locks;
      at_home = λ same. its (manager_of ending s has).spindle (ap (spindle_pass first s.id) same ∙ closing.spindle);
      at_lanes = all_member (λ (l : Lane D). logger_of l ≡ k → own s.id entries ≡ pass_mine (spindle_of l)) lanes
          (λ l in_lanes at. its (spindle_of l) (ap (spindle_pass first s.id) (sym at) ∙ (All-contains (HasBack first s.id) lanes l closing.back in_lanes).spindle));
    }
  where
    below : s.id < length (shapes_of config)
    below =
        let owner = (base_of_station s).volume.began.owner in
        let image = a_value (image_here r.rest.images.items owner) (is_base ending s has).out in
        let within = here_within r.rest.images.items owner image.0 image.1 in
        omega (arith, within, ending.can.rest.parts.images.0, id_of ending s has)

    its : (p : PassOf Spindle SpindleBase) → spindle_pass first s.id k ≡ Some p → own s.id entries ≡ pass_mine p
    its p here = made below ∙ ap (λ (o : Option (PassOf Spindle SpindleBase)). entries_made o) (ending.kept.spindles s.id k ∙ here)

-- the pass of a volume at a disk that isn't its own nor in its view made no entries
pub none_made : {D : Type 0} (views : ℕ → List ℕ) (r : Rack D) → KeepToViews views r → All (λ s. IsStation s) r.stations.items → (last : Rest D) (v k : ℕ) → v ≢ k → (Contains (views v) k → ⊥)
    → ((Contains (away_with (map (λ (s : Station D). base_of_station s) r.stations.items)).lanes (v, k) → ⊥) → spindle_pass last v k ≡ spindle_pass r.rest v k) → entries_made (spindle_pass last v k) ≡ []
none_made {D} views r keep stations last v k other never same = ap (λ (o : Option (PassOf Spindle SpindleBase)). entries_made o) (same (not_away views r keep stations v k never)) ∙ go (spindle_pass r.rest v k) refl
  where
    go : (o : Option (PassOf Spindle SpindleBase)) → spindle_pass r.rest v k ≡ o → entries_made o ≡ []
    go None e = refl
    go (Some p) e = keep.unused v k p other never e

-- nor did that at a pool that isn't in its view
none_used : {D : Type 0} (views : ℕ → List ℕ) (r : Rack D) → KeepToViews views r → All (λ s. IsStation s) r.stations.items → (last : Rest D) (v k : ℕ) → (Contains (views v) k → ⊥)
    → ((Contains (away_with (map (λ (s : Station D). base_of_station s) r.stations.items)).lanes (v, k) → ⊥) → pool_pass last v k ≡ pool_pass r.rest v k) → entries_made (pool_pass last v k) ≡ []
none_used {D} views r keep stations last v k never same = ap (λ (o : Option (PassOf (Pool (FreeSegment D)) PoolBase)). entries_made o) (same (not_away views r keep stations v k never)) ∙ go (pool_pass r.rest v k) refl
  where
    go : (o : Option (PassOf (Pool (FreeSegment D)) PoolBase)) → pool_pass r.rest v k ≡ o → entries_made o ≡ []
    go None e = refl
    go (Some p) e = keep.unused_pools v k p never e

-- The pools of a rack that was closed: what their locks have of the volumes' passes, and which of them entries passed over.

-- lanes whose passes have all entries of theirs counted no pool as empty more often than these have it
fewer : {D : Type 0} (pools : ℕ → List Entry) (v : ℕ) (lanes : List (Lane D)) (bs : List LaneBase) → ((l : Lane D) → Contains lanes l → own v (pools (logger_of l)) ≡ pass_mine (pool_of l))
    → (k : ℕ) → nones_at lanes bs k ≤ times_empty pools v (map logger_of lanes) k
fewer pools v [] bs each k = omega arith
fewer pools v (l ∷ lanes) [] each zero = omega arith
fewer pools v (l ∷ lanes) [] each (suc k) = fewer pools v lanes [] (λ m has. each m (later_in l m lanes has)) k
fewer pools v (l ∷ lanes) (b ∷ bs) each zero = let e = ap nones_in (each l (first_in l l lanes refl)) in omega (arith, e)
fewer pools v (l ∷ lanes) (b ∷ bs) each (suc k) = fewer pools v lanes bs (λ m has. each m (later_in l m lanes has)) k

-- the versions of writes are those of the writes to logs
versions_counted : (ws : List Write) → length (versions ws) ≡ count_by (λ (w : Write). is_some w.version) ws
versions_counted [] = refl
versions_counted (w ∷ ws) =
    let split = sum_by-cons (λ (v : Write). cond {A = ℕ} (is_some v.version) 1 0) w ws in
    let rest = versions_counted ws in
    let here = at w.version (versions ws) in
    omega (arith, split, rest, here)
  where
    at : (o : Option ℕ) (vs : List ℕ) → length (cons_option o vs) ≡ cond {A = ℕ} (is_some o) 1 0 + length vs
    at None vs = omega arith
    at (Some v) vs = omega arith

-- and took as many segments as these have it
all_taken : {D : Type 0} (pools : ℕ → List Entry) (v : ℕ) (lanes : List (Lane D)) (bs : List LaneBase) → AreNamed lanes bs → AllByRecursion (λ (b : LaneBase). b.takes ≡ 0) bs
    → ((l : Lane D) → Contains lanes l → own v (pools (logger_of l)) ≡ pass_mine (pool_of l)) → times_taken pools v (map logger_of lanes) ≡ takes_of lanes bs
all_taken pools v [] bs named none each = refl
all_taken pools v (l ∷ lanes) [] named none each = absurd named
all_taken pools v (l ∷ lanes) (b ∷ bs) named none each =
    let sum = sum_by-cons (λ (logger : ℕ). takes_in (own v (pools logger))) (logger_of l) (map logger_of lanes) in
    let one = ap takes_in (each l (first_in l l lanes refl)) in
    let zero_ = none.0 in
    let rest = all_taken pools v lanes bs named.1 none.1 (λ m has. each m (later_in l m lanes has)) in
    omega (arith, sum, one, zero_, rest)

-- a part that is down has a name
same_down : (o : Option Part) → cond {A = ℕ} (is_some (down_of o)) 1 0 ≡ cond (is_some o) 1 0
same_down None = refl
same_down (Some p) = refl

module _ {D : Type 0} {state : D → State} {tells : Bool} {config : Config} {b : BayState} {r : Rack D} {first second : Rest D} (ending : IsEnding state tells config b r first second)
    (uses : (k : ℕ) (f : TurnLock (Pool (FreeSegment D)) PoolBase) → slice_get r.shared.pools.items k ≡ Some f → (entries : List Entry) × IsClosedPool f first k entries) where
  open ending use {can, is, kept}

  -- the entries of the pool of volume k, if there is one
  pool_closed : (k : ℕ) → (entries : List Entry) × ((l : TurnLock (Pool (FreeSegment D)) PoolBase) → slice_get r.shared.pools.items k ≡ Some l → IsClosedPool l first k entries)
  pool_closed k = by_option (slice_get r.shared.pools.items k)
      (λ e. ([], λ l at. absurd (none-some l (sym e ∙ at))))
      (λ f e. let u = uses k f e in (u.0, λ l at. subst (λ (x : TurnLock (Pool (FreeSegment D)) PoolBase). IsClosedPool x first k u.0) (same_Some f l (sym e ∙ at)) u.1))

  abbrev entries_of_pool : ℕ → List Entry
  entries_of_pool k = (pool_closed k).0

  module _ (s : Station D) (has : Contains r.stations.items s) where
    abbrev lanes : List (Lane D)
    lanes = (manager_of ending s has).lanes.items

    abbrev notes : List Noted
    notes = notes_of (entries_of_station ending s has)

    abbrev kp : Keeps tells state (manager_of ending s has) (base_of_station s) notes
    kp = (is_closing ending s has).stands.keeps

    -- each lane's pass has all entries of the volume at its pool
    own_entries : (l : Lane D) → Contains lanes l → own s.id (entries_of_pool (logger_of l)) ≡ pass_mine (pool_of l)
    own_entries l in_lanes =
        let q = image_end ending (logger_of l) (of_recursion (IsImageOut r.rest.images.items) (base_of_station s).volume.began.view (logger_of l) (is_base ending s has).loggers_out (in_view ending s has l in_lanes)) in
        let within = here_within second.images.items (logger_of l) q.0 q.1 in
        let f = element_at r.shared.pools.items (logger_of l) (omega (arith, within, kept.image_count, is.parts.images.0, can.locks.pool_count)) in
        let back = All-contains (HasBack first s.id) lanes l (is_closing ending s has).back in_lanes in
        ((pool_closed (logger_of l)).1 f.0 f.1).made s.id ∙ ap (λ (o : Option (PassOf (Pool (FreeSegment D)) PoolBase)). entries_made o) back.pool

    -- no pool was passed over more often than it was found empty
    passes_empty : PassesEmpty entries_of_pool (base_of_station s).volume.began notes
    passes_empty = subst (λ (v : ℕ). HasPassed (times_empty entries_of_pool v (base_of_station s).volume.began.view) notes) (sym (id_of ending s has))
        (subst (λ (view : List ℕ). HasPassed (times_empty entries_of_pool s.id view) notes) kp.locks.view (λ place.
        let most = kp.passed place in
        let less = fewer entries_of_pool s.id lanes (base_of_station s).lanes own_entries place in
        omega (arith, most, less)))

    -- no more segments were taken than were written to logs, where no call failed
    takes_few : TakesFew entries_of_pool (base_of_station s).volume.began notes
    takes_few none =
        let few = kp.taken in
        let same = all_taken entries_of_pool s.id lanes (base_of_station s).lanes kp.locks.each (is_base ending s has).untaken own_entries in
        let view = ap (times_taken entries_of_pool s.id) kp.locks.view in
        let owner = ap (λ (v : ℕ). times_taken entries_of_pool v (base_of_station s).volume.began.view) (id_of ending s has) in
        let down = (manager_of ending s has).down in
        let up : cond {A = ℕ} (is_some down) 1 0 ≡ 0 = sym (same_down down) ∙ ap (λ (t : Bool). cond {A = ℕ} t 1 0) (kp.upholds.is_down ∙ ap (λ (o : Option (List Write)). is_some o) none) in
        let next = (kp.upholds.versioned.in_order none).1 in
        let logged = versions_counted (writes (entries_of notes)) in
        omega (arith, few, same, view, owner, up, next, logged)

  -- behind the last volume there is no pass
  no_row : (v k : ℕ) → length config.volumes.items ≤ v → pool_pass first v k ≡ None
  no_row v k past =
      ap (option_and_then (λ (q : VolumePasses D). get_or q.pools.items k None)) (slice_get_past first.passes.items v (let many = length-map config.volumes.items (shape_in config) in omega (arith, past, many, is.parts.count)))

  -- the volumes are closed, and so are the pools
  pub volumes_closed : (x y : BayState) → IsTold (GivesBack state config second.images.items 0) x.told y.told → (HasFaultHere state second.images.items 0 → Rose x.faults y.faults) → AreClosedVolumes tells config x y r
  volumes_closed x y given cause = (
    λ n d within. (volume n d within).0,
    record {
      pools = entries_of_pool;
      legal = λ k l at. ((pool_closed k).1 l at).legal;
      made = λ k l at n p here. ((pool_closed k).1 l at).made n ∙ ap (λ (o : Option (PassOf (Pool (FreeSegment D)) PoolBase)). entries_made o) (pool_stays ending n k p (slice_get_within r.shared.pools.items k l at) here);
      users = λ k l at views keep n never. ((pool_closed k).1 l at).made n ∙ ⊎_elim
          (λ lt. none_used views r keep can.stations first n k (λ has. never (lt, has)) (λ away. ending.closed.pools n k away))
          (λ past. ap (λ (o : Option (PassOf (Pool (FreeSegment D)) PoolBase)). entries_made o) (no_row n k past))
          (cases_lt n (length config.volumes.items));
      passed = λ n d within. subst (λ (es : List Entry). PassesEmpty entries_of_pool (base_of_station (get_or r.stations.items n d)).volume.began (notes_of es)) (sym (volume n d within).1) (passes_empty (get_or r.stations.items n d) (Contains-get_or r.stations.items n d within));
      taken = λ n d within. subst (λ (es : List Entry). TakesFew entries_of_pool (base_of_station (get_or r.stations.items n d)).volume.began (notes_of es)) (sym (volume n d within).1) (takes_few (get_or r.stations.items n d) (Contains-get_or r.stations.items n d within));
    },
  )
    where
      volume : (n : ℕ) (d : Station D) (within : n < length r.stations.items)
          → (v : IsClosedVolume tells config r.rest.images.items x y (get_or r.stations.items n d)) × (v.entries ≡ entries_of_station ending (get_or r.stations.items n d) (Contains-get_or r.stations.items n d within))
      volume n d within = closed_volume ending (get_or r.stations.items n d) (Contains-get_or r.stations.items n d within) x y given cause
