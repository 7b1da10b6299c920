-- A station more: the rack may be closed with it.
use Rattle.rack.proofs.Basics.{◌≡◌, ⊎_elim, ℕ, ◌<◌, ◌≤◌, List, ◌∷◌, ◌++◌, length, Option, None, Some, refl, sym, ap, ◌∙◌, subst, arith, ◌⊎◌, inl, inr, ◌+◌, ◌^◌, map, vec_capacity, Bool}
use Rattle.rack.proofs.Basics.{get_or, slice_get, IsSome, is_some, All, Contains, cases_lt, length_push, length-map, map_push, same_Some, slice_get_within, none-some, option_map_or}
use Rattle.rack.proofs.Basics.{option_to_list, Global, Vec, All-push, Contains-push, Contains-push_cases, Contains-append_left, slice_index_or, [], nil_from_length, get_or_from_slice_get}
use Rattle.rack.proofs.Basics.{◌≢◌, option_map, slice_range, IsTrue, slice_get-map, AllByRecursion, cases_eq, zero, suc}
use Rattle.rack.proofs.Terms.{State, Block, TellsContent, IsImageOf, BayState, Config, ManagerBase, image_here, IsRestBut, segment_here, away_with, AreRooms, AreRising, IsOpenBase}
use Rattle.rack.proofs.Terms.{base_of_station, IsStation, IsUnused, IsClosable, KeepToViews, ImageRest, Rest, Rooms, Record, IsLog, IsValid, SegHead, Free, Owned, state_of, Spun, Station}
use Rattle.rack.proofs.Terms.{place_of, Opening, shape_in, shapes_of, TakesOpening, IsOwnedPlace, loggers_out, said_at, view_at, fault_at, IsSaidOf, AreTried, IsOpeningRack, Said, Rack}
use Rattle.rack.proofs.Terms.{IsNewPass, TurnLock, PassOf, Manager, IsLocked, reads, Image, Told, at_name, Part, HasFaultOf, HasBegun, image_reads, Shape, Images, image_of, recovered_from}
use Rattle.rack.proofs.Terms.{VolumeConf, Base, shape_of, segment_head, HasView, Shared, Begins, StandsInOwned, Opens, IsListedOf, read_of, all_owned, records_in, writes_in, heads_in}
use Rattle.rack.proofs.Terms.{recovered_of, AreIntact, HaveNoTwins, IsRecoverable, head_place, IsLeftHere, IsGone, images_taken, AreOwnedIn, BeganInPlace, IsBegun, IsOpeningOf, VolumeFault}
use Rattle.rack.proofs.Places.{some_at}
use Rattle.rack_parts.proofs.Members.{segment_in_image, a_value, no_value, here_within, none_in, of_map}
use Rattle.rack.proofs.OpenAway.{open_away, owner_new, view_new, all_new, inside_new, base_new}
use Rattle.rack.proofs.Openable.{image_id, said_id, ids_below, one_owner, owned_in_image, nowhere}
use Rattle.wol_promise.proofs.Lists.{rising_push}
use Rattle.wol_promise.specs.Stands.{next_version}
use Rattle.rack.proofs.CutParts.{reads_range}
use Rattle.rack.proofs.OpeningOf.{sized, opening_of, read_at}
use Rattle.rack.proofs.OwnedSegments.{recovered_owned}
use Rattle.rack.proofs.SameOut.{taken_same}
use Rattle.rack.proofs.Without as without
use Rattle.rack_parts.proofs.ManagerBack.{base_stays}
use Rattle.wol_model.specs.Heads as head

-- ---- The rack once one volume more is open

-- what holds of each and of one more
all_push : {X : Type 0} (P : X → Type 0) (xs ys : List X) (x : X) → ys ≡ xs ++ x ∷ [] → All P xs → P x → All P ys
all_push P xs ys x are all one = subst (All P) (sym are) (All-push P xs x all one)

-- a number that is above the one at each place is above all
all_below : (n : ℕ) (ns : List ℕ) → ((j m : ℕ) → slice_get ns j ≡ Some m → m < n) → AllByRecursion (λ v. v < n) ns
all_below n [] above = tt
all_below n (x ∷ ns) above = (above zero x refl, all_below n ns (λ j m found. above (suc j) m found))

-- ---- The rack may be closed once one volume more is open

module _ {D : Type 0} (state : D → State) (config : Config) (valid : IsValid config) (b : BayState) (said : List (Option Said)) (id : ℕ) (r : Rack D) (own : Said)
    (ready : IsOpeningRack state config b said id r) (lt : id < length (shapes_of config)) (at : slice_get said id ≡ Some (Some own)) (view : List ℕ)
    (new : Rest D) (o : Opening D) (takes : TakesOpening state config r.rest new said id view o)
    (s : Station D) (s_id : s.id ≡ id) (view_is : (base_of_station s).volume.began.view ≡ view) (all : loggers_out r.rest view ≡ view)
    (inside : (k i : ℕ) → Contains (map place_of o.owned.items) (k, i) → Contains view k)
    (station : IsStation s) (base_ok : IsOpenBase config r.shared new.images.items (base_of_station s)) (rooms : Rooms D) (rooms_ok : AreRooms (length (shapes_of config)) (length r.stations.items + 1) rooms)
    (stations : Vec (Station D) Global) (stations_are : stations.items ≡ r.stations.items ++ s ∷ []) where
  abbrev next : Rack D
  next = record r { stations = stations; rest = record new { rooms = rooms } }

  abbrev bases : List ManagerBase
  bases = map (λ (x : Station D). base_of_station x) r.stations.items

  owner_is : (base_of_station s).volume.began.owner ≡ id
  owner_is = station.id ∙ s_id

  bases_are : map (λ (x : Station D). base_of_station x) stations.items ≡ bases ++ base_of_station s ∷ []
  bases_are = ap (map (λ (x : Station D). base_of_station x)) stations_are ∙ map_push (λ (x : Station D). base_of_station x) r.stations.items s

  ids_are : map (λ (x : Station D). x.id) stations.items ≡ map (λ (x : Station D). x.id) r.stations.items ++ s.id ∷ []
  ids_are = ap (map (λ (x : Station D). x.id)) stations_are ∙ map_push (λ (x : Station D). x.id) r.stations.items s

  -- a segment that is here is no log of the volume
  not_its_log : (k i : ℕ) (image : ImageRest D) (p : Spun D) → image_here new.images.items k ≡ Some image → segment_here image i ≡ Some p → ((d : D) → TellsContent (state d)) → (c : List Block) (rs : List Record)
      → IsImageOf (state_of state p).values c → IsLog c id rs → ⊥
  not_its_log k i image p now here told c rs im log =
      let w = without.was_here state config said id view r.rest new o takes k image now in
      let before = without.segment_was state config said id view r.rest new o takes k i image p w now here in
      let within : k < length (shapes_of config) = let n = ready.closable.rest.parts.images.0 in let l = here_within r.rest.images.items k w.image w.here in omega (arith, n, l) in
      let shape = some_at (shapes_of config) k within in
      let says = ready.says k shape.0 shape.1 (ap is_some w.here) in
      let rest = ready.closable.rest.parts.images.1 k shape.0 w.image shape.1 w.here in
      let below : i < length says.0.heads.items = let n = rest.count in let c = says.2.count in let l = here_within w.image.segments.items i p before in omega (arith, n, c, l) in
      let at_i = some_at says.0.heads.items i below in
      by_head says.0 says.1 says.2 w.image w.here before at_i.0 at_i.1
    where
      by_head : (own_k : Said) → said_at said k ≡ Some own_k → {sh : _} → IsSaidOf (length (shapes_of config)) k sh own_k → (x : ImageRest D) → image_here r.rest.images.items k ≡ Some x → segment_here x i ≡ Some p → (h : SegHead) → slice_get own_k.heads.items i ≡ Some h → ⊥
      by_head own_k is of x out before Free head_is = none-some p (sym (ready.owners.free k i own_k x is head_is out) ∙ before)
      by_head own_k is of x out before (Owned w) head_is =
          let known : w < 2 ^ 32 = let c = of.configured i (Owned w) head_is in let n = valid.count in let l = length-map config.volumes.items (shape_in config) in omega (arith, c, n, l) in
          let same = one_owner w id c rs known (ready.owners.says k i w own_k x p is head_is out before told c im) log in
          let lt_k : k < length said = here_within said k own_k is in
          let place : IsOwnedPlace said id k i = (own_k, Rattle.std.proofs.lemmas.Option.slice_get-get_or said k None lt_k ∙ ap Some is, head_is ∙ ap (λ (n : ℕ). Some (Owned n)) same) in
          none-some p (sym (without.segment_gone state config said id view r.rest new o takes k i (takes.owned.all k i place)) ∙ segment_in_image new k image now i ∙ here)

  pub one_closable : IsClosable state config b next
  one_closable =
      let old = ready.closable in
      record {
        out = without.out_stays state config b r new (without.lists_without state config said id view r.rest new o takes) old.out;
        locks = old.locks;
        keepers = old.keepers;
        stations = all_push (λ (x : Station D). IsStation x) r.stations.items stations.items s stations_are old.stations station;
        rising = subst (λ (ns : List ℕ). AreRising ns) (sym ids_are) (rising_push (map (λ (x : Station D). x.id) r.stations.items) s.id old.rising
            (all_below s.id (map (λ (x : Station D). x.id) r.stations.items) (λ j m found. subst (λ (n : ℕ). m < n) (sym s_id) (below j m found))));
        bases = all_push (λ (x : Station D). IsOpenBase config r.shared new.images.items (base_of_station x)) r.stations.items stations.items s stations_are
            (λ j d within. base_stays config r.shared r.rest.images.items new.images.items (base_of_station (slice_index_or r.stations.items j d)) (λ k out. without.out_without state config said id view r.rest new o takes k ∙ out) (old.bases j d within)) base_ok;
        rest = record {
          parts = subst (λ (bs : List ManagerBase). IsRestBut state config r.shared (away_with bs) next.rest) (sym bases_are)
              (without.with_rooms state config r.shared (away_with (bases ++ base_of_station s ∷ [])) new rooms
              (open_away state config valid b said id r own ready lt at view new o takes (base_of_station s) owner_is view_is all inside));
          rooms = subst (λ (n : ℕ). AreRooms (length (shapes_of config)) n rooms) (sym count_bases) rooms_ok;
        };
        foreign = record {
          places = λ k i image p now here told c base rs im has log. ⊎_elim
              (λ before.
              let w = without.was_here state config said id view r.rest new o takes k image now in
              old.foreign.places k i w.image p w.here (without.segment_was state config said id view r.rest new o takes k i image p w now here) told c base rs im before log)
              (λ (is : base_of_station s ≡ base).
              not_its_log k i image p now here told c rs im (subst (λ (n : ℕ). IsLog c n rs) (ap (λ (x : ManagerBase). x.volume.began.owner) (sym is) ∙ owner_is) log))
              (Contains-push_cases bases (base_of_station s) base (subst (λ (bs : List ManagerBase). Contains bs base) bases_are has));
          held = λ v k i p has. absurd (none_in (i, p) (subst (λ (l : List (ℕ × Spun D)). Contains l (i, p)) (without.none_held state config said id view r.rest new o takes ready.unheld v k) has));
        };
        accesses = λ v k p here. old.accesses v k p (without.spindle_was state config said id view r.rest new o takes v k p here);
      }
    where
      below : (j m : ℕ) → slice_get (map (λ (x : Station D). x.id) r.stations.items) j ≡ Some m → m < id
      below j m found =
          let ids = map (λ (x : Station D). x.id) r.stations.items in
          ids_below state config b said id r ready m (j, slice_get_within ids j m found, get_or_from_slice_get ids j m m found)

      count_bases : length (map (λ (x : Station D). base_of_station x) stations.items) ≡ length r.stations.items + 1
      count_bases = length-map stations.items (λ (x : Station D). base_of_station x) ∙ ap (λ (xs : List (Station D)). length xs) stations_are ∙ Rattle.std.proofs.lemmas.List.length_push r.stations.items s

  -- ---- The rack goes on being opened

  module _ (unused : IsUnused s.worker × IsUnused s.helper × IsUnused s.keeper) (station_cap : vec_capacity stations ≡ vec_capacity r.stations) (manager_cap : vec_capacity rooms.managers ≡ vec_capacity r.rest.rooms.managers) (own_view : own.view ≡ view) where
    count_stations : length stations.items ≡ length r.stations.items + 1
    count_stations = ap (λ (xs : List (Station D)). length xs) stations_are ∙ length_push r.stations.items s

    contains_now : (k : ℕ) → Contains (map (λ (x : Station D). x.id) r.stations.items) k → Contains (map (λ (x : Station D). x.id) stations.items) k
    contains_now k c = subst (λ (ns : List ℕ). Contains ns k) (sym ids_are) (Contains-append_left (map (λ (x : Station D). x.id) r.stations.items) (s.id ∷ []) k c)

    contains_own : Contains (map (λ (x : Station D). x.id) stations.items) id
    contains_own = subst (λ (n : ℕ). Contains (map (λ (x : Station D). x.id) stations.items) n) s_id (subst (λ (ns : List ℕ). Contains ns s.id) (sym ids_are) (Contains-push (map (λ (x : Station D). x.id) r.stations.items) s.id))

    contains_cases : (k : ℕ) → Contains (map (λ (x : Station D). x.id) stations.items) k → Contains (map (λ (x : Station D). x.id) r.stations.items) k ⊎ (id ≡ k)
    contains_cases k c = ⊎_elim (λ b. inl b) (λ (e : s.id ≡ k). inr (sym s_id ∙ e)) (Contains-push_cases (map (λ (x : Station D). x.id) r.stations.items) s.id k (subst (λ (ns : List ℕ). Contains ns k) ids_are c))

    was_at : (k : ℕ) (image : ImageRest D) → image_here new.images.items k ≡ Some image → without.WasHere state config said id view r.rest new o takes k image
    was_at k image now = without.was_here state config said id view r.rest new o takes k image now

    segment_before : (k i : ℕ) (image : ImageRest D) (p : Spun D) (now : image_here new.images.items k ≡ Some image) → segment_here image i ≡ Some p → segment_here (was_at k image now).image i ≡ Some p
    segment_before k i image p now here = without.segment_was state config said id view r.rest new o takes k i image p (was_at k image now) now here

    tried : AreTried config (id + 1) next
    tried = record {
      count = ready.tried.count;
      known = ready.tried.known;
      below = all_push (λ (x : Station D). x.id < id + 1) r.stations.items stations.items s stations_are (λ j d within. let one = ready.tried.below j d within in omega (arith, one)) (omega (arith, s_id));
      tried = λ k less. ⊎_elim
          (λ (before : k < id).
          let old = ready.tried.tried k before in
          (λ none. contains_now k (old.0 none), λ c. old.1 (⊎_elim (λ b. b) (λ (e : id ≡ k). absurd (omega (arith, e, before))) (contains_cases k c))))
          (λ (more : id ≤ k).
          let e : k ≡ id = omega (arith, less, more) in
          let out = ap is_some (image_id state config valid b said id r own ready lt at).1 in
          let none = (ready.tried.further id (omega arith) lt).1 out in
          (λ is. subst (λ (n : ℕ). Contains (map (λ (x : Station D). x.id) stations.items) n) (sym e) contains_own, λ c. ap (λ (n : ℕ). fault_at r.faults.items n) e ∙ none))
          (cases_lt k id);
      further = λ k le within. let old = ready.tried.further k (omega (arith, le)) within in (λ none. without.out_without state config said id view r.rest new o takes k ∙ old.0 none, λ out. old.1 (sym (without.out_without state config said id view r.rest new o takes k) ∙ out));
    }

    -- the view of the volume is the one that its image says
    view_said : view_at said s.id ≡ (base_of_station s).volume.began.view
    view_said = ap (view_at said) s_id ∙ ap (λ (x : Option Said). option_map_or (λ (y : Said). y.view) x []) (said_id state config valid b said id r own ready lt at) ∙ own_view ∙ sym view_is

    users : KeepToViews (view_at said) next
    users = record {
      opened = all_push (λ (x : Station D). view_at said x.id ≡ (base_of_station x).volume.began.view) r.stations.items stations.items s stations_are ready.users.opened view_said;
      unused = λ v k p other never here.
          ready.users.unused v k p other never (without.spindle_was state config said id view r.rest new o takes v k p here);
      unused_pools = λ v k p never here.
          ready.users.unused_pools v k p never (without.pool_was state config said id view r.rest new o takes v k p here).0;
    }

    pub one_opening : IsOpeningRack state config b said (id + 1) next
    one_opening = record {
      being = record {
        closable = one_closable;
        fresh = all_push (λ (x : Station D). IsUnused x.worker × IsUnused x.helper × IsUnused x.keeper) r.stations.items stations.items s stations_are ready.fresh unused;
        says = λ k sh shape out. ready.says k sh shape (sym (without.out_without state config said id view r.rest new o takes k) ∙ out);
        silent = λ k none. ready.silent k (without.none_was state config said id view r.rest new o takes k none);
        pools = ready.pools;
        said_count = ready.said_count;
        unheld = λ v k. without.none_held state config said id view r.rest new o takes ready.unheld v k;
        since = λ v k i p here holding. ready.since v k i p (without.pool_was state config said id view r.rest new o takes v k p here).0 holding;
        owners = record {
          closed = λ k i w own_k image p is head now here has.
              let before = segment_before k i image p now here in
              ⊎_elim
              (λ old. ready.owners.closed k i w own_k (was_at k image now).image p is head (was_at k image now).here before old)
              (λ (e : id ≡ w).
              let place : IsOwnedPlace said id k i = (own_k, Rattle.std.proofs.lemmas.Option.slice_get-get_or said k None (here_within said k own_k is) ∙ ap Some is, head ∙ ap (λ (n : ℕ). Some (Owned n)) (sym e)) in
              none-some p (sym (without.segment_gone state config said id view r.rest new o takes k i (takes.owned.all k i place)) ∙ segment_in_image new k image now i ∙ here))
              (contains_cases w has);
          says = λ k i w own_k image p is head now here told c im. ready.owners.says k i w own_k (was_at k image now).image p is head (was_at k image now).here (segment_before k i image p now here) told c im;
          free = λ k i own_k image is head now. no_value (segment_here image i) (λ there.
              let p = a_value (segment_here image i) there in
              none-some p.0 (sym (ready.owners.free k i own_k (was_at k image now).image is head (was_at k image now).here) ∙ segment_before k i image p.0 now p.1));
        };
        users = users;
      };
      station_room = let n = ready.station_room in let c = count_stations in omega (arith, n, c, station_cap);
      manager_room = let n = ready.manager_room in let c = count_stations in omega (arith, n, c, manager_cap);
      tried = tried;
      untouched = record {
        passes = λ v k p le here. ready.untouched.passes v k p (omega (arith, le)) (without.pool_was state config said id view r.rest new o takes v k p here).0;
        here = λ v k i own_k image le is head now.
            let w = was_at k image now in
            let before = ready.untouched.here v k i own_k w.image (omega (arith, le)) is head w.here in
            let place : IsOwnedPlace said v k i = (own_k, Rattle.std.proofs.lemmas.Option.slice_get-get_or said k None (here_within said k own_k is) ∙ ap Some is, head) in
            let never : Contains (map place_of o.owned.items) (k, i) → ⊥ = λ c. let e = without.owner_of state config said id view r.rest new o takes v k i place c in omega (arith, le, e) in
            (before.0, sym (segment_in_image new k image now i) ∙ without.segment_kept state config said id view r.rest new o takes k i never ∙ segment_in_image r.rest k w.image w.here i ∙ before.1, before.2);
      };
    }

-- ---- The station of a volume that was opened behind its lock

pub one_popped : {X : Type 0} (o : Option X) → IsSome o → length (option_to_list o) ≡ 1
one_popped None some = absurd (cc some)
one_popped (Some x) some = refl

pub not_none : {X : Type 0} (o : Option X) → IsSome o → o ≡ None → ⊥
not_none None some none = absurd (cc some)
not_none (Some x) some none = absurd (cc none)

-- three passes that were popped, the last first
pub record ArePopped {X : Type 0} (ps zs : List X) (worker helper keeper : X) : Type 0 where
  pub first : worker ≡ get_or ps 0 worker
  pub second : helper ≡ get_or ps 1 helper
  pub third : keeper ≡ get_or ps 2 keeper
  pub empty : zs ≡ []

pub popped : {X : Type 0} (ps xs ys zs : List X) (worker helper keeper : X) → length ps ≡ 3 → ps ≡ xs ++ keeper ∷ [] → xs ≡ ys ++ helper ∷ [] → ys ≡ zs ++ worker ∷ [] → ArePopped ps zs worker helper keeper
popped {X} ps xs ys zs worker helper keeper count one two three =
    let l1 = length_push xs keeper in
    let l2 = length_push ys helper in
    let l3 = length_push zs worker in
    let e1 = ap length one in
    let e2 = ap length two in
    let e3 = ap length three in
    let none = nil_from_length zs (omega (arith, count, l1, l2, l3, e1, e2, e3)) in
    let all : ps ≡ worker ∷ helper ∷ keeper ∷ [] = one ∙ ap (λ (l : List X). l ++ keeper ∷ []) (two ∙ ap (λ (l : List X). l ++ helper ∷ []) (three ∙ ap (λ (l : List X). l ++ worker ∷ []) none)) in
    record {
      first = sym (ap (λ (l : List X). get_or l 0 worker) all);
      second = sym (ap (λ (l : List X). get_or l 1 helper) all);
      third = sym (ap (λ (l : List X). get_or l 2 keeper) all);
      empty = none;
    }

-- one new pass of three
pub new_at : {T B : Type 0} (l : TurnLock T B) (ps : List (PassOf T B)) (n : ℕ) (p : PassOf T B) → ((k : ℕ) (d : PassOf T B) → k < length ps → IsNewPass l k (get_or ps k d)) → n < length ps → p ≡ get_or ps n p → IsNewPass l n p
new_at l ps n p new within is = subst (IsNewPass l n) (sym is) (new n p within)

-- ---- The faults of other volumes stay while the opening of one is away

module _ {D : Type 0} (state : D → State) (config : Config) (said : List (Option Said)) (id : ℕ) (r : Rack D) (view : List ℕ) (new : Rest D) (o : Opening D) (takes : TakesOpening state config r.rest new said id view o) where
  -- a part of another volume that had a fault is here
  pub fault_kept : (rooms : Rooms D) (k : ℕ) (p : Part) → k ≢ id → HasFaultOf state said k p r.rest → HasFaultOf state said k p (record new { rooms = rooms })
  fault_kept rooms k p other had = record {
    part = had.part;
    here = ⊎_elim
        (λ home.
        let image = without.image_without state config said id view r.rest new o takes k home.0 home.1 in
        inl (image.0, image.1, image.2.others other ∙ home.2, home.3))
        (λ segment.
        let never : Contains (map place_of o.owned.items) (segment.0, segment.1) → ⊥ = λ taken. other (without.owner_of state config said id view r.rest new o takes k segment.0 segment.1 segment.2 taken) in
        inr (segment.0, segment.1, segment.2, without.segment_kept state config said id view r.rest new o takes segment.0 segment.1 never ∙ segment.3, segment.4))
        had.here;
    fault = had.fault;
  }

-- ---- What a rack began with once one volume more is open

-- what a volume begins with that was opened of what the images say
pub begun_of : {D : Type 0} (tells : Bool) (state : D → State) (telling : IsTrue tells) (config : Config) (out : List (Option (ImageRest D))) (images : Images) (id : ℕ) (o : Opening D) (b : Base)
    → ((k : ℕ) (s : Shape) (image : List Block) → slice_get (shapes_of config) k ≡ Some s → image_of images k ≡ Some image → length image ≡ Rattle.wol_model.specs.Images.image_size s)
    → (image : List Block) → image_of images id ≡ Some image → IsOpeningOf state config out images id o → Begins tells state o b → IsRecoverable state o → IsBegun config images b
begun_of {D} tells state telling config out images id o b each image there of begins recoverable =
    let segments = all_owned state o.owned.items in
    let owner : b.owner ≡ id = begins.owner ∙ of.id in
    record {
      array =
          begins.array telling
          ∙ ap (λ (v : ℕ). recovered_of v (read_of (state_of state o.home)) segments) of.id
          ∙ ap (λ (home : List Block). recovered_of id home segments) (of.home image there)
          ∙ sym (recovered_owned (shapes_of config) images id (shape_of o.want) image segments each of.shape there of.owned)
          ∙ ap (λ (v : ℕ). recovered_from (shapes_of config) images v) (sym owner);
      owned = segments;
      are_owned = subst (λ (v : ℕ). AreOwnedIn (shapes_of config) images v segments) (sym owner) of.owned;
      intact = subst (λ (v : ℕ). AreIntact v b.home_blocks segments) (sym begins.owner) (subst (λ (n : ℕ). AreIntact o.want.id n segments) (sym begins.home_blocks) recoverable.0);
      no_twins = subst (λ (v : ℕ). HaveNoTwins (heads_in v segments)) (sym begins.owner) recoverable.1;
      records = begins.records telling ∙ ap (λ (v : ℕ). writes_in v segments) (sym begins.owner);
      listed = begins.listed;
      found = subst (λ (v : ℕ). AllByRecursion (IsListedOf v b.view segments) b.look.listed) (sym begins.owner)
          (subst (λ (view : List ℕ). AllByRecursion (IsListedOf o.want.id view segments) b.look.listed) (sym begins.view) (begins.found telling));
      next = begins.next telling ∙ ap (λ (v : ℕ). next_version (records_in v segments)) (sym begins.owner);
      view = λ i is. subst (HasView i) (sym begins.view) (of.view i (sym (ap (image_of images) owner) ∙ is));
      most = begins.most ∙ of.most;
    }

-- its listed records stood where the images have them
pub placed_of : {D : Type 0} (tells : Bool) (state : D → State) (telling : IsTrue tells) (config : Config) (shared : Shared D) (out : List (Option (ImageRest D))) (images : Images) (id : ℕ) (o : Opening D) (m : Manager D)
    → IsOpeningOf state config out images id o → (opens : Opens tells state shared o m) → BeganInPlace config images opens.base
placed_of {D} tells state telling config shared out images id o m of opens =
    let segments = all_owned state o.owned.items in
    let began = opens.base.volume.began in
    record {
      owned = segments;
      are_owned = subst (λ (v : ℕ). AreOwnedIn (shapes_of config) images v segments) (sym (opens.begins.owner ∙ of.id)) of.owned;
      each = subst (λ (v : ℕ). AllByRecursion (StandsInOwned v began.view segments) opens.base.volume.places) (sym opens.begins.owner)
          (subst (λ (view : List ℕ). AllByRecursion (StandsInOwned o.want.id view segments) opens.base.volume.places) (sym opens.begins.view) (opens.placed telling));
    }

-- a fault of a volume that was tried is none of the one at hand
pub tried_before : {D : Type 0} (state : D → State) (config : Config) (valid : IsValid config) (b : BayState) (said : List (Option Said)) (id : ℕ) (r : Rack D) (own : Said)
    → (ready : IsOpeningRack state config b said id r) (lt : id < length (shapes_of config)) (at : slice_get said id ≡ Some (Some own)) (k : ℕ) (f : VolumeFault) → fault_at r.faults.items k ≡ Some f
    → (k < id + 1) ⊎ (image_here r.rest.images.items k ≡ None) → (k < id) ⊎ (image_here r.rest.images.items k ≡ None)
tried_before state config valid b said id r own ready lt at k f is or =
    ⊎_elim
    (λ (less : k < id + 1).
    ⊎_elim
    (λ (before : k < id). inl before)
    (λ (past : id ≤ k).
    let e : k ≡ id = omega (arith, less, past) in
    let none = (ready.tried.further id (omega arith) lt).1 (ap is_some (image_id state config valid b said id r own ready lt at).1) in
    absurd (none-some f (sym none ∙ sym (ap (λ (n : ℕ). fault_at r.faults.items n) e) ∙ is)))
    (cases_lt k id))
    (λ none. inr none)
    or

-- ---- What the rack is then

module _ {D : Type 0} (tells : Bool) (state : D → State) (config : Config) (valid : IsValid config) (b : BayState) (said : List (Option Said)) (id : ℕ) (r : Rack D) (own : Said)
    (ready : IsOpeningRack state config b said id r) (lt : id < length (shapes_of config)) (at : slice_get said id ≡ Some (Some own)) (view : List ℕ) (own_view : own.view ≡ view)
    (new : Rest D) (o : Opening D) (takes : TakesOpening state config r.rest new said id view o)
    (l : TurnLock (Manager D) ManagerBase) (ps : List (PassOf (Manager D) ManagerBase)) (locked : IsLocked tells state r.shared o l ps)
    (worker helper keeper : PassOf (Manager D) ManagerBase) where
  abbrev pub station : Station D
  station = record { id = id; lock = l; worker = worker; helper = helper; keeper = keeper }

  -- ---- It began with what the images say

  module _ (telling : IsTrue tells) (t : Told) (begun : HasBegun state config t said id r) where
    abbrev images : Images
    images = images_taken config r.rest.images.items t

    same_images : images_taken config new.images.items t ≡ images
    same_images = taken_same new.images.items r.rest.images.items
        (without.lists_without state config said id view r.rest new o takes) config t

    station_begun : IsBegun config images (base_of_station station).volume.began
    station_begun =
        let x = image_id state config valid b said id r own ready lt at in
        let read = read_at state config valid b said id r own ready lt at view own_view new o takes t begun.cut id x.0 x.1 in
        subst (λ (m : ManagerBase). IsBegun config images m.volume.began) (sym locked.base)
        (begun_of tells state telling config r.rest.images.items images id o locked.opens.base.volume.began
        (sized state config valid b said id r own ready lt at view own_view new o takes t begun.cut) (reads read.entry.blocks) read.read
        (opening_of state config valid b said id r own ready lt at view own_view new o takes t begun.cut) locked.opens.begins (locked.opens.recoverable telling))

    station_placed : BeganInPlace config images (base_of_station station)
    station_placed = subst (BeganInPlace config images) (sym locked.base)
        (placed_of tells state telling config r.shared r.rest.images.items images id o locked.manager (opening_of state config valid b said id r own ready lt at view own_view new o takes t begun.cut) locked.opens)

    -- ---- What is left here

    -- a home that is here is another volume's
    home_was : (k : ℕ) (y : ImageRest D) (w : without.WasHere state config said id view r.rest new o takes k y) (p : Spun D) → y.home ≡ Some p → (k ≢ id) × (w.image.home ≡ Some p)
    home_was k y w p home =
        ⊎_elim
        (λ (e : k ≡ id). absurd (none-some p (sym (w.is.own e) ∙ home)))
        (λ (other : k ≡ id → ⊥). (other, sym (w.is.others other) ∙ home))
        (cases_eq k id)

    still_left : (k : ℕ) (v : VolumeConf) (before : Image) (y : ImageRest D) → slice_get config.volumes.items k ≡ Some v → at_name v.name t.images ≡ Some before → image_here new.images.items k ≡ Some y → IsLeftHere state (shape_in config v) before y
    still_left k v before y conf there now =
        let w = without.was_here state config said id view r.rest new o takes k y now in
        let old = begun.began.left k v before w.image conf there w.here in
        record {
          label = λ c is. old.label c (subst (λ (p : Spun D). IsImageOf (state_of state p).values c) w.is.label is);
          home = λ p home. old.home p (home_was k y w p home).1;
          segments = λ i p here. old.segments i p (without.segment_was state config said id view r.rest new o takes k i y p w now here);
        }

    -- ---- What is gone

    more_stations : (stations : Vec (Station D) Global) → stations.items ≡ r.stations.items ++ station ∷ [] → (s : Station D) → Contains r.stations.items s → Contains stations.items s
    more_stations stations are s has = subst (λ (l : List (Station D)). Contains l s) (sym are) (Contains-append_left r.stations.items (station ∷ []) s has)

    -- a segment of the opening was owned by its volume
    taken_gone : (stations : Vec (Station D) Global) → stations.items ≡ r.stations.items ++ station ∷ [] → (k i : ℕ) (v : VolumeConf) (before : Image) → slice_get config.volumes.items k ≡ Some v → at_name v.name t.images ≡ Some before
        → Contains (map place_of o.owned.items) (k, i) → IsGone (length (shapes_of config)) (shape_in config v) before stations.items i
    taken_gone stations are k i v before conf there taken =
        let from = of_map place_of o.owned.items (k, i) taken in
        let part = owned_in_image state config valid b said id r own ready lt at view new o takes from.0 from.1 in
        let logger : from.0.logger ≡ k = ap (λ (p : ℕ × ℕ). p.0) from.2 in
        let index : from.0.index ≡ i = ap (λ (p : ℕ × ℕ). p.1) from.2 in
        let said_k : said_at said k ≡ Some part.saying = ap (said_at said) (sym logger) ∙ part.said_is in
        let head_i : slice_get part.saying.heads.items i ≡ Some (Owned id) = ap (slice_get part.saying.heads.items) (sym index) ∙ part.head in
        let entry = begun.cut.says k v part.saying conf said_k in
        let same : entry.0 ≡ before = same_Some entry.0 before (sym entry.1 ∙ there) in
        let first = head_place (shape_in config v) i in
        let behind = head_place (shape_in config v) (i + 1) in
        subst (λ (image : Image). IsGone (length (shapes_of config)) (shape_in config v) image stations.items i) same
        (record {
          was = slice_range (reads entry.0.blocks) first behind;
          had = subst (λ (c : List Block). IsImageOf (Some (slice_range entry.0.blocks first behind)) c) (reads_range entry.0.blocks first behind) (image_reads (slice_range entry.0.blocks first behind));
          said = inr (inl (
            station,
            subst (λ (xs : List (Station D)). Contains xs station) (sym are) (Contains-push r.stations.items station),
            entry.2.accepted.each i (head.Owned id) (slice_get-map segment_head part.saying.heads.items i ∙ ap (option_map segment_head) head_i),
          ));
        })

    kept_gone : (stations : Vec (Station D) Global) → stations.items ≡ r.stations.items ++ station ∷ [] → (s : Shape) (before : Image) (i : ℕ) → IsGone (length (shapes_of config)) s before r.stations.items i
        → IsGone (length (shapes_of config)) s before stations.items i
    kept_gone stations are s before i old = record {
      was = old.was;
      had = old.had;
      said = ⊎_elim (λ free. inl free) (⊎_elim (λ owned. inr (inl (owned.0, more_stations stations are owned.0 owned.1, owned.2))) (λ nothing. inr (inr nothing))) old.said;
    }

    still_gone : (stations : Vec (Station D) Global) → stations.items ≡ r.stations.items ++ station ∷ [] → (k i : ℕ) (v : VolumeConf) (before : Image) (y : ImageRest D) → slice_get config.volumes.items k ≡ Some v
        → at_name v.name t.images ≡ Some before → image_here new.images.items k ≡ Some y → i < v.segments → ((p : Spun D) → segment_here y i ≡ Some p → ⊥) → IsGone (length (shapes_of config)) (shape_in config v) before stations.items i
    still_gone stations are k i v before y conf there now within none =
        let w = without.was_here state config said id view r.rest new o takes k y now in
        ⊎_elim
        (λ taken. taken_gone stations are k i v before conf there taken)
        (λ never. kept_gone stations are (shape_in config v) before i (begun.began.gone k i v before w.image conf there w.here within
        (nowhere state config valid b said id r own ready lt at k i (λ p is. none p (sym (segment_in_image new k y now i) ∙ without.segment_kept state config said id view r.rest new o takes k i never ∙ is)))))
        (without.is_pair (map place_of o.owned.items) k i)

    -- ---- The whole

    pub opened_begun : (stations : Vec (Station D) Global) → stations.items ≡ r.stations.items ++ station ∷ [] → (rooms : Rooms D)
        → HasBegun state config t said (id + 1) (record r { stations = stations; rest = record new { rooms = rooms } })
    opened_begun stations are rooms = record {
      began = record {
        stations = all_push (λ (s : Station D). IsBegun config (images_taken config new.images.items t) (base_of_station s).volume.began) r.stations.items stations.items station are
            (without.stations_began state config r new (without.lists_without state config said id view r.rest new o takes) t begun.began) (subst (λ is. IsBegun config is (base_of_station station).volume.began) (sym same_images) station_begun);
        placed = all_push (λ (s : Station D). BeganInPlace config (images_taken config new.images.items t) (base_of_station s)) r.stations.items stations.items station are
            (without.stations_placed state config r new (without.lists_without state config said id view r.rest new o takes) t begun.began) (subst (λ is. BeganInPlace config is (base_of_station station)) (sym same_images) station_placed);
        left = still_left;
        held = λ w k i v before p conf there has. absurd (none_in (i, p) (subst (λ (xs : List (ℕ × Spun D)). Contains xs (i, p)) (without.none_held state config said id view r.rest new o takes ready.unheld w k) has));
        gone = λ k i v before y conf there now within none. still_gone stations are k i v before y conf there now within (λ p here. none p (inl (y, now, here)));
        pools = λ k v l y conf lock now. (let w = without.was_here state config said id view r.rest new o takes k y now in begun.began.pools k v l w.image conf lock w.here);
      };
      cut = record {
        says = begun.cut.says;
        homes = λ k v i y p le conf there now home.
            let w = without.was_here state config said id view r.rest new o takes k y now in
            begun.cut.homes k v i w.image p (omega (arith, le)) conf there w.here (home_was k y w p home).1;
        segments = λ owner k j v i own_k y p le conf there said_is head now here.
            let w = without.was_here state config said id view r.rest new o takes k y now in
            begun.cut.segments owner k j v i own_k w.image p (omega (arith, le)) conf there said_is head w.here (without.segment_was state config said id view r.rest new o takes k j y p w now here);
      };
    }

  -- ---- It goes on being opened

  module _ (worker_is : worker ≡ get_or ps 0 worker) (helper_is : helper ≡ get_or ps 1 helper) (keeper_is : keeper ≡ get_or ps 2 keeper) where
    -- the passes are the new ones of its lock
    are_new : IsNewPass l 0 worker × IsNewPass l 1 helper × IsNewPass l 2 keeper
    are_new =
        let n = locked.count in
        (new_at l ps 0 worker locked.new (omega (arith, n)) worker_is, new_at l ps 1 helper locked.new (omega (arith, n)) helper_is, new_at l ps 2 keeper locked.new (omega (arith, n)) keeper_is)

    is_station : IsStation station
    is_station =
        record {
          id = ap (λ (x : ManagerBase). x.volume.began.owner) locked.base ∙ owner_new tells state config valid b said id r own ready lt at view own_view new o takes locked.manager locked.opens;
          passes = locked.passes;
          own_passes = record {
            worker_ = are_new.0.at;
            helper_ = are_new.1.at;
            keeper_ = are_new.2.at;
          };
        }

    unused : IsUnused worker × IsUnused helper × IsUnused keeper
    unused = (record { seen = are_new.0.seen; mine = are_new.0.mine }, record { seen = are_new.1.seen; mine = are_new.1.mine }, record { seen = are_new.2.seen; mine = are_new.2.mine })

    -- ---- The rack with it

    module _ (stations : Vec (Station D) Global) (stations_are : stations.items ≡ r.stations.items ++ station ∷ []) (station_cap : vec_capacity stations ≡ vec_capacity r.stations)
        (managers : Vec (Vec (PassOf (Manager D) ManagerBase) Global) Global) (row : Vec (PassOf (Manager D) ManagerBase) Global) (managers_are : managers.items ≡ new.rooms.managers.items ++ row ∷ [])
        (manager_cap : vec_capacity managers ≡ vec_capacity new.rooms.managers) (empty : row.items ≡ []) (row_cap : 3 ≤ vec_capacity row) where
      abbrev pub rooms : Rooms D
      rooms = record new.rooms { managers = managers }

      same_rooms : new.rooms ≡ r.rest.rooms
      same_rooms = takes.home.rooms ∙ takes.owned.rooms ∙ takes.lanes.passes.rooms

      are_rooms : AreRooms (length (shapes_of config)) (length r.stations.items + 1) rooms
      are_rooms =
          let count = length-map r.stations.items (λ (s : Station D). base_of_station s) in
          let old : AreRooms (length (shapes_of config)) (length r.stations.items) new.rooms
          = subst (λ (x : Rooms D). AreRooms (length (shapes_of config)) (length r.stations.items) x) (sym same_rooms)
          (subst (λ (n : ℕ). AreRooms (length (shapes_of config)) n r.rest.rooms) count ready.closable.rest.rooms) in
          let long = length_push new.rooms.managers.items row in
          let was = old.manager_count in
          record {
            pool_count = old.pool_count;
            pools = old.pools;
            spindle_count = old.spindle_count;
            spindles = old.spindles;
            manager_count = ap length managers_are ∙ omega (arith, long, was);
            managers = all_push (λ x. (x.items ≡ []) × (3 ≤ vec_capacity x)) new.rooms.managers.items managers.items row managers_are old.managers (empty, row_cap);
            closed = old.closed;
          }

      pub opened : IsOpeningRack state config b said (id + 1) (record r { stations = stations; rest = record new { rooms = rooms } })
      opened = one_opening state config valid b said id r own ready lt at view new o takes station refl (ap (λ (x : ManagerBase). x.volume.began.view) locked.base ∙ view_new tells state config valid b said id r own ready lt at view own_view new o takes locked.manager locked.opens)
          (all_new tells state config valid b said id r own ready lt at view own_view new o takes locked.manager locked.opens) (inside_new tells state config valid b said id r own ready lt at view own_view new o takes locked.manager locked.opens)
          is_station (subst (IsOpenBase config r.shared new.images.items) (sym locked.base) (base_new tells state config valid b said id r own ready lt at view own_view new o takes locked.manager locked.opens)) rooms are_rooms stations stations_are unused station_cap
          (manager_cap ∙ ap (λ (x : Rooms D). vec_capacity x.managers) same_rooms) own_view
