-- Stations are closed one after the other.
use Rattle.rack_parts.proofs.Basics.{◌≡◌, ◌≢◌, ◌≤◌, ◌+◌, inl, inr, ⊎_elim, ℕ, List, [], ◌∷◌, ◌++◌, length, map, Some, refl, sym, ap, ◌∙◌, subst, arith, ◌<◌, ◌-◌, Bool, drop}
use Rattle.rack_parts.proofs.Basics.{get_or, Option, None, Contains, All, slice_get, option_map, vec_capacity, Vec, Global, length-map, length_push, map_push, append-nil}
use Rattle.rack_parts.proofs.Basics.{length-drop, get_or-drop, drop_more, All-contains, Contains-append_left, Contains-append_right, slice_get-get_or, slice_get-map}
use Rattle.rack_parts.proofs.Basics.{slice_get_within, get_or_from_slice_get, AllZip}
use Rattle.rack_parts.proofs.Terms.{State, Config, Entry, AreWhole, PassOf, logger_of, Shared, StandsCoded, Keeps, notes_of, ManagerBase, Manager, ManagerParts, Station, shapes_of}
use Rattle.rack_parts.proofs.Terms.{away_with, IsRestBut, AreRooms, image_here, base_of_station, IsOpenBase, IsStation, HasBack, CanPutLanes, IsHomeAway, PutsManager}
use Rattle.rack_parts.proofs.Terms.{CanCloseStations, ClosesStation, Closing, IsClosing, KeepsButHome, ClosesStations, Rest, Rooms, ImageRest}
use Rattle.wol_model.specs.Index.{AreRising}
use Rattle.rack_parts.proofs.ManagerBack.{lane_came, lanes_with, kept_all}
use Rattle.rack_parts.proofs.Rising.{rising_at, rising_from}
use Rattle.rack_parts.proofs.Members.{get_left, get_last, all_last, all_front, all_member, of_map, first_in, later_in}
use Rattle.rack_parts.proofs.ManagerBack as back

-- ---- The manager of a station that is closed comes back to the rest of its rack

module _ {D : Type 0} (state : D → State) (tells : Bool) (config : Config) (shared : Shared D) (before : List (Station D)) (s : Station D) (old : Rest D)
    (can : CanCloseStations state config shared (before ++ s ∷ []) old) (m : Manager D) (entries : List Entry) (stands : StandsCoded tells state m (base_of_station s) entries) (rooms : Rooms D) where
  abbrev b : ManagerBase
  b = base_of_station s

  abbrev bases : List ManagerBase
  bases = map (λ (t : Station D). base_of_station t) before

  abbrev volumes : ℕ
  volumes = length (shapes_of config)

  keeps : Keeps tells state m b (notes_of entries)
  keeps = stands.keeps

  station : IsStation s
  station = all_last (λ t. IsStation t) before s can.each

  owner_is : b.volume.began.owner ≡ s.id
  owner_is = station.id

  open_base : IsOpenBase config shared old.images.items b
  open_base = all_last (λ t. IsOpenBase config shared old.images.items (base_of_station t)) before s can.bases

  parts : IsRestBut state config shared (away_with (bases ++ b ∷ [])) old
  parts = subst (λ (bs : List ManagerBase). IsRestBut state config shared (away_with bs) old) (map_push (λ (t : Station D). base_of_station t) before s) can.rest.parts

  -- the volume isn't among those of the other stations
  not_again : Contains (away_with bases).homes b.volume.began.owner → ⊥
  not_again has =
      let x = of_map (λ (c : ManagerBase). c.volume.began.owner) bases b.volume.began.owner has in
      let t = of_map (λ (q : Station D). base_of_station q) before x.0 x.1 in
      let st : IsStation t.0 = All-contains (λ q. IsStation q) before t.0 (all_front (λ q. IsStation q) before s can.each) t.1 in
      in_front t.0 t.1 (sym st.id ∙ ap (λ (c : ManagerBase). c.volume.began.owner) t.2 ∙ x.2 ∙ owner_is)
    where
      number : (t : Station D) (n : ℕ) → slice_get (before ++ s ∷ []) n ≡ Some t → slice_get (map (λ (x : Station D). x.id) (before ++ s ∷ [])) n ≡ Some t.id
      number t n is = slice_get-map (λ (x : Station D). x.id) (before ++ s ∷ []) n ∙ ap (option_map (λ (x : Station D). x.id)) is

      in_front : (t : Station D) → Contains before t → t.id ≡ s.id → ⊥
      in_front t is same =
          let at = slice_get-get_or before is.0 t is.1 ∙ ap (λ (x : Station D). Some x) is.2 in
          let less = rising_at (map (λ (x : Station D). x.id) (before ++ s ∷ [])) can.rising is.0 (length before) t.id s.id is.1 (number t is.0 (get_left before (s ∷ []) is.0 t at)) (number s (length before) (get_last before s (length before) refl)) in
          omega (arith, less, same)

  pub home_away : IsHomeAway (record old { rooms = rooms }) s.id
  home_away = back.home_away state tells config shared bases b s.id owner_is old open_base can.locks parts can.accesses not_again m (notes_of entries) keeps rooms

  pub lanes_away : CanPutLanes state (record old { rooms = rooms }) s.id m.lanes.items
  lanes_away = back.lanes_away state tells config shared bases b s.id owner_is old open_base can.locks parts can.accesses not_again m (notes_of entries) keeps rooms

  pub lanes_of_others : All (λ l. s.id ≢ logger_of l) m.lanes.items
  lanes_of_others = back.lanes_of_others state tells config shared bases b s.id owner_is old open_base can.locks parts can.accesses not_again m (notes_of entries) keeps rooms

  module _ (mp : ManagerParts D) (home_is : mp.home ≡ m.home) (spindle_is : mp.spindle ≡ m.spindle) (lanes_is : mp.lanes ≡ m.lanes) (new : Rest D) (put : PutsManager (record old { rooms = rooms }) new s.id mp) where
    -- the other stations may be closed as before
    pub stations_back : AreRooms volumes (length bases) new.rooms → CanCloseStations state config shared before new
    stations_back are = record {
      each = all_front (λ t. IsStation t) before s can.each;
      rising = rising;
      bases = all_member (λ t. IsOpenBase config shared new.images.items (base_of_station t)) before
          (λ t has. (back.open_still state tells config shared bases b s.id owner_is old open_base can.locks parts can.accesses not_again m (notes_of entries) keeps rooms mp home_is spindle_is lanes_is new put) (base_of_station t) (All-contains (λ q. IsOpenBase config shared old.images.items (base_of_station q)) before t (all_front (λ q. IsOpenBase config shared old.images.items (base_of_station q)) before s can.bases) has));
      locks = can.locks;
      rest = record { parts = (back.parts_back state tells config shared bases b s.id owner_is old open_base can.locks parts can.accesses not_again m (notes_of entries) keeps rooms mp home_is spindle_is lanes_is new put); rooms = are };
      accesses = (back.spindles_accessed state tells config shared bases b s.id owner_is old open_base can.locks parts can.accesses not_again m (notes_of entries) keeps rooms mp home_is spindle_is lanes_is new put);
    }
      where
        longer : (i n : ℕ) → slice_get (map (λ (t : Station D). t.id) before) i ≡ Some n → slice_get (map (λ (t : Station D). t.id) (before ++ s ∷ [])) i ≡ Some n
        longer i n is =
            subst (λ (l : List ℕ). slice_get l i ≡ Some n) (sym (map_push (λ (t : Station D). t.id) before s)) (get_left (map (λ (t : Station D). t.id) before) (s.id ∷ []) i n is)

        rising : AreRising (map (λ (t : Station D). t.id) before)
        rising = rising_from (map (λ (t : Station D). t.id) before) (λ i j x y less at_i at_j. rising_at (map (λ (t : Station D). t.id) (before ++ s ∷ [])) can.rising i j x y less (longer i x at_i) (longer j y at_j))

    -- the station is closed
    pub station_closed : AreWhole entries (s.worker ∷ s.helper ∷ s.keeper ∷ []) → ClosesStation tells state s old new
    station_closed whole = record {
      closing = record { manager = m; entries = entries };
      closed = record { stands = stands; whole = whole; home = (back.home_came_back state tells config shared bases b s.id owner_is old open_base can.locks parts can.accesses not_again m (notes_of entries) keeps rooms mp home_is spindle_is lanes_is new put); spindle = put.spindle ∙ ap Some spindle_is; back = all_member (HasBack new s.id) m.lanes.items (back.lane_back state tells config shared bases b s.id owner_is old open_base can.locks parts can.accesses not_again m (notes_of entries) keeps rooms mp home_is spindle_is lanes_is new put) };
      images = (back.images_kept state tells config shared bases b s.id owner_is old open_base can.locks parts can.accesses not_again m (notes_of entries) keeps rooms mp home_is spindle_is lanes_is new put);
      homes = (back.homes_kept state tells config shared bases b s.id owner_is old open_base can.locks parts can.accesses not_again m (notes_of entries) keeps rooms mp home_is spindle_is lanes_is new put);
      places = λ w k differs. back.other_place state tells config shared bases b s.id owner_is old open_base can.locks parts can.accesses not_again m (notes_of entries) keeps rooms mp home_is spindle_is lanes_is new put w k (λ same has. differs (same ∙ owner_is)) (λ same. absurd (differs same));
      spindles = λ v k away. (back.other_place state tells config shared bases b s.id owner_is old open_base can.locks parts can.accesses not_again m (notes_of entries) keeps rooms mp home_is spindle_is lanes_is new put v k
          (λ same has. away (inl (subst (λ (w : ℕ). Contains (away_with (b ∷ [])).lanes (w, k)) (sym same) (lane_came [] b k has))))
          (λ same e. away (inr (same ∙ sym e, first_in b.volume.began.owner v [] (owner_is ∙ sym same))))).spindle;
      pools = λ v k away. (back.pool_same state tells config shared bases b s.id owner_is old open_base can.locks parts can.accesses not_again m (notes_of entries) keeps rooms mp home_is spindle_is lanes_is new put v k
          (λ same has. away (subst (λ (w : ℕ). Contains (away_with (b ∷ [])).lanes (w, k)) (sym same) (lane_came [] b k has)))).0;
      held = λ v k away. back.lists_kept state tells config shared bases b s.id owner_is old open_base can.locks parts can.accesses not_again m (notes_of entries) keeps rooms mp home_is spindle_is lanes_is new put v k away;
    }

-- rooms once the last station's went
pub rooms_less : {D : Type 0} (volumes : ℕ) (rooms : Rooms D) (before : List (Station D)) (s : Station D) (ms : Vec (Vec (PassOf (Manager D) ManagerBase) Global) Global)
    (row : Vec (PassOf (Manager D) ManagerBase) Global) → AreRooms volumes (length (map (λ (t : Station D). base_of_station t) (before ++ s ∷ []))) rooms → rooms.managers.items ≡ ms.items ++ row ∷ []
    → AreRooms volumes (length (map (λ (t : Station D). base_of_station t) before)) (record rooms { managers = ms })
rooms_less {D} volumes rooms before s ms row are split = record {
  pool_count = are.pool_count;
  pools = are.pools;
  spindle_count = are.spindle_count;
  spindles = are.spindles;
  manager_count =
      let all = ap length split ∙ length_push ms.items row in
      let stations = length-map (before ++ s ∷ []) (λ (t : Station D). base_of_station t) ∙ length_push before s in
      let fewer = length-map before (λ (t : Station D). base_of_station t) in
      omega (arith, are.manager_count, all, stations, fewer);
  managers = all_front (λ r. (r.items ≡ []) × (3 ≤ vec_capacity r)) ms.items row (subst (λ l. All (λ r. (r.items ≡ []) × (3 ≤ vec_capacity r)) l) split are.managers);
  closed = are.closed;
}

-- ---- Stations are closed one after another, the last first

keeps_then : {D : Type 0} (a b c : Option (ImageRest D)) → KeepsButHome a b → KeepsButHome b c → KeepsButHome a c
keeps_then {D} None b c first then = subst (λ (o : Option (ImageRest D)). KeepsButHome o c) first then
keeps_then (Some r) None c first then = absurd first
keeps_then (Some r) (Some n) None first then = absurd then
keeps_then {D} (Some r) (Some n) (Some m) first then = then ∙ ap (λ (q : ImageRest D). record q { home = m.home }) first

module _ {D : Type 0} (tells : Bool) (state : D → State) where
  -- none yet
  pub none_closed : (r : Rest D) → ClosesStations tells state [] r r
  none_closed r = record {
    closings = [];
    each = tt;
    images = λ k. kept_all (image_here r.images.items k);
    homes = λ k away. refl;
    held = λ v k away. refl;
    pools = λ v k away. refl;
    spindles = λ v k away. refl;
  }

  module _ (s : Station D) (done : List (Station D)) (apart : (t : Station D) → Contains done t → t.id ≢ s.id) (init cur new : Rest D) (so_far : ClosesStations tells state done init cur) (one : ClosesStation tells state s cur new) where
    still : (t : Station D) (c : Closing D) → t.id ≢ s.id → IsClosing tells state cur t c → IsClosing tells state new t c
    still t c differs is = record {
      stands = is.stands;
      whole = is.whole;
      home = one.homes t.id differs ∙ is.home;
      spindle = (one.places t.id t.id differs).spindle ∙ is.spindle;
      back = λ n d within.
          let b = is.back n d within in
          let kept = one.places t.id (logger_of (get_or c.manager.lanes.items n d)) differs in
          record { pool = kept.pool ∙ b.pool; spindle = kept.spindle ∙ b.spindle; held = kept.held ∙ b.held };
    }

    all_still : (ts : List (Station D)) (cs : List (Closing D)) → ((t : Station D) → Contains ts t → t.id ≢ s.id) → AllZip (IsClosing tells state cur) ts cs → AllZip (IsClosing tells state new) ts cs
    all_still [] [] differ all = tt
    all_still [] (c ∷ cs) differ all = absurd all
    all_still (t ∷ ts) [] differ all = absurd all
    all_still (t ∷ ts) (c ∷ cs) differ all = (still t c (differ t (first_in t t ts refl)) all.0, all_still ts cs (λ u has. differ u (later_in t u ts has)) all.1)

    -- one station more
    pub one_closed : ClosesStations tells state (s ∷ done) init new
    one_closed = record {
      closings = one.closing ∷ so_far.closings;
      each = (one.closed, all_still done so_far.closings apart so_far.each);
      images = λ k. keeps_then (image_here init.images.items k) (image_here cur.images.items k) (image_here new.images.items k) (so_far.images k) (one.images k);
      homes = λ k away. one.homes k (λ e. away (first_in s.id k (map (λ (t : Station D). t.id) done) (sym e))) ∙ so_far.homes k (λ has. away (later_in s.id k (map (λ (t : Station D). t.id) done) has));
      held = λ v k away. one.held v k (λ has. away (own v k has)) ∙ so_far.held v k (λ has. away (others v k has));
      pools = λ v k away. one.pools v k (λ has. away (own v k has)) ∙ so_far.pools v k (λ has. away (others v k has));
      spindles = λ v k away.
          one.spindles v k (λ has. away (⊎_elim (λ lane. inl (own v k lane)) (λ home. inr (home.0, own_home v home.1)) has))
          ∙ so_far.spindles v k (λ has. away (⊎_elim (λ lane. inl (others v k lane)) (λ home. inr (home.0, other_homes v home.1)) has));
    }
      where
        others : (v k : ℕ) → Contains (away_with (map (λ (t : Station D). base_of_station t) done)).lanes (v, k) → Contains (away_with (map (λ (t : Station D). base_of_station t) (s ∷ done))).lanes (v, k)
        others v k has = Contains-append_right (lanes_with (base_of_station s)) (away_with (map (λ (t : Station D). base_of_station t) done)).lanes (v, k) has

        own : (v k : ℕ) → Contains (away_with (base_of_station s ∷ [])).lanes (v, k) → Contains (away_with (map (λ (t : Station D). base_of_station t) (s ∷ done))).lanes (v, k)
        own v k has =
            let mine : Contains (lanes_with (base_of_station s)) (v, k) =
            subst (λ (l : List (ℕ × ℕ)). Contains l (v, k)) (append-nil (lanes_with (base_of_station s))) has in
            Contains-append_left (lanes_with (base_of_station s)) (away_with (map (λ (t : Station D). base_of_station t) done)).lanes (v, k) mine

        other_homes : (v : ℕ) → Contains (away_with (map (λ (t : Station D). base_of_station t) done)).homes v → Contains (away_with (map (λ (t : Station D). base_of_station t) (s ∷ done))).homes v
        other_homes v has = later_in (base_of_station s).volume.began.owner v (away_with (map (λ (t : Station D). base_of_station t) done)).homes has

        own_home : (v : ℕ) → Contains (away_with (base_of_station s ∷ [])).homes v → Contains (away_with (map (λ (t : Station D). base_of_station t) (s ∷ done))).homes v
        own_home v has = Contains-append_left ((base_of_station s).volume.began.owner ∷ []) (away_with (map (λ (t : Station D). base_of_station t) done)).homes v has

-- what stands behind a place of a rising list has another number
pub apart_behind : {D : Type 0} (all : List (Station D)) (n : ℕ) (s : Station D) → AreRising (map (λ (t : Station D). t.id) all) → slice_get all n ≡ Some s → (t : Station D) → Contains (drop (n + 1) all) t → t.id ≢ s.id
apart_behind {D} all n s rising at t has same =
    let place : length (drop (n + 1) all) ≡ length all - (n + 1) = length-drop (n + 1) all in
    let within : n + 1 + has.0 < length all = omega (arith, place, has.1) in
    let there : slice_get all (n + 1 + has.0) ≡ Some t = slice_get-get_or all (n + 1 + has.0) t within ∙ ap (λ (x : Station D). Some x) (sym (get_or-drop (n + 1) all has.0 t) ∙ has.2) in
    let less = rising_at (map (λ (x : Station D). x.id) all) rising n (n + 1 + has.0) s.id t.id (omega arith)
    (slice_get-map (λ (x : Station D). x.id) all n ∙ ap (option_map (λ (x : Station D). x.id)) at)
    (slice_get-map (λ (x : Station D). x.id) all (n + 1 + has.0) ∙ ap (option_map (λ (x : Station D). x.id)) there) in
    absurd (omega (arith, less, same))

pub next_drop : {D : Type 0} (all : List (Station D)) (n : ℕ) (s : Station D) → slice_get all n ≡ Some s → drop n all ≡ s ∷ drop (n + 1) all
next_drop {D} all n s at = drop_more all n s (slice_get_within all n s at) ∙ ap (λ (x : Station D). x ∷ drop (n + 1) all) (get_or_from_slice_get all n s s at)
