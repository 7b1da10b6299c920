-- A rack whose volumes are open can be served, and closed after it.
use Rattle.replay.proofs.Basics.{◌≡◌, ◌<◌, ◌≤◌, ◌+◌, ℕ, zero, suc, List, [], ◌∷◌, length, map, refl, sym, ap, subst, ◌∙◌, Option, None}
use Rattle.replay.proofs.Basics.{Some, inl, inr, arith, All, Contains, slice_get, slice_index_or, option_map_or, cases_eq, length-map}
use Rattle.replay.proofs.Basics.{All-map}
use Rattle.replay.proofs.Terms.{State, Target, home_of, BayState, Config, lock_id, lock_passes, pass_number, IsPassOf, IsFree, Spindle}
use Rattle.replay.proofs.Terms.{SpindleBase, Shared, IsShared, ManagerBase, Station, target_of, targets_of, shape_in, shapes_of}
use Rattle.replay.proofs.Terms.{base_of_station, AreOut, AreRising, IsClosable, IsOpenBase, IsRack, AreLocks, IsImageOut, IsRest}
use Rattle.replay.proofs.Terms.{OnlyAccess, ImageRest, Rack, Rest, ManagerLock, SpindlePass, AreStations, first_closed}
use Rattle.replay.proofs.Terms.{none_closed, CanServe, locks_of, AreSamePasses}
use Rattle.turn_lock.specs.declared.lock.TurnLock.{TurnLock}
use Rattle.rack.specs.Foreign.{AreForeign}
use Rattle.rack_parts.proofs.Rising.{rising_at, rising_from}

-- ---- Places in lists

pub at_place : {X : Type 0} (xs : List X) (k : ℕ) (x : X) → slice_get xs k ≡ Some x → (k < length xs) × ((d : X) → slice_index_or xs k d ≡ x)
at_place [] k x there = absurd (cc there)
at_place (y ∷ ys) zero x there = (omega arith, λ d. cc there)
at_place (y ∷ ys) (suc k) x there = let (less, is) = at_place ys k x there in (omega (arith, less), is)

pub there_at : {X : Type 0} (xs : List X) (k : ℕ) (d : X) → k < length xs → slice_get xs k ≡ Some (slice_index_or xs k d)
there_at [] k d lt = absurd (omega (arith, lt))
there_at (y ∷ ys) zero d lt = refl
there_at (y ∷ ys) (suc k) d lt = there_at ys k d (omega (arith, lt))

pub a_member : {X : Type 0} (xs : List X) (k : ℕ) → k < length xs → (x : X) × (slice_get xs k ≡ Some x)
a_member [] k lt = absurd (omega (arith, lt))
a_member (y ∷ ys) zero lt = (y, refl)
a_member (y ∷ ys) (suc k) lt = a_member ys k (omega (arith, lt))

pub mapped : {X Y : Type 0} (f : X → Y) (xs : List X) (k : ℕ) (x : X) → slice_get xs k ≡ Some x → slice_get (map f xs) k ≡ Some (f x)
mapped f [] k x there = absurd (cc there)
mapped f (y ∷ ys) zero x there = let same : y ≡ x = cc there in ap (λ z. Some (f z)) same
mapped f (y ∷ ys) (suc k) x there = mapped f ys k x there

pub unmapped : {X Y : Type 0} (f : X → Y) (xs : List X) (k : ℕ) (y : Y) → slice_get (map f xs) k ≡ Some y → (x : X) × (slice_get xs k ≡ Some x) × (f x ≡ y)
unmapped f [] k y there = absurd (cc there)
unmapped f (x ∷ xs) zero y there = (x, refl, cc there)
unmapped f (x ∷ xs) (suc k) y there = unmapped f xs k y there

pub all_unmapped : {X Y : Type 0} (P : Y → Type 0) (f : X → Y) (xs : List X) → All P (map f xs) → All (λ x. P (f x)) xs
all_unmapped P f xs all k d lt =
    let here = there_at xs k d lt in
    let (less, is) = at_place (map f xs) k (f (slice_index_or xs k d)) (mapped f xs k (slice_index_or xs k d) here) in
    subst P (is (f d)) (all k (f d) less)

-- ---- Numbers that rise and leave none out

pub in_order : (m : ℕ) (ns : List ℕ) (count : ℕ) → ((j n : ℕ) → slice_get ns j ≡ Some n → (m ≤ n) × (n < count)) → AreRising ns → ((k : ℕ) → m ≤ k → k < count → Contains ns k)
    → ((j n : ℕ) → slice_get ns j ≡ Some n → n ≡ m + j) × (m ≤ count → length ns + m ≡ count)
in_order m [] count bounds rising has = (
  λ j n there. absurd (cc there),
  λ most. elim (cases_eq m count) [
    | inl same ↦ omega (arith, same)
    | inr other ↦ let (j, less, is) = has m (omega arith) (omega (arith, most, other)) in absurd (omega (arith, less))
  ],
)
in_order m (x ∷ xs) count bounds rising has =
    let (low, high) = bounds zero x refl in
    let first : x ≡ m = at (has m (omega arith) (omega (arith, low, high))) low in
    let (each, all) = in_order (m + 1) xs count
    (λ j n there. (let above = rising_at (x ∷ xs) rising zero (suc j) x n (omega arith) refl there in omega (arith, above, first), (bounds (suc j) n there).1))
    rising.1
    (λ k above below. rest k above (has k (omega (arith, above)) below) first) in (
      λ j n there. place j n there first each,
      λ most. (let so = all (omega (arith, first, high)) in omega (arith, so)),
    )
  where
    at : Contains (x ∷ xs) m → m ≤ x → x ≡ m
    at (zero, less, is) low = is
    at (suc j, less, is) low =
        let here : slice_get xs j ≡ Some m = there_at xs j m (omega (arith, less)) ∙ ap (λ (n : ℕ). Some n) is in
        let above : x < m = rising_at (x ∷ xs) rising zero (suc j) x m (omega arith) refl here in
        absurd (omega (arith, above, low))

    rest : (k : ℕ) → m + 1 ≤ k → Contains (x ∷ xs) k → x ≡ m → Contains xs k
    rest k above (zero, less, is) first = let is' : x ≡ k = is in absurd (omega (arith, above, is', first))
    rest k above (suc j, less, is) first = (j, omega (arith, less), is)

    place : (j n : ℕ) → slice_get (x ∷ xs) j ≡ Some n → x ≡ m → ((i o : ℕ) → slice_get xs i ≡ Some o → o ≡ m + 1 + i) → n ≡ m + j
    place zero n there first each = let same : x ≡ n = cc there in omega (arith, same, first)
    place (suc j) n there first each = let so = each j n there in omega (arith, so)

-- ---- Serving

out_within : {D : Type 0} (images : List (Option (ImageRest D))) (k : ℕ) → IsImageOut images k → k < length images
out_within [] zero out = absurd (cc out)
out_within [] (suc k) out = absurd (cc out)
out_within (i ∷ images) zero out = omega arith
out_within (i ∷ images) (suc k) out = let less = out_within images k out in omega (arith, less)

module _ {D : Type 0} (state : D → State) (config : Config) (b : BayState) (r : Rack D) (is : IsRack state config b r) (open_ : first_closed 0 r.faults.items ≡ None) where
  abbrev pub stations : List (Station D)
  stations = r.stations.items

  abbrev pub ids : List ℕ
  ids = map (λ (s : Station D). s.id) stations

  abbrev pub count : ℕ
  count = length (shapes_of config)

  id_below : (j n : ℕ) → slice_get ids j ≡ Some n → (0 ≤ n) × (n < count)
  id_below j n there =
      let (s, here, same) = unmapped (λ (x : Station D). x.id) stations j n there in
      let (less, at) = at_place stations j s here in
      let owner : (base_of_station s).volume.began.owner ≡ s.id = subst (λ (x : Station D). (base_of_station x).volume.began.owner ≡ x.id) (at s) (is.stations j s less).id in
      let out : IsImageOut r.rest.images.items (base_of_station s).volume.began.owner = subst (λ (x : Station D). IsImageOut r.rest.images.items (base_of_station x).volume.began.owner) (at s) (is.bases j s less).out in
      let within = out_within r.rest.images.items (base_of_station s).volume.began.owner out in
      (omega arith, omega (arith, within, owner, same, is.rest.parts.images.0))

  numbered : ((j n : ℕ) → slice_get ids j ≡ Some n → n ≡ 0 + j) × (0 ≤ count → length ids + 0 ≡ count)
  numbered = in_order 0 ids count id_below is.rising (λ k low lt. (is.faults k lt).0 (none_closed 0 r.faults.items open_ k))

  pub station_count : length stations ≡ count
  station_count = let all = numbered.1 (omega arith) in omega (arith, all, length-map stations (λ (s : Station D). s.id))

  pub each_station : AreStations stations
  each_station k d lt =
      let s : Station D = slice_index_or stations k d in
      let here = there_at stations k d lt in
      let placed : s.id ≡ 0 + k = numbered.0 k s.id (mapped (λ (x : Station D). x.id) stations k s here) in
      let id : s.id ≡ k = omega (arith, placed) in
      let was = is.stations k d lt in
      record {
        id = id;
        owner = was.id ∙ id;
        own_passes = was.own_passes;
      }

  pub can_serve : CanServe config r.shared stations r.keepers.items
  can_serve = record {
    each = each_station;
    keepers_ = record {
      count = is.keepers.0 ∙ sym is.locks.spindle_count;
      own = λ k l d lt. (let less : k < length r.shared.spindles.items = omega (arith, lt, is.keepers.0, is.locks.spindle_count) in
          (is.keepers.1 k (slice_index_or r.shared.spindles.items k l) (slice_index_or r.keepers.items k d) (there_at r.shared.spindles.items k l less) (there_at r.keepers.items k d lt)).own);
      free = λ k d lt. (let less : k < length r.shared.spindles.items = omega (arith, lt, is.keepers.0, is.locks.spindle_count) in
          let (l, there) = a_member r.shared.spindles.items k less in
          (is.keepers.1 k l (slice_index_or r.keepers.items k d) there (there_at r.keepers.items k d lt)).free);
    };
    on = All-map (λ (l : ManagerLock D). IsShared r.shared (lock_id l).base) (λ (s : Station D). s.lock) stations (λ k d lt. (is.bases k d lt).at);
    volumes = record {
      count = length-map stations (λ (s : Station D). s.lock) ∙ station_count ∙ length-map config.volumes.items (shape_in config) ∙ sym (length-map config.volumes.items target_of);
      sizes = λ k l lt. sized k l (omega (arith, lt, length-map stations (λ (s : Station D). s.lock)));
    };
  }
    where
      sized : (k : ℕ) (l : ManagerLock D) → k < length stations → Rattle.replay.specs.Sessions.HasSizes config k (lock_id (slice_index_or (locks_of stations) k l)).base
      sized k l lt =
          let (s, here) = a_member stations k lt in
          let (less, at) = at_place stations k s here in
          let (within, locked) = at_place (locks_of stations) k s.lock (mapped (λ (x : Station D). x.lock) stations k s here) in
          let base : IsOpenBase config r.shared r.rest.images.items (base_of_station s) = subst (λ (x : Station D). IsOpenBase config r.shared r.rest.images.items (base_of_station x)) (at s) (is.bases k s less) in
          let owner : (base_of_station s).volume.began.owner ≡ k = subst (λ (x : Station D). (lock_id x.lock).base.volume.began.owner ≡ k) (at s) (each_station k s less).owner in
          let (v, conf) = a_member config.volumes.items k (omega (arith, lt, station_count, length-map config.volumes.items (shape_in config))) in
          let shape : slice_get (shapes_of config) (base_of_station s).volume.began.owner ≡ Some (shape_in config v) = subst (λ (n : ℕ). slice_get (shapes_of config) n ≡ Some (shape_in config v)) (sym owner) (mapped (shape_in config) config.volumes.items k v conf) in
          let target : slice_get (targets_of config) k ≡ Some (target_of v) = mapped target_of config.volumes.items k v conf in
          let home : (base_of_station s).volume.began.home_blocks ≡ home_of (targets_of config) k = base.home_blocks (shape_in config v) shape ∙ sym (ap (λ (t : Option Target). option_map_or (λ (x : Target). x.home) t 0) target) in
          subst (λ (x : ManagerLock D). Rattle.replay.specs.Sessions.HasSizes config k (lock_id x).base) (sym (locked l)) (record { most = base.most; home = home })

-- ---- Closing

bases_of : {D : Type 0} (ss : List (Station D)) → map (λ (s : Station D). base_of_station s) ss ≡ map (λ (l : ManagerLock D). (lock_id l).base) (locks_of ss)
bases_of [] = refl
bases_of (s ∷ ss) = ap (λ (l : List ManagerBase). base_of_station s ∷ l) (bases_of ss)

pub rack_closable : {D : Type 0} (state : D → State) (config : Config) (b : BayState) (r : Rack D) → IsRack state config b r → IsClosable state config b r
rack_closable state config b r is = is.closable

module _ {D : Type 0} (state : D → State) (config : Config) (b : BayState) (old new : Rack D) (is : IsClosable state config b old) (only : new ≡ record old { keepers = new.keepers; stations = new.stations })
    (can : CanServe config new.shared new.stations.items new.keepers.items) (locks : locks_of new.stations.items ≡ locks_of old.stations.items) (same : AreSamePasses old.keepers.items new.keepers.items) where
  shared_same : new.shared ≡ old.shared
  shared_same = ap (λ (r : Rack D). r.shared) only

  rest_same : new.rest ≡ old.rest
  rest_same = ap (λ (r : Rack D). r.rest) only

  abbrev bases : Rack D → List ManagerBase
  bases r = map (λ (s : Station D). base_of_station s) r.stations.items

  bases_same : bases new ≡ bases old
  bases_same = bases_of new.stations.items ∙ ap (λ (ls : List (ManagerLock D)). map (λ (l : ManagerLock D). (lock_id l).base) ls) locks ∙ sym (bases_of old.stations.items)

  passes_same : All (λ (s : Station D). lock_passes s.lock ≡ 3) new.stations.items
  passes_same = all_unmapped (λ (l : ManagerLock D). lock_passes l ≡ 3) (λ (s : Station D). s.lock) new.stations.items
      (subst (λ (ls : List (ManagerLock D)). All (λ (l : ManagerLock D). lock_passes l ≡ 3) ls) (sym locks)
      (All-map (λ (l : ManagerLock D). lock_passes l ≡ 3) (λ (s : Station D). s.lock) old.stations.items (λ k d lt. (is.stations k d lt).passes)))

  id_at : (i n : ℕ) → slice_get (map (λ (s : Station D). s.id) new.stations.items) i ≡ Some n → n ≡ i
  id_at i n there =
      let (s, here, is_id) = unmapped (λ (x : Station D). x.id) new.stations.items i n there in
      let (less, at) = at_place new.stations.items i s here in
      let id : s.id ≡ i = subst (λ (x : Station D). x.id ≡ i) (at s) (can.each i s less).id in
      sym is_id ∙ id

  pub closable_after : IsClosable state config b new
  closable_after = record {
    out = subst (λ (r : Rest D). AreOut config r.images.items b) (sym rest_same) is.out;
    locks = subst (λ (s : Shared D). AreLocks config s) (sym shared_same) is.locks;
    keepers = (
      same.count ∙ is.keepers.0,
      λ k l p lock pass. (
          let (less, at) = at_place new.keepers.items k p pass in
          let (within, locked) = at_place new.shared.spindles.items k l lock in
          let before : k < length old.keepers.items = omega (arith, less, same.count) in
          let was = is.keepers.1 k l (slice_index_or old.keepers.items k p) (subst (λ (s : Shared D). slice_get s.spindles.items k ≡ Some l) shared_same lock) (there_at old.keepers.items k p before) in
          record {
            own = subst (λ (x : SpindlePass). IsPassOf l x) (at p) (subst (λ (x : TurnLock Spindle SpindleBase). IsPassOf x (slice_index_or new.keepers.items k p)) (locked l) (can.keepers_.own k l p less));
            free = subst (λ (x : SpindlePass). IsFree x) (at p) (can.keepers_.free k p less);
            number_is = subst (λ (x : SpindlePass). pass_number x ≡ length (shapes_of config)) (at p) ((same.each k p before).1 ∙ was.number_is);
          }),
    );
    stations = λ k d lt. (let s = can.each k d lt in record {
      id = s.owner ∙ sym s.id;
      passes = passes_same k d lt;
      own_passes = s.own_passes;
    });
    rising = rising_from (map (λ (s : Station D). s.id) new.stations.items) (λ i j n m less here there. (let a = id_at i n here in let c = id_at j m there in omega (arith, less, a, c)));
    bases = all_unmapped (λ (x : ManagerBase). IsOpenBase config new.shared new.rest.images.items x) (λ (s : Station D). base_of_station s) new.stations.items
        (subst (λ (bs : List ManagerBase). All (λ (x : ManagerBase). IsOpenBase config new.shared new.rest.images.items x) bs) (sym bases_same)
        (subst (λ (s : Shared D). All (λ (x : ManagerBase). IsOpenBase config s new.rest.images.items x) (bases old)) (sym shared_same)
        (subst (λ (r : Rest D). All (λ (x : ManagerBase). IsOpenBase config old.shared r.images.items x) (bases old)) (sym rest_same)
        (All-map (λ (x : ManagerBase). IsOpenBase config old.shared old.rest.images.items x) (λ (s : Station D). base_of_station s) old.stations.items is.bases))));
    rest = subst (λ (bs : List ManagerBase). IsRest state config new.shared bs new.rest) (sym bases_same)
        (subst (λ (s : Shared D). IsRest state config s (bases old) new.rest) (sym shared_same) (subst (λ (r : Rest D). IsRest state config old.shared (bases old) r) (sym rest_same) is.rest));
    foreign = subst (λ (bs : List ManagerBase). AreForeign state bs new.rest) (sym bases_same) (subst (λ (r : Rest D). AreForeign state (bases old) r) (sym rest_same) is.foreign);
    accesses = subst (λ (r : Rest D). OnlyAccess r) (sym rest_same) is.accesses;
  }
