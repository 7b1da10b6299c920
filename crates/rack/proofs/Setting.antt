-- The locks and their passes are set where they belong: the rack before a volume is opened.
use Rattle.rack.proofs.Basics.{◌≡◌, ◌<◌, ◌≤◌, ◌+◌, ◌-◌, ⊎_elim, ℕ, zero, suc, List, [], ◌∷◌, ◌++◌, length, map, take, reverse, Option, None, Some, refl, sym, ap, subst, ◌∙◌, arith, All}
use Rattle.rack.proofs.Basics.{MatchOption, slice_get, slice_index_or, slice_set, vec_len, vec_capacity, AllZip, Global, Vec, cases_eq, append_assoc, append-nil, map-append, reverse-append}
use Rattle.rack.proofs.Basics.{reverse-reverse, length-append, length-map, length-reverse, length-set, take_at, map_more, get_or_read, get_or-set_same, get_or-set_other, All-pop}
use Rattle.rack.proofs.Basics.{slice_get-get_or, slice_get_past, ◌≢◌, option_and_then, option_map, length-take, take-take, take_all, same_Some, slice_get_within, slice_get-map}
use Rattle.rack.proofs.Basics.{get_or_from_slice_get, All-nil, slice_get_read}
use Rattle.rack.proofs.Terms.{TurnLock, PassOf, Spindle, SpindleBase, PoolBase, Pool, FreeSegment, AreLists, PutsSpindles, PutsPools, last_of, Lists, Issued, AreEmptyPasses, ArePopped}
use Rattle.rack.proofs.Terms.{AreEmptied, CanDeal, Deals, IsSetUp, Spun, Shared, ManagerBase, Manager, Station, IsRow, AreRooms, held_here, list_of, Rack, Rooms}
use Rattle.manager.proofs.Lanes.{get_set, get_other}
use Rattle.manager_recovery.proofs.Lists.{zip_get, zip_length, zip_push}
use Rattle.rack_parts.specs.declared.rack.VolumePasses.{VolumePasses}
use Rattle.rack_parts.proofs.LanesMoved.{all_read}
use Rattle.rack_parts.proofs.Members.{element_at}

module _ {X Y : Type 0} where
  pub map_same : (f g : X → Y) (xs ys : List X) → length xs ≡ length ys → ((k : ℕ) (d : X) → k < length xs → f (slice_index_or xs k d) ≡ g (slice_index_or ys k d)) → map f xs ≡ map g ys
  map_same f g [] [] count same = refl
  map_same f g [] (y ∷ ys) count same = absurd (omega (arith, count))
  map_same f g (x ∷ xs) [] count same = absurd (omega (arith, count))
  map_same f g (x ∷ xs) (y ∷ ys) count same =
      let first : f x ≡ g y = same 0 x (omega arith) in
      let rest : map f xs ≡ map g ys = map_same f g xs ys (omega (arith, count)) (λ k d within. same (suc k) d (omega (arith, within))) in
      ap (λ (z : Y). z ∷ map f xs) first ∙ ap (λ (zs : List Y). g y ∷ zs) rest

-- one more of a row that is popped from behind and was reversed
pub row_next : {X : Type 0} (all done rest : List X) (x : X) → all ≡ done ++ reverse (rest ++ x ∷ []) → all ≡ (done ++ x ∷ []) ++ reverse rest
row_next {X} all done rest x kept = kept ∙ ap (λ (l : List X). done ++ l) (reverse-append rest (x ∷ [])) ∙ sym (append_assoc done (x ∷ []) (reverse rest))

pub fewer_done : {X : Type 0} (all done rest : List X) (x : X) → all ≡ done ++ reverse (rest ++ x ∷ []) → length done < length all
fewer_done {X} all done rest x kept =
    let e = ap length kept in let a = length-append done (reverse (rest ++ x ∷ [])) in let r = length-reverse (rest ++ x ∷ []) in let p = length-append rest (x ∷ []) in
    omega (arith, e, a, r, p)

abbrev pub SpindleLock : Type 0
SpindleLock = Issued Spindle SpindleBase

abbrev pub PoolLock : Type 0 → Type 0
PoolLock D = Issued (Pool (FreeSegment D)) PoolBase

abbrev pub SpindlePass : Type 0
SpindlePass = PassOf Spindle SpindleBase

abbrev pub keeper_is : ℕ → SpindleLock → SpindlePass → Type 0
keeper_is n i p = slice_get i.passes.items n ≡ Some p

abbrev pub row_is : ℕ → SpindleLock → Vec SpindlePass Global → Type 0
row_is n i row = (row.items ≡ take n i.passes.items) × (n + 1 ≤ vec_capacity row)

nil_zip : {X Y : Type 0} (R : X → Y → Type 0) (ys : List Y) → ys ≡ [] → AllZip R [] ys
nil_zip {X} {Y} R ys none = subst (AllZip R []) (sym none) tt

module _ {D : Type 0} where
  -- nothing changed but what there is of spindles
  abbrev with_spindles : (old new : Lists D) → Lists D
  with_spindles old new = record old { shared = record old.shared { spindles = new.shared.spindles }; keepers = new.keepers; rooms = record old.rooms { spindles = new.rooms.spindles } }

  -- some spindles are left, the last first, and the others are put
  pub record AreSpindlesPut (all left : List SpindleLock) (old new : Lists D) : Type 0 where
    pub done : List SpindleLock
    pub kept : all ≡ done ++ reverse left
    pub locks : new.shared.spindles.items ≡ map (λ (i : SpindleLock). i.lock) done
    pub keepers : AllZip (keeper_is (length all)) done new.keepers.items
    pub rows : AllZip (row_is (length all)) done new.rooms.spindles.items
    pub sizes : All (λ (i : SpindleLock). length i.passes.items ≡ length all + 1) left
    pub lock_room : length all ≤ vec_capacity new.shared.spindles
    pub keeper_room : length all ≤ vec_capacity new.keepers
    pub row_room : length all ≤ vec_capacity new.rooms.spindles
    pub rest : new ≡ with_spindles old new

  pub spindles_none : (all left : List SpindleLock) (l : Lists D) → left ≡ reverse all → AreLists (length all) l → All (λ (i : SpindleLock). length i.passes.items ≡ length all + 1) left → AreSpindlesPut all left l l
  spindles_none all left l reversed lists sizes = record {
    done = [];
    kept = sym (ap reverse reversed ∙ reverse-reverse all);
    locks = lists.shared.spindles.0;
    keepers = nil_zip (keeper_is (length all)) l.keepers.items lists.keepers.0;
    rows = nil_zip (row_is (length all)) l.rooms.spindles.items lists.rooms.spindles.0;
    sizes = sizes;
    lock_room = lists.shared.spindles.1;
    keeper_room = lists.keepers.1;
    row_room = lists.rooms.spindles.1;
    rest = refl;
  }

  module _ (all rest : List SpindleLock) (i : SpindleLock) (old new : Lists D) (so_far : AreSpindlesPut all (rest ++ i ∷ []) old new) where
    pub last_size : length i.passes.items ≡ length all + 1
    last_size = (All-pop (λ (j : SpindleLock). length j.passes.items ≡ length all + 1) (rest ++ i ∷ []) rest (Some i) refl so_far.sizes).1

    pub fewer_put : length so_far.done < length all
    fewer_put = fewer_done all so_far.done rest i so_far.kept

    pub room_for_lock : vec_len new.shared.spindles < vec_capacity new.shared.spindles
    room_for_lock =
        let lt = fewer_put in let m = length-map so_far.done (λ (j : SpindleLock). j.lock) in let e = ap length so_far.locks in
        omega (arith, lt, m, e, so_far.lock_room, new.shared.spindles.ok.0)

    pub room_for_keeper : vec_len new.keepers < vec_capacity new.keepers
    room_for_keeper = let lt = fewer_put in let count = zip_length (keeper_is (length all)) so_far.done new.keepers.items so_far.keepers in omega (arith, lt, count, so_far.keeper_room, new.keepers.ok.0)

    pub room_for_row : vec_len new.rooms.spindles < vec_capacity new.rooms.spindles
    room_for_row = let lt = fewer_put in let count = zip_length (row_is (length all)) so_far.done new.rooms.spindles.items so_far.rows in omega (arith, lt, count, so_far.row_room, new.rooms.spindles.ok.0)

    pub spindles_next : (newer : Lists D) (keeper : SpindlePass) (row : Vec SpindlePass Global) → i.passes.items ≡ row.items ++ keeper ∷ [] → vec_capacity row ≡ vec_capacity i.passes
        → newer.shared.spindles.items ≡ new.shared.spindles.items ++ i.lock ∷ [] → vec_capacity newer.shared.spindles ≡ vec_capacity new.shared.spindles
        → newer.keepers.items ≡ new.keepers.items ++ keeper ∷ [] → vec_capacity newer.keepers ≡ vec_capacity new.keepers
        → newer.rooms.spindles.items ≡ new.rooms.spindles.items ++ row ∷ [] → vec_capacity newer.rooms.spindles ≡ vec_capacity new.rooms.spindles
        → newer ≡ with_spindles new newer → AreSpindlesPut all rest old newer
    spindles_next newer keeper row popped capacity locks lock_room keepers keeper_room rows row_room same =
        let n = length all in let done = so_far.done ++ i ∷ [] in
        let size : length row.items ≡ n = let e = ap length popped in let a = length-append row.items (keeper ∷ []) in let s = last_size in omega (arith, e, a, s) in
        record {
          done = done;
          kept = row_next all so_far.done rest i so_far.kept;
          locks = locks ∙ ap (λ (l : List (TurnLock Spindle SpindleBase)). l ++ i.lock ∷ []) so_far.locks ∙ sym (map-append (λ (j : SpindleLock). j.lock) so_far.done (i ∷ []));
          keepers = subst (AllZip (keeper_is n) done) (sym keepers) (zip_push (keeper_is n) so_far.done new.keepers.items i keeper so_far.keepers
              (ap (λ (l : List SpindlePass). slice_get l n) popped ∙ get_behind row.items keeper n size));
          rows = subst (AllZip (row_is n) done) (sym rows) (zip_push (row_is n) so_far.done new.rooms.spindles.items i row so_far.rows (
            sym (ap (take n) popped ∙ take_front row.items keeper n size),
            let a = last_size in let b : i.passes.len ≡ length i.passes.items = i.passes.ok.0 in let c = i.passes.ok.1 in omega (arith, a, b, c, capacity),
          ));
          sizes = (All-pop (λ (j : SpindleLock). length j.passes.items ≡ length all + 1) (rest ++ i ∷ []) rest (Some i) refl so_far.sizes).0;
          lock_room = subst (λ (m : ℕ). length all ≤ m) (sym lock_room) so_far.lock_room;
          keeper_room = subst (λ (m : ℕ). length all ≤ m) (sym keeper_room) so_far.keeper_room;
          row_room = subst (λ (m : ℕ). length all ≤ m) (sym row_room) so_far.row_room;
          rest = same ∙ ap (λ (l : Lists D). with_spindles l newer) so_far.rest;
        }
      where
        get_behind : (xs : List SpindlePass) (x : SpindlePass) (n : ℕ) → length xs ≡ n → slice_get (xs ++ x ∷ []) n ≡ Some x
        get_behind [] x n size = ap (slice_get (x ∷ [])) (sym size)
        get_behind (y ∷ ys) x zero size = absurd (omega (arith, size))
        get_behind (y ∷ ys) x (suc n) size = get_behind ys x n (omega (arith, size))

        take_front : (xs : List SpindlePass) (x : SpindlePass) (n : ℕ) → length xs ≡ n → take n (xs ++ x ∷ []) ≡ xs
        take_front xs x n size = take_at xs (x ∷ []) n size

  -- the same of pools
  abbrev with_pools : (old new : Lists D) → Lists D
  with_pools old new = record old { shared = record old.shared { pools = new.shared.pools }; rooms = record old.rooms { pools = new.rooms.pools } }

  pub record ArePoolsPut (all left : List (PoolLock D)) (old new : Lists D) : Type 0 where
    pub done : List (PoolLock D)
    pub kept : all ≡ done ++ reverse left
    pub locks : new.shared.pools.items ≡ map (λ (i : (PoolLock D)). i.lock) done
    pub rows : new.rooms.pools.items ≡ map (λ (i : (PoolLock D)). i.passes) done
    pub lock_room : length all ≤ vec_capacity new.shared.pools
    pub row_room : length all ≤ vec_capacity new.rooms.pools
    pub rest : new ≡ with_pools old new

  pub pools_none : (all left : List (PoolLock D)) (l : Lists D) → left ≡ reverse all → (l.shared.pools.items ≡ []) × (length all ≤ vec_capacity l.shared.pools)
      → (l.rooms.pools.items ≡ []) × (length all ≤ vec_capacity l.rooms.pools) → ArePoolsPut all left l l
  pools_none all left l reversed shared rooms = record {
    done = [];
    kept = sym (ap reverse reversed ∙ reverse-reverse all);
    locks = shared.0;
    rows = rooms.0;
    lock_room = shared.1;
    row_room = rooms.1;
    rest = refl;
  }

  module _ (all rest : List (PoolLock D)) (i : (PoolLock D)) (old new : Lists D) (so_far : ArePoolsPut all (rest ++ i ∷ []) old new) where
    pub pool_lock_room : vec_len new.shared.pools < vec_capacity new.shared.pools
    pool_lock_room =
        let lt = fewer_done all so_far.done rest i so_far.kept in let m = length-map so_far.done (λ (j : (PoolLock D)). j.lock) in let e = ap length so_far.locks in
        omega (arith, lt, m, e, so_far.lock_room, new.shared.pools.ok.0)

    pub pool_row_room : vec_len new.rooms.pools < vec_capacity new.rooms.pools
    pool_row_room =
        let lt = fewer_done all so_far.done rest i so_far.kept in let m = length-map so_far.done (λ (j : (PoolLock D)). j.passes) in let e = ap length so_far.rows in
        omega (arith, lt, m, e, so_far.row_room, new.rooms.pools.ok.0)

    pub pools_next : (newer : Lists D) → newer.shared.pools.items ≡ new.shared.pools.items ++ i.lock ∷ [] → vec_capacity newer.shared.pools ≡ vec_capacity new.shared.pools
        → newer.rooms.pools.items ≡ new.rooms.pools.items ++ i.passes ∷ [] → vec_capacity newer.rooms.pools ≡ vec_capacity new.rooms.pools
        → newer ≡ with_pools new newer → ArePoolsPut all rest old newer
    pools_next newer locks lock_room rows row_room same = record {
      done = so_far.done ++ i ∷ [];
      kept = row_next all so_far.done rest i so_far.kept;
      locks = locks ∙ ap (λ (l : List (TurnLock (Pool (FreeSegment D)) PoolBase)). l ++ i.lock ∷ []) so_far.locks ∙ sym (map-append (λ (j : (PoolLock D)). j.lock) so_far.done (i ∷ []));
      rows = rows ∙ ap (λ (l : List (Vec (PassOf (Pool (FreeSegment D)) PoolBase) Global)). l ++ i.passes ∷ []) so_far.rows ∙ sym (map-append (λ (j : (PoolLock D)). j.passes) so_far.done (i ∷ []));
      lock_room = subst (λ (m : ℕ). length all ≤ m) (sym lock_room) so_far.lock_room;
      row_room = subst (λ (m : ℕ). length all ≤ m) (sym row_room) so_far.row_room;
      rest = same ∙ ap (λ (l : Lists D). with_pools l newer) so_far.rest;
    }

  pub pools_all : (all : List (PoolLock D)) (old new : Lists D) → ArePoolsPut all [] old new → PutsPools all old new
  pools_all all old new so_far =
      let same : all ≡ so_far.done = so_far.kept ∙ append-nil so_far.done in
      record {
        locks = so_far.locks ∙ ap (map (λ (i : (PoolLock D)). i.lock)) (sym same);
        rows = so_far.rows ∙ ap (map (λ (i : (PoolLock D)). i.passes)) (sym same);
        spindles = ap (λ (l : Lists D). l.shared.spindles) so_far.rest;
        keepers = ap (λ (l : Lists D). l.keepers) so_far.rest;
        stations = ap (λ (l : Lists D). l.stations) so_far.rest;
        passes = ap (λ (l : Lists D). l.passes) so_far.rest;
        spindle_rooms = ap (λ (l : Lists D). l.rooms.spindles) so_far.rest;
        managers = ap (λ (l : Lists D). l.rooms.managers) so_far.rest;
        closed = ap (λ (l : Lists D). l.rooms.closed) so_far.rest;
      }

-- ---- Rows are dealt

-- nothing comes from an empty list
pub popped_none : {T : Type 0} (o : Option T) (m n : ℕ) → MatchOption o ((n ≡ 0) × (m ≡ 0)) (λ _. m + 1 ≡ n) → n ≡ 0 → o ≡ None
popped_none None m n cases none = refl
popped_none (Some x) m n cases none = absurd (omega (arith, cases, none))

-- the first rows lost their last elements, which stand in places
pub record IsDealtTo {T : Type 0} (old new : List (Vec T Global)) (places : List (Option T)) (n : ℕ) : Type 0 where
  pub count : length new ≡ length old
  pub so_far : places ≡ map last_of (take n old)
  pub popped : (k : ℕ) (d : Vec T Global) → k < n → (slice_index_or new k d).items ≡ take (length (slice_index_or old k d).items - 1) (slice_index_or old k d).items
  pub rooms : (k : ℕ) (d : Vec T Global) → k < n → vec_capacity (slice_index_or new k d) ≡ vec_capacity (slice_index_or old k d)
  pub left : (k : ℕ) (d : Vec T Global) → n ≤ k → slice_index_or new k d ≡ slice_index_or old k d

module _ {T : Type 0} where
  pub dealt_next : (old new : List (Vec T Global)) (places newer_places : List (Option T)) (n : ℕ) (was now : Vec T Global) (last : Option T) → IsDealtTo old new places n → n < length old
      → was ≡ slice_index_or new n was → ((d : T) → 0 < vec_len was → last ≡ Some (slice_index_or was.items (vec_len was - 1) d)) → (vec_len was ≡ 0 → last ≡ None) → now.items ≡ take (vec_len was - 1) was.items → vec_capacity now ≡ vec_capacity was
      → newer_places ≡ places ++ last ∷ [] → IsDealtTo old (slice_set new n now) newer_places (n + 1)
  dealt_next old new places newer_places n was now last so_far within at value none rest capacity pushed =
      let in_new : n < length new = omega (arith, within, so_far.count) in
      let same : (d : Vec T Global) → was ≡ slice_index_or old n d = λ d. get_or_read new n was in_new at d ∙ so_far.left n d (omega arith) in
      let len : vec_len was ≡ length was.items = was.ok.0 in
      let last_is : last ≡ last_of was = last_known was last value none in
      record {
        count = length-set new n now ∙ so_far.count;
        so_far = pushed ∙ ap (λ (l : List (Option T)). l ++ last ∷ []) so_far.so_far ∙ ap (λ (o : Option T). map last_of (take n old) ++ o ∷ []) (last_is ∙ ap last_of (same was))
            ∙ sym (map_more last_of old n was within);
        popped = λ k d lt. ⊎_elim
            (λ e. ap (λ (j : ℕ). (slice_index_or (slice_set new n now) j d).items) e ∙ ap (λ (v : Vec T Global). v.items) (get_or-set_same new n now d in_new) ∙ rest
            ∙ ap (λ (m : ℕ). take (m - 1) was.items) len ∙ ap (λ (v : Vec T Global). take (length v.items - 1) v.items) (same d ∙ sym (ap (λ (j : ℕ). slice_index_or old j d) e)))
            (λ other. ap (λ (v : Vec T Global). v.items) (get_or-set_other new n k now d other) ∙ so_far.popped k d (omega (arith, lt, other)))
            (cases_eq k n);
        rooms = λ k d lt. ⊎_elim
            (λ e. ap (λ (j : ℕ). vec_capacity (slice_index_or (slice_set new n now) j d)) e ∙ ap (λ (v : Vec T Global). vec_capacity v) (get_or-set_same new n now d in_new) ∙ capacity
            ∙ ap (λ (v : Vec T Global). vec_capacity v) (same d ∙ sym (ap (λ (j : ℕ). slice_index_or old j d) e)))
            (λ other. ap (λ (v : Vec T Global). vec_capacity v) (get_or-set_other new n k now d other) ∙ so_far.rooms k d (omega (arith, lt, other)))
            (cases_eq k n);
        left = λ k d behind. get_or-set_other new n k now d (λ e. absurd (omega (arith, e, behind))) ∙ so_far.left k d (omega (arith, behind));
      }
    where
      last_known : (v : Vec T Global) (o : Option T) → ((d : T) → 0 < vec_len v → o ≡ Some (slice_index_or v.items (vec_len v - 1) d)) → (vec_len v ≡ 0 → o ≡ None) → o ≡ last_of v
      last_known v o some none = ⊎_elim
          (λ zero_len. none zero_len ∙ sym (slice_get_past v.items (length v.items - 1) (omega (arith, zero_len, v.ok.0))))
          (λ more. let lt : 0 < vec_len v = omega (arith, more) in by_first v.items (omega (arith, lt, v.ok.0)) (λ d. some d lt) v.ok.0)
          (cases_eq (vec_len v) 0)
        where
          by_first : (xs : List T) → 0 < length xs → ((d : T) → o ≡ Some (slice_index_or xs (vec_len v - 1) d)) → vec_len v ≡ length xs → o ≡ slice_get xs (length xs - 1)
          by_first [] lt is len = absurd (omega (arith, lt))
          by_first (x ∷ xs) lt is len = is x ∙ ap (λ (m : ℕ). Some (slice_index_or (x ∷ xs) (m - 1) x)) len ∙ sym (slice_get-get_or (x ∷ xs) (length (x ∷ xs) - 1) x (omega arith))

-- ---- The passes are dealt, and the rack is set

-- each row has so many elements left, and the room that it had
pub record AreCut {T : Type 0} (n : ℕ) (old new : List (Vec T Global)) : Type 0 where
  pub count : length new ≡ length old
  pub each : (k : ℕ) (d : Vec T Global) → k < length old → (slice_index_or new k d).items ≡ take n (slice_index_or old k d).items
  pub rooms : (k : ℕ) (d : Vec T Global) → k < length old → vec_capacity (slice_index_or new k d) ≡ vec_capacity (slice_index_or old k d)

module _ {T : Type 0} where
  pub cut_none : (n : ℕ) (rows : List (Vec T Global)) → All (λ row. length row.items ≡ n) rows → AreCut n rows rows
  cut_none n rows sizes = record {
    count = refl;
    each = λ k d within. sym (take_all n (slice_index_or rows k d).items (let s = sizes k d within in omega (arith, s)));
    rooms = λ k d within. refl;
  }

  cut_length : (n m : ℕ) (old new : List (Vec T Global)) (k : ℕ) (d : Vec T Global) → AreCut (n + 1) old new → All (λ row. length row.items ≡ m) old → n < m → k < length old → length (slice_index_or new k d).items ≡ n + 1
  cut_length n m old new k d cut sizes lt within =
      let e = ap length (cut.each k d within) in let t = length-take (n + 1) (slice_index_or old k d).items in let s = sizes k d within in
      omega (arith, e, t, s, lt)

  pub get_take : (xs : List T) (n i : ℕ) → i < n → slice_get (take n xs) i ≡ slice_get xs i
  get_take xs zero i lt = absurd (omega (arith, lt))
  get_take [] (suc n) i lt = refl
  get_take (x ∷ xs) (suc n) zero lt = refl
  get_take (x ∷ xs) (suc n) (suc i) lt = get_take xs n i (omega (arith, lt))

  -- what is dealt from rows of which n + 1 are left is the element at n
  pub dealt_is : (n m : ℕ) (old new : List (Vec T Global)) → AreCut (n + 1) old new → All (λ row. length row.items ≡ m) old → n < m → map last_of new ≡ map (λ (row : Vec T Global). slice_get row.items n) old
  dealt_is n m old new cut sizes lt = map_same last_of (λ (row : Vec T Global). slice_get row.items n) new old cut.count one
    where
      one : (k : ℕ) (d : Vec T Global) → k < length new → last_of (slice_index_or new k d) ≡ slice_get (slice_index_or old k d).items n
      one k d within =
          let lt_old : k < length old = omega (arith, within, cut.count) in
          let len : length (slice_index_or new k d).items ≡ n + 1 = cut_length n m old new k d cut sizes lt lt_old in
          let at : length (slice_index_or new k d).items - 1 ≡ n = omega (arith, len) in
          ap (slice_get (slice_index_or new k d).items) at ∙ ap (λ (l : List T). slice_get l n) (cut.each k d lt_old) ∙ get_take (slice_index_or old k d).items (n + 1) n (omega arith)

  pub cut_next : (n m : ℕ) (old new newer : List (Vec T Global)) → AreCut (n + 1) old new → All (λ row. length row.items ≡ m) old → n < m → ArePopped new newer → AreCut n old newer
  cut_next n m old new newer cut sizes lt popped = record {
    count = popped.count ∙ cut.count;
    each = λ k d within.
        let in_new : k < length new = omega (arith, within, cut.count) in
        let len : length (slice_index_or new k d).items ≡ n + 1 = cut_length n m old new k d cut sizes lt within in
        let at : length (slice_index_or new k d).items - 1 ≡ n = omega (arith, len) in
        popped.each k d in_new ∙ ap (λ (j : ℕ). take j (slice_index_or new k d).items) at ∙ ap (take n) (cut.each k d within) ∙ take-take n (n + 1) (slice_index_or old k d).items (omega arith);
    rooms = λ k d within. popped.rooms k d (omega (arith, within, cut.count)) ∙ cut.rooms k d within;
  }

  pub cut_all : (old new : List (Vec T Global)) → AreCut 0 old new → AreEmptied old new
  cut_all old new cut = record {
    count = cut.count;
    empty = λ k d within. cut.each k d (omega (arith, within, cut.count));
    rooms = cut.rooms;
  }

abbrev pub PoolPass : Type 0 → Type 0
PoolPass D = PassOf (Pool (FreeSegment D)) PoolBase

abbrev pub pools_at : {D : Type 0} → List (Vec (PassOf (Pool (FreeSegment D)) PoolBase) Global) → ℕ → List (Option (PassOf (Pool (FreeSegment D)) PoolBase))
pools_at {D} rows v = map (λ (row : Vec (PassOf (Pool (FreeSegment D)) PoolBase) Global). slice_get row.items v) rows

abbrev pub spindles_at : List (Vec SpindlePass Global) → ℕ → List (Option SpindlePass)
spindles_at rows v = map (λ (row : Vec SpindlePass Global). slice_get row.items v) rows

module _ {D : Type 0} where
  -- nothing changed but the passes
  abbrev with_passes : (old new : Lists D) → Lists D
  with_passes old new = record old { passes = new.passes; rooms = record old.rooms { pools = new.rooms.pools; spindles = new.rooms.spindles } }

  -- the volumes from `left` on have their passes
  pub record AreDealtDown (old new : Lists D) (left : ℕ) : Type 0 where
    pub within : left ≤ length old.passes.items
    pub count : length new.passes.items ≡ length old.passes.items
    pub pools : (v : ℕ) (p : VolumePasses D) → left ≤ v → slice_get new.passes.items v ≡ Some p → p.pools.items ≡ pools_at old.rooms.pools.items v
    pub spindles : (v : ℕ) (p : VolumePasses D) → left ≤ v → slice_get new.passes.items v ≡ Some p → p.spindles.items ≡ spindles_at old.rooms.spindles.items v
    pub held : (v : ℕ) (p q : VolumePasses D) → slice_get old.passes.items v ≡ Some p → slice_get new.passes.items v ≡ Some q → q.held ≡ p.held
    pub rest : (v : ℕ) (p : VolumePasses D) → v < left → slice_get new.passes.items v ≡ Some p → AreEmptyPasses (length old.passes.items) p
    pub pool_rows : AreCut left old.rooms.pools.items new.rooms.pools.items
    pub spindle_rows : AreCut left old.rooms.spindles.items new.rooms.spindles.items
    pub others : new ≡ with_passes old new

  pub dealt_down_none : (l : Lists D) (left : ℕ) → left ≡ length l.passes.items → CanDeal l → AreDealtDown l l left
  dealt_down_none l left is can = record {
    within = omega (arith, is);
    count = refl;
    pools = λ v p behind there. absurd (let w = slice_get_within l.passes.items v p there in omega (arith, w, behind, is));
    spindles = λ v p behind there. absurd (let w = slice_get_within l.passes.items v p there in omega (arith, w, behind, is));
    held = λ v p q was now. ap (λ (x : VolumePasses D). x.held) (same_Some q p (sym now ∙ was));
    rest = λ v p lt there. all_read (AreEmptyPasses (length l.passes.items)) l.passes.items v p there can.passes;
    pool_rows = subst (λ (n : ℕ). AreCut n l.rooms.pools.items l.rooms.pools.items) (sym is) (cut_none (length l.passes.items) l.rooms.pools.items can.pools);
    spindle_rows = subst (λ (n : ℕ). AreCut n l.rooms.spindles.items l.rooms.spindles.items) (sym is) (cut_none (length l.passes.items) l.rooms.spindles.items can.spindles);
    others = refl;
  }

  module _ (old new : Lists D) (left : ℕ) (can : CanDeal old) (until : AreDealtDown old new left) (some : 0 < left) (p : VolumePasses D) (p_is : p ≡ slice_index_or new.passes.items (left - 1) p) where
    abbrev volume : ℕ
    volume = left - 1

    down_to : AreDealtDown old new (volume + 1)
    down_to = let down : left ≡ volume + 1 = omega (arith, some) in subst (AreDealtDown old new) down until

    there_now : slice_get new.passes.items volume ≡ Some p
    there_now = slice_get_read new.passes.items (length new.passes.items) volume p refl (omega (arith, until.within, until.count, some)) p_is

    lt : volume < length old.passes.items
    lt = omega (arith, until.within, some)

    pub empty : AreEmptyPasses (length old.passes.items) p
    empty = down_to.rest volume p (omega arith) there_now

    pub pool_places : length new.rooms.pools.items ≤ vec_capacity p.pools
    pool_places = let e = empty.pools.1 in omega (arith, e, down_to.pool_rows.count, can.pool_count)

    pub spindle_places : length new.rooms.spindles.items ≤ vec_capacity p.spindles
    spindle_places = let e = empty.spindles.1 in omega (arith, e, down_to.spindle_rows.count, can.spindle_count)

    pub dealt_down_next : (newer : Lists D) (q : VolumePasses D) → newer.passes.items ≡ slice_set new.passes.items volume q → q.held ≡ p.held
        → q.pools.items ≡ map last_of new.rooms.pools.items → ArePopped new.rooms.pools.items newer.rooms.pools.items
        → q.spindles.items ≡ map last_of new.rooms.spindles.items → ArePopped new.rooms.spindles.items newer.rooms.spindles.items
        → newer ≡ with_passes new newer → AreDealtDown old newer volume
    dealt_down_next newer q set held pools pool_rows spindles spindle_rows same =
        let here : (v : ℕ) (x : VolumePasses D) → v ≡ volume → slice_get newer.passes.items v ≡ Some x → q ≡ x = λ v x e there.
        same_Some q x (sym (ap (λ (ps : List (VolumePasses D)). slice_get ps volume) set ∙ get_set new.passes.items volume p q there_now) ∙ ap (slice_get newer.passes.items) (sym e) ∙ there) in
        let far : (v : ℕ) (x : VolumePasses D) → v ≢ volume → slice_get newer.passes.items v ≡ Some x → slice_get new.passes.items v ≡ Some x = λ v x other there.
        sym (ap (λ (ps : List (VolumePasses D)). slice_get ps v) set ∙ get_other new.passes.items volume v q other) ∙ there in
        record {
          within = omega (arith, down_to.within);
          count = ap length set ∙ length-set new.passes.items volume q ∙ down_to.count;
          pools = λ v x behind there. ⊎_elim
              (λ e. ap (λ (y : VolumePasses D). y.pools.items) (sym (here v x e there)) ∙ pools ∙ dealt_is volume (length old.passes.items) old.rooms.pools.items new.rooms.pools.items down_to.pool_rows can.pools lt
              ∙ ap (pools_at old.rooms.pools.items) (sym e))
              (λ other. down_to.pools v x (omega (arith, behind, other)) (far v x other there))
              (cases_eq v volume);
          spindles = λ v x behind there. ⊎_elim
              (λ e. ap (λ (y : VolumePasses D). y.spindles.items) (sym (here v x e there)) ∙ spindles ∙ dealt_is volume (length old.passes.items) old.rooms.spindles.items new.rooms.spindles.items down_to.spindle_rows can.spindles lt
              ∙ ap (spindles_at old.rooms.spindles.items) (sym e))
              (λ other. down_to.spindles v x (omega (arith, behind, other)) (far v x other there))
              (cases_eq v volume);
          held = λ v x y was now. ⊎_elim
              (λ e. ap (λ (z : VolumePasses D). z.held) (sym (here v y e now)) ∙ held ∙ down_to.held volume x p (ap (slice_get old.passes.items) (sym e) ∙ was) there_now)
              (λ other. down_to.held v x y was (far v y other now))
              (cases_eq v volume);
          rest = λ v x below there. down_to.rest v x (omega (arith, below)) (far v x (λ e. absurd (omega (arith, e, below))) there);
          pool_rows = cut_next volume (length old.passes.items) old.rooms.pools.items new.rooms.pools.items newer.rooms.pools.items down_to.pool_rows can.pools lt pool_rows;
          spindle_rows = cut_next volume (length old.passes.items) old.rooms.spindles.items new.rooms.spindles.items newer.rooms.spindles.items down_to.spindle_rows can.spindles lt spindle_rows;
          others = same ∙ ap (λ (l : Lists D). with_passes l newer) down_to.others;
        }

  pub dealt_down_all : (old new : Lists D) → AreDealtDown old new 0 → Deals old new
  dealt_down_all old new so_far = record {
    count = so_far.count;
    pools = λ v p is. so_far.pools v p (omega arith) is;
    spindles = λ v p is. so_far.spindles v p (omega arith) is;
    held = so_far.held;
    pool_rows = cut_all old.rooms.pools.items new.rooms.pools.items so_far.pool_rows;
    spindle_rows = cut_all old.rooms.spindles.items new.rooms.spindles.items so_far.spindle_rows;
    shared = ap (λ (l : Lists D). l.shared) so_far.others;
    keepers = ap (λ (l : Lists D). l.keepers) so_far.others;
    stations = ap (λ (l : Lists D). l.stations) so_far.others;
    managers = ap (λ (l : Lists D). l.rooms.managers) so_far.others;
    closed = ap (λ (l : Lists D). l.rooms.closed) so_far.others;
  }

-- ---- The rack before a volume is opened

-- an element of a mapped list
map_read : {X Y : Type 0} (f : X → Y) (xs : List X) (k : ℕ) (x : X) (d : Y) → slice_get xs k ≡ Some x → slice_index_or (map f xs) k d ≡ f x
map_read f xs k x d is = get_or_from_slice_get (map f xs) k (f x) d (slice_get-map f xs k ∙ ap (option_map f) is)

module _ {D : Type 0} (n : ℕ) (pools : List (Issued (Pool (FreeSegment D)) PoolBase)) (a b : Lists D) (lists : AreLists n a) (pool_count : length pools ≡ n)
    (same_pools : b.shared.pools ≡ a.shared.pools) (same_rooms : b.rooms.pools ≡ a.rooms.pools) where
  pub pools_shared : (b.shared.pools.items ≡ []) × (length pools ≤ vec_capacity b.shared.pools)
  pools_shared = (
    ap (λ (v : Vec (TurnLock (Pool (FreeSegment D)) PoolBase) Global). v.items) same_pools ∙ lists.shared.pools.0,
    subst (λ (m : ℕ). m ≤ vec_capacity b.shared.pools) (sym pool_count) (subst (λ (m : ℕ). n ≤ m) (sym (ap (λ (v : Vec (TurnLock (Pool (FreeSegment D)) PoolBase) Global). vec_capacity v) same_pools)) lists.shared.pools.1),
  )

  pub pools_rooms : (b.rooms.pools.items ≡ []) × (length pools ≤ vec_capacity b.rooms.pools)
  pools_rooms = (
    ap (λ (v : Vec (Vec (PassOf (Pool (FreeSegment D)) PoolBase) Global) Global). v.items) same_rooms ∙ lists.rooms.pools.0,
    subst (λ (m : ℕ). m ≤ vec_capacity b.rooms.pools) (sym pool_count) (subst (λ (m : ℕ). n ≤ m) (sym (ap (λ (v : Vec (Vec (PassOf (Pool (FreeSegment D)) PoolBase) Global) Global). vec_capacity v) same_rooms)) lists.rooms.pools.1),
  )

module _ {D : Type 0} (spindles : List (Issued Spindle SpindleBase)) (pools : List (Issued (Pool (FreeSegment D)) PoolBase)) (a b c : Lists D)
    (lists : AreLists (length spindles) a) (spindle_sizes : All (λ (i : Issued Spindle SpindleBase). length i.passes.items ≡ length spindles + 1) spindles)
    (pool_count : length pools ≡ length spindles) (pool_sizes : All (λ (i : Issued (Pool (FreeSegment D)) PoolBase). length i.passes.items ≡ length spindles) pools)
    (puts : PutsSpindles spindles a b) (puts_pools : PutsPools pools b c) where
  abbrev n : ℕ
  n = length spindles

  abbrev PoolRow : Type 0
  PoolRow = Vec (PassOf (Pool (FreeSegment D)) PoolBase) Global

  abbrev SpindleRow : Type 0
  SpindleRow = Vec (PassOf Spindle SpindleBase) Global

  passes_same : c.passes ≡ a.passes
  passes_same = puts_pools.passes ∙ puts.passes

  count_is : length c.passes.items ≡ n
  count_is = ap (λ (v : Vec (VolumePasses D) Global). length v.items) passes_same ∙ lists.count

  spindle_rows : c.rooms.spindles.items ≡ b.rooms.spindles.items
  spindle_rows = ap (λ (v : Vec SpindleRow Global). v.items) puts_pools.spindle_rooms

  abbrev row_of : Issued (Pool (FreeSegment D)) PoolBase → PoolRow
  row_of i = i.passes

  pool_row_size : All (λ (row : PoolRow). length row.items ≡ n) (map row_of pools)
  pool_row_size k d within =
      let lt : k < length pools = let m = length-map pools row_of in omega (arith, within, m) in
      let i = element_at pools k lt in
      ap (λ (r : PoolRow). length r.items) (map_read row_of pools k i.0 d i.1) ∙ all_read (λ (j : Issued (Pool (FreeSegment D)) PoolBase). length j.passes.items ≡ n) pools k i.0 i.1 pool_sizes

  spindle_row_count : length b.rooms.spindles.items ≡ n
  spindle_row_count = zip_length (row_is n) spindles b.rooms.spindles.items puts.rows

  spindle_row_size : All (λ (row : SpindleRow). length row.items ≡ n) b.rooms.spindles.items
  spindle_row_size k d within =
      let i = element_at spindles k (omega (arith, within, spindle_row_count)) in
      let row = element_at b.rooms.spindles.items k within in
      let fact = zip_get (row_is n) spindles b.rooms.spindles.items k i.0 row.0 i.1 row.1 puts.rows in
      let size = all_read (λ (j : Issued Spindle SpindleBase). length j.passes.items ≡ n + 1) spindles k i.0 i.1 spindle_sizes in
      let len = length-take n i.0.passes.items in
      ap (λ (r : SpindleRow). length r.items) (get_or_from_slice_get b.rooms.spindles.items k row.0 d row.1) ∙ ap length fact.0 ∙ (omega (arith, len, size))

  pub can_deal : CanDeal c
  can_deal = record {
    pools = subst (λ (l : List PoolRow). All (λ (row : PoolRow). length row.items ≡ length c.passes.items) l) (sym puts_pools.rows)
        (subst (λ (m : ℕ). All (λ (row : PoolRow). length row.items ≡ m) (map row_of pools)) (sym count_is) pool_row_size);
    pool_count = ap length puts_pools.rows ∙ length-map pools row_of ∙ pool_count ∙ sym count_is;
    spindles = subst (λ (l : List SpindleRow). All (λ (row : SpindleRow). length row.items ≡ length c.passes.items) l) (sym spindle_rows)
        (subst (λ (m : ℕ). All (λ (row : SpindleRow). length row.items ≡ m) b.rooms.spindles.items) (sym count_is) spindle_row_size);
    spindle_count = ap length spindle_rows ∙ spindle_row_count ∙ sym count_is;
    passes = subst (λ (m : ℕ). All (AreEmptyPasses m) c.passes.items) (sym count_is) (subst (λ (v : Vec (VolumePasses D) Global). All (AreEmptyPasses n) v.items) (sym passes_same) lists.passes);
  }

  module _ (d : Lists D) (deals : Deals c d) (r : Rack D) (shared : r.shared ≡ d.shared) (keepers : r.keepers ≡ d.keepers) (stations : r.stations ≡ d.stations)
      (passes : r.rest.passes ≡ d.passes) (rooms : r.rest.rooms ≡ d.rooms) where
    rows_are : r.rest.passes.items ≡ d.passes.items
    rows_are = ap (λ (v : Vec (VolumePasses D) Global). v.items) passes

    row_count : length r.rest.passes.items ≡ n
    row_count = ap length rows_are ∙ deals.count ∙ count_is

    row_at : (v : ℕ) → v < n → (p : VolumePasses D) × (slice_get r.rest.passes.items v ≡ Some p)
    row_at v lt = element_at r.rest.passes.items v (omega (arith, lt, row_count))

    in_d : (v : ℕ) (p : VolumePasses D) → slice_get r.rest.passes.items v ≡ Some p → slice_get d.passes.items v ≡ Some p
    in_d v p is = ap (λ (l : List (VolumePasses D)). slice_get l v) (sym rows_are) ∙ is

    was : (v : ℕ) (p : VolumePasses D) → slice_get d.passes.items v ≡ Some p → (o : VolumePasses D) × (slice_get c.passes.items v ≡ Some o) × (p.held ≡ o.held) × AreEmptyPasses n o
    was v p is =
        let o = element_at c.passes.items v (let w = slice_get_within d.passes.items v p is in omega (arith, w, deals.count)) in
        (o.0, o.1, deals.held v o.0 p o.1 is, subst (λ (m : ℕ). AreEmptyPasses m o.0) count_is (all_read (AreEmptyPasses (length c.passes.items)) c.passes.items v o.0 o.1 can_deal.passes))

    row_size : (v : ℕ) (p : VolumePasses D) → slice_get d.passes.items v ≡ Some p → IsRow n p
    row_size v p is =
        let o = was v p is in
        record {
          pools = ap length (deals.pools v p is) ∙ length-map c.rooms.pools.items (λ (row : PoolRow). slice_get row.items v) ∙ can_deal.pool_count ∙ count_is;
          spindles = ap length (deals.spindles v p is) ∙ length-map c.rooms.spindles.items (λ (row : SpindleRow). slice_get row.items v) ∙ can_deal.spindle_count ∙ count_is;
          held = ap (λ (l : Vec (Vec (ℕ × Spun D) Global) Global). length l.items) o.2 ∙ o.3.held_count;
        }

    none_held : (v k : ℕ) → held_here r.rest v k ≡ []
    none_held v k = by_row (slice_get r.rest.passes.items v) refl
      where
        by_list : (o : VolumePasses D) → AreEmptyPasses n o → (l : Option (Vec (ℕ × Spun D) Global)) → slice_get o.held.items k ≡ l → list_of l ≡ []
        by_list o empty None is = refl
        by_list o empty (Some l) is = all_read (λ (x : Vec (ℕ × Spun D) Global). x.items ≡ []) o.held.items k l is empty.held

        by_row : (o : Option (VolumePasses D)) → slice_get r.rest.passes.items v ≡ o → list_of (option_and_then (λ (p : VolumePasses D). slice_get p.held.items k) o) ≡ []
        by_row None is = refl
        by_row (Some p) is =
            let o = was v p (in_d v p is) in
            ap list_of (ap (λ (l : Vec (Vec (ℕ × Spun D) Global) Global). slice_get l.items k) o.2) ∙ by_list o.0 o.3 (slice_get o.0.held.items k) refl

    rooms_are : AreRooms n 0 r.rest.rooms
    rooms_are = subst (AreRooms n 0) (sym rooms) (record {
      pool_count = deals.pool_rows.count ∙ can_deal.pool_count ∙ count_is;
      pools = λ k e within.
          let in_c : k < length c.rooms.pools.items = omega (arith, within, deals.pool_rows.count) in
          let size = can_deal.pools k e in_c in
          let cap = (slice_index_or c.rooms.pools.items k e).ok.1 in let len = (slice_index_or c.rooms.pools.items k e).ok.0 in
          let same = deals.pool_rows.rooms k e in_c in
          (deals.pool_rows.empty k e within, omega (arith, size, cap, len, same, count_is));
      spindle_count = deals.spindle_rows.count ∙ can_deal.spindle_count ∙ count_is;
      spindles = λ k e within.
          let in_c : k < length c.rooms.spindles.items = omega (arith, within, deals.spindle_rows.count) in
          let in_b : k < length b.rooms.spindles.items = subst (λ (l : List SpindleRow). k < length l) spindle_rows in_c in
          let i = element_at spindles k (omega (arith, in_b, spindle_row_count)) in
          let row = element_at b.rooms.spindles.items k in_b in
          let fact = zip_get (row_is n) spindles b.rooms.spindles.items k i.0 row.0 i.1 row.1 puts.rows in
          let same = deals.spindle_rows.rooms k e in_c in
          let at : slice_index_or c.rooms.spindles.items k e ≡ row.0 = ap (λ (l : List SpindleRow). slice_index_or l k e) spindle_rows ∙ get_or_from_slice_get b.rooms.spindles.items k row.0 e row.1 in
          (deals.spindle_rows.empty k e within, subst (λ (m : ℕ). n + 1 ≤ m) (sym (same ∙ ap (λ (x : SpindleRow). vec_capacity x) at)) fact.1);
      manager_count = ap (λ (v : Vec (Vec (PassOf (Manager D) ManagerBase) Global) Global). length v.items) managers_same ∙ ap length lists.rooms.managers.0;
      managers = subst (λ (l : List (Vec (PassOf (Manager D) ManagerBase) Global)). All (λ (row : Vec (PassOf (Manager D) ManagerBase) Global). (row.items ≡ []) × (3 ≤ vec_capacity row)) l) (sym (ap (λ (v : Vec (Vec (PassOf (Manager D) ManagerBase) Global) Global). v.items) managers_same ∙ lists.rooms.managers.0)) (All-nil (λ (row : Vec (PassOf (Manager D) ManagerBase) Global). (row.items ≡ []) × (3 ≤ vec_capacity row)));
      closed = subst (λ (v : Vec Spindle Global). (v.items ≡ []) × (n ≤ vec_capacity v)) (sym (deals.closed ∙ puts_pools.closed ∙ puts.closed)) lists.rooms.closed;
    })
      where
        managers_same : d.rooms.managers ≡ a.rooms.managers
        managers_same = deals.managers ∙ puts_pools.managers ∙ puts.managers

    pub set_up : IsSetUp spindles pools n r
    set_up = record {
      pool_locks = ap (λ (x : Shared D). x.pools.items) (shared ∙ deals.shared) ∙ puts_pools.locks;
      spindle_locks = ap (λ (x : Shared D). x.spindles.items) (shared ∙ deals.shared) ∙ ap (λ (v : Vec (TurnLock Spindle SpindleBase) Global). v.items) puts_pools.spindles ∙ puts.locks;
      keeper_count = ap (λ (v : Vec (PassOf Spindle SpindleBase) Global). length v.items) keepers_same ∙ zip_length (keeper_is n) spindles b.keepers.items puts.keepers;
      keepers = λ k i is.
          let p = element_at b.keepers.items k (let w = slice_get_within spindles k i is in let z = zip_length (keeper_is n) spindles b.keepers.items puts.keepers in omega (arith, w, z)) in
          ap (λ (v : Vec (PassOf Spindle SpindleBase) Global). slice_get v.items k) keepers_same ∙ p.1 ∙ sym (zip_get (keeper_is n) spindles b.keepers.items k i p.0 is p.1 puts.keepers);
      stations = subst (λ (v : Vec (Station D) Global). (v.items ≡ []) × (n ≤ vec_capacity v)) (sym (stations ∙ deals.stations ∙ puts_pools.stations ∙ puts.stations)) lists.stations;
      count = row_count;
      rows = λ v e within. let p = row_at v (omega (arith, within, row_count)) in
          subst (IsRow n) (sym (get_or_from_slice_get r.rest.passes.items v p.0 e p.1)) (row_size v p.0 (in_d v p.0 p.1));
      pool_passes = λ v k i lt is.
          let p = row_at v lt in
          ap (option_and_then (λ (q : VolumePasses D). slice_index_or q.pools.items k None)) p.1
          ∙ ap (λ (l : List (Option (PassOf (Pool (FreeSegment D)) PoolBase))). slice_index_or l k None) (deals.pools v p.0 (in_d v p.0 p.1) ∙ ap (map (λ (row : PoolRow). slice_get row.items v)) puts_pools.rows)
          ∙ map_read (λ (row : PoolRow). slice_get row.items v) (map row_of pools) k i.passes None (slice_get-map row_of pools k ∙ ap (option_map row_of) is);
      spindle_passes = λ v k i lt is.
          let p = row_at v lt in
          let row = element_at b.rooms.spindles.items k (let w = slice_get_within spindles k i is in omega (arith, w, spindle_row_count)) in
          let fact = zip_get (row_is n) spindles b.rooms.spindles.items k i row.0 is row.1 puts.rows in
          ap (option_and_then (λ (q : VolumePasses D). slice_index_or q.spindles.items k None)) p.1
          ∙ ap (λ (l : List (Option (PassOf Spindle SpindleBase))). slice_index_or l k None) (deals.spindles v p.0 (in_d v p.0 p.1) ∙ ap (map (λ (x : SpindleRow). slice_get x.items v)) spindle_rows)
          ∙ map_read (λ (x : SpindleRow). slice_get x.items v) b.rooms.spindles.items k row.0 None row.1
          ∙ ap (λ (l : List (PassOf Spindle SpindleBase)). slice_get l v) fact.0 ∙ get_take i.passes.items n v lt;
      held = none_held;
      rooms = rooms_are;
      managers = subst (λ (x : Rooms D). n ≤ vec_capacity x.managers) (sym rooms) (subst (λ (v : Vec (Vec (PassOf (Manager D) ManagerBase) Global) Global). n ≤ vec_capacity v) (sym (deals.managers ∙ puts_pools.managers ∙ puts.managers)) lists.rooms.managers.1);
    }
      where
        keepers_same : r.keepers ≡ b.keepers
        keepers_same = keepers ∙ deals.keepers ∙ puts_pools.keepers
