-- A row of passes changes at one place: a lane, or the pass of a home, goes out or comes back.
use Rattle.rack_parts.proofs.Basics.{◌≡◌, ◌≢◌, ◌<◌, ℕ, List, length, Option, None, Some, option_and_then, ⊎_elim, sym, ap, subst, ◌∙◌, [], refl, arith, ◌∷◌, ◌++◌, All, slice_get}
use Rattle.rack_parts.proofs.Basics.{slice_set, slice_index_or, AllPairs, option_map, cases_eq, length-set, get_or-set_same, get_or-set_other, get_or_append_left, All-push}
use Rattle.rack_parts.proofs.Basics.{All-weaker, slice_get_read, get_or_push, length_push, get_or_read, All-set, All-nil, All-cons, All-head, set-set, set-get_or, slice_get_within}
use Rattle.rack_parts.proofs.Basics.{get_or_from_slice_get, slice_get-get_or, slice_get-map, Global, Vec, with_item}
use Rattle.rack_parts.proofs.Terms.{get_set, get_other, IsRow, pool_pass, spindle_pass, held_here, list_of, image_here, KeepsPlace, KeepsRows, HasPlace, PutsLane, held_parts}
use Rattle.rack_parts.proofs.Terms.{IsBarePlace, HasBack, PutsLanes, CanPutLanes, ChangesHome, with_home, TakesPasses, IsSameRest, segments_of, segment_count, Rest, VolumePasses}
use Rattle.rack_parts.proofs.Terms.{PassOf, Spindle, SpindleBase, Spun, PoolBase, Pool, FreeSegment, logger_of, pool_of, spindle_of, IsLane, taken_in, Lane, State, ImageRest}
use Rattle.rack_parts.proofs.Terms.{Config, VolumeConf, shape_in}
use Rattle.rack_parts.proofs.Members.{all_last, all_front}

-- ---- A row of passes is changed at one place

-- what a list shows at each place after one element changed
pub at_changed : {X Y : Type 0} (f : X → Option Y) (xs ys : List X) (i : ℕ) (x y : X) → slice_get xs i ≡ Some x → ys ≡ slice_set xs i y → (j : ℕ) → (j ≡ i → f y ≡ f x)
    → option_and_then f (slice_get ys j) ≡ option_and_then f (slice_get xs j)
at_changed {X} {Y} f xs ys i x y is set j same = ap (λ (l : List X). option_and_then f (slice_get l j)) set ∙ ⊎_elim
    (λ e. rw e (ap (option_and_then f) (get_set xs i x y is) ∙ same e ∙ sym (ap (option_and_then f) is)))
    (λ other. ap (option_and_then f) (get_other xs i j y other))
    (cases_eq j i)

-- a fact of each element, at one that is read
pub all_read : {X : Type 0} (P : X → Type 0) (xs : List X) (i : ℕ) (x : X) → slice_get xs i ≡ Some x → All P xs → P x
all_read P xs i x is all = subst P (get_or_from_slice_get xs i x x is) (all i x (slice_get_within xs i x is))

module _ {D : Type 0} where
  -- two rows differ at one place alone
  pub record IsRowBut (old new : VolumePasses D) (k : ℕ) : Type 0 where
    pub pools : (j : ℕ) → j ≢ k → slice_index_or new.pools.items j None ≡ slice_index_or old.pools.items j None
    pub spindles : (j : ℕ) → j ≢ k → slice_index_or new.spindles.items j None ≡ slice_index_or old.spindles.items j None
    pub held : (j : ℕ) → j ≢ k → slice_get new.held.items j ≡ slice_get old.held.items j
    pub sizes : (length new.pools.items ≡ length old.pools.items) × (length new.spindles.items ≡ length old.spindles.items) × (length new.held.items ≡ length old.held.items)

  -- what became of a rest in which one row changed at one place
  pub record IsRestButPlace (old new : Rest D) (v k : ℕ) (row : VolumePasses D) : Type 0 where
    pub rows : KeepsRows old new
    pub pool : pool_pass new v k ≡ slice_index_or row.pools.items k None
    pub spindle : spindle_pass new v k ≡ slice_index_or row.spindles.items k None
    pub held : held_here new v k ≡ list_of (slice_get row.held.items k)
    pub others : (w j : ℕ) → (w ≡ v → j ≢ k) → KeepsPlace old new w j

  -- a row that was read is there, and a place of it has its size
  pub row_is : (r : Rest D) (v k : ℕ) (row : VolumePasses D) → HasPlace r v k → row ≡ slice_index_or r.passes.items v row → slice_get r.passes.items v ≡ Some row
  row_is r v k row place read = slice_get_read r.passes.items (length r.passes.items) v row refl place.row read

  pub size_of : (r : Rest D) (v k : ℕ) (row : VolumePasses D) → HasPlace r v k → row ≡ slice_index_or r.passes.items v row → (n : ℕ) × IsRow n row × (k < n)
  size_of r v k row place read = (place.volumes, all_read (λ (p : VolumePasses D). IsRow place.volumes p) r.passes.items v row (row_is r v k row place read) place.rows, place.within)

  pub place_in : (r : Rest D) (v k n : ℕ) (row : VolumePasses D) → HasPlace r v k → row ≡ slice_index_or r.passes.items v row → n ≡ k → (n < row.pools.len) × (n < row.spindles.len) × (n < row.held.len)
  place_in r v k n row place read same =
      let size = size_of r v k row place read in
      (omega (arith, size.1.pools, size.2, same, row.pools.ok.0), omega (arith, size.1.spindles, size.2, same, row.spindles.ok.0), omega (arith, size.1.held, size.2, same, row.held.ok.0))

  pub row_set : (old new : Rest D) (v k : ℕ) (row changed : VolumePasses D) → HasPlace old v k → row ≡ slice_index_or old.passes.items v row → new.passes.items ≡ slice_set old.passes.items v changed
      → IsRowBut row changed k → IsRestButPlace old new v k changed
  row_set old new v k row changed place read set but =
      let is = row_is old v k row place read in
      let there : slice_get new.passes.items v ≡ Some changed = ap (λ (ps : List (VolumePasses D)). slice_get ps v) set ∙ get_set old.passes.items v row changed is in
      record {
        rows = record {
          count = ap length set ∙ length-set old.passes.items v changed;
          rows = λ n all.
              let size = all_read (λ (p : VolumePasses D). IsRow n p) old.passes.items v row is all in
              subst (All (λ (p : VolumePasses D). IsRow n p)) (sym set) (All-set (λ (p : VolumePasses D). IsRow n p) old.passes.items v changed
              (record { pools = but.sizes.0 ∙ size.pools; spindles = but.sizes.1 ∙ size.spindles; held = but.sizes.2 ∙ size.held }) all);
        };
        pool = ap (option_and_then (λ (p : VolumePasses D). slice_index_or p.pools.items k None)) there;
        spindle = ap (option_and_then (λ (p : VolumePasses D). slice_index_or p.spindles.items k None)) there;
        held = ap list_of (ap (option_and_then (λ (p : VolumePasses D). slice_get p.held.items k)) there);
        others = λ w j other. record {
          pool = at_changed (λ (p : VolumePasses D). slice_index_or p.pools.items j None) old.passes.items new.passes.items v row changed is set w (λ same. but.pools j (other same));
          spindle = at_changed (λ (p : VolumePasses D). slice_index_or p.spindles.items j None) old.passes.items new.passes.items v row changed is set w (λ same. but.spindles j (other same));
          held = ap list_of (at_changed (λ (p : VolumePasses D). slice_get p.held.items j) old.passes.items new.passes.items v row changed is set w (λ same. but.held j (other same)));
        };
      }

  -- what was read at a place of a row is what the rest has there
  pub pool_found : (r : Rest D) (v k n : ℕ) (row : VolumePasses D) (was : Option (PassOf (Pool (FreeSegment D)) PoolBase)) → HasPlace r v k → row ≡ slice_index_or r.passes.items v row → n ≡ k → was ≡ slice_index_or row.pools.items n was → was ≡ pool_pass r v k
  pool_found r v k n row was place read same found =
      let size = size_of r v k row place read in
      get_or_read row.pools.items n was (omega (arith, size.1.pools, size.2, same)) found None ∙ ap (λ (i : ℕ). slice_index_or row.pools.items i None) same
      ∙ sym (ap (option_and_then (λ (p : VolumePasses D). slice_index_or p.pools.items k None)) (row_is r v k row place read))

  pub spindle_found : (r : Rest D) (v k n : ℕ) (row : VolumePasses D) (was : Option (PassOf Spindle SpindleBase)) → HasPlace r v k → row ≡ slice_index_or r.passes.items v row → n ≡ k → was ≡ slice_index_or row.spindles.items n was → was ≡ spindle_pass r v k
  spindle_found r v k n row was place read same found =
      let size = size_of r v k row place read in
      get_or_read row.spindles.items n was (omega (arith, size.1.spindles, size.2, same)) found None ∙ ap (λ (i : ℕ). slice_index_or row.spindles.items i None) same
      ∙ sym (ap (option_and_then (λ (p : VolumePasses D). slice_index_or p.spindles.items k None)) (row_is r v k row place read))

  pub held_found : (r : Rest D) (v k n : ℕ) (row : VolumePasses D) (list : Vec (ℕ × Spun D) Global) → HasPlace r v k → row ≡ slice_index_or r.passes.items v row → n ≡ k → list ≡ slice_index_or row.held.items n list
      → (slice_get row.held.items k ≡ Some list) × (held_here r v k ≡ list.items)
  held_found r v k n row list place read same found =
      let size = size_of r v k row place read in
      let at : slice_get row.held.items k ≡ Some list = ap (slice_get row.held.items) (sym same) ∙ slice_get_read row.held.items (length row.held.items) n list refl (omega (arith, size.1.held, size.2, same)) found in
      (at, ap list_of (ap (option_and_then (λ (p : VolumePasses D). slice_get p.held.items k)) (row_is r v k row place read) ∙ at))

-- ---- A lane comes back to its place

module _ {D : Type 0} where
  -- a row with these at place k
  abbrev pub row_with : VolumePasses D → (k : ℕ) → Option (PassOf (Pool (FreeSegment D)) PoolBase) → Option (PassOf Spindle SpindleBase) → Vec (ℕ × Spun D) Global → VolumePasses D
  row_with row k pool spindle held = record { pools = with_item row.pools k pool; spindles = with_item row.spindles k spindle; held = with_item row.held k held }

  pub lane_put : (r : Rest D) (v : ℕ) (row : VolumePasses D) (l : Lane D) (k : ℕ) (pool : Option (PassOf (Pool (FreeSegment D)) PoolBase)) (spindle : Option (PassOf Spindle SpindleBase)) (held : Vec (ℕ × Spun D) Global)
      → k ≡ logger_of l → HasPlace r v (logger_of l) → row ≡ slice_index_or r.passes.items v row → pool ≡ Some (pool_of l) → spindle ≡ Some (spindle_of l) → held.items ≡ held_parts l
      → PutsLane r (record { images = r.images; passes = with_item r.passes v (row_with row k pool spindle held); rooms = r.rooms }) v l
  lane_put r v row l k pool spindle held logger place read pool_is spindle_is held_is =
      let new : Rest D = record { images = r.images; passes = with_item r.passes v (row_with row k pool spindle held); rooms = r.rooms } in
      let at = subst (HasPlace r v) (sym logger) place in
      let size = size_of r v k row at read in
      let done = row_set r new v k row (row_with row k pool spindle held) at read refl (search (get_or-set_other, get_other, length-set)) in
      record {
        images = refl;
        rooms = refl;
        rows = done.rows;
        back = record {
          pool = ap (pool_pass new v) (sym logger) ∙ done.pool ∙ get_or-set_same row.pools.items k pool None (omega (arith, size.1.pools, size.2)) ∙ pool_is;
          spindle = ap (spindle_pass new v) (sym logger) ∙ done.spindle ∙ get_or-set_same row.spindles.items k spindle None (omega (arith, size.1.spindles, size.2)) ∙ spindle_is;
          held = ap (held_here new v) (sym logger) ∙ done.held
              ∙ ap list_of (get_set row.held.items k (slice_index_or row.held.items k held) held (slice_get-get_or row.held.items k held (omega (arith, size.1.held, size.2)))) ∙ held_is;
        };
        others = λ w j other. done.others w j (λ same e. other same (e ∙ logger));
      }

-- ---- Lanes come back one after another

module _ {X : Type 0} where
  pub all_both : (P Q R : X → Type 0) (xs : List X) → ((x : X) → P x → Q x → R x) → All P xs → All Q xs → All R xs
  all_both P Q R xs both p q k d within = both (slice_index_or xs k d) (p k d within) (q k d within)

  -- each but the last is apart from the last
  pub pairs_last : (R : X → X → Type 0) (xs : List X) (x : X) → AllPairs R (xs ++ x ∷ []) → All (λ y. R y x) xs
  pairs_last R xs x pairs k d within =
      let behind : length xs < length (xs ++ x ∷ []) = omega (arith, length_push xs x) in
      subst (R (slice_index_or xs k d)) (get_or_push xs x d (length xs) refl)
      (subst (λ (y : X). R y (slice_index_or (xs ++ x ∷ []) (length xs) d)) (get_or_append_left xs (x ∷ []) d k within) (pairs k (length xs) d within behind))

  pub pairs_front : (R : X → X → Type 0) (xs : List X) (x : X) → AllPairs R (xs ++ x ∷ []) → AllPairs R xs
  pairs_front R xs x pairs i j d before within =
      let first : i < length xs = omega (arith, before, within) in
      let in_all : j < length (xs ++ x ∷ []) = omega (arith, within, length_push xs x) in
      subst (R (slice_index_or xs i d)) (get_or_append_left xs (x ∷ []) d j within)
      (subst (λ (y : X). R y (slice_index_or (xs ++ x ∷ []) j d)) (get_or_append_left xs (x ∷ []) d i first) (pairs i j d before in_all))

module _ {D : Type 0} where
  pub keeps_same : (r : Rest D) (v k : ℕ) → KeepsPlace r r v k
  keeps_same r v k = assumption

  pub keeps_then : (a b c : Rest D) (v k : ℕ) → KeepsPlace a b v k → KeepsPlace b c v k → KeepsPlace a c v k
  keeps_then a b c v k p q = record { pool = q.pool ∙ p.pool; spindle = q.spindle ∙ p.spindle; held = q.held ∙ p.held }

  pub rows_same : (r : Rest D) → KeepsRows r r
  rows_same r = assumption

  pub rows_then : (a b c : Rest D) → KeepsRows a b → KeepsRows b c → KeepsRows a c
  rows_then a b c p q = record { count = q.count ∙ p.count; rows = λ n all. q.rows n (p.rows n all) }

  pub place_then : (a b : Rest D) (v k : ℕ) → KeepsRows a b → HasPlace a v k → HasPlace b v k
  place_then a b v k rows place = record {
    row = subst (λ (n : ℕ). v < n) (sym rows.count) place.row;
    volumes = place.volumes;
    rows = rows.rows place.volumes place.rows;
    within = place.within;
  }

  pub bare_then : (a b : Rest D) (v k : ℕ) → KeepsRows a b → KeepsPlace a b v k → IsBarePlace a v k → IsBarePlace b v k
  bare_then a b v k rows keeps bare = record {
    place = place_then a b v k rows bare.place;
    pool = keeps.pool ∙ bare.pool;
    spindle = keeps.spindle ∙ bare.spindle;
    held = keeps.held ∙ bare.held;
  }

  pub back_then : (a b : Rest D) (v : ℕ) (l : Lane D) → KeepsPlace a b v (logger_of l) → HasBack a v l → HasBack b v l
  back_then a b v l keeps back = record { pool = keeps.pool ∙ back.pool; spindle = keeps.spindle ∙ back.spindle; held = keeps.held ∙ back.held }

  -- these lanes are left: once they come back all have come back
  pub record ArePutSoFar (state : D → State) (old new : Rest D) (v : ℕ) (all left : List (Lane D)) : Type 0 where
    pub can : CanPutLanes state new v left
    pub then_all : (last : Rest D) → PutsLanes new last v left → PutsLanes old last v all

  pub put_none : (state : D → State) (r : Rest D) (v : ℕ) (all : List (Lane D)) → CanPutLanes state r v all → ArePutSoFar state r r v all all
  put_none state r v all can = record { can = can; then_all = λ last puts. puts }

  module _ (state : D → State) (old new : Rest D) (v : ℕ) (all rest : List (Lane D)) (l : Lane D) (so_far : ArePutSoFar state old new v all (rest ++ l ∷ [])) where
    -- the last of those that are left may come back
    pub last_whole : IsLane state l × (taken_in l ≡ None)
    last_whole = all_last (λ (m : Lane D). IsLane state m × (taken_in m ≡ None)) rest l so_far.can.whole

    pub last_bare : IsBarePlace new v (logger_of l)
    last_bare = all_last (λ (m : Lane D). IsBarePlace new v (logger_of m)) rest l so_far.can.bare

    pub put_next : (newer : Rest D) → PutsLane new newer v l → ArePutSoFar state old newer v all rest
    put_next newer put =
        let apart = pairs_last (λ (m n : Lane D). logger_of m ≢ logger_of n) rest l so_far.can.apart in
        record {
          can = record {
            whole = all_front (λ (m : Lane D). IsLane state m × (taken_in m ≡ None)) rest l so_far.can.whole;
            bare = all_both (λ (m : Lane D). IsBarePlace new v (logger_of m)) (λ (m : Lane D). logger_of m ≢ logger_of l) (λ (m : Lane D). IsBarePlace newer v (logger_of m)) rest
                (λ m bare other. bare_then new newer v (logger_of m) put.rows (put.others v (logger_of m) (λ same. other)) bare)
                (all_front (λ (m : Lane D). IsBarePlace new v (logger_of m)) rest l so_far.can.bare) apart;
            apart = pairs_front (λ (m n : Lane D). logger_of m ≢ logger_of n) rest l so_far.can.apart;
          };
          then_all = λ last puts. so_far.then_all last (record {
            images = puts.images ∙ put.images;
            rooms = puts.rooms ∙ put.rooms;
            rows = rows_then new newer last put.rows puts.rows;
            back = All-push (HasBack last v) rest l puts.back (back_then newer last v l (puts.others v (logger_of l) (λ same. All-weaker (λ (m : Lane D). logger_of m ≢ logger_of l) (λ (m : Lane D). logger_of l ≢ logger_of m) (λ m other e. other (sym e)) rest apart)) put.back);
            others = λ w k other. keeps_then new newer last w k
                (put.others w k (λ same. all_last (λ (m : Lane D). k ≢ logger_of m) rest l (other same)))
                (puts.others w k (λ same. all_front (λ (m : Lane D). k ≢ logger_of m) rest l (other same)));
          });
        }

  pub put_all : (state : D → State) (old new : Rest D) (v : ℕ) (all : List (Lane D)) → ArePutSoFar state old new v all [] → PutsLanes old new v all
  put_all state old new v all so_far = let nothing = All-nil (HasBack new v) in so_far.then_all new assumption

-- ---- The home of a volume goes or comes, with the pass of its spindle

module _ {D : Type 0} where
  abbrev pub row_spindle : VolumePasses D → (k : ℕ) → Option (PassOf Spindle SpindleBase) → VolumePasses D
  row_spindle row k spindle = record { pools = row.pools; spindles = with_item row.spindles k spindle; held = row.held }

  pub home_moved : (r : Rest D) (v : ℕ) (row : VolumePasses D) (image : Option (ImageRest D)) (home : Option (Spun D)) (pass spindle : Option (PassOf Spindle SpindleBase))
      → v < length r.images.items → image ≡ with_home home (image_here r.images.items v) → pass ≡ spindle → HasPlace r v v → row ≡ slice_index_or r.passes.items v row
      → ChangesHome r (record { images = with_item r.images v image; passes = with_item r.passes v (row_spindle row v pass); rooms = r.rooms }) v home spindle
  home_moved r v row image home pass spindle within image_is pass_is place read =
      let new : Rest D = record { images = with_item r.images v image; passes = with_item r.passes v (row_spindle row v pass); rooms = r.rooms } in
      let size = size_of r v v row place read in
      let is = row_is r v v row place read in
      let done = row_set r new v v row (row_spindle row v pass) place read refl (search (get_or-set_other, length-set)) in
      record {
        count = length-set r.images.items v image;
        image = get_or-set_same r.images.items v image None within ∙ image_is;
        images = λ k other. get_or-set_other r.images.items v k image None other;
        rooms = refl;
        rows = done.rows;
        spindle_here = done.spindle ∙ get_or-set_same row.spindles.items v pass None (omega (arith, size.1.spindles, size.2)) ∙ pass_is;
        pools = λ w k. at_changed (λ (p : VolumePasses D). slice_index_or p.pools.items k None) r.passes.items new.passes.items v row (row_spindle row v pass) is refl w (λ same. refl);
        held = λ w k. ap list_of (at_changed (λ (p : VolumePasses D). slice_get p.held.items k) r.passes.items new.passes.items v row (row_spindle row v pass) is refl w (λ same. refl));
        spindles = λ w k other. (done.others w k other).spindle;
      }

-- ---- The passes of a lane go out of their place

pub segments_are : (config : Config) (k : ℕ) (v : VolumeConf) → slice_get config.volumes.items k ≡ Some v → segments_of config k ≡ v.segments
segments_are config k v is = ap segment_count (slice_get-map (shape_in config) config.volumes.items k ∙ ap (option_map (shape_in config)) is)

-- what was taken from a place comes back to it
put_back : {X : Type 0} (xs : List (Option X)) (k : ℕ) (a b : Option X) → b ≡ slice_index_or xs k None → slice_set (slice_set xs k a) k b ≡ xs
put_back xs k a b is = set-set xs k a b ∙ ap (slice_set xs k) is ∙ set-get_or xs k None

module _ {D : Type 0} where
  abbrev pub row_passes : VolumePasses D → (k : ℕ) → Option (PassOf (Pool (FreeSegment D)) PoolBase) → Option (PassOf Spindle SpindleBase) → VolumePasses D
  row_passes row k pool spindle = record { pools = with_item row.pools k pool; spindles = with_item row.spindles k spindle; held = row.held }

  pub lane_gone : (r : Rest D) (v k : ℕ) (row : VolumePasses D) (pool : Option (PassOf (Pool (FreeSegment D)) PoolBase)) (spindle : Option (PassOf Spindle SpindleBase)) → HasPlace r v k → row ≡ slice_index_or r.passes.items v row → held_here r v k ≡ []
      → pool ≡ None → spindle ≡ None → TakesPasses r (record { images = r.images; passes = with_item r.passes v (row_passes row k pool spindle); rooms = r.rooms }) v (k ∷ [])
  lane_gone r v k row pool spindle place read held no_pool no_spindle =
      let new : Rest D = record { images = r.images; passes = with_item r.passes v (row_passes row k pool spindle); rooms = r.rooms } in
      let size = size_of r v k row place read in
      let done = row_set r new v k row (row_passes row k pool spindle) place read refl (search (get_or-set_other, length-set)) in
      let P = λ (j : ℕ). (pool_pass new v j ≡ None) × (spindle_pass new v j ≡ None) × (held_here new v j ≡ []) in
      record {
        images = refl;
        rooms = refl;
        rows = done.rows;
        gone = All-cons P k [] (
          done.pool ∙ get_or-set_same row.pools.items k pool None (omega (arith, size.1.pools, size.2)) ∙ no_pool,
          done.spindle ∙ get_or-set_same row.spindles.items k spindle None (omega (arith, size.1.spindles, size.2)) ∙ no_spindle,
          done.held ∙ sym (ap list_of (ap (option_and_then (λ (p : VolumePasses D). slice_get p.held.items k)) (row_is r v k row place read))) ∙ held,
        ) (All-nil P);
        others = λ w j other. done.others w j (λ same. All-head (λ (l : ℕ). j ≢ l) k [] (other same));
      }

  pub lane_back : (r : Rest D) (v k : ℕ) (row : VolumePasses D) (pool0 pool : Option (PassOf (Pool (FreeSegment D)) PoolBase)) (spindle0 spindle : Option (PassOf Spindle SpindleBase)) → HasPlace r v k → row ≡ slice_index_or r.passes.items v row
      → pool ≡ pool_pass r v k → spindle ≡ spindle_pass r v k
      → IsSameRest r (record { images = r.images; passes = with_item r.passes v (record { pools = with_item (with_item row.pools k pool0) k pool; spindles = with_item (with_item row.spindles k spindle0) k spindle; held = row.held }); rooms = r.rooms })
  lane_back r v k row pool0 pool spindle0 spindle place read pool_is spindle_is =
      let changed : VolumePasses D = record { pools = with_item (with_item row.pools k pool0) k pool; spindles = with_item (with_item row.spindles k spindle0) k spindle; held = row.held } in
      let new : Rest D = record { images = r.images; passes = with_item r.passes v changed; rooms = r.rooms } in
      let is = row_is r v k row place read in
      let pools_same : changed.pools.items ≡ row.pools.items = put_back row.pools.items k pool0 pool (pool_is ∙ ap (option_and_then (λ (p : VolumePasses D). slice_index_or p.pools.items k None)) is) in
      let spindles_same : changed.spindles.items ≡ row.spindles.items = put_back row.spindles.items k spindle0 spindle (spindle_is ∙ ap (option_and_then (λ (p : VolumePasses D). slice_index_or p.spindles.items k None)) is) in
      let pool_same : (j : ℕ) → slice_index_or changed.pools.items j None ≡ slice_index_or row.pools.items j None = λ j. rw pools_same in
      let spindle_same : (j : ℕ) → slice_index_or changed.spindles.items j None ≡ slice_index_or row.spindles.items j None = λ j. rw spindles_same in
      let but : IsRowBut row changed k = record {
        pools = λ j other. pool_same j;
        spindles = λ j other. spindle_same j;
        held = λ j other. refl;
        sizes = (ap length pools_same, ap length spindles_same, refl);
      } in
      record {
        images = refl;
        rooms = refl;
        rows = (row_set r new v k row changed place read refl but).rows;
        places = λ w j. record {
          pool = at_changed (λ (p : VolumePasses D). slice_index_or p.pools.items j None) r.passes.items new.passes.items v row changed is refl w (λ same. pool_same j);
          spindle = at_changed (λ (p : VolumePasses D). slice_index_or p.spindles.items j None) r.passes.items new.passes.items v row changed is refl w (λ same. spindle_same j);
          held = ap list_of (at_changed (λ (p : VolumePasses D). slice_get p.held.items j) r.passes.items new.passes.items v row changed is refl w (λ same. refl));
        };
      }
