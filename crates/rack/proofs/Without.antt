-- A rest that lost nothing, and one whose opening of one volume is away.
use Rattle.rack.proofs.Basics.{◌≡◌, inl, inr, ⊎_elim, ℕ, List, length, map, Option, sym, ap, ◌∙◌, subst, arith, ◌≢◌, None, Some, refl, is_some, Contains, All, cases_eq, All-contains}
use Rattle.rack.proofs.Basics.{MatchOption-at_some, MatchOption-at_none, ◌⊎◌, ◌∷◌, ◌↔◌, slice_get, IsSome, none-some, same_Some, Global, Vec, slice_index_or, [], All-nil}
use Rattle.rack.proofs.Terms.{State, Told, BayState, Config, Spun, AreApart, Shared, Station, shapes_of, image_here, indexes_here, Away, away_with, AreImageRests, IsHolding, IsHeldHere}
use Rattle.rack.proofs.Terms.{IsPart, IsRestBut, AreRooms, IsSegmentHere, segment_here, pool_pass, spindle_pass, held_here, images_taken, BeganInPlace, IsBegun, base_of_station, AreOut}
use Rattle.rack.proofs.Terms.{IsSameRest, TakesOpening, IsSameBut, loggers_out, segment_in, with_home, IsOpeningRack, HasBegun, IsStopped, BeganWith, Said, ImageRest, Rack, Rest}
use Rattle.rack.proofs.Terms.{place_of, Opening, PassOf, FreeSegment, Owned, PoolBase, Pool, Spindle, SpindleBase, OnlyAccess, IsTakenOf, IsOwnedPlace, IsClosable}
use Rattle.rack.proofs.Terms.{Rooms, AreSameOut, AreForeign, VolumeFault, in_image, AreHandedBack, IsRow}
use Rattle.rack_parts.proofs.Members.{segment_in_image, in_cases, first_in, later_in, is_member, none_in, of_map}
use Rattle.rack.proofs.SameOut.{same_out, out_too, none_too, out_at, taken_same}
use Rattle.rack.proofs.Cases.{by_option}
use Rattle.rack_parts.proofs.ManagerBack.{base_stays}
use Rattle.rack_parts.specs.Parts.{KeepsRows, KeepsPlace, ChangesHome}

-- two numbers are among these pairs, or aren't
pub is_pair : (xs : List (ℕ × ℕ)) (k i : ℕ) → Contains xs (k, i) ⊎ (Contains xs (k, i) → ⊥)
is_pair [] k i = inr (none_in (k, i))
is_pair (x ∷ xs) k i =
    ⊎_elim
    (λ (e : x.0 ≡ k).
    ⊎_elim
    (λ (f : x.1 ≡ i). inl (first_in x (k, i) xs (λ j. (e j, f j))))
    (λ (f : x.1 ≡ i → ⊥). behind (λ same. f (ap (λ (p : ℕ × ℕ). p.1) same)) (is_pair xs k i))
    (cases_eq x.1 i))
    (λ (e : x.0 ≡ k → ⊥). behind (λ same. e (ap (λ (p : ℕ × ℕ). p.0) same)) (is_pair xs k i))
    (cases_eq x.0 k)
  where
    behind : (x ≡ (k, i) → ⊥) → Contains xs (k, i) ⊎ (Contains xs (k, i) → ⊥) → Contains (x ∷ xs) (k, i) ⊎ (Contains (x ∷ xs) (k, i) → ⊥)
    behind other rest =
        ⊎_elim (λ here. inl (later_in x (k, i) xs here)) (λ never. inr (λ c. ⊎_elim (λ same. other same) (λ here. never here) (in_cases x (k, i) xs c))) rest

-- ---- What is here where it isn't away

-- it is as it was, and away where it was
pub here_still : {X A B : Type 0} (new old : Option X) → new ≡ old → IsSome old ↔ (A → ⊥) → (A → B) → (B → A) → IsSome new ↔ (B → ⊥)
here_still new old same before to from = (λ there c. before.0 (sym (ap is_some same) ∙ there) (from c), λ never. ap is_some same ∙ before.1 (λ a. never (to a)))

-- it went
pub here_gone : {X A : Type 0} (new : Option X) → new ≡ None → A → IsSome new ↔ (A → ⊥)
here_gone new none is = (λ there. absurd (let no = ap is_some none in cc (no, there)), λ never. absurd (never is))

-- it came
pub here_now : {X A : Type 0} (new : Option X) (x : X) → new ≡ Some x → (A → ⊥) → IsSome new ↔ (A → ⊥)
here_now new x is never = (λ there. never, λ none. ap is_some is)

-- ---- No lane came back to a rest

pub no_indexes : {D : Type 0} (q : Rest D) → ((v k : ℕ) → held_here q v k ≡ []) → (v k i : ℕ) → Contains (indexes_here q v k) i → ⊥
no_indexes {D} q none v k i c = none_in i (subst (λ (l : List (ℕ × Spun D)). Contains (map (λ (h : ℕ × Spun D). h.0) l) i) (none v k) c)

pub none_returned : {D : Type 0} (state : D → State) (config : Config) (q : Rest D) → ((v k : ℕ) → held_here q v k ≡ []) → AreHandedBack state config q
none_returned {D} state config q none = record {
  held = λ v k i c. absurd (no_indexes q none v k i c);
  once = λ v k. subst (λ (l : List (ℕ × Spun D)). AreApart (map (λ (h : ℕ × Spun D). h.0) l)) (sym (none v k)) tt;
  parts = λ v k s shape. subst (λ (l : List (ℕ × Spun D)). All (λ (h : ℕ × Spun D). IsPart state k s.segment_blocks h.1) l) (sym (none v k)) (All-nil (λ (h : ℕ × Spun D). IsPart state k s.segment_blocks h.1));
  out = λ v k gone. none v k;
}

-- ---- A rest in whose rows, images and lists nothing changed

module _ {D : Type 0} (old new : Rest D) (images : new.images ≡ old.images) (rows : KeepsRows old new) (places : (v k : ℕ) → KeepsPlace old new v k) where
  image_same : (k : ℕ) → image_here new.images.items k ≡ image_here old.images.items k
  image_same k = ap (λ x. image_here x.items k) images

  holding_same : (v k i : ℕ) → (IsHolding new v k i → IsHolding old v k i) × (IsHolding old v k i → IsHolding new v k i)
  holding_same v k i = (λ h. (h.0, sym (places v k).pool ∙ h.1, h.2), λ h. (h.0, (places v k).pool ∙ h.1, h.2))

  index_same : (v k : ℕ) → indexes_here new v k ≡ indexes_here old v k
  index_same v k = ap (map (λ (h : ℕ × Spun D). h.0)) (places v k).held

  held_same : (k i : ℕ) → (IsHeldHere new k i → IsHeldHere old k i) × (IsHeldHere old k i → IsHeldHere new k i)
  held_same k i = (
    λ h. (h.0, (holding_same h.0 k i).0 h.1, λ c. h.2 (subst (λ (l : List ℕ). Contains l i) (sym (index_same h.0 k)) c)),
    λ h. (h.0, (holding_same h.0 k i).1 h.1, λ c. h.2 (subst (λ (l : List ℕ). Contains l i) (index_same h.0 k) c)),
  )

  pub rest_same : (state : D → State) (config : Config) (shared : Shared D) (away : Away) → IsRestBut state config shared away old → IsRestBut state config shared away new
  rest_same state config shared away is = record {
    images = subst (λ (l : List (Option (ImageRest D))). AreImageRests state config l) (ap (λ x. x.items) (sym images)) is.images;
    homes = λ k image here. is.homes k image (sym (image_same k) ∙ here);
    count = rows.count ∙ is.count;
    rows = rows.rows (length (shapes_of config)) is.rows;
    pools = record {
      here = λ v k row within. let x = is.pools.here v k (let n = rows.count in omega (arith, row, n)) within in (λ some. x.0 (sym (ap is_some (places v k).pool) ∙ some), λ none. ap is_some (places v k).pool ∙ x.1 none);
      each = λ v k l p at here. is.pools.each v k l p at (sym (places v k).pool ∙ here);
    };
    spindles = record {
      here = λ v k row within. let x = is.spindles.here v k (let n = rows.count in omega (arith, row, n)) within in (λ some. x.0 (sym (ap is_some (places v k).spindle) ∙ some), λ none. ap is_some (places v k).spindle ∙ x.1 none);
      each = λ v k l p at here. is.spindles.each v k l p at (sym (places v k).spindle ∙ here);
      settled = λ v k p here. is.spindles.settled v k p (sym (places v k).spindle ∙ here);
    };
    returned = record {
      held = λ v k i c. (holding_same v k i).1 (is.returned.held v k i (subst (λ (l : List ℕ). Contains l i) (index_same v k) c));
      once = λ v k. subst AreApart (sym (index_same v k)) (is.returned.once v k);
      parts = λ v k s shape. subst (λ (l : List (ℕ × Spun D)). All (λ (h : ℕ × Spun D). IsPart state k s.segment_blocks h.1) l) (sym (places v k).held) (is.returned.parts v k s shape);
      out = λ v k none. (places v k).held ∙ is.returned.out v k (sym (image_same k) ∙ none);
    };
    placed = record {
      known = λ k i l image lock here within. is.placed.known k i l image lock (sym (image_same k) ∙ here) within;
      known_passes = is.placed.known_passes;
      here = λ k i image here within. let x = is.placed.here k i image (sym (image_same k) ∙ here) within in (λ some. let y = x.0 some in ((held_same k i).1 y.0, y.1), λ y. x.1 ((held_same k i).0 y.0, y.1));
      others = λ k i l lock none. is.placed.others k i l lock (sym (image_same k) ∙ none);
    };
  }

-- where the rows are the same each place is
pub same_passes : {D : Type 0} (a b : Rest D) → b.passes ≡ a.passes → (v k : ℕ) → KeepsPlace a b v k
same_passes a b same v k = record {
  pool = ap (λ x. pool_pass (record a { passes = x }) v k) same;
  spindle = ap (λ x. spindle_pass (record a { passes = x }) v k) same;
  held = ap (λ x. held_here (record a { passes = x }) v k) same;
}

-- the rooms of a rest don't matter for its parts
pub with_rooms : {D : Type 0} (state : D → State) (config : Config) (shared : Shared D) (away : Away) (q : Rest D) (rooms : Rooms D) → IsRestBut state config shared away q → IsRestBut state config shared away (record q { rooms = rooms })
with_rooms state config shared away q rooms =
    rest_same q (record q { rooms = rooms }) refl (record { count = refl; rows = λ n each. each }) (λ v k. record { pool = refl; spindle = refl; held = refl }) state config shared away

-- ---- A rack with the same stations and the same images out

module _ {D : Type 0} (state : D → State) (config : Config) (b : BayState) (r : Rack D) (new : Rest D) (same : AreSameOut r (record r { rest = new })) where
  -- the names that are out stay so
  pub out_stays : AreOut config r.rest.images.items b → AreOut config new.images.items b
  out_stays out = λ k v at. (λ there. (out k v at).0 (out_too new.images.items r.rest.images.items same k there), λ gone. (out k v at).1 (none_too new.images.items r.rest.images.items same k gone))

  -- it may be closed with what is here now
  pub closable_stays : (faults : Vec (Option VolumeFault) Global) → IsClosable state config b r → IsRestBut state config r.shared (away_with (map (λ (s : Station D). base_of_station s) r.stations.items)) new → new.rooms ≡ r.rest.rooms
      → AreForeign state (map (λ (s : Station D). base_of_station s) r.stations.items) new → OnlyAccess new → IsClosable state config b (record r { rest = new; faults = faults })
  closable_stays faults old parts rooms foreign accesses = record {
    out = out_stays old.out;
    locks = old.locks;
    keepers = old.keepers;
    stations = old.stations;
    rising = old.rising;
    bases = λ j d within. base_stays config r.shared r.rest.images.items new.images.items (base_of_station (slice_index_or r.stations.items j d)) (λ k out. out_at new.images.items r.rest.images.items same k ∙ out) (old.bases j d within);
    rest = record { parts = parts; rooms = subst (AreRooms (length (shapes_of config)) (length (map (λ (s : Station D). base_of_station s) r.stations.items))) (sym rooms) old.rest.rooms };
    foreign = foreign;
    accesses = accesses;
  }

module _ {D : Type 0} (state : D → State) (config : Config) (r : Rack D) (new : Rest D) (same : AreSameOut r (record r { rest = new })) where
  -- its stations began with the images as they read
  pub stations_began : (t : Told) → BeganWith state config t r → All (λ s. IsBegun config (images_taken config new.images.items t) (base_of_station s).volume.began) r.stations.items
  stations_began t old = subst (λ is. All (λ (s : Station D). IsBegun config is (base_of_station s).volume.began) r.stations.items) (sym (taken_same new.images.items r.rest.images.items same config t)) old.stations

  pub stations_placed : (t : Told) → BeganWith state config t r → All (λ s. BeganInPlace config (images_taken config new.images.items t) (base_of_station s)) r.stations.items
  stations_placed t old = subst (λ is. All (λ (s : Station D). BeganInPlace config is (base_of_station s)) r.stations.items) (sym (taken_same new.images.items r.rest.images.items same config t)) old.placed

-- ---- A rack whose rest lost nothing when what a volume is opened of was asked for

module _ {D : Type 0} (state : D → State) (config : Config) (said : List (Option Said)) (n : ℕ) (r : Rack D) (new : Rest D) (same : IsSameRest r.rest new) where
  image_kept : (k : ℕ) → image_here new.images.items k ≡ image_here r.rest.images.items k
  image_kept k = ap (λ x. image_here x.items k) same.images

  same_lists : AreSameOut r (record r { rest = new })
  same_lists = ap (λ x. map (λ (i : Option (ImageRest D)). is_some i) x.items) same.images

  held_kept_here : (v k i : ℕ) (p : Spun D) → Contains (held_here new v k) (i, p) → Contains (held_here r.rest v k) (i, p)
  held_kept_here v k i p = subst (λ (l : List (ℕ × Spun D)). Contains l (i, p)) (same.places v k).held

  -- the rack may be closed as it was
  pub nothing_taken : (b : BayState) → IsOpeningRack state config b said n r → IsStopped state config b r (record r { rest = new })
  nothing_taken b ready =
      let old = ready.closable in
      record {
        closable = closable_stays state config b r new same_lists r.faults old
            (rest_same r.rest new same.images same.rows same.places state config r.shared (away_with (map (λ (s : Station D). base_of_station s) r.stations.items)) old.rest.parts) same.rooms
            (record { places = λ k i image p here seg. old.foreign.places k i image p (sym (image_kept k) ∙ here) seg; held = λ v k i p has. old.foreign.held v k i p (held_kept_here v k i p has) })
            (λ v k p here. old.accesses v k p (sym (same.places v k).spindle ∙ here));
        fresh = ready.fresh;
        same_out = same_lists;
      }

  -- and began with the same
  pub began_still : (t : Told) → HasBegun state config t said n r → BeganWith state config t (record r { rest = new })
  began_still t begun =
      let old = begun.began in
      record {
        stations = stations_began state config r new same_lists t old;
        placed = stations_placed state config r new same_lists t old;
        left = λ k v before image at there here. old.left k v before image at there (sym (image_kept k) ∙ here);
        held = λ w k i v before p at there has. old.held w k i v before p at there (held_kept_here w k i p has);
        gone = λ k i v before image at there here within none. old.gone k i v before image at there (sym (image_kept k) ∙ here) within (λ p is. none p (still k i p is));
        pools = λ k v l image at lock here. old.pools k v l image at lock (sym (image_kept k) ∙ here);
      }
    where
      still : (k i : ℕ) (p : Spun D) → IsSegmentHere r.rest k i p → IsSegmentHere new k i p
      still k i p = ⊎_elim (λ x. inl (x.0, image_kept k ∙ x.1, x.2)) (λ x. inr (x.0, subst (λ (l : List (ℕ × Spun D)). Contains l (i, p)) (sym (same.places x.0 k).held) x.1))

-- ---- The home of one volume came or went

-- the image of volume k then, where this is the home of volume id
pub record IsImageNow {D : Type 0} (home : Option (Spun D)) (id k : ℕ) (x y : ImageRest D) : Type 0 where
  pub label : y.label ≡ x.label
  pub count : length y.segments.items ≡ length x.segments.items
  pub row : y.row ≡ x.row
  pub room : y.room ≡ x.room
  pub own : k ≡ id → y.home ≡ home
  pub others : k ≢ id → y.home ≡ x.home

module _ {D : Type 0} (old new : Rest D) (id : ℕ) (home : Option (Spun D)) (spindle : Option (PassOf Spindle SpindleBase)) (changes : ChangesHome old new id home spindle) where
  home_at : (k : ℕ) → k ≡ id → image_here new.images.items k ≡ with_home home (image_here old.images.items k)
  home_at k e = subst (λ (j : ℕ). image_here new.images.items j ≡ with_home home (image_here old.images.items j)) (sym e) changes.image

  pub image_home : (k : ℕ) (x : ImageRest D) → image_here old.images.items k ≡ Some x → (y : ImageRest D) × (image_here new.images.items k ≡ Some y) × IsImageNow home id k x y
  image_home k x here = ⊎_elim
      (λ (e : k ≡ id). (record x { home = home }, home_at k e ∙ ap (with_home home) here, record { label = refl; count = refl; row = refl; room = refl; own = λ same. refl; others = λ other. absurd (other e) }))
      (λ (other : k ≡ id → ⊥). (x, changes.images k other ∙ here, record { label = refl; count = refl; row = refl; room = refl; own = λ same. absurd (other same); others = λ differs. refl }))
      (cases_eq k id)

  pub home_none : (k : ℕ) → image_here old.images.items k ≡ None → image_here new.images.items k ≡ None
  home_none k none = ⊎_elim (λ (e : k ≡ id). home_at k e ∙ ap (with_home home) none) (λ (other : k ≡ id → ⊥). changes.images k other ∙ none) (cases_eq k id)

  pub home_segments : (k i : ℕ) → segment_in new k i ≡ segment_in old k i
  home_segments k i = ⊎_elim
      (λ (e : k ≡ id). ap (λ x. in_image x i) (home_at k e) ∙ same_segments (image_here old.images.items k))
      (λ (other : k ≡ id → ⊥). ap (λ x. in_image x i) (changes.images k other))
      (cases_eq k id)
    where
      same_segments : (x : Option (ImageRest D)) → in_image (with_home home x) i ≡ in_image x i
      same_segments None = refl
      same_segments (Some x) = refl

-- ---- A rest whose opening of one volume is away, against the rest before

module _ {D : Type 0} (state : D → State) (config : Config) (said : List (Option Said)) (id : ℕ) (view : List ℕ) (old new : Rest D) (o : Opening D) (takes : TakesOpening state config old new said id view o) where
  lanes_images : (k : ℕ) → image_here takes.without_lanes.images.items k ≡ image_here old.images.items k
  lanes_images k = ap (λ x. image_here x.items k) takes.lanes.passes.images

  pub image_without : (k : ℕ) (x : ImageRest D) → image_here old.images.items k ≡ Some x → (y : ImageRest D) × (image_here new.images.items k ≡ Some y) × IsImageNow None id k x y
  image_without k x here =
      let kept = MatchOption-at_some (image_here takes.without_owned.images.items k ≡ None) (λ (r : ImageRest D). (n : ImageRest D) × (image_here takes.without_owned.images.items k ≡ Some n) × IsSameBut r n) x (lanes_images k ∙ here) (takes.owned.images k) in
      let home = image_home takes.without_owned new id None None takes.home k kept.0 kept.1 in (
        home.0,
        home.1,
        record {
          label = home.2.label ∙ kept.2.label;
          count = home.2.count ∙ kept.2.count;
          row = home.2.row ∙ kept.2.row;
          room = home.2.room ∙ kept.2.room;
          own = home.2.own;
          others = λ other. home.2.others other ∙ kept.2.home;
        },
      )

  pub none_without : (k : ℕ) → image_here old.images.items k ≡ None → image_here new.images.items k ≡ None
  none_without k none = home_none takes.without_owned new id None None takes.home k
      (MatchOption-at_none (image_here takes.without_owned.images.items k ≡ None) (λ (r : ImageRest D). (n : ImageRest D) × (image_here takes.without_owned.images.items k ≡ Some n) × IsSameBut r n) (lanes_images k ∙ none) (takes.owned.images k))

  -- the same images are out
  pub out_without : (k : ℕ) → is_some (image_here new.images.items k) ≡ is_some (image_here old.images.items k)
  out_without k = by_option (image_here old.images.items k) (λ e. ap is_some (none_without k e ∙ sym e)) (λ x e. ap is_some (image_without k x e).1 ∙ sym (ap is_some e))

  pub count_without : length new.images.items ≡ length old.images.items
  count_without = takes.home.count ∙ takes.owned.count ∙ ap (λ x. length x.items) takes.lanes.passes.images

  pub lists_without : map (λ (i : Option (ImageRest D)). is_some i) new.images.items ≡ map (λ (i : Option (ImageRest D)). is_some i) old.images.items
  lists_without = same_out new.images.items old.images.items count_without out_without

  pub none_was : (k : ℕ) → image_here new.images.items k ≡ None → image_here old.images.items k ≡ None
  none_was = none_too new.images.items old.images.items lists_without

  -- an image that is here was here
  pub record WasHere (k : ℕ) (y : ImageRest D) : Type 0 where
    pub image : ImageRest D
    pub here : image_here old.images.items k ≡ Some image
    pub is : IsImageNow None id k image y

  pub was_here : (k : ℕ) (y : ImageRest D) → image_here new.images.items k ≡ Some y → WasHere k y
  was_here k y now = by_option (image_here old.images.items k)
      (λ e. absurd (none-some y (sym (none_without k e) ∙ now)))
      (λ x e.
      let w = image_without k x e in
      record { image = x; here = e; is = subst (λ (z : ImageRest D). IsImageNow None id k x z) (same_Some w.0 y (sym w.1 ∙ now)) w.2 })

  pub rows_without : (length new.passes.items ≡ length old.passes.items)
  rows_without = takes.home.rows.count ∙ ap (λ x. length x.items) takes.owned.passes ∙ takes.lanes.passes.rows.count

  pub rows_stay : (n : ℕ) → All (λ p. IsRow n p) old.passes.items → All (λ p. IsRow n p) new.passes.items
  rows_stay n each = takes.home.rows.rows n (subst (λ x. All (λ p. IsRow n p) x.items) (sym takes.owned.passes) (takes.lanes.passes.rows.rows n each))

  -- ---- Passes

  owned_kept : (v k : ℕ) → KeepsPlace takes.without_lanes takes.without_owned v k
  owned_kept = same_passes takes.without_lanes takes.without_owned takes.owned.passes

  all_gone : (k : ℕ) → Contains (loggers_out old view) k → (pool_pass takes.without_lanes id k ≡ None) × (spindle_pass takes.without_lanes id k ≡ None) × (held_here takes.without_lanes id k ≡ [])
  all_gone k = All-contains (λ j. (pool_pass takes.without_lanes id j ≡ None) × (spindle_pass takes.without_lanes id j ≡ None) × (held_here takes.without_lanes id j ≡ [])) (loggers_out old view) k takes.lanes.passes.gone

  -- the passes at the loggers went
  pub pool_gone : (k : ℕ) → Contains (loggers_out old view) k → pool_pass new id k ≡ None
  pool_gone k there = takes.home.pools id k ∙ (owned_kept id k).pool ∙ (all_gone k there).0

  pub spindle_gone : (k : ℕ) → k ≢ id → Contains (loggers_out old view) k → spindle_pass new id k ≡ None
  spindle_gone k other there = takes.home.spindles id k (λ same. other) ∙ (owned_kept id k).spindle ∙ (all_gone k there).1

  pub held_gone : (k : ℕ) → Contains (loggers_out old view) k → held_here new id k ≡ []
  held_gone k there = takes.home.held id k ∙ (owned_kept id k).held ∙ (all_gone k there).2

  pub own_spindle_gone : spindle_pass new id id ≡ None
  own_spindle_gone = takes.home.spindle_here

  -- and all others are as they were
  not_there : (k : ℕ) → (Contains (loggers_out old view) k → ⊥) → All (λ l. k ≢ l) (loggers_out old view)
  not_there k never = λ j d lt e. never (j, lt, Rattle.std.proofs.lemmas.List.get_or_default (loggers_out old view) j k d lt ∙ sym e)

  pub pool_kept : (w k : ℕ) → (w ≡ id → Contains (loggers_out old view) k → ⊥) → pool_pass new w k ≡ pool_pass old w k
  pool_kept w k never = takes.home.pools w k ∙ (owned_kept w k).pool ∙ (takes.lanes.passes.others w k (λ same. not_there k (never same))).pool

  pub spindle_kept : (w k : ℕ) → (w ≡ id → k ≢ id) → (w ≡ id → Contains (loggers_out old view) k → ⊥) → spindle_pass new w k ≡ spindle_pass old w k
  spindle_kept w k other never = takes.home.spindles w k other ∙ (owned_kept w k).spindle ∙ (takes.lanes.passes.others w k (λ same. not_there k (never same))).spindle

  pub held_kept : (w k : ℕ) → (w ≡ id → Contains (loggers_out old view) k → ⊥) → held_here new w k ≡ held_here old w k
  held_kept w k never = takes.home.held w k ∙ (owned_kept w k).held ∙ (takes.lanes.passes.others w k (λ same. not_there k (never same))).held

  -- ---- Segments

  pub segment_gone : (k i : ℕ) → Contains (map place_of o.owned.items) (k, i) → segment_in new k i ≡ None
  segment_gone k i there = home_segments takes.without_owned new id None None takes.home k i ∙ takes.owned.gone k i there

  pub segment_kept : (k i : ℕ) → (Contains (map place_of o.owned.items) (k, i) → ⊥) → segment_in new k i ≡ segment_in old k i
  segment_kept k i never = home_segments takes.without_owned new id None None takes.home k i ∙ takes.owned.others k i never ∙ ap (λ x. segment_in (record old { images = x }) k i) takes.lanes.passes.images

  -- a segment that is here was here, and isn't of the opening
  pub segment_was : (k i : ℕ) (y : ImageRest D) (p : Spun D) → (w : WasHere k y) → image_here new.images.items k ≡ Some y → segment_here y i ≡ Some p → segment_here w.image i ≡ Some p
  segment_was k i y p w now here =
      let now_in : segment_in new k i ≡ Some p = segment_in_image new k y now i ∙ here in
      ⊎_elim
      (λ taken. absurd (none-some p (sym (segment_gone k i taken) ∙ now_in)))
      (λ never. sym (segment_in_image old k w.image w.here i) ∙ sym (segment_kept k i never) ∙ now_in)
      (is_pair (map place_of o.owned.items) k i)

  -- whether a place is one of a lane of the opening
  pub of_lane : (v k : ℕ) → ((v ≡ id) × Contains (loggers_out old view) k) ⊎ (v ≡ id → Contains (loggers_out old view) k → ⊥)
  of_lane v k = ⊎_elim
      (λ (e : v ≡ id). ⊎_elim (λ has. inl (e, has)) (λ (never : Contains (loggers_out old view) k → ⊥). inr (λ same. never)) (is_member (loggers_out old view) k))
      (λ (e : v ≡ id → ⊥). inr (λ same. absurd (e same)))
      (cases_eq v id)

  -- that of a spindle's pass is the volume's own, or one of a lane, or another
  pub spindle_place : {P : Type 0} (v k : ℕ) → (v ≡ id → k ≡ id → P) → (v ≡ id → k ≢ id → Contains (loggers_out old view) k → P) → ((v ≡ id → k ≢ id) → (v ≡ id → Contains (loggers_out old view) k → ⊥) → P) → P
  spindle_place v k own lane other = ⊎_elim
      (λ is. ⊎_elim (λ (f : k ≡ id). own is.0 f) (λ (f : k ≡ id → ⊥). lane is.0 f is.1) (cases_eq k id))
      (λ (never : v ≡ id → Contains (loggers_out old view) k → ⊥). ⊎_elim
      (λ (e : v ≡ id). ⊎_elim (λ (f : k ≡ id). own e f) (λ (f : k ≡ id → ⊥). other (λ same. f) never) (cases_eq k id))
      (λ (e : v ≡ id → ⊥). other (λ same. absurd (e same)) never)
      (cases_eq v id))
      (of_lane v k)

  -- a pass that is here was here
  pub pool_was : (v k : ℕ) (p : PassOf (Pool (FreeSegment D)) PoolBase) → pool_pass new v k ≡ Some p → (pool_pass old v k ≡ Some p) × (v ≡ id → Contains (loggers_out old view) k → ⊥)
  pool_was v k p here = ⊎_elim
      (λ is. absurd (none-some p (sym (ap (λ (n : ℕ). pool_pass new n k) is.0 ∙ pool_gone k is.1) ∙ here)))
      (λ (never : v ≡ id → Contains (loggers_out old view) k → ⊥). (sym (pool_kept v k never) ∙ here, never))
      (of_lane v k)

  pub spindle_was : (v k : ℕ) (p : PassOf Spindle SpindleBase) → spindle_pass new v k ≡ Some p → spindle_pass old v k ≡ Some p
  spindle_was v k p here = spindle_place v k
      (λ e f. absurd (none-some p (sym ((λ j. spindle_pass new (e j) (f j)) ∙ own_spindle_gone) ∙ here)))
      (λ e f has. absurd (none-some p (sym (ap (λ (n : ℕ). spindle_pass new n k) e ∙ spindle_gone k f has) ∙ here)))
      (λ other never. sym (spindle_kept v k other never) ∙ here)

  -- where no lane had come back none is back
  pub none_held : ((v k : ℕ) → held_here old v k ≡ []) → (v k : ℕ) → held_here new v k ≡ []
  none_held none v k = ⊎_elim
      (λ is. ap (λ (n : ℕ). held_here new n k) is.0 ∙ held_gone k is.1)
      (λ (never : v ≡ id → Contains (loggers_out old view) k → ⊥). held_kept v k never ∙ none v k)
      (of_lane v k)

  -- who owns a segment of the opening is the volume
  pub owner_of : (v k i : ℕ) → IsOwnedPlace said v k i → Contains (map place_of o.owned.items) (k, i) → v ≡ id
  owner_of v k i place c =
      let from = of_map place_of o.owned.items (k, i) c in
      let taken = All-contains (IsTakenOf config takes.without_lanes said id) o.owned.items from.0 takes.owned.each from.1 in
      let says : Some (Some taken.saying) ≡ Some (Some place.0) = sym taken.said_is ∙ ap (λ (x : ℕ × ℕ). slice_get said x.0) from.2 ∙ place.1 in
      let same : taken.saying ≡ place.0 = cc in
      let head : Some (Owned id) ≡ Some (Owned v) = sym taken.head ∙ (λ j. slice_get (same j).heads.items (from.2 j).1) ∙ place.2 in
      let is : id ≡ v = cc in
      sym is
