-- The lanes of a volume go out one after another.
use Rattle.rack_parts.proofs.Basics.{◌≡◌, ◌≢◌, ◌<◌, ◌≤◌, ◌+◌, ⊎_elim, ℕ, Bool, true, false, cond, List, [], ◌∷◌, ◌++◌, length, map, take, drop}
use Rattle.rack_parts.proofs.Basics.{Option, None, is_some, sym, ap, subst, ◌∙◌, arith, All, AllPairs, Contains, slice_index_or}
use Rattle.rack_parts.proofs.Basics.{Global, Vec, cases_eq, cases_Bool, append-nil, length_push, map_push, All-nil, All-cons, All-head, All-push}
use Rattle.rack_parts.proofs.Basics.{All-map, All-weaker, All-from_recursion, filter_more, All-contains, Contains-append_left, Contains-push, take-append-drop}
use Rattle.rack_parts.proofs.Terms.{State, AreApart, Config, IsLane, logger_of, taken_in, HeldSegment, Lane, part_of, image_here, pool_pass, spindle_pass, held_here, KeepsPlace}
use Rattle.rack_parts.proofs.Terms.{KeepsRows, IsBarePlace, HasBack, PutsLanes, CanPutLanes, IsUsablePlace, IsNewLane, TakesPasses, TakesOneLane, IsSameRest, segments_of}
use Rattle.rack_parts.proofs.Terms.{loggers_out, TakesLanes, ImageRest, Rest}
use Rattle.std.proofs.lemmas.List.Elements.{filter-append}
use Rattle.std.proofs.lemmas.List.Kept.{AllPairs-cons}
use Rattle.std.proofs.lemmas.List.Quantifiers.{all_pairs_push}
use Rattle.rack_parts.proofs.LanesMoved.{all_both, bare_then, keeps_then, rows_then, place_then}
use Rattle.rack_parts.proofs.Members.{all_front, all_last, all_member, all_of_map, is_member, of_map}

-- different numbers at different places
pub pairs_apart : (xs : List ℕ) → AreApart xs → AllPairs (λ j k. j ≢ k) xs
pairs_apart [] apart = λ i j d before within. absurd (omega (arith, within))
pairs_apart (x ∷ xs) apart = AllPairs-cons (λ j k. j ≢ k) x xs (All-from_recursion (λ k. x ≢ k) xs apart.0) (pairs_apart xs apart.1)

module _ {D : Type 0} where
  usable_then : (a b : Rest D) (v k n : ℕ) → KeepsRows a b → KeepsPlace a b v k → IsUsablePlace a v k n → IsUsablePlace b v k n
  usable_then a b v k n rows keeps u = record {
    place = place_then a b v k rows u.place;
    pool = u.pool;
    pool_here = keeps.pool ∙ u.pool_here;
    pool_volume = u.pool_volume;
    room = u.room;
    pool_free = u.pool_free;
    spindle = u.spindle;
    spindle_here = keeps.spindle ∙ u.spindle_here;
    spindle_volume = u.spindle_volume;
    spindle_free = u.spindle_free;
    settled = u.settled;
    accesses = u.accesses;
    held = keeps.held ∙ u.held;
  }

  module _ (state : D → State) (config : Config) (view : List ℕ) (v : ℕ) where
    -- nothing is here at logger k
    abbrev IsGone : Rest D → ℕ → Type 0
    IsGone r k = (pool_pass r v k ≡ None) × (spindle_pass r v k ≡ None) × (held_here r v k ≡ [])

    abbrev IsUsable : Rest D → ℕ → Type 0
    IsUsable r k = IsUsablePlace r v k (segments_of config k)

    -- the logger of a lane is among the first n of the view
    abbrev IsSeen : ℕ → Lane D → Type 0
    IsSeen n l = (j : ℕ) × (j < n) × (logger_of l ≡ slice_index_or view j 0)

    abbrev IsNew : Rest D → Lane D → Type 0
    IsNew r l = IsNewLane state r v (segments_of config (logger_of l)) l

    -- the lanes of the first loggers went out
    pub record AreLanesTaken (old new : Rest D) (lanes : List (Lane D)) (n : ℕ) : Type 0 where
      pub takes : TakesLanes state config old new v (loggers_out old (take n view)) lanes
      pub usable : All (λ l. IsUsablePlace old v (logger_of l) (segments_of config (logger_of l))) lanes
      pub pairs : AllPairs (λ l m. logger_of l ≢ logger_of m) lanes
      pub seen : All (λ l. (j : ℕ) × (j < n) × (logger_of l ≡ slice_index_or view j 0)) lanes
      pub few : length lanes ≤ n

    pub lanes_none : (r : Rest D) → AreLanesTaken r r [] 0
    lanes_none r =
        let each = All-nil (IsNew r) in
        let gone = All-nil (IsGone r) in
        let usable = All-nil (λ (l : Lane D). IsUsable r (logger_of l)) in
        let pairs : AllPairs (λ (l m : Lane D). logger_of l ≢ logger_of m) [] = λ i j d before within. absurd (omega (arith, within)) in
        let seen = All-nil (IsSeen 0) in
        let few : 0 ≤ 0 = omega arith in
        assumption

    module _ (apart : AreApart view) (old new : Rest D) (lanes : List (Lane D)) (n : ℕ) (so_far : AreLanesTaken old new lanes n) where
      abbrev loggers : List ℕ
      loggers = loggers_out old (take n view)

      pub same_out : (k : ℕ) → image_here new.images.items k ≡ image_here old.images.items k
      same_out k = ap (λ (x : Vec (Option (ImageRest D)) Global). image_here x.items k) so_far.takes.passes.images

      -- the next logger, and whether its image is out
      module _ (k : ℕ) (within : n < length view) (k_is : k ≡ slice_index_or view n 0) where
        next_is : (b : Bool) → is_some (image_here old.images.items k) ≡ b → loggers_out old (take (n + 1) view) ≡ loggers ++ cond b (k ∷ []) []
        next_is b is =
            filter_more (λ (j : ℕ). is_some (image_here old.images.items j)) view n 0 within
            ∙ ap (λ (x : ℕ). loggers ++ cond (is_some (image_here old.images.items x)) (x ∷ []) []) (sym k_is)
            ∙ ap (λ (b : Bool). loggers ++ cond b (k ∷ []) []) is

        fresh : All (λ l. logger_of l ≢ k) lanes
        fresh = All-weaker (IsSeen n) (λ l. logger_of l ≢ k) (λ l s e. pairs_apart view apart s.0 n 0 s.1 within (sym s.2 ∙ e ∙ k_is)) lanes so_far.seen

        fresh_loggers : All (λ j. k ≢ j) loggers
        fresh_loggers = subst (All (λ j. k ≢ j)) so_far.takes.loggers_are (All-map (λ j. k ≢ j) logger_of lanes (All-weaker (λ l. logger_of l ≢ k) (λ l. k ≢ logger_of l) (λ l other e. other (sym e)) lanes fresh))

        keeps_next : KeepsPlace old new v k
        keeps_next = so_far.takes.passes.others v k (λ same. fresh_loggers)

        was_usable : is_some (image_here old.images.items k) ≡ true → All (IsUsable old) (loggers_out old view) → IsUsable old k
        was_usable is_out places = All-contains (IsUsable old) (loggers_out old view) k places
            (subst (λ (ks : List ℕ). Contains ks k)
            (sym (filter-append (λ (j : ℕ). is_some (image_here old.images.items j)) (take (n + 1) view) (drop (n + 1) view)) ∙ ap (loggers_out old) (take-append-drop (n + 1) view))
            (Contains-append_left (loggers_out old (take (n + 1) view)) (loggers_out old (drop (n + 1) view)) k (rw (next_is true is_out) (Contains-push loggers k))))

        pub next_usable : is_some (image_here old.images.items k) ≡ true → All (λ j. IsUsablePlace old v j (segments_of config j)) (loggers_out old view) → IsUsablePlace new v k (segments_of config k)
        next_usable is_out places = usable_then old new v k (segments_of config k) so_far.takes.passes.rows keeps_next (was_usable is_out places)

        later : All (IsSeen (n + 1)) lanes
        later = All-weaker (IsSeen n) (IsSeen (n + 1)) (λ l s. (s.0, (let lt = s.1 in omega (arith, lt)), s.2)) lanes so_far.seen

        pub lanes_next : (newer : Rest D) (lane : Lane D) → is_some (image_here old.images.items k) ≡ true → All (λ j. IsUsablePlace old v j (segments_of config j)) (loggers_out old view)
            → IsNewLane state new v (segments_of config k) lane → logger_of lane ≡ k → TakesPasses new newer v (k ∷ []) → AreLanesTaken old newer (lanes ++ lane ∷ []) (n + 1)
        lanes_next newer lane is_out places is_new logger taken =
            let only : (j : ℕ) → j ≢ k → All (λ l. j ≢ l) (k ∷ []) = λ j other. All-cons (λ l. j ≢ l) k [] other (All-nil (λ (l : ℕ). j ≢ l)) in
            record {
              takes = record {
                loggers_are = map_push logger_of lanes lane ∙ ap (λ (l : List ℕ). l ++ logger_of lane ∷ []) so_far.takes.loggers_are ∙ ap (λ (x : ℕ). loggers ++ x ∷ []) logger ∙ sym (next_is true is_out);
                each = All-push (IsNew old) lanes lane so_far.takes.each (record {
                  lane = is_new.lane;
                  owner = is_new.owner;
                  size = is_new.size ∙ ap (segments_of config) (sym logger);
                  bare = is_new.bare;
                  untaken = is_new.untaken;
                  pool = ap (pool_pass old v) logger ∙ sym keeps_next.pool ∙ ap (pool_pass new v) (sym logger) ∙ is_new.pool;
                  spindle = ap (spindle_pass old v) logger ∙ sym keeps_next.spindle ∙ ap (spindle_pass new v) (sym logger) ∙ is_new.spindle;
                });
                passes = record {
                  images = taken.images ∙ so_far.takes.passes.images;
                  rooms = taken.rooms ∙ so_far.takes.passes.rooms;
                  rows = rows_then old new newer so_far.takes.passes.rows taken.rows;
                  gone = subst (All (IsGone newer)) (sym (next_is true is_out)) (All-push (IsGone newer) loggers k
                      (all_both (IsGone new) (λ j. k ≢ j) (IsGone newer) loggers
                      (λ j none other. let q = taken.others v j (λ same. only j (λ e. other (sym e))) in (q.pool ∙ none.0, q.spindle ∙ none.1, q.held ∙ none.2)) so_far.takes.passes.gone fresh_loggers)
                      (All-head (IsGone newer) k [] taken.gone));
                  others = λ w j other.
                      let split : w ≡ v → All (λ l. j ≢ l) (loggers ++ k ∷ []) = λ same. subst (All (λ l. j ≢ l)) (next_is true is_out) (other same) in
                      keeps_then old new newer w j (so_far.takes.passes.others w j (λ same. all_front (λ l. j ≢ l) loggers k (split same))) (taken.others w j (λ same. only j (all_last (λ l. j ≢ l) loggers k (split same))));
                };
              };
              usable = All-push (λ (l : Lane D). IsUsable old (logger_of l)) lanes lane so_far.usable (subst (IsUsable old) (sym logger) (was_usable is_out places));
              pairs = all_pairs_push (λ l m. logger_of l ≢ logger_of m) lanes lane so_far.pairs (λ j d lt e. fresh j d lt (e ∙ logger));
              seen = All-push (IsSeen (n + 1)) lanes lane later (n, omega arith, logger ∙ k_is);
              few = let p = length_push lanes lane in omega (arith, p, so_far.few);
            }

        pub lanes_skip : is_some (image_here old.images.items k) ≡ false → AreLanesTaken old new lanes (n + 1)
        lanes_skip not_out =
            let takes = subst (λ (ls : List ℕ). TakesLanes state config old new v ls lanes) (sym (next_is false not_out ∙ append-nil loggers)) so_far.takes in
            let seen = later in
            let few : length lanes ≤ n + 1 = omega (arith, so_far.few) in
            assumption

      -- those that went out may come back
      pub may_put_back : CanPutLanes state new v lanes
      may_put_back = record {
        whole = All-weaker (IsNew old) (λ l. IsLane state l × (taken_in l ≡ None)) (λ l one. (one.lane, one.untaken)) lanes so_far.takes.each;
        bare = all_both (λ (l : Lane D). IsUsable old (logger_of l)) (λ (l : Lane D). IsGone new (logger_of l)) (λ l. IsBarePlace new v (logger_of l)) lanes
            (λ l usable none. record { place = place_then old new v (logger_of l) so_far.takes.passes.rows usable.place; pool = none.0; spindle = none.1; held = none.2 }) so_far.usable
            (all_of_map logger_of (IsGone new) lanes (subst (All (IsGone new)) (sym so_far.takes.loggers_are) so_far.takes.passes.gone));
        apart = so_far.pairs;
      }

      pub all_back : (last : Rest D) → PutsLanes new last v lanes → IsSameRest old last
      all_back last puts = record {
        images = puts.images ∙ so_far.takes.passes.images;
        rooms = puts.rooms ∙ so_far.takes.passes.rooms;
        rows = rows_then old new last so_far.takes.passes.rows puts.rows;
        places = λ w k. ⊎_elim (λ e. subst (λ (x : ℕ). KeepsPlace old last x k) (sym e) (own k)) (λ other. far w k (λ same. absurd (other same)) (λ same. absurd (other same))) (cases_eq w v);
      }
        where
          far : (w k : ℕ) → (w ≡ v → All (λ l. k ≢ l) loggers) → (w ≡ v → All (λ l. k ≢ logger_of l) lanes) → KeepsPlace old last w k
          far w k a b = keeps_then old new last w k (so_far.takes.passes.others w k a) (puts.others w k b)

          own : (k : ℕ) → KeepsPlace old last v k
          own k = ⊎_elim
              (λ has.
              let l = of_map logger_of lanes k has in
              let one = All-contains (IsNew old) lanes l.0 so_far.takes.each l.1 in
              let usable = All-contains (λ (m : Lane D). IsUsable old (logger_of m)) lanes l.0 so_far.usable l.1 in
              let back = All-contains (HasBack last v) lanes l.0 puts.back l.1 in
              subst (KeepsPlace old last v) l.2
              (record { pool = back.pool ∙ sym one.pool; spindle = back.spindle ∙ sym one.spindle; held = back.held ∙ ap (map (λ (h : HeldSegment D). (h.index, part_of h.segment))) one.bare ∙ sym usable.held }))
              (λ never.
              let none = all_member (λ (j : ℕ). k ≢ j) (map logger_of lanes) (λ j has e. never (subst (Contains (map logger_of lanes)) (sym e) has)) in
              far v k (λ same. subst (All (λ j. k ≢ j)) so_far.takes.loggers_are none) (λ same. all_of_map logger_of (λ (j : ℕ). k ≢ j) lanes none))
              (is_member (map logger_of lanes) k)

  -- a rest in which nothing changed
  pub can_after_same : (state : D → State) (a b : Rest D) (v : ℕ) (lanes : List (Lane D)) → IsSameRest a b → CanPutLanes state a v lanes → CanPutLanes state b v lanes
  can_after_same state a b v lanes same can = record {
    whole = can.whole;
    bare = All-weaker (λ l. IsBarePlace a v (logger_of l)) (λ l. IsBarePlace b v (logger_of l)) (λ l bare. bare_then a b v (logger_of l) same.rows (same.places v (logger_of l)) bare) lanes can.bare;
    apart = can.apart;
  }

  pub puts_after_same : (a b c : Rest D) (v : ℕ) (lanes : List (Lane D)) → IsSameRest a b → PutsLanes b c v lanes → PutsLanes a c v lanes
  puts_after_same a b c v lanes same puts = record {
    images = puts.images ∙ same.images;
    rooms = puts.rooms ∙ same.rooms;
    rows = rows_then a b c same.rows puts.rows;
    back = puts.back;
    others = λ w k other. keeps_then a b c w k (same.places w k) (puts.others w k other);
  }

  -- one step of the loop over loggers
  pub lanes_step : (state : D → State) (config : Config) (view : List ℕ) (v : ℕ) → AreApart view → (old new newer : Rest D) (lanes after : List (Lane D)) (n : ℕ) → AreLanesTaken state config view v old new lanes n
      → (k : ℕ) → n < length view → k ≡ slice_index_or view n 0 → All (λ j. IsUsablePlace old v j (segments_of config j)) (loggers_out old view)
      → TakesOneLane state config (is_some (image_here new.images.items k)) new newer v k lanes after → AreLanesTaken state config view v old newer after (n + 1)
  lanes_step state config view v apart old new newer lanes after n so_far k within k_is places takes = ⊎_elim
      (λ is_true.
      let t = subst (λ (b : Bool). TakesOneLane state config b new newer v k lanes after) is_true takes in
      rw t.1 (lanes_next state config view v apart old new lanes n so_far k within k_is newer t.0 (sym same ∙ is_true) places t.2 t.3 t.4))
      (λ is_false.
      let t = subst (λ (b : Bool). TakesOneLane state config b new newer v k lanes after) is_false takes in
      rw (t.1, t.0) (lanes_skip state config view v apart old new lanes n so_far k within k_is (sym same ∙ is_false)))
      (cases_Bool (is_some (image_here new.images.items k)))
    where
      same : is_some (image_here new.images.items k) ≡ is_some (image_here old.images.items k)
      same = ap is_some (same_out state config view v apart old new lanes n so_far k)
