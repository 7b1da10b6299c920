-- Blocks that are read and written again.
use Rattle.std.proofs.Common.{◌≡◌, ◌⊎◌, inl, inr, ⊎_elim, ◌<◌, ◌≤◌, ◌+◌, ◌^◌, ℕ, zero, suc, Bool, true, false, cond, ◌||◌, ◌&&◌, not, List, [], ◌∷◌, ◌++◌, map, length, take, Option, None, Some, Result, Ok, Err, refl, sym, ap, subst, ◌∙◌, arith}
use Rattle.std.specs.Prelude.{Contains, IsTrue, IsSome, OnOk, slice_get, slice_index_or, position, unwrap_or}
use Rattle.std.specs.List.{prefix_len}
use Rattle.wol_model.proofs.Counts.{not_true}
use Rattle.std.specs.List.{AllByRecursion, AllZip, list_any, range_with_len, zip}
use Rattle.std.proofs.lemmas.Bool.{cases_lt}
use Rattle.std.proofs.lemmas.Option.{same_Some, slice_get_within}
use Rattle.std.proofs.lemmas.List.{append-nil, length-take-le}
use Rattle.std.proofs.lemmas.List.Sums.{sum_by-take-le}
use Rattle.wol_disk.specs.Disk.{State, Block}
use Rattle.spin_model.specs.Spun.{state_of}
use Rattle.spin_model.specs.declared.spun.Spun.{Spun}
use Rattle.turn_lock.specs.Histories.{Entry, Begins}
use Rattle.turn_lock.specs.Passes.{pass_mine, pass_number}
use Rattle.seg_pool.specs.Holders.{Took}
use Rattle.seg_pool.specs.Operations.{operation_of}
use Rattle.logger.specs.Lanes.{HasNoRoom, first_count, held_in, pool_of, logger_of}
use Rattle.log_segment.specs.Records.{count_of}
use Rattle.log_segment.specs.declared.item.Item.{Item}
use Rattle.logger.specs.declared.lane.HeldSegment.{HeldSegment}
use Rattle.manager.specs.Offers.{IsTurnedAway}
use Rattle.logger.specs.declared.lane.Lane.{Lane}
use Rattle.offload_policy.specs.Placing.{may_hold}
use Rattle.offload_policy.specs.declared.Room.{Room}
use Rattle.offload_policy.specs.declared.Room.TheVariants.{Unknown, Yes, No}
use Rattle.wol_model.specs.Blocks.{Write}
use Rattle.wol_model.specs.History.{Operation, Read, Kept, Broke, worker, writes, flight_of, IsCut}
use Rattle.wol_model.specs.Index.{Indexed, listed_in, is_covered}
use Rattle.wol_model.specs.Placing.{Home as AtHome, Log as InLog, Full as Nowhere, place, log_or}
use Rattle.wol_model.specs.Placing as placing
use Rattle.wol_model.specs.Recovered.{recovered}
use Rattle.wol_promise.specs.Policy.{Look, woken, rooms_but}
use Rattle.wol_promise.specs.Ruled.{Noted, entries_of}
use Rattle.wol_promise.proofs.Lists.{all_map, member_map}
use Rattle.manager.specs.Answers.{was_read, IsPlaceOf}
use Rattle.manager.specs.Groups.{AreItemsOf, HasRun, log_writes, placed_all, ruled_run, run_writes, run_written}
use Rattle.manager.proofs.GroupRecords.{first_long}
use Rattle.manager.specs.Causes.{AreCalm, NoneRose, PartRose}
use Rattle.manager.specs.Reading.{HasOnlyRead, LaneRead, NeedsSources, needs_of}
use Rattle.spin_model.specs.Operations.{use_of}
use Rattle.wol_promise.specs.Spindle.{needs_in}
use Rattle.log_cleaner.proofs.Cleaning.{of_inside}
use Rattle.log_cleaner.proofs.Lists.{some_in}
use Rattle.manager.specs.Seen.{look_of_manager}
use Rattle.manager.specs.Stands.{Keeps, IsReady, IsSameManager, Leaves, passed_in}
use Rattle.manager.specs.Stops.{Stops, TellsClaim}
use Rattle.manager.specs.Writing.{HasAnswered, HaveAnswered, is_in_log, NeedsHome, TellsFault, IsAsBefore, IsUntouched, ruled_place, takes_at}
use Rattle.manager.specs.declared.base.ManagerBase.{ManagerBase}
use Rattle.manager.specs.declared.manager.Manager.{Manager}
use Rattle.manager.specs.declared.part.Part.{Part}
use Rattle.manager.specs.declared.part.Part.TheVariants as part
use Rattle.manager.specs.declared.part.Place.{Place}
use Rattle.manager.specs.declared.part.Place.TheVariants as place_
use Rattle.manager.specs.declared.part.ReadRefusal.{ReadRefusal}
use Rattle.manager.specs.declared.part.ReadRefusal.TheVariants as refused_read
use Rattle.manager.specs.declared.part.Sources.{Sources}
use Rattle.manager.specs.declared.part.WriteRefusal.{WriteRefusal}
use Rattle.manager.specs.declared.part.WriteRefusal.TheVariants as refused
use Rattle.manager.proofs.Answered.{get_inside}
use Rattle.manager.proofs.Calm as calm_calls
use Rattle.manager.proofs.Placing.{rooms_are}
use Rattle.manager.proofs.ReadThrough.{zip_at, zip_length}
use Rattle.log_cleaner.specs.Chunks.{IsCopyOf, NoneHomed, is_within}
use Rattle.log_cleaner.specs.Copies.{AreCopies, Claims, one_more, array_of, indexes_of}
use Rattle.log_cleaner.proofs.Claiming.{HoldsOn, claims_of, fewer_read, holds_no_more, holds_read, holds_same}
use Rattle.log_cleaner.specs.Cleans.{CanClean, FindsAllEmpty, GoesOn, NoneHasRoom, covered_in}
use Rattle.log_cleaner.specs.Steps.{AreCopiesAt, AreCoveredIn, AreRead, Fails, HasBroken, HasCopied, HasRewritten, IsRefused, Rewrites}
use Rattle.log_cleaner.specs.Steps as steps
use Rattle.log_cleaner.specs.declared.answer.CleanFault.{CleanFault}
use Rattle.log_cleaner.specs.declared.answer.CleanFault.TheVariants.{DiskFault, VersionsSpent, NoMemory}
use Rattle.log_cleaner.proofs.Copying.{copies_plain, cut_some, keeps_plain, keeps_wrote, leaves_broken, read_content, unbroken}
use Rattle.log_cleaner.proofs.Stepping.{broken_then, calm_none, calm_once, calm_then, copied_then, empty_since, goes_none, goes_then, rose_of}
use Rattle.log_cleaner.proofs.Together.{Covered, all_awake, all_covered, all_home, all_next, all_unhomed, copies_at, copies_covered, copies_logged, copies_long, copies_same, read_front, writes_front}
use Rattle.log_cleaner.proofs.Tidying.{clash, not_so}

-- ---- Flags

index_true : (us : List Bool) (k : ℕ) → AllByRecursion (λ x. x ≡ true) us → k < length us → slice_index_or us k false ≡ true
index_true [] k all lt = absurd (omega (arith, lt))
index_true (u ∷ us) zero all lt = all.0
index_true (u ∷ us) (suc k) all lt = index_true us k all.1 (omega (arith, lt))

all_of_range : {X : Type 0} (P : X → Type 0) (f : ℕ → X) (a n : ℕ) → ((k : ℕ) → a ≤ k → k < a + n → P (f k)) → AllByRecursion P (map f (range_with_len a n))
all_of_range P f a zero each = tt
all_of_range P f a (suc n) each = (each a (omega arith) (omega arith), all_of_range P f (a + 1) n (λ k low high. each k (omega (arith, low)) (omega (arith, high))))

woken_awake : (us : List Bool) (q : ℕ → Bool) → AllByRecursion (λ x. x ≡ true) us → AllByRecursion (λ x. x ≡ true) (map (λ k. slice_index_or us k false || q k) (range_with_len 0 (length us)))
woken_awake us q all = all_of_range (λ (x : Bool). x ≡ true) (λ (k : ℕ). slice_index_or us k false || q k) 0 (length us) (λ k low high. (λ i. index_true us k all (omega (arith, high)) i || q k))

-- ---- Reads

module _ {D : Type 0} (tells : Bool) (state : D → State) (old new : Manager D) (can : CanClean old) (read : HasOnlyRead state old new) where
  read_pools : (k : ℕ) (o n : Lane D) → slice_get old.lanes.items k ≡ Some o → slice_get new.lanes.items k ≡ Some n → Begins (pass_mine (pool_of o)) (pass_mine (pool_of n))
  read_pools k o n is_o is_n = ([], append-nil (pass_mine (pool_of o)) ∙ sym (zip_at (LaneRead state) old.lanes.items new.lanes.items k o n read.lanes is_o is_n).pool)

  -- no block of the range is at home alone
  none_home : (first count : ℕ) → ((b : ℕ) → is_within first count b ≡ true → covered_in old b ≡ true) → list_any (λ b. not (covered_in old b)) (range_with_len first count) ≡ false
  none_home first count covered = not_so (list_any (λ b. not (covered_in old b)) (range_with_len first count)) (λ some.
      let s = some_in (λ b. not (covered_in old b)) first count some in
      let here : covered_in old s.item ≡ true = covered s.item (of_inside first count s.item s.low s.high) in
      let no : false ≡ true = sym (ap not here) ∙ s.passes in cc no)

  read_goes_on : new.down ≡ None → (first count : ℕ) → look_of_manager new ≡ woken (look_of_manager old) first count → ((b : ℕ) → is_within first count b ≡ true → covered_in old b ≡ true) → NeedsSources old new first count → GoesOn old new
  read_goes_on up first count look range needs = record {
    same = record { id = read.same.id; most = read.same.most };
    can = record {
      up = up;
      unhomed = subst (λ (es : List Indexed). NoneHomed (listed_in es)) (sym entries) can.unhomed;
      awake = subst (λ (us : List Bool). AllByRecursion (λ up. up ≡ true) us) (sym (ap (λ (l : Look). l.ups) look)) (woken_awake old.ups.items _ can.awake);
    };
    covered = λ b. ap (λ (es : List Indexed). is_covered (listed_in es) b) entries;
    home_up = ap (λ (l : Look). l.home_up) look ∙ ap (λ (t : Bool). old.home_up || t) (none_home first count range) ∙ or_false old.home_up;
    home_needs = same_needs needs.home.no_less (λ more. let no : false ≡ true = sym (none_home first count range) ∙ needs.home.exactly.0 more in cc no);
    lanes = zip_length (LaneRead state) old.lanes.items new.lanes.items read.lanes;
    pools = read_pools;
  }
    where
      entries : new.index.entries ≡ old.index.entries
      entries = ap (λ i. i.entries) read.index

      or_false : (t : Bool) → (t || false) ≡ t
      or_false true = refl
      or_false false = refl

      same_needs : {m n : ℕ} → m ≤ n → (m < n → ⊥) → n ≡ m
      same_needs {m} {n} le never = ⊎_elim (λ lt. absurd (never lt)) (λ ge. omega (arith, le, ge)) (cases_lt m n)

  pub read_copied : (first count : ℕ) (reply : List Block) → new.down ≡ None → look_of_manager new ≡ woken (look_of_manager old) first count → ((b : ℕ) → is_within first count b ≡ true → covered_in old b ≡ true) → NeedsSources old new first count → NoneRose state old new → Leaves tells state old new (Read first reply) [] worker
      → (IsTrue tells → (b : ManagerBase) (notes : List Noted) → Keeps tells state old b notes → Stops state old new None b notes []) → HasCopied tells state old new []
  read_copied first count reply up look range needs none leaves stops = record {
    goes_on = read_goes_on up first count look range needs;
    calm = calm_once state old new none (holds_read state old.lanes.items new.lanes.items read.lanes);
    keeps = keeps_plain tells state old new (Read first reply) [] refl refl leaves;
    copied = copies_plain tells state old new can.up (λ told. (None, fewer_read state old.lanes.items new.lanes.items read.lanes, stops told));
    next = let e = read.next in omega (arith, e);
  }

  pub read_broken : (p : Part) → new.down ≡ Some p → PartRose state old new p → Leaves tells state old new (Broke []) [] worker
      → (IsTrue tells → (b : ManagerBase) (notes : List Noted) → Keeps tells state old b notes → Stops state old new None b notes []) → HasBroken tells state old new p []
  read_broken p down rose leaves stops = record {
    down = down;
    rose = (old, goes_none old can, calm_none state old, rose_of state old new p rose, read_pools);
    leaves = leaves_broken tells state old new [] [] can.up leaves;
    copied = copies_plain tells state old new can.up (λ told. (None, fewer_read state old.lanes.items new.lanes.items read.lanes, stops told));
  }

-- ---- Places of covered blocks

not_at_home : (home_up : Bool) (ups rooms : List Bool) → place home_up true ups rooms ≡ AtHome → ⊥
not_at_home home_up ups rooms is = at home_up is
  where
    deeper : (o q : Option ℕ) → log_or o (log_or q Nowhere) ≡ AtHome → ⊥
    deeper (Some k) q e = cc
    deeper None (Some k) e = cc
    deeper None None e = cc

    at : (t : Bool) → place t true ups rooms ≡ AtHome → ⊥
    at true e = deeper (position (λ (l : Bool × Bool). l.0 && l.1) (zip ups rooms)) (position (λ (l : Bool × Bool). not l.0 && l.1) (zip ups rooms)) e
    at false e = deeper (position (λ (l : Bool × Bool). l.0 && l.1) (zip ups rooms)) (position (λ (l : Bool × Bool). not l.0 && l.1) (zip ups rooms)) e

none_awake : (home_up : Bool) (ups rooms : List Bool) → place home_up true ups rooms ≡ Nowhere → position (λ (l : Bool × Bool). l.0 && l.1) (zip ups rooms) ≡ None
none_awake home_up ups rooms is = at home_up is
  where
    deeper : (o : Option ℕ) (rest : placing.Place) → log_or o rest ≡ Nowhere → o ≡ None
    deeper (Some k) rest e = absurd (let wrong : InLog k ≡ Nowhere = e in cc)
    deeper None rest e = refl

    at : (t : Bool) → place t true ups rooms ≡ Nowhere → position (λ (l : Bool × Bool). l.0 && l.1) (zip ups rooms) ≡ None
    at true e = deeper (position (λ (l : Bool × Bool). l.0 && l.1) (zip ups rooms)) _ e
    at false e = deeper (position (λ (l : Bool × Bool). l.0 && l.1) (zip ups rooms)) _ e

-- a prefix as long as the list is all of it
all_in_prefix : {X : Type 0} (q : X → Bool) (xs : List X) → length xs ≤ prefix_len q xs → AllByRecursion (λ x. q x ≡ true) xs
all_in_prefix q [] le = tt
all_in_prefix q (x ∷ xs) le = at (q x) refl le (all_in_prefix q xs)
  where
    at : (t : Bool) → q x ≡ t → suc (length xs) ≤ cond t (1 + prefix_len q xs) 0 → (length xs ≤ prefix_len q xs → AllByRecursion (λ y. q y ≡ true) xs) → (q x ≡ true) × AllByRecursion (λ y. q y ≡ true) xs
    at true is le rest = (is, rest (omega (arith, le)))
    at false is le rest = absurd (omega (arith, le))

-- where no element passes each fails
fails_all : {X : Type 0} (p : X → Bool) (xs : List X) → position p xs ≡ None → AllByRecursion (λ x. p x ≡ false) xs
fails_all p xs none = all_map (λ x. not (p x) ≡ true) (λ x. p x ≡ false) (λ x is. not_true (p x) is) xs (all_in_prefix (λ x. not (p x)) xs (long (cases_lt (prefix_len (λ x. not (p x)) xs) (length xs))))
  where
    long : (prefix_len (λ x. not (p x)) xs < length xs) ⊎ (length xs ≤ prefix_len (λ x. not (p x)) xs) → length xs ≤ prefix_len (λ x. not (p x)) xs
    long (inl lt) = absurd (Rattle.std.proofs.lemmas.Option.none-some (prefix_len (λ x. not (p x)) xs) (sym none ∙ ap (λ (t : Bool). cond t (Some (prefix_len (λ x. not (p x)) xs)) None) (Rattle.std.proofs.lemmas.Bool.lt-ltb (prefix_len (λ x. not (p x)) xs) (length xs) lt)))
    long (inr le) = le

-- no logger that is awake has room
closed_at : (ups rooms : List Bool) → AllByRecursion (λ x. x ≡ true) ups → length rooms ≡ length ups → position (λ (l : Bool × Bool). l.0 && l.1) (zip ups rooms) ≡ None → (k : ℕ) (r : Bool) → slice_get rooms k ≡ Some r → r ≡ false
closed_at ups rooms all long none k r is =
    closed ups rooms all long (fails_all (λ (l : Bool × Bool). l.0 && l.1) (zip ups rooms) none) k r is
  where
    closed : (ups rooms : List Bool) → AllByRecursion (λ x. x ≡ true) ups → length rooms ≡ length ups → AllByRecursion (λ (l : Bool × Bool). (l.0 && l.1) ≡ false) (zip ups rooms) → (k : ℕ) (r : Bool) → slice_get rooms k ≡ Some r → r ≡ false
    closed ups [] all long fails k r is = absurd (Rattle.std.proofs.lemmas.Option.none-some r is)
    closed [] (x ∷ rooms) all long fails k r is = absurd (omega (arith, long))
    closed (u ∷ ups) (x ∷ rooms) all long fails zero r is = sym (same_Some x r is) ∙ (λ i. sym (all.0) i && x) ∙ fails.0
    closed (u ∷ ups) (x ∷ rooms) all long fails (suc k) r is = closed ups rooms all.1 (omega (arith, long)) fails.1 k r is

-- ---- Writes

-- a write of blocks that are covered
module _ {D : Type 0} (tells : Bool) (state : D → State) (old new : Manager D) (can : CanClean old) (ready : IsReady state old) (first : ℕ) (blocks : List Block) (some : 1 ≤ length blocks)
    (covered : (b : ℕ) → is_within first (length blocks) b ≡ true → covered_in old b ≡ true) where
  abbrev ruled : placing.Place
  ruled = ruled_place old new first blocks

  is_covered_first : list_any (is_covered (listed_in old.index.entries)) (range_with_len first (length blocks)) ≡ true
  is_covered_first = at (length blocks) refl some
    where
      here : is_covered (listed_in old.index.entries) first ≡ true
      here = covered first (Rattle.log_cleaner.proofs.Tidying.within_first first (length blocks) some)

      at : (n : ℕ) → length blocks ≡ n → 1 ≤ n → list_any (is_covered (listed_in old.index.entries)) (range_with_len first n) ≡ true
      at zero e le = absurd (omega (arith, le))
      at (suc n) e le = (λ i. here i || list_any (is_covered (listed_in old.index.entries)) (range_with_len (first + 1) n))

  ruled_is : ruled ≡ place old.home_up true old.ups.items (rooms_but (passed_in new.rooms.items) old.ups.items)
  ruled_is = ap (λ (c : Bool). place old.home_up c old.ups.items (rooms_but (passed_in new.rooms.items) old.ups.items)) is_covered_first

  never_home : ruled ≡ AtHome → ⊥
  never_home is = not_at_home old.home_up old.ups.items (rooms_but (passed_in new.rooms.items) old.ups.items) (sym ruled_is ∙ is)

  -- the pools of lanes
  gained : (took : Bool) (r : Room) (o n : Lane D) → HasAnswered (length blocks) took r o n → Begins (pass_mine (pool_of o)) (pass_mine (pool_of n))
  gained true r o n h = ⊎_elim
      (λ same. ([], append-nil (pass_mine (pool_of o)) ∙ sym same))
      (λ more. ((pass_number (pool_of o), operation_of (Took (Some more.0))) ∷ [], sym more.1))
      h.1.pool
  gained false No o n h = ((pass_number (pool_of o), operation_of (Took None)) ∷ [], sym h.pool)
  gained false Unknown o n h = ([], append-nil (pass_mine (pool_of o)) ∙ sym (ap (λ (l : Lane D). pass_mine (pool_of l)) h))
  gained false Yes o n h = absurd h

  write_pools : (answer : Result Place WriteRefusal) → HaveAnswered (length blocks) (takes_at ruled answer) new.rooms.items old.lanes.items new.lanes.items
      → (k : ℕ) (o n : Lane D) → slice_get old.lanes.items k ≡ Some o → slice_get new.lanes.items k ≡ Some n → Begins (pass_mine (pool_of o)) (pass_mine (pool_of n))
  write_pools answer all k o n is_o is_n =
      let lt = slice_get_within old.lanes.items k o is_o in let long = all.noted in
      let r = get_inside new.rooms.items k (omega (arith, lt, long)) in
      gained (takes_at ruled answer k) r.0 o n (all.each k r.0 o n r.1 is_o is_n)

  -- a lane that didn't take the write holds what it held
  held_untaken : (answer : Result Place WriteRefusal) → HaveAnswered (length blocks) (takes_at ruled answer) new.rooms.items old.lanes.items new.lanes.items
      → (k : ℕ) (o n : Lane D) → slice_get old.lanes.items k ≡ Some o → slice_get new.lanes.items k ≡ Some n → takes_at ruled answer k ≡ false → held_in n ≡ held_in o
  held_untaken answer all k o n is_o is_n none =
      let lt = slice_get_within old.lanes.items k o is_o in let long = all.noted in
      let r = get_inside new.rooms.items k (omega (arith, lt, long)) in
      held_by r.0 (subst (λ (t : Bool). HasAnswered (length blocks) t r.0 o n) none (all.each k r.0 o n r.1 is_o is_n))
    where
      held_by : (r : Room) → HasAnswered (length blocks) false r o n → held_in n ≡ held_in o
      held_by No h = h.held
      held_by Unknown h = ap (λ (l : Lane D). held_in l) h
      held_by Yes h = absurd h

  -- and one that did holds what it held too
  write_holds : (lane : ℕ) (answer : Place) → ruled ≡ InLog lane → (done : Type 0) (claimed : Option (Spun D)) → TellsClaim tells state done old.lanes.items new.lanes.items claimed
      → HaveAnswered (length blocks) (takes_at ruled (Ok answer)) new.rooms.items old.lanes.items new.lanes.items → HoldsOn old.lanes.items new.lanes.items
  write_holds lane answer is done None none all k o n is_o is_n h has kept = holds_no_more old.lanes.items new.lanes.items none k o n is_o is_n h has kept
  write_holds lane answer is done (Some part) c all k o n is_o is_n h has kept = at (Rattle.std.proofs.lemmas.Bool.cases_eq k c.place) (Rattle.std.proofs.lemmas.Bool.cases_eq lane k)
    where
      taken_at : (j : ℕ) → (lane ≡ j → ⊥) → takes_at ruled (Ok answer) j ≡ false
      taken_at j other = ap (is_in_log j) is ∙ Rattle.std.proofs.lemmas.Bool.ne_eqb lane j other

      long_held : held_in c.after ≡ held_in c.before → ⊥
      long_held same = let e = ap length (sym c.held ∙ same) in let l = Rattle.std.proofs.Common.length-append (held_in c.before) (c.segment ∷ []) in omega (arith, e, l)

      at : (k ≡ c.place) ⊎ (k ≡ c.place → ⊥) → (lane ≡ k) ⊎ (lane ≡ k → ⊥) → Contains (indexes_of n) h.index
      at (inl same) taken =
          let was : o ≡ c.before = same_Some o c.before (sym is_o ∙ ap (slice_get old.lanes.items) same ∙ c.was_lane) in
          let now : n ≡ c.after = same_Some n c.after (sym is_n ∙ ap (slice_get new.lanes.items) same ∙ c.is_lane) in
          let still : Contains (held_in n) h = subst (λ (l : Lane D). Contains (held_in l) h) (sym now) (subst (λ (hs : List (HeldSegment D)). Contains hs h) (sym c.held)
          (Rattle.std.proofs.lemmas.List.Elements.Contains-append_left (held_in c.before) (c.segment ∷ []) h (subst (λ (l : Lane D). Contains (held_in l) h) was has))) in
          member_map (λ (g : HeldSegment D). g.index) (held_in n) h still
      at (inr other) (inr free) = holds_same o n (held_untaken (Ok answer) all k o n is_o is_n (taken_at k free)) h has
      at (inr other) (inl took) = absurd (long_held (held_untaken (Ok answer) all c.place c.before c.after c.was_lane c.is_lane (taken_at c.place (λ same. other (sym took ∙ same)))))

  -- where the rule ended without a place, each lane was turned away
  all_shut : ruled ≡ Nowhere → HaveAnswered (length blocks) (takes_at ruled (Err refused.Full)) new.rooms.items old.lanes.items new.lanes.items → (k : ℕ) (r : Room) → slice_get new.rooms.items k ≡ Some r → may_hold r ≡ false
  all_shut nowhere all k r is = closed_at old.ups.items (map may_hold new.rooms.items) can.awake (Rattle.std.proofs.lemmas.List.length-map new.rooms.items may_hold ∙ sym flags)
      (ap (λ (rs : List Bool). position (λ (l : Bool × Bool). l.0 && l.1) (zip old.ups.items rs)) (sym (rooms_are old.ups.items new.rooms.items flags))
      ∙ none_awake old.home_up old.ups.items (rooms_but (passed_in new.rooms.items) old.ups.items) (sym ruled_is ∙ nowhere))
      k (may_hold r) (Rattle.std.proofs.lemmas.Option.slice_get-map may_hold new.rooms.items k ∙ ap (Rattle.std.specs.Option.option_map may_hold) is)
    where
      flags : length old.ups.items ≡ length new.rooms.items
      flags = ready.ready.flags ∙ sym all.noted

  all_turned : ruled ≡ Nowhere → HaveAnswered (length blocks) (takes_at ruled (Err refused.Full)) new.rooms.items old.lanes.items new.lanes.items → (k : ℕ) (o n : Lane D) → slice_get old.lanes.items k ≡ Some o → slice_get new.lanes.items k ≡ Some n
      → IsTurnedAway (length blocks) o n
  all_turned nowhere all k o n is_o is_n =
      let lt = slice_get_within old.lanes.items k o is_o in let long = all.noted in
      let r = get_inside new.rooms.items k (omega (arith, lt, long)) in
      turned r.0 (all_shut nowhere all k r.0 r.1) (all.each k r.0 o n r.1 is_o is_n)
    where
      turned : (r : Room) → may_hold r ≡ false → HasAnswered (length blocks) (takes_at ruled (Err refused.Full) k) r o n → IsTurnedAway (length blocks) o n
      turned Unknown no_ h = absurd (let wrong : true ≡ false = no_ in cc)
      turned Yes no_ h = absurd (let wrong : true ≡ false = no_ in cc)
      turned No no_ h = h

  -- each pool was found empty
  all_empty : ruled ≡ Nowhere → HaveAnswered (length blocks) (takes_at ruled (Err refused.Full)) new.rooms.items old.lanes.items new.lanes.items → FindsAllEmpty old new
  all_empty nowhere all k o n is_o is_n = let h = all_turned nowhere all k o n is_o is_n in (
    pass_mine (pool_of o),
    ([], append-nil (pass_mine (pool_of o))),
    h.pool ∙ (λ i. pass_mine (pool_of o) ++ (sym (h.same.pool.1) i, operation_of (Took None)) ∷ []),
  )

  -- and no segment has room
  none_has_room : ruled ≡ Nowhere → HaveAnswered (length blocks) (takes_at ruled (Err refused.Full)) new.rooms.items old.lanes.items new.lanes.items → NoneHasRoom (length blocks) new
  none_has_room nowhere all = by_places (λ (l : Lane D). HasNoRoom (length blocks) (held_in l)) new.lanes.items (λ k n is_n.
      let lt = slice_get_within new.lanes.items k n is_n in let long = all.same in
      let o = get_inside old.lanes.items k (omega (arith, lt, long)) in
      let h = all_turned nowhere all k o.0 n o.1 is_n in
      subst (λ (hs : List (HeldSegment D)). HasNoRoom (length blocks) hs) (sym h.held) h.full)
    where
      by_places : {X : Type 0} (P : X → Type 0) (xs : List X) → ((k : ℕ) (x : X) → slice_get xs k ≡ Some x → P x) → AllByRecursion P xs
      by_places P [] each = tt
      by_places P (x ∷ xs) each = (each zero x refl, by_places P xs (λ k y is. each (suc k) y is))

  -- ---- A write that was answered

  write_goes_on : (lane : ℕ) (answer : Place) (ws : List Write) → ruled ≡ InLog lane → NeedsHome ruled (Ok answer) old new → look_of_manager new ≡ placed_all (InLog lane) (look_of_manager old) ws → AllByRecursion (Covered lane (listed_in old.index.entries)) ws → IsSameManager old new
      → new.down ≡ None → HaveAnswered (length blocks) (takes_at ruled (Ok answer)) new.rooms.items old.lanes.items new.lanes.items → GoesOn old new
  write_goes_on lane answer ws is needs l all_in same up all = record {
    same = same;
    can = record {
      up = up;
      unhomed = subst (λ (m : Look). NoneHomed m.listed) (sym l) (all_unhomed lane ws (look_of_manager old) can.unhomed);
      awake = subst (λ (m : Look). AllByRecursion (λ up. up ≡ true) m.ups) (sym l) (all_awake lane ws (look_of_manager old) can.awake);
    };
    covered = λ b. ap (λ (m : Look). is_covered m.listed b) l ∙ all_covered lane ws (look_of_manager old) can.unhomed all_in b;
    home_up = ap (λ (m : Look). m.home_up) l ∙ all_home lane ws (look_of_manager old);
    home_needs = ap (λ es. needs_in (map (λ (e : Entry). use_of e.1) es)) (subst (λ (p : placing.Place). NeedsHome p (Ok answer) old new) is needs);
    lanes = all.same;
    pools = write_pools (Ok answer) all;
  }

  -- ---- A write that was refused before a disk was tried

  -- nothing was written, and at most pools were asked
  unwritten : (answer : Result Place WriteRefusal) → IsSameManager old new → new.down ≡ old.down → new.home_up ≡ old.home_up → needs_of new.spindle ≡ needs_of old.spindle → new.ups.items ≡ old.ups.items → new.next ≡ old.next → new.index.entries ≡ old.index.entries
      → HaveAnswered (length blocks) (takes_at ruled answer) new.rooms.items old.lanes.items new.lanes.items → NoneRose state old new → ((k : ℕ) → takes_at ruled answer k ≡ false) → Leaves tells state old new Kept (passed_in new.rooms.items) worker
      → (IsTrue tells → (claimed : Option (Spun D)) × Claims tells state old.lanes.items new.lanes.items claimed × ((b : ManagerBase) (notes : List Noted) → Keeps tells state old b notes → Stops state old new claimed b notes [])) → HasCopied tells state old new []
  unwritten answer same down home needs ups next entries all none untaken leaves stops = record {
    goes_on = record {
      same = same;
      can = record {
        up = down ∙ can.up;
        unhomed = subst (λ (es : List Indexed). NoneHomed (listed_in es)) (sym entries) can.unhomed;
        awake = subst (λ (us : List Bool). AllByRecursion (λ up. up ≡ true) us) (sym ups) can.awake;
      };
      covered = λ b. ap (λ (es : List Indexed). is_covered (listed_in es) b) entries;
      home_up = home;
      home_needs = needs;
      lanes = all.same;
      pools = write_pools answer all;
    };
    calm = calm_once state old new none (λ k o n is_o is_n h has kept. holds_same o n (held_untaken answer all k o n is_o is_n (untaken k)) h has);
    keeps = keeps_plain tells state old new Kept (passed_in new.rooms.items) refl refl leaves;
    copied = copies_plain tells state old new can.up stops;
    next = omega (arith, next);
  }

-- ---- Behind reads

-- copies of what was read before are at each moment what the volume has
copies_after_read : {D : Type 0} (tells : Bool) (state : D → State) (old mid new : Manager D) (ws : List Write) → HasCopied tells state old mid [] → AllByRecursion (λ (w : Write). IsSome w.version) ws
    → (IsTrue tells → (b : ManagerBase) (notes : List Noted) → Keeps tells state old b notes → AllByRecursion (IsCopyOf (array_of b notes)) ws)
    → (IsTrue tells → (claimed : Option (Spun D)) × Claims tells state mid.lanes.items new.lanes.items claimed × ((b : ManagerBase) (notes : List Noted) → Keeps tells state mid b notes → Stops state mid new claimed b notes ws)) → AreCopies tells state old new ws
copies_after_read tells state old mid new ws first some same stops = record {
  same = same;
  any_moment = λ told b notes k.
      let k1 = subst (Keeps tells state mid b) (append-nil notes) (first.keeps b notes (look_of_manager mid) k) in
      let s = stops told in
      one_more old mid new s.0 (first.copied.any_moment told b notes k) s.1 (λ before after was is home segments h zip.
      cut_some b.volume.began.array (writes (entries_of notes)) ws (recovered b.volume.began.owner home segments) some (same told b notes k)
      (subst (λ (f : List Write). IsCut b.volume.began.array (writes (entries_of notes)) f (recovered b.volume.began.owner home segments)) (alone (flight_of (entries_of notes)) (unbroken tells state mid b notes k1 first.goes_on.can.up))
      (s.2 b notes k1 before after was is home segments h zip)));
  logged = some;
}
  where
    alone : (f : Option (List Write)) → f ≡ None → unwrap_or f ws ≡ ws
    alone f is = ap (λ (o : Option (List Write)). unwrap_or o ws) is

-- what a run of writes answered, of blocks that had been read, and how many of them were tried
pub record WriteTold {D : Type 0} (tells : Bool) (state : D → State) (mid new : Manager D) (items : List Item) (from : List Block) (tried : ℕ) (answer : Result Place WriteRefusal) : Type 0 where
  pub same : IsSameManager mid new
  pub run : HasRun tells state items from tried answer (ruled_run mid new items from) mid new
  pub placed : IsPlaceOf (map logger_of mid.lanes.items) answer (ruled_run mid new items from)
  pub answered : HaveAnswered (first_count items) (takes_at (ruled_run mid new items from) answer) new.rooms.items mid.lanes.items new.lanes.items
  pub waking : NeedsHome (ruled_run mid new items from) answer mid new
  pub down : (p : Part) → answer ≡ Err (refused.Down p) → mid.down ≡ Some p
  pub versions : answer ≡ Err refused.VersionsSpent → mid.next ≡ 2 ^ 63
  pub unspent : mid.next ≡ 2 ^ 63 → answer ≡ Err refused.VersionsSpent
  pub fault : TellsFault state answer mid new
  pub unchanged : IsAsBefore answer mid new
  pub calm : OnOk answer (NoneRose state mid new)

module _ {D : Type 0} (tells : Bool) (state : D → State) (old mid new : Manager D) (can : CanClean old) (ready : IsReady state mid) (i : Item) (rest : List Item) (from : List Block) (tried : ℕ) (some : 1 ≤ i.count)
    (enough : count_of (i ∷ rest) ≤ length from) (covered : AreCoveredIn old (i ∷ rest)) (read : HasCopied tells state old mid []) (entries : mid.index.entries ≡ old.index.entries)
    (content : IsTrue tells → (b : ManagerBase) (notes : List Noted) → Keeps tells state old b notes → AreRead (array_of b notes) (i ∷ rest) from) where
  abbrev items : List Item
  items = i ∷ rest

  abbrev first : List Block
  first = take i.count from

  long : length first ≡ i.count
  long = first_long i rest from enough

  some_first : 1 ≤ length first
  some_first = let l = long in omega (arith, l, some)

  covered_first : (b : ℕ) → is_within i.lbn (length first) b ≡ true → covered_in mid b ≡ true
  covered_first b is = read.goes_on.covered b ∙ covered.0 b (subst (λ (n : ℕ). is_within i.lbn n b ≡ true) long is)

  same_next : mid.next ≡ old.next
  same_next = let e = read.next in omega (arith, e)

  abbrev ws : List Write
  ws = log_writes mid.next (take tried items) from

  enough_tried : count_of (take tried items) ≤ length from
  enough_tried = let s = sum_by-take-le (λ (j : Item). j.count) items tried in omega (arith, s, enough)

  are_copies : AreCopiesAt old.next (take tried items) ws
  are_copies = subst (λ (n : ℕ). AreCopiesAt n (take tried items) ws) same_next (copies_at mid.next (take tried items) from enough_tried)

  are_logged : AllByRecursion (λ (w : Write). IsSome w.version) ws
  are_logged = copies_logged mid.next (take tried items) from

  are_same : IsTrue tells → (b : ManagerBase) (notes : List Noted) → Keeps tells state old b notes → AllByRecursion (IsCopyOf (array_of b notes)) ws
  are_same told b notes k = copies_same (array_of b notes) mid.next (take tried items) from enough_tried (read_front (array_of b notes) tried items from (content told b notes k))

  front : (P : Item → Type 0) (k : ℕ) (js : List Item) → AllByRecursion P js → AllByRecursion P (take k js)
  front P zero js all = tt
  front P (suc k) [] all = tt
  front P (suc k) (j ∷ js) all = (all.0, front P k js all.1)

  are_covered : (lane : ℕ) → AllByRecursion (Covered lane (listed_in mid.index.entries)) ws
  are_covered lane = subst (λ (es : List Indexed). AllByRecursion (Covered lane (listed_in es)) ws) (sym entries)
      (copies_covered lane (listed_in old.index.entries) old.next (take tried items) ws are_copies (front (λ (j : Item). (b : ℕ) → is_within j.lbn j.count b ≡ true → covered_in old b ≡ true) tried items covered))

  answered_first : (answer : Result Place WriteRefusal) → HaveAnswered i.count (takes_at (ruled_run mid new items from) answer) new.rooms.items mid.lanes.items new.lanes.items
      → HaveAnswered (length first) (takes_at (ruled_place mid new i.lbn first) answer) new.rooms.items mid.lanes.items new.lanes.items
  answered_first answer all = subst (λ (n : ℕ). HaveAnswered n (takes_at (ruled_place mid new i.lbn first) answer) new.rooms.items mid.lanes.items new.lanes.items) (sym long) all

  no_home : ruled_place mid new i.lbn first ≡ AtHome → ⊥
  no_home is = never_home tells state mid new read.goes_on.can ready i.lbn first some_first covered_first is

  stops_of : (answer : Result Place WriteRefusal) → WriteTold tells state mid new items from tried answer → IsTrue tells → (claimed : Option (Spun D)) × Claims tells state mid.lanes.items new.lanes.items claimed
      × ((b : ManagerBase) (notes : List Noted) → Keeps tells state mid b notes → Stops state mid new claimed b notes (run_writes mid.next (take tried items) from answer))
  stops_of answer t told = (t.run.claimed, claims_of tells state _ mid.lanes.items new.lanes.items t.run.claimed t.answered.same t.run.claims, λ b notes k. t.run.any_moment told b notes k)

  logged_ends : (logger : ℕ) → WriteTold tells state mid new items from tried (Ok (place_.Log logger)) → (r : HasRewritten tells state (take tried items) old new) × (r.writes ≡ ws)
  logged_ends logger t =
      let lane = t.placed.0 in let is = t.placed.2 in
      let look = t.run.look ∙ ap (λ (p : placing.Place). placed_all p (look_of_manager mid) ws) is in
      let next = ap (λ (l : Look). l.next) look ∙ all_next lane ws (look_of_manager mid) in
      let goes = write_goes_on tells state mid new read.goes_on.can ready i.lbn first some_first covered_first lane (place_.Log logger) ws is t.waking look (are_covered lane) t.same
      (t.fault ∙ read.goes_on.can.up) (answered_first (Ok (place_.Log logger)) t.answered) in (
        record {
          writes = ws;
          are = are_copies;
          copied = record {
            goes_on = goes_then old mid new read.goes_on goes;
            calm = calm_then state old mid new read.goes_on goes read.calm (calm_once state mid new t.calm
                (write_holds tells state mid new read.goes_on.can ready i.lbn first some_first covered_first lane (place_.Log logger) is _ t.run.claimed t.run.claims (answered_first (Ok (place_.Log logger)) t.answered)));
            keeps = Rattle.log_cleaner.proofs.Copying.keeps_then tells state old mid new [] ws can.up read.keeps (keeps_wrote tells state mid new ws (passed_in new.rooms.items)
                (let l = copies_long old.next (take tried items) ws are_copies in let k = length-take-le tried items t.run.are.within in let one = t.run.are.some refl in omega (arith, l, k, one)) read.goes_on.can.up t.run.stands);
            copied = copies_after_read tells state old mid new ws read are_logged are_same (stops_of (Ok (place_.Log logger)) t);
            next = let f = same_next in omega (arith, next, f);
          };
          look = look_of_manager mid;
          lane = lane;
          listed_was = ap listed_in entries;
          next_was = same_next;
          listed_is = ap (λ (l : Look). l.listed) look;
        },
        refl,
      )

  -- nothing was written
  none_copied : (e : WriteRefusal) → run_writes mid.next (take tried items) from (Err e) ≡ [] → run_written [] (Err e) ≡ Kept → WriteTold tells state mid new items from tried (Err e) → new.down ≡ mid.down → new.home_up ≡ mid.home_up → needs_of new.spindle ≡ needs_of mid.spindle → new.ups.items ≡ mid.ups.items
      → new.next ≡ mid.next → new.index.entries ≡ mid.index.entries → NoneRose state mid new → ((k : ℕ) → takes_at (ruled_place mid new i.lbn first) (Err e) k ≡ false) → HasCopied tells state old new []
  none_copied e none kept t down home needs ups next same calm untaken = copied_then tells state old mid new [] [] can read
      (unwritten tells state mid new read.goes_on.can ready i.lbn first some_first covered_first (Err e) t.same down home needs ups next same (answered_first (Err e) t.answered) calm untaken
      (subst (λ (o : Operation). Leaves tells state mid new o (passed_in new.rooms.items) worker) (ap (λ (vs : List Write). run_written vs (Err e)) none ∙ kept) t.run.stands)
      (λ told. let s = stops_of (Err e) t told in (s.0, s.1, λ b notes k. subst (Stops state mid new s.0 b notes) none (s.2 b notes k))))

  -- no disk was asked, of a lane that was turned away neither
  untouched_calm : IsUntouched mid new → NoneRose state mid new
  untouched_calm u = calm_calls.none_home state mid new ready (ap (λ (m : Manager D). (state_of state m.home).faults) u.rest) (ap (λ (m : Manager D). m.lanes.items) u.rest)

  shut_calm : WriteTold tells state mid new items from tried (Err refused.Full) → NoneRose state mid new
  shut_calm t = record {
    home = ap (λ (m : Manager D). (state_of state m.home).faults) t.unchanged.rest;
    held = λ k o n is_o is_n.
        let lt = slice_get_within mid.lanes.items k o is_o in let noted = t.answered.noted in
        let r = get_inside new.rooms.items k (omega (arith, lt, noted)) in
        subst (λ (hs : List (HeldSegment D)). AreCalm state (held_in o) hs) (sym (held_same r.0 o n (t.answered.each k r.0 o n r.1 is_o is_n))) ((calm_calls.none_home state mid mid ready refl refl).held k o o is_o is_o);
  }
    where
      held_same : (r : Room) (o n : Lane D) → HasAnswered i.count false r o n → held_in n ≡ held_in o
      held_same Unknown o n h = ap (λ (l : Lane D). held_in l) h
      held_same No o n h = h.held
      held_same Yes o n h = absurd h

  full_ends : WriteTold tells state mid new items from tried (Err refused.Full) → IsRefused tells state i.count old new
  full_ends t =
      let rest_ = t.unchanged.rest in record {
        copied = none_copied refused.Full refl refl t t.fault (ap (λ (m : Manager D). m.home_up) rest_) (ap (λ (m : Manager D). needs_of m.spindle) rest_) (ap (λ (m : Manager D). m.ups.items) rest_) (ap (λ (m : Manager D). m.next) rest_) t.unchanged.index (shut_calm t) (λ k. refl);
        entries = t.unchanged.index ∙ entries;
        next = below (ready.next.1) same_next (λ is. let wrong = t.unspent is in cc);
        empty = empty_since old mid new read.goes_on (all_empty tells state mid new read.goes_on.can ready i.lbn first some_first covered_first t.placed (answered_first (Err refused.Full) t.answered));
        room = subst (λ (n : ℕ). NoneHasRoom n new) long (none_has_room tells state mid new read.goes_on.can ready i.lbn first some_first covered_first t.placed (answered_first (Err refused.Full) t.answered));
      }
    where
      below : {m n k : ℕ} → m ≤ k → m ≡ n → (m ≡ k → ⊥) → n < k
      below {m} {n} {k} le e ne = ⊎_elim (λ lt. omega (arith, lt, e)) (λ ge. absurd (ne (omega (arith, le, ge)))) (cases_lt m k)

  spent_ends : WriteTold tells state mid new items from tried (Err refused.VersionsSpent) → HasCopied tells state old new [] × (new.next ≡ 2 ^ 63) × (new.index.entries ≡ old.index.entries)
  spent_ends t =
      let rest_ = t.unchanged.rest in let n = ap (λ (m : Manager D). m.next) rest_ in
      (none_copied refused.VersionsSpent refl refl t t.fault (ap (λ (m : Manager D). m.home_up) rest_) (ap (λ (m : Manager D). needs_of m.spindle) rest_) (ap (λ (m : Manager D). m.ups.items) rest_) n t.unchanged.index (untouched_calm t.unchanged) (λ k. refl), n ∙ t.versions refl, t.unchanged.index ∙ entries)

  memory_ends : WriteTold tells state mid new items from tried (Err refused.NoMemory) → HasCopied tells state old new [] × (new.index.entries ≡ old.index.entries)
  memory_ends t =
      let rest_ = t.unchanged.rest in
      (none_copied refused.NoMemory refl refl t t.fault (ap (λ (m : Manager D). m.home_up) rest_) (ap (λ (m : Manager D). needs_of m.spindle) rest_) (ap (λ (m : Manager D). m.ups.items) rest_) (ap (λ (m : Manager D). m.next) rest_) t.unchanged.index (untouched_calm t.unchanged) (λ k. refl), t.unchanged.index ∙ entries)

  failed_ends : (logger index : ℕ) → WriteTold tells state mid new items from tried (Err (refused.DiskFault (part.Segment logger index))) → (f : Fails tells state items old new (part.Segment logger index)) × (f.copies ≡ ws)
  failed_ends logger index t = (
    record {
      copies = ws;
      tried = tried;
      within = t.run.are.within;
      are = are_copies;
      broken = record {
        down = t.fault.0;
        rose = (
          mid,
          read.goes_on,
          read.calm,
          t.fault.1,
          write_pools tells state mid new read.goes_on.can ready i.lbn first some_first covered_first (Err (refused.DiskFault (part.Segment logger index))) (answered_first (Err (refused.DiskFault (part.Segment logger index))) t.answered),
        );
        leaves = Rattle.log_cleaner.proofs.Copying.leaves_then tells state old mid new [] ws can.up are_logged read.keeps (leaves_broken tells state mid new ws (passed_in new.rooms.items) read.goes_on.can.up t.run.stands);
        copied = copies_after_read tells state old mid new ws read are_logged are_same (stops_of (Err (refused.DiskFault (part.Segment logger index))) t);
      };
    },
    refl,
  )

  some_rewritten : (n : ℕ) → 1 ≤ n → n ≤ length items → (r : HasRewritten tells state (take n items) old new) × (r.writes ≡ ws) → (x : Rewrites tells state items old new (Ok n)) × (ws ≡ steps.rewritten tells state items old new (Ok n) x)
  some_rewritten zero one le r = absurd (omega (arith, one))
  some_rewritten (suc n) one le r = ((r.0, le), sym r.1)

  -- with the copies that are noted of it
  pub write_ends : (answer : Result Place WriteRefusal) → WriteTold tells state mid new items from tried answer
      → (r : Rewrites tells state items old new (steps.told_of tried answer)) × (steps.noted answer ws ≡ steps.rewritten tells state items old new (steps.told_of tried answer) r)
  write_ends (Ok place_.Home) t = absurd (no_home t.placed)
  write_ends (Ok (place_.Log logger)) t = some_rewritten tried (t.run.are.some refl) t.run.are.within (logged_ends logger t)
  write_ends (Err refused.Full) t = (full_ends t, refl)
  write_ends (Err (refused.DiskFault (part.Home volume))) t = absurd (no_home t.placed)
  write_ends (Err (refused.DiskFault (part.Segment logger index))) t = let f = failed_ends logger index t in (f.0, sym f.1)
  write_ends (Err (refused.Down p)) t = absurd (let wrong : None ≡ Some p = sym read.goes_on.can.up ∙ t.down p refl in cc)
  write_ends (Err refused.VersionsSpent) t = (spent_ends t, refl)
  write_ends (Err refused.NoMemory) t = (memory_ends t, refl)

-- the same of any chunks, with the copies as they are noted
pub run_ends : {D : Type 0} (tells : Bool) (state : D → State) (old mid new : Manager D) (can : CanClean old) (ready : IsReady state mid) (items : List Item) (from : List Block) (tried most size : ℕ) → 1 ≤ length items → AreItemsOf most size items → count_of items ≤ length from
    → AreCoveredIn old items → HasCopied tells state old mid [] → mid.index.entries ≡ old.index.entries
    → (IsTrue tells → (b : ManagerBase) (notes : List Noted) → Keeps tells state old b notes → AreRead (array_of b notes) items from)
    → (answer : Result Place WriteRefusal) → WriteTold tells state mid new items from tried answer
    → (r : Rewrites tells state items old new (steps.told_of tried answer)) × (steps.noted answer (take tried (log_writes mid.next items from)) ≡ steps.rewritten tells state items old new (steps.told_of tried answer) r)
run_ends tells state old mid new can ready [] from tried most size some are enough covered read entries content answer t = absurd (omega (arith, some))
run_ends tells state old mid new can ready (i ∷ rest) from tried most size some are enough covered read entries content answer t =
    let x = write_ends tells state old mid new can ready i rest from tried are.0.some enough covered read entries content answer t in
    (x.0, ap (steps.noted answer) (writes_front tried mid.next (i ∷ rest) from) ∙ x.1)

-- where reading failed none was copied
pub fault_ends : {D : Type 0} (tells : Bool) (state : D → State) (items : List Item) (old new : Manager D) (room : List Block) (done : List Write) (fault : CleanFault) → steps.ReadsAll tells state items old new room (Err fault)
    → (f : steps.TellsFault tells state items old new fault) × (done ≡ done ++ steps.fault_copies tells state items old new fault f)
fault_ends tells state items old new room done (DiskFault p) broken = (record { copies = []; tried = 0; within = omega arith; are = tt; broken = broken }, sym (append-nil done))
fault_ends tells state items old new room done VersionsSpent broken = absurd broken
fault_ends tells state items old new room done NoMemory broken = absurd broken

-- ---- A read that was refused

abbrev pub refused_as : ReadRefusal → Result Sources ReadRefusal
refused_as refusal = Err refusal

pub read_ends : {D : Type 0} (tells : Bool) (state : D → State) (old mid new : Manager D) (can : CanClean old) → HasCopied tells state old mid [] → (read : HasOnlyRead state mid new) (lbn : ℕ) (reply room : List Block) (items : List Item) (refusal : ReadRefusal)
    → ((p : Part) → refused_as refusal ≡ Err (refused_read.DiskFault p) → (new.down ≡ Some p) × PartRose state mid new p)
    → ((p : Part) → refused_as refusal ≡ Err (refused_read.Down p) → mid.down ≡ Some p)
    → Leaves tells state mid new (was_read lbn reply (Err refusal)) [] worker
    → (IsTrue tells → (b : ManagerBase) (notes : List Noted) → Keeps tells state mid b notes → Stops state mid new None b notes [])
    → steps.ReadsAll tells state items old new room (Err (steps.fault_of refusal))
read_ends tells state old mid new can before read lbn reply room items (refused_read.DiskFault p) cause down leaves stops =
    let c = cause p refl in broken_then tells state old mid new p [] [] can before (read_broken tells state mid new before.goes_on.can read p c.0 c.1 leaves stops)
read_ends tells state old mid new can before read lbn reply room items (refused_read.Down p) cause down leaves stops = absurd (let wrong : None ≡ Some p = sym before.goes_on.can.up ∙ down p refl in cc)
