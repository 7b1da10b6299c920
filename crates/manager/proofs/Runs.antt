-- What a run of writes leaves, by its answer: a group in a log, a write home, or none; and a run of one item.
use Rattle.std.proofs.Common.{◌≡◌, ◌⊎◌, inl, inr, ⊎_elim, ◌≤◌, ◌+◌, ℕ, Bool, true, false, List, [], ◌∷◌, ◌++◌, map, length, take, Option, None, Some, Result, Ok, Err, refl, sym, ap, subst, ◌∙◌, arith, zero, suc, get_or}
use Rattle.std.specs.Prelude.{slice_get, IsOk, OnOk, replicate}
use Rattle.std.proofs.lemmas.Option.{none-some, same_Some}
use Rattle.std.proofs.lemmas.List.Sums.{sum_by-take-le}
use Rattle.wol_disk.specs.Disk.{State, Block, IsDisk}
use Rattle.wol_model.specs.Blocks.{Write}
use Rattle.wol_model.specs.History.{Operation, Kept, worker, Wrote, Broke}
use Rattle.wol_model.specs.Index.{listed_in, Indexed}
use Rattle.wol_model.specs.Placing.{Home as AtHome, Log as InLog, Full as Nowhere}
use Rattle.wol_promise.specs.Policy.{Look, place_of, placed, version_at, AreWrites}
use Rattle.wol_promise.specs.Ruled.{HasPassed, last_look}
use Rattle.log_segment.specs.Records.{count_of}
use Rattle.log_segment.specs.declared.item.Item.{Item}
use Rattle.offload_policy.specs.declared.Room.{Room}
use Rattle.offload_policy.specs.declared.Room.TheVariants.{Unknown}
use Rattle.logger.specs.Lanes.{logger_of, first_count}
use Rattle.logger.specs.declared.shared.Shared.{Shared}
use Rattle.manager.specs.Answers.{home_write, log_write, written, IsPlaceOf}
use Rattle.manager.specs.Offers.{HasTakenWrite, ChangesLane}
use Rattle.manager.specs.Seen.{down_of, look_of_manager}
use Rattle.manager.specs.Stands.{Leaves, LeavesPassing, IsNote, nones_at, passed_in}
use Rattle.manager.specs.Stops.{Stops, StopsWith, StopsClaiming, TellsClaim}
use Rattle.manager.specs.Writing.{TellsFault, IsHomeAnswer, IsLogAnswer, in_flight, ruled_place, HaveAnswered, NeedsHome, IsAsBefore, IsPlacedAnswer, takes_at, was_tried, HasLook, NeedsLogs}
use Rattle.manager.specs.declared.manager.Manager.{Manager}
use Rattle.manager.specs.declared.part.Part.{Part}
use Rattle.manager.specs.declared.part.Place.{Place}
use Rattle.manager.specs.declared.part.WriteRefusal.{WriteRefusal}
use Rattle.manager.specs.declared.part.WriteRefusal.TheVariants.{Full, DiskFault, Down, VersionsSpent, NoMemory}
use Rattle.manager.proofs.Answered.{Asking}
use Rattle.manager.proofs.Bounds.{of_front, at_most}
use Rattle.volume_parts.proofs.Claims.{no_more_same}
use Rattle.manager.proofs.Placed.{look_same, claimed_before, stops_before, passed_log, passed_unplaced}
use Rattle.manager.specs.Joining.{GoTogether}
use Rattle.manager.specs.declared.run.Ran.{Ran}
use Rattle.manager.specs.Groups.{HasTakenRun, first_lbn, first_blocks, writes_to_home, run_writes, run_written, ruled_run, HasRun, IsGroup, AreItemsOf, given_out, log_writes, placed_all}
use Rattle.volume_parts.proofs.Places.{group_writes, group_group}
use Rattle.volume_parts.proofs.Records.{first_long, first_of_take, take_front}
use Rattle.std.proofs.lemmas.Bool.{false≢true}
use Rattle.std.proofs.lemmas.List.{length-take-le, take_all}
use Rattle.redirect_map.specs.Index.{Contents}
use Rattle.manager.proofs.Refused.{keeps_then, stands_refused, stops_at_rest}
use Rattle.wol_model.specs.Placing as placing
use Rattle.manager.specs.declared.part.Part.TheVariants as part
use Rattle.manager.specs.declared.part.Place.TheVariants as place

-- the first item's blocks are as many as it says
pub first_blocks_long : (items : List Item) (from : List Block) → count_of items ≤ length from → length (first_blocks items from) ≡ first_count items
first_blocks_long [] from enough = refl
first_blocks_long (i ∷ items) from enough = first_long i items from enough

-- ---- To a log

-- what a lane takes of a front, it takes of the whole
pub taken_of_front : {D : Type 0} (tells : Bool) (state : D → State) (lane : ℕ) (items : List Item) (from : List Block) (k : ℕ) (ran : Ran) (old new : Manager D) → 1 ≤ k → k ≤ length items
    → HasTakenRun tells state lane (take k items) from ran old new → HasTakenRun tells state lane items from ran old new
taken_of_front tells state lane items from k ran old new one le t =
    let few = of_front ran.items k items le t.tried.1 in
    let same : take ran.items (take k items) ≡ take ran.items items = take_front ran.items k items few in record {
      tried = (t.tried.0, at_most ran.items k (length items) few le);
      answer = t.answer;
      rest = t.rest;
      lanes = subst (λ (c : ℕ). ChangesLane (HasTakenWrite c) lane old.lanes.items new.lanes.items) (first_of_take items k one) t.lanes;
      stands = subst (λ (gs : List Item). LeavesPassing tells state old new (run_written (log_writes old.next gs from) ran.answer) worker) same t.stands;
      look = subst (λ (gs : List Item). OnOk ran.answer (look_of_manager new ≡ placed_all (InLog lane) (look_of_manager old) (log_writes old.next gs from))) same t.look;
      next = t.next;
      fault = t.fault;
      calm = t.calm;
      any_moment = subst (λ (gs : List Item). StopsClaiming tells state (IsOk ran.answer) old new (log_writes old.next gs from)) same t.any_moment;
    }

-- the writes of an answer that tells of a log
log_run : (view : List ℕ) (lane next : ℕ) (gs : List Item) (from : List Block) (r : Result Place WriteRefusal) → IsLogAnswer view lane r → log_writes next gs from ≡ run_writes next gs from r
log_run view lane next gs from (Ok place.Home) is = absurd is
log_run view lane next gs from (Ok (place.Log logger)) is = refl
log_run view lane next gs from (Err (DiskFault (part.Home volume))) is = absurd is
log_run view lane next gs from (Err (DiskFault (part.Segment volume index))) is = refl
log_run view lane next gs from (Err Full) is = absurd is
log_run view lane next gs from (Err (Down p)) is = absurd is
log_run view lane next gs from (Err VersionsSpent) is = absurd is
log_run view lane next gs from (Err NoMemory) is = absurd is

not_home : (view : List ℕ) (lane : ℕ) (r : Result Place WriteRefusal) → IsLogAnswer view lane r → (r ≡ Ok place.Home) ⊎ ((v : ℕ) × (r ≡ Err (DiskFault (part.Home v)))) → ⊥
not_home view lane r answer (inl home) = subst (IsLogAnswer view lane) home answer
not_home view lane r answer (inr fault) = subst (IsLogAnswer view lane) fault.1 answer

first_is : (items : List Item) (from : List Block) (i : Item) → slice_get items 0 ≡ Some i → (first_lbn items ≡ i.lbn) × (first_blocks items from ≡ take i.count from)
first_is [] from i at = absurd (none-some i at)
first_is (x ∷ items) from i at = (ap (λ (j : Item). j.lbn) (same_Some x i at), ap (λ (j : Item). take j.count from) (same_Some x i at))

module _ {D : Type 0} (tells : Bool) (state : D → State) (shared : Shared D) (items : List Item) (from : List Block) (old now : Manager D) (a : Asking tells state shared (length (first_blocks items from)) old now) (new : Manager D) where
  next_same : now.next ≡ old.next
  next_same = ap (λ (m : Manager D). m.next) a.rest

  module _ (ran : Ran) (rooms : new.rooms.items ≡ now.rooms.items) (lane : ℕ) (unknown : slice_get now.rooms.items lane ≡ Some Unknown)
      (in_log : ruled_place old now (first_lbn items) (first_blocks items from) ≡ InLog lane) (t : HasTakenRun tells state lane items from ran now new)
      (most size : ℕ) (are : AreItemsOf most size items) (enough : count_of items ≤ length from)
      (joins : GoTogether now.home_up (listed_in now.index.entries) (passed_in now.rooms.items) items ran.items) where
    abbrev n : ℕ
    n = ran.items

    abbrev answer : Result Place WriteRefusal
    answer = ran.answer

    abbrev gs : List Item
    gs = take n items

    abbrev passed : List ℕ
    passed = passed_in new.rooms.items

    enough_gs : count_of gs ≤ length from
    enough_gs = let l = sum_by-take-le (λ (i : Item). i.count) items n in omega arith

    joins_old : GoTogether old.home_up (listed_in old.index.entries) passed items n
    joins_old = subst (λ (ps : List ℕ). GoTogether old.home_up (listed_in old.index.entries) ps items n) (sym (ap passed_in rooms))
        (subst (λ (m : Manager D). GoTogether m.home_up (listed_in m.index.entries) (passed_in now.rooms.items) items n) a.rest joins)

    rule_is : ruled_run old new items from ≡ InLog lane
    rule_is = ap (λ (rs : List Room). place_of (passed_in rs) (look_of_manager old) (home_write (first_lbn items) (first_blocks items from))) rooms ∙ in_log

    first_goes : (i : Item) → slice_get items 0 ≡ Some i → place_of passed (look_of_manager old) (log_write old.next i.lbn (take i.count from)) ≡ InLog lane
    first_goes i at = let f = first_is items from i at in (λ t. place_of passed (look_of_manager old) (home_write (sym f.0 t) (sym f.1 t))) ∙ rule_is

    writes_are : AreWrites passed (look_of_manager old) (log_writes old.next gs from) (placed_all (InLog lane) (look_of_manager old) (log_writes old.next gs from))
    writes_are = group_writes passed lane most size (look_of_manager old) items n from t.tried.0 t.tried.1 are enough_gs joins_old first_goes

    group_is : IsGroup passed (log_writes old.next gs from)
    group_is = group_group old.home_up (listed_in old.index.entries) passed old.next items n from t.tried.0 t.tried.1 enough_gs joins_old

    look_is : look_of_manager new ≡ placed_all (InLog lane) (look_of_manager now) (log_writes now.next gs from) → look_of_manager new ≡ placed_all (ruled_run old new items from) (look_of_manager old) (log_writes old.next gs from)
    look_is look = look ∙ (λ i. placed_all (sym rule_is i) (look_same tells state shared (first_lbn items) (first_blocks items from) old now a i) (log_writes (next_same i) gs from))

    look_on : (r : Result Place WriteRefusal) → OnOk r (look_of_manager new ≡ placed_all (InLog lane) (look_of_manager now) (log_writes now.next gs from))
        → OnOk r (look_of_manager new ≡ placed_all (ruled_run old new items from) (look_of_manager old) (log_writes old.next gs from))
    look_on (Ok p) look = look_is look
    look_on (Err refusal) look = tt

    -- the writes that the answer tells
    are_told : log_writes old.next gs from ≡ run_writes old.next gs from answer
    are_told = log_run (map logger_of now.lanes.items) lane old.next gs from answer t.answer

    are_told_now : log_writes now.next gs from ≡ run_writes old.next gs from answer
    are_told_now = (λ i. log_writes (next_same i) gs from) ∙ are_told

    -- the first item's blocks are as many as it says
    by_blocks : ChangesLane (HasTakenWrite (length (first_blocks items from))) lane now.lanes.items new.lanes.items
    by_blocks = subst (λ (c : ℕ). ChangesLane (HasTakenWrite c) lane now.lanes.items new.lanes.items) (sym (first_blocks_long items from enough)) t.lanes

    pub run_logged : HasRun tells state items from n answer (ruled_run old new items from) old new
    run_logged = record {
      are = record { within = t.tried.1; some = λ _. t.tried.0; home = λ home. absurd (not_home (map logger_of now.lanes.items) lane answer t.answer home) };
      stands = λ b notes nt client note k. t.stands b notes passed nt client
          (subst (λ (ws : List Write). IsNote (last_look b.volume.began.look notes) (run_written ws answer) passed (look_of_manager new) nt) (sym are_told_now) note)
          (passed_log tells state shared (first_lbn items) (first_blocks items from) old now a new answer rooms lane unknown t.answer in_log by_blocks b notes nt note.passed_is k) (a.keeps b notes k);
      rule = subst (λ (ws : List Write). AreWrites passed (look_of_manager old) ws (placed_all (ruled_run old new items from) (look_of_manager old) ws)) are_told
          (subst (λ (p : placing.Place). AreWrites passed (look_of_manager old) (log_writes old.next gs from) (placed_all p (look_of_manager old) (log_writes old.next gs from))) (sym rule_is) writes_are);
      look = subst (λ (ws : List Write). OnOk answer (look_of_manager new ≡ placed_all (ruled_run old new items from) (look_of_manager old) ws)) are_told (look_on answer t.look);
      group = subst (IsGroup passed) are_told group_is;
      next = t.next ∙ ap (λ (v : ℕ). v + given_out answer n) next_same;
      claimed = t.any_moment.0;
      claims = claimed_before tells state shared (first_lbn items) (first_blocks items from) old now a (IsOk answer) new t.any_moment.0 t.any_moment.1;
      any_moment = λ told b notes k. subst (Stops state old new t.any_moment.0 b notes) are_told_now
          (stops_before tells state shared (first_lbn items) (first_blocks items from) old now a new t.any_moment.0 b notes (log_writes now.next gs from) (t.any_moment.2 told b notes (a.keeps b notes k)));
    }

  -- ---- Home

  module _ (i : Item) (rest : List Item) (first : items ≡ i ∷ rest) (id : ℕ) (answer : Result Place WriteRefusal) (is : IsHomeAnswer id answer) (at_home : ruled_run old new items from ≡ AtHome) where
    abbrev blocks : List Block
    blocks = take i.count from

    alone : take 1 items ≡ i ∷ []
    alone = ap (take 1) first

    home_written : (next : ℕ) (r : Result Place WriteRefusal) → IsHomeAnswer id r → run_written (run_writes next (take 1 items) from r) r ≡ written next i.lbn blocks r
    home_written next r (inl home) = (λ t. run_written (run_writes next (alone t) from (home t)) (home t)) ∙ ap (written next i.lbn blocks) (sym home)
    home_written next r (inr fault) = (λ t. run_written (run_writes next (alone t) from (fault t)) (fault t)) ∙ ap (written next i.lbn blocks) (sym fault)

    home_flight : (next : ℕ) (r : Result Place WriteRefusal) → IsHomeAnswer id r → run_writes next (take 1 items) from r ≡ in_flight next i.lbn blocks r
    home_flight next r (inl home) = (λ t. run_writes next (alone t) from (home t)) ∙ ap (in_flight next i.lbn blocks) (sym home)
    home_flight next r (inr fault) = (λ t. run_writes next (alone t) from (fault t)) ∙ ap (in_flight next i.lbn blocks) (sym fault)

    abbrev w : Write
    w = home_write i.lbn blocks

    placed_at : place_of (passed_in new.rooms.items) (look_of_manager old) w ≡ AtHome
    placed_at = (λ t. place_of (passed_in new.rooms.items) (look_of_manager old) (home_write (first_lbn (sym first t)) (first_blocks (sym first t) from))) ∙ at_home

    home_rule_is : AreWrites (passed_in new.rooms.items) (look_of_manager old) (writes_to_home (take 1 items) from) (placed_all (ruled_run old new items from) (look_of_manager old) (writes_to_home (take 1 items) from))
    home_rule_is = subst (λ (gs : List Item). AreWrites (passed_in new.rooms.items) (look_of_manager old) (writes_to_home gs from) (placed_all (ruled_run old new items from) (look_of_manager old) (writes_to_home gs from))) (sym alone) (
      (λ full. let no : AtHome ≡ Nowhere = sym placed_at ∙ full in cc),
      ap (λ (p : placing.Place). version_at p (look_of_manager old)) (sym placed_at),
      ap (λ (p : placing.Place). placed p (look_of_manager old) w) (at_home ∙ sym placed_at),
    )

    home_rule : (r : Result Place WriteRefusal) → IsHomeAnswer id r
        → AreWrites (passed_in new.rooms.items) (look_of_manager old) (run_writes old.next (take 1 items) from r) (placed_all (ruled_run old new items from) (look_of_manager old) (run_writes old.next (take 1 items) from r))
    home_rule r is_ = subst (λ (ws : List Write). AreWrites (passed_in new.rooms.items) (look_of_manager old) ws (placed_all (ruled_run old new items from) (look_of_manager old) ws))
        (⊎_elim (λ home. ap (run_writes old.next (take 1 items) from) (sym home)) (λ fault. ap (run_writes old.next (take 1 items) from) (sym fault)) is_) home_rule_is

    no_version : (r : Result Place WriteRefusal) → IsHomeAnswer id r → given_out r 1 ≡ 0
    no_version r is_ = ⊎_elim (λ home. ap (λ (q : Result Place WriteRefusal). given_out q 1) home) (λ fault. ap (λ (q : Result Place WriteRefusal). given_out q 1) fault) is_

    home_look_is : (r : Result Place WriteRefusal) → IsHomeAnswer id r → (r ≡ Ok place.Home → look_of_manager new ≡ placed AtHome (look_of_manager old) w) → OnOk r (look_of_manager new ≡ placed_all (ruled_run old new items from) (look_of_manager old) (run_writes old.next (take 1 items) from r))
    home_look_is r (inl home) look = subst (λ (q : Result Place WriteRefusal). OnOk q (look_of_manager new ≡ placed_all (ruled_run old new items from) (look_of_manager old) (run_writes old.next (take 1 items) from q))) (sym home)
        (look home ∙ (λ t. placed_all (sym at_home t) (look_of_manager old) (writes_to_home (sym alone t) from)))
    home_look_is r (inr fault) look = subst (λ (q : Result Place WriteRefusal). OnOk q (look_of_manager new ≡ placed_all (ruled_run old new items from) (look_of_manager old) (run_writes old.next (take 1 items) from q))) (sym fault) tt

    -- one write is a group
    home_group : (r : Result Place WriteRefusal) → IsHomeAnswer id r → IsGroup (passed_in new.rooms.items) (run_writes old.next (take 1 items) from r)
    home_group r (inl home) = subst (λ (q : Result Place WriteRefusal). IsGroup (passed_in new.rooms.items) (run_writes old.next (take 1 items) from q)) (sym home)
        (subst (λ (gs : List Item). IsGroup (passed_in new.rooms.items) (writes_to_home gs from)) (sym alone) (inr tt))
    home_group r (inr fault) = subst (λ (q : Result Place WriteRefusal). IsGroup (passed_in new.rooms.items) (run_writes old.next (take 1 items) from q)) (sym fault)
        (subst (λ (gs : List Item). IsGroup (passed_in new.rooms.items) (writes_to_home gs from)) (sym alone) (inr tt))

    pub run_home : Leaves tells state old new (written old.next i.lbn blocks answer) (passed_in new.rooms.items) worker → (answer ≡ Ok place.Home → look_of_manager new ≡ placed AtHome (look_of_manager old) w) → new.next ≡ old.next
        → TellsClaim tells state (IsOk answer) old.lanes.items new.lanes.items None → StopsWith tells state old new None (in_flight old.next i.lbn blocks answer)
        → HasRun tells state items from 1 answer (ruled_run old new items from) old new
    run_home stands look next claims moments = record {
      are = record { within = subst (λ (xs : List Item). 1 ≤ length xs) (sym first) (omega arith); some = λ _. omega arith; home = λ _. refl };
      stands = subst (λ (o : Operation). Leaves tells state old new o (passed_in new.rooms.items) worker) (sym (home_written old.next answer is)) stands;
      rule = home_rule answer is;
      look = home_look_is answer is look;
      group = home_group answer is;
      next = let none = no_version answer is in omega (arith, next, none);
      claimed = None;
      claims = claims;
      any_moment = λ told b notes k. subst (Stops state old new None b notes) (sym (home_flight old.next answer is)) (moments told b notes k);
    }

    -- what `write_home` leaves of the manager as it was asked is what the run leaves
    pub home_run : new ≡ record now { home = new.home; spindle = new.spindle; home_up = true; down = new.down } → TellsFault state answer now new
        → LeavesPassing tells state now new (written now.next i.lbn blocks answer) worker → StopsWith tells state now new None (in_flight now.next i.lbn blocks answer)
        → HasRun tells state items from 1 answer (ruled_run old new items from) old new
    home_run u fault leaves moments = run_home
        (λ b notes n client note k. leaves b notes (passed_in new.rooms.items) n client
        (subst (λ (v : ℕ). IsNote (last_look b.volume.began.look notes) (written v i.lbn blocks answer) (passed_in new.rooms.items) (look_of_manager new) n) (sym next_same) note)
        (subst (λ (m : Manager D). HasPassed (nones_at m.lanes.items b.lanes) (notes ++ n ∷ [])) (sym u)
        (passed_unplaced tells state shared (first_lbn items) (first_blocks items from) old now a b notes n (note.passed_is ∙ ap (λ (m : Manager D). passed_in m.rooms.items) u) k))
        (a.keeps b notes k))
        (λ went. ap look_of_manager u
        ∙ ap (λ (d : Option Part). (let l : Look = record (placed AtHome (look_of_manager now) w) { down = down_of d } in l)) (subst (λ (r : Result Place WriteRefusal). TellsFault state r now new) went fault)
        ∙ ap (λ (l : Look). placed AtHome l w) (look_same tells state shared (first_lbn items) (first_blocks items from) old now a))
        (ap (λ (m : Manager D). m.next) u ∙ next_same)
        (claimed_before tells state shared (first_lbn items) (first_blocks items from) old now a (IsOk answer) new None (no_more_same now.lanes.items new.lanes.items (ap (λ (m : Manager D). m.lanes.items) u)))
        (λ told b notes k. subst (λ (v : ℕ). Stops state old new None b notes (in_flight v i.lbn blocks answer)) next_same
        (stops_before tells state shared (first_lbn items) (first_blocks items from) old now a new None b notes (in_flight now.next i.lbn blocks answer) (moments told b notes (a.keeps b notes k))))

-- ---- Nowhere

module _ {D : Type 0} (tells : Bool) (state : D → State) (items : List Item) (from : List Block) (old new : Manager D) where
  pub run_full : Leaves tells state old new Kept (passed_in new.rooms.items) worker → new.next ≡ old.next → TellsClaim tells state (IsOk {T = Place} {E = WriteRefusal} (Err Full)) old.lanes.items new.lanes.items None
      → StopsWith tells state old new None []
      → HasRun tells state items from 0 (Err Full) (ruled_run old new items from) old new
  run_full stands next claims moments = record {
    are = record { within = omega arith; some = λ tried. absurd (let no : false ≡ true = tried in cc); home = λ home. ⊎_elim (λ e. let no : Err Full ≡ Ok place.Home = e in cc) (λ f. let no : Err Full ≡ Err (DiskFault (part.Home f.0)) = f.1 in cc) home };
    stands = stands;
    rule = refl;
    look = tt;
    group = tt;
    next = omega (arith, next);
    claimed = None;
    claims = claims;
    any_moment = moments;
  }

-- the first item is the first of each front
first_front : (m : ℕ) (items : List Item) (from : List Block) → 1 ≤ m → (first_lbn (take m items) ≡ first_lbn items) × (first_blocks (take m items) from ≡ first_blocks items from)
first_front zero items from one = absurd (omega arith)
first_front (suc m) [] from one = (refl, refl)
first_front (suc m) (i ∷ items) from one = (refl, refl)

none_written : (next : ℕ) (from : List Block) (e : WriteRefusal) → run_writes next [] from (Err e) ≡ []
none_written next from (DiskFault (part.Home volume)) = refl
none_written next from (DiskFault (part.Segment logger index)) = refl
none_written next from Full = refl
none_written next from (Down p) = refl
none_written next from VersionsSpent = refl
none_written next from NoMemory = refl

module _ {D : Type 0} (tells : Bool) (state : D → State) (items : List Item) (from : List Block) (old new : Manager D) (answer : Result Place WriteRefusal) (n : ℕ) where
  module _ (m : ℕ) (one : 1 ≤ m) (few : m ≤ length items) where
    rule_front : ruled_run old new (take m items) from ≡ ruled_run old new items from
    rule_front = let first = first_front m items from one in λ t. ruled_place old new (first.0 t) (first.1 t)

    pub run_front : HasRun tells state (take m items) from n answer (ruled_run old new (take m items) from) old new → HasRun tells state items from n answer (ruled_run old new items from) old new
    run_front run =
        let long : length (take m items) ≡ m = length-take-le m items few in
        let le : n ≤ m = (let w = run.are.within in omega (arith, w, long)) in
        let same : take n (take m items) ≡ take n items = take_front n m items le in record {
          are = record { within = omega (arith, le, few); some = run.are.some; home = run.are.home };
          stands = subst (λ (gs : List Item). Leaves tells state old new (run_written (run_writes old.next gs from answer) answer) (passed_in new.rooms.items) worker) same run.stands;
          rule = subst (λ (p : placing.Place). AreWrites (passed_in new.rooms.items) (look_of_manager old) (run_writes old.next (take n items) from answer) (placed_all p (look_of_manager old) (run_writes old.next (take n items) from answer))) rule_front
              (subst (λ (gs : List Item). AreWrites (passed_in new.rooms.items) (look_of_manager old) (run_writes old.next gs from answer) (placed_all (ruled_run old new (take m items) from) (look_of_manager old) (run_writes old.next gs from answer))) same run.rule);
          look = subst (λ (p : placing.Place). OnOk answer (look_of_manager new ≡ placed_all p (look_of_manager old) (run_writes old.next (take n items) from answer))) rule_front
              (subst (λ (gs : List Item). OnOk answer (look_of_manager new ≡ placed_all (ruled_run old new (take m items) from) (look_of_manager old) (run_writes old.next gs from answer))) same run.look);
          group = subst (λ (gs : List Item). IsGroup (passed_in new.rooms.items) (run_writes old.next gs from answer)) same run.group;
          next = run.next;
          claimed = run.claimed;
          claims = run.claims;
          any_moment = λ told b notes k. subst (λ (gs : List Item). Stops state old new run.claimed b notes (run_writes old.next gs from answer)) same (run.any_moment told b notes k);
        }

  module _ (rooms : List Room) (is : rooms ≡ replicate (length old.lanes.items) Unknown) (index : Contents) (entries : index.entries ≡ old.index.entries) where
    abbrev asked : Manager D
    asked = record old { rooms = record { items = rooms }; index = index }

    asked_look : look_of_manager asked ≡ look_of_manager old
    asked_look = λ i. record { home_up = old.home_up; ups = old.ups.items; next = old.next; listed = listed_in (entries i); down = down_of old.down }

    pub run_then : HasRun tells state items from n answer (ruled_run asked new items from) asked new → HasRun tells state items from n answer (ruled_run old new items from) old new
    run_then run = record {
      are = run.are;
      stands = λ b notes nt client note k. run.stands b notes nt client note (keeps_then tells state old rooms is index entries b notes k);
      rule = subst (λ (l : Look). AreWrites (passed_in new.rooms.items) l (run_writes old.next (take n items) from answer) (placed_all (place_of (passed_in new.rooms.items) l (home_write (first_lbn items) (first_blocks items from))) l (run_writes old.next (take n items) from answer))) asked_look run.rule;
      look = subst (λ (l : Look). OnOk answer (look_of_manager new ≡ placed_all (place_of (passed_in new.rooms.items) l (home_write (first_lbn items) (first_blocks items from))) l (run_writes old.next (take n items) from answer))) asked_look run.look;
      group = run.group;
      next = run.next;
      claimed = run.claimed;
      claims = run.claims;
      any_moment = λ told b notes k. run.any_moment told b notes (keeps_then tells state old rooms is index entries b notes k);
    }

    -- where nothing was tried
    pub run_kept : ((d : D) → IsDisk (state d)) → (e : WriteRefusal) → was_tried (Err e) ≡ false → run_written [] (Err e) ≡ Kept → HasRun tells state items from 0 (Err e) (ruled_run old asked items from) old asked
    run_kept sound e untried kept = let none = none_written old.next from e in record {
      are = record {
        within = omega arith;
        some = λ tried. absurd (false≢true (sym untried ∙ tried));
        home = ⊎_elim (λ t. let no : Err e ≡ Ok place.Home = t in cc) (λ f. absurd (false≢true (sym untried ∙ ap was_tried f.1)));
      };
      stands = subst (λ (o : Operation). Leaves tells state old asked o (passed_in rooms) worker) (sym (ap (λ (ws : List Write). run_written ws (Err e)) none ∙ kept))
          (λ b notes nt client note k. stands_refused tells state old rooms is index entries b notes nt note k);
      rule = subst (λ (ws : List Write). AreWrites (passed_in rooms) (look_of_manager old) ws (placed_all (ruled_run old asked items from) (look_of_manager old) ws)) (sym none) refl;
      look = tt;
      group = subst (IsGroup (passed_in rooms)) (sym none) tt;
      next = omega arith;
      claimed = None;
      claims = no_more_same old.lanes.items old.lanes.items refl;
      any_moment = λ told b notes k. subst (Stops state old asked None b notes) (sym none) (stops_at_rest tells state sound told old b notes k);
    }

    -- ---- The rule and the other clauses, for the items that were given on

    module _ (k : ℕ) (one_ : 1 ≤ k) where
      pub rule_then : ruled_run asked new (take k items) from ≡ ruled_run old new items from
      rule_then = let first = first_front k items from one_ in (λ t. place_of (passed_in new.rooms.items) (asked_look t) (home_write (first.0 t) (first.1 t)))

      pub placed_then : IsPlaceOf (map logger_of old.lanes.items) answer (ruled_run asked new (take k items) from) → IsPlaceOf (map logger_of old.lanes.items) answer (ruled_run old new items from)
      placed_then = subst (IsPlaceOf (map logger_of old.lanes.items) answer) rule_then

      pub answered_run : HaveAnswered (first_count (take k items)) (takes_at (ruled_run asked new (take k items) from) answer) new.rooms.items old.lanes.items new.lanes.items
          → HaveAnswered (first_count items) (takes_at (ruled_run old new items from) answer) new.rooms.items old.lanes.items new.lanes.items
      answered_run all = subst (λ (c : ℕ). HaveAnswered c (takes_at (ruled_run old new items from) answer) new.rooms.items old.lanes.items new.lanes.items) (first_of_take items k one_)
          (subst (λ (p : placing.Place). HaveAnswered (first_count (take k items)) (takes_at p answer) new.rooms.items old.lanes.items new.lanes.items) rule_then all)

      pub home_then : NeedsHome (ruled_run asked new (take k items) from) answer asked new → NeedsHome (ruled_run old new items from) answer old new
      home_then needs = subst (λ (p : placing.Place). NeedsHome p answer old new) rule_then needs

    pub as_before : (r : Result Place WriteRefusal) → IsPlacedAnswer r → IsAsBefore r asked new → IsAsBefore r old new
    as_before (Ok p) is_placed was = tt
    as_before (Err (DiskFault p)) is_placed was = tt
    as_before (Err Full) is_placed was = record { rest = was.rest; index = was.index ∙ entries }
    as_before (Err (Down p)) is_placed was = absurd is_placed
    as_before (Err VersionsSpent) is_placed was = absurd is_placed
    as_before (Err NoMemory) is_placed was = absurd is_placed

-- ---- Some first items

-- the first item, where some are given
pub first_given : (items : List Item) (k : ℕ) (from : List Block) (d : Item) → 1 ≤ length items → 1 ≤ k → count_of items ≤ length from
    → (first_lbn (take k items) ≡ (get_or items 0 d).lbn) × (length (first_blocks (take k items) from) ≡ (get_or items 0 d).count)
first_given [] k from d some one enough = absurd (omega arith)
first_given (i ∷ items) zero from d some one enough = absurd (omega arith)
first_given (i ∷ items) (suc k) from d some one enough = (refl, first_long i items from enough)

abbrev pub one : (lbn : ℕ) → List Block → List Item
one lbn from = record { lbn = lbn; count = length from } ∷ []

all_of : (from : List Block) → take (length from) from ≡ from
all_of from = take_all (length from) from (omega arith)

-- ---- The writes of one item

home_one : (lbn : ℕ) (from : List Block) → writes_to_home (one lbn from) from ≡ home_write lbn from ∷ []
home_one lbn from = ap (λ (bs : List Block). home_write lbn bs ∷ []) (all_of from)

log_one : (next lbn : ℕ) (from : List Block) → log_writes next (one lbn from) from ≡ log_write next lbn from ∷ []
log_one next lbn from = ap (λ (bs : List Block). log_write next lbn bs ∷ []) (all_of from)

module _ (next lbn : ℕ) (from : List Block) (gs : List Item) where
  flight : (r : Result Place WriteRefusal) → (was_tried r ≡ true → gs ≡ one lbn from) → run_writes next gs from r ≡ in_flight next lbn from r
  flight (Ok place.Home) is = ap (λ (xs : List Item). writes_to_home xs from) (is refl) ∙ home_one lbn from
  flight (Ok (place.Log logger)) is = ap (λ (xs : List Item). log_writes next xs from) (is refl) ∙ log_one next lbn from
  flight (Err (DiskFault (part.Home volume))) is = ap (λ (xs : List Item). writes_to_home xs from) (is refl) ∙ home_one lbn from
  flight (Err (DiskFault (part.Segment volume index))) is = ap (λ (xs : List Item). log_writes next xs from) (is refl) ∙ log_one next lbn from
  flight (Err Full) is = refl
  flight (Err (Down p)) is = refl
  flight (Err VersionsSpent) is = refl
  flight (Err NoMemory) is = refl

  entry : (r : Result Place WriteRefusal) → (was_tried r ≡ true → gs ≡ one lbn from) → run_written (run_writes next gs from r) r ≡ written next lbn from r
  entry (Ok place.Home) is = ap Wrote (flight (Ok place.Home) is)
  entry (Ok (place.Log logger)) is = ap Wrote (flight (Ok (place.Log logger)) is)
  entry (Err (DiskFault (part.Home volume))) is = ap Broke (flight (Err (DiskFault (part.Home volume))) is)
  entry (Err (DiskFault (part.Segment volume index))) is = ap Broke (flight (Err (DiskFault (part.Segment volume index))) is)
  entry (Err Full) is = refl
  entry (Err (Down p)) is = refl
  entry (Err VersionsSpent) is = refl
  entry (Err NoMemory) is = refl

-- a look doesn't ask for the version of a write
versionless : (p : placing.Place) (l : Look) (next lbn : ℕ) (from : List Block) → placed p l (log_write next lbn from) ≡ placed p l (home_write lbn from)
versionless placing.Home l next lbn from = refl
versionless (placing.Log lane) l next lbn from = refl
versionless placing.Full l next lbn from = refl

module _ {D : Type 0} (tells : Bool) (state : D → State) (lbn : ℕ) (from : List Block) (old new : Manager D) (answer : Result Place WriteRefusal) (n : ℕ) (run : HasRun tells state (one lbn from) from n answer (ruled_run old new (one lbn from) from) old new) where
  one_rule_is : ruled_run old new (one lbn from) from ≡ ruled_place old new lbn from
  one_rule_is = ap (ruled_place old new lbn) (all_of from)

  the_one : was_tried answer ≡ true → take n (one lbn from) ≡ one lbn from
  the_one tried = let some = run.are.some tried in let few = run.are.within in let is : n ≡ 1 = omega arith in ap (λ (k : ℕ). take k (one lbn from)) is

  pub one_stands : Leaves tells state old new (written old.next lbn from answer) (passed_in new.rooms.items) worker
  one_stands = subst (λ (o : Operation). Leaves tells state old new o (passed_in new.rooms.items) worker) (entry old.next lbn from (take n (one lbn from)) answer the_one) run.stands

  pub one_moments : StopsClaiming tells state (IsOk answer) old new (in_flight old.next lbn from answer)
  one_moments = (
    run.claimed,
    run.claims,
    λ told b notes k. subst (Stops state old new run.claimed b notes) (flight old.next lbn from (take n (one lbn from)) answer the_one) (run.any_moment told b notes k),
  )

  pub one_placed : IsPlaceOf (map logger_of old.lanes.items) answer (ruled_run old new (one lbn from) from) → IsPlaceOf (map logger_of old.lanes.items) answer (ruled_place old new lbn from)
  one_placed = subst (IsPlaceOf (map logger_of old.lanes.items) answer) one_rule_is

  pub one_answered : HaveAnswered (length from) (takes_at (ruled_run old new (one lbn from) from) answer) new.rooms.items old.lanes.items new.lanes.items
      → HaveAnswered (length from) (takes_at (ruled_place old new lbn from) answer) new.rooms.items old.lanes.items new.lanes.items
  one_answered = subst (λ (p : placing.Place). HaveAnswered (length from) (takes_at p answer) new.rooms.items old.lanes.items new.lanes.items) one_rule_is

  pub one_home : NeedsHome (ruled_run old new (one lbn from) from) answer old new → NeedsHome (ruled_place old new lbn from) answer old new
  one_home = subst (λ (p : placing.Place). NeedsHome p answer old new) one_rule_is

  pub one_logs : NeedsLogs (ruled_run old new (one lbn from) from) answer old new → NeedsLogs (ruled_place old new lbn from) answer old new
  one_logs = subst (λ (p : placing.Place). NeedsLogs p answer old new) one_rule_is

  -- the entries of the index are as they were, and so is the look
  listed_as : (es : List Indexed) → es ≡ old.index.entries → (l : Look) → l ≡ record (look_of_manager old) { listed = listed_in es } → l ≡ look_of_manager old
  listed_as es same l is = is ∙ (λ t. record { home_up = old.home_up; ups = old.ups.items; next = old.next; listed = listed_in (same t); down = down_of old.down })

  one_look_on : (r : Result Place WriteRefusal) (gs : List Item) (p : placing.Place) → (was_tried r ≡ true → gs ≡ one lbn from) → IsAsBefore r old new
      → OnOk r (look_of_manager new ≡ placed_all p (look_of_manager old) (run_writes old.next gs from r)) → HasLook p (home_write lbn from) r (look_of_manager old) (look_of_manager new)
  one_look_on (Ok place.Home) gs p is was look = look ∙ ap (placed_all p (look_of_manager old)) (flight old.next lbn from gs (Ok place.Home) is)
  one_look_on (Ok (place.Log logger)) gs p is was look = look ∙ ap (placed_all p (look_of_manager old)) (flight old.next lbn from gs (Ok (place.Log logger)) is) ∙ versionless p (look_of_manager old) old.next lbn from
  one_look_on (Err (DiskFault fault)) gs p is was look = tt
  one_look_on (Err Full) gs p is was look = listed_as new.index.entries was.index (look_of_manager new) (ap look_of_manager was.rest)
  one_look_on (Err (Down d)) gs p is was look = listed_as new.index.entries was.index (look_of_manager new) (ap look_of_manager was.rest)
  one_look_on (Err VersionsSpent) gs p is was look = listed_as new.index.entries was.index (look_of_manager new) (ap look_of_manager was.rest)
  one_look_on (Err NoMemory) gs p is was look = listed_as new.index.entries was.index (look_of_manager new) (ap look_of_manager was.rest)

  pub one_look : IsAsBefore answer old new → HasLook (ruled_place old new lbn from) (home_write lbn from) answer (look_of_manager old) (look_of_manager new)
  one_look was = subst (λ (p : placing.Place). HasLook p (home_write lbn from) answer (look_of_manager old) (look_of_manager new)) one_rule_is
      (one_look_on answer (take n (one lbn from)) (ruled_run old new (one lbn from) from) the_one was run.look)
