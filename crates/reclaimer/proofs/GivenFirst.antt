-- What is given up first: one record's blocks, or a segment with all its records.
use Rattle.std.proofs.Common.{◌≡◌, ◌≢◌, ◌<◌, ◌≤◌, ◌+◌, ℕ, Bool, true, false, cond, not, ◌&&◌, ◌||◌, List, [], ◌∷◌, length, Option, None, Some, Result, Ok, Err, OnOk, is_ok, refl, sym, ap, subst, ◌∙◌, arith, eqb}
use Rattle.std.specs.Prelude.{IfOk, filter, is_none, is_some, slice_get, slice_set, slice_index_or, if◌then◌else◌}
use Rattle.std.specs.List.{list_any}
use Rattle.std.specs.Option.{ForSome}
use Rattle.std.proofs.lemmas.Bool.{and_parts, eq-eqb, eqb-true, ne_eqb}
use Rattle.std.proofs.lemmas.Option.{same_Some, none-some, slice_get_within}
use Rattle.wol_disk.specs.Disk.{State}
use Rattle.wol_model.specs.Index.{Listed, Indexed, listed_in, has_going, keeps_a_block, keeping, left}
use Rattle.wol_promise.specs.Policy.{AreReclaims, drained, more, none}
use Rattle.block_cells.specs.declared.record.Rec.{Rec}
use Rattle.redirect_map.specs.Index.{entry_at, changed, HasVersion, IsAnswer, IsIndex}
use Rattle.manager.specs.Reclaim.{AllGoIn, OnTried, OnKept, TellsStep, HasDropped, HasDroppedSegment, given_of, lies_elsewhere, with_kept}
use Rattle.manager.specs.Seen.{down_of, look_of_manager}
use Rattle.manager.specs.Stands.{IsReady, entries_at, nones_at}
use Rattle.logger.specs.declared.lane.Lane.{Lane}
use Rattle.manager.specs.declared.base.LaneBase.{LaneBase}
use Rattle.manager.specs.declared.manager.Manager.{Manager}
use Rattle.manager.specs.declared.part.Part.{Part}
use Rattle.manager.specs.declared.part.StepFault.{StepFault}
use Rattle.manager.specs.declared.part.StepFault.TheVariants.{DiskFault, Down}
use Rattle.volume_parts.proofs.Entries.{count-cons, one_there, entry_of_version, among}
use Rattle.wol_promise.proofs.Lowering.{filter_listed}
use Rattle.reclaimer.specs.Counts.{TakesOff}
use Rattle.reclaimer.specs.Groups.{lanes_of}
use Rattle.reclaimer.specs.Wholes.{ComeFirst, CountsFirst, GivesFirst, first_to_go, one, whole}
use Rattle.reclaimer.proofs.Counted.{drop_takes, index_stays, lowered_given}
use Rattle.reclaimer.proofs.Draining.{all_keep, drained_same, lane_here, others_given}
use Rattle.reclaimer.proofs.DrainStep.{FirstAwake, first_awake}
use Rattle.reclaimer.proofs.GiveUp.{Going, done_then, dropped_as, going_of, reclaims, set_same}
use Rattle.reclaimer.proofs.Pools.{dropped_no_fewer, whole_no_fewer}
use Rattle.reclaimer.proofs.TakenOff.{dues_in, Taken, takes_off}
use Rattle.reclaimer.proofs.Wholes.{GivenUp, given_whole, less_left, reclaims_of, taken_by}

-- ---- lists

-- those that are left and those of the segment are all
length_whole : (lane index : ℕ) (es : List Indexed) → length (listed_in (filter (lies_elsewhere lane index) es)) + entries_at lane index es ≡ length (listed_in es)
length_whole lane index [] = refl
length_whole lane index (e ∷ es) = (λ i. length (listed_in (filter (lies_elsewhere lane index) (e ∷ es))) + count-cons (λ (d : Indexed). eqb d.listed.lane lane && eqb d.index index) e es i)
    ∙ at (eqb e.listed.lane lane && eqb e.index index) (length_whole lane index es)
  where
    at : (t : Bool) → length (listed_in (filter (lies_elsewhere lane index) es)) + entries_at lane index es ≡ length (listed_in es)
        → length (listed_in (cond (not t) (e ∷ filter (lies_elsewhere lane index) es) (filter (lies_elsewhere lane index) es))) + (cond t 1 0 + entries_at lane index es) ≡ length (listed_in (e ∷ es))
    at true rest = omega (arith, rest)
    at false rest = omega (arith, rest)

-- other lanes list as before
others_whole : (lane index : ℕ) (es : List Indexed) (k : ℕ) → k ≢ lane → list_any (λ (d : Listed). eqb d.lane k) (listed_in (filter (lies_elsewhere lane index) es)) ≡ list_any (λ (d : Listed). eqb d.lane k) (listed_in es)
others_whole lane index [] k other = refl
others_whole lane index (e ∷ es) k other = at (eqb e.listed.lane lane) refl (eqb e.index index) (others_whole lane index es k other)
  where
    at : (s : Bool) → eqb e.listed.lane lane ≡ s → (t : Bool) → list_any (λ (d : Listed). eqb d.lane k) (listed_in (filter (lies_elsewhere lane index) es)) ≡ list_any (λ (d : Listed). eqb d.lane k) (listed_in es)
        → list_any (λ (d : Listed). eqb d.lane k) (listed_in (cond (not (s && t)) (e ∷ filter (lies_elsewhere lane index) es) (filter (lies_elsewhere lane index) es))) ≡ list_any (λ (d : Listed). eqb d.lane k) (listed_in (e ∷ es))
    at true is true rest = rest ∙ sym (λ i. ne_eqb e.listed.lane k (λ same. other (sym same ∙ eqb-true e.listed.lane lane is)) i || list_any (λ (d : Listed). eqb d.lane k) (listed_in es))
    at true is false rest = λ i. eqb e.listed.lane k || rest i
    at false is t rest = λ i. eqb e.listed.lane k || rest i

-- ---- the record

-- what was given up, by an answer
pub record IsGiven {D : Type 0} (state : D → State) (any : Bool) (old new : Manager D) (res : Result ℕ StepFault) : Type 0 where
  pub given : OnTried res (ForSome (first_to_go any old) (λ e. GivesFirst e old new res))
  pub look : any ≡ false → OnOk res (AreReclaims (look_of_manager old) (look_of_manager new))
  pub awake : OnTried res (new.home_up ≡ old.home_up)
  pub drains : OnKept res (drained (look_of_manager new) ≡ drained (look_of_manager old))
  pub counted : CountsFirst res (look_of_manager old) (look_of_manager new)
  pub lowers : OnOk res (left (listed_in new.index.entries) < left (listed_in old.index.entries))
  pub passed : (lanes : List LaneBase) (k : ℕ) → nones_at old.lanes.items lanes k ≤ nones_at new.lanes.items lanes k

module _ {D : Type 0} (state : D → State) (any : Bool) (old : Manager D) (r : Rec) (index : IsIndex old.index.entries) (ready : IsReady state old) (up : old.down ≡ None) (answer : IsAnswer (first_to_go any old) (Some r)) where
  abbrev Passes : Listed → Bool
  Passes d = slice_index_or (lanes_of any old) d.lane false && has_going (listed_in old.index.entries) d

  pub g : FirstAwake Passes old.index.entries r
  g = first_awake Passes old.index.entries r index answer

  is_record : IsAnswer (Some g.entry) (Some r)
  is_record = subst (λ (o : Option Indexed). IsAnswer o (Some r)) g.next answer

  lane_awake : slice_index_or (lanes_of any old) g.entry.listed.lane false ≡ true
  lane_awake = (and_parts (slice_index_or (lanes_of any old) g.entry.listed.lane false) (has_going (listed_in old.index.entries) g.entry.listed) g.first.passes).0

  pub goes_ : has_going (listed_in old.index.entries) g.entry.listed ≡ true
  goes_ = (and_parts (slice_index_or (lanes_of any old) g.entry.listed.lane false) (has_going (listed_in old.index.entries) g.entry.listed) g.first.passes).1

  pub going_there : (e : Indexed) → entry_at old.index.entries r.version ≡ Some e → has_going (listed_in old.index.entries) e.listed ≡ true
  going_there e is = subst (λ (x : Indexed). has_going (listed_in old.index.entries) x.listed ≡ true) (same_Some g.entry e (sym g.is ∙ is)) goes_

  pub there : HasVersion old.index.entries r.version
  there = subst (λ (o : Option Indexed). is_some o ≡ true) (sym g.is) refl

  pub answer_there : IsAnswer (entry_at old.index.entries r.version) (Some r)
  answer_there = subst (λ (o : Option Indexed). IsAnswer o (Some r)) (sym g.is) is_record

  -- the segment of the record, as the entry has it
  pub go_there : AllGoIn r.lane r.segment old.index.entries → (e : Indexed) → entry_at old.index.entries r.version ≡ Some e → AllGoIn e.listed.lane e.index old.index.entries
  go_there go e is = subst (λ (x : Indexed). AllGoIn x.listed.lane x.index old.index.entries) (same_Some g.entry e (sym g.is ∙ is))
      (subst (λ (k : ℕ). AllGoIn k g.entry.index old.index.entries) is_record.lane (subst (λ (s : ℕ). AllGoIn r.lane s old.index.entries) is_record.segment go))

  each : (P : Indexed → Type 0) → P g.entry → ForSome (first_to_go any old) P
  each P p e is = subst P (same_Some g.entry e (sym g.next ∙ is)) p

  going : any ≡ false → Going old r
  going is = going_of old r old.index old.ups.items refl refl index (subst (λ (t : Bool). IsAnswer (first_to_go t old) (Some r)) is answer)

  within : (l : Lane D) → slice_get old.lanes.items g.entry.listed.lane ≡ Some l → g.entry.listed.lane < length old.ups.items
  within l is = let lt = slice_get_within old.lanes.items g.entry.listed.lane l is in let f = ready.ready.flags in omega (arith, lt, f)

  module _ (new : Manager D) where
    -- ---- one record

    module _ (res : Result Bool StepFault) (d : HasDropped r.version g.entry old new res) where
      pub one_dropped : (told : Result ℕ StepFault) → is_ok told ≡ is_ok res → HasDropped g.entry.listed.version g.entry old new told
      one_dropped told like = subst (λ (v : ℕ). HasDropped v g.entry old new told) g.version (dropped_as r.version g.entry old new res told like d)

      listed_given : is_ok res ≡ true → listed_in new.index.entries ≡ filter keeps_a_block (slice_set (listed_in old.index.entries) g.first.spot.place (keeping (listed_in old.index.entries) g.entry.listed))
      listed_given done = ap listed_in (done_then _ res done d.ok) ∙ ap (λ (v : ℕ). listed_in (given_of v old.index.entries)) g.version ∙ filter_listed (changed g.entry.listed.version (with_kept old.index.entries) old.index.entries)
          ∙ ap (filter keeps_a_block) (g.first.spot.then_is (with_kept old.index.entries))

      one_look : is_ok res ≡ true → new.down ≡ old.down → drained (look_of_manager new) ≡ drained (look_of_manager old)
      one_look done same = ap (λ (k : Manager D). drained (look_of_manager k)) d.rest
          ∙ ap (λ (p : Option Part). drained (record { home_up = old.home_up; ups = slice_set old.ups.items g.entry.listed.lane true; next = old.next; listed = listed_in new.index.entries; down = down_of p })) same
          ∙ drained_same old.home_up old.home_up old.ups.items old.next (listed_in old.index.entries) (listed_in new.index.entries) (down_of old.down) g.entry.listed.lane (within d.lanes.before d.lanes.there)
          (lane_here (listed_in old.index.entries) g.first.spot.place g.entry.listed g.first.spot.there)
          (λ k other. ap (list_any (λ (x : Listed). eqb x.lane k)) (listed_given done)
          ∙ others_given (listed_in old.index.entries) g.first.spot.place g.entry.listed (keeping (listed_in old.index.entries) g.entry.listed) g.first.spot.there refl (all_keep old.index.entries index) k other)

    pub one_done : (gone : Bool) (n : ℕ) → n ≡ (if gone then 1 else 0) → gone ≡ is_none (entry_at new.index.entries r.version) → new.down ≡ None
        → ((e : Indexed) → entry_at old.index.entries r.version ≡ Some e → HasDropped r.version e old new (Ok gone)) → IsGiven state any old new (Ok n)
    one_done gone n many is stays dropped =
        let res : Result Bool StepFault = Ok gone in let d : HasDropped r.version g.entry old new res = dropped g.entry g.is in
        let counts : n ≡ (if is_none (entry_at new.index.entries r.version) then 1 else 0) = many ∙ ap (λ (t : Bool). if t then 1 else 0) is in
        let told : Result ℕ StepFault = Ok n in record {
          given = each (λ e. GivesFirst e old new told) (one (one_dropped res d told refl) (counts ∙ ap (λ (v : ℕ). if is_none (entry_at new.index.entries v) then 1 else 0) g.version));
          look = λ own. more (look_of_manager old) (look_of_manager new) (look_of_manager new) (reclaims state old new r (going own) res refl dropped (stays ∙ sym up)) (none (look_of_manager new));
          awake = ap (λ (k : Manager D). k.home_up) d.rest;
          drains = one_look res d refl (stays ∙ sym up);
          counted = subst (λ (k : ℕ). TakesOff 0 k (look_of_manager old) (look_of_manager new)) (sym counts) (drop_takes old new index r.version g.entry g.is res refl d);
          lowers = lowered_given old.index.entries new.index.entries index r.version g.entry g.is d.ok goes_;
          passed = λ bs j. dropped_no_fewer bs r.version g.entry old new res d j;
        }

    pub one_failed : (fault : StepFault) → TellsStep {T = Bool} state (Err fault) old new → OnTried {T = Bool} (Err fault) ((e : Indexed) → entry_at old.index.entries r.version ≡ Some e → HasDropped {T = Bool} r.version e old new (Err fault)) → IsGiven state any old new (Err fault)
    one_failed (DiskFault p) told dropped =
        let res : Result Bool StepFault = Err (DiskFault p) in let failed : Result ℕ StepFault = Err (DiskFault p) in
        let d : HasDropped r.version g.entry old new res = dropped g.entry g.is in record {
          given = each (λ e. GivesFirst e old new failed) (one (one_dropped res d failed refl) tt);
          look = λ own. tt;
          awake = ap (λ (k : Manager D). k.home_up) d.rest;
          drains = tt;
          counted = index_stays old new d.err;
          lowers = tt;
          passed = λ bs j. dropped_no_fewer bs r.version g.entry old new res d j;
        }
    one_failed (Down p) told dropped = absurd (none-some p (sym up ∙ told.0))

    -- ---- its whole segment

    module _ (go : AllGoIn r.lane r.segment old.index.entries) (first : ComeFirst (lanes_of any old) r.lane r.segment old.index.entries) where
      go_entry : AllGoIn g.entry.listed.lane g.entry.index old.index.entries
      go_entry = go_there go g.entry g.is

      first_entry : ComeFirst (lanes_of any old) g.entry.listed.lane g.entry.index old.index.entries
      first_entry = subst (λ (k : ℕ). ComeFirst (lanes_of any old) k g.entry.index old.index.entries) is_record.lane (subst (λ (s : ℕ). ComeFirst (lanes_of any old) r.lane s old.index.entries) is_record.segment first)

      each_given : GivenUp (lanes_of any old) (listed_in old.index.entries) (listed_in (filter (lies_elsewhere g.entry.listed.lane g.entry.index) old.index.entries))
      each_given = given_whole g.entry.listed.lane g.entry.index (lanes_of any old) lane_awake old.index.entries first_entry go_entry index.rising (all_keep old.index.entries index)

      some_there : 0 < entries_at g.entry.listed.lane g.entry.index old.index.entries
      some_there = let s = one_there (λ (e : Indexed). eqb e.listed.lane g.entry.listed.lane && eqb e.index g.entry.index) old.index.entries g.entry (among (entry_of_version old.index.entries r.version g.entry index.rising g.is))
          (λ i. eq-eqb g.entry.listed.lane g.entry.listed.lane refl i && eq-eqb g.entry.index g.entry.index refl i) in omega (arith, s)

      pub whole_given : (res : Result ℕ StepFault) → TellsStep state res old new → OnTried res (ForSome (entry_at old.index.entries r.version) (λ e. HasDroppedSegment e.listed.lane e.index old new res))
          → IfOk res (λ n. ForSome (entry_at old.index.entries r.version) (λ e. n ≡ entries_at e.listed.lane e.index old.index.entries)) → IsGiven state any old new res
      whole_given (Ok n) told dropped gone =
          let res : Result ℕ StepFault = Ok n in let d : HasDroppedSegment g.entry.listed.lane g.entry.index old new res = dropped g.entry g.is in
          let counts : n ≡ entries_at g.entry.listed.lane g.entry.index old.index.entries = gone g.entry g.is in
          let listed : listed_in new.index.entries ≡ listed_in (filter (lies_elsewhere g.entry.listed.lane g.entry.index) old.index.entries) = ap listed_in d.ok in
          let fewer = length_whole g.entry.listed.lane g.entry.index old.index.entries in
          let down : new.down ≡ old.down = told.1 ∙ sym told.0 in record {
            given = each (λ e. GivesFirst e old new res) (whole go_entry d counts);
            look = λ own.
                let mine : old.ups.items ≡ lanes_of any old = sym (ap (λ (t : Bool). lanes_of t old) own) in
                let then_ : look_of_manager new ≡ record (look_of_manager old) { listed = listed_in (filter (lies_elsewhere g.entry.listed.lane g.entry.index) old.index.entries) } =
                ap look_of_manager d.rest ∙ (λ i. record { home_up = old.home_up; ups = set_same old.ups.items g.entry.listed.lane (ap (λ (us : List Bool). slice_index_or us g.entry.listed.lane false) mine ∙ lane_awake) i; next = old.next; listed = listed i; down = down_of (down i) }) in
                subst (AreReclaims (look_of_manager old)) (sym then_) (reclaims_of (lanes_of any old) (listed_in old.index.entries) (listed_in (filter (lies_elsewhere g.entry.listed.lane g.entry.index) old.index.entries)) each_given (look_of_manager old) mine refl);
            awake = ap (λ (k : Manager D). k.home_up) d.rest;
            drains = ap (λ (k : Manager D). drained (look_of_manager k)) d.rest
                ∙ ap (λ (p : Option Part). drained (record { home_up = old.home_up; ups = slice_set old.ups.items g.entry.listed.lane true; next = old.next; listed = listed_in new.index.entries; down = down_of p })) down
                ∙ drained_same old.home_up old.home_up old.ups.items old.next (listed_in old.index.entries) (listed_in new.index.entries) (down_of old.down) g.entry.listed.lane (within d.lanes.before d.lanes.there)
                (lane_here (listed_in old.index.entries) g.first.spot.place g.entry.listed g.first.spot.there)
                (λ k other. ap (list_any (λ (x : Listed). eqb x.lane k)) listed ∙ others_whole g.entry.listed.lane g.entry.index old.index.entries k other);
            counted = takes_off 0 n (look_of_manager old) (look_of_manager new) (subst (λ (l : List Listed). Taken 0 (dues_in (listed_in old.index.entries)) (dues_in l)) (sym listed) (taken_by (lanes_of any old) (listed_in old.index.entries) (listed_in (filter (lies_elsewhere g.entry.listed.lane g.entry.index) old.index.entries)) each_given))
                (let l = ap length listed in omega (arith, l, fewer, counts));
            lowers = let less = less_left (lanes_of any old) (listed_in old.index.entries) (listed_in (filter (lies_elsewhere g.entry.listed.lane g.entry.index) old.index.entries)) each_given (let s = some_there in omega (arith, s, fewer)) in
                let l = ap left listed in omega (arith, less, l);
            passed = λ bs j. whole_no_fewer bs g.entry.listed.lane g.entry.index old new res d j;
          }
      whole_given (Err (DiskFault p)) told dropped gone =
          let res : Result ℕ StepFault = Err (DiskFault p) in let d : HasDroppedSegment g.entry.listed.lane g.entry.index old new res = dropped g.entry g.is in record {
            given = each (λ e. GivesFirst e old new res) (whole go_entry d tt);
            look = λ own. tt;
            awake = ap (λ (k : Manager D). k.home_up) d.rest;
            drains = tt;
            counted = index_stays old new d.err;
            lowers = tt;
            passed = λ bs j. whole_no_fewer bs g.entry.listed.lane g.entry.index old new res d j;
          }
      whole_given (Err (Down p)) told dropped gone = absurd (none-some p (sym up ∙ told.0))
