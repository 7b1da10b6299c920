-- A lane gave up blocks of one record: what the manager is then, clause by clause.
use Rattle.std.proofs.Common.{◌≡◌, ◌+◌, ◌≢◌, ◌<◌, ◌≤◌, ◌^◌, ℕ, zero, suc, Bool, true, false, cond, not, ◌&&◌, List, [], ◌∷◌, ◌++◌, map, length, Option, None, Some, Result, Ok, Err, refl, sym, ap, subst, ◌∙◌, arith, eqb, bit_and, get_or}
use Rattle.std.specs.Prelude.{IsTrue, slice_get, slice_set, remove, filter, is_none, IfSome, is_some}
use Rattle.std.specs.Int.{bit_not, w128}
use Rattle.std.specs.List.{AllByRecursion, list_any, range_with_len}
use Rattle.std.specs.Option.{option_to_list}
use Rattle.std.specs.Vec.{with_item}
use Rattle.std.proofs.lemmas.Bool.{false≢true, eq-eqb, ne_eqb}
use Rattle.std.proofs.lemmas.Option.{none-some, same_Some}
use Rattle.turn_lock.specs.Passes.{pass_mine, pass_number}
use Rattle.seg_pool.specs.Holders.{Gave}
use Rattle.seg_pool.specs.Operations.{operation_of}
use Rattle.wol_disk.specs.Disk.{State, IsDisk}
use Rattle.wol_model.specs.Blocks.{AreApart}
use Rattle.wol_model.specs.Heads.{RecordHead}
use Rattle.wol_model.specs.Index.{Indexed, listed_in, goes, keeps_a_block}
use Rattle.wol_promise.specs.Ruled.{Noted, HasPassed}
use Rattle.wol_promise.proofs.Lists.{all_front, all_member, all_mapped}
use Rattle.wol_promise.proofs.OneMore.{last_more}
use Rattle.spin_model.specs.Spun.{state_of}
use Rattle.log_segment.specs.Records.{IsProperPart}
use Rattle.log_segment.specs.declared.free.FreeSegment.{FreeSegment}
use Rattle.block_cells.specs.Masks.{IsMask}
use Rattle.block_cells.specs.declared.record.Rec.{Rec}
use Rattle.redirect_map.specs.Index.{Contents, IsAnswer, IsIndex, IsEntry, entry_at, changed, given_up, has_version}
use Rattle.log_layout.specs.Values.{record_head}
use Rattle.log_layout.specs.declared.record.RecHead.{RecHead}
use Rattle.logger.specs.Lanes.{IsLane, HoldsAll, IsSameLane, HasUsed, IsTrimmable, Trimmed, in_place, to_pool, not_freed, held_in, taken_in, pool_of, logger_of}
use Rattle.logger.specs.declared.lane.HeldSegment.{HeldSegment}
use Rattle.logger.specs.declared.lane.Lane.{Lane}
use Rattle.logger.specs.declared.lane.Spot.{Spot}
use Rattle.logger.proofs.Indexes.{lacks_removed}
use Rattle.manager.specs.Causes.{PartRose}
use Rattle.manager.specs.Offers.{ChangesLane}
use Rattle.manager.specs.Reclaim.{given_of, with_kept, IsTrimmedLane, HasDropped, KeepsOn, BreaksOff, StopsSince, Always}
use Rattle.manager.specs.Stands.{Keeps, IsReady, IsReadyLane, IsInVolume, entries_at, nones_in, nones_at, takes_in, AreStill}
use Rattle.manager.specs.Stops.{Stops}
use Rattle.manager.specs.declared.base.ManagerBase.{ManagerBase}
use Rattle.manager.specs.declared.manager.Manager.{Manager}
use Rattle.manager.specs.declared.part.Part.{Part}
use Rattle.manager.specs.declared.part.StepFault.{StepFault}
use Rattle.volume_parts.proofs.Entries.{one_there, lies_there, At, Found, found_of, among, entry_in, entry_of_version, some_of, given_is, given_list, keeps_is, none_of_version, one_of_version, proper, still_changed, still_filter}
use Rattle.manager.proofs.Calm.{segment_rose}
use Rattle.manager.proofs.DropKeeps.{stays, leaves}
use Rattle.manager.proofs.DropReady.{up_in_place, up_less, valid_now, none_left, ready_given, ready_broken}
use Rattle.manager.proofs.DropStops.{cut_now, freed_now, cut_then, freed_then, failed_pieces, in_place_stops, less_stops_so}
use Rattle.manager.proofs.FetchRec.{spot_at, spot_in}
use Rattle.manager.proofs.Frames.{none_passed}
use Rattle.volume_parts.proofs.Elements.{all_at, map_set}
use Rattle.manager.proofs.Putting.{Pieces}
use Rattle.manager.proofs.ReadyLanes.{locks_set, nones_at_set, takes_of_set, down_counts}
use Rattle.volume_parts.proofs.Lanes.{nones_more, takes_gave}
use Rattle.volume_parts.proofs.PartReads.{never_some}
use Rattle.manager.specs.declared.part.Part.TheVariants as part

-- ---- indexes of segments

filter_all : (v : ℕ) (xs : List ℕ) → AllByRecursion (λ w. w ≢ v) xs → filter (λ w. not (eqb w v)) xs ≡ xs
filter_all v [] all = refl
filter_all v (x ∷ xs) all = ap (λ (t : Bool). cond (not t) (x ∷ filter (λ w. not (eqb w v)) xs) (filter (λ w. not (eqb w v)) xs)) (ne_eqb x v all.0) ∙ (λ i. x ∷ filter_all v xs all.1 i)

pub removed_indexes : {X : Type 0} (f : X → ℕ) (xs : List X) (ws : List ℕ) (i : ℕ) (o : X) → AreApart (map f xs ++ ws) → slice_get xs i ≡ Some o → map f (remove xs i) ≡ filter (λ w. not (eqb w (f o))) (map f xs)
removed_indexes f [] ws i o apart is = absurd (none-some o is)
removed_indexes f (x ∷ xs) ws zero o apart is =
    let others = all_mapped (λ (w : ℕ). w ≢ f o) f xs (lacks_removed f (x ∷ xs) ws zero o apart is).0 in
    sym (ap (λ (t : Bool). cond (not t) (f x ∷ filter (λ w. not (eqb w (f o))) (map f xs)) (filter (λ w. not (eqb w (f o))) (map f xs))) (eq-eqb (f x) (f o) (ap f (same_Some x o is))) ∙ filter_all (f o) (map f xs) others)
removed_indexes f (x ∷ xs) ws (suc i) o apart is =
    let first = (lacks_removed f (x ∷ xs) ws (suc i) o apart is).0.0 in
    (λ j. f x ∷ removed_indexes f xs ws i o apart.1 is j)
    ∙ sym (ap (λ (t : Bool). cond (not t) (f x ∷ filter (λ w. not (eqb w (f o))) (map f xs)) (filter (λ w. not (eqb w (f o))) (map f xs))) (ne_eqb (f x) (f o) first))

some_count : (p : ℕ → Bool) (first n : ℕ) → list_any p (range_with_len first n) ≡ true → 1 ≤ n
some_count p first zero is = absurd (false≢true is)
some_count p first (suc n) is = omega arith

-- ---- pieces of a manager in which one lane is another

module _ {D : Type 0} (tells : Bool) (state : D → State) (m : Manager D) (b : ManagerBase) (notes : List Noted) (kp : Keeps tells state m b notes)
    (k : ℕ) (old new : Lane D) (lane : slice_get m.lanes.items k ≡ Some old) (same : IsSameLane old new) (more : nones_in (pass_mine (pool_of old)) ≤ nones_in (pass_mine (pool_of new))) where
  pub passed_still : HasPassed (nones_at (slice_set m.lanes.items k new) b.lanes) notes
  passed_still j = let had = kp.passed j in let n = nones_at_set m.lanes.items b.lanes k old new lane more j in omega arith

  pub keeps_pieces : (then_ : List Noted) (index : Contents) (ups : List Bool) (down : Option Part) (es : List Indexed) → index.entries ≡ es → ups ≡ slice_set m.ups.items k true
      → Pieces tells state m b then_ (slice_set m.lanes.items k new) es m.next (slice_set m.ups.items k true) down → IsReady state (record m { lanes = with_item m.lanes k new; index = index; ups = record { items = ups }; down = down })
      → HasPassed (nones_at (slice_set m.lanes.items k new) b.lanes) then_ → takes_in (pass_mine (pool_of new)) ≡ takes_in (pass_mine (pool_of old)) → cond {A = ℕ} (is_some m.down) 1 0 ≤ cond (is_some down) 1 0 → AreStill b.volume.places b.volume.began.next es
      → Keeps tells state (record m { lanes = with_item m.lanes k new; index = index; ups = record { items = ups }; down = down }) b then_
  keeps_pieces then_ index ups down es entries flags pieces ready passed takes counts still =
      let now : Pieces tells state m b then_ (slice_set m.lanes.items k new) index.entries m.next ups down =
      subst (λ (u : List Bool). Pieces tells state m b then_ (slice_set m.lanes.items k new) index.entries m.next u down) (sym flags)
      (subst (λ (l : List Indexed). Pieces tells state m b then_ (slice_set m.lanes.items k new) l m.next (slice_set m.ups.items k true) down) (sym entries) pieces) in record {
        logs = now.logs;
        held = now.held;
        upholds = now.upholds;
        in_use = now.in_use;
        passed = passed;
        taken = let few = kp.taken in let more = takes_of_set m.lanes.items b.lanes k 0 old new lane (omega (arith, takes)) in omega (arith, few, more, counts);
        still = subst (AreStill b.volume.places b.volume.began.next) (sym entries) still;
        ready = ready;
        locks = locks_set state m.id m.most m.lanes.items k old new lane same kp.locks more;
      }

-- ---- the call

-- the call found the record of this version, and its entry
pub record IsFound {D : Type 0} (state : D → State) (m : Manager D) (version : ℕ) (r : Rec) : Type 0 where
  pub ready : IsReady state m
  pub up : m.down ≡ None
  pub its : Found m.index.entries version r
  pub index : IsIndex m.index.entries

-- as the index answered it
pub found_as : {D : Type 0} (state : D → State) (m : Manager D) (version : ℕ) (r : Rec) → IsReady state m → ((p : Part) → m.down ≡ Some p → ⊥) → IsIndex m.index.entries → IsAnswer (entry_at m.index.entries version) (Some r) → IsFound state m version r
found_as state m version r ready never index is = record { ready = ready; up = never_some m.down never; its = found_of m.index.entries version r is; index = index }

-- its lane, as the code reaches it
pub lane_in : {D : Type 0} {state : D → State} {m : Manager D} {version : ℕ} {r : Rec} → IsFound state m version r → (l : Lane D) → l ≡ get_or m.lanes.items r.lane l → slice_get m.lanes.items r.lane ≡ Some l
lane_in {state = state} {m = m} {version = version} {r = r} call l is = (spot_in state m call.ready call.up version r call.index call.its l is).lane_is

-- the mask of its blocks that may go
pub record AreGoing {D : Type 0} (m : Manager D) (version given : ℕ) : Type 0 where
  pub fits : given < 2 ^ 128
  pub mask : IfSome (entry_at m.index.entries version) (λ e. IsMask e.listed.first (goes (listed_in m.index.entries) e.listed) given)

-- one spot can be trimmed where another, the same, can, and was trimmed
pub trimmable_at : {D : Type 0} {l : Lane D} {spot there : Spot} → spot ≡ there → IsTrimmable l there → IsTrimmable l spot
trimmable_at {l = l} is = subst (λ (s : Spot). IsTrimmable l s) (sym is)

pub trimmed_at : {D T E : Type 0} {state : D → State} {old new : Lane D} {spot there : Spot} {head : RecordHead} {keep : ℕ} {res : Result T E} → spot ≡ there
    → Trimmed state old new spot head keep res → Trimmed state old new there head keep res
trimmed_at {state = state} {old = old} {new = new} {head = head} {keep = keep} {res = res} is = subst (λ (s : Spot). Trimmed state old new s head keep res) is

-- what became of its lane
pub record HasTurned {D : Type 0} (state : D → State) (old new : Lane D) : Type 0 where
  pub is_lane : IsLane state new
  pub same : IsSameLane old new
  pub all : HoldsAll old → HoldsAll new
  pub taken : taken_in new ≡ taken_in old
  pub used : HasUsed old new

-- the record of the call, its entry and its lane
module _ {D : Type 0} {state : D → State} {m : Manager D} {version : ℕ} {r : Rec} (call : IsFound state m version r) {given : ℕ} (going : AreGoing m version given) where
  abbrev e : Indexed
  e = call.its.entry

  abbrev keep : ℕ
  keep = bit_and r.keep (bit_not w128 given)

  pub at : At m.index.entries version call.its.entry
  at = entry_of_version m.index.entries version call.its.entry call.index.rising call.its.is

  pub its : IsEntry (listed_in m.index.entries) call.its.entry.listed
  its = entry_in m.index.entries call.its.entry call.index (among at)

  pub bits : IsMask call.its.entry.listed.first (goes (listed_in m.index.entries) call.its.entry.listed) given
  bits = some_of (λ (d : Indexed). IsMask d.listed.first (goes (listed_in m.index.entries) d.listed) given) (entry_at m.index.entries version) call.its.entry going.mask call.its.is

  lane_is : call.its.entry.listed.lane ≡ r.lane
  lane_is = sym call.its.record_.lane

  in_volume : IsInVolume (state_of state m.home).size call.its.entry
  in_volume = all_member (IsInVolume (state_of state m.home).size) m.index.entries call.its.entry call.ready.ranges (among at)

  -- its head
  pub version_ready : (1 ≤ r.version) × (r.version < 2 ^ 63)
  version_ready = (
    let v = in_volume.least in let s = call.its.record_.version in omega arith,
    let lt = all_member (λ (d : Indexed). d.listed.version < m.next) m.index.entries call.its.entry call.ready.below (among at) in let s = call.its.record_.version in let n = call.ready.next.1 in omega arith,
  )

  pub count_ready : (1 ≤ r.count) × (r.count ≤ 128)
  count_ready = (
    let c = some_count _ call.its.entry.listed.first (length call.its.entry.listed.keep) its.keeps in let s = call.its.record_.count in omega arith,
    let c = its.count in let s = call.its.record_.count in omega arith,
  )

  pub range_ready : r.lbn + r.count ≤ 2 ^ 32
  range_ready = let w = its.within in let s = call.its.record_.count in let a = call.its.record_.first in omega arith

  pub its_head : (h : RecHead) → h ≡ record { form = 2; keep = r.keep; owner = m.id; version = r.version; lbn = r.lbn; count = r.count } → record_head h ≡ record { form = 2; owner = m.id; version = version; first = r.lbn; count = r.count; mask = r.keep }
  its_head h is = ap record_head is ∙ (λ j. record { form = 2; owner = m.id; version = (call.its.record_.version ∙ at.version_is) j; first = r.lbn; count = r.count; mask = r.keep })

  pub its_owner : (h : RecHead) → h ≡ record { form = 2; keep = r.keep; owner = m.id; version = r.version; lbn = r.lbn; count = r.count } → h.owner ≡ m.id
  its_owner h is = ap (λ (g : RecHead). g.owner) is

  pub proper_keep : (h : RecHead) → h ≡ record { form = 2; keep = r.keep; owner = m.id; version = r.version; lbn = r.lbn; count = r.count } → 0 < given → IsProperPart (bit_and r.keep (bit_not w128 given)) h.keep
  proper_keep h is some = subst (λ (g : RecHead). IsProperPart (bit_and r.keep (bit_not w128 given)) g.keep) (sym is) (proper m.index.entries call.its.entry r call.its.record_ its.count given going.fits bits some)

  -- what the index has after it
  pub given_entries : filter (λ (d : Indexed). keeps_a_block d.listed) (changed version (given_up given) m.index.entries) ≡ given_of version m.index.entries
  given_entries = ap (filter (λ (d : Indexed). keeps_a_block d.listed))
      (at.then_is (given_up given) ∙ (λ i. at.front ++ given_is m.index.entries call.its.entry r call.its.record_ its.count given going.fits bits i ∷ at.back) ∙ sym (at.then_is (with_kept m.index.entries)))

  -- the record is gone where it keeps nothing
  pub gone_is : (es : List Indexed) → es ≡ given_of version m.index.entries → eqb (bit_and r.keep (bit_not w128 given)) 0 ≡ is_none (entry_at es version)
  gone_is es same = subst (λ (l : List Indexed). eqb (bit_and r.keep (bit_not w128 given)) 0 ≡ is_none (entry_at l version)) (sym same) (by (eqb keep 0) refl)
    where
      by : (t : Bool) → eqb (bit_and r.keep (bit_not w128 given)) 0 ≡ t → eqb (bit_and r.keep (bit_not w128 given)) 0 ≡ is_none (entry_at (given_of version m.index.entries) version)
      by true none = none ∙ sym (ap (λ (l : List Indexed). is_none (entry_at l version)) (given_list m.index.entries version call.its.entry call.index at false (sym (keeps_is m.index.entries call.its.entry r call.its.record_ its.count given going.fits bits) ∙ ap not none))
          ∙ ap is_none (none_of_version version (at.front ++ at.back) at.others))
      by false some = some ∙ sym (ap (λ (l : List Indexed). is_none (entry_at l version)) (given_list m.index.entries version call.its.entry call.index at true (sym (keeps_is m.index.entries call.its.entry r call.its.record_ its.count given going.fits bits) ∙ ap not some))
          ∙ ap is_none (one_of_version version at.front (with_kept m.index.entries call.its.entry) at.back (all_front (λ (d : Indexed). has_version version d ≡ false) at.front at.back at.others) at.version_is))

  module _ {old : Lane D} (lane : slice_get m.lanes.items r.lane ≡ Some old) where
    pub old_lane : IsReadyLane state m.id m.most old
    old_lane = all_at (IsReadyLane state m.id m.most) m.lanes.items r.lane old lane call.ready.ready.each

    -- its segment is held and whole
    pub spot_ready : IsTrimmable old (record { segment = r.segment; pos = r.pos })
    spot_ready = let s = spot_at state m call.ready call.up version r call.index call.its old lane in record { place = s.place; segment = s.segment; there = s.there; named = s.index; whole = s.segment_whole; fits = let w = s.fits in omega arith }

    module _ {new : Lane D} (turn : HasTurned state old new) where
      untaken : taken_in new ≡ None
      untaken = turn.taken ∙ old_lane.untaken

      index_is : (o : HeldSegment D) → o.index ≡ r.segment → call.its.entry.index ≡ o.index
      index_is o named = sym call.its.record_.segment ∙ sym named

      -- ---- done

      module _ {T E : Type 0} (x : T) (head : RecordHead) (head_is : head ≡ record { form = 2; owner = m.id; version = version; first = r.lbn; count = r.count; mask = r.keep }) (moved_ : Trimmed {T = T} {E = E} state old new (record { segment = r.segment; pos = r.pos }) head (bit_and r.keep (bit_not w128 given)) (Ok x)) where
        moved : Trimmed {T = T} {E = E} state old new (record { segment = r.segment; pos = r.pos }) (record { form = 2; owner = m.id; version = version; first = r.lbn; count = r.count; mask = r.keep }) (bit_and r.keep (bit_not w128 given)) (Ok x)
        moved = subst (λ (h : RecordHead). Trimmed {T = T} {E = E} state old new (record { segment = r.segment; pos = r.pos }) h (bit_and r.keep (bit_not w128 given)) (Ok x)) head_is moved_

        pub ready_then : (index' : Contents) (ups : List Bool) → index'.entries ≡ given_of version m.index.entries → ups ≡ slice_set m.ups.items r.lane true → IsReady state (record m { lanes = with_item m.lanes r.lane new; index = index'; ups = record { items = ups } })
        ready_then index' ups entries flags = by moved
          where
            by : Trimmed {T = T} {E = E} state old new (record { segment = r.segment; pos = r.pos }) (record { form = 2; owner = m.id; version = version; first = r.lbn; count = r.count; mask = r.keep }) (bit_and r.keep (bit_not w128 given)) (Ok x)
                → IsReady state (record m { lanes = with_item m.lanes r.lane new; index = index'; ups = record { items = ups } })
            by (in_place i o n there named held pool cut) = ready_given state m call.ready r.lane old new lane turn.is_lane turn.same turn.all untaken ups flags version index' entries
                (up_in_place state m call.ready call.up r.lane old lane version call.its.entry call.index at its.count lane_is r call.its.record_ given going.fits bits i o there (index_is o named) new turn.is_lane turn.same untaken n held cut.index cut.whole cut.fewer)
            by (to_pool i o free there named held pool ok gave) = ready_given state m call.ready r.lane old new lane turn.is_lane turn.same turn.all untaken ups flags version index' entries
                (up_less state m call.ready call.up r.lane old lane version call.its.entry call.index at its.count lane_is r call.its.record_ given going.fits bits i o there (index_is o named) new turn.is_lane turn.same untaken held gave.fewer)
            by (not_freed i o n there named held pool err stayed) = absurd (false≢true err)

        -- as many entries as are left in its segment
        same_count : (o : HeldSegment D) (named : o.index ≡ r.segment) (es : List Indexed) → es ≡ given_of version m.index.entries → entries_at call.its.entry.listed.lane call.its.entry.index es ≡ entries_at r.lane o.index (given_of version m.index.entries)
        same_count o named es entries = λ j. entries_at (lane_is j) (index_is o named j) (entries j)

        pub lane_then : (es : List Indexed) → es ≡ given_of version m.index.entries → ChangesLane (IsTrimmedLane call.its.entry.index (entries_at call.its.entry.listed.lane call.its.entry.index es ≡ 0)) call.its.entry.listed.lane m.lanes.items (slice_set m.lanes.items r.lane new)
        lane_then es entries = record {
          before = old;
          after = new;
          there = ap (slice_get m.lanes.items) lane_is ∙ lane;
          set = ap (λ (q : ℕ). slice_set m.lanes.items q new) call.its.record_.lane;
          change = by moved;
        }
          where
            by : Trimmed {T = T} {E = E} state old new (record { segment = r.segment; pos = r.pos }) (record { form = 2; owner = m.id; version = version; first = r.lbn; count = r.count; mask = r.keep }) (bit_and r.keep (bit_not w128 given)) (Ok x)
                → IsTrimmedLane call.its.entry.index (entries_at call.its.entry.listed.lane call.its.entry.index es ≡ 0) old new
            by (in_place i o n there named held pool cut) = record {
              same = turn.same;
              used = turn.used;
              kept = λ _. (pool, ap (map (λ (h : HeldSegment D). h.index)) held ∙ map_set (λ (h : HeldSegment D). h.index) (held_in old) i o n there cut.index);
              gave = λ none. absurd (let c = same_count o named es entries in let v = cut.valid in
                  let n_is = valid_now state m call.ready call.up r.lane old lane version call.its.entry call.index at its.count lane_is r call.its.record_ given going.fits bits i o there (index_is o named) new turn.is_lane turn.same untaken n held cut.index cut.whole cut.fewer in omega (arith, c, v, n_is, none));
            }
            by (to_pool i o free there named held pool ok gave) = record {
              same = turn.same;
              used = turn.used;
              kept = λ some. absurd (some (same_count o named es entries ∙ none_left state m call.ready call.up r.lane old lane version call.its.entry call.index at its.count lane_is r call.its.record_ given going.fits bits i o there (index_is o named) new turn.is_lane turn.same untaken held gave.fewer));
              gave = λ _. (
                pool ∙ (λ j. pass_mine (pool_of old) ++ (pass_number (pool_of old), operation_of (Gave (call.its.record_.segment j))) ∷ []),
                ap (map (λ (h : HeldSegment D). h.index)) held
                    ∙ removed_indexes (λ (h : HeldSegment D). h.index) (held_in old) (map (λ (t : ℕ × FreeSegment D). t.0) (option_to_list (taken_in old))) i o old_lane.lane.apart there
                    ∙ ap (λ (v : ℕ). filter (λ w. not (eqb w v)) (map (λ (h : HeldSegment D). h.index) (held_in old))) (sym (index_is o named)),
              );
            }
            by (not_freed i o n there named held pool err stayed) = absurd (false≢true err)

        -- of the manager nothing else changed
        pub dropped_then : {G : Type 0} (gone : G) (index' : Contents) (ups : List Bool) → index'.entries ≡ given_of version m.index.entries → ups ≡ slice_set m.ups.items r.lane true
            → (d : Indexed) → entry_at m.index.entries version ≡ Some d → HasDropped version d m (record m { lanes = with_item m.lanes r.lane new; index = index'; ups = record { items = ups } }) (Ok gone)
        dropped_then {G} gone index' ups entries flags d is =
            subst (λ (c : Indexed). HasDropped {T = G} version c m (record m { lanes = with_item m.lanes r.lane new; index = index'; ups = record { items = ups } }) (Ok gone)) (same_Some call.its.entry d (sym call.its.is ∙ is)) (record {
              rest = ap (λ (u : List Bool). record m { lanes = with_item m.lanes r.lane new; index = index'; ups = record { items = u } }) (flags ∙ ap (λ (k : ℕ). slice_set m.ups.items k true) call.its.record_.lane);
              lanes = lane_then index'.entries entries;
              ok = entries;
              err = tt;
            })

        pub keeps_then : (tells : Bool) (index' : Contents) (ups : List Bool) → index'.entries ≡ given_of version m.index.entries → ups ≡ slice_set m.ups.items r.lane true → KeepsOn tells state m (record m { lanes = with_item m.lanes r.lane new; index = index'; ups = record { items = ups } }) Always
        keeps_then tells index' ups entries flags b notes any kp = by moved
          where
            given_still : AreStill b.volume.places b.volume.began.next (given_of version m.index.entries)
            given_still = still_filter b.volume.places b.volume.began.next (λ (d : Indexed). keeps_a_block d.listed) (changed version (with_kept m.index.entries) m.index.entries)
                (still_changed b.volume.places b.volume.began.next version (with_kept m.index.entries) (λ d. record { version = refl; first = refl; lane = refl; index = refl; pos = refl }) m.index.entries kp.still)

            by : Trimmed {T = T} {E = E} state old new (record { segment = r.segment; pos = r.pos }) (record { form = 2; owner = m.id; version = version; first = r.lbn; count = r.count; mask = r.keep }) (bit_and r.keep (bit_not w128 given)) (Ok x)
                → Keeps tells state (record m { lanes = with_item m.lanes r.lane new; index = index'; ups = record { items = ups } }) b notes
            by (in_place i o n there named held pool cut) =
                let more : nones_in (pass_mine (pool_of old)) ≤ nones_in (pass_mine (pool_of new)) = (let e = ap nones_in pool in omega (arith, e)) in
                keeps_pieces tells state m b notes kp r.lane old new lane turn.same more notes index' ups m.down (given_of version m.index.entries) entries flags
                (stays tells state m b notes kp call.up r.lane old new lane turn.is_lane turn.same untaken version call.its.entry call.index at its.count lane_is r call.its.record_ given going.fits bits i o there (index_is o named) x n held cut) (ready_then index' ups entries flags) (passed_still tells state m b notes kp r.lane old new lane turn.same more)
                (ap takes_in pool) (omega arith) given_still
            by (to_pool i o free there named held pool ok gave) =
                let more : nones_in (pass_mine (pool_of old)) ≤ nones_in (pass_mine (pool_of new)) = (let e = ap nones_in pool ∙ nones_more (pass_mine (pool_of old)) (pass_number (pool_of old), operation_of (Gave r.segment)) in omega (arith, e)) in
                keeps_pieces tells state m b notes kp r.lane old new lane turn.same more notes index' ups m.down (given_of version m.index.entries) entries flags
                (leaves tells state m b notes kp call.up r.lane old new lane turn.is_lane turn.same untaken version call.its.entry call.index at its.count lane_is r call.its.record_ given going.fits bits i o there (index_is o named) _ free held gave) (ready_then index' ups entries flags) (passed_still tells state m b notes kp r.lane old new lane turn.same more)
                (ap takes_in pool ∙ takes_gave (pass_mine (pool_of old)) (pass_number (pool_of old)) r.segment) (omega arith) given_still
            by (not_freed i o n there named held pool err stayed) = absurd (false≢true err)

        pub stops_then : (tells : Bool) (sound : (d : D) → IsDisk (state d)) → IsTrue tells → (index' : Contents) (ups : List Bool) → ups ≡ slice_set m.ups.items r.lane true → StopsSince tells state m (record m { lanes = with_item m.lanes r.lane new; index = index'; ups = record { items = ups } }) Always
        stops_then tells sound told index' ups flags was read b notes any kw = by moved
          where
            was_up : was.down ≡ None
            was_up = sym read.down ∙ call.up

            by : Trimmed {T = T} {E = E} state old new (record { segment = r.segment; pos = r.pos }) (record { form = 2; owner = m.id; version = version; first = r.lbn; count = r.count; mask = r.keep }) (bit_and r.keep (bit_not w128 given)) (Ok x)
                → Stops state was (record m { lanes = with_item m.lanes r.lane new; index = index'; ups = record { items = ups } }) None b notes []
            by (in_place i o n there named held pool cut) = in_place_stops tells state sound told was m read call.ready was_up call.up b notes kw r.lane old new lane i o there version call.its.entry at lane_is (index_is o named) r call.its.record_ its.count given going.fits bits n held cut.index
                (cut_then tells state sound told was m read call.ready was_up call.up b notes kw r.lane old new lane i o there version call.its.entry at lane_is (index_is o named) r call.its.record_ its.count given going.fits bits n cut.any_moment)
            by (to_pool i o free there named held pool ok gave) = less_stops_so tells state sound told was m read call.ready was_up call.up b notes kw r.lane old new lane i o there version call.its.entry at lane_is (index_is o named) r call.its.record_ its.count given going.fits bits held gave.bare
            by (not_freed i o n there named held pool err stayed) = absurd (false≢true err)

      -- ---- a call of the disk failed

      module _ {T E : Type 0} (x : E) (head : RecordHead) (head_is : head ≡ record { form = 2; owner = m.id; version = version; first = r.lbn; count = r.count; mask = r.keep }) (moved_ : Trimmed {T = T} {E = E} state old new (record { segment = r.segment; pos = r.pos }) head (bit_and r.keep (bit_not w128 given)) (Err x)) (volume : ℕ) (volume_is : volume ≡ logger_of old) (ups : List Bool) (flags : ups ≡ slice_set m.ups.items r.lane true) where
        moved_err : Trimmed {T = T} {E = E} state old new (record { segment = r.segment; pos = r.pos }) (record { form = 2; owner = m.id; version = version; first = r.lbn; count = r.count; mask = r.keep }) (bit_and r.keep (bit_not w128 given)) (Err x)
        moved_err = subst (λ (h : RecordHead). Trimmed {T = T} {E = E} state old new (record { segment = r.segment; pos = r.pos }) h (bit_and r.keep (bit_not w128 given)) (Err x)) head_is moved_

        abbrev pub broken_one : Manager D
        broken_one = record m { lanes = with_item m.lanes r.lane new; ups = record { items = ups }; down = Some (part.Segment volume r.segment) }

        pub ready_broke : IsReady state (record m { lanes = with_item m.lanes r.lane new; ups = record { items = ups }; down = Some (part.Segment volume r.segment) })
        ready_broke = ready_broken state m call.ready r.lane old new lane turn.is_lane turn.same turn.all untaken ups flags (part.Segment volume r.segment)

        -- the index has the record's entry still
        one_still : 1 ≤ entries_at call.its.entry.listed.lane call.its.entry.index m.index.entries
        one_still = one_there (λ (d : Indexed). eqb d.listed.lane call.its.entry.listed.lane && eqb d.index call.its.entry.index) m.index.entries call.its.entry (among at) (lies_there call.its.entry.listed.lane call.its.entry.index call.its.entry refl refl)

        pub lane_broke : ChangesLane (IsTrimmedLane call.its.entry.index (entries_at call.its.entry.listed.lane call.its.entry.index m.index.entries ≡ 0)) call.its.entry.listed.lane m.lanes.items (slice_set m.lanes.items r.lane new)
        lane_broke = record {
          before = old;
          after = new;
          there = ap (slice_get m.lanes.items) lane_is ∙ lane;
          set = ap (λ (q : ℕ). slice_set m.lanes.items q new) call.its.record_.lane;
          change = record { same = turn.same; used = turn.used; kept = λ _. by moved_err; gave = λ none. absurd (let one = one_still in omega (arith, one, none)) };
        }
          where
            by : Trimmed {T = T} {E = E} state old new (record { segment = r.segment; pos = r.pos }) (record { form = 2; owner = m.id; version = version; first = r.lbn; count = r.count; mask = r.keep }) (bit_and r.keep (bit_not w128 given)) (Err x)
                → (pass_mine (pool_of new) ≡ pass_mine (pool_of old)) × (map (λ (h : HeldSegment D). h.index) (held_in new) ≡ map (λ (h : HeldSegment D). h.index) (held_in old))
            by (in_place i o n there named held pool cut) = (pool, ap (map (λ (h : HeldSegment D). h.index)) held ∙ map_set (λ (h : HeldSegment D). h.index) (held_in old) i o n there cut.index)
            by (to_pool i o free there named held pool ok gave) = absurd (false≢true ok)
            by (not_freed i o n there named held pool err stayed) = (pool, ap (map (λ (h : HeldSegment D). h.index)) held ∙ map_set (λ (h : HeldSegment D). h.index) (held_in old) i o n there stayed.index)

        -- of the manager nothing else changed
        pub dropped_broke : (G : Type 0) (fault : StepFault) (d : Indexed) → entry_at m.index.entries version ≡ Some d
            → HasDropped {T = G} version d m (record m { lanes = with_item m.lanes r.lane new; ups = record { items = ups }; down = Some (part.Segment volume r.segment) }) (Err fault)
        dropped_broke G fault d is =
            subst (λ (c : Indexed). HasDropped {T = G} version c m (record m { lanes = with_item m.lanes r.lane new; ups = record { items = ups }; down = Some (part.Segment volume r.segment) }) (Err fault)) (same_Some call.its.entry d (sym call.its.is ∙ is)) (record {
              rest = ap (λ (u : List Bool). record m { lanes = with_item m.lanes r.lane new; ups = record { items = u }; down = Some (part.Segment volume r.segment) }) (flags ∙ ap (λ (k : ℕ). slice_set m.ups.items k true) call.its.record_.lane);
              lanes = lane_broke;
              ok = tt;
              err = refl;
            })

        -- its segment's count rose
        pub cause_broke : PartRose state m (record m { lanes = with_item m.lanes r.lane new; ups = record { items = ups }; down = Some (part.Segment volume r.segment) }) (part.Segment volume r.segment)
        cause_broke = by moved_err
          where
            by : Trimmed {T = T} {E = E} state old new (record { segment = r.segment; pos = r.pos }) (record { form = 2; owner = m.id; version = version; first = r.lbn; count = r.count; mask = r.keep }) (bit_and r.keep (bit_not w128 given)) (Err x)
                → PartRose state m (record m { lanes = with_item m.lanes r.lane new; ups = record { items = ups }; down = Some (part.Segment volume r.segment) }) (part.Segment volume r.segment)
            by (in_place i o n there named held pool cut) = segment_rose state m.lanes.items _ r.lane i old new o n lane refl there held _ _ volume_is (sym named) cut.cause
            by (to_pool i o free there named held pool ok gave) = absurd (false≢true ok)
            by (not_freed i o n there named held pool err stayed) = segment_rose state m.lanes.items _ r.lane i old new o n lane refl there held _ _ volume_is (sym named) stayed.cause

        pub stands_broke : (tells : Bool) (sound : (d : D) → IsDisk (state d)) → BreaksOff tells state m (record m { lanes = with_item m.lanes r.lane new; ups = record { items = ups }; down = Some (part.Segment volume r.segment) }) Always
        stands_broke tells sound b notes nt any note kp = record {
          keeps = by moved_err;
          look = last_more b.volume.began.look notes nt ∙ note.look_is;
        }
          where
            pieces_so : (o : HeldSegment D) → o.index ≡ r.segment → Pieces tells state m b (notes ++ nt ∷ []) (slice_set m.lanes.items r.lane new) m.index.entries m.next (slice_set m.ups.items r.lane true) (Some (part.Segment (logger_of old) o.index))
                → pass_mine (pool_of new) ≡ pass_mine (pool_of old) → Keeps tells state (record m { lanes = with_item m.lanes r.lane new; ups = record { items = ups }; down = Some (part.Segment volume r.segment) }) b (notes ++ nt ∷ [])
            pieces_so o named pieces pool =
                let more : nones_in (pass_mine (pool_of old)) ≤ nones_in (pass_mine (pool_of new)) = (let e = ap nones_in pool in omega (arith, e)) in
                keeps_pieces tells state m b notes kp r.lane old new lane turn.same more (notes ++ nt ∷ []) m.index ups (Some (part.Segment volume r.segment)) m.index.entries refl flags
                (subst (λ (d : Part). Pieces tells state m b (notes ++ nt ∷ []) (slice_set m.lanes.items r.lane new) m.index.entries m.next (slice_set m.ups.items r.lane true) (Some d)) (λ j. part.Segment (sym volume_is j) (named j)) pieces)
                ready_broke (none_passed (nones_at (slice_set m.lanes.items r.lane new) b.lanes) notes nt note.passed_is (passed_still tells state m b notes kp r.lane old new lane turn.same more)) (ap takes_in pool) (down_counts m.down) kp.still

            by : Trimmed {T = T} {E = E} state old new (record { segment = r.segment; pos = r.pos }) (record { form = 2; owner = m.id; version = version; first = r.lbn; count = r.count; mask = r.keep }) (bit_and r.keep (bit_not w128 given)) (Err x)
                → Keeps tells state (record m { lanes = with_item m.lanes r.lane new; ups = record { items = ups }; down = Some (part.Segment volume r.segment) }) b (notes ++ nt ∷ [])
            by (in_place i o n there named held pool cut) = pieces_so o named
                (failed_pieces tells state sound m b notes kp call.up r.lane old new lane turn.is_lane untaken i o there version call.its.entry at lane_is (index_is o named) r call.its.record_ its.count given going.fits bits n held cut.index cut.same cut.broken cut.cause
                (cut_now tells state sound m b notes kp call.up r.lane old new lane turn.is_lane untaken i o there version call.its.entry at lane_is (index_is o named) r call.its.record_ its.count given going.fits bits n cut.any_moment) nt note.operation_is note.drain) pool
            by (to_pool i o free there named held pool ok gave) = absurd (false≢true ok)
            by (not_freed i o n there named held pool err stayed) = pieces_so o named
                (failed_pieces tells state sound m b notes kp call.up r.lane old new lane turn.is_lane untaken i o there version call.its.entry at lane_is (index_is o named) r call.its.record_ its.count given going.fits bits n held stayed.index stayed.same stayed.broken stayed.cause
                (freed_now tells state sound m b notes kp call.up r.lane old new lane turn.is_lane untaken i o there version call.its.entry at lane_is (index_is o named) r call.its.record_ its.count given going.fits bits n stayed.bare stayed.any_moment) nt note.operation_is note.drain) pool

        pub stops_broke : (tells : Bool) (sound : (d : D) → IsDisk (state d)) → IsTrue tells
            → StopsSince tells state m (record m { lanes = with_item m.lanes r.lane new; ups = record { items = ups }; down = Some (part.Segment volume r.segment) }) Always
        stops_broke tells sound told was read b notes any kw = by moved_err
          where
            was_up : was.down ≡ None
            was_up = sym read.down ∙ call.up

            by : Trimmed {T = T} {E = E} state old new (record { segment = r.segment; pos = r.pos }) (record { form = 2; owner = m.id; version = version; first = r.lbn; count = r.count; mask = r.keep }) (bit_and r.keep (bit_not w128 given)) (Err x)
                → Stops state was (record m { lanes = with_item m.lanes r.lane new; ups = record { items = ups }; down = Some (part.Segment volume r.segment) }) None b notes []
            by (in_place i o n there named held pool cut) = in_place_stops tells state sound told was m read call.ready was_up call.up b notes kw r.lane old new lane i o there version call.its.entry at lane_is (index_is o named) r call.its.record_ its.count given going.fits bits n held cut.index
                (cut_then tells state sound told was m read call.ready was_up call.up b notes kw r.lane old new lane i o there version call.its.entry at lane_is (index_is o named) r call.its.record_ its.count given going.fits bits n cut.any_moment)
            by (to_pool i o free there named held pool ok gave) = absurd (false≢true ok)
            by (not_freed i o n there named held pool err stayed) = in_place_stops tells state sound told was m read call.ready was_up call.up b notes kw r.lane old new lane i o there version call.its.entry at lane_is (index_is o named) r call.its.record_ its.count given going.fits bits n held stayed.index
                (freed_then tells state sound told was m read call.ready was_up call.up b notes kw r.lane old new lane i o there version call.its.entry at lane_is (index_is o named) r call.its.record_ its.count given going.fits bits n stayed.bare stayed.any_moment)
