-- A lane gave up a segment with all its records: what the manager is then, clause by clause.
use Rattle.std.proofs.Common.{◌≡◌, ◌≤◌, ℕ, Bool, true, false, not, List, [], ◌∷◌, ◌++◌, map, None, Some, Ok, Err, refl, sym, ap, subst, ◌∙◌, arith, eqb}
use Rattle.std.specs.Prelude.{IsTrue, filter, slice_get, slice_set}
use Rattle.std.specs.Option.{option_to_list}
use Rattle.std.specs.Vec.{with_item}
use Rattle.std.proofs.lemmas.Bool.{false≢true}
use Rattle.std.proofs.lemmas.Option.{same_Some}
use Rattle.turn_lock.specs.Passes.{pass_mine, pass_number}
use Rattle.seg_pool.specs.Holders.{Gave}
use Rattle.seg_pool.specs.Operations.{operation_of}
use Rattle.wol_disk.specs.Disk.{State, IsDisk}
use Rattle.wol_model.specs.Index.{Indexed}
use Rattle.wol_promise.proofs.Lists.{member_of}
use Rattle.wol_promise.proofs.OneMore.{last_more}
use Rattle.log_segment.specs.Segment.{valid_of}
use Rattle.log_segment.specs.declared.free.FreeSegment.{FreeSegment}
use Rattle.block_cells.specs.declared.record.Rec.{Rec}
use Rattle.redirect_map.specs.Index.{Contents, entry_at}
use Rattle.logger.specs.Lanes.{held_in, taken_in, pool_of, logger_of}
use Rattle.logger.specs.Trims.{IsRetirable, KeepsSoMany, Retired, gone, held_still}
use Rattle.logger.specs.declared.lane.HeldSegment.{HeldSegment}
use Rattle.logger.specs.declared.lane.Lane.{Lane}
use Rattle.manager.specs.Causes.{AreCalm, PartRose}
use Rattle.manager.specs.Offers.{ChangesLane}
use Rattle.manager.specs.Reclaim.{IsTrimmedLane, HasDroppedSegment, KeepsOn, BreaksOff, AllGoIn, StopsSince, Always, lies_elsewhere}
use Rattle.manager.specs.Stands.{Keeps, IsReady, IsReadyLane, entries_at, nones_in, nones_at, takes_in}
use Rattle.manager.specs.Stops.{Stops}
use Rattle.manager.specs.declared.manager.Manager.{Manager}
use Rattle.manager.specs.declared.part.Part.{Part}
use Rattle.manager.specs.declared.part.StepFault.{StepFault}
use Rattle.volume_parts.proofs.Calm.{calm_among}
use Rattle.volume_parts.proofs.Elements.{get_removed, all_at, map_set, get_of}
use Rattle.manager.proofs.DropCall.{IsFound, HasTurned, keeps_pieces, passed_still, removed_indexes}
use Rattle.manager.proofs.DropReady.{ready_broken}
use Rattle.volume_parts.proofs.Entries.{still_filter}
use Rattle.manager.proofs.Calm.{segment_rose}
use Rattle.manager.proofs.FetchRec.{spot_at}
use Rattle.manager.proofs.Frames.{none_passed}
use Rattle.manager.proofs.Putting.{Pieces}
use Rattle.volume_parts.proofs.Lanes.{nones_more, takes_gave}
use Rattle.manager.proofs.ReadyLanes.{down_counts}
use Rattle.manager.proofs.Retiring.{leaves, ready_less}
use Rattle.manager.proofs.RetireStops.{failed_pieces, gone_stops, in_place_stops}
use Rattle.manager.specs.declared.part.Part.TheVariants as part

-- the record of the call, its entry and its lane
module _ {D : Type 0} {state : D → State} {m : Manager D} {version : ℕ} {r : Rec} (call : IsFound state m version r) where
  -- all that the records of the segment keep may go, by the record
  pub all_go : AllGoIn call.its.entry.listed.lane call.its.entry.index m.index.entries → AllGoIn r.lane r.segment m.index.entries
  all_go none = subst (λ (k : ℕ). AllGoIn k r.segment m.index.entries) (sym call.its.record_.lane) (subst (λ (s : ℕ). AllGoIn call.its.entry.listed.lane s m.index.entries) (sym call.its.record_.segment) none)

  module _ {old : Lane D} (lane : slice_get m.lanes.items r.lane ≡ Some old) where
    pub old_lane : IsReadyLane state m.id m.most old
    old_lane = all_at (IsReadyLane state m.id m.most) m.lanes.items r.lane old lane call.ready.ready.each

    -- as many records as its segment keeps lie there
    pub counted_there : (count : ℕ) → KeepsSoMany old r.segment count → entries_at r.lane r.segment m.index.entries ≡ count
    counted_there count keeps =
        let there = all_at (λ (h : HeldSegment D). valid_of h.segment ≡ entries_at r.lane h.index m.index.entries) (held_in old) keeps.place keeps.segment keeps.there ((call.ready.up call.up).counted r.lane old lane) in
        ap (λ (s : ℕ). entries_at r.lane s m.index.entries) (sym keeps.named) ∙ sym there ∙ sym keeps.counted

    pub so_many : (count : ℕ) → KeepsSoMany old r.segment count → (d : Indexed) → entry_at m.index.entries version ≡ Some d → count ≡ entries_at d.listed.lane d.index m.index.entries
    so_many count keeps d is = sym (counted_there count keeps) ∙ (λ j. entries_at (call.its.record_.lane j) (call.its.record_.segment j) m.index.entries)
        ∙ ap (λ (c : Indexed). entries_at c.listed.lane c.index m.index.entries) (same_Some call.its.entry d (sym call.its.is ∙ is))

    -- its segment is held and whole
    pub retirable : IsRetirable old r.segment
    retirable = let s = spot_at state m call.ready call.up version r call.index call.its old lane in record { place = s.place; segment = s.segment; there = s.there; named = s.index; whole = s.segment_whole }

    module _ {new : Lane D} (turn : HasTurned state old new) where
      untaken : taken_in new ≡ None
      untaken = turn.taken ∙ old_lane.untaken

      -- ---- done

      module _ {T E : Type 0} (x : T) (moved : Retired {T = T} {E = E} state old new r.segment (Ok x)) where
        pub ready_then : (index' : Contents) (ups : List Bool) → index'.entries ≡ filter (lies_elsewhere r.lane r.segment) m.index.entries → ups ≡ slice_set m.ups.items r.lane true → IsReady state (record m { lanes = with_item m.lanes r.lane new; index = index'; ups = record { items = ups } })
        ready_then index' ups entries flags = by moved
          where
            by : Retired {T = T} {E = E} state old new r.segment (Ok x) → IsReady state (record m { lanes = with_item m.lanes r.lane new; index = index'; ups = record { items = ups } })
            by (gone i o free there named held pool ok freed) = ready_less state m call.ready call.up r.lane old new lane turn.is_lane turn.same turn.all untaken i o there held ups flags index' (entries ∙ ap (λ (s : ℕ). filter (lies_elsewhere r.lane s) m.index.entries) (sym named))
            by (held_still i o n there named held pool err stayed) = absurd (false≢true err)

        pub calm_then : AreCalm state (held_in old) (held_in new)
        calm_then = by moved
          where
            by : Retired {T = T} {E = E} state old new r.segment (Ok x) → AreCalm state (held_in old) (held_in new)
            by (gone i o free there named held pool ok freed) = calm_among state (held_in old) (map (λ (t : ℕ × FreeSegment D). t.0) (option_to_list (taken_in old))) old_lane.lane.apart (held_in old) (held_in new) (λ s has. has)
                (λ t has. let at = get_of (held_in new) t has in
                let was = get_removed (held_in old) i at.0 t (ap (λ (hs : List (HeldSegment D)). slice_get hs at.0) (sym held) ∙ at.1) in member_of (held_in old) t was.0 was.1)
            by (held_still i o n there named held pool err stayed) = absurd (false≢true err)

        lane_then : (given : Type 0) → ((given → ⊥) → ⊥) → ChangesLane (IsTrimmedLane call.its.entry.index given) call.its.entry.listed.lane m.lanes.items (slice_set m.lanes.items r.lane new)
        lane_then given is = record {
          before = old;
          after = new;
          there = ap (slice_get m.lanes.items) (sym call.its.record_.lane) ∙ lane;
          set = ap (λ (q : ℕ). slice_set m.lanes.items q new) call.its.record_.lane;
          change = by moved;
        }
          where
            by : Retired {T = T} {E = E} state old new r.segment (Ok x) → IsTrimmedLane call.its.entry.index given old new
            by (gone i o free there named held pool ok freed) = record {
              same = turn.same;
              used = turn.used;
              kept = λ not_. absurd (is not_);
              gave = λ _. (
                pool ∙ (λ j. pass_mine (pool_of old) ++ (pass_number (pool_of old), operation_of (Gave (call.its.record_.segment j))) ∷ []),
                ap (map (λ (h : HeldSegment D). h.index)) held
                    ∙ removed_indexes (λ (h : HeldSegment D). h.index) (held_in old) (map (λ (t : ℕ × FreeSegment D). t.0) (option_to_list (taken_in old))) i o old_lane.lane.apart there
                    ∙ ap (λ (v : ℕ). filter (λ w. not (eqb w v)) (map (λ (h : HeldSegment D). h.index) (held_in old))) (named ∙ call.its.record_.segment),
              );
            }
            by (held_still i o n there named held pool err stayed) = absurd (false≢true err)

        -- of the manager nothing else changed
        pub dropped_then : {G : Type 0} (done : G) (index' : Contents) (ups : List Bool) → index'.entries ≡ filter (lies_elsewhere r.lane r.segment) m.index.entries → ups ≡ slice_set m.ups.items r.lane true
            → (d : Indexed) → entry_at m.index.entries version ≡ Some d → HasDroppedSegment d.listed.lane d.index m (record m { lanes = with_item m.lanes r.lane new; index = index'; ups = record { items = ups } }) (Ok done)
        dropped_then {G} done index' ups entries flags d is =
            subst (λ (c : Indexed). HasDroppedSegment {T = G} c.listed.lane c.index m (record m { lanes = with_item m.lanes r.lane new; index = index'; ups = record { items = ups } }) (Ok done)) (same_Some call.its.entry d (sym call.its.is ∙ is)) (record {
              rest = ap (λ (u : List Bool). record m { lanes = with_item m.lanes r.lane new; index = index'; ups = record { items = u } }) (flags ∙ ap (λ (k : ℕ). slice_set m.ups.items k true) call.its.record_.lane);
              lanes = lane_then (true ≡ true) (λ never. never refl);
              ok = entries ∙ (λ j. filter (lies_elsewhere (call.its.record_.lane j) (call.its.record_.segment j)) m.index.entries);
              err = tt;
            })

        module _ (none : AllGoIn r.lane r.segment m.index.entries) where
          none_at : (o : HeldSegment D) → o.index ≡ r.segment → AllGoIn r.lane o.index m.index.entries
          none_at o named = subst (λ (s : ℕ). AllGoIn r.lane s m.index.entries) (sym named) none

          pub keeps_then : (tells : Bool) (index' : Contents) (ups : List Bool) → index'.entries ≡ filter (lies_elsewhere r.lane r.segment) m.index.entries → ups ≡ slice_set m.ups.items r.lane true → KeepsOn tells state m (record m { lanes = with_item m.lanes r.lane new; index = index'; ups = record { items = ups } }) Always
          keeps_then tells index' ups entries flags b notes any kp = by moved
            where
              by : Retired {T = T} {E = E} state old new r.segment (Ok x) → Keeps tells state (record m { lanes = with_item m.lanes r.lane new; index = index'; ups = record { items = ups } }) b notes
              by (gone i o free there named held pool ok freed) =
                  let more : nones_in (pass_mine (pool_of old)) ≤ nones_in (pass_mine (pool_of new)) = (let e = ap nones_in pool ∙ nones_more (pass_mine (pool_of old)) (pass_number (pool_of old), operation_of (Gave r.segment)) in omega (arith, e)) in
                  keeps_pieces tells state m b notes kp r.lane old new lane turn.same more notes index' ups m.down (filter (lies_elsewhere r.lane o.index) m.index.entries) (entries ∙ ap (λ (s : ℕ). filter (lies_elsewhere r.lane s) m.index.entries) (sym named)) flags
                  (leaves tells state m b notes kp call.up r.lane old new lane untaken i o there (none_at o named) held) (ready_then index' ups entries flags) (passed_still tells state m b notes kp r.lane old new lane turn.same more)
                  (ap takes_in pool ∙ takes_gave (pass_mine (pool_of old)) (pass_number (pool_of old)) r.segment) (omega arith)
                  (still_filter b.volume.places b.volume.began.next (lies_elsewhere r.lane o.index) m.index.entries kp.still)
              by (held_still i o n there named held pool err stayed) = absurd (false≢true err)

          pub stops_then : (tells : Bool) (sound : (d : D) → IsDisk (state d)) → IsTrue tells → (index' : Contents) (ups : List Bool) → ups ≡ slice_set m.ups.items r.lane true → StopsSince tells state m (record m { lanes = with_item m.lanes r.lane new; index = index'; ups = record { items = ups } }) Always
          stops_then tells sound told index' ups flags was read b notes any kw = by moved
            where
              by : Retired {T = T} {E = E} state old new r.segment (Ok x) → Stops state was (record m { lanes = with_item m.lanes r.lane new; index = index'; ups = record { items = ups } }) None b notes []
              by (gone i o free there named held pool ok freed) = gone_stops tells state sound told was m read call.ready (sym read.down ∙ call.up) call.up b notes kw r.lane old new lane i o there (none_at o named) held
              by (held_still i o n there named held pool err stayed) = absurd (false≢true err)

      -- ---- a call of the disk failed

      module _ {T E : Type 0} (x : E) (moved : Retired {T = T} {E = E} state old new r.segment (Err x)) (volume : ℕ) (volume_is : volume ≡ logger_of old) (ups : List Bool) (flags : ups ≡ slice_set m.ups.items r.lane true) where
        -- the manager after it
        abbrev broken : Manager D
        broken = record m { lanes = with_item m.lanes r.lane new; ups = record { items = ups }; down = Some (part.Segment volume r.segment) }

        pub ready_broke : IsReady state broken
        ready_broke = ready_broken state m call.ready r.lane old new lane turn.is_lane turn.same turn.all untaken ups flags (part.Segment volume r.segment)

        lane_broke : (given : Type 0) → (given → ⊥) → ChangesLane (IsTrimmedLane call.its.entry.index given) call.its.entry.listed.lane m.lanes.items (slice_set m.lanes.items r.lane new)
        lane_broke given never = record {
          before = old;
          after = new;
          there = ap (slice_get m.lanes.items) (sym call.its.record_.lane) ∙ lane;
          set = ap (λ (q : ℕ). slice_set m.lanes.items q new) call.its.record_.lane;
          change = record { same = turn.same; used = turn.used; kept = λ _. by moved; gave = λ is. absurd (never is) };
        }
          where
            by : Retired {T = T} {E = E} state old new r.segment (Err x) → (pass_mine (pool_of new) ≡ pass_mine (pool_of old)) × (map (λ (h : HeldSegment D). h.index) (held_in new) ≡ map (λ (h : HeldSegment D). h.index) (held_in old))
            by (gone i o free there named held pool ok freed) = absurd (false≢true ok)
            by (held_still i o n there named held pool err stayed) = (pool, ap (map (λ (h : HeldSegment D). h.index)) held ∙ map_set (λ (h : HeldSegment D). h.index) (held_in old) i o n there stayed.index)

        -- of the manager nothing else changed
        rest_broke : broken ≡ record m { lanes = with_item m.lanes r.lane new; ups = record { items = slice_set m.ups.items call.its.entry.listed.lane true }; down = Some (part.Segment volume r.segment) }
        rest_broke = ap (λ (u : List Bool). record m { lanes = with_item m.lanes r.lane new; ups = record { items = u }; down = Some (part.Segment volume r.segment) }) (flags ∙ ap (λ (k : ℕ). slice_set m.ups.items k true) call.its.record_.lane)

        pub dropped_broke : (G : Type 0) (fault : StepFault) (d : Indexed) → entry_at m.index.entries version ≡ Some d
            → HasDroppedSegment {T = G} d.listed.lane d.index m broken (Err fault)
        dropped_broke G fault d is =
            subst (λ (c : Indexed). HasDroppedSegment {T = G} c.listed.lane c.index m broken (Err fault)) (same_Some call.its.entry d (sym call.its.is ∙ is))
            (record { rest = rest_broke; lanes = lane_broke (false ≡ true) (λ is. false≢true is); ok = tt; err = refl })

        -- its segment's count rose
        pub cause_broke : PartRose state m broken (part.Segment volume r.segment)
        cause_broke = by moved
          where
            by : Retired {T = T} {E = E} state old new r.segment (Err x) → PartRose state m broken (part.Segment volume r.segment)
            by (gone i o free there named held pool ok freed) = absurd (false≢true ok)
            by (held_still i o n there named held pool err stayed) = segment_rose state m.lanes.items _ r.lane i old new o n lane refl there held _ _ volume_is (sym named) stayed.cause

        module _ (none : AllGoIn r.lane r.segment m.index.entries) where
          none_still : (o : HeldSegment D) → o.index ≡ r.segment → AllGoIn r.lane o.index m.index.entries
          none_still o named = subst (λ (s : ℕ). AllGoIn r.lane s m.index.entries) (sym named) none

          pub stands_broke : (tells : Bool) (sound : (d : D) → IsDisk (state d)) → BreaksOff tells state m broken Always
          stands_broke tells sound b notes nt any note kp = record {
            keeps = by moved;
            look = last_more b.volume.began.look notes nt ∙ note.look_is;
          }
            where
              by : Retired {T = T} {E = E} state old new r.segment (Err x) → Keeps tells state broken b (notes ++ nt ∷ [])
              by (gone i o free there named held pool ok freed) = absurd (false≢true ok)
              by (held_still i o n there named held pool err stayed) =
                  let more : nones_in (pass_mine (pool_of old)) ≤ nones_in (pass_mine (pool_of new)) = (let e = ap nones_in pool in omega (arith, e)) in
                  keeps_pieces tells state m b notes kp r.lane old new lane turn.same more (notes ++ nt ∷ []) m.index ups (Some (part.Segment volume r.segment)) m.index.entries refl flags
                  (subst (λ (d : Part). Pieces tells state m b (notes ++ nt ∷ []) (slice_set m.lanes.items r.lane new) m.index.entries m.next (slice_set m.ups.items r.lane true) (Some d)) (λ j. part.Segment (sym volume_is j) (named j))
                  (failed_pieces tells state sound m b notes kp call.up r.lane old new lane turn.is_lane untaken i o n there (none_still o named) held stayed nt note.operation_is note.drain))
                  ready_broke (none_passed (nones_at (slice_set m.lanes.items r.lane new) b.lanes) notes nt note.passed_is (passed_still tells state m b notes kp r.lane old new lane turn.same more)) (ap takes_in pool) (down_counts m.down) kp.still

          pub stops_broke : (tells : Bool) (sound : (d : D) → IsDisk (state d)) → IsTrue tells
              → StopsSince tells state m broken Always
          stops_broke tells sound told was read b notes any kw = by moved
            where
              by : Retired {T = T} {E = E} state old new r.segment (Err x) → Stops state was broken None b notes []
              by (gone i o free there named held pool ok freed) = absurd (false≢true ok)
              by (held_still i o n there named held pool err stayed) = in_place_stops tells state sound told was m read call.ready (sym read.down ∙ call.up) call.up b notes kw r.lane old new lane i o there (none_still o named) n held stayed
