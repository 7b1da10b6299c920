use Rattle.std.proofs.Common.{◌≡◌, ℕ, Bool, List, true, false, [], ◌∷◌, ◌++◌, length, take, Some, refl, sym, ap, subst, ◌∙◌, arith}
use Rattle.std.specs.Prelude.{slice_get, slice_set, Result, Ok, Err}
use Rattle.std.specs.Option.{option_map}
use Rattle.std.specs.Vec.{with_item}
use Rattle.std.proofs.lemmas.Option.{slice_get_read, slice_get-map}
use Rattle.wol_disk.specs.declared.disk.Failed.{Failed}
use Rattle.spin_model.specs.Spun.{state_of}
use Rattle.log_segment.specs.Records.{group_of}
use Rattle.logger.specs.Lanes.{logger_of, lane_owner, first_count}
use Rattle.logger.specs.declared.lane.Spot.{Spot}
use Rattle.manager.specs.Causes.{PartRoseOrClaimed}
use Rattle.manager.specs.Joining.{room_for}
use Rattle.manager.specs.Offers.{HasTakenWrite}
use Rattle.manager.specs.Puts.{PutIn}
use Rattle.manager.specs.Seen.{look_of_manager}
use Rattle.manager.specs.Stands.{Stands, IsHome, IsReady, IsReadyLane}
use Rattle.manager.specs.Groups.{HasOffered, HasTakenRun}
use Rattle.manager.specs.declared.manager.Manager.{Manager}
use Rattle.manager.specs.declared.run.Ran.{Ran}
use Rattle.logger.specs.declared.shared.Shared.{Shared}
use Rattle.log_segment.specs.declared.item.Item.{Item}
use Rattle.offload_policy.specs.declared.Room.{Room}
use Rattle.wol_disk.specs.Disk.{State, Block}
use Rattle.manager.specs.declared.part.Part.TheVariants as part
use Rattle.manager.proofs.Bounds.{take_below, take_room, few_room, two_more}
use Rattle.volume_parts.proofs.Calm.{calm_put}
use Rattle.manager.proofs.Calm.{lane_at, none_lane}
use Rattle.volume_parts.proofs.Claims.{put_claimed, put_tells}
use Rattle.volume_parts.proofs.Records.{first_of_take}
use Rattle.volume_parts.proofs.Elements.{refill_set, all_at}
use Rattle.manager.proofs.GroupOffering.{all_taken_front, items_small, first_few, offered_unready, offered_position, offered_ready, offered_look, offered_stands, offered_failed, offered_stops, offered_cause}
use Rattle.manager.proofs.ReadyLanes.{at_lane}
use Rattle.manager.proofs.Placed.{away_more, away_takes, ready_away, keeps_away}
use Rattle.manager.proofs.manager.Manager.offer_group.Given as given
use Rattle.manager.proofs.manager.Manager.offer_group.Goals.{After-index_mut-reached, In-Some}
use Rattle.manager.proofs.manager.Manager.offer_group.Goals as goal

-- the lane that is asked
there : (g : given.Over) (c : After-index_mut-reached g) → slice_get c.args.self.now.lanes.items c.args.lane ≡ Some c.index_mut-reached.result.now
there g c =
    let lanes = c.args.self.now.lanes.items in
    slice_get_read lanes (length lanes) c.args.lane c.index_mut-reached.result.now refl c.requires.there c.index_mut-reached.ensures.value

-- what it wrote, by its answer
put_as : (g : given.Over) (c : In-Some g) (q : Result Spot (ℕ × Failed)) → c.in-Some.written ≡ q
    → PutIn g.D.Disk.state c.index_mut-reached.result.now c.put_group.new.lane (first_count (take c.in-Some.count c.args.items.now)) (room_for (take c.in-Some.count c.args.items.now)) (group_of (lane_owner c.index_mut-reached.result.now) c.args.self.now.next (take c.in-Some.count c.args.items.now) c.args.from.now) q
put_as g c q is =
    let old = c.index_mut-reached.result.now in let items = take c.in-Some.count c.args.items.now in
    subst (λ (r : Result Spot (ℕ × Failed)). PutIn g.D.Disk.state old c.put_group.new.lane (first_count items) (room_for items) (group_of (lane_owner old) c.args.self.now.next items c.args.from.now) r) is
    (subst (λ (k : ℕ). PutIn g.D.Disk.state old c.put_group.new.lane k (room_for items) (group_of (lane_owner old) c.args.self.now.next items c.args.from.now) c.in-Some.written) (sym (first_of_take c.args.items.now c.in-Some.count c.in-Some.ensures.count.0)) c.in-Some.ensures.put)

-- what became of its lane, by the first of the items that it took
took_as : (g : given.Over) (c : In-Some g) → HasTakenWrite (first_count (take c.in-Some.count c.args.items.now)) c.index_mut-reached.result.now c.put_group.new.lane
took_as g c = subst (λ (k : ℕ). HasTakenWrite k c.index_mut-reached.result.now c.put_group.new.lane) (sym (first_of_take c.args.items.now c.in-Some.count c.in-Some.ensures.count.0)) c.in-Some.ensures.turn

pub put_group-requires-clause-items : goal.put_group-requires-clause-items
put_group-requires-clause-items g c =
    let m = c.args.self.now in items_small m.most (state_of g.D.Disk.state m.home).size c.requires.run.serves.ready.ready.most_.1 c.requires.run.serves.ready.ready.home_small.1 c.args.items.now c.requires.run.each

pub put_group-requires-clause-first : goal.put_group-requires-clause-first
put_group-requires-clause-first g c =
    let m = c.args.self.now in let old = c.index_mut-reached.result.now in
    let l = (all_at (IsReadyLane g.D.Disk.state m.id m.most) m.lanes.items c.args.lane old (there g (goal.at.put_group-requires-clause-first g c).After-index_mut-reached) c.requires.run.serves.ready.ready.each).long in
    let f = first_few m.most (state_of g.D.Disk.state m.home).size c.args.items.now c.requires.run.each in two_more _ _ _ f l

-- an offer that was taken
offered : {D : Type 0} (tells : Bool) (state : D → State) (shared : Shared D) (lane : ℕ) (items : List Item) (from : List Block) (noted : List Room) (r : Ran) (old new : Manager D)
    → IsReady state new → IsHome shared new → HasTakenRun tells state lane items from r old new → HasOffered tells state shared lane items from noted (Some r) old new
offered tells state shared lane items from noted r old new ready home taken = record { ready = ready; at = home; turned_away = λ none. let no : true ≡ false = none in absurd (cc); taken = taken }

-- ---- It had no room

pub returns-in_default : goal.returns-in_default
returns-in_default g c =
    let m = c.args.self.now in let t = c.in_default.ensures.turn in let e = c.put_group.ensures in let old = c.index_mut-reached.result.now in let new = c.put_group.new.lane in
    let at = goal.at.returns-in_default g c in let lane = there g at.After-index_mut-reached in
    record {
      ready = ready_away g.D.Disk.state m c.args.lane old new lane e.lane t.same e.all e.none _ refl t.held c.requires.run.serves.ready;
      at = at_lane m c.args.lane new c.requires.run.serves.at e.at;
      turned_away = λ _. record {
        rest = refl;
        lanes = record { before = old; after = new; there = lane; set = refl; change = t };
        keeps = λ b notes kp. keeps_away g.D.Disk.state m c.args.lane old new lane e.lane t.same e.all e.none _ refl t.held
            g.D.Disk.tells b notes (away_more (first_count c.args.items.now) old new t) (away_takes (first_count c.args.items.now) old new t) kp;
      };
      taken = tt;
    }

-- ---- It took some

pub list_group-requires-clause-items : goal.list_group-requires-clause-items
list_group-requires-clause-items g c =
    let m = c.args.self.now in all_taken_front _ c.in-Some.count c.args.items.now (items_small m.most (state_of g.D.Disk.state m.home).size c.requires.run.serves.ready.ready.most_.1 c.requires.run.serves.ready.ready.home_small.1 c.args.items.now c.requires.run.each)

pub list_group-requires-clause-version : goal.list_group-requires-clause-version
list_group-requires-clause-version g c =
    take_room c.in-Some.count c.args.items.now c.args.self.now.next _ c.in-Some.ensures.count.1 c.requires.run.next

pub list_group-requires-clause-reserved : goal.list_group-requires-clause-reserved
list_group-requires-clause-reserved g c =
    take_below c.in-Some.count c.args.items.now _ c.in-Some.ensures.count.1 c.requires.run.reserved

pub list_group-requires-clause-position : goal.list_group-requires-clause-position
list_group-requires-clause-position g c =
    let state = g.D.Disk.state in let m = c.args.self.now in let e = c.put_group.ensures in let s = c.in-Some.ensures in let old = c.index_mut-reached.result.now in let new = c.put_group.new.lane in let n = c.in-Some.count in let items = c.args.items.now in
    let at = goal.at.list_group-requires-clause-position g c in let lane = there g at.After-index_mut-reached in
    let put = put_as g at.In-Some (Ok c.in-Ok.spot) c.in-Ok.is in
    offered_position state m c.args.lane old new lane e.lane s.turn.same e.all e.none c.requires.run.serves.ready items n s.count.0 s.count.1 c.args.from.now c.requires.run.each c.requires.run.blocks s.fits c.requires.run.serves.up c.in-Ok.spot put

pub returns-in-Ok : goal.returns-in-Ok
returns-in-Ok g c =
    let tells = g.D.Disk.tells in let state = g.D.Disk.state in let m = c.args.self.now in let e = c.put_group.ensures in let s = c.in-Some.ensures in let old = c.index_mut-reached.result.now in let new = c.put_group.new.lane in let n = c.in-Some.count in let items = c.args.items.now in let v = with_item m.lanes c.args.lane new in
    let at = goal.at.returns-in-Ok g c in let lane = there g at.After-index_mut-reached in
    let put = put_as g at.In-Some (Ok c.in-Ok.spot) c.in-Ok.is in
    let room = few_room n (length items) m.next _ s.count.1 c.requires.run.next in
    offered tells state c.args.shared.now c.args.lane items c.args.from.now _ _ m _
    (offered_ready state m c.args.lane old new lane e.lane s.turn.same e.all e.none c.requires.run.serves.ready items n s.count.0 s.count.1 c.args.from.now c.requires.run.each c.requires.run.blocks s.fits c.requires.run.serves.up c.in-Ok.spot put (with_item m.lanes c.args.lane new) c.list_group.new.index _ refl c.list_group.ensures (refill_set m.ups.items c.deref_mut.result.now c.args.lane true c.deref_mut.ensures.value) (few_room c.in-Some.count (length c.args.items.now) m.next _ s.count.1 c.requires.run.next)) (at_lane m c.args.lane new c.requires.run.serves.at e.at) (record {
      tried = s.count;
      answer = slice_get-map logger_of m.lanes.items c.args.lane ∙ ap (option_map logger_of) lane ∙ ap Some (sym c.logger-logger.ensures);
      rest = refl;
      lanes = record { before = old; after = new; there = lane; set = refl; change = s.turn };
      stands = λ b notes passed nt client note has kp.
          offered_stands state m c.args.lane old new lane e.lane s.turn.same e.all e.none c.requires.run.serves.ready items n s.count.0 s.count.1 c.args.from.now c.requires.run.each c.requires.run.blocks s.fits c.requires.run.serves.up c.in-Ok.spot put
          v c.list_group.new.index _ refl c.list_group.ensures (refill_set m.ups.items c.deref_mut.result.now c.args.lane true c.deref_mut.ensures.value) room
          tells g.met.D.Disk.told g.met.D.Disk.sound (took_as g at.In-Some) b notes nt client kp note.operation_is note.follows note.look_is has;
      look = offered_look state m c.args.lane old new lane e.lane s.turn.same e.all e.none c.requires.run.serves.ready items n s.count.0 s.count.1 c.args.from.now c.requires.run.each c.requires.run.blocks s.fits c.requires.run.serves.up c.in-Ok.spot put v c.list_group.new.index _ refl c.list_group.ensures (refill_set m.ups.items c.deref_mut.result.now c.args.lane true c.deref_mut.ensures.value) room;
      next = refl;
      fault = refl;
      calm = none_lane state m _ c.requires.run.serves.ready refl c.args.lane old new lane refl (calm_put state old new _ _ c.in-Ok.spot (lane_at state m c.requires.run.serves.ready c.args.lane old lane) e.lane put);
      any_moment = (
        put_claimed put,
        put_tells tells state g.met.D.Disk.told m.lanes.items c.args.lane old new lane _ _ _ put (slice_set m.lanes.items c.args.lane new) refl,
        offered_stops state m c.args.lane old new lane e.lane s.turn.same e.all e.none c.requires.run.serves.ready items n s.count.0 s.count.1 c.args.from.now c.requires.run.each c.requires.run.blocks s.fits c.requires.run.serves.up tells g.met.D.Disk.told g.met.D.Disk.sound put (record m { lanes = v }) refl refl,
      );
    })

-- ---- A call failed

pub returns-in-Err : goal.returns-in-Err
returns-in-Err g c =
    let tells = g.D.Disk.tells in let state = g.D.Disk.state in let m = c.args.self.now in let e = c.put_group.ensures in let s = c.in-Some.ensures in let old = c.index_mut-reached.result.now in let new = c.put_group.new.lane in let n = c.in-Some.count in let items = c.args.items.now in let v = with_item m.lanes c.args.lane new in
    let at = goal.at.returns-in-Err g c in let lane = there g at.After-index_mut-reached in
    let put = put_as g at.In-Some (Err (c.in-Err.index, c.in-Err.field-0-1)) c.in-Err.is in
    let room = few_room n (length items) m.next _ s.count.1 c.requires.run.next in
    let p = part.Segment c.logger-logger.result c.in-Err.index in let m' = record m { lanes = v; down = Some p } in
    offered tells state c.args.shared.now c.args.lane items c.args.from.now _ _ m _
    (offered_unready state m c.args.lane old new lane e.lane s.turn.same e.all e.none c.requires.run.serves.ready v refl p) (at_lane m c.args.lane new c.requires.run.serves.at e.at) (record {
      tried = s.count;
      answer = slice_get-map logger_of m.lanes.items c.args.lane ∙ ap (option_map logger_of) lane ∙ ap Some (sym c.logger-logger.ensures);
      rest = refl;
      lanes = record { before = old; after = new; there = lane; set = refl; change = s.turn };
      stands = λ b notes passed nt client note has kp.
          subst (λ (x : ℕ). Stands tells state (record m { lanes = v; down = Some (part.Segment x c.in-Err.index) }) b (notes ++ nt ∷ [])) (sym c.logger-logger.ensures)
          (offered_failed state m c.args.lane old new lane e.lane s.turn.same e.all e.none c.requires.run.serves.ready items n s.count.0 s.count.1 c.args.from.now c.requires.run.each c.requires.run.blocks s.fits c.requires.run.serves.up
          tells g.met.D.Disk.told g.met.D.Disk.sound room (took_as g at.In-Some) b notes nt client kp (c.in-Err.index, c.in-Err.field-0-1) note.operation_is note.drain put v refl has
          (note.look_is ∙ ap (λ (x : ℕ). look_of_manager (record m { down = Some (part.Segment x c.in-Err.index) })) c.logger-logger.ensures));
      look = tt;
      next = omega arith;
      fault = (
        refl,
        subst (PartRoseOrClaimed state m m') (ap (λ (x : ℕ). part.Segment x c.in-Err.index) (sym c.logger-logger.ensures))
            (offered_cause state m c.args.lane old new lane e.lane s.turn.same e.all e.none c.requires.run.serves.ready items n s.count.0 s.count.1 c.args.from.now c.requires.run.each c.requires.run.blocks s.fits c.requires.run.serves.up (c.in-Err.index, c.in-Err.field-0-1) put m' refl),
      );
      calm = tt;
      any_moment = (
        put_claimed put,
        put_tells tells state g.met.D.Disk.told m.lanes.items c.args.lane old new lane _ _ _ put (slice_set m.lanes.items c.args.lane new) refl,
        offered_stops state m c.args.lane old new lane e.lane s.turn.same e.all e.none c.requires.run.serves.ready items n s.count.0 s.count.1 c.args.from.now c.requires.run.each c.requires.run.blocks s.fits c.requires.run.serves.up tells g.met.D.Disk.told g.met.D.Disk.sound put (record m { lanes = v }) refl refl,
      );
    })
