use Rattle.std.proofs.Common.{◌≤◌, ◌++◌, ◌∷◌, [], ℕ, List, map, length, vec_capacity, is_some, Option, IfSome, option_to_list, ap, ◌∙◌, sym, refl, subst}
use Rattle.std.specs.List.{AllByRecursion}
use Rattle.wol_model.specs.Blocks.{AreApart}
use Rattle.turn_lock.specs.LockIds.{LockId}
use Rattle.turn_lock.specs.Passes.{pass_lock, pass_mine, pass_number}
use Rattle.seg_pool.specs.Operations.{operation_of, taken}
use Rattle.seg_pool.specs.declared.base.PoolBase.{PoolBase}
use Rattle.log_segment.specs.Segment.{IsSegment}
use Rattle.log_segment.specs.declared.free.FreeSegment.{FreeSegment}
use Rattle.logger.specs.Lanes.{IsHeld, IsTaken, HasNoRoom, asked}
use Rattle.logger.specs.declared.lane.HeldSegment.{HeldSegment}
use Rattle.logger.proofs.AllHeld.{all_taking, HoldsIn}
use Rattle.logger.proofs.Held.{all_map}
use Rattle.logger.proofs.Places.{took, apart_taking}
use Rattle.logger.proofs.Rooms.{found_none}
use Rattle.logger.proofs.Uses.{held_on, at_passes}
use Rattle.logger.proofs.lane.Lane.secure.Goals as goal

pub first_with_room-requires : goal.first_with_room-requires
first_with_room-requires g c =
    let self = c.args.self.now in
    subst (AllByRecursion (λ (h : HeldSegment g.row.D.Denot). IsSegment g.D.Disk.state h.segment)) (sym c.deref.ensures.value)
    (all_map (IsHeld g.D.Disk.state self.logger self.owner (vec_capacity self.held) self.pool) (λ (h : HeldSegment g.row.D.Denot). IsSegment g.D.Disk.state h.segment) (λ h is. is.shape) self.held.items c.requires.lane.each)

pub returns-clause-lane : goal.returns-clause-lane
returns-clause-lane g c =
    let state = g.D.Disk.state in let self = c.args.self.now in let l = c.requires.lane in let t = c.take_item-taken.ensures in let q = c.take_item-taken.new.pass in let o = c.take_item-taken.result in
    let after = c.replace-before.ensures.after in let n = vec_capacity self.held in
    let volume = ap (λ (i : LockId PoolBase). i.base.volume) t.same.0 ∙ l.pool_volume in
    let room : length (pass_lock q).base.holders ≤ n = subst (λ (i : LockId PoolBase). length i.base.holders ≤ n) (sym t.same.0) l.room in record {
      pool_free = t.free;
      spindle_free = l.spindle_free;
      pool_volume = volume;
      spindle_volume = l.spindle_volume;
      settled = l.settled;
      accesses = l.accesses;
      each = all_map (IsHeld state self.logger self.owner n self.pool) (IsHeld state self.logger self.owner n q) (λ h is. held_on state self.logger self.owner n self.pool q h t.same (t.kept h.index is.holding) is) self.held.items l.each;
      unclaimed = subst (λ (x : Option (ℕ × FreeSegment g.row.D.Denot)). IfSome x (IsTaken state self.logger n q)) (sym after) (took state self.logger n q o volume room t.blank t.within t.holds);
      apart = subst (λ (x : Option (ℕ × FreeSegment g.row.D.Denot)). AreApart (map (λ (h : HeldSegment g.row.D.Denot). h.index) self.held.items ++ map (λ (u : ℕ × FreeSegment g.row.D.Denot). u.0) (option_to_list x))) (sym after)
          (apart_taking state self.logger self.owner n self.pool self.held.items self.taken o l.each c.requires.none t.fresh l.apart);
      room = room;
      handing = l.handing;
    }

pub returns-clause-at : goal.returns-clause-at
returns-clause-at g c = at_passes c.args.shared.now c.args.self.now _ refl c.take_item-taken.ensures.same.0 refl c.requires.at

pub returns-clause-all : goal.returns-clause-all
returns-clause-all g c all =
    let self = c.args.self.now in let t = c.take_item-taken.ensures in let q = c.take_item-taken.new.pass in let o = c.take_item-taken.result in
    let idx : List ℕ = map (λ (h : HeldSegment g.row.D.Denot). h.index) self.held.items in
    subst (λ (x : Option (ℕ × FreeSegment g.row.D.Denot)). HoldsIn q (idx ++ map (λ (u : ℕ × FreeSegment g.row.D.Denot). u.0) (option_to_list x))) (sym c.replace-before.ensures.after)
    (all_taking self.pool q idx self.taken o t.same t.mine c.requires.none all)

pub returns-clause-moved : goal.returns-clause-moved
returns-clause-moved g c =
    let self = c.args.self.now in let after = c.replace-before.ensures.after in
    asked (subst (HasNoRoom c.args.count) c.deref.ensures.value (found_none c.args.count c.deref.result.now c.first_with_room.result c.first_with_room.ensures (sym c.is_some.ensures ∙ c.if-is_some.false)))
    (c.is_some-found.ensures ∙ ap is_some (sym after))
    (c.take_item-taken.ensures.mine ∙ ap (λ (x : Option (ℕ × FreeSegment g.row.D.Denot)). pass_mine self.pool ++ (pass_number self.pool, operation_of (taken x)) ∷ []) (sym after))
