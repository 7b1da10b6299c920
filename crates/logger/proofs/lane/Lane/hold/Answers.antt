use Rattle.std.proofs.Common.{◌≡◌, ◌++◌, ◌∷◌, ℕ, List, map, length, vec_capacity, option_to_list, ap, ◌∙◌, sym, subst, arith, length-append}
use Rattle.std.specs.Prelude.{IfSome}
use Rattle.std.specs.List.{AllByRecursion}
use Rattle.wol_model.specs.Blocks.{AreApart}
use Rattle.log_segment.specs.declared.free.FreeSegment.{FreeSegment}
use Rattle.logger.specs.Lanes.{IsHeld, IsTaken}
use Rattle.logger.specs.declared.lane.HeldSegment.{HeldSegment}
use Rattle.logger.proofs.Held.{all_push, map-push, length-map}
use Rattle.logger.proofs.Indexes.{few, apart_insert}
use Rattle.logger.proofs.Places.{all_below}
use Rattle.logger.proofs.lane.Lane.hold.Goals as goal

pub push_reserved-requires : goal.push_reserved-requires
push_reserved-requires g c =
    let self = c.args.self.now in let l = c.requires.lane in let n = vec_capacity self.held in
    let idx : List ℕ = map (λ (h : HeldSegment g.row.D.Denot). h.index) self.held.items in
    let ts : List ℕ = map (λ (t : ℕ × FreeSegment g.row.D.Denot). t.0) (option_to_list self.taken) in
    let le = few n (c.args.index ∷ (idx ++ ts)) (c.requires.apart, l.apart) (c.requires.below, all_below g.D.Disk.state self.logger self.owner n self.pool self.held.items self.taken l.each l.unclaimed) in
    let held : length idx ≡ length self.held.items = length-map (λ (h : HeldSegment g.row.D.Denot). h.index) self.held.items in
    omega (arith, le, held, length-append idx ts, self.held.ok.0)

pub returns-clause-lane : goal.returns-clause-lane
returns-clause-lane g c =
    let state = g.D.Disk.state in let l = c.requires.lane in let self = c.args.self.now in let push = c.push_reserved.ensures in let pushed = c.push_reserved.new.self in let n = vec_capacity self.held in
    let h : HeldSegment g.row.D.Denot = record { index = c.args.index; segment = c.args.segment } in
    let idx : List ℕ = map (λ (h : HeldSegment g.row.D.Denot). h.index) self.held.items in
    let ts : List ℕ = map (λ (t : ℕ × FreeSegment g.row.D.Denot). t.0) (option_to_list self.taken) in
    let each = all_push (IsHeld state self.logger self.owner n self.pool) self.held.items h l.each
    (record { shape = c.requires.shape; volume = c.requires.volume; owned = c.requires.owner; blocks = c.requires.blocks; below = c.requires.below; holding = c.requires.holds }) in record {
      pool_free = l.pool_free;
      spindle_free = l.spindle_free;
      pool_volume = l.pool_volume;
      spindle_volume = l.spindle_volume;
      settled = l.settled;
      accesses = l.accesses;
      each = subst (λ (m : ℕ). AllByRecursion (IsHeld state self.logger self.owner m self.pool) pushed.items) (sym push.capacity) (subst (AllByRecursion (IsHeld state self.logger self.owner n self.pool)) (sym push.items) each);
      unclaimed = subst (λ (m : ℕ). IfSome self.taken (IsTaken state self.logger m self.pool)) (sym push.capacity) l.unclaimed;
      apart = subst (λ (is : List ℕ). AreApart (is ++ ts)) (sym (ap (map (λ (h : HeldSegment g.row.D.Denot). h.index)) push.items ∙ map-push (λ (h : HeldSegment g.row.D.Denot). h.index) self.held.items h)) (apart_insert idx ts c.args.index l.apart c.requires.apart);
      room = (let room = l.room in omega (arith, room, push.capacity));
      handing = (l.handing.0, omega (arith, l.handing.1, push.capacity));
    }
