use Rattle.std.proofs.Common.{◌≤◌, ◌+◌, ◌-◌, ℕ, length, vec_capacity, Option, IfSome, Result, ap, ◌∙◌, sym, refl, subst, arith}
use Rattle.std.specs.List.{AllByRecursion}
use Rattle.wol_disk.specs.declared.disk.Failed.{Failed}
use Rattle.wol_model.specs.Blocks.{AreApart}
use Rattle.turn_lock.specs.LockIds.{LockId}
use Rattle.spin_model.specs.declared.spindle.SpindleBase.{SpindleBase}
use Rattle.log_segment.specs.Records.{group_of}
use Rattle.log_segment.specs.declared.free.FreeSegment.{FreeSegment}
use Rattle.logger.specs.Lanes.{IsHeld, IsTaken, Claimed, IsSpot, to_taken}
use Rattle.logger.specs.declared.lane.HeldSegment.{HeldSegment}
use Rattle.logger.specs.declared.lane.Spot.{Spot}
use Rattle.logger.proofs.AllHeld.{HoldsIn}
use Rattle.logger.proofs.Held.{all_push}
use Rattle.logger.proofs.Places.{if_some, room_left, claimed_indexes}
use Rattle.logger.proofs.Results.{claimed_spot, spot_is}
use Rattle.logger.proofs.Uses.{over, accesses_then, at_passes}
use Rattle.logger.proofs.lane.Lane.write_taken.Goals as goal

pub claim_and_append-segment-requires-clause-shape : goal.claim_and_append-segment-requires-clause-shape
claim_and_append-segment-requires-clause-shape g c =
    let self = c.args.self.now in
    (if_some (IsTaken g.D.Disk.state self.logger (vec_capacity self.held) self.pool) self.taken (c.in-Some.index, c.in-Some.free) c.requires.lane.unclaimed (sym c.replace-before.ensures.value ∙ c.in-Some.is)).blank.free

pub claim_and_append-segment-requires-clause-volume : goal.claim_and_append-segment-requires-clause-volume
claim_and_append-segment-requires-clause-volume g c =
    let self = c.args.self.now in
    let is = if_some (IsTaken g.D.Disk.state self.logger (vec_capacity self.held) self.pool) self.taken (c.in-Some.index, c.in-Some.free) c.requires.lane.unclaimed (sym c.replace-before.ensures.value ∙ c.in-Some.is) in
    c.take_token-token.ensures.volume ∙ (c.requires.lane.spindle_volume ∙ sym is.blank.of)

pub claim_and_append-segment-requires-clause-room : goal.claim_and_append-segment-requires-clause-room
claim_and_append-segment-requires-clause-room g c =
    let self = c.args.self.now in
    let is = if_some (IsTaken g.D.Disk.state self.logger (vec_capacity self.held) self.pool) self.taken (c.in-Some.index, c.in-Some.free) c.requires.lane.unclaimed (sym c.replace-before.ensures.value ∙ c.in-Some.is) in
    subst (λ (n : ℕ). length c.args.group.now.from.now + (length c.args.group.now.items.now - 1) + 2 ≤ n) (sym is.blank.long) c.requires.room

pub push_reserved-requires : goal.push_reserved-requires
push_reserved-requires g c = room_left g.D.Disk.state c.args.self.now (c.in-Some.index, c.in-Some.free) c.requires.lane (sym c.replace-before.ensures.value ∙ c.in-Some.is)

pub returns : goal.returns
returns g c =
    let state = g.D.Disk.state in let l = c.requires.lane in let self = c.args.self.now in let push = c.push_reserved.ensures in let pushed = c.push_reserved.new.self in let made = c.claim_and_append-segment in let new = made.ensures.claimed in let w = made.result.1 in
    let n : HeldSegment g.row.D.Denot = record { index = c.in-Some.index; segment = made.result.0 } in
    let has = sym c.replace-before.ensures.value ∙ c.in-Some.is in
    let is = if_some (IsTaken state self.logger (vec_capacity self.held) self.pool) self.taken (c.in-Some.index, c.in-Some.free) l.unclaimed has in
    let ov = over self.spindle c.take_token-token.new.pass c.give_token.new.pass c.take_token-token.ensures.same c.take_token-token.ensures.mine c.give_token.ensures.free c.give_token.ensures.same c.give_token.ensures.has_none c.give_token.ensures.mine in
    let each = all_push (IsHeld state self.logger self.owner (vec_capacity self.held) self.pool) self.held.items n l.each
    (record { shape = new.shape; volume = new.volume ∙ is.blank.of; owned = new.owned; blocks = new.blocks ∙ is.blank.long; below = is.below; holding = is.holding }) in
    let indexes = claimed_indexes self.held.items pushed.items n self.taken c.replace-before.new.dest (c.in-Some.index, c.in-Some.free) push.items refl has c.replace-before.ensures.after in
    let added = group_of self.owner c.args.group.now.version c.args.group.now.items.now c.args.group.now.from.now in record {
      lane = record {
        pool_free = l.pool_free;
        spindle_free = ov.free;
        pool_volume = l.pool_volume;
        spindle_volume = ap (λ (i : LockId SpindleBase). i.base.volume) ov.same.0 ∙ l.spindle_volume;
        settled = ov.settled;
        accesses = accesses_then _ _ _ ov.mine l.accesses;
        each = subst (λ (m : ℕ). AllByRecursion (IsHeld state self.logger self.owner m self.pool) pushed.items) (sym push.capacity) (subst (AllByRecursion (IsHeld state self.logger self.owner (vec_capacity self.held) self.pool)) (sym push.items) each);
        unclaimed = subst (λ (o : Option (ℕ × FreeSegment g.row.D.Denot)). IfSome o (IsTaken state self.logger (vec_capacity pushed) self.pool)) (sym c.replace-before.ensures.after) tt;
        apart = subst AreApart indexes l.apart;
        room = (let room = l.room in omega (arith, room, push.capacity));
        handing = (l.handing.0, omega (arith, l.handing.1, push.capacity));
      };
      same = record { logger = refl; owner = refl; segments = push.capacity; pool = (refl, refl); spindle = ov.same };
      all = λ all. subst (HoldsIn self.pool) indexes all;
      at = at_passes c.args.shared.now self _ refl refl ov.same.0 c.requires.at;
      pool = refl;
      used = ov.mine;
      moved =
          to_taken c.in-Some.index c.in-Some.free n c.requires.none has push.items refl c.replace-before.ensures.after
          (subst (λ (r : Result Spot (ℕ × Failed)). Claimed state self.owner c.in-Some.free made.result.0 added r) (sym c.spot_of.ensures) (claimed_spot state self.owner c.in-Some.free made.result.0 added c.in-Some.index w new))
          (subst (IsSpot c.in-Some.index 1) (sym c.spot_of.ensures) (spot_is c.in-Some.index 1 w made.ensures.position));
    }
