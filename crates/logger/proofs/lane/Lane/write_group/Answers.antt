use Rattle.std.proofs.Common.{◌+◌, ◌-◌, ℕ, List, length, vec_capacity, sym, subst, arith}
use Rattle.std.specs.List.{AllByRecursion}
use Rattle.log_segment.specs.Segment.{IsSegment}
use Rattle.logger.specs.Lanes.{IsHeld, IsFirstWithRoom, HasNoRoom, held_in, taken_in, first_count}
use Rattle.logger.specs.declared.lane.HeldSegment.{HeldSegment}
use Rattle.logger.proofs.Held.{all_map}
use Rattle.logger.proofs.Rooms.{first_is, taken_then, group_room}
use Rattle.logger.proofs.lane.Lane.write_group.Goals as goal

pub first_with_room-requires : goal.first_with_room-requires
first_with_room-requires g c =
    let self = c.args.self.now in
    subst (AllByRecursion (λ (h : HeldSegment g.row.D.Denot). IsSegment g.D.Disk.state h.segment)) (sym c.deref.ensures.value)
    (all_map (IsHeld g.D.Disk.state self.logger self.owner (vec_capacity self.held) self.pool) (λ (h : HeldSegment g.row.D.Denot). IsSegment g.D.Disk.state h.segment) (λ h is. is.shape) self.held.items c.requires.lane.each)

pub write_held-requires-clause-place : goal.write_held-requires-clause-place
write_held-requires-clause-place g c =
    subst (λ (hs : List (HeldSegment g.row.D.Denot)). IsFirstWithRoom (first_count c.args.items.now) hs c.in-Some.place) c.deref.ensures.value
    (subst (λ (n : ℕ). IsFirstWithRoom n c.deref.result.now c.in-Some.place) (first_is c.args.items.now _ c.requires.some) c.in-Some.ensures)

pub write_held-requires-clause-room : goal.write_held-requires-clause-room
write_held-requires-clause-room g c o there =
    let f = subst (λ (hs : List (HeldSegment g.row.D.Denot)). IsFirstWithRoom (first_count c.args.items.now) hs c.in-Some.place) c.deref.ensures.value
    (subst (λ (n : ℕ). IsFirstWithRoom n c.deref.result.now c.in-Some.place) (first_is c.args.items.now _ c.requires.some) c.in-Some.ensures) in
    group_room (first_count c.args.items.now) c.requires.fits.0 (length c.args.from.now + (length c.args.items.now - 1)) c.args.self.now c.in-Some.place f o c.requires.fits.1 c.requires.fits.2 there

pub write_taken-requires-clause-none : goal.write_taken-requires-clause-none
write_taken-requires-clause-none g c =
    subst (λ (hs : List (HeldSegment g.row.D.Denot)). HasNoRoom (first_count c.args.items.now) hs) c.deref.ensures.value
    (subst (λ (n : ℕ). HasNoRoom n c.deref.result.now) (first_is c.args.items.now _ c.requires.some) c.in-None.ensures)

pub write_taken-requires-clause-taken : goal.write_taken-requires-clause-taken
write_taken-requires-clause-taken g c =
    let none = subst (λ (hs : List (HeldSegment g.row.D.Denot)). HasNoRoom (first_count c.args.items.now) hs) c.deref.ensures.value
    (subst (λ (n : ℕ). HasNoRoom n c.deref.result.now) (first_is c.args.items.now _ c.requires.some) c.in-None.ensures) in
    taken_then (first_count c.args.items.now) (held_in c.args.self.now) (taken_in c.args.self.now) c.requires.secured none

pub write_taken-requires-clause-room : goal.write_taken-requires-clause-room
write_taken-requires-clause-room g c =
    let none = subst (λ (hs : List (HeldSegment g.row.D.Denot)). HasNoRoom (first_count c.args.items.now) hs) c.deref.ensures.value
    (subst (λ (n : ℕ). HasNoRoom n c.deref.result.now) (first_is c.args.items.now _ c.requires.some) c.in-None.ensures) in
    let fit = c.requires.fits.1.unclaimed none in let le = c.requires.fits.2 in omega (arith, fit, le)

pub write_held-requires-clause-group : goal.write_held-requires-clause-group
write_held-requires-clause-group g c = let r = c.requires in record { version = r.version; some = r.some; items = r.items; blocks = r.blocks }

pub write_taken-requires-clause-group : goal.write_taken-requires-clause-group
write_taken-requires-clause-group g c = let r = c.requires in record { version = r.version; some = r.some; items = r.items; blocks = r.blocks }
