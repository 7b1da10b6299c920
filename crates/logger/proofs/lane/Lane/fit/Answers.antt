use Rattle.std.proofs.Common.{List, vec_capacity, ap, ◌∙◌, sym, subst, arith}
use Rattle.std.specs.List.{AllByRecursion}
use Rattle.std.proofs.lemmas.Option.{same_Some}
use Rattle.log_segment.specs.Segment.{IsSegment, room_of}
use Rattle.logger.specs.Lanes.{IsHeld, IsFirstWithRoom, HasNoRoom, held_in, taken_in}
use Rattle.logger.specs.declared.lane.HeldSegment.{HeldSegment}
use Rattle.logger.proofs.Held.{all_map, all_get, there_get, within}
use Rattle.logger.proofs.Rooms.{taken_then, fit_held, fit_taken}
use Rattle.logger.proofs.lane.Lane.fit.Goals as goal

pub first_with_room-requires : goal.first_with_room-requires
first_with_room-requires g c =
    let self = c.args.self.now in
    subst (AllByRecursion (λ (h : HeldSegment g.row.D.Denot). IsSegment g.D.Disk.state h.segment)) (sym c.deref.ensures.value)
    (all_map (IsHeld g.D.Disk.state self.logger self.owner (vec_capacity self.held) self.pool) (λ (h : HeldSegment g.row.D.Denot). IsSegment g.D.Disk.state h.segment) (λ h is. is.shape) self.held.items c.requires.lane.each)

pub index-requires : goal.index-requires
index-requires g c = let f = c.in-Some.ensures in omega (arith, within c.deref.result.now c.in-Some.place f.segment f.there, c.deref.ensures.len)

pub room-requires : goal.room-requires
room-requires g c =
    let self = c.args.self.now in let f = subst (λ (hs : List (HeldSegment g.row.D.Denot)). IsFirstWithRoom c.args.count hs c.in-Some.place) c.deref.ensures.value c.in-Some.ensures in
    let there = there_get self.held.items c.in-Some.place c.index.result.now (within self.held.items c.in-Some.place f.segment f.there) c.index.ensures in
    (all_get (IsHeld g.D.Disk.state self.logger self.owner (vec_capacity self.held) self.pool) self.held.items c.in-Some.place c.index.result.now c.requires.lane.each there).shape

pub taken_room-requires-clause-taken : goal.taken_room-requires-clause-taken
taken_room-requires-clause-taken g c =
    let none = subst (λ (hs : List (HeldSegment g.row.D.Denot)). HasNoRoom c.args.count hs) c.deref.ensures.value c.in-None.ensures in
    taken_then c.args.count (held_in c.args.self.now) (taken_in c.args.self.now) c.requires.secured none

pub returns-in-Some : goal.returns-in-Some
returns-in-Some g c =
    let self = c.args.self.now in let f = subst (λ (hs : List (HeldSegment g.row.D.Denot)). IsFirstWithRoom c.args.count hs c.in-Some.place) c.deref.ensures.value c.in-Some.ensures in
    let there = there_get self.held.items c.in-Some.place c.index.result.now (within self.held.items c.in-Some.place f.segment f.there) c.index.ensures in
    fit_held c.args.count c.room.result self c.in-Some.place f (c.room.ensures ∙ ap (λ (h : HeldSegment g.row.D.Denot). room_of h.segment) (same_Some c.index.result.now f.segment (sym there ∙ f.there)))

pub returns-in-None : goal.returns-in-None
returns-in-None g c =
    fit_taken c.args.count c.taken_room.result c.args.self.now (subst (λ (hs : List (HeldSegment g.row.D.Denot)). HasNoRoom c.args.count hs) c.deref.ensures.value c.in-None.ensures) c.taken_room.ensures
