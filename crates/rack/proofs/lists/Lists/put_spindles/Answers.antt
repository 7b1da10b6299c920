use Rattle.rack.proofs.Basics.{◌≡◌, ◌+◌, List, length, refl, sym, subst, arith, All}
use Rattle.rack.proofs.Setting.{SpindleLock, AreSpindlesPut, spindles_none, last_size, room_for_lock, room_for_keeper, room_for_row, spindles_next}
use Rattle.rack_parts.proofs.Members.{all_reverse}
use Rattle.rack.proofs.lists.Lists.put_spindles.Goals as goal

pub loop-lock-init : goal.loop-lock-init
loop-lock-init g c =
    let all = c.args.spindles.items in
    spindles_none all c.reverse.new.self.items c.args.self.now c.reverse.ensures.items c.requires.lists
    (subst (All (λ (i : SpindleLock). length i.passes.items ≡ length all + 1)) (sym c.reverse.ensures.items) (all_reverse (λ (i : SpindleLock). length i.passes.items ≡ length all + 1) all c.requires.spindles))

pub unreachable-requires : goal.unreachable-requires
unreachable-requires g c =
    let all = c.args.spindles.items in let rest = c.pop.new.self.items in let old = c.args.self.now in let new = c.loop-lock.self in let i = c.in-Some.field-0 in
    let so_far = subst (λ (l : List SpindleLock). AreSpindlesPut all l old new) c.in-Some.ensures.items c.loop-lock.invariant in
    let size = last_size all rest i old new so_far in
    omega (arith, size, i.passes.ok.0, c.in_default-pop.ensures.cases)

pub push_reserved-requires : goal.push_reserved-requires
push_reserved-requires g c =
    let so_far = subst (λ (l : List SpindleLock). AreSpindlesPut c.args.spindles.items l c.args.self.now c.loop-lock.self) c.in-Some.ensures.items c.loop-lock.invariant in
    room_for_lock c.args.spindles.items c.pop.new.self.items c.in-Some.field-0 c.args.self.now c.loop-lock.self so_far

pub push_reserved-requires-in-Some : goal.push_reserved-requires-in-Some
push_reserved-requires-in-Some g c =
    let so_far = subst (λ (l : List SpindleLock). AreSpindlesPut c.args.spindles.items l c.args.self.now c.loop-lock.self) c.in-Some.ensures.items c.loop-lock.invariant in
    room_for_keeper c.args.spindles.items c.pop.new.self.items c.in-Some.field-0 c.args.self.now c.loop-lock.self so_far

pub push_reserved-requires-in-Some-2 : goal.push_reserved-requires-in-Some-2
push_reserved-requires-in-Some-2 g c =
    let so_far = subst (λ (l : List SpindleLock). AreSpindlesPut c.args.spindles.items l c.args.self.now c.loop-lock.self) c.in-Some.ensures.items c.loop-lock.invariant in
    room_for_row c.args.spindles.items c.pop.new.self.items c.in-Some.field-0 c.args.self.now c.loop-lock.self so_far

pub loop-lock-preserved : goal.loop-lock-preserved
loop-lock-preserved g c =
    let all = c.args.spindles.items in let rest = c.pop.new.self.items in let old = c.args.self.now in let new = c.loop-lock.self in let i = c.in-Some.field-0 in
    let so_far = subst (λ (l : List SpindleLock). AreSpindlesPut all l old new) c.in-Some.ensures.items c.loop-lock.invariant in
    spindles_next all rest i old new so_far _ c.in-Some-pop.keeper c.pop-in-Some.new.self c.in-Some-pop.ensures.items c.in-Some-pop.ensures.capacity
    c.push_reserved.ensures.items c.push_reserved.ensures.capacity c.push_reserved-in-Some.ensures.items c.push_reserved-in-Some.ensures.capacity
    c.push_reserved-in-Some-2.ensures.items c.push_reserved-in-Some-2.ensures.capacity refl
