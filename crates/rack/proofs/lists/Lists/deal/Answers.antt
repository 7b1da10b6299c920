use Rattle.rack.proofs.Basics.{◌≡◌, List, map, length, refl, sym, ap, subst, ◌∙◌, arith, Global, Vec, with_items_is}
use Rattle.rack.proofs.Terms.{last_of, ArePopped}
use Rattle.rack.proofs.Setting.{PoolPass, SpindlePass, AreDealtDown, dealt_down_none, empty, pool_places, spindle_places, dealt_down_next, dealt_down_all}
use Rattle.rack.proofs.lists.Lists.deal.Goals as goal

pub loop-left-init : goal.loop-left-init
loop-left-init g c = dealt_down_none c.args.self.now c.len-left.result (c.len-left.ensures ∙ c.args.self.now.passes.ok.0) c.requires

pub deal_one-requires-clause-empty : goal.deal_one-requires-clause-empty
deal_one-requires-clause-empty g c =
    let old = c.args.self.now in let new = c.loop-left.self in let p = c.index_mut-volume.result.now in
    (empty old new c.loop-left.left c.requires c.loop-left.invariant c.loop-left-test.true p c.index_mut-volume.ensures.value).pools.0

pub deal_one-requires-clause-room : goal.deal_one-requires-clause-room
deal_one-requires-clause-room g c =
    let old = c.args.self.now in let new = c.loop-left.self in let p = c.index_mut-volume.result.now in
    let room = pool_places old new c.loop-left.left c.requires c.loop-left.invariant c.loop-left-test.true p c.index_mut-volume.ensures.value in
    omega (arith, room, ap (λ (l : List (Vec (PoolPass g.row.D.Denot) Global)). length l) c.deref_mut.ensures.value)

pub deal_one-requires-in-loop-left-clause-empty : goal.deal_one-requires-in-loop-left-clause-empty
deal_one-requires-in-loop-left-clause-empty g c =
    let old = c.args.self.now in let new = c.loop-left.self in let p = c.index_mut-volume.result.now in
    (empty old new c.loop-left.left c.requires c.loop-left.invariant c.loop-left-test.true p c.index_mut-volume.ensures.value).spindles.0

pub deal_one-requires-in-loop-left-clause-room : goal.deal_one-requires-in-loop-left-clause-room
deal_one-requires-in-loop-left-clause-room g c =
    let old = c.args.self.now in let new = c.loop-left.self in let p = c.index_mut-volume.result.now in
    let room = spindle_places old new c.loop-left.left c.requires c.loop-left.invariant c.loop-left-test.true p c.index_mut-volume.ensures.value in
    omega (arith, room, ap (λ (l : List (Vec SpindlePass Global)). length l) c.deref_mut-in-loop-left.ensures.value)

pub loop-left-preserved : goal.loop-left-preserved
loop-left-preserved g c =
    let old = c.args.self.now in let new = c.loop-left.self in let p = c.index_mut-volume.result.now in
    let PoolRow = Vec (PoolPass g.row.D.Denot) Global in let SpindleRow = Vec SpindlePass Global in
    let pools : ArePopped new.rooms.pools.items c.deal_one.new.rows = subst (λ (l : List PoolRow). ArePopped l c.deal_one.new.rows) c.deref_mut.ensures.value c.deal_one.ensures.rows in
    let spindles : ArePopped new.rooms.spindles.items c.deal_one-in-loop-left.new.rows = subst (λ (l : List SpindleRow). ArePopped l c.deal_one-in-loop-left.new.rows) c.deref_mut-in-loop-left.ensures.value c.deal_one-in-loop-left.ensures.rows in
    let pool_items = with_items_is new.rooms.pools c.deal_one.new.rows (pools.count ∙ sym new.rooms.pools.ok.0) in
    let spindle_items = with_items_is new.rooms.spindles c.deal_one-in-loop-left.new.rows (spindles.count ∙ sym new.rooms.spindles.ok.0) in
    dealt_down_next old new c.loop-left.left c.requires c.loop-left.invariant c.loop-left-test.true p c.index_mut-volume.ensures.value _ (record { pools = c.deal_one.new.places; spindles = c.deal_one-in-loop-left.new.places; held = p.held }) refl refl
    (c.deal_one.ensures.places ∙ ap (λ (l : List PoolRow). map last_of l) c.deref_mut.ensures.value) (subst (ArePopped new.rooms.pools.items) (sym pool_items) pools)
    (c.deal_one-in-loop-left.ensures.places ∙ ap (λ (l : List SpindleRow). map last_of l) c.deref_mut-in-loop-left.ensures.value) (subst (ArePopped new.rooms.spindles.items) (sym spindle_items) spindles)
    refl

pub returns : goal.returns
returns g c =
    let none : c.loop-left.left ≡ 0 = omega (arith, c.loop-left-test.false) in
    dealt_down_all c.args.self.now c.loop-left.self (subst (AreDealtDown c.args.self.now c.loop-left.self) none c.loop-left.invariant)
