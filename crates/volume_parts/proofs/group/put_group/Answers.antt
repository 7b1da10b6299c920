use Rattle.std.proofs.Common.{◌≡◌, ◌⊎◌, ℕ, List, take, sym, ap, subst, ◌∙◌, arith}
use Rattle.std.specs.Prelude.{IsSome}
use Rattle.std.proofs.lemmas.List.{length-take-le}
use Rattle.std.proofs.lemmas.List.Sums.{sum_by-take-le}
use Rattle.wol_model.specs.Log.{Record}
use Rattle.log_segment.specs.Records.{group_of}
use Rattle.log_segment.specs.declared.item.Item.{Item}
use Rattle.logger.specs.Lanes.{HasRoom, IsFit, Secured, Wrote, first_count, held_in, taken_in, lane_owner, pool_blocks}
use Rattle.turn_lock.specs.LockIds.{LockId}
use Rattle.seg_pool.specs.declared.base.PoolBase.{PoolBase}
use Rattle.volume_parts.specs.Joining.{room_for}
use Rattle.volume_parts.specs.Offers.{HasTakenWrite}
use Rattle.volume_parts.specs.Puts.{PutIn}
use Rattle.volume_parts.proofs.Records.{first_fits, group_in, group_taken, group_untaken, group_within, first_at, first_item, first_of_take, group_cut, items_front}
use Rattle.volume_parts.proofs.group.put_group.Goals as goal

pub secure-requires-clause-count : goal.secure-requires-clause-count
secure-requires-clause-count g c = first_item c.args.items.now (record { lbn = 0; count = 0 }) c.requires.some c.requires.items

pub secure-requires-clause-fits : goal.secure-requires-clause-fits
secure-requires-clause-fits g c = let f = first_at c.args.items.now (record { lbn = 0; count = 0 }) c.requires.some in omega (arith, f, c.requires.first)

pub write_group-written-requires-clause-items : goal.write_group-written-requires-clause-items
write_group-written-requires-clause-items g c = items_front c.first_fitting-fitting.result.items c.args.items.now c.requires.items

pub write_group-written-requires-clause-some : goal.write_group-written-requires-clause-some
write_group-written-requires-clause-some g c = let l = length-take-le c.first_fitting-fitting.result.items c.args.items.now c.first_fitting-fitting.ensures.most in omega (arith, l, c.first_fitting-fitting.ensures.some)

pub write_group-written-requires-clause-version : goal.write_group-written-requires-clause-version
write_group-written-requires-clause-version g c =
    let l = length-take-le c.first_fitting-fitting.result.items c.args.items.now c.first_fitting-fitting.ensures.most in (c.requires.version.0, omega (arith, l, c.first_fitting-fitting.ensures.most, c.requires.version.1))

pub write_group-written-requires-clause-blocks : goal.write_group-written-requires-clause-blocks
write_group-written-requires-clause-blocks g c =
    let s = sum_by-take-le (λ (i : Item). i.count) c.args.items.now c.first_fitting-fitting.result.items in
    let l = length-take-le c.first_fitting-fitting.result.blocks c.args.from.now (omega (arith, s, c.first_fitting-fitting.ensures.blocks, c.requires.blocks)) in omega (arith, l, c.first_fitting-fitting.ensures.blocks)

pub write_group-written-requires-clause-secured : goal.write_group-written-requires-clause-secured
write_group-written-requires-clause-secured g c =
    let mid = c.secure.new.self in let f = first_at c.args.items.now (record { lbn = 0; count = 0 }) c.requires.some in
    subst (λ (k : ℕ). HasRoom k (held_in mid) ⊎ IsSome (taken_in mid)) (sym (first_of_take c.args.items.now c.first_fitting-fitting.result.items c.first_fitting-fitting.ensures.some ∙ f)) (c.secure.ensures.secured c.if-not-secure.false)

pub write_group-written-requires-clause-fits : goal.write_group-written-requires-clause-fits
write_group-written-requires-clause-fits g c =
    let mid = c.secure.new.self in let n = c.first_fitting-fitting.result.items in let items = c.args.items.now in let f = first_at items (record { lbn = 0; count = 0 }) c.requires.some in
    let s = sum_by-take-le (λ (i : Item). i.count) items n in
    let l = length-take-le c.first_fitting-fitting.result.blocks c.args.from.now (omega (arith, s, c.first_fitting-fitting.ensures.blocks, c.requires.blocks)) in
    (c.fit.result, subst (λ (k : ℕ). IsFit k c.fit.result mid) (sym (first_of_take items n c.first_fitting-fitting.ensures.some ∙ f)) c.fit.ensures, omega (arith, l, c.first_fitting-fitting.ensures.blocks, c.first_fitting-fitting.ensures.fits))

pub returns-clause-put : goal.returns-clause-put
returns-clause-put g c =
    let state = g.D.Disk.state in let old = c.args.lane.now in let mid = c.secure.new.self in let new = c.write_group-written.new.self in let s = c.secure.ensures in let w = c.write_group-written.ensures in
    let n = c.first_fitting-fitting.result.items in let items = c.args.items.now in let from = c.args.from.now in let f = first_at items (record { lbn = 0; count = 0 }) c.requires.some in
    subst (λ (k : ℕ). PutIn state old new k (room_for (take n items)) (group_of (lane_owner old) c.args.version (take n items) from) c.write_group-written.result) (first_of_take items n c.first_fitting-fitting.ensures.some)
    (group_in state old mid new s.held s.lane s.same (first_count (take n items)) c.fit.result (room_for (take n items)) (subst (λ (k : ℕ). IsFit k c.fit.result mid) (sym (first_of_take items n c.first_fitting-fitting.ensures.some ∙ f)) c.fit.ensures) c.first_fitting-fitting.ensures.fits
    (group_of (lane_owner old) c.args.version (take n items) from) c.write_group-written.result
    (subst (λ (added : List Record). Wrote state mid new (first_count (take n items)) added c.write_group-written.result)
    (ap (λ (k : ℕ). group_of (lane_owner mid) c.args.version (take n items) (take k from)) c.first_fitting-fitting.ensures.blocks ∙ group_cut (lane_owner mid) c.args.version (take n items) from ∙ ap (λ (o : ℕ). group_of o c.args.version (take n items) from) s.same.owner)
    w.moved))

pub returns-clause-fits : goal.returns-clause-fits
returns-clause-fits g c =
    let state = g.D.Disk.state in let old = c.args.lane.now in let mid = c.secure.new.self in let new = c.write_group-written.new.self in let s = c.secure.ensures in let w = c.write_group-written.ensures in
    let n = c.first_fitting-fitting.result.items in let items = c.args.items.now in let f = first_at items (record { lbn = 0; count = 0 }) c.requires.some in
    group_within state old mid new s.held s.lane s.same (first_count (take n items)) c.fit.result (room_for (take n items)) (subst (λ (k : ℕ). IsFit k c.fit.result mid) (sym (first_of_take items n c.first_fitting-fitting.ensures.some ∙ f)) c.fit.ensures) c.first_fitting-fitting.ensures.fits
    _ c.write_group-written.result w.moved

pub returns-clause-all : goal.returns-clause-all
returns-clause-all g c all = c.write_group-written.ensures.all (c.secure.ensures.all all)

pub returns-then-not-secure-clause-all : goal.returns-then-not-secure-clause-all
returns-then-not-secure-clause-all g c = c.secure.ensures.all

pub first_fitting-fitting-requires-clause-first : goal.first_fitting-fitting-requires-clause-first
first_fitting-fitting-requires-clause-first g c =
    let mid = c.secure.new.self in let f = first_at c.args.items.now (record { lbn = 0; count = 0 }) c.requires.some in let p : pool_blocks mid ≡ pool_blocks c.args.lane.now = ap (λ (q : LockId PoolBase). q.base.blocks) c.secure.ensures.same.pool.0 in
    first_fits (first_count c.args.items.now) c.fit.result mid (subst (λ (k : ℕ). IsFit k c.fit.result mid) (sym f) c.fit.ensures) (omega (arith, p, c.requires.first))

pub returns-clause-none : goal.returns-clause-none
returns-clause-none g c =
    let old = c.args.lane.now in let mid = c.secure.new.self in let new = c.write_group-written.new.self in let s = c.secure.ensures in let w = c.write_group-written.ensures in
    let n = c.first_fitting-fitting.result.items in let items = c.args.items.now in let f = first_at items (record { lbn = 0; count = 0 }) c.requires.some in
    group_untaken g.D.Disk.state old mid new (first_count (take n items)) c.secure.result (subst (λ (k : ℕ). Secured old mid k c.secure.result) (sym (first_of_take items n c.first_fitting-fitting.ensures.some ∙ f)) s.moved) c.if-not-secure.false s.held _ c.write_group-written.result w.moved

pub returns-clause-turn : goal.returns-clause-turn
returns-clause-turn g c =
    let old = c.args.lane.now in let mid = c.secure.new.self in let new = c.write_group-written.new.self in let s = c.secure.ensures in let w = c.write_group-written.ensures in
    let n = c.first_fitting-fitting.result.items in let items = c.args.items.now in let f = first_at items (record { lbn = 0; count = 0 }) c.requires.some in
    subst (λ (k : ℕ). HasTakenWrite k old new) (first_of_take items n c.first_fitting-fitting.ensures.some)
    (group_taken g.D.Disk.state old mid new (first_count (take n items)) c.secure.result (subst (λ (k : ℕ). Secured old mid k c.secure.result) (sym (first_of_take items n c.first_fitting-fitting.ensures.some ∙ f)) s.moved) c.if-not-secure.false s.same s.spindle w.same w.used w.pool
    s.held _ c.write_group-written.result w.moved)
