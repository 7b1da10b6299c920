use Rattle.replay.proofs.Basics.{◌≡◌, ◌≢◌, ◌<◌, ℕ, length, slice_index_or, subst, ◌∙◌, arith, slice_set, get_or_default, get_or-set_other}
use Rattle.replay.proofs.Basics.{length-set}
use Rattle.replay.proofs.Terms.{IsFree, IsPassOf, IsSamePass, SpindlePass, HasStarted}
use Rattle.window_desks.proofs.OneMore.{each_set}
use Rattle.replay.proofs.Serving.{each_then}
use Rattle.replay.proofs.session.start_spindles.Goals as goal

pub loop-k-preserved : goal.loop-k-preserved
loop-k-preserved g c =
    let k = c.loop-k.k in
    let i = c.loop-k.invariant in
    let e = c.start_turn.ensures in
    let new = c.start_turn.new.pass in
    let elem = c.index-keepers-k.result in
    let room : k < length c.loop-k.keepers = (let t = c.loop-k-test.true in let n = i.same.count in omega arith) in
    let size : length (slice_set c.loop-k.keepers k new) ≡ length c.loop-k.keepers = length-set c.loop-k.keepers k new in
    let old : (d : SpindlePass) → slice_index_or c.loop-k.keepers k elem ≡ slice_index_or c.args.keepers.now k d =
    (λ d. i.waiting k elem (omega arith) ∙ get_or_default c.args.keepers.now k elem d (let n = i.same.count in omega (arith, room, n))) in
    record {
      keepers = record {
        count = size ∙ i.keepers.count;
        own = λ j l. each_set (λ (n : ℕ) (p : SpindlePass). IsPassOf (slice_index_or c.args.shared.now.spindles.items n l) p) c.loop-k.keepers new k (λ n d lt. i.keepers.own n l d lt) (e.same.0 ∙ i.keepers.own k l elem room) j;
        free = each_set (λ (n : ℕ) (p : SpindlePass). IsFree p) c.loop-k.keepers new k i.keepers.free e.free;
      };
      same = record {
        count = size ∙ i.same.count;
        each = λ j d lt. each_set (λ (n : ℕ) (p : SpindlePass). IsSamePass (slice_index_or c.args.keepers.now n d) p) c.loop-k.keepers new k
            (λ n x within. subst (λ (p : SpindlePass). IsSamePass (slice_index_or c.args.keepers.now n d) p) (get_or_default c.loop-k.keepers n d x within) (i.same.each n d (let m = i.same.count in omega (arith, within, m))))
            (subst (λ (p : SpindlePass). IsSamePass p new) (old d) e.same) j d (let m = i.same.count in omega (arith, lt, m, size));
      };
      started = each_then (HasStarted c.args.at) c.args.keepers.now c.loop-k.keepers new k room i.started (λ d. subst (λ (p : SpindlePass). HasStarted c.args.at p new) (old d) (record { same = e.same; free = e.free; mine = e.mine; seen = e.seen }));
      waiting = λ j d le. let other : j ≢ k = (λ same. omega (arith, le, same)) in get_or-set_other c.loop-k.keepers k j new d other ∙ i.waiting j d (omega (arith, le));
    }
