use Rattle.std.proofs.Common.{◌≡◌, ◌≢◌, ◌<◌, ◌+◌, ℕ, length, slice_index_or, sym, ap, subst, ◌∙◌, arith}
use Rattle.std.specs.Prelude.{slice_set}
use Rattle.std.proofs.lemmas.List.{get_or_default, get_or-set_other, length-set}
use Rattle.turn_lock.specs.Passes.{IsFree, IsPassOf, IsSamePass}
use Rattle.window_desks.specs.Begun.{SpindlePass, HasBegun}
use Rattle.window_desks.proofs.OneMore.{each_more, each_set, each_pair}
use Rattle.window_desks.proofs.begin.begin_spindles.Goals as goal

pub loop-k-preserved : goal.loop-k-preserved
loop-k-preserved g c =
    let room : c.loop-k.k < length c.loop-k.keepers = (let t = c.loop-k-test.true in let a = c.loop-k.auto.keepers in omega arith) in
    let rest = c.loop-k.invariant.rest in
    let e = c.begin_turn-up.ensures in
    let old : (d : SpindlePass) → slice_index_or c.loop-k.keepers c.loop-k.k c.index-keepers-k.result ≡ slice_index_or c.args.keepers.now c.loop-k.k d =
    (λ d. rest c.loop-k.k c.index-keepers-k.result (omega arith) ∙ get_or_default c.args.keepers.now c.loop-k.k c.index-keepers-k.result d (let a = c.loop-k.auto.keepers in omega (arith, room, a))) in
    record {
      begun = λ j b d lt. subst (λ us. HasBegun c.args.t (slice_index_or us j b) (slice_index_or c.args.keepers.now j d) (slice_index_or (slice_set c.loop-k.keepers c.loop-k.k c.begin_turn-up.new.pass) j d)) (sym c.push_reserved.ensures.items)
          (each_more (HasBegun c.args.t) c.loop-k.awake.items _ c.args.keepers.now c.loop-k.keepers c.begin_turn-up.new.pass c.loop-k.k (sym c.loop-k.awake.ok.0 ∙ c.loop-k.invariant.len) room c.loop-k.invariant.begun (λ d. subst (λ p. HasBegun c.args.t c.begin_turn-up.result p c.begin_turn-up.new.pass) (old d) (record { same = e.same; free = e.free; mine = e.mine; seen = e.seen; answer = e.answer })) j b d lt);
      rest = λ j d le. let other : j ≢ c.loop-k.k = (λ same. omega (arith, le, same)) in get_or-set_other c.loop-k.keepers c.loop-k.k j c.begin_turn-up.new.pass d other ∙ rest j d (omega (arith, le));
      own = λ j s. each_set (λ (i : ℕ) (p : SpindlePass). IsPassOf (slice_index_or c.args.spindles.now i s) p) c.loop-k.keepers c.begin_turn-up.new.pass c.loop-k.k (λ i d lt. c.loop-k.invariant.own i s d lt) (e.same.0 ∙ c.loop-k.invariant.own c.loop-k.k s c.index-keepers-k.result room) j;
      free = each_set (λ (i : ℕ) (p : SpindlePass). IsFree p) c.loop-k.keepers c.begin_turn-up.new.pass c.loop-k.k c.loop-k.invariant.free c.begin_turn-up.ensures.free;
      same = λ j d lt. each_pair IsSamePass c.args.keepers.now c.loop-k.keepers c.begin_turn-up.new.pass c.loop-k.k c.loop-k.invariant.same (λ x. subst (λ p. IsSamePass p c.begin_turn-up.new.pass) (old x) e.same) j d (subst (λ (n : ℕ). j < n) (length-set c.loop-k.keepers c.loop-k.k c.begin_turn-up.new.pass) lt);
      len = c.push_reserved.ensures.len ∙ ap (λ (n : ℕ). n + 1) c.loop-k.invariant.len;
      room = (let a = c.push_reserved.ensures.capacity in let b = c.loop-k.invariant.room in omega arith);
    }
