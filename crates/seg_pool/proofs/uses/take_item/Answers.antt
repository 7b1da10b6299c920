use Rattle.std.proofs.Common.{◌≡◌, ℕ, List, [], ◌∷◌, ◌++◌, None, Some, ap, sym, ◌∙◌, subst}
use Rattle.turn_lock.specs.Histories.{Entry}
use Rattle.turn_lock.specs.Passes.{pass_lock, pass_number, pass_seen, pass_mine}
use Rattle.seg_pool.specs.declared.base.PoolBase.{PoolBase}
use Rattle.seg_pool.specs.declared.pool.Pool.{Pool}
use Rattle.seg_pool.specs.Pools.{StandsFor}
use Rattle.seg_pool.proofs.Holding.{holds_taken, kept_taking, legal_after, not_held, free_within}
use Rattle.seg_pool.proofs.uses.take_item.Goals as goal

-- the pool stands for one more entry
after_taking : {T : Type 0} (blank : ℕ → ℕ → T → Type 0) (q : Pool T) (b : PoolBase) (k : ℕ) (seen : List Entry) (i j : ℕ) → StandsFor blank q b (seen ++ (k, 1 ∷ i ∷ []) ∷ []) → j ≡ i → StandsFor blank q b (seen ++ (k, 1 ∷ j ∷ []) ∷ [])
after_taking blank q b k seen i j st is = subst (λ (x : ℕ). StandsFor blank q b (seen ++ (k, 1 ∷ x ∷ []) ∷ [])) (sym is) st

pub leave_as-requires-clause-value : goal.leave_as-requires-clause-value
leave_as-requires-clause-value g c =
    after_taking g.T.Blank.blank c.take-taken.new.self (pass_lock c.enter-turn.new.pass).base (pass_number c.enter-turn.new.pass) (pass_seen c.enter-turn.new.pass) c.in-Some.index c.from.result (c.in-Some.ensures.stands (pass_lock c.enter-turn.new.pass).base (pass_seen c.enter-turn.new.pass) (pass_number c.enter-turn.new.pass) c.enter-turn.ensures.value).0 c.from.ensures

pub returns-in-Some-clause-legal : goal.returns-in-Some-clause-legal
returns-in-Some-clause-legal g c =
    let st = after_taking g.T.Blank.blank c.take-taken.new.self (pass_lock c.enter-turn.new.pass).base (pass_number c.enter-turn.new.pass) (pass_seen c.enter-turn.new.pass) c.in-Some.index c.from.result (c.in-Some.ensures.stands (pass_lock c.enter-turn.new.pass).base (pass_seen c.enter-turn.new.pass) (pass_number c.enter-turn.new.pass) c.enter-turn.ensures.value).0 c.from.ensures in
    legal_after (pass_lock c.enter-turn.new.pass) (pass_lock c.leave_as.new.pass) _ (pass_seen c.leave_as.new.pass) c.leave_as.ensures.same.0 c.leave_as.ensures.seen st.legal

pub returns-in-Some-clause-holds : goal.returns-in-Some-clause-holds
returns-in-Some-clause-holds g c = holds_taken (pass_lock c.leave_as.new.pass).base (pass_mine c.enter-turn.new.pass) (pass_mine c.leave_as.new.pass) (pass_number c.leave_as.new.pass) (pass_number c.enter-turn.new.pass) c.in-Some.index c.from.result c.leave_as.ensures.mine c.from.ensures

pub returns-in-Some-clause-fresh : goal.returns-in-Some-clause-fresh
returns-in-Some-clause-fresh g c =
    let e = c.enter-turn.ensures in
    not_held g.T.Blank.blank c.enter-turn.result.value (pass_lock c.args.pass.now) (pass_lock c.enter-turn.new.pass) (pass_number c.args.pass.now) (pass_number c.enter-turn.new.pass) (pass_seen c.enter-turn.new.pass) (pass_mine c.args.pass.now) c.in-Some.index c.in-Some.item e.value e.same.0 e.same.1 (e.own ∙ e.mine) c.in-Some.ensures.item

pub returns-in-Some-clause-within : goal.returns-in-Some-clause-within
returns-in-Some-clause-within g c = free_within g.T.Blank.blank c.enter-turn.result.value (pass_lock c.leave_as.new.pass) (pass_lock c.enter-turn.new.pass) (pass_seen c.enter-turn.new.pass) c.in-Some.index c.enter-turn.ensures.value c.leave_as.ensures.same.0 c.in-Some.ensures.within

pub returns-in-Some-clause-kept : goal.returns-in-Some-clause-kept
returns-in-Some-clause-kept g c i has =
    let e = c.enter-turn.ensures in let l = c.leave_as.ensures in
    kept_taking (pass_lock c.args.pass.now) (pass_lock c.leave_as.new.pass) (pass_mine c.args.pass.now) (pass_mine c.leave_as.new.pass) (pass_number c.args.pass.now) (pass_number c.leave_as.new.pass) (pass_number c.enter-turn.new.pass) i (Some c.from.result) (l.same.0 ∙ e.same.0) (l.same.1 ∙ e.same.1) (l.mine ∙ ap (λ (es : List Entry). es ++ (pass_number c.enter-turn.new.pass, 1 ∷ c.from.result ∷ []) ∷ []) e.mine) has

pub returns-in-None-clause-kept : goal.returns-in-None-clause-kept
returns-in-None-clause-kept g c i has =
    let e = c.enter-turn.ensures in let l = c.leave_as-in-None.ensures in
    kept_taking (pass_lock c.args.pass.now) (pass_lock c.leave_as-in-None.new.pass) (pass_mine c.args.pass.now) (pass_mine c.leave_as-in-None.new.pass) (pass_number c.args.pass.now) (pass_number c.leave_as-in-None.new.pass) (pass_number c.enter-turn.new.pass) i None (l.same.0 ∙ e.same.0) (l.same.1 ∙ e.same.1) (l.mine ∙ ap (λ (es : List Entry). es ++ (pass_number c.enter-turn.new.pass, 2 ∷ []) ∷ []) e.mine) has
