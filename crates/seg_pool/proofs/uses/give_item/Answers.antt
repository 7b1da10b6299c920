use Rattle.std.proofs.Common.{◌≡◌, ℕ, true, List, [], ◌∷◌, ◌++◌, ap, sym, ◌∙◌, subst}
use Rattle.turn_lock.specs.Histories.{Entry, own}
use Rattle.turn_lock.specs.LockIds.{LockId}
use Rattle.turn_lock.specs.Passes.{pass_lock, pass_number, pass_seen, pass_mine}
use Rattle.seg_pool.specs.declared.base.PoolBase.{PoolBase}
use Rattle.seg_pool.specs.declared.base.Holder.TheVariants.{HeldBy}
use Rattle.seg_pool.specs.declared.pool.Pool.{Pool}
use Rattle.seg_pool.specs.Holders.{Gave, holder, MayUsePool}
use Rattle.seg_pool.specs.Operations.{holds, operation_of}
use Rattle.seg_pool.specs.Pools.{StandsFor, holders_after}
use Rattle.seg_pool.proofs.Holding.{is_holder, held_within, held_not_free, kept_giving, legal_after}
use Rattle.seg_pool.proofs.uses.give_item.Goals as goal

-- what a pass held before its turn it holds in it
held : {T : Type 0} (blank : ℕ → ℕ → T → Type 0) (p : Pool T) (l m : LockId PoolBase) (n k : ℕ) (seen mine : List Entry) (i : ℕ) → StandsFor blank p m.base seen → m ≡ l → k ≡ n → own k seen ≡ mine → holds l.base n mine i ≡ true → holder (holders_after m.base seen) i ≡ HeldBy k
held blank p l m n k seen mine i st lock number entries has =
    is_holder m.base seen k i st.legal (subst (λ (x : LockId PoolBase). holds x.base k (own k seen) i ≡ true) (sym lock) (subst (λ (j : ℕ). holds l.base j (own k seen) i ≡ true) (sym number) (subst (λ (es : List Entry). holds l.base n es i ≡ true) (sym entries) has)))

pub give-requires-clause-within : goal.give-requires-clause-within
give-requires-clause-within g c =
    let e = c.enter-turn.ensures in
    held_within g.T.Blank.blank c.enter-turn.result.value (pass_lock c.enter-turn.new.pass).base (pass_seen c.enter-turn.new.pass) e.value (pass_number c.enter-turn.new.pass) c.args.index
    (held g.T.Blank.blank c.enter-turn.result.value (pass_lock c.args.pass.now) (pass_lock c.enter-turn.new.pass) (pass_number c.args.pass.now) (pass_number c.enter-turn.new.pass) (pass_seen c.enter-turn.new.pass) (pass_mine c.args.pass.now) c.args.index e.value e.same.0 e.same.1 (e.own ∙ e.mine) c.requires.holds)

pub give-requires-clause-not_free : goal.give-requires-clause-not_free
give-requires-clause-not_free g c =
    let e = c.enter-turn.ensures in
    held_not_free g.T.Blank.blank c.enter-turn.result.value (pass_lock c.enter-turn.new.pass).base (pass_seen c.enter-turn.new.pass) e.value (pass_number c.enter-turn.new.pass) c.args.index
    (held g.T.Blank.blank c.enter-turn.result.value (pass_lock c.args.pass.now) (pass_lock c.enter-turn.new.pass) (pass_number c.args.pass.now) (pass_number c.enter-turn.new.pass) (pass_seen c.enter-turn.new.pass) (pass_mine c.args.pass.now) c.args.index e.value e.same.0 e.same.1 (e.own ∙ e.mine) c.requires.holds)

-- and after it the pool stands for one more entry
after_giving : {T : Type 0} (blank : ℕ → ℕ → T → Type 0) (p q : Pool T) (b : PoolBase) (k : ℕ) (seen : List Entry) (i j : ℕ) → ((c : PoolBase) (es : List Entry) (n : ℕ) → StandsFor blank p c es → MayUsePool (holders_after c es) n (Gave i) → StandsFor blank q c (es ++ (n, operation_of (Gave i)) ∷ [])) → StandsFor blank p b seen → holder (holders_after b seen) i ≡ HeldBy k → j ≡ i → StandsFor blank q b (seen ++ (k, 3 ∷ j ∷ []) ∷ [])
after_giving blank p q b k seen i j gave st has is = subst (λ (x : ℕ). StandsFor blank q b (seen ++ (k, 3 ∷ x ∷ []) ∷ [])) (sym is) (gave b seen k st has)

pub leave_as-requires-clause-value : goal.leave_as-requires-clause-value
leave_as-requires-clause-value g c =
    let e = c.enter-turn.ensures in
    after_giving g.T.Blank.blank c.enter-turn.result.value c.give.new.self (pass_lock c.enter-turn.new.pass).base (pass_number c.enter-turn.new.pass) (pass_seen c.enter-turn.new.pass) c.args.index c.from.result c.give.ensures.stands e.value
    (held g.T.Blank.blank c.enter-turn.result.value (pass_lock c.args.pass.now) (pass_lock c.enter-turn.new.pass) (pass_number c.args.pass.now) (pass_number c.enter-turn.new.pass) (pass_seen c.enter-turn.new.pass) (pass_mine c.args.pass.now) c.args.index e.value e.same.0 e.same.1 (e.own ∙ e.mine) c.requires.holds) c.from.ensures

pub returns-clause-legal : goal.returns-clause-legal
returns-clause-legal g c =
    let e = c.enter-turn.ensures in
    let st = after_giving g.T.Blank.blank c.enter-turn.result.value c.give.new.self (pass_lock c.enter-turn.new.pass).base (pass_number c.enter-turn.new.pass) (pass_seen c.enter-turn.new.pass) c.args.index c.from.result c.give.ensures.stands e.value
    (held g.T.Blank.blank c.enter-turn.result.value (pass_lock c.args.pass.now) (pass_lock c.enter-turn.new.pass) (pass_number c.args.pass.now) (pass_number c.enter-turn.new.pass) (pass_seen c.enter-turn.new.pass) (pass_mine c.args.pass.now) c.args.index e.value e.same.0 e.same.1 (e.own ∙ e.mine) c.requires.holds) c.from.ensures in
    legal_after (pass_lock c.enter-turn.new.pass) (pass_lock c.leave_as.new.pass) _ (pass_seen c.leave_as.new.pass) c.leave_as.ensures.same.0 c.leave_as.ensures.seen st.legal

pub returns-clause-kept : goal.returns-clause-kept
returns-clause-kept g c i other has =
    let e = c.enter-turn.ensures in let l = c.leave_as.ensures in
    kept_giving (pass_lock c.args.pass.now) (pass_lock c.leave_as.new.pass) (pass_mine c.args.pass.now) (pass_mine c.leave_as.new.pass) (pass_number c.args.pass.now) (pass_number c.leave_as.new.pass) (pass_number c.enter-turn.new.pass) i c.from.result (l.same.0 ∙ e.same.0) (l.same.1 ∙ e.same.1) (λ is. other (is ∙ c.from.ensures)) (l.mine ∙ ap (λ (es : List Entry). es ++ (pass_number c.enter-turn.new.pass, 3 ∷ c.from.result ∷ []) ∷ []) e.mine) has
