use Rattle.rack.proofs.Basics.{◌≡◌, ◌+◌, ℕ, List, [], length, sym, ap, subst, ◌∙◌, arith, All, Global, Vec, length_push, All-push}
use Rattle.rack.proofs.Terms.{Spun}
use Rattle.rack.proofs.lists.new_row.Goals as goal

pub push_reserved-requires : goal.push_reserved-requires
push_reserved-requires g c = omega (arith, c.loop-logger.invariant.count, c.loop-logger.invariant.room, c.loop-logger-test.true, c.loop-logger.held.ok.0)

pub loop-logger-preserved : goal.loop-logger-preserved
loop-logger-preserved g c =
    let Row = Vec (ℕ × Spun g.row.D.Denot) Global in let inv = c.loop-logger.invariant in let held = c.loop-logger.held.items in
    record {
      count = ap length c.push_reserved.ensures.items ∙ length_push held c.new.result ∙ ap (λ (n : ℕ). n + 1) inv.count;
      room = omega (arith, inv.room, c.push_reserved.ensures.capacity);
      empty = subst (λ (l : List Row). All (λ (list : Row). list.items ≡ []) l) (sym c.push_reserved.ensures.items) (All-push (λ (list : Row). list.items ≡ []) held c.new.result inv.empty c.new.ensures.items);
    }
