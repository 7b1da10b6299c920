use Rattle.std.proofs.Common.{◌≡◌, ◌<◌, ◌+◌, ◌-◌, ◌∙◌, ℕ, sym, ap, nat_eq, is_some, arith}
use Rattle.std.specs.HashMap.{get}
use Rattle.block_cells.proofs.Meeting.{any_in_range, none_in_range}
use Rattle.block_cells.proofs.blocks.any_covered.Goals as goal

pub returns-then-is_some : goal.returns-then-is_some
returns-then-is_some c = sym (any_in_range (λ b. is_some (get nat_eq c.args.blocks.now b)) c.args.lbn c.args.count (c.args.lbn + c.loop-i.i) (omega arith) (omega (arith, c.loop-i-test.true))
    (ap (λ (n : ℕ). is_some (get nat_eq c.args.blocks.now (c.args.lbn + n))) (sym c.from.ensures) ∙ sym (c.is_some.ensures ∙ ap is_some c.newest_of.ensures) ∙ c.if-is_some.true))

pub returns : goal.returns
returns c = sym (none_in_range (λ b. is_some (get nat_eq c.args.blocks.now b)) c.args.lbn c.args.count (λ k from to.
    let at : c.args.lbn + (k - c.args.lbn) ≡ k = omega (arith, from) in
    let less : k - c.args.lbn < c.loop-i.i = omega (arith, from, to, c.loop-i-test.false) in
    ap (λ (n : ℕ). is_some (get nat_eq c.args.blocks.now n)) (sym at) ∙ c.loop-i.invariant (k - c.args.lbn) less))
