use Rattle.std.proofs.Common.{◌≡◌, ◌<◌, ◌+◌, ◌-◌, ◌∙◌, ℕ, sym, ap, nat_eq, arith}
use Rattle.std.specs.HashMap.{get}
use Rattle.block_cells.proofs.Meeting.{any_in_range, none_in_range}
use Rattle.redirect_map.specs.Marked.{sought_of}
use Rattle.redirect_map.proofs.going.any_sought.Goals as goal

pub returns-then-sought_bit : goal.returns-then-sought_bit
returns-then-sought_bit c = sym (any_in_range (λ b. sought_of c.args.sought c.args.entry.now b (get nat_eq c.args.blocks.now b)) c.args.entry.now.record.lbn c.args.entry.now.record.count (c.args.entry.now.record.lbn + c.loop-i.i) (omega arith) (omega (arith, c.loop-i-test.true))
    (sym c.sought_bit.ensures ∙ c.if-sought_bit.true))

pub returns : goal.returns
returns c = sym (none_in_range (λ b. sought_of c.args.sought c.args.entry.now b (get nat_eq c.args.blocks.now b)) c.args.entry.now.record.lbn c.args.entry.now.record.count (λ k from to.
    let at : c.args.entry.now.record.lbn + (k - c.args.entry.now.record.lbn) ≡ k = omega (arith, from) in
    let less : k - c.args.entry.now.record.lbn < c.loop-i.i = omega (arith, from, to, c.loop-i-test.false) in
    ap (λ (n : ℕ). sought_of c.args.sought c.args.entry.now n (get nat_eq c.args.blocks.now n)) (sym at) ∙ c.loop-i.invariant (k - c.args.entry.now.record.lbn) less))
