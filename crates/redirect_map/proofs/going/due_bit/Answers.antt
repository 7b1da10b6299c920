use Rattle.std.proofs.Common.{nat_eq, ◌+◌, ◌∙◌, sym, ap, arith, false}
use Rattle.std.specs.HashMap.{get}
use Rattle.block_cells.specs.Cells.{is_held}
use Rattle.redirect_map.proofs.Dues.{due_off, due_on}
use Rattle.redirect_map.proofs.going.due_bit.Goals as goal

pub returns-then-not-has : goal.returns-then-not-has
returns-then-not-has c = sym (due_off c.args.entry.now c.args.i (get nat_eq c.args.blocks.now (c.args.entry.now.record.lbn + c.args.i)) (omega arith) (omega arith) (sym c.has.ensures ∙ c.if-not-has.true))

pub returns : goal.returns
returns c = c.holds.ensures ∙ ap (is_held c.args.entry.now.record.version false) (c.newest_of-known.ensures ∙ (λ j. get nat_eq c.args.blocks.now (c.args.entry.now.record.lbn + c.from.ensures j)))
    ∙ sym (due_on c.args.entry.now c.args.i (get nat_eq c.args.blocks.now (c.args.entry.now.record.lbn + c.args.i)) (omega arith) (omega arith) (sym c.has.ensures ∙ c.if-not-has.false))
