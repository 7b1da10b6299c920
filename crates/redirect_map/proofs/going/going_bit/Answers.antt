use Rattle.std.proofs.Common.{◌≡◌, nat_eq, ◌+◌, ◌∙◌, ◌&&◌, ◌||◌, not, sym, true, false}
use Rattle.std.specs.HashMap.{get}
use Rattle.block_cells.specs.Cells.{is_held}
use Rattle.redirect_map.proofs.Dues.{goes_off, goes_on}
use Rattle.redirect_map.proofs.going.going_bit.Goals as goal

pub returns-then-not-has : goal.returns-then-not-has
returns-then-not-has c = sym (goes_off c.args.entry.now c.args.i (get nat_eq c.args.blocks.now (c.args.entry.now.record.lbn + c.args.i)) (sym c.has.ensures ∙ c.if-not-has.true))

pub returns : goal.returns
returns c =
    let known : c.newest_of-known.result ≡ get nat_eq c.args.blocks.now (c.args.entry.now.record.lbn + c.args.i) = c.newest_of-known.ensures ∙ (λ j. get nat_eq c.args.blocks.now (c.args.entry.now.record.lbn + c.from.ensures j)) in
    c.is_free.ensures ∙ (λ j. not (is_held c.args.entry.now.record.version false (known j)) || (c.has-2.ensures j && is_held c.args.entry.now.record.version true (known j)))
    ∙ sym (goes_on c.args.entry.now c.args.i (get nat_eq c.args.blocks.now (c.args.entry.now.record.lbn + c.args.i)) (sym c.has.ensures ∙ c.if-not-has.false))
