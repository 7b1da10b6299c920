use Rattle.std.proofs.Common.{◌+◌, ◌/◌, ◌^◌, ◌∙◌, ◌&&◌, ℕ, Bool, sym, ap, eqb, bit_and}
use Rattle.std.proofs.lemmas.Bool.{eq-eqb, ne_eqb}
use Rattle.wol_model.specs.Log.{has_bit}
use Rattle.block_cells.proofs.Counting.{at_bit}
use Rattle.redirect_map.proofs.Without.{without_same, without_none}
use Rattle.redirect_map.proofs.entry.unhome_bit.Goals as goal

pub returns-then-newer-i-eq1-clause-zip : goal.returns-then-newer-i-eq1-clause-zip
returns-then-newer-i-eq1-clause-zip c = without_same _ (λ b. has_bit c.args.newer.now.keep c.args.i && eqb b (c.args.newer.now.lbn + c.args.i))
    (λ b. ap (λ (n : ℕ). eqb b (c.args.newer.now.lbn + n)) c.from.ensures
    ∙ ap (λ (t : Bool). t && eqb b (c.args.newer.now.lbn + c.args.i)) (sym (sym (at_bit c.args.newer.now.keep c.args.i) ∙ eq-eqb (bit_and (c.args.newer.now.keep / 2 ^ c.args.i) 1) 1 c.if-newer-i-eq1.true)))
    c.args.entries.now.items c.unhome_block.new.entries.items c.unhome_block.ensures.zip

pub returns-else-newer-i-eq1-clause-zip : goal.returns-else-newer-i-eq1-clause-zip
returns-else-newer-i-eq1-clause-zip c = without_none (λ b. has_bit c.args.newer.now.keep c.args.i && eqb b (c.args.newer.now.lbn + c.args.i))
    (λ b. ap (λ (t : Bool). t && eqb b (c.args.newer.now.lbn + c.args.i)) (sym (at_bit c.args.newer.now.keep c.args.i) ∙ ne_eqb (bit_and (c.args.newer.now.keep / 2 ^ c.args.i) 1) 1 c.if-newer-i-eq1.false))
    c.args.entries.now.items
