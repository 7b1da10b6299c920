use Rattle.std.proofs.Common.{refl, ◌+◌, ◌∙◌, ◌&&◌, sym, eqb, ltb, arith}
use Rattle.wol_model.specs.Log.{has_bit}
use Rattle.block_cells.specs.Masks.{in_mask}
use Rattle.block_cells.proofs.Stepping.{next_block, no_block, all_blocks}
use Rattle.redirect_map.proofs.Without.{without_same, without_none, without_more, entries_kept, cell_kept, unhomed_from}
use Rattle.redirect_map.proofs.entry.unhome_blocks.Goals as goal

pub loop-i-init : goal.loop-i-init
loop-i-init c = (without_none (λ b. in_mask c.args.newer.now.lbn c.args.newer.now.keep b && ltb b (c.args.newer.now.lbn + 0)) (λ b. no_block c.args.newer.now.lbn c.args.newer.now.keep b) c.args.entries.now.items, refl)

pub unhome_bit-requires-clause-entries : goal.unhome_bit-requires-clause-entries
unhome_bit-requires-clause-entries c = entries_kept (λ b. in_mask c.args.newer.now.lbn c.args.newer.now.keep b && ltb b (c.args.newer.now.lbn + c.loop-i.i)) c.args.entries.now.items c.loop-i.entries.items c.loop-i.invariant.0 c.requires.entries

pub unhome_bit-requires-clause-cells : goal.unhome_bit-requires-clause-cells
unhome_bit-requires-clause-cells c = λ b. c.requires.cells b ∙ sym (cell_kept (λ x. in_mask c.args.newer.now.lbn c.args.newer.now.keep x && ltb x (c.args.newer.now.lbn + c.loop-i.i)) c.args.entries.now.items c.loop-i.entries.items b c.loop-i.invariant.0)

pub loop-i-preserved : goal.loop-i-preserved
loop-i-preserved c = (
  without_same _ (λ b. in_mask c.args.newer.now.lbn c.args.newer.now.keep b && ltb b (c.args.newer.now.lbn + (c.loop-i.i + 1))) (λ b. next_block c.args.newer.now.lbn c.args.newer.now.keep c.loop-i.i b) c.args.entries.now.items c.unhome_bit.new.entries.items
      (without_more (λ b. in_mask c.args.newer.now.lbn c.args.newer.now.keep b && ltb b (c.args.newer.now.lbn + c.loop-i.i)) (λ b. has_bit c.args.newer.now.keep c.loop-i.i && eqb b (c.args.newer.now.lbn + c.loop-i.i)) c.args.entries.now.items c.loop-i.entries.items c.unhome_bit.new.entries.items c.loop-i.invariant.0 c.unhome_bit.ensures.zip),
  c.unhome_bit.ensures.room ∙ c.loop-i.invariant.1,
)

pub returns-clause-zip : goal.returns-clause-zip
returns-clause-zip c = unhomed_from c.args.newer.now c.args.entries.now.items c.loop-i.entries.items
    (without_same (λ b. in_mask c.args.newer.now.lbn c.args.newer.now.keep b && ltb b (c.args.newer.now.lbn + c.loop-i.i)) (in_mask c.args.newer.now.lbn c.args.newer.now.keep)
    (λ b. all_blocks c.args.newer.now.lbn c.args.newer.now.keep c.args.newer.now.count c.loop-i.i b c.requires.keep_within (omega arith)) c.args.entries.now.items c.loop-i.entries.items c.loop-i.invariant.0)
