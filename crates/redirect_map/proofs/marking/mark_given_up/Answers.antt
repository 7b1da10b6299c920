use Rattle.std.proofs.Common.{nat_eq, arith}
use Rattle.std.specs.Int.{bit_not, w128}
use Rattle.std.proofs.lemmas.Nat.{and_le_l}
use Rattle.std.specs.HashMap.{get}
use Rattle.redirect_map.specs.Marks.{mask_of}
use Rattle.redirect_map.proofs.Marked.{begun_unhomed}
use Rattle.redirect_map.proofs.Dues.{begun_else}
use Rattle.redirect_map.proofs.marking.mark_given_up.Goals as goal

pub returns-then-not-homes-clause-begun : goal.returns-then-not-homes-clause-begun
returns-then-not-homes-clause-begun c = λ b on. begun_unhomed c.args.entries.now.items (get nat_eq c.args.blocks.now) (mask_of c.args.marks.now) b (c.requires.homes c.if-not-homes.true)

pub mark_blocks-requires-clause-mask : goal.mark_blocks-requires-clause-mask
mark_blocks-requires-clause-mask c = let less = and_le_l c.args.mask (bit_not w128 c.args.alone) in omega (arith, less, c.requires.mask)

pub returns-clause-begun : goal.returns-clause-begun
returns-clause-begun c = λ b on. begun_else c.args.entries.now.items (get nat_eq c.args.blocks.now) (mask_of c.mark_blocks.new.marks) c.args.one.now.lbn c.args.mask c.args.alone b (omega arith) (omega arith)
    c.requires.alone (c.mark_blocks.ensures.begun b) on
