use Rattle.std.proofs.Common.{nat_eq, ◌∙◌, arith}
use Rattle.std.specs.HashMap.{get}
use Rattle.redirect_map.specs.Marks.{mask_of}
use Rattle.redirect_map.proofs.Marked.{there_after, begun_next, begun_all}
use Rattle.redirect_map.proofs.marking.mark_blocks.Goals as goal

pub mark_bit-requires-clause-there : goal.mark_bit-requires-clause-there
mark_bit-requires-clause-there c = there_after c.args.entries.now.items (mask_of c.args.marks.now) (mask_of c.loop-i.marks) c.requires.there c.loop-i.invariant.more

pub loop-i-preserved : goal.loop-i-preserved
loop-i-preserved c = record {
  more = λ v i on. c.mark_bit.ensures.more v i (c.loop-i.invariant.more v i on);
  begun = λ b. begun_next c.args.covered c.args.entries.now.items (get nat_eq c.args.blocks.now) (mask_of c.loop-i.marks) (mask_of c.mark_bit.new.marks) c.args.first c.args.mask c.loop-i.i b
      c.mark_bit.ensures.more (c.loop-i.invariant.begun b) c.mark_bit.ensures.begun;
  room = c.mark_bit.ensures.room ∙ c.loop-i.invariant.room;
}

pub returns-clause-begun : goal.returns-clause-begun
returns-clause-begun c = λ b. begun_all c.args.covered c.args.entries.now.items (get nat_eq c.args.blocks.now) (mask_of c.loop-i.marks) c.args.first c.args.mask c.args.count c.loop-i.i b c.requires.mask (omega arith) (c.loop-i.invariant.begun b)
