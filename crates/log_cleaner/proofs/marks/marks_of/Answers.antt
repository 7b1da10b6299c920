use Rattle.std.proofs.Common.{arith}
use Rattle.log_cleaner.specs.Marks.{mark_of}
use Rattle.log_cleaner.proofs.Marking.{all_marked, marked_all, marked_more}
use Rattle.log_cleaner.proofs.marks.marks_of.Goals as goal

pub returns-in_default : goal.returns-in_default
returns-in_default c = marked_all c.records.marks c.records.from c.args.index.now.entries c.requires.unhomed c.args.ups.now c.requires.awake c.records.invariant c.in_default.ensures.none

pub returns-then-version-ge-END : goal.returns-then-version-ge-END
returns-then-version-ge-END c = all_marked c.set_all.new.marks c.args.index.now.entries (λ lane index. c.set_all.ensures (mark_of lane index) (omega arith))

pub records-preserved : goal.records-preserved
records-preserved c =
    marked_more c.records.marks c.records.from c.args.index.now.entries c.requires.unhomed c.args.ups.now c.requires.awake c.records.invariant c.mark.ensures.index c.in-Some.version c.in-Some.ensures.least
    c.mark.new.marks c.mark.ensures.kept c.mark.ensures.marked
