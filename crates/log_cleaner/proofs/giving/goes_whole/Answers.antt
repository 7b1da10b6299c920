use Rattle.std.proofs.Common.{sym, ◌∙◌}
use Rattle.manager.proofs.Entries.{found_of}
use Rattle.log_cleaner.proofs.Dropping.{awake_of, covered_for, is_there}
use Rattle.log_cleaner.proofs.Marking.{unmarked_none}
use Rattle.log_cleaner.proofs.giving.goes_whole.Goals as goal

pub returns-then-not-is_marked-clause-there : goal.returns-then-not-is_marked-clause-there
returns-then-not-is_marked-clause-there c is = is_there c.args.index.now.entries c.args.version c.in-Some.record (found_of c.args.index.now.entries c.args.version c.in-Some.record c.in-Some.ensures.value)

pub returns-then-not-is_marked-clause-covered : goal.returns-then-not-is_marked-clause-covered
returns-then-not-is_marked-clause-covered c is =
    covered_for c.args.index.now.entries c.args.version c.in-Some.record (found_of c.args.index.now.entries c.args.version c.in-Some.record c.in-Some.ensures.value)
    (unmarked_none c.args.marks.now c.args.index.now.entries c.in-Some.record.lane c.in-Some.record.segment c.requires.marked (sym c.is_marked.ensures ∙ c.if-not-is_marked.true))

pub is_covered-requires-clause-awake : goal.is_covered-requires-clause-awake
is_covered-requires-clause-awake c =
    awake_of c.args.index.now.entries c.args.version c.in-Some.record (found_of c.args.index.now.entries c.args.version c.in-Some.record c.in-Some.ensures.value) c.in-Some.ensures.index c.args.ups.now c.requires.awake

pub returns-clause-there : goal.returns-clause-there
returns-clause-there c is = is_there c.args.index.now.entries c.args.version c.in-Some.record (found_of c.args.index.now.entries c.args.version c.in-Some.record c.in-Some.ensures.value)

pub returns-clause-covered : goal.returns-clause-covered
returns-clause-covered c is =
    covered_for c.args.index.now.entries c.args.version c.in-Some.record (found_of c.args.index.now.entries c.args.version c.in-Some.record c.in-Some.ensures.value) (c.is_covered.ensures is)
