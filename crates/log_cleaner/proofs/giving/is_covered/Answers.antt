use Rattle.std.proofs.Common.{arith}
use Rattle.log_cleaner.proofs.Dropping.{below_all, below_more, below_none, none_of_none}
use Rattle.log_cleaner.proofs.giving.is_covered.Goals as goal

pub records-init : goal.records-init
records-init c = below_none c.args.lane c.args.segment c.args.index.now.entries

pub returns-in_default : goal.returns-in_default
returns-in_default c is = below_all c.args.lane c.args.segment c.records.from c.args.index.now.entries c.requires.unhomed c.args.ups.now c.requires.awake c.records.invariant c.in_default.ensures.none

pub records-preserved : goal.records-preserved
records-preserved c =
    below_more c.args.lane c.args.segment c.records.from c.args.index.now.entries c.requires.unhomed c.args.ups.now c.requires.awake c.records.invariant c.len.ensures.index c.in-Some.version c.in-Some.ensures.least
    (c.is_live_in.ensures c.if-is_live_in.false)

pub returns : goal.returns
returns c is = none_of_none c.args.lane c.args.segment c.args.index.now.entries (let l = c.len.ensures.value in let t = c.records-test.false in omega (arith, l, t))
