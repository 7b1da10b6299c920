use Rattle.std.proofs.Common.{nat_eq, sym, ◌∙◌}
use Rattle.std.specs.HashMap.{get}
use Rattle.redirect_map.specs.Marks.{mask_of}
use Rattle.redirect_map.proofs.Marked.{begun_never, begun_not, begun_marked}
use Rattle.redirect_map.proofs.marking.mark_newest.Goals as goal

pub returns-in_default-get-clause-begun : goal.returns-in_default-get-clause-begun
returns-in_default-get-clause-begun c = begun_never c.args.covered c.args.entries.now.items (get nat_eq c.args.blocks.now) (mask_of c.args.marks.now) c.args.lbn c.in-Some.cell c.get.result c.requires.entries.rising
    (sym c.newest_of.ensures ∙ c.in-Some.is) c.get.ensures c.in_default-get.is

pub returns-then-not-starts-clause-begun : goal.returns-then-not-starts-clause-begun
returns-then-not-starts-clause-begun c = begun_not c.args.covered c.args.entries.now.items (get nat_eq c.args.blocks.now) (mask_of c.args.marks.now) c.args.lbn c.in-Some.cell c.in-Some-get.entry c.requires.entries.rising
    (sym c.newest_of.ensures ∙ c.in-Some.is) (sym c.in-Some-get.is ∙ c.get.ensures) (sym c.starts.ensures ∙ c.if-not-starts.true)

pub returns-clause-begun : goal.returns-clause-begun
returns-clause-begun c = begun_marked c.args.covered c.args.entries.now.items (get nat_eq c.args.blocks.now) (mask_of c.args.marks.now) (mask_of c.mark_going.new.marks) c.args.lbn c.in-Some.cell c.in-Some-get.entry c.requires.entries.rising
    (sym c.newest_of.ensures ∙ c.in-Some.is) (sym c.in-Some-get.is ∙ c.get.ensures) c.requires.there c.mark_going.ensures.going
