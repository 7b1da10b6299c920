use Rattle.std.proofs.Common.{nat_eq, None}
use Rattle.std.specs.HashMap.{get}
use Rattle.redirect_map.specs.Marks.{mask_of}
use Rattle.redirect_map.proofs.Marked.{first_sought}
use Rattle.redirect_map.proofs.index.Index.first.Goals as goal

pub returns-then-not-may_have : goal.returns-then-not-may_have
returns-then-not-may_have c = rw (← c.self.view_is) (first_sought c.args.sought c.self.inside.entries.items (get nat_eq c.self.inside.blocks) (mask_of c.self.inside.marks) c.args.lanes.now c.all_lanes.result c.args.from None
    c.self.invariant.0 c.self.invariant.1 c.self.invariant.2 (λ lane on. c.all_lanes.ensures lane) tt tt (λ w from. c.may_have.ensures c.if-not-may_have.true w))

pub returns : goal.returns
returns c = rw (← c.self.view_is) (first_sought c.args.sought c.self.inside.entries.items (get nat_eq c.self.inside.blocks) (mask_of c.self.inside.marks) c.args.lanes.now c.lanes_mask.result c.args.from c.first.result
    c.self.invariant.0 c.self.invariant.1 c.self.invariant.2 c.lanes_mask.ensures c.first.ensures.found c.first.ensures.least c.first.ensures.none)
