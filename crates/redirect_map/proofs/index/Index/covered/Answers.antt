use Rattle.std.proofs.Common.{refl, ◌∙◌, ap, nat_eq}
use Rattle.std.specs.HashMap.{get}
use Rattle.std.specs.List.{list_any, range_with_len}
use Rattle.redirect_map.specs.Kept.{keeps}
use Rattle.redirect_map.proofs.Answering.{covered_is}
use Rattle.redirect_map.proofs.Newest.{covered_cells}
use Rattle.redirect_map.proofs.index.Index.covered.Goals as goal

pub returns-then-count-len : goal.returns-then-count-len
returns-then-count-len c = rw (← c.self.view_is) (c.any_covered.ensures ∙ covered_cells c.self.inside.entries.items (get nat_eq c.self.inside.blocks) (range_with_len c.args.lbn c.args.count) c.self.invariant.0 c.self.invariant.1)

pub returns-else-lbn : goal.returns-else-lbn
returns-else-lbn c = rw (← c.self.view_is) (c.any_meets.ensures ∙ ap (list_any (λ e. list_any (keeps e) (range_with_len c.args.lbn c.args.count))) refl ∙ covered_is c.self.inside.entries.items (range_with_len c.args.lbn c.args.count) c.self.invariant.0.ranges)
