use Rattle.std.proofs.Common.{nat_eq, refl}
use Rattle.std.specs.HashMap.{get}
use Rattle.redirect_map.proofs.Marked.{marked_beneath}
use Rattle.redirect_map.proofs.marking.mask_under.Goals as goal

pub returns-then-is_under : goal.returns-then-is_under
returns-then-is_under c = marked_beneath (get nat_eq c.args.blocks.now) c.record_mask.result c.args.newer.now.version c.args.entry.now c.if-entry-newer.true (λ b on. c.requires.newer b (c.is_under.ensures c.if-is_under.true b on))
    c.record_mask.ensures.there (c.record_mask.ensures.going refl)
