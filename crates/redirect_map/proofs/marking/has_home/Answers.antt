use Rattle.std.proofs.Common.{◌∙◌, ◌+◌, ◌≡◌, ap, arith}
use Rattle.block_cells.specs.Masks.{in_mask}
use Rattle.block_cells.proofs.Bits.{lowest}
use Rattle.redirect_map.proofs.marking.has_home.Goals as goal

pub returns : goal.returns
returns c =
    let start : c.args.lbn + 0 ≡ c.args.lbn = omega arith in
    lowest c.moved.result ∙ c.moved.ensures 0 ∙ ap (in_mask c.args.entry.now.record.lbn c.args.entry.now.homed) start
