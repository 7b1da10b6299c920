use Rattle.std.proofs.Common.{◌∙◌, Option, sym, ap, subst}
use Rattle.wol_model.specs.Extents.{newest}
use Rattle.wol_model.specs.Index.{Indexed}
use Rattle.block_cells.specs.Cells.{version_in}
use Rattle.redirect_map.specs.Index.{Contents, cover_at, IsAnswer}
use Rattle.redirect_map.proofs.Newest.{same_newest}
use Rattle.redirect_map.proofs.index.Index.newest_run.Goals as goal

pub returns-clause-run : goal.returns-clause-run
returns-clause-run c = λ b from to.
    let same = ap version_in (sym (c.self.invariant.1 c.args.lbn)) ∙ sym (c.run_length.ensures.same b from to) ∙ ap version_in (c.self.invariant.1 b) in
    let here = subst (λ (v : Contents). IsAnswer (newest cover_at v.entries c.args.lbn) c.newest.result) (sym c.self.view_is) c.newest.ensures in
    subst (λ (v : Contents). IsAnswer (newest cover_at v.entries b) c.newest.result) c.self.view_is
    (subst (λ (o : Option Indexed). IsAnswer o c.newest.result) (same_newest c.self.inside.entries.items c.args.lbn b c.self.invariant.0 same) here)
