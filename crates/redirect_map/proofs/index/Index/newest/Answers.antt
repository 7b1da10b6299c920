use Rattle.std.proofs.Common.{refl, ◌∙◌, ap, sym, find}
use Rattle.redirect_map.specs.Kept.{is_version}
use Rattle.redirect_map.proofs.Newest.{answer_none, answer_some, answer_never}
use Rattle.redirect_map.proofs.index.Index.newest.Goals as goal

pub returns-in_err-cell : goal.returns-in_err-cell
returns-in_err-cell c = rw (← c.self.view_is, c.from_residual.ensures) (answer_none c.self.inside.entries.items c.args.lbn c.self.invariant.0 (sym (c.self.invariant.1 c.args.lbn) ∙ sym c.newest_of.ensures ∙ c.in_err-cell.was))

pub returns-in_err-entry : goal.returns-in_err-entry
returns-in_err-entry c = absurd (answer_never c.self.inside.entries.items c.args.lbn c.in_ok-cell.cell c.self.invariant.0 (sym (c.self.invariant.1 c.args.lbn) ∙ sym c.newest_of.ensures ∙ c.in_ok-cell.was)
    (ap (find (is_version c.in_ok-cell.cell.version)) (sym refl) ∙ sym c.get.ensures ∙ c.in_err-entry.was))

pub returns : goal.returns
returns c = rw (← c.self.view_is) (answer_some c.self.inside.entries.items c.args.lbn c.in_ok-cell.cell c.in_ok-entry.entry c.self.invariant.0 (sym (c.self.invariant.1 c.args.lbn) ∙ sym c.newest_of.ensures ∙ c.in_ok-cell.was)
    (ap (find (is_version c.in_ok-cell.cell.version)) (sym refl) ∙ sym c.get.ensures ∙ c.in_ok-entry.was))
