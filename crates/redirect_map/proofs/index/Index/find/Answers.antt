use Rattle.std.proofs.Common.{refl, ◌∙◌, ap, sym}
use Rattle.std.specs.List.{find}
use Rattle.redirect_map.specs.Kept.{is_version}
use Rattle.redirect_map.proofs.Answering.{find_none, find_some, index_is}
use Rattle.redirect_map.proofs.index.Index.find.Goals as goal

pub returns-in_err-entry-clause-value : goal.returns-in_err-entry-clause-value
returns-in_err-entry-clause-value c = rw (← c.self.view_is, c.from_residual.ensures) (find_none c.self.inside.entries.items c.args.version (ap (find (is_version c.args.version)) (sym refl) ∙ sym c.get.ensures ∙ c.in_err-entry.was))

pub returns-in_err-entry-clause-index : goal.returns-in_err-entry-clause-index
returns-in_err-entry-clause-index c = rw (← c.self.view_is) (index_is c.self.inside.entries.items c.self.invariant.0)

pub returns-clause-value : goal.returns-clause-value
returns-clause-value c = rw (← c.self.view_is) (find_some c.self.inside.entries.items c.args.version c.in_ok-entry.entry c.self.invariant.0 (ap (find (is_version c.args.version)) (sym refl) ∙ sym c.get.ensures ∙ c.in_ok-entry.was))

pub returns-clause-index : goal.returns-clause-index
returns-clause-index c = rw (← c.self.view_is) (index_is c.self.inside.entries.items c.self.invariant.0)
