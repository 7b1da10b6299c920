use Rattle.std.proofs.Common.{◌∙◌, not, sym, ap}
use Rattle.std.proofs.lemmas.Bool.{eq-eqb, ne_eqb}
use Rattle.redirect_map.proofs.Listing.{none_listed, some_listed, dead_unlisted}
use Rattle.redirect_map.proofs.list.Entries.get.Goals as goal

pub returns-in_err-entry : goal.returns-in_err-entry
returns-in_err-entry c = rw (← c.self.view_is, c.from_residual.ensures) (sym (none_listed c.self.inside.places.items c.args.version (sym c.with_version.ensures ∙ c.in_err-entry.was)))

pub returns-then-entry-eq0 : goal.returns-then-entry-eq0
returns-then-entry-eq0 c = rw (← c.self.view_is) (sym (dead_unlisted c.self.inside.places.items c.args.version c.in_ok-entry.entry c.self.invariant.rising (sym c.with_version.ensures ∙ c.in_ok-entry.was)
    (ap not (eq-eqb c.in_ok-entry.entry.record.keep 0 c.if-entry-eq0.true))))

pub returns : goal.returns
returns c = rw (← c.self.view_is) (sym (some_listed c.self.inside.places.items c.args.version c.in_ok-entry.entry (sym c.with_version.ensures ∙ c.in_ok-entry.was)
    (ap not (ne_eqb c.in_ok-entry.entry.record.keep 0 c.if-entry-eq0.false))))
