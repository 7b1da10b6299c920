use Rattle.std.proofs.Common.{nat_eq, sym, subst, arith}
use Rattle.std.specs.HashMap.{get}
use Rattle.redirect_map.specs.Index.{Contents, HasVersion}
use Rattle.redirect_map.specs.Listing.{place_in}
use Rattle.redirect_map.proofs.Answering.{is_there, wide, older_is}
use Rattle.redirect_map.proofs.Newest.{older_but_alone}
use Rattle.redirect_map.proofs.index.Index.older.Goals as goal

pub listed-requires-clause-there : goal.listed-requires-clause-there
listed-requires-clause-there c = subst (λ (v : Contents). HasVersion v.entries c.args.version) (sym c.self.view_is) c.requires

pub returns-then-one-live-eq0 : goal.returns-then-one-live-eq0
returns-then-one-live-eq0 c =
    let items = c.self.inside.entries.items in
    let at = c.listed.ensures.at in
    let range = c.listed.ensures.range in
    rw (← c.self.view_is) (older_but_alone items c.args.version (place_in c.args.version items) c.listed.result c.held_both-live.result.0 c.held_both-live.result.1 (get nat_eq c.self.inside.blocks) c.self.invariant.0 at c.self.invariant.1
    c.held_both-live.ensures.live c.held_both-live.ensures.alone (wide c.listed.result.record.keep c.listed.result.record.count range.keep_within range.count) (omega arith) (omega arith) c.if-one-live-eq0.true)

pub returns : goal.returns
returns c = rw (← c.self.view_is) (older_is c.self.inside.entries.items c.args.version (place_in c.args.version c.self.inside.entries.items) c.listed.result c.kept_before.result c.self.invariant.0
    c.listed.ensures.at c.kept_before.ensures)

pub kept_before-requires : goal.kept_before-requires
kept_before-requires c = is_there c.self.inside.entries.items c.args.version (subst (λ (v : Contents). HasVersion v.entries c.args.version) (sym c.self.view_is) c.requires)
