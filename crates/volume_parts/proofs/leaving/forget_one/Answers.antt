use Rattle.std.proofs.Common.{sym, subst, ◌∙◌}
use Rattle.redirect_map.specs.Index.{IsAnswer, entry_at}
use Rattle.volume_parts.proofs.Entries.{found_of}
use Rattle.volume_parts.proofs.Forgetting.{all_goes, keeps_some, none_answered, one_counted, one_gone, one_none, one_past}
use Rattle.volume_parts.proofs.leaving.forget_one.Goals as goal

pub returns-in_default-clause-gone : goal.returns-in_default-clause-gone
returns-in_default-clause-gone c =
    one_none c.args.lane c.args.segment c.args.version c.args.index.now.entries (none_answered c.args.index.now.entries c.args.version (subst (IsAnswer (entry_at c.args.index.now.entries c.args.version)) c.in_default.is c.find.ensures.value))

pub trim-requires-clause-some : goal.trim-requires-clause-some
trim-requires-clause-some c =
    keeps_some c.args.lane c.args.segment c.args.version c.args.index.now.entries c.in-Some.record (found_of c.args.index.now.entries c.args.version c.in-Some.record c.in-Some.ensures.value) c.in-Some.ensures.index
    (sym c.lies_in.ensures ∙ c.if-not-lies_in.false) c.requires.goes

pub trim-requires-clause-goes : goal.trim-requires-clause-goes
trim-requires-clause-goes c =
    all_goes c.args.lane c.args.segment c.args.version c.args.index.now.entries c.in-Some.record (found_of c.args.index.now.entries c.args.version c.in-Some.record c.in-Some.ensures.value) c.in-Some.ensures.index
    (sym c.lies_in.ensures ∙ c.if-not-lies_in.false) c.requires.goes

pub returns-then-not-lies_in-clause-gone : goal.returns-then-not-lies_in-clause-gone
returns-then-not-lies_in-clause-gone c =
    one_past c.args.lane c.args.segment c.args.version c.args.index.now.entries c.in-Some.record (found_of c.args.index.now.entries c.args.version c.in-Some.record c.in-Some.ensures.value) c.in-Some.ensures.index
    (sym c.lies_in.ensures ∙ c.if-not-lies_in.true)

pub returns-clause-gone : goal.returns-clause-gone
returns-clause-gone c =
    one_gone c.args.lane c.args.segment c.args.version c.args.index.now.entries c.in-Some.record (found_of c.args.index.now.entries c.args.version c.in-Some.record c.in-Some.ensures.value) c.in-Some.ensures.index
    (sym c.lies_in.ensures ∙ c.if-not-lies_in.false) c.requires.goes c.trim.new.self.entries c.trim.ensures.entries

pub returns-clause-counted : goal.returns-clause-counted
returns-clause-counted c =
    one_counted c.args.lane c.args.segment c.args.version c.args.index.now.entries c.in-Some.record (found_of c.args.index.now.entries c.args.version c.in-Some.record c.in-Some.ensures.value) c.in-Some.ensures.index
    (sym c.lies_in.ensures ∙ c.if-not-lies_in.false) c.requires.goes c.trim.new.self.entries c.trim.ensures.entries
