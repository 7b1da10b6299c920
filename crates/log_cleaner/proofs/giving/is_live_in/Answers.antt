use Rattle.std.proofs.Common.{subst}
use Rattle.redirect_map.specs.Index.{IsAnswer, entry_at}
use Rattle.manager.proofs.Entries.{found_of}
use Rattle.log_cleaner.specs.Steps.{HasNoneLiveIn}
use Rattle.log_cleaner.proofs.Dropping.{is_there, live_zero, no_record, none_live}
use Rattle.log_cleaner.proofs.giving.is_live_in.Goals as goal

pub returns-in_default : goal.returns-in_default
returns-in_default c is = no_record c.args.index.now.entries c.args.version (HasNoneLiveIn c.args.lane c.args.segment c.args.index.now.entries) (subst (IsAnswer (entry_at c.args.index.now.entries c.args.version)) c.in_default.is c.find.ensures.value)

pub live-requires : goal.live-requires
live-requires c = is_there c.args.index.now.entries c.args.version c.in-Some.record (found_of c.args.index.now.entries c.args.version c.in-Some.record c.in-Some.ensures.value)

pub returns : goal.returns
returns c is = none_live c.args.index.now.entries c.args.version c.in-Some.record (found_of c.args.index.now.entries c.args.version c.in-Some.record c.in-Some.ensures.value) c.args.lane c.args.segment c.live.result (live_zero c.live.result is) c.live.ensures
