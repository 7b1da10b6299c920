use Rattle.std.proofs.Common.{◌∙◌}
use Rattle.std.proofs.lemmas.Option.{slice_get-get_or}
use Rattle.manager_recovery.proofs.Filled.{filled_more, newest_yet}
use Rattle.manager_recovery.proofs.filling.fill_index.Goals as goal

pub add-requires-clause-newest : goal.add-requires-clause-newest
add-requires-clause-newest c =
    newest_yet c.args.listed.now c.loop-one.one-index _ c.reserve.new.self.entries (slice_get-get_or c.args.listed.now c.loop-one.one-index _ c.loop-one-test.true) c.requires.rising
    (c.reserve.ensures.unchanged ∙ c.loop-one.invariant)

pub loop-one-preserved : goal.loop-one-preserved
loop-one-preserved c =
    filled_more c.args.listed.now c.loop-one.one-index _ c.reserve.new.self.entries c.add.new.self.entries (slice_get-get_or c.args.listed.now c.loop-one.one-index _ c.loop-one-test.true)
    (c.reserve.ensures.unchanged ∙ c.loop-one.invariant) c.add.ensures.entries
