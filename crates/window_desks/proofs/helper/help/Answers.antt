use Rattle.window_desks.proofs.Counted.{have_none}
use Rattle.window_desks.proofs.HelpTurn.{all_kept_none, are_helped_none, passes_free, passes_helped}
use Rattle.window_desks.proofs.Rounds.{rounds_both}
use Rattle.window_desks.proofs.helper.help.Goals as goal

pub loop-init : goal.loop-init
loop-init g c = record { helped = are_helped_none _ _ (passes_free c.args.locks.now _ _ c.requires.passes c.requires.count); cause = c.requires.cause; all_kept = all_kept_none c.args.helpers.now c.args.help.now.fault; refused = λ none. none; counted = have_none _ c.args.helpers.now c.args.help.now.tally }

pub help_round-requires-clause-passes : goal.help_round-requires-clause-passes
help_round-requires-clause-passes g c = passes_helped c.args.locks.now _ _ c.requires.passes _ _ c.loop.auto.helpers c.loop.invariant.helped

pub loop-preserved : goal.loop-preserved
loop-preserved g c = rounds_both _ _ _ _ _ _ _ c.loop.auto.helpers c.help_round.auto.helpers c.loop.invariant c.help_round.ensures

pub returns-then-not-help_round : goal.returns-then-not-help_round
returns-then-not-help_round g c = let r = rounds_both _ _ _ _ _ _ _ c.loop.auto.helpers c.help_round.auto.helpers c.loop.invariant c.help_round.ensures in
    record { helped = r.helped; counted = r.counted; all_kept = r.all_kept; refused = r.refused; cause = r.cause }
