use Rattle.std.proofs.Common.{refl}
use Rattle.request_turns.proofs.Gaining.{kept_none}
use Rattle.window_desks.proofs.Counted.{have_none}
use Rattle.request_workers.proofs.hands.help_in.Goals as goal

pub help-requires-clause-passes : goal.help-requires-clause-passes
help-requires-clause-passes g c = rw c.as_mut_slice.ensures.value c.requires.passes

pub returns-in-Off-clause-helped : goal.returns-in-Off-clause-helped
returns-in-Off-clause-helped g c = let f = c.args.floor.now in
    record { count = refl; helped = rw c.in-Off.is refl; counted = have_none _ f.helpers.items f.help.tally; all_kept = λ none k d h. kept_none _; cause = c.requires.cause; only = refl }

pub returns-in-Between-clause-helped : goal.returns-in-Between-clause-helped
returns-in-Between-clause-helped g c = let f = c.args.floor.now in
    record { count = refl; helped = rw c.in-Between.is refl; counted = have_none _ f.helpers.items f.help.tally; all_kept = λ none k d h. kept_none _; cause = c.requires.cause; only = refl }
