use Rattle.std.proofs.Common.{rules, ◌≡◌, ◌≤◌, ◌<◌, length, slice_set, arith, refl, sym, subst, get_or}
use Rattle.wol_model.specs.History.{helper}
use Rattle.request_turns.specs.Counts.{HasCounted}
use Rattle.turn_lock.specs.Passes.{IsPassAt}
use Rattle.request_turns.specs.Helped.{AreKept, ManagerLock, HasHelped}
use Rattle.request_turns.specs.Turns.{ManagerPass}
use Rattle.window_desks.proofs.Counted.{have_none, have_set}
use Rattle.window_desks.proofs.HelpTurn.{cause_set, step_helped, step_rest, step_all_kept, refused_before}
use Rattle.window_desks.proofs.helper.help_round.Goals as goal

pub help_one-some-requires-clause-pass : goal.help_one-some-requires-clause-pass
help_one-some-requires-clause-pass g c =
    let within : c.loop-k.k < length c.args.helpers.now = (let t = c.loop-k-test.true in let a = c.loop-k.auto.helpers in omega arith) in
    let same : c.loop-k.k ≤ c.loop-k.k = omega arith in
    rw (c.loop-k.invariant.rest c.loop-k.k c.index-helpers-k.result same)
    (subst (λ (l : ManagerLock g.row.D.Denot). IsPassAt l helper (get_or c.args.helpers.now c.loop-k.k c.index-helpers-k.result)) (sym c.index-locks-k.is)
    (c.requires.passes c.loop-k.k c.index-locks-k.result c.index-helpers-k.result within))

pub help_one-some-requires-clause-shared : goal.help_one-some-requires-clause-shared
help_one-some-requires-clause-shared g c =
    let within : c.loop-k.k < length c.args.helpers.now = (let t = c.loop-k-test.true in let a = c.loop-k.auto.helpers in omega arith) in
    let same : c.loop-k.k ≤ c.loop-k.k = omega arith in
    rw (c.loop-k.invariant.rest c.loop-k.k c.index-helpers-k.result same) (c.requires.shared c.loop-k.k c.index-helpers-k.result within)

pub loop-k-preserved : goal.loop-k-preserved
loop-k-preserved g c =
    let within : c.loop-k.k < length c.loop-k.helpers = (let t = c.loop-k-test.true in let a = c.loop-k.auto.helpers in omega arith) in
    let e = c.help_one-some.ensures in let i = c.loop-k.invariant in let at = c.index-helpers-k.is in
    let helped = subst (λ (x : ManagerPass g.row.D.Denot). HasHelped g.D.Disk.tells x c.help_one-some.new.pass) (sym at) e.helped in
    let same : length (slice_set c.loop-k.helpers c.loop-k.k c.help_one-some.new.pass) ≡ length c.loop-k.helpers = search rules in record {
      helped = step_helped _ c.args.helpers.now c.loop-k.helpers c.loop-k.k c.index-helpers-k.result c.help_one-some.new.pass within at helped i.rest i.helped;
      rest = step_rest _ c.args.helpers.now c.loop-k.helpers c.loop-k.k c.index-helpers-k.result c.help_one-some.new.pass within at helped i.rest;
      cause = cause_set _ c.loop-k.helpers c.loop-k.k c.index-helpers-k.result c.help_one-some.new.pass c.loop-k.help.fault c.help_one-some.new.help.fault within at helped i.cause e.fault same;
      all_kept = λ none. step_all_kept c.args.helpers.now c.loop-k.helpers c.loop-k.k c.index-helpers-k.result c.help_one-some.new.pass within at (subst (λ (x : ManagerPass g.row.D.Denot). AreKept x c.help_one-some.new.pass) (sym at) (e.all_kept none)) i.rest (i.all_kept (refused_before _ _ e.kept none));
      refused = λ none. i.refused (refused_before _ _ e.kept none);
      counted = have_set _ c.args.helpers.now c.loop-k.helpers c.loop-k.k c.index-helpers-k.result c.help_one-some.new.pass _ _ _ c.loop-k.auto.helpers within at i.rest i.counted (subst (λ (x : ManagerPass g.row.D.Denot). HasCounted g.D.Disk.tells c.loop-k.help.tally c.help_one-some.new.help.tally x c.help_one-some.new.pass) (sym at) e.counted);
    }

pub loop-k-init : goal.loop-k-init
loop-k-init g c = record { helped = λ j d h. absurd (omega (arith, h)); rest = λ j d h. refl; cause = c.requires.cause; all_kept = λ none j d h. absurd (omega (arith, h)); refused = λ none. none; counted = have_none _ c.args.helpers.now c.args.help.now.tally }

pub returns : goal.returns
returns g c = let i = c.loop-k.invariant in let t = c.loop-k-test.false in let a = c.loop-k.auto.helpers in
    record { helped = λ j d h. i.helped j d (omega (arith, h, t, a)); counted = i.counted; all_kept = λ none j d h. i.all_kept none j d (omega (arith, h, t, a)); refused = i.refused; cause = i.cause }
