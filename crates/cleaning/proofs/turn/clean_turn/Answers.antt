use Rattle.std.proofs.Common.{sym, ap, ◌∙◌}
use Rattle.turn_lock.specs.LockIds.{LockId}
use Rattle.manager.specs.declared.base.ManagerBase.{ManagerBase}
use Rattle.request_turns.proofs.Taking.{home_at}
use Rattle.cleaning.proofs.Turning.{has_cleaned, stands_then}
use Rattle.cleaning.proofs.turn.clean_turn.Goals as goal

pub clean_within-done-requires-clause-at : goal.clean_within-done-requires-clause-at
clean_within-done-requires-clause-at g c = home_at _ _ _ _ _ _ _ c.enter-turn.ensures.same.0 c.enter-turn.ensures.value.keeps c.requires.at

pub clean_within-done-requires-clause-most : goal.clean_within-done-requires-clause-most
clean_within-done-requires-clause-most g c =
    let e = c.enter-turn.ensures in
    sym (e.value.keeps.locks.most_ ∙ ap (λ (l : LockId ManagerBase). l.base.volume.began.most) e.same.0 ∙ c.requires.most)

pub leave_cleaned-requires-clause-value : goal.leave_cleaned-requires-clause-value
leave_cleaned-requires-clause-value g c =
    let e = c.enter-turn.ensures in
    stands_then _ _ c.args.most c.enter-turn.result.value c.clean_within-done.new.m c.args.pass.now c.enter-turn.new.pass _ _ c.clean_within-done.ensures.did e.same c.requires.client e.value

pub returns : goal.returns
returns g c =
    let e = c.enter-turn.ensures in record {
      cleans = has_cleaned _ _ c.args.most c.enter-turn.result.value c.clean_within-done.new.m c.args.pass.now c.enter-turn.new.pass _ _ c.clean_within-done.ensures.did e.same c.requires.client e.value _ e.seen e.mine e.own c.leave_cleaned.ensures.left;
    }
