use Rattle.std.proofs.Common.{sym, subst, ap, ◌∙◌, inl, inr}
use Rattle.turn_lock.specs.LockIds.{LockId}
use Rattle.manager.specs.declared.base.ManagerBase.{ManagerBase}
use Rattle.request_turns.proofs.Taking.{home_at}
use Rattle.inspection.specs.Looks.{IsConfiguredBase}
use Rattle.inspection.proofs.Serving.{serves, known_part}
use Rattle.inspection.proofs.Looking.{is_note, has_looked}
use Rattle.inspection.proofs.turn.look.Goals as goal

pub append_asked-answer-requires-clause-at : goal.append_asked-answer-requires-clause-at
append_asked-answer-requires-clause-at g c = home_at _ _ _ _ _ _ _ c.enter-turn.ensures.same.0 c.enter-turn.ensures.value.keeps c.requires.base.at

pub append_asked-answer-requires-clause-serves : goal.append_asked-answer-requires-clause-serves
append_asked-answer-requires-clause-serves g c =
    let e = c.enter-turn.ensures in
    serves _ _ c.args.config.now c.args.shared.now _ _ _ e.value.keeps (subst (λ (l : LockId ManagerBase). IsConfiguredBase c.args.config.now c.args.shared.now l.base) (sym e.same.0) c.requires.base) c.args.volume
    (ap (λ (l : LockId ManagerBase). l.base.volume.began.owner) e.same.0 ∙ c.requires.volume)

pub leave_told-requires-clause-value : goal.leave_told-requires-clause-value
leave_told-requires-clause-value g c =
    let e = c.enter-turn.ensures in
    c.append_asked-answer.ensures.stands _ _ _ (e.same.1 ∙ c.requires.client) (is_note _ _ _ _) e.value.keeps

pub returns-clause-looks : goal.returns-clause-looks
returns-clause-looks g c =
    let e = c.enter-turn.ensures in let r = c.append_asked-answer.ensures in let l = c.leave_told.ensures in
    has_looked _ _ _ _ _ c.enter-turn.result.value c.append_asked-answer.new.manager c.args.pass.now c.enter-turn.new.pass _ _ _ _ e.same e.seen e.mine e.own e.value r.index (λ t. r.content t _ _ e.value.keeps) l.left l.broken r.failed r.down

pub returns-clause-known : goal.returns-clause-known
returns-clause-known g c p is =
    let e = c.enter-turn.ensures in let r = c.append_asked-answer.ensures in
    let s = r.stands _ _ _ (e.same.1 ∙ c.requires.client) (is_note _ _ _ _) e.value.keeps in
    known_part _ _ c.args.config.now c.args.shared.now _ _ _ s.keeps (subst (λ (l : LockId ManagerBase). IsConfiguredBase c.args.config.now c.args.shared.now l.base) (sym e.same.0) c.requires.base) p
    (elim is [
      | inl failed ↦ r.failed p failed
      | inr down ↦ r.down p down
    ])
