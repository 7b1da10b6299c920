use Rattle.std.proofs.Common.{[], false, sym, subst, ◌∙◌}
use Rattle.turn_lock.specs.Passes.{pass_lock, pass_number}
use Rattle.manager.specs.Answers.{was_read}
use Rattle.request_turns.specs.Answered.{HasAnswered}
use Rattle.request_turns.specs.Tried.{CanBeAsked, HasReplied}
use Rattle.request_turns.specs.declared.outcome.Outcome.{Outcome}
use Rattle.request_turns.proofs.InPlace.{same_value, between, note_at, stands_at, left_from}
use Rattle.request_turns.proofs.ReadNotes.{read_note, has_read, read_blocks_, read_counted_, read_answered}
use Rattle.request_turns.proofs.Taking.{can_be_asked}
use Rattle.request_turns.proofs.read.read_turn.Goals as goal

pub change-answer-requires-clause-work : goal.change-answer-requires-clause-work
change-answer-requires-clause-work g c m at = let e = c.enter_in_place.ensures in let v = e.value in let s = v.2.keeps in let is = c.requires.within in
    let l = pass_lock c.args.pass.now in let k = pass_lock c.enter_in_place.new.pass in
    subst (CanBeAsked g.D.Disk.state c.args.shared.now c.args.request.now.lbn c.args.request.now.count) (same_value v.0 m.now c.enter_in_place.new.pass v.1 at)
    (can_be_asked c.args.shared.now _ _ v.0 l k _ e.same.0 s _ _ (record { at = c.requires.shared; some = is.some; few = is.few; fits = is.fits }))

pub leave_reply-requires-clause-value : goal.leave_reply-requires-clause-value
leave_reply-requires-clause-value g c = let e = c.enter_in_place.ensures in let v = e.value in let p = c.enter_in_place.new.pass in let i = c.change-answer.new.pass in let k = c.change-answer.ensures in let w = k.worked v.0 v.1 in
    let rq = c.args.request.now in let a = c.change-answer.result.0 in let out = c.change-answer.result.2.value.items in
    let t = between (HasReplied g.D.Disk.tells g.D.Disk.state rq.lbn rq.count a c.change-answer.result.1 out) _ _ v.0 w.0 w.1.shows w.1.leaves w.1.met in (
      w.0,
      w.2,
      stands_at p i k.same k.seen _ _ w.0 _ _ (note_at p i k.same k.seen w.0 w.2 (was_read rq.lbn out a) [] false)
          (t.stands _ _ _ (e.same.1 ∙ c.requires.pass.number_is) (read_note v.0 w.0 rq.lbn out a _ (pass_number p) v.2.look rq.count t.long t.look t.down t.unchanged) v.2.keeps),
    )

pub returns : goal.returns
returns g c = let e = c.enter_in_place.ensures in let v = e.value in let p = c.enter_in_place.new.pass in let i = c.change-answer.new.pass in let k = c.change-answer.ensures in let w = k.worked v.0 v.1 in
    let rq = c.args.request.now in let a = c.change-answer.result.0 in let out = c.change-answer.result.2.value.items in
    let t = between (HasReplied g.D.Disk.tells g.D.Disk.state rq.lbn rq.count a c.change-answer.result.1 out) _ _ v.0 w.0 w.1.shows w.1.leaves w.1.met in
    let l = c.leave_reply.ensures in
    let left = left_from p i k.same k.seen k.mine _ _ _ _ (note_at p i k.same k.seen w.0 w.2 (was_read rq.lbn out a) [] false) l.left in
    let h = has_read g.D.Disk.tells g.D.Disk.state v.0 w.0 rq.lbn out a p c.leave_reply.new.pass rq.count t.long v.2 t.look t.logged t.all t.down t.unchanged t.failed left (λ d down. l.broken w.0 d w.2 down) in
    record {
      answered = subst (λ (o : Outcome). HasAnswered g.D.Disk.tells rq o c.args.pass.now c.leave_reply.new.pass) (sym t.outcome_is)
          (read_answered _ rq out a c.args.pass.now _ c.requires.kind t.long (read_blocks_ _ _ out a c.args.pass.now p _ e.same e.seen e.mine e.own h));
      counted = read_counted_ _ _ out a c.args.pass.now p _ e.same e.seen e.mine e.own h;
    }
