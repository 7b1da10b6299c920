use Rattle.std.proofs.Common.{◌∙◌, refl, sym, subst}
use Rattle.std.specs.Prelude.{is_ok}
use Rattle.turn_lock.specs.Passes.{pass_lock}
use Rattle.manager.specs.Answers.{written}
use Rattle.wol_promise.specs.Policy.{Look}
use Rattle.wol_promise.specs.Ruled.{last_look}
use Rattle.request_turns.specs.Counts.{IsTakenOff}
use Rattle.request_turns.specs.Turns.{notes_seen}
use Rattle.request_turns.proofs.DrainNotes.{drain_stands, has_drained}
use Rattle.request_turns.proofs.InPlace.{look_at, next_at, note_at, stands_at, left_from}
use Rattle.request_turns.proofs.drain.write_home.Goals as goal

pub write_in_place-answer-requires-clause-value : goal.write_in_place-answer-requires-clause-value
write_in_place-answer-requires-clause-value g c = let v = c.requires.refused.value in (v.0, v.1, _, v.3)

pub leave_written-requires-clause-value : goal.leave_written-requires-clause-value
leave_written-requires-clause-value g c = let v = c.requires.refused.value in let k = c.write_in_place-answer.ensures in let w = k.tried v.0 v.1 in let a = c.write_in_place-answer.result in let t = w.2 in (
  w.0,
  w.1,
  stands_at c.args.pass.now c.write_in_place-answer.new.pass k.same k.seen _ _ w.0 _ _ (note_at c.args.pass.now c.write_in_place-answer.new.pass k.same k.seen w.0 w.1 (written g.B.Memo.next c.args.lbn c.args.from.now a) g.B.Memo.note.passed (is_ok a))
      (drain_stands v.0 w.0 c.args.lbn c.args.from.now _ _ _ _ (sym (look_at v.0 c.args.pass.now v.1) ∙ c.requires.bare) c.requires.refused.full _ _ _ _ _ _ a refl c.requires.client (c.requires.next ∙ next_at v.0 c.args.pass.now v.1) c.requires.refused.kept refl t.placed t.look t.stands v.3),
)

pub returns : goal.returns
returns g c = let v = c.requires.refused.value in let k = c.write_in_place-answer.ensures in let w = k.tried v.0 v.1 in let a = c.write_in_place-answer.result in let l = c.leave_written.ensures in let t = w.2 in
    let left = left_from c.args.pass.now c.write_in_place-answer.new.pass k.same k.seen k.mine _ _ _ _
    (note_at c.args.pass.now c.write_in_place-answer.new.pass k.same k.seen w.0 w.1 (written g.B.Memo.next c.args.lbn c.args.from.now a) g.B.Memo.note.passed (is_ok a)) l.left in
    let done = subst (λ (x : Look). IsTakenOff c.args.done (last_look (pass_lock c.args.pass.now).base.volume.began.look (notes_seen c.args.pass.now)) x) (look_at v.0 c.args.pass.now v.1) c.requires.done in
    rw c.outcome_of.ensures (has_drained _ g.D.Disk.state v.0 w.0 c.args.lbn c.args.from.now _ _ _ a c.args.pass.now _ c.args.done _ _ _ c.has_broken.ensures done c.add_unless.ensures.done c.add_unless.ensures.failed c.requires.refused.takes v.2
    (sym (look_at v.0 c.args.pass.now v.1) ∙ c.requires.bare) c.requires.refused.full t.placed t.look t.down t.versions t.fault left (λ d down. l.broken w.0 d w.1 down) (λ up broken. l.unbroken w.0 w.1 up broken))
