use Rattle.std.proofs.Common.{[], ◌≡◌, ◌<◌, false, refl, ap, subst, ◌∙◌, ℕ, Ok, Result, arith}
use Rattle.std.proofs.lemmas.Bool.{ltb-false, ltb-true}
use Rattle.reclaimer.specs.Fetches.{HasData}
use Rattle.manager.specs.Seen.{look_of_manager}
use Rattle.manager.specs.declared.part.StepFault.{StepFault}
use Rattle.reclaimer.specs.Counts.{CountsPut}
use Rattle.turn_lock.specs.Passes.{pass_number}
use Rattle.request_turns.specs.Entries.{note_of, step_operation, has_failed}
use Rattle.request_turns.proofs.Counting.{counted_turn}
use Rattle.request_turns.proofs.HelpNotes.{put_keep, help_stands, has_helped, step_kept, same_counted, data_in, down_at, done_counted, refused_counted}
use Rattle.request_turns.proofs.HelpTold.{same_put, nothing_put, put_lowers, some_taken}
use Rattle.request_turns.proofs.Taking.{home_at}
use Rattle.request_turns.proofs.help.put_turn.Goals as goal

pub put_home-answer-requires-clause-at : goal.put_home-answer-requires-clause-at
put_home-answer-requires-clause-at g c = home_at _ _ _ _ _ _ _ c.enter-turn.ensures.same.0 c.enter-turn.ensures.value.keeps c.requires.shared

pub leave_step-requires-clause-turn : goal.leave_step-requires-clause-turn
leave_step-requires-clause-turn g c = let e = c.enter-turn.ensures in record { own = e.same.0 ∙ c.requires.pass.own; turn = e.turn }

pub leave_step-requires-clause-value : goal.leave_step-requires-clause-value
leave_step-requires-clause-value g c = let r = c.put_home-answer.ensures in let e = c.enter-turn.ensures in
    help_stands _ _ c.enter-turn.result.value c.put_home-answer.new.m _ _ _ c.put_home-answer.result _ c.has_failed.ensures (HasData g.D.Disk.tells c.args.room.now) (data_in _ c.args.room.now _ _ e.same e.seen c.requires.data) r.keeps r.broke
    (put_keep c.enter-turn.result.value c.put_home-answer.new.m _ c.put_home-answer.result (e.same.1 ∙ c.requires.pass.number_is) r.look) e.value

pub returns-in-Ok-clause-helped : goal.returns-in-Ok-clause-helped
returns-in-Ok-clause-helped g c = let e = c.enter-turn.ensures in has_helped _ _ _ _ _ _ e.same e.seen e.mine e.own c.leave_step.ensures.left

pub returns-in-Err-clause-helped : goal.returns-in-Err-clause-helped
returns-in-Err-clause-helped g c = let e = c.enter-turn.ensures in has_helped _ _ _ _ _ _ e.same e.seen e.mine e.own c.leave_step.ensures.left

pub returns-in-Err-clause-cause : goal.returns-in-Err-clause-cause
returns-in-Err-clause-cause g c = c.leave_step.ensures.broken _ (down_at g.D.Disk.state c.enter-turn.result.value c.put_home-answer.new.m c.put_home-answer.result c.in-Err.fault c.in-Err.is c.put_home-answer.ensures.fault)

pub returns-in-Ok-clause-counted : goal.returns-in-Ok-clause-counted
returns-in-Ok-clause-counted g c = let e = c.enter-turn.ensures in let i = c.enter-turn.new.pass in let l = look_of_manager c.enter-turn.result.value in let m = look_of_manager c.put_home-answer.new.m in
    counted_turn _ _ i _ (note_of (pass_number i) (step_operation c.has_failed.result) m [] false) l c.args.tally.now c.count.new.self e.same e.seen e.mine e.own c.leave_step.ensures.left refl e.value.look
    (done_counted ℕ l m (pass_number i) c.in-Ok.blocks c.has_failed.result c.in-Ok.blocks 0 c.args.tally.now c.count.new.self (c.has_failed.ensures ∙ ap has_failed c.in-Ok.is) (subst (λ (a : Result ℕ StepFault). CountsPut a l m) c.in-Ok.is c.put_home-answer.ensures.counted) c.count.ensures)

pub returns-in-Err-clause-counted : goal.returns-in-Err-clause-counted
returns-in-Err-clause-counted g c = let e = c.enter-turn.ensures in let i = c.enter-turn.new.pass in let l = look_of_manager c.enter-turn.result.value in let m = look_of_manager c.put_home-answer.new.m in
    counted_turn _ _ i _ (note_of (pass_number i) (step_operation c.has_failed.result) m [] false) l c.args.tally.now c.args.tally.now e.same e.seen e.mine e.own c.leave_step.ensures.left refl e.value.look
    (refused_counted ℕ l m (pass_number i) c.in-Err.fault c.has_failed.result c.args.tally.now (c.has_failed.ensures ∙ ap has_failed c.in-Err.is) (subst (λ (a : Result ℕ StepFault). CountsPut a l m) c.in-Err.is c.put_home-answer.ensures.counted))

pub returns-in-Ok-clause-kept : goal.returns-in-Ok-clause-kept
returns-in-Ok-clause-kept g c = step_kept _ _ c.enter-turn.new.pass _ _ _ c.put_home-answer.result _ c.in-Ok.is c.has_failed.ensures c.enter-turn.ensures.mine c.leave_step.ensures.left

pub returns-in-Ok-clause-nothing : goal.returns-in-Ok-clause-nothing
returns-in-Ok-clause-nothing g c is = let e = c.enter-turn.ensures in let r = c.put_home-answer.ensures in let i = c.enter-turn.new.pass in let old = c.enter-turn.result.value in let new = c.put_home-answer.new.m in
    let few = ltb-false 0 c.in-Ok.blocks (cc is) in let zero : c.in-Ok.blocks ≡ 0 = omega (arith, few) in (
      (λ t. counted_turn _ _ i _ (note_of (pass_number i) (step_operation c.has_failed.result) (look_of_manager new) [] false) (look_of_manager old) t t e.same e.seen e.mine e.own c.leave_step.ensures.left refl e.value.look
          (same_counted {T = ℕ} (look_of_manager old) (look_of_manager new) (pass_number i) c.has_failed.result t (Ok c.in-Ok.blocks) (c.has_failed.ensures ∙ ap has_failed c.in-Ok.is) (same_put old new c.put_home-answer.result c.in-Ok.blocks c.in-Ok.is zero r.look))),
      nothing_put _ old new _ _ c.has_failed.result c.leave_step.ensures.left c.put_home-answer.result c.in-Ok.blocks c.args.room.now c.in-Ok.is zero r.look (r.none.0 (c.in-Ok.is ∙ ap Ok zero)).1,
    )

pub returns-in-Ok-clause-some : goal.returns-in-Ok-clause-some
returns-in-Ok-clause-some g c is = let e = c.enter-turn.ensures in let r = c.put_home-answer.ensures in let i = c.enter-turn.new.pass in let old = c.enter-turn.result.value in let new = c.put_home-answer.new.m in
    let some = ltb-true 0 c.in-Ok.blocks (cc is) in
    some_taken _ _ i _ (note_of (pass_number i) (step_operation c.has_failed.result) (look_of_manager new) [] false) (look_of_manager old) e.same e.seen e.mine e.own c.leave_step.ensures.left refl e.value.look
    (put_lowers old new c.put_home-answer.result c.in-Ok.blocks c.in-Ok.is some r.lowers)
