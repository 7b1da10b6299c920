use Rattle.std.proofs.Common.{[], ◌≡◌, true, false, sym, refl, ap, subst, ◌∙◌, Ok, Result}
use Rattle.manager.specs.Reclaim.{Always}
use Rattle.manager.specs.Seen.{look_of_manager}
use Rattle.manager.specs.declared.part.StepFault.{StepFault}
use Rattle.reclaimer.specs.Counts.{CountsGone}
use Rattle.reclaimer.specs.declared.answers.Gone.{Gone}
use Rattle.reclaimer.specs.declared.answers.Gone.TheVariants as gone
use Rattle.turn_lock.specs.Passes.{pass_number}
use Rattle.request_turns.specs.Entries.{note_of, step_operation, has_failed}
use Rattle.request_turns.proofs.Counting.{counted_turn}
use Rattle.request_turns.specs.Counts.{gone_count}
use Rattle.request_turns.proofs.StepNotes.{gone_takes}
use Rattle.request_turns.proofs.HelpNotes.{gone_keep, help_stands, has_helped, step_kept, same_counted, done_counted, refused_counted, down_at}
use Rattle.request_turns.proofs.HelpTold.{nothing_gone, same_gone, gone_lowers, some_taken}
use Rattle.request_turns.proofs.Taking.{home_at}
use Rattle.request_turns.proofs.help.drop_turn.Goals as goal

pub invalidate_one-answer-requires-clause-at : goal.invalidate_one-answer-requires-clause-at
invalidate_one-answer-requires-clause-at g c = home_at _ _ _ _ _ _ _ c.enter-turn.ensures.same.0 c.enter-turn.ensures.value.keeps c.requires.shared

pub leave_step-requires-clause-turn : goal.leave_step-requires-clause-turn
leave_step-requires-clause-turn g c = let e = c.enter-turn.ensures in record { own = e.same.0 ∙ c.requires.pass.own; turn = e.turn }

pub leave_step-requires-clause-value : goal.leave_step-requires-clause-value
leave_step-requires-clause-value g c = let r = c.invalidate_one-answer.ensures in let e = c.enter-turn.ensures in
    help_stands _ _ c.enter-turn.result.value c.invalidate_one-answer.new.m _ _ _ c.invalidate_one-answer.result _ c.has_failed.ensures Always tt r.keeps r.broke
    (gone_keep c.enter-turn.result.value c.invalidate_one-answer.new.m _ c.invalidate_one-answer.result (e.same.1 ∙ c.requires.pass.number_is) r.look) e.value

pub returns-in-Ok-clause-helped : goal.returns-in-Ok-clause-helped
returns-in-Ok-clause-helped g c = let e = c.enter-turn.ensures in has_helped _ _ _ _ _ _ e.same e.seen e.mine e.own c.leave_step.ensures.left

pub returns-in-Err-clause-helped : goal.returns-in-Err-clause-helped
returns-in-Err-clause-helped g c = let e = c.enter-turn.ensures in has_helped _ _ _ _ _ _ e.same e.seen e.mine e.own c.leave_step.ensures.left

pub returns-in-Ok-clause-counted : goal.returns-in-Ok-clause-counted
returns-in-Ok-clause-counted g c = let e = c.enter-turn.ensures in let i = c.enter-turn.new.pass in let l = look_of_manager c.enter-turn.result.value in let m = look_of_manager c.invalidate_one-answer.new.m in
    counted_turn _ _ i _ (note_of (pass_number i) (step_operation c.has_failed.result) m [] false) l c.args.tally.now c.count_gone.new.tally e.same e.seen e.mine e.own c.leave_step.ensures.left refl e.value.look
    (done_counted Gone l m (pass_number i) c.in-Ok.gone c.has_failed.result 0 (gone_count c.in-Ok.gone) c.args.tally.now c.count_gone.new.tally (c.has_failed.ensures ∙ ap has_failed c.in-Ok.is)
    (gone_takes l m c.in-Ok.gone (subst (λ (a : Result Gone StepFault). CountsGone a l m) c.in-Ok.is c.invalidate_one-answer.ensures.counted)) c.count_gone.ensures.counted)

pub returns-in-Err-clause-counted : goal.returns-in-Err-clause-counted
returns-in-Err-clause-counted g c = let e = c.enter-turn.ensures in let i = c.enter-turn.new.pass in let l = look_of_manager c.enter-turn.result.value in let m = look_of_manager c.invalidate_one-answer.new.m in
    counted_turn _ _ i _ (note_of (pass_number i) (step_operation c.has_failed.result) m [] false) l c.args.tally.now c.args.tally.now e.same e.seen e.mine e.own c.leave_step.ensures.left refl e.value.look
    (refused_counted Gone l m (pass_number i) c.in-Err.fault c.has_failed.result c.args.tally.now (c.has_failed.ensures ∙ ap has_failed c.in-Err.is) (subst (λ (a : Result Gone StepFault). CountsGone a l m) c.in-Err.is c.invalidate_one-answer.ensures.counted))

pub returns-in-Ok-clause-kept : goal.returns-in-Ok-clause-kept
returns-in-Ok-clause-kept g c = step_kept _ _ c.enter-turn.new.pass _ _ _ c.invalidate_one-answer.result _ c.in-Ok.is c.has_failed.ensures c.enter-turn.ensures.mine c.leave_step.ensures.left

pub returns-in-Err-clause-cause : goal.returns-in-Err-clause-cause
returns-in-Err-clause-cause g c = c.leave_step.ensures.broken _ (down_at g.D.Disk.state c.enter-turn.result.value c.invalidate_one-answer.new.m c.invalidate_one-answer.result c.in-Err.fault c.in-Err.is c.invalidate_one-answer.ensures.fault)

pub returns-in-Ok-clause-nothing : goal.returns-in-Ok-clause-nothing
returns-in-Ok-clause-nothing g c is = let e = c.enter-turn.ensures in let r = c.invalidate_one-answer.ensures in let i = c.enter-turn.new.pass in let old = c.enter-turn.result.value in let new = c.invalidate_one-answer.new.m in
    let done : c.count_gone.result ≡ false = cc is in
    let none : c.invalidate_one-answer.result ≡ Ok gone.Nothing = c.in-Ok.is ∙ ap Ok (c.count_gone.ensures.nothing.0 done) in (
      (λ t. counted_turn _ _ i _ (note_of (pass_number i) (step_operation c.has_failed.result) (look_of_manager new) [] false) (look_of_manager old) t t e.same e.seen e.mine e.own c.leave_step.ensures.left refl e.value.look
          (same_counted {T = Gone} (look_of_manager old) (look_of_manager new) (pass_number i) c.has_failed.result t (Ok gone.Nothing) (c.has_failed.ensures ∙ ap has_failed none) (same_gone old new c.invalidate_one-answer.result none r.look))),
      nothing_gone _ old new _ _ c.has_failed.result c.leave_step.ensures.left c.invalidate_one-answer.result none r.look (r.nothing.0 none).1,
    )

pub returns-in-Ok-clause-some : goal.returns-in-Ok-clause-some
returns-in-Ok-clause-some g c is = let e = c.enter-turn.ensures in let r = c.invalidate_one-answer.ensures in let i = c.enter-turn.new.pass in let old = c.enter-turn.result.value in let new = c.invalidate_one-answer.new.m in
    let did : c.count_gone.result ≡ true = cc is in
    some_taken _ _ i _ (note_of (pass_number i) (step_operation c.has_failed.result) (look_of_manager new) [] false) (look_of_manager old) e.same e.seen e.mine e.own c.leave_step.ensures.left refl e.value.look
    (gone_lowers old new c.invalidate_one-answer.result c.in-Ok.gone c.in-Ok.is (λ none. absurd (let no : true ≡ false = sym did ∙ c.count_gone.ensures.nothing.1 none in cc)) r.lowers)
