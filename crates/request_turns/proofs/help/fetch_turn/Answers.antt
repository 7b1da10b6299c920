use Rattle.std.proofs.Common.{◌≡◌, [], false, Ok, refl, ap, ◌∙◌}
use Rattle.turn_lock.specs.Passes.{pass_number}
use Rattle.request_turns.specs.Entries.{note_of, step_operation}
use Rattle.manager.specs.Reclaim.{Always}
use Rattle.manager.specs.Seen.{look_of_manager}
use Rattle.request_turns.proofs.Counting.{counted_turn}
use Rattle.request_turns.proofs.HelpNotes.{same_keep, help_stands, has_helped, step_kept, same_counted, data_left, down_at}
use Rattle.request_turns.proofs.HelpTold.{room_told, nothing_due}
use Rattle.request_turns.proofs.Taking.{home_at}
use Rattle.reclaimer.specs.declared.answers.Fetched.TheVariants as Found
use Rattle.request_turns.proofs.help.fetch_turn.Goals as goal

pub fetch-answer-requires-clause-at : goal.fetch-answer-requires-clause-at
fetch-answer-requires-clause-at g c = home_at _ _ _ _ _ _ _ c.enter-turn.ensures.same.0 c.enter-turn.ensures.value.keeps c.requires.shared

pub leave_step-requires-clause-turn : goal.leave_step-requires-clause-turn
leave_step-requires-clause-turn g c = let e = c.enter-turn.ensures in record { own = e.same.0 ∙ c.requires.pass.own; turn = e.turn }

pub leave_step-requires-clause-value : goal.leave_step-requires-clause-value
leave_step-requires-clause-value g c = let r = c.fetch-answer.ensures in
    help_stands _ _ c.enter-turn.result.value c.fetch-answer.new.m _ _ _ c.fetch-answer.result _ c.has_failed.ensures Always tt r.keeps r.broke (same_keep c.enter-turn.result.value c.fetch-answer.new.m _ c.fetch-answer.result r.look) c.enter-turn.ensures.value

pub returns-in-Ok-clause-helped : goal.returns-in-Ok-clause-helped
returns-in-Ok-clause-helped g c = let e = c.enter-turn.ensures in has_helped _ _ _ _ _ _ e.same e.seen e.mine e.own c.leave_step.ensures.left

pub returns-in-Err-clause-helped : goal.returns-in-Err-clause-helped
returns-in-Err-clause-helped g c = let e = c.enter-turn.ensures in has_helped _ _ _ _ _ _ e.same e.seen e.mine e.own c.leave_step.ensures.left

pub returns-in-Ok-clause-data : goal.returns-in-Ok-clause-data
returns-in-Ok-clause-data g c = data_left _ c.fetch-answer.new.into _ _ _ c.leave_step.ensures.left (c.fetch-answer.ensures.content _ _ c.enter-turn.ensures.value.keeps)

pub returns-in-Ok-clause-counted : goal.returns-in-Ok-clause-counted
returns-in-Ok-clause-counted g c t = let e = c.enter-turn.ensures in let i = c.enter-turn.new.pass in let l = look_of_manager c.enter-turn.result.value in let m = look_of_manager c.fetch-answer.new.m in
    counted_turn _ _ i _ (note_of (pass_number i) (step_operation c.has_failed.result) m [] false) l t t e.same e.seen e.mine e.own c.leave_step.ensures.left refl e.value.look (same_counted l m (pass_number i) c.has_failed.result t c.fetch-answer.result c.has_failed.ensures c.fetch-answer.ensures.look)

pub returns-in-Err-clause-counted : goal.returns-in-Err-clause-counted
returns-in-Err-clause-counted g c t = let e = c.enter-turn.ensures in let i = c.enter-turn.new.pass in let l = look_of_manager c.enter-turn.result.value in let m = look_of_manager c.fetch-answer.new.m in
    counted_turn _ _ i _ (note_of (pass_number i) (step_operation c.has_failed.result) m [] false) l t t e.same e.seen e.mine e.own c.leave_step.ensures.left refl e.value.look (same_counted l m (pass_number i) c.has_failed.result t c.fetch-answer.result c.has_failed.ensures c.fetch-answer.ensures.look)

pub returns-in-Ok-clause-kept : goal.returns-in-Ok-clause-kept
returns-in-Ok-clause-kept g c = step_kept _ _ c.enter-turn.new.pass _ _ _ c.fetch-answer.result _ c.in-Ok.is c.has_failed.ensures c.enter-turn.ensures.mine c.leave_step.ensures.left

pub returns-in-Err-clause-cause : goal.returns-in-Err-clause-cause
returns-in-Err-clause-cause g c = c.leave_step.ensures.broken _ (down_at g.D.Disk.state c.enter-turn.result.value c.fetch-answer.new.m c.fetch-answer.result c.in-Err.fault c.in-Err.is c.fetch-answer.ensures.fault)

pub returns-in-Ok-clause-room : goal.returns-in-Ok-clause-room
returns-in-Ok-clause-room g c = let r = c.fetch-answer.ensures in
    room_told c.enter-turn.result.value c.fetch-answer.new.m c.fetch-answer.result c.in-Ok.fetched c.was_found.result c.fetch-answer.new.into c.in-Ok.is c.was_found.ensures r.due r.fetched

pub returns-in-Ok-clause-nothing : goal.returns-in-Ok-clause-nothing
returns-in-Ok-clause-nothing g c is = let r = c.fetch-answer.ensures in
    let done : c.was_found.result ≡ false = cc is in
    let none : c.fetch-answer.result ≡ Ok Found.Nothing = c.in-Ok.is ∙ ap Ok (c.was_found.ensures.0 done) in
    nothing_due _ c.enter-turn.result.value c.fetch-answer.new.m _ _ c.has_failed.result c.leave_step.ensures.left c.fetch-answer.result c.fetch-answer.new.into none r.fetched (r.nothing.0 none).1
