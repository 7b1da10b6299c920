use Rattle.std.proofs.Common.{None, Some, arith, inl, inr, refl, ◌∙◌}
use Rattle.wol_run.proofs.Completing.{complete_unread, look_not_sink, look_whole_done, may_look, rose_from}
use Rattle.wol_run.proofs.LookEndings.{look_cut, look_failed, look_untouched, look_whole}
use Rattle.wol_run.proofs.inspecting.inspect.Goals as goal

pub returns-in-Err-clause-content : goal.returns-in-Err-clause-content
returns-in-Err-clause-content g c = record { read = None; has = tt; is = look_untouched _ _ _ _ _ _ _ _ _ _ _ c.in-Err.fault c.in-Err.ensures.err refl c.tell_fault.ensures.content }

pub returns-in-Ok-inspect-clause-content : goal.returns-in-Ok-inspect-clause-content
returns-in-Ok-inspect-clause-content g c =
    record { read = Some c.in-Ok.config; has = c.in-Ok.ensures.ok; is = look_whole _ _ _ _ _ _ _ _ _ _ _ c.in-Ok.config c.in-Ok-inspect.ensures.sound c.in-Ok-inspect.first _ _ c.in-Ok-inspect.ensures.content c.status_of_first.ensures }

pub returns-in-Err-Sink-clause-content : goal.returns-in-Err-Sink-clause-content
returns-in-Err-Sink-clause-content g c =
    record { read = Some c.in-Ok.config; has = c.in-Ok.ensures.ok; is = look_failed _ _ _ _ _ _ _ _ _ _ _ c.in-Ok.config c.in-Err-Sink.ensures.sound _ _ (rw c.in-Err-Sink.field-0-is at c.in-Err-Sink.ensures.content) refl }

pub returns-clause-content : goal.returns-clause-content
returns-clause-content g c =
    record { read = Some c.in-Ok.config; has = c.in-Ok.ensures.ok; is = look_cut _ _ _ _ _ _ _ _ _ _ _ c.in-Ok.config c.in-Err-Memory.ensures.sound _ _ _ (rw c.in-Err-Memory.field-0-is at c.in-Err-Memory.ensures.content) c.end_with.ensures.content }

pub returns-in-Err-clause-complete : goal.returns-in-Err-clause-complete
returns-in-Err-clause-complete g c free =
    complete_unread _ _ _ c.tell_fault.result _ _ c.in-Err.fault c.in-Err.ensures.err free.configured free.source (λ seven. free.sink (c.tell_fault.ensures.sink.cause seven)) c.tell_fault.ensures.content

pub returns-in-Ok-inspect-clause-complete : goal.returns-in-Ok-inspect-clause-complete
returns-in-Ok-inspect-clause-complete g c free =
    inl (c.status_of_first.ensures ∙ look_whole_done c.in-Ok-inspect.first (c.in-Ok-inspect.ensures.complete (may_look _ _ c.in-Ok.config c.in-Ok.ensures.ok _ _ _ _ free.images free.bay free.sink)))

pub returns-in-Err-Sink-clause-complete : goal.returns-in-Err-Sink-clause-complete
returns-in-Err-Sink-clause-complete g c free =
    absurd (look_not_sink c.in-Err-Sink.field-0 c.in-Err-Sink.field-0-is (c.in-Err-Sink.ensures.complete (may_look _ _ c.in-Ok.config c.in-Ok.ensures.ok _ _ _ _ free.images free.bay free.sink)))

pub returns-clause-complete : goal.returns-clause-complete
returns-clause-complete g c free = elim c.end_with.ensures.status [
  | inl nine ↦ inr nine
  | inr seven ↦ elim (c.end_with.ensures.cause seven) [
    | inl no_seven ↦ absurd (omega (arith, no_seven))
    | inr rose ↦ absurd (free.sink (rose_from _ _ _ c.in-Err-Memory.ensures.later rose))
  ]
]
