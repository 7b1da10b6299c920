use Rattle.std.proofs.Common.{None, Some, arith, inl, refl, subst}
use Rattle.report.specs.Names.{printed_names}
use Rattle.wol_run.proofs.Completing.{complete_unread, may_look, rose_from, rose_later, told_memory}
use Rattle.wol_run.proofs.ReplayFaults.{CanEnd}
use Rattle.wol_run.proofs.SinkTold.{no_greater, sink_failed, sink_kept}
use Rattle.wol_run.proofs.Unread.{not_begun}
use Rattle.wol_run.proofs.Viewed.{change_memory, change_not_sink, is_view_change, sink_said, told_refusal}
use Rattle.wol_run.proofs.viewing.change_view.Goals as goal

-- ---- What it does

pub tell_fault-requires-in-Err-Fault : goal.tell_fault-requires-in-Err-Fault
tell_fault-requires-in-Err-Fault g c = record { told = λ same. subst CanEnd same (sink_said _ _ _ _ _ _ _ _ _ _ _ (rw c.in-Err-Fault.field-0-is at c.in-Err-Fault.ensures.content)).1 }

pub returns-in-Err-clause-content : goal.returns-in-Err-clause-content
returns-in-Err-clause-content g c = record { read = None; has = tt; is = not_begun _ _ _ _ _ _ _ _ c.in-Err.fault c.in-Err.ensures.err refl c.tell_fault.ensures.content }

pub returns-in-Ok-change_view-clause-content : goal.returns-in-Ok-change_view-clause-content
returns-in-Ok-change_view-clause-content g c =
    record { read = Some c.in-Ok.config; has = c.in-Ok.ensures.ok; is = is_view_change _ _ c.in-Ok.config _ _ _ _ _ _ _ _ _ _ _ c.in-Ok-change_view.ensures.leaves.left c.in-Ok-change_view.ensures.leaves.sound c.in-Ok-change_view.ensures.others c.in-Ok-change_view.ensures.content (no_greater _) (refl, refl) _ (record { verb_is = refl; volume = refl; logger = refl }) }

pub returns-in-Err-Sink-clause-content : goal.returns-in-Err-Sink-clause-content
returns-in-Err-Sink-clause-content g c =
    record { read = Some c.in-Ok.config; has = c.in-Ok.ensures.ok; is = is_view_change _ _ c.in-Ok.config _ _ _ _ _ _ _ _ _ _ _ c.in-Err-Sink.ensures.leaves.left c.in-Err-Sink.ensures.leaves.sound c.in-Err-Sink.ensures.others (rw c.in-Err-Sink.field-0-is at c.in-Err-Sink.ensures.content) (no_greater _) (refl, refl) _ (record { verb_is = refl; volume = refl; logger = refl }) }

pub returns-in-Err-Refused-clause-content : goal.returns-in-Err-Refused-clause-content
returns-in-Err-Refused-clause-content g c =
    record {
      read = Some c.in-Ok.config;
      has = c.in-Ok.ensures.ok;
      is = is_view_change _ _ c.in-Ok.config _ _ _ _ _ _ _ _ _ _ _ c.in-Err-Refused.ensures.leaves.left c.in-Err-Refused.ensures.leaves.sound c.in-Err-Refused.ensures.others (rw c.in-Err-Refused.field-0-is at c.in-Err-Refused.ensures.content) c.tell_refusal.ensures.sink.later c.tell_refusal.ensures.content _
          (record { verb_is = refl; volume = refl; logger = refl });
    }

pub returns-clause-content : goal.returns-clause-content
returns-clause-content g c =
    record {
      read = Some c.in-Ok.config;
      has = c.in-Ok.ensures.ok;
      is = is_view_change _ _ c.in-Ok.config _ _ _ _ _ _ _ _ _ _ _ c.in-Err-Fault.ensures.leaves.left c.in-Err-Fault.ensures.leaves.sound c.in-Err-Fault.ensures.others (rw c.in-Err-Fault.field-0-is at c.in-Err-Fault.ensures.content) c.tell_fault-in-Err-Fault.ensures.sink.later (rw c.deref.ensures.value at c.tell_fault-in-Err-Fault.ensures.content) _
          (record { verb_is = refl; volume = refl; logger = refl });
    }

-- ---- It comes to its end

pub returns-in-Err-clause-complete : goal.returns-in-Err-clause-complete
returns-in-Err-clause-complete g c free =
    inl (complete_unread _ _ _ c.tell_fault.result _ _ c.in-Err.fault c.in-Err.ensures.err free.configured free.source (λ seven. free.sink (c.tell_fault.ensures.sink.cause seven)) c.tell_fault.ensures.content)

pub returns-in-Ok-change_view-clause-complete : goal.returns-in-Ok-change_view-clause-complete
returns-in-Ok-change_view-clause-complete g c free = inl (inl refl)

pub returns-in-Err-Sink-clause-complete : goal.returns-in-Err-Sink-clause-complete
returns-in-Err-Sink-clause-complete g c free =
    absurd (change_not_sink c.in-Err-Sink.field-0 c.in-Err-Sink.field-0-is (c.in-Err-Sink.ensures.complete (may_look _ _ c.in-Ok.config c.in-Ok.ensures.ok _ _ _ _ free.images free.bay free.sink)))

pub returns-in-Err-Refused-clause-complete : goal.returns-in-Err-Refused-clause-complete
returns-in-Err-Refused-clause-complete g c free =
    told_refusal _ c.tell_refusal.result _ _ (λ seven. free.sink (rose_from _ _ _ c.in-Err-Refused.ensures.later (c.tell_refusal.ensures.sink.cause seven))) c.tell_refusal.ensures.content

pub returns-clause-complete : goal.returns-clause-complete
returns-clause-complete g c free =
    let may = may_look _ _ c.in-Ok.config c.in-Ok.ensures.ok _ _ _ _ free.images free.bay (λ rose. free.sink (rose_later _ _ _ rose c.tell_fault-in-Err-Fault.ensures.sink.later)) in
    let memory = change_memory c.in-Err-Fault.field-0 c.in-Err-Fault.fault c.in-Err-Fault.field-0-is (c.in-Err-Fault.ensures.complete may) in
    inl (told_memory (printed_names c.deref.result.now) c.in-Err-Fault.fault c.tell_fault-in-Err-Fault.result _ _ memory (λ seven. free.sink (rose_from _ _ _ c.in-Err-Fault.ensures.later (c.tell_fault-in-Err-Fault.ensures.sink.cause seven))) c.tell_fault-in-Err-Fault.ensures.content)

-- ---- The sink

pub returns-in-Ok-change_view-clause-sink : goal.returns-in-Ok-change_view-clause-sink
returns-in-Ok-change_view-clause-sink g c = sink_kept _ _ 0 (λ no. omega (arith, no)) (sink_said _ _ _ _ _ _ _ _ _ _ _ c.in-Ok-change_view.ensures.content)

pub returns-in-Err-Sink-clause-sink : goal.returns-in-Err-Sink-clause-sink
returns-in-Err-Sink-clause-sink g c = sink_failed _ _ c.in-Err-Sink.ensures.later (sink_said _ _ _ _ _ _ _ _ _ _ _ (rw c.in-Err-Sink.field-0-is at c.in-Err-Sink.ensures.content))

pub returns-in-Err-Refused-clause-sink : goal.returns-in-Err-Refused-clause-sink
returns-in-Err-Refused-clause-sink g c = rw (sink_said _ _ _ _ _ _ _ _ _ _ _ (rw c.in-Err-Refused.field-0-is at c.in-Err-Refused.ensures.content)) at c.tell_refusal.ensures.sink

pub returns-clause-sink : goal.returns-clause-sink
returns-clause-sink g c = rw (sink_said _ _ _ _ _ _ _ _ _ _ _ (rw c.in-Err-Fault.field-0-is at c.in-Err-Fault.ensures.content)).0 at c.tell_fault-in-Err-Fault.ensures.sink
