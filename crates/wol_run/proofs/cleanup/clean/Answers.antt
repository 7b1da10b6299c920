use Rattle.std.proofs.Common.{None, Some, Err, arith, inl, refl, subst}
use Rattle.report.specs.Names.{printed_names}
use Rattle.wol_run.proofs.Cleaned.{as_run, is_cleaning, may_clean, sink_said}
use Rattle.wol_run.proofs.Completing.{complete_unread, replay_memory, replay_not_sink, rose_from, rose_later, told_memory}
use Rattle.wol_run.proofs.ReplayFaults.{CanEnd}
use Rattle.wol_run.proofs.SinkTold.{no_greater, sink_failed, sink_kept}
use Rattle.wol_run.proofs.Unread.{not_begun}
use Rattle.wol_run.proofs.cleanup.clean.Goals as goal

-- ---- What it does

pub tell_fault-requires-in-Err-Fault : goal.tell_fault-requires-in-Err-Fault
tell_fault-requires-in-Err-Fault g c = record { told = λ same. subst CanEnd same (sink_said _ _ _ _ _ _ _ _ _ _ (rw c.in-Err-Fault.field-0-is at c.in-Err-Fault.ensures.cleans)).1 }

pub returns-in-Err-clause-content : goal.returns-in-Err-clause-content
returns-in-Err-clause-content g c = record { read = None; has = tt; is = not_begun _ _ _ _ _ _ _ _ c.in-Err.fault c.in-Err.ensures.err refl c.tell_fault.ensures.content }

pub returns-in-Ok-clean_volumes-clause-content : goal.returns-in-Ok-clean_volumes-clause-content
returns-in-Ok-clean_volumes-clause-content g c =
    record { read = Some c.in-Ok.config; has = c.in-Ok.ensures.ok; is = is_cleaning _ _ c.in-Ok.config _ _ _ _ _ _ _ _ _ _ (record { bay = c.in-Ok-clean_volumes.ensures.leaves; views = c.in-Ok-clean_volumes.ensures.views }) c.in-Ok-clean_volumes.ensures.others c.in-Ok-clean_volumes.ensures.cleans (no_greater _) (refl, refl) }

pub returns-in-Err-Sink-clause-content : goal.returns-in-Err-Sink-clause-content
returns-in-Err-Sink-clause-content g c =
    record { read = Some c.in-Ok.config; has = c.in-Ok.ensures.ok; is = is_cleaning _ _ c.in-Ok.config _ _ _ _ _ _ _ _ _ _ (record { bay = c.in-Err-Sink.ensures.leaves; views = c.in-Err-Sink.ensures.views }) c.in-Err-Sink.ensures.others (rw c.in-Err-Sink.field-0-is at c.in-Err-Sink.ensures.cleans) (no_greater _) (refl, refl) }

pub returns-clause-content : goal.returns-clause-content
returns-clause-content g c =
    record { read = Some c.in-Ok.config; has = c.in-Ok.ensures.ok; is = is_cleaning _ _ c.in-Ok.config _ _ _ _ _ _ _ _ _ _ (record { bay = c.in-Err-Fault.ensures.leaves; views = c.in-Err-Fault.ensures.views }) c.in-Err-Fault.ensures.others (rw c.in-Err-Fault.field-0-is at c.in-Err-Fault.ensures.cleans) c.tell_fault-in-Err-Fault.ensures.sink.later (rw c.deref.ensures.value at c.tell_fault-in-Err-Fault.ensures.content) }

-- ---- It comes to its end

pub returns-in-Err-clause-complete : goal.returns-in-Err-clause-complete
returns-in-Err-clause-complete g c free versions =
    complete_unread _ _ _ c.tell_fault.result _ _ c.in-Err.fault c.in-Err.ensures.err free.configured free.source (λ seven. free.sink (c.tell_fault.ensures.sink.cause seven)) c.tell_fault.ensures.content

pub returns-in-Ok-clean_volumes-clause-complete : goal.returns-in-Ok-clean_volumes-clause-complete
returns-in-Ok-clean_volumes-clause-complete g c free versions = inl refl

pub returns-in-Err-Sink-clause-complete : goal.returns-in-Err-Sink-clause-complete
returns-in-Err-Sink-clause-complete g c free versions =
    absurd (replay_not_sink (Err c.in-Err-Sink.field-0) c.in-Err-Sink.field-0 refl c.in-Err-Sink.field-0-is
    (as_run _ (c.in-Err-Sink.ensures.complete (may_clean _ _ c.in-Ok.config c.in-Ok.ensures.ok _ _ _ _ free.images versions free.bay free.sink))))

pub returns-clause-complete : goal.returns-clause-complete
returns-clause-complete g c free versions =
    let may = may_clean _ _ c.in-Ok.config c.in-Ok.ensures.ok _ _ _ _ free.images versions free.bay (λ rose. free.sink (rose_later _ _ _ rose c.tell_fault-in-Err-Fault.ensures.sink.later)) in
    let memory = replay_memory (Err c.in-Err-Fault.field-0) c.in-Err-Fault.field-0 c.in-Err-Fault.fault refl c.in-Err-Fault.field-0-is (as_run _ (c.in-Err-Fault.ensures.complete may)) in
    told_memory (printed_names c.deref.result.now) c.in-Err-Fault.fault c.tell_fault-in-Err-Fault.result _ _ memory (λ seven. free.sink (rose_from _ _ _ c.in-Err-Fault.ensures.later (c.tell_fault-in-Err-Fault.ensures.sink.cause seven))) c.tell_fault-in-Err-Fault.ensures.content

-- ---- The sink

pub returns-in-Ok-clean_volumes-clause-sink : goal.returns-in-Ok-clean_volumes-clause-sink
returns-in-Ok-clean_volumes-clause-sink g c = sink_kept _ _ 0 (λ no. omega (arith, no)) (sink_said _ _ _ _ _ _ _ _ _ _ c.in-Ok-clean_volumes.ensures.cleans)

pub returns-in-Err-Sink-clause-sink : goal.returns-in-Err-Sink-clause-sink
returns-in-Err-Sink-clause-sink g c = sink_failed _ _ c.in-Err-Sink.ensures.later (sink_said _ _ _ _ _ _ _ _ _ _ (rw c.in-Err-Sink.field-0-is at c.in-Err-Sink.ensures.cleans))

pub returns-clause-sink : goal.returns-clause-sink
returns-clause-sink g c = rw (sink_said _ _ _ _ _ _ _ _ _ _ (rw c.in-Err-Fault.field-0-is at c.in-Err-Fault.ensures.cleans)).0 at c.tell_fault-in-Err-Fault.ensures.sink
