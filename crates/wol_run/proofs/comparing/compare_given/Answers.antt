use Rattle.std.proofs.Common.{Err, inl, ap, arith, refl, subst, sym}
use Rattle.report.specs.Names.{printed_names}
use Rattle.wol_run.proofs.Compared.{comparison_calm, comparison_fault, comparison_sink, comparison_source, comparison_whole, is_comparison}
use Rattle.wol_run.proofs.Completing.{earlier_compared, replay_memory, replay_not_sink, rose_from, told_memory}
use Rattle.wol_run.proofs.ReplayEndings.{told_status}
use Rattle.wol_run.proofs.ReplayFaults.{CanEnd, is_source}
use Rattle.wol_run.proofs.SinkTold.{no_greater, sink_failed, sink_kept}
use Rattle.wol_run.proofs.comparing.compare_given.Goals as goal

pub tell_fault-requires : goal.tell_fault-requires
tell_fault-requires g c = record { told = λ same. subst CanEnd same (comparison_fault _ _ _ _ _ _ _ _ _ _ c.in-Err-Fault.ensures.compares c.in-Err-Fault.fault (ap Err c.in-Err-Fault.field-0-is)) }

pub returns-in-Ok-clause-content : goal.returns-in-Ok-clause-content
returns-in-Ok-clause-content g c = is_comparison _ _ _ _ _ _ _ _ _ _ _ _ _ c.in-Ok.ensures.compares (no_greater _) (refl, refl)

pub returns-in-Err-Sink-clause-content : goal.returns-in-Err-Sink-clause-content
returns-in-Err-Sink-clause-content g c = is_comparison _ _ _ _ _ _ _ _ _ _ _ _ _ (rw c.in-Err-Sink.field-0-is at c.in-Err-Sink.ensures.compares) (no_greater _) (refl, refl)

pub returns-in-Err-Fault-clause-content : goal.returns-in-Err-Fault-clause-content
returns-in-Err-Fault-clause-content g c =
    is_comparison _ _ _ _ _ _ _ _ _ _ _ _ _ (rw c.in-Err-Fault.field-0-is at c.in-Err-Fault.ensures.compares) c.tell_fault.ensures.sink.later (rw c.deref.ensures.value at c.tell_fault.ensures.content)

pub returns-in-Err-Fault-clause-source : goal.returns-in-Err-Fault-clause-source
returns-in-Err-Fault-clause-source g c eight =
    let is = ap Err c.in-Err-Fault.field-0-is in
    let can = comparison_fault _ _ _ _ _ _ _ _ _ _ c.in-Err-Fault.ensures.compares c.in-Err-Fault.fault is in
    let told = told_status (printed_names c.deref.result.now) c.in-Err-Fault.fault c.tell_fault.result 8 _ _ (λ e. omega (arith, e)) (λ e. omega (arith, e)) c.tell_fault.ensures.content eight in
    c.in-Err-Fault.ensures.source (rw (sym (is_source c.in-Err-Fault.fault can told)) is)

pub returns-in-Ok-clause-source_kept : goal.returns-in-Ok-clause-source_kept
returns-in-Ok-clause-source_kept g c is = comparison_source _ _ _ _ _ _ _ _ _ _ c.in-Ok.ensures.compares is

pub returns-in-Err-Sink-clause-source_kept : goal.returns-in-Err-Sink-clause-source_kept
returns-in-Err-Sink-clause-source_kept g c is = comparison_source _ _ _ _ _ _ _ _ _ _ c.in-Err-Sink.ensures.compares is

pub returns-in-Err-Fault-clause-source_kept : goal.returns-in-Err-Fault-clause-source_kept
returns-in-Err-Fault-clause-source_kept g c is = comparison_source _ _ _ _ _ _ _ _ _ _ c.in-Err-Fault.ensures.compares is

pub returns-in-Ok-clause-complete : goal.returns-in-Ok-clause-complete
returns-in-Ok-clause-complete g c may = inl refl

pub returns-in-Err-Sink-clause-complete : goal.returns-in-Err-Sink-clause-complete
returns-in-Err-Sink-clause-complete g c may = absurd (replay_not_sink (Err c.in-Err-Sink.field-0) c.in-Err-Sink.field-0 refl c.in-Err-Sink.field-0-is (c.in-Err-Sink.ensures.complete may))

pub returns-in-Err-Fault-clause-complete : goal.returns-in-Err-Fault-clause-complete
returns-in-Err-Fault-clause-complete g c may =
    let before = earlier_compared _ _ _ _ _ _ _ _ c.tell_fault.ensures.sink.later may in
    let memory = replay_memory (Err c.in-Err-Fault.field-0) c.in-Err-Fault.field-0 c.in-Err-Fault.fault refl c.in-Err-Fault.field-0-is (c.in-Err-Fault.ensures.complete before) in
    told_memory (printed_names c.deref.result.now) c.in-Err-Fault.fault c.tell_fault.result _ _ memory (λ seven. may.sink_calm (rose_from _ _ _ c.in-Err-Fault.ensures.later (c.tell_fault.ensures.sink.cause seven))) c.tell_fault.ensures.content

pub returns-in-Ok-clause-sink : goal.returns-in-Ok-clause-sink
returns-in-Ok-clause-sink g c = sink_kept _ _ 0 (λ no. omega (arith, no)) (comparison_whole _ _ _ _ _ _ _ _ _ _ c.in-Ok.ensures.compares c.in-Ok.field-0 refl)

pub returns-in-Err-Sink-clause-sink : goal.returns-in-Err-Sink-clause-sink
returns-in-Err-Sink-clause-sink g c = sink_failed _ _ c.in-Err-Sink.ensures.later (comparison_sink _ _ _ _ _ _ _ _ _ _ c.in-Err-Sink.ensures.compares (ap Err c.in-Err-Sink.field-0-is))

pub returns-in-Err-Fault-clause-sink : goal.returns-in-Err-Fault-clause-sink
returns-in-Err-Fault-clause-sink g c =
    rw (comparison_calm _ _ _ _ _ _ _ _ _ _ c.in-Err-Fault.ensures.compares c.in-Err-Fault.fault (ap Err c.in-Err-Fault.field-0-is)) at c.tell_fault.ensures.sink
