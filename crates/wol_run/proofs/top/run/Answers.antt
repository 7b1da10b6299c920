use Rattle.std.proofs.Common.{None, Err, inl, inr, refl, ap, subst, arith}
use Rattle.command_words.specs.Commands.{IsCommand}
use Rattle.wol_run.proofs.Asked.{in_range, range_of_gen, range_of_solo, range_of_what_if}
use Rattle.wol_run.proofs.CommandsTold.{check_promise, clean_promise, comparison_promise, dump_promise, format_promise, gen_promise, memory_promise, missing_promise, nbd_promise, replay_promise, serve_promise, soak_promise, solo_done_promise, solo_fault_promise, view_add_promise, view_remove_promise}
use Rattle.wol_run.proofs.Completing.{rose_from, rose_later}
use Rattle.wol_run.proofs.Endings.{has_cause}
use Rattle.wol_run.proofs.Promised.{of_none}
use Rattle.wol_run.proofs.SoloTold.{solo_calm}
use Rattle.wol_run.proofs.top.run.Goals as goal

-- ---- The words are a command

pub generate-requires : goal.generate-requires
generate-requires g c = record { few = range_of_gen c.in-Ok.command c.in-Gen.asked c.in-Gen.is (in_range _ c.in-Ok.command c.in-Ok.ensures.ok) }

pub run-requires-clause-volume : goal.run-requires-clause-volume
run-requires-clause-volume g c = range_of_solo c.in-Ok.command c.in-Solo.volume c.in-Solo.is (in_range _ c.in-Ok.command c.in-Ok.ensures.ok)

pub compare-requires : goal.compare-requires
compare-requires g c = range_of_what_if c.in-Ok.command c.in-WhatIf.options c.in-WhatIf.is (in_range _ c.in-Ok.command c.in-Ok.ensures.ok)

pub returns-in-Gen-clause-promise : goal.returns-in-Gen-clause-promise
returns-in-Gen-clause-promise g c = gen_promise _ _ _ _ _ _ c.generate.ensures.sink.cause c.generate.ensures.sink.calm c.in-Gen.asked (subst (IsCommand _) c.in-Gen.is c.in-Ok.ensures.ok) c.generate.ensures.content refl refl

pub returns-in-Format-clause-promise : goal.returns-in-Format-clause-promise
returns-in-Format-clause-promise g c = format_promise _ _ _ _ _ _ c.format.ensures.sink.cause c.format.ensures.sink.calm (subst (IsCommand _) c.in-Format.is c.in-Ok.ensures.ok) c.format.ensures.content refl

pub returns-in-FormatMissing-clause-promise : goal.returns-in-FormatMissing-clause-promise
returns-in-FormatMissing-clause-promise g c =
    missing_promise _ _ _ _ _ _ c.format_missing.ensures.sink.cause c.format_missing.ensures.sink.calm c.in-FormatMissing.name (subst (IsCommand _) c.in-FormatMissing.is c.in-Ok.ensures.ok) c.format_missing.ensures.content refl

pub returns-in-Check-clause-promise : goal.returns-in-Check-clause-promise
returns-in-Check-clause-promise g c = check_promise _ _ _ _ _ _ c.inspect.ensures.sink.cause c.inspect.ensures.sink.calm c.inspect.ensures.complete refl (subst (IsCommand _) c.in-Check.is c.in-Ok.ensures.ok) c.inspect.ensures.content

pub returns-in-Dump-clause-promise : goal.returns-in-Dump-clause-promise
returns-in-Dump-clause-promise g c =
    dump_promise _ _ _ _ _ _ c.inspect-in-Dump.ensures.sink.cause c.inspect-in-Dump.ensures.sink.calm c.inspect-in-Dump.ensures.complete refl (subst (IsCommand _) c.in-Dump.is c.in-Ok.ensures.ok) c.inspect-in-Dump.ensures.content

pub returns-in-Replay-clause-promise : goal.returns-in-Replay-clause-promise
returns-in-Replay-clause-promise g c =
    replay_promise _ _ _ _ _ _ c.replay.ensures.sink.cause c.replay.ensures.sink.calm c.in-Replay.options (subst (IsCommand _) c.in-Replay.is c.in-Ok.ensures.ok) c.replay.ensures.content c.replay.ensures.source c.replay.ensures.complete

pub returns-in-Soak-clause-promise : goal.returns-in-Soak-clause-promise
returns-in-Soak-clause-promise g c =
    soak_promise _ _ _ _ _ _ c.soak.ensures.sink.cause c.soak.ensures.sink.calm c.in-Soak.asked c.in-Soak.options (subst (IsCommand _) c.in-Soak.is c.in-Ok.ensures.ok) (c.soak.ensures.content _) c.soak.ensures.source c.soak.ensures.complete refl

pub returns-in-WhatIf-clause-promise : goal.returns-in-WhatIf-clause-promise
returns-in-WhatIf-clause-promise g c =
    comparison_promise _ _ _ _ _ _ c.compare.ensures.sink.cause c.compare.ensures.sink.calm c.in-WhatIf.options (subst (IsCommand _) c.in-WhatIf.is c.in-Ok.ensures.ok) c.compare.ensures.content c.compare.ensures.source c.compare.ensures.complete refl

pub returns-in-ViewAdd-clause-promise : goal.returns-in-ViewAdd-clause-promise
returns-in-ViewAdd-clause-promise g c =
    view_add_promise _ _ _ _ _ _ c.change_view.ensures.sink.cause c.change_view.ensures.sink.calm c.change_view.ensures.complete refl c.in-ViewAdd.names (subst (IsCommand _) c.in-ViewAdd.is c.in-Ok.ensures.ok) c.change_view.ensures.content

pub returns-in-ViewRemove-clause-promise : goal.returns-in-ViewRemove-clause-promise
returns-in-ViewRemove-clause-promise g c =
    view_remove_promise _ _ _ _ _ _ c.change_view-in-ViewRemove.ensures.sink.cause c.change_view-in-ViewRemove.ensures.sink.calm c.change_view-in-ViewRemove.ensures.complete refl c.in-ViewRemove.names
    (subst (IsCommand _) c.in-ViewRemove.is c.in-Ok.ensures.ok) c.change_view-in-ViewRemove.ensures.content

pub returns-in-Clean-clause-promise : goal.returns-in-Clean-clause-promise
returns-in-Clean-clause-promise g c =
    clean_promise _ _ _ _ _ _ c.clean.ensures.sink.cause c.clean.ensures.sink.calm (subst (IsCommand _) c.in-Clean.is c.in-Ok.ensures.ok) c.clean.ensures.content c.clean.ensures.complete refl

pub returns-in-Nbd-clause-promise : goal.returns-in-Nbd-clause-promise
returns-in-Nbd-clause-promise g c =
    nbd_promise _ _ _ _ _ _ c.serve.ensures.cause c.serve.ensures.calm c.serve.ensures.complete c.in-Nbd.name (subst (IsCommand _) c.in-Nbd.is c.in-Ok.ensures.ok) c.serve.ensures.content

pub returns-in-Serve-clause-promise : goal.returns-in-Serve-clause-promise
returns-in-Serve-clause-promise g c =
    serve_promise _ _ _ _ _ _ c.serve-in-Serve.ensures.cause c.serve-in-Serve.ensures.calm c.serve-in-Serve.ensures.complete c.in-Serve.name c.in-Serve._patience (subst (IsCommand _) c.in-Serve.is c.in-Ok.ensures.ok) c.serve-in-Serve.ensures.content

-- the lines of one volume were run to their end
pub returns-in-Ok-run-clause-promise : goal.returns-in-Ok-run-clause-promise
returns-in-Ok-run-clause-promise g c =
    solo_done_promise _ _ _ _ _ (λ less. absurd (let same = c.in-Ok-run.ensures.sink.calm (λ is. cc is) in omega (arith, same, less))) c.in-Solo.volume (subst (IsCommand _) c.in-Solo.is c.in-Ok.ensures.ok) refl c.in-Ok-run.ensures.end
    (c.in-Ok-run.ensures.bay.calm (λ is. elim is [ inl one ↦ cc one | inr one ↦ cc one ]), c.in-Ok-run.ensures.source.calm (λ is. cc is)) (tt {0}) c.in-Ok-run.ensures.content

-- .. or a fault ended them
pub returns-in-Err-clause-promise : goal.returns-in-Err-clause-promise
returns-in-Err-clause-promise g c =
    let e = c.in-Err.fault in
    let bay = g.B.Bay.state c.args.bay.now in
    let cause = has_cause bay.told (g.B.Bay.state c.run.new.bay).told bay.faults (g.B.Bay.state c.run.new.bay).faults (g.S.Source.faults c.args.trace.now) (g.S.Source.faults c.run.new.trace) e
    (λ is. (c.in-Err.ensures.bay.cause (inr (ap Err is)), c.in-Err.ensures.faulty (ap Err is))) (λ is. c.in-Err.ensures.bay.cause (inl (ap Err is))) (λ is. c.in-Err.ensures.source.cause (ap Err is))
    (λ no_bay no_disk. c.in-Err.ensures.bay.calm (λ is. elim is [ inl one ↦ no_bay (cc one) | inr one ↦ no_disk (cc one) ])) (λ no. c.in-Err.ensures.source.calm (λ is. no (cc is))) in
    solo_fault_promise _ _ _ _ _ _
    (λ seven. elim (c.tell.ensures.cause seven) [
      | inl is ↦ rose_later _ _ _ (c.in-Err.ensures.sink.cause (ap Err is)) c.tell.ensures.later
      | inr rose ↦ rose_from _ _ _ c.in-Err.ensures.sink.later rose
    ])
    (solo_calm e _ _ _ c.tell.result _ _ (λ no. c.in-Err.ensures.sink.calm (λ is. no (cc is))) c.tell.ensures.content c.tell.ensures.calm)
    c.in-Solo.volume (subst (IsCommand _) c.in-Solo.is c.in-Ok.ensures.ok) refl (Unit {0}) e _ c.tell.ensures.status c.tell.ensures.content cause c.in-Err.ensures.content

-- ---- They are none

pub returns-in-Err-NotACommand-clause-promise : goal.returns-in-Err-NotACommand-clause-promise
returns-in-Err-NotACommand-clause-promise g c =
    of_none _ _ _ _ _ _ None tt (c.in-Err-NotACommand.ensures.refused (ap Err c.in-Err-NotACommand.field-0-is)) c.end_with.ensures.content
    (λ seven. elim (c.end_with.ensures.cause seven) [
      | inl other ↦ absurd (omega (arith, other))
      | inr rose ↦ rose
    ])
    c.end_with.ensures.calm (record { config = λ none. refl; trace = λ none. refl; bay = λ none. refl })

-- ---- There was no memory to read them

pub returns-in-Err-NoMemory-clause-promise : goal.returns-in-Err-NoMemory-clause-promise
returns-in-Err-NoMemory-clause-promise g c =
    memory_promise _ _ _ _ _ _ c.end_with-in-Err-NoMemory.ensures.content
    (λ seven. elim (c.end_with-in-Err-NoMemory.ensures.cause seven) [
      | inl other ↦ absurd (omega (arith, other))
      | inr rose ↦ rose
    ])
    c.end_with-in-Err-NoMemory.ensures.calm
