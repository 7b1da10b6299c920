use Rattle.std.proofs.Common.{◌≡◌, refl, sym, ◌∙◌}
use Rattle.std.proofs.lemmas.Result.{err_from_is_err_and}
use Rattle.wol_config.specs.Documents.{names_of, number_named}
use Rattle.rack.proofs.ImagesSent.{others_same}
use Rattle.nbd_serving.specs.Runs as runs
use Rattle.nbd_serving.proofs.Whole.{serves_complete, serves_named, sound_same}
use Rattle.nbd_serving.proofs.command.serve_volume.Goals as goal

pub returns-in_default-clause-content : goal.returns-in_default-clause-content
returns-in_default-clause-content g c =
    let found : c.number_named.result ≡ number_named (names_of c.args.config.now.volumes.items) c.args.name.now = rw (c.deref.ensures.value, c.as_bytes.ensures.value) at c.number_named.ensures.found in
    runs.unknown (sym found ∙ c.in_default.is) refl refl

pub returns-in_default-clause-others : goal.returns-in_default-clause-others
returns-in_default-clause-others g c = λ telling. others_same c.args.config.now (g.B.Bay.state c.args.bay.now).told

pub returns-in_default-clause-sound : goal.returns-in_default-clause-sound
returns-in_default-clause-sound g c = λ telling. sound_same c.args.config.now (g.B.Bay.state c.args.bay.now).told

pub returns-in_err-answer-clause-content : goal.returns-in_err-answer-clause-content
returns-in_err-answer-clause-content g c =
    let p = err_from_is_err_and c.from_residual.result c.from_residual.ensures.1 in
    let found : c.number_named.result ≡ number_named (names_of c.args.config.now.volumes.items) c.args.name.now = rw (c.deref.ensures.value, c.as_bytes.ensures.value) at c.number_named.ensures.found in
    rw (p.1, p.2) (runs.no_memory c.in-Some.volume (sym found ∙ c.in-Some.is) (record { bay = record { left = c.in_err-answer.ensures.left; sound = c.in_err-answer.ensures.sound }; views = c.in_err-answer.ensures.views })
    (λ i. record {
      left = g.S.Source.left (c.in_err-answer.ensures.unread i);
      source_faults = g.S.Source.faults (c.in_err-answer.ensures.unread i);
      taken = g.K.Sink.taken (c.in_err-answer.ensures.unwritten i);
      sink_faults = g.K.Sink.faults (c.in_err-answer.ensures.unwritten i);
    }))

pub returns-in_err-answer-clause-others : goal.returns-in_err-answer-clause-others
returns-in_err-answer-clause-others g c = λ telling. c.with_open.ensures.others

pub returns-in_err-answer-clause-complete : goal.returns-in_err-answer-clause-complete
returns-in_err-answer-clause-complete g c =
    let p = err_from_is_err_and c.from_residual.result c.from_residual.ensures.1 in
    rw (p.1, p.2) (λ calm m. refl)

pub returns-clause-content : goal.returns-clause-content
returns-clause-content g c =
    let found : c.number_named.result ≡ number_named (names_of c.args.config.now.volumes.items) c.args.name.now = rw (c.deref.ensures.value, c.as_bytes.ensures.value) at c.number_named.ensures.found in
    serves_named g.B.Part.Disk.tells g.B.Part.Disk.state c.args.config.now c.args.beginning c.args.name.now c.in-Some.volume (sym found ∙ c.in-Some.is) (g.B.Bay.state c.args.bay.now) (g.B.Bay.state c.with_open.new.bay) _ _ _
    c.in_ok-answer.field-0.answer c.in_ok-answer.ensures.did c.with_open.ensures.sound

pub returns-clause-others : goal.returns-clause-others
returns-clause-others g c = λ telling. c.with_open.ensures.others

pub returns-clause-complete : goal.returns-clause-complete
returns-clause-complete g c =
    let found : c.number_named.result ≡ number_named (names_of c.args.config.now.volumes.items) c.args.name.now = rw (c.deref.ensures.value, c.as_bytes.ensures.value) at c.number_named.ensures.found in
    serves_complete g.B.Part.Disk.tells g.B.Part.Disk.state c.args.config.now c.args.beginning c.args.name.now c.in-Some.volume (sym found ∙ c.in-Some.is) (g.B.Bay.state c.args.bay.now) (g.B.Bay.state c.with_open.new.bay) _ _ _
    c.in_ok-answer.field-0.answer c.in_ok-answer.ensures.did
