use Rattle.std.proofs.Common.{◌≡◌, Option, Some, Err, ℕ, refl, sym, ap, ◌∙◌}
use Rattle.std.proofs.lemmas.Result.{err_from_is_err_and}
use Rattle.rack.proofs.ImagesSent.{others_same}
use Rattle.view_commands.specs.Orders.{AreNamed, number_in, unknown_of}
use Rattle.view_commands.specs.Runs as runs
use Rattle.view_commands.specs.declared.order.ViewRefusal.TheVariants.{UnknownLogger, UnknownVolume}
use Rattle.view_commands.proofs.Lines.{completes_as, ended_view, leaves_same, printed_open, prints_complete, sound_same, still_completes}
use Rattle.view_commands.proofs.calls.change_view.Goals as goal

pub returns-in_default-clause-content : goal.returns-in_default-clause-content
returns-in_default-clause-content g c =
    let found : c.number_named.result ≡ number_in c.args.config.now c.args.order.now.volume.now = rw (c.deref.ensures.value, c.as_bytes.ensures.value) at c.number_named.ensures.found in
    runs.unknown UnknownVolume (ap (λ (o : Option ℕ). unknown_of o (number_in c.args.config.now c.args.order.now.logger.now)) (sym found ∙ c.in_default.is)) (refl, refl) refl

pub returns-in_default-clause-leaves : goal.returns-in_default-clause-leaves
returns-in_default-clause-leaves g c = record {
  left = λ telling. leaves_same _ _ _ _ _ (g.B.Bay.state c.args.bay.now).told;
  sound = λ telling. sound_same c.args.config.now (g.B.Bay.state c.args.bay.now).told;
}

pub returns-in_default-number_named-clause-content : goal.returns-in_default-number_named-clause-content
returns-in_default-number_named-clause-content g c =
    let found : c.number_named.result ≡ number_in c.args.config.now c.args.order.now.volume.now = rw (c.deref.ensures.value, c.as_bytes.ensures.value) at c.number_named.ensures.found in
    let other : c.number_named-2.result ≡ number_in c.args.config.now c.args.order.now.logger.now = rw (c.deref-2.ensures.value, c.as_bytes-2.ensures.value) at c.number_named-2.ensures.found in
    runs.unknown UnknownLogger
    (ap (λ (o : Option ℕ). unknown_of o (number_in c.args.config.now c.args.order.now.logger.now)) (sym found ∙ c.in-Some.is) ∙ ap (unknown_of (Some c.in-Some.volume)) (sym other ∙ c.in_default-number_named.is)) (refl, refl) refl

pub returns-in_default-number_named-clause-leaves : goal.returns-in_default-number_named-clause-leaves
returns-in_default-number_named-clause-leaves g c = record {
  left = λ telling. leaves_same _ _ _ _ _ (g.B.Bay.state c.args.bay.now).told;
  sound = λ telling. sound_same c.args.config.now (g.B.Bay.state c.args.bay.now).told;
}

pub returns-in_err-view-clause-content : goal.returns-in_err-view-clause-content
returns-in_err-view-clause-content g c =
    let p = err_from_is_err_and c.from_residual.result c.from_residual.ensures.1 in
    let found : c.number_named.result ≡ number_in c.args.config.now c.args.order.now.volume.now = rw (c.deref.ensures.value, c.as_bytes.ensures.value) at c.number_named.ensures.found in
    let other : c.number_named-2.result ≡ number_in c.args.config.now c.args.order.now.logger.now = rw (c.deref-2.ensures.value, c.as_bytes-2.ensures.value) at c.number_named-2.ensures.found in
    let named : AreNamed c.args.config.now c.args.order.now c.in-Some.volume c.in-Some-number_named.logger = record { of_volume = sym found ∙ c.in-Some.is; of_logger = sym other ∙ c.in-Some-number_named.is } in
    rw (p.1, p.2)
    (ended_view g.B.Part.Disk.tells g.B.Part.Disk.state c.args.config.now c.args.order.now c.in-Some.volume c.in-Some-number_named.logger named (g.B.Bay.state c.args.bay.now) (g.B.Bay.state c.change_volume.new.bay) c.in_err-view.field-0.0
    (λ is. c.in_err-view.ensures.no_sink (ap Err is)) _ refl (rw c.change-change.ensures at c.in_err-view.ensures.content) _ _)

pub returns-in_err-view-clause-complete : goal.returns-in_err-view-clause-complete
returns-in_err-view-clause-complete g c =
    let p = err_from_is_err_and c.from_residual.result c.from_residual.ensures.1 in
    rw (p.1, p.2) (λ m. completes_as c.in_err-view.field-0.0 (c.in_err-view.ensures.complete (still_completes _ _ _ _ _ _ m)))

pub returns-clause-content : goal.returns-clause-content
returns-clause-content g c =
    let found : c.number_named.result ≡ number_in c.args.config.now c.args.order.now.volume.now = rw (c.deref.ensures.value, c.as_bytes.ensures.value) at c.number_named.ensures.found in
    let other : c.number_named-2.result ≡ number_in c.args.config.now c.args.order.now.logger.now = rw (c.deref-2.ensures.value, c.as_bytes-2.ensures.value) at c.number_named-2.ensures.found in
    let named : AreNamed c.args.config.now c.args.order.now c.in-Some.volume c.in-Some-number_named.logger = record { of_volume = sym found ∙ c.in-Some.is; of_logger = sym other ∙ c.in-Some-number_named.is } in
    printed_open g.B.Part.Disk.tells g.B.Part.Disk.state c.args.config.now c.args.order.now c.in-Some.volume c.in-Some-number_named.logger named (g.B.Bay.state c.args.bay.now) (g.B.Bay.state c.change_volume.new.bay) c.in_ok-view.view
    _ refl (rw c.change-change.ensures at c.in_ok-view.ensures.content) _ _ _ _ _ c.print_view.ensures.prints c.print_view.ensures.refused c.print_view.ensures.fault

pub returns-clause-complete : goal.returns-clause-complete
returns-clause-complete g c = λ m. prints_complete c.args.config.now c.in-Some.volume c.in_ok-view.view c.print_view.result (g.K.Sink.faults c.args.out.now) (g.K.Sink.faults c.print_view.new.out)
    (g.K.Sink.taken c.args.out.now) (g.K.Sink.taken c.print_view.new.out) c.print_view.ensures.prints m.sink_calm c.print_view.ensures.refused c.print_view.ensures.fault

pub returns-in_default-clause-others : goal.returns-in_default-clause-others
returns-in_default-clause-others g c = λ telling. others_same c.args.config.now (g.B.Bay.state c.args.bay.now).told

pub returns-in_default-number_named-clause-others : goal.returns-in_default-number_named-clause-others
returns-in_default-number_named-clause-others g c = λ telling. others_same c.args.config.now (g.B.Bay.state c.args.bay.now).told
