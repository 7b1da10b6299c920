use Rattle.std.proofs.Common.{rules, sym, ◌∙◌}
use Rattle.manager_recovery.specs.Refused.{first_missing, first_outside}
use Rattle.manager_recovery.proofs.names.names_refusal.Goals as goal

pub returns : goal.returns
returns g c =
    let w = c.in_ok-logger.ensures in (
      search rules,
      (λ i. first_missing (sym c.ids-ids.ensures.value i) (sym c.deref.ensures.value i)) ∙ sym c.missing_logger.ensures ∙ c.in_default.is,
      (w.0, (λ i. first_outside (sym c.ids-ids.ensures.value i) (sym c.deref-2.ensures.value i)) ∙ w.1, w.2, w.3),
    )
