use Rattle.std.proofs.Common.{◌≡◌, Some, inr, sym, ap, subst, ◌∙◌}
use Rattle.std.proofs.lemmas.Result.{err_from_is_err_and}
use Rattle.std.specs.Option.{option_or}
use Rattle.toml.specs.View.{table_view}
use Rattle.wol_config.specs.Documents.{document_fault, tables_in, tables_fault}
use Rattle.wol_config.specs.Configs.{IsAnswer, volumes_of}
use Rattle.wol_config.specs.Tables.{members_in}
use Rattle.wol_config.proofs.Faults.{power_fault, wake_fault, tables_left, tables_are}
use Rattle.wol_config.proofs.read.config_of.Goals as goal

pub returns-in_err-powers-clause-err : goal.returns-in_err-powers-clause-err
returns-in_err-powers-clause-err c =
    let e = c.in_err-powers.field-0.0 in
    let p = err_from_is_err_and c.from_residual-in_err-powers.result c.from_residual-in_err-powers.ensures.1 in
    rw (p.1, p.2) (inr (power_fault (table_view c.args.document.now) e c.in_ok-segment_blocks.ensures.ok.0 c.in_ok-timeout.ensures.faultless c.in_err-powers.ensures.err))

pub returns-in_err-wake-clause-err : goal.returns-in_err-wake-clause-err
returns-in_err-wake-clause-err c =
    let e = c.in_err-wake.field-0.0 in
    let p = err_from_is_err_and c.from_residual-in_err-wake.result c.from_residual-in_err-wake.ensures.1 in
    rw (p.1, p.2) (inr (wake_fault (table_view c.args.document.now) e c.in_ok-segment_blocks.ensures.ok.0 c.in_ok-timeout.ensures.faultless c.in_ok-powers.ensures.faultless c.in_err-wake.ensures.err))

pub returns-in_err-volumes-clause-err : goal.returns-in_err-volumes-clause-err
returns-in_err-volumes-clause-err c =
    let document = table_view c.args.document.now in
    let left = tables_left document c.in_ok-segment_blocks.ensures.ok.0 c.in_ok-timeout.ensures.faultless c.in_ok-powers.ensures.faultless c.in_ok-wake.ensures.faultless c.in_ok-tables.ensures.faultless in
    let same : document_fault document ≡ tables_fault (members_in c.in_ok-tables.field-0.now) = left ∙ ap tables_fault (tables_are document c.in_ok-tables.field-0.now c.in_ok-tables.ensures.ok) in
    let p = err_from_is_err_and c.from_residual-in_err-volumes.result c.from_residual-in_err-volumes.ensures.1 in
    rw (p.1, p.2) (subst (λ f. IsAnswer f c.in_err-volumes.field-0.0) (sym same) c.in_err-volumes.ensures.err)

pub returns-clause-ok : goal.returns-clause-ok
returns-clause-ok c =
    let document = table_view c.args.document.now in
    let left = tables_left document c.in_ok-segment_blocks.ensures.ok.0 c.in_ok-timeout.ensures.faultless c.in_ok-powers.ensures.faultless c.in_ok-wake.ensures.faultless c.in_ok-tables.ensures.faultless in
    let tables = tables_are document c.in_ok-tables.field-0.now c.in_ok-tables.ensures.ok in
    record {
      faultless = left ∙ ap tables_fault tables ∙ c.in_ok-volumes.ensures.faultless;
      segment_blocks = sym c.in_ok-segment_blocks.ensures.ok.1;
      timeout = c.in_ok-timeout.ensures.ok;
      awake_mw = c.in_ok-powers.ensures.awake_mw;
      standby_mw = c.in_ok-powers.ensures.standby_mw;
      wake_mj = c.in_ok-powers.ensures.wake_mj;
      wake = c.in_ok-wake.ensures.ok;
      volumes = c.in_ok-volumes.ensures.ok ∙ ap volumes_of (sym tables);
    }
