use Rattle.std.proofs.Common.{List, ap, subst, ◌∙◌}
use Rattle.std.proofs.lemmas.Result.{err_from_is_err_and}
use Rattle.toml.specs.Data.{Members}
use Rattle.wol_config.specs.Documents.{first_fault, volume_keys, volume_in}
use Rattle.wol_config.specs.Configs.{IsAnswer}
use Rattle.wol_config.proofs.Walks.{no_fault_more, fault_at_last, made_more}
use Rattle.wol_config.proofs.volumes.bare_volumes.Goals as goal

pub returns-in_err-volume-clause-err : goal.returns-in_err-volume-clause-err
returns-in_err-volume-clause-err c =
    let e = c.in_err-volume.field-0.0 in
    let told = subst (λ (ms : Members). IsAnswer (first_fault volume_keys ms) e) c.as_members.ensures c.in_err-volume.ensures.err in
    let p = err_from_is_err_and c.from_residual.result c.from_residual.ensures.1 in
    rw (p.1, p.2) (fault_at_last c.args.tables.now c.loop-table.table-index c.table-item.result e c.loop-table-test.true c.table-item.is c.loop-table.invariant.faultless told)

pub loop-table-preserved : goal.loop-table-preserved
loop-table-preserved c = record {
  made =
      c.in_ok-push.ensures.items
      ∙ made_more c.args.tables.now c.loop-table.table-index c.table-item.result c.loop-table.volumes.items c.in_ok-volume.volume c.loop-table-test.true c.table-item.is
      c.loop-table.invariant.made (c.in_ok-volume.ensures.ok ∙ ap volume_in c.as_members.ensures);
  faultless =
      no_fault_more c.args.tables.now c.loop-table.table-index c.table-item.result c.loop-table-test.true c.table-item.is c.loop-table.invariant.faultless
      (rw (← c.as_members.ensures) c.in_ok-volume.ensures.faultless);
}
