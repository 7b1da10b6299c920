use Rattle.std.proofs.Common.{true, false, length, refl, sym, ◌∙◌}
use Rattle.toml.specs.View.{table_view}
use Rattle.wol_config.specs.Keys.{is_between}
use Rattle.wol_config.proofs.Lists.{fault_of_tables}
use Rattle.wol_config.proofs.values.tables.Goals as goal

pub returns-then-not-all_tables-clause-err : goal.returns-then-not-all_tables-clause-err
returns-then-not-all_tables-clause-err c =
    let vs = c.in_ok-tables.tables.now in
    fault_of_tables (table_view c.args.document.now) vs false (is_between 1 64 (length vs)) c.in_ok-tables.ensures.ok (sym c.if-not-all_tables.true ∙ c.all_tables.ensures) refl

pub returns-then-not-is_between-clause-err : goal.returns-then-not-is_between-clause-err
returns-then-not-is_between-clause-err c =
    fault_of_tables (table_view c.args.document.now) c.in_ok-tables.tables.now true false c.in_ok-tables.ensures.ok (sym c.if-not-all_tables.false ∙ c.all_tables.ensures)
    (sym c.if-not-is_between.true ∙ c.is_between.ensures)

pub returns-clause-faultless : goal.returns-clause-faultless
returns-clause-faultless c =
    fault_of_tables (table_view c.args.document.now) c.in_ok-tables.tables.now true true c.in_ok-tables.ensures.ok (sym c.if-not-all_tables.false ∙ c.all_tables.ensures)
    (sym c.if-not-is_between.false ∙ c.is_between.ensures)
