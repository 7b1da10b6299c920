use Rattle.std.proofs.Common.{true, false, length, refl, sym, ◌∙◌}
use Rattle.toml.specs.View.{table_view}
use Rattle.wol_config.specs.Keys.{is_between}
use Rattle.wol_config.proofs.Lists.{fault_of_texts}
use Rattle.wol_config.proofs.values.texts.Goals as goal

pub returns-then-not-all_texts-clause-err : goal.returns-then-not-all_texts-clause-err
returns-then-not-all_texts-clause-err c =
    let vs = c.in_ok-texts.texts.now in
    fault_of_texts (table_view c.args.table.now) vs false (is_between 0 16 (length vs)) c.in_ok-texts.ensures.ok (sym c.if-not-all_texts.true ∙ c.all_texts.ensures) refl

pub returns-then-not-is_between-clause-err : goal.returns-then-not-is_between-clause-err
returns-then-not-is_between-clause-err c =
    fault_of_texts (table_view c.args.table.now) c.in_ok-texts.texts.now true false c.in_ok-texts.ensures.ok (sym c.if-not-all_texts.false ∙ c.all_texts.ensures)
    (sym c.if-not-is_between.true ∙ c.is_between.ensures)

pub returns-clause-faultless : goal.returns-clause-faultless
returns-clause-faultless c =
    fault_of_texts (table_view c.args.table.now) c.in_ok-texts.texts.now true true c.in_ok-texts.ensures.ok (sym c.if-not-all_texts.false ∙ c.all_texts.ensures)
    (sym c.if-not-is_between.false ∙ c.is_between.ensures)
