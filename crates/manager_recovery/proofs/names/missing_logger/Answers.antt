use Rattle.std.proofs.Common.{◌∙◌, not, false, rules, tests}
use Rattle.std.specs.Prelude.{slice_index_or}
use Rattle.std.proofs.lemmas.Iterator.{YieldsList-from_slice}
use Rattle.std.proofs.lemmas.Iterator.Search.{find_from_yields_List}
use Rattle.manager_recovery.proofs.names.missing_logger.Goals as goal

pub returns : goal.returns
returns c = c.copied.ensures ∙ find_from_yields_List (λ id. not (slice_index_or c.args.present.now id false)) _ _ c.find.result c.find.ensures.ran (YieldsList-from_slice c.args.ids.now cc) (λ x b q k. search (rules, tests))
