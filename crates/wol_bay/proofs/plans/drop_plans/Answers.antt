use Rattle.std.proofs.Common.{List, map, ap, ◌∙◌, rules}
use Rattle.std.proofs.lemmas.Fn.{filter_same}
use Rattle.std.specs.Prelude.{string_bytes, not}
use Rattle.std.specs.Str.{bytes_eq}
use Rattle.wol_bay.specs.Plans.{planned_of}
use Rattle.wol_bay.specs.declared.plans.Plan.{Plan}
use Rattle.wol_bay.proofs.BayMoves.{planned_filter}
use Rattle.wol_bay.proofs.plans.drop_plans.Goals as goal

pub returns : goal.returns
returns c =
    ap (λ (l : List Plan). map planned_of l) (filter_same _ (λ (p : Plan). not (bytes_eq (string_bytes p.name) c.args.name.now)) _ (λ p b f' r. search rules) _ _ c.retain.ensures.filtered)
    ∙ planned_filter c.args.name.now c.args.plans.now.items
