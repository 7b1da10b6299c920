use Rattle.std.proofs.Common.{not, eqb, rules}
use Rattle.std.proofs.lemmas.Fn.{filter_same}
use Rattle.whatif.proofs.store.Segment.leave.Goals as goal

pub returns-clause-records : goal.returns-clause-records
returns-clause-records c = filter_same _ (λ r. not (eqb r c.args.version)) _ (λ x b f' k. search rules) _ _ c.retain.ensures.filtered
