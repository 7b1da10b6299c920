use Rattle.std.proofs.Common.{rules}
use Rattle.std.proofs.lemmas.Fn.{filter_same}
use Rattle.redirect_map.specs.Listing.{is_listed}
use Rattle.redirect_map.proofs.list.drop_dead.Goals as goal

pub returns-clause-items : goal.returns-clause-items
returns-clause-items c = filter_same _ is_listed _ (λ p b f' r. search rules) _ _ c.retain.ensures.filtered
