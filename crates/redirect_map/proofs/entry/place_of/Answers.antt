use Rattle.std.proofs.Common.{◌≡◌, ◌<◌, ℕ, Option, IfSome, find, length, subst}
use Rattle.std.specs.Prelude.{slice_get}
use Rattle.redirect_map.proofs.Search.{some_place}
use Rattle.redirect_map.specs.Kept.{is_version}
use Rattle.redirect_map.proofs.entry.place_of.Goals as goal

pub unwrap-requires : goal.unwrap-requires
unwrap-requires c = some_place c.position_of.result (find (is_version c.args.version) c.args.entries.now.items) c.position_of.ensures.none c.requires.there

facts : (c : goal.After-unwrap) → (c.unwrap.result < length c.args.entries.now.items) × (find (is_version c.args.version) c.args.entries.now.items ≡ slice_get c.args.entries.now.items c.unwrap.result)
facts c = subst (λ (o : Option ℕ). IfSome o (λ k. (k < length c.args.entries.now.items) × (find (is_version c.args.version) c.args.entries.now.items ≡ slice_get c.args.entries.now.items k))) c.unwrap.ensures c.position_of.ensures.found

pub returns-clause-within : goal.returns-clause-within
returns-clause-within c = (facts c).0

pub returns-clause-found : goal.returns-clause-found
returns-clause-found c = (facts c).1
