use Rattle.std.proofs.Common.{rules}
use Rattle.std.proofs.lemmas.List.Sorted.{answers_always, IsNonDecreasingBy-from_sort}
use Rattle.manager_recovery.proofs.FirstTwo.{stable_by_version, sorted_by_version}
use Rattle.manager_recovery.proofs.listing.sort_by_version.Goals as goal

pub returns-clause-sorted : goal.returns-clause-sorted
returns-clause-sorted c =
    let keys = answers_always _ _ _ (λ f a r next called. search rules) in
    sorted_by_version _ (IsNonDecreasingBy-from_sort (λ r. r.entry.version) _ (c.in_ok-sort_by_key.ensures.sorted (λ r. r.entry.version) keys))

pub returns-clause-stable : goal.returns-clause-stable
returns-clause-stable c =
    let keys = answers_always _ _ _ (λ f a r next called. search rules) in
    stable_by_version _ _ (c.sort_by_key.ensures.stable (λ r. r.entry.version) keys)
