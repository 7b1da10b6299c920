use Rattle.std.proofs.Common.{ltb, rules, ℕ, ◌≤◌, ◌-◌, length, ⊎_elim, get_or, ◌∙◌, sym, arith}
use Rattle.std.proofs.lemmas.Bool.{ltb-true, lt-ltb, false≢true, cases_lt}
use Rattle.std.proofs.lemmas.List.Sorted.{IsPartitionPoint-from_clause, IsPartitionedBy-ltb}
use Rattle.redirect_map.proofs.Masks.{in_order}
use Rattle.redirect_map.proofs.marks.below.Goals as goal

pub returns-clause-low : goal.returns-clause-low
returns-clause-low c = λ k less.
    let parted = IsPartitionedBy-ltb (λ (v : ℕ). v) c.args.versions.now c.args.version (in_order c.args.versions.now c.requires) in
    let point = IsPartitionPoint-from_clause (λ (v : ℕ). ltb v c.args.version) _ _ c.partition_point.ensures.partitioned parted (λ a r q f. search rules) in
    ltb-true (get_or c.args.versions.now k 0) c.args.version (point.0 k 0 (omega arith) less)

pub returns-clause-high : goal.returns-clause-high
returns-clause-high c = λ k from within.
    let parted = IsPartitionedBy-ltb (λ (v : ℕ). v) c.args.versions.now c.args.version (in_order c.args.versions.now c.requires) in
    let point = IsPartitionPoint-from_clause (λ (v : ℕ). ltb v c.args.version) _ _ c.partition_point.ensures.partitioned parted (λ a r q f. search rules) in
    ⊎_elim (λ less. absurd (false≢true (sym (point.1 k 0 (omega arith) (omega arith)) ∙ lt-ltb (get_or c.args.versions.now k 0) c.args.version less))) (λ more. more)
    (cases_lt (get_or c.args.versions.now k 0) c.args.version)

pub returns-then-versions-count-clause-low : goal.returns-then-versions-count-clause-low
returns-then-versions-count-clause-low c = λ k less.
    let last : get_or c.args.versions.now k 0 ≤ get_or c.args.versions.now (length c.args.versions.now - 1) 0 = in_order c.args.versions.now c.requires k (length c.args.versions.now - 1) 0 (omega arith) (omega arith) in
    omega arith
