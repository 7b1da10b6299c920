use Rattle.std.proofs.Common.{ltb, rules}
use Rattle.std.proofs.lemmas.List.Sorted.{IsPartitionPoint-from_clause, IsPartitionedBy-ltb}
use Rattle.redirect_map.specs.declared.entry.Entry.{Entry}
use Rattle.redirect_map.proofs.Search.{rising_order}
use Rattle.redirect_map.proofs.entry.below.Goals as goal

pub returns-clause-parted : goal.returns-clause-parted
returns-clause-parted c =
    let parted = IsPartitionedBy-ltb (λ (e : Entry). e.record.version) _ c.args.version (rising_order c.args.entries.now.items c.requires) in
    IsPartitionPoint-from_clause (λ (e : Entry). ltb e.record.version c.args.version) _ _ c.partition_point.ensures.partitioned parted (λ a r q k. search rules)
