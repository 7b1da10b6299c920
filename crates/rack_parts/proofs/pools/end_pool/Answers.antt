use Rattle.rack_parts.proofs.Basics.{◌∙◌}
use Rattle.rack_parts.proofs.PoolsEmptied.{no_entries, own_and_free, may_empty, ends_into}
use Rattle.rack_parts.proofs.pools.end_pool.Goals as goal

pub close-pool-requires : goal.close-pool-requires
close-pool-requires g c = record { count = c.args.issued.passes.ok.0 ∙ c.requires.ready.count; passes = own_and_free c.args.issued.lock c.args.issued.passes.items c.requires.ready.passes }

pub empty_pool-requires : goal.empty_pool-requires
empty_pool-requires g c =
    let i = c.args.issued in let e = c.close-pool.ensures in
    record { places = may_empty g.D.Disk.state i c.args.image.now c.requires.ready c.close-pool.result e.0 e.1 (no_entries i.lock i.passes.items e.0 c.requires.ready.passes e.2) }

pub returns : goal.returns
returns g c =
    let i = c.args.issued in let e = c.close-pool.ensures in
    ends_into g.D.Disk.state i c.args.image.now c.requires.ready c.close-pool.result e.0 e.1 (no_entries i.lock i.passes.items e.0 c.requires.ready.passes e.2) c.args.image.now c.empty_pool.new.image c.empty_pool.ensures
