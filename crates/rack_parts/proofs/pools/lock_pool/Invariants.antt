use Rattle.rack_parts.proofs.Terms.{base_of}
use Rattle.rack_parts.proofs.pools.lock_pool.Given as goal

abbrev pub ghost-new : goal.ghost-new
ghost-new g a = base_of a.value
