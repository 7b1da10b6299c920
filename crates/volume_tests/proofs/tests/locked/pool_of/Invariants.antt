use Rattle.seg_pool.specs.Pools.{base_of}
use Rattle.volume_tests.proofs.tests.locked.pool_of.Given as goal

abbrev pub ghost-locked : goal.ghost-locked
ghost-locked g a = base_of a.value
