use Rattle.seg_pool.specs.Pools.{base_of}
use Rattle.log_tests.proofs.tests.pools.turns_of_a_pass.Given as goal

abbrev pub ghost-new : goal.ghost-new
ghost-new g a = base_of a.value
