use Rattle.volume_tests.proofs.tests.locked.locked.Given as goal

abbrev pub ghost-new : goal.ghost-new
ghost-new g a = g.base
