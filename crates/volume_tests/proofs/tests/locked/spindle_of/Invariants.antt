use Rattle.spin_model.specs.Spindles.{base_of}
use Rattle.volume_tests.proofs.tests.locked.spindle_of.Given as goal

abbrev pub ghost-locked : goal.ghost-locked
ghost-locked g a = base_of a.value
