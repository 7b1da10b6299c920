use Rattle.spin_model.specs.Spindles.{base_of}
use Rattle.volume_tests.proofs.tests.locked.kept_spindle.Given as goal

abbrev pub ghost-new : goal.ghost-new
ghost-new g a = base_of a.value
