use Rattle.spin_model.specs.Spindles.{base_of}
use Rattle.log_tests.proofs.tests.spindles.one_window.Given as goal

abbrev pub ghost-new : goal.ghost-new
ghost-new g a = base_of a.value
