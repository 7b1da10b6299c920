use Rattle.spin_model.specs.Spindles.{base_of}
use Rattle.bay_tests.proofs.tests.images.open_alone.Given as goal

abbrev pub ghost-new : goal.ghost-new
ghost-new g a = base_of a.value
