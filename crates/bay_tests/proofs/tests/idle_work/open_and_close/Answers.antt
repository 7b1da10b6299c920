use Rattle.bay_tests.proofs.Idle.{left_either}
use Rattle.bay_tests.proofs.tests.idle_work.open_and_close.Goals as goal

pub returns-clause-leaves : goal.returns-clause-leaves
returns-clause-leaves g c = record { left = left_either (λ s. s.spindles.items) _ _ _ _ _ _ c.with_open.ensures.did c.with_open.ensures.left; sound = c.with_open.ensures.sound }
