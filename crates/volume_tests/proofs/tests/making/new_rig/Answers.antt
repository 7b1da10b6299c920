use Rattle.std.proofs.Common.{◌≡◌, Option, None, IfOk, ap, subst, ◌∙◌}
use Rattle.logger.specs.declared.shared.Shared.{Shared}
use Rattle.reclaimer.specs.Records.{FetchedRecord}
use Rattle.volume_tests.specs.Counting.{counting_state}
use Rattle.volume_tests.specs.declared.counting.CountingDisk.{CountingDisk}
use Rattle.volume_tests.proofs.Opened.{opened_ready, opened_rig}
use Rattle.volume_tests.proofs.tests.making.new_rig.Goals as goal

pub new-requires-2-clause-ready : goal.new-requires-2-clause-ready
new-requires-2-clause-ready g c =
    let lane = c.lanes-lanes.ensures in
    opened_ready c.new-home.result c.sleeping-home_lock.result.0 c.spindle_of-logger_lock.result.0 c.pool_of-own_pool_lock.result.0 c.pool_of-pool_lock.result.0
    c.sleeping-home_lock.result.1 c.sleeping-home_lock.result.2 c.spindle_of-logger_lock.result.1 c.pool_of-pool_lock.result.1 c.lanes-lanes.result c.new.result lane.0 c.new-home.ensures.volume
    (ap (λ (d : CountingDisk). (counting_state d).size) c.new-home.ensures.disk ∙ c.home_disk.ensures.size)
    (ap (λ (d : CountingDisk). (counting_state d).values) c.new-home.ensures.disk ∙ c.home_disk.ensures.values)
    c.sleeping-home_lock.ensures c.spindle_of-logger_lock.ensures c.pool_of-pool_lock.ensures lane.1 lane.2 c.new.ensures

pub returns : goal.returns
returns g c =
    let lane = c.lanes-lanes.ensures in
    let empty = subst (λ (r : _). IfOk r (λ (f : Option FetchedRecord). f ≡ None)) c.expect.ensures c.new-3.ensures in
    let own = c.pool_of-own_pool_lock in
    let shared : Shared CountingDisk = record { pools = c.two.result; spindles = c.two-2.result } in
    opened_rig c.new-home.result c.sleeping-home_lock.result.0 c.spindle_of-logger_lock.result.0 own.result.0 c.pool_of-pool_lock.result.0
    c.sleeping-home_lock.result.1 c.sleeping-home_lock.result.2 c.spindle_of-logger_lock.result.1 c.pool_of-pool_lock.result.1 c.lanes-lanes.result c.new.result lane.0 c.new-home.ensures.volume
    (ap (λ (d : CountingDisk). (counting_state d).size) c.new-home.ensures.disk ∙ c.home_disk.ensures.size)
    (ap (λ (d : CountingDisk). (counting_state d).values) c.new-home.ensures.disk ∙ c.home_disk.ensures.values)
    c.sleeping-home_lock.ensures c.spindle_of-logger_lock.ensures c.pool_of-pool_lock.ensures lane.1 lane.2 c.new.ensures shared c.two.ensures c.two-2.ensures own.result.1 own.ensures c.new-2.result c.new-2.ensures.value c.expect.result empty
