use Rattle.std.proofs.Common.{arith}
use Rattle.live_serving.proofs.Still.{all_still, begun_again, helped_again}
use Rattle.live_serving.specs.Moments.{hands}
use Rattle.live_serving.proofs.clock.tick.Goals as goal

pub returns-clause-ready : goal.returns-clause-ready
returns-clause-ready g c =
    let n = c.begin_moment.new in let m = c.help.new in
    all_still c.args.locks.now c.args.shared.now (hands c.args.spindles.now c.args.keepers.now c.args.helpers.now) c.args.room.now.fault c.requires n.spindles (let a = c.begin_moment.auto.spindles in omega (arith, a)) c.in_ok-awake.ensures.spindles
    n.keepers m.helpers m.help.fault (let a = c.begin_moment.auto.keepers in omega (arith, a)) (let a = c.help.auto.helpers in omega (arith, a))
    (begun_again g.D.Disk.tells _ c.args.keepers.now n.keepers c.in_ok-awake.ensures.begun.1) (helped_again g.D.Disk.tells c.args.helpers.now m.helpers c.help.ensures.helped) c.help.ensures.cause
