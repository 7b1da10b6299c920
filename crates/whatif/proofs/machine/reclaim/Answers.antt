-- A volume has its turn to reclaim.
use Rattle.std.proofs.Common.{get_or}
use Rattle.whatif.specs.Machine.{reclaiming}
use Rattle.whatif.proofs.Lists.{got_or}
use Rattle.whatif.proofs.Turning.{stands_turn}
use Rattle.whatif.proofs.machine.reclaim.Goals as goal

pub returns-clause-turn : goal.returns-clause-turn
returns-clause-turn c =
    let v = get_or c.args.volumes.now c.args.number c.index-volumes-number.result in
    stands_turn c.args.volumes.now c.args.disks.now c.reclaim.new.disks c.args.number v c.reclaim.new.self reclaiming (got_or c.args.volumes.now c.args.number c.index-volumes-number.result c.requires.within) c.reclaim.ensures.done
