use Rattle.wol_model.specs.Index.{listed_in, left}
use Rattle.whatif.specs.Machine.{give_step, put_step}
use Rattle.whatif.proofs.Rounds.{AreDone}
use Rattle.whatif.proofs.volume.Volume.reclaim.Given as goal

abbrev pub invariant-puts : goal.invariant-puts
invariant-puts l = AreDone put_step l.initial.self l.initial.disks l.self l.disks

abbrev pub decreases-puts : goal.decreases-puts
decreases-puts l = left (listed_in l.self.index.entries)

abbrev pub invariant-gives : goal.invariant-gives
invariant-gives l = AreDone give_step l.initial.self l.initial.disks l.self l.disks

abbrev pub decreases-gives : goal.decreases-gives
decreases-gives l = left (listed_in l.self.index.entries)
