use Rattle.wol_model.specs.Index.{listed_in, left}
use Rattle.request_turns.proofs.Reclaiming.{Done}
use Rattle.request_turns.proofs.reclaim.reclaim_all.Given as goal

abbrev pub invariant-steps : goal.invariant-steps
invariant-steps g l = Done g.D.Disk.tells g.D.Disk.state l.shared l.initial.tally l.tally l.initial.m l.m

abbrev pub decreases-steps : goal.decreases-steps
decreases-steps g l = left (listed_in l.m.index.entries)
