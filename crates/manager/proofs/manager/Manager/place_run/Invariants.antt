use Rattle.std.proofs.Common.{length}
use Rattle.manager.specs.Groups.{first_blocks}
use Rattle.manager.proofs.Answered.{Asking}
use Rattle.volume_parts.proofs.Placing.{open_in}
use Rattle.manager.proofs.manager.Manager.place_run.Given as goal

abbrev pub invariant-asking : goal.invariant-asking
invariant-asking g l = Asking g.D.Disk.tells g.D.Disk.state l.shared (length (first_blocks l.items l.from)) l.initial.self l.self

abbrev pub decreases-asking : goal.decreases-asking
decreases-asking g l = open_in l.self.rooms.items
