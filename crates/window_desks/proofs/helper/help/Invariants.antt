use Rattle.window_desks.specs.Helped.{HaveHelped}
use Rattle.window_desks.proofs.helper.help.Given as goal

abbrev pub invariant-loop : goal.invariant-loop
invariant-loop g l = HaveHelped g.D.Disk.tells l.initial.help l.help l.initial.helpers l.helpers
