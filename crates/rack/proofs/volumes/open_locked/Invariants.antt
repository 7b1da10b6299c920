use Rattle.rack.proofs.Terms.{base_at_opening}
use Rattle.rack.proofs.volumes.open_locked.Given as goal

abbrev pub ghost-new : goal.ghost-new
ghost-new g a = base_at_opening g.D.Disk.tells g.D.Disk.state g.before a.value
