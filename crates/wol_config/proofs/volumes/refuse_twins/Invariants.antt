use Rattle.std.proofs.Common.{◌≡◌, [], take, drop}
use Rattle.wol_config.specs.Documents.{twice_fault}
use Rattle.wol_config.proofs.volumes.refuse_twins.Given as goal

abbrev pub invariant-loop-i : goal.invariant-loop-i
invariant-loop-i l = twice_fault [] l.volumes ≡ twice_fault (take l.i l.volumes) (drop l.i l.volumes)
