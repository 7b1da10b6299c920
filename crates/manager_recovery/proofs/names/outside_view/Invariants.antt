use Rattle.std.proofs.Common.{◌≡◌, drop}
use Rattle.manager_recovery.specs.Refused.{first_outside}
use Rattle.manager_recovery.proofs.names.outside_view.Given as goal

abbrev pub invariant-loop-part : goal.invariant-loop-part
invariant-loop-part g l = first_outside l.ids (drop l.part-index l.owned) ≡ first_outside l.ids l.owned
