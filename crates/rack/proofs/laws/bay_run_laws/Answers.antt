use Rattle.rack.proofs.RunLaws.{quiet_keeps}
use Rattle.rack.proofs.laws.bay_run_laws.Goals as goal

pub returns : goal.returns
returns c = record { quiet = quiet_keeps }
