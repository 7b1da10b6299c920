use Rattle.whatif.proofs.Hosts.{host_is_spin_down}
use Rattle.whatif.proofs.laws.policy_laws.Goals as goal

pub returns : goal.returns
returns c = host_is_spin_down
