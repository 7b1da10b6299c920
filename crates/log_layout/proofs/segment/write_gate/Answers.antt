use Rattle.std.proofs.Common.{refl}
use Rattle.wol_model.specs.Heads.{gate_block}
use Rattle.log_layout.proofs.segment.write_gate.Goals as goal

pub returns : goal.returns
unfolding gate_block
returns c = refl
