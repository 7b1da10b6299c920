use Rattle.std.proofs.Common.{ap, take, ◌∙◌}
use Rattle.offload_policy.specs.declared.Room.TheVariants.{Unknown}
use Rattle.volume_parts.proofs.Elements.{take-replicate}
use Rattle.manager.proofs.manager.unasked.Goals as goal

pub returns : goal.returns
returns c = c.truncate.ensures.items ∙ (ap (take c.args.lanes) c.from-rooms.ensures.0 ∙ take-replicate Unknown c.args.lanes 16 c.requires)
