use Rattle.wol_model.proofs.laws.array_laws.Goals as goal
use Rattle.wol_model.proofs.Arrays.{after_nothing, after_put, after_versions, blend_before, blend_after}
use Rattle.wol_model.proofs.Overlay.{after_more, after_length}
use Rattle.wol_model.proofs.Within.{after_within}

pub returns-clause-nothing : goal.returns-clause-nothing
returns-clause-nothing c = after_nothing

pub returns-clause-more : goal.returns-clause-more
returns-clause-more c = after_more

pub returns-clause-length : goal.returns-clause-length
returns-clause-length c = after_length

pub returns-clause-put : goal.returns-clause-put
returns-clause-put c = after_put

pub returns-clause-within : goal.returns-clause-within
returns-clause-within c = after_within

pub returns-clause-versions : goal.returns-clause-versions
returns-clause-versions c = after_versions

pub returns-clause-blend_before : goal.returns-clause-blend_before
returns-clause-blend_before c = blend_before

pub returns-clause-blend_after : goal.returns-clause-blend_after
returns-clause-blend_after c = blend_after
