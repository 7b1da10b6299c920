use Rattle.std.proofs.Common.{◌∙◌, refl, true}
use Rattle.std.proofs.lemmas.Bool.{or_left, or_right}
use Rattle.wol_model.specs.Log.{has_bit}
use Rattle.redirect_map.proofs.marking.record_mask.Goals as goal

pub returns-clause-there : goal.returns-clause-there
returns-clause-there c = c.with_bit.ensures 126 ∙ or_left (has_bit c.with_bit-mask.result 126) _ (c.with_bit-mask.ensures 126 ∙ or_left (has_bit c.with_bit-there.result 126) _ (c.with_bit-there.ensures 126 ∙ or_right (has_bit 0 126) true refl))
