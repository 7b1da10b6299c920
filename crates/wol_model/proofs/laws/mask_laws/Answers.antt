use Rattle.wol_model.proofs.laws.mask_laws.Goals as goal
use Rattle.wol_model.proofs.Live.{full_mask}
use Rattle.wol_model.proofs.Masks.{mask_or, mask_and, mask_without}

pub returns-clause-full : goal.returns-clause-full
returns-clause-full c = full_mask

pub returns-clause-or : goal.returns-clause-or
returns-clause-or c = mask_or

pub returns-clause-and : goal.returns-clause-and
returns-clause-and c = mask_and

pub returns-clause-without : goal.returns-clause-without
returns-clause-without c = mask_without
