use Rattle.std.proofs.Common.{ℕ, ◌≡◌, subst, true}
use Rattle.wol_model.specs.Log.{has_bit}
use Rattle.redirect_map.specs.Marks.{mask_of}
use Rattle.redirect_map.proofs.Marked.{more_with, going_with}
use Rattle.redirect_map.proofs.marking.mark_going.Goals as goal

pub returns-clause-more : goal.returns-clause-more
returns-clause-more c = λ w. more_with (mask_of c.args.marks.now) (mask_of c.set.new.self) c.args.version c.get-old.result c.with_bit-mask.result c.lane_bit.result w c.get-old.ensures c.set.ensures.masks c.with_bit-mask.ensures

pub returns-clause-going : goal.returns-clause-going
returns-clause-going c = λ there. subst (λ (b : ℕ). has_bit (mask_of c.set.new.self c.args.version) b ≡ true) c.lane_bit.ensures.value
    (going_with (mask_of c.args.marks.now) (mask_of c.set.new.self) c.args.version c.get-old.result c.with_bit-mask.result c.lane_bit.result c.set.ensures.masks c.with_bit-mask.ensures there)
