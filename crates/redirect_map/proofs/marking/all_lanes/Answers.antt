use Rattle.std.proofs.Common.{◌∙◌, ◌%◌, ◌*◌, ◌^◌, ap, arith}
use Rattle.std.proofs.Math.Nat.{mod-lt}
use Rattle.wol_model.specs.Log.{has_bit}
use Rattle.redirect_map.specs.declared.going.Sought.{Sought}
use Rattle.redirect_map.specs.Marked.{lane_bit}
use Rattle.redirect_map.proofs.Lanes.{all_of, raised}
use Rattle.redirect_map.proofs.marking.all_lanes.Goals as goal

pub returns-in-Due : goal.returns-in-Due
returns-in-Due c = λ lane.
    ap (λ (s : Sought). has_bit c.from-low.result (lane_bit s lane)) c.in-Due.is
    ∙ (λ i. has_bit (c.from-low.ensures i) (lane % 63))
    ∙ all_of (lane % 63) (mod-lt lane (omega arith))

pub returns-in-Going : goal.returns-in-Going
returns-in-Going c = λ lane.
    ap (λ (s : Sought). has_bit (c.from-low.result * 2 ^ 63 % 2 ^ 128) (lane_bit s lane)) c.in-Going.is
    ∙ raised c.from-low.result (lane % 63) (mod-lt lane (omega arith))
    ∙ (λ i. has_bit (c.from-low.ensures i) (lane % 63))
    ∙ all_of (lane % 63) (mod-lt lane (omega arith))
