use Rattle.std.proofs.Common.{⊎_elim, ◌<◌, ◌∙◌, ◌%◌, ◌*◌, ◌^◌, length, false, sym, ap, arith}
use Rattle.std.proofs.lemmas.Bool.{cases_lt, false≢true}
use Rattle.std.proofs.lemmas.List.{get_or_past}
use Rattle.std.proofs.Math.Nat.{mod-lt}
use Rattle.wol_model.specs.Log.{has_bit}
use Rattle.redirect_map.specs.declared.going.Sought.{Sought}
use Rattle.redirect_map.specs.Marked.{lane_bit}
use Rattle.redirect_map.proofs.Lanes.{raised}
use Rattle.redirect_map.proofs.marking.lanes_mask.Goals as goal

pub returns-in-Going : goal.returns-in-Going
returns-in-Going c = λ lane on.
    let inside : lane < length c.args.lanes.now = ⊎_elim (λ less. less) (λ more. absurd (false≢true (sym (get_or_past c.args.lanes.now lane false more) ∙ on))) (cases_lt lane (length c.args.lanes.now)) in
    let seen : lane < c.loop-on.on-index = omega (arith, inside, c.loop-on-test.false) in
    ap (λ (s : Sought). has_bit (c.from-low.result * 2 ^ 63 % 2 ^ 128) (lane_bit s lane)) c.in-Going.is
    ∙ raised c.from-low.result (lane % 63) (mod-lt lane (omega arith))
    ∙ (λ i. has_bit (c.from-low.ensures i) (lane % 63))
    ∙ c.loop-on.invariant.seen lane seen on
